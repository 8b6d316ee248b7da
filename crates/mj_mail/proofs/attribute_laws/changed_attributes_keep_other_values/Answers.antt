use Rattle.mj_mail.proofs.AttributeLists.{value_set, other_value_set, value_removed, other_value_removed}
use Rattle.mj_mail.proofs.attribute_laws.changed_attributes_keep_other_values.Goals as goal

pub returns-clause-set : goal.returns-clause-set
returns-clause-set c = value_set

pub returns-clause-set_others : goal.returns-clause-set_others
returns-clause-set_others c = other_value_set

pub returns-clause-removed : goal.returns-clause-removed
returns-clause-removed c = value_removed

pub returns-clause-removed_others : goal.returns-clause-removed_others
returns-clause-removed_others c = other_value_removed
