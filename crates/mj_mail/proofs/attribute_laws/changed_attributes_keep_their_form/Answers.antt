use Rattle.mj_mail.proofs.AttributeLists.{with_form, without_form}
use Rattle.mj_mail.proofs.attribute_laws.changed_attributes_keep_their_form.Goals as goal

pub returns-clause-set : goal.returns-clause-set
returns-clause-set c = with_form

pub returns-clause-removed : goal.returns-clause-removed
returns-clause-removed c = without_form
