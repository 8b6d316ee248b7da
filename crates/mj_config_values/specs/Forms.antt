-- The forms that texts have.
use Rattle.std.specs.Prelude.{ℕ, Bool, List}
use Rattle.mj_head.specs.Head.{is_field_name}
use Rattle.mj_plan.specs.Forms.{is_attribute_name, is_attribute_value, is_line, is_processor_name, is_reply_code, is_repository}
use Rattle.mj_config_walk.specs.Values.{is_filled}
use Rattle.mj_config_values.specs.declared.forms.TextForm.{TextForm}
use Rattle.mj_config_values.specs.declared.forms.TextForm.TheVariants.{Filled, Line, ProcessorName, Repository, AttributeName, AttributeValue, FieldName, ReplyCode}

abbrev pub has_form : TextForm → List ℕ → Bool
has_form Filled s = is_filled s
has_form Line s = is_line s
has_form ProcessorName s = is_processor_name s
has_form Repository s = is_repository s
has_form AttributeName s = is_attribute_name s
has_form AttributeValue s = is_attribute_value s
has_form FieldName s = is_field_name s
has_form ReplyCode s = is_reply_code s
