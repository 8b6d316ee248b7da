use Rattle.std.proofs.Common.{rules}
use Rattle.mj_record.proofs.Readings.{again_read, entry_read, form_read, none_read}
use Rattle.mj_record.proofs.entry.read_entry.Goals as goal

pub returns-clause-form : goal.returns-clause-form
returns-clause-form c = form_read c.args.bytes.now c.read_whole.result (λ i. search (rules, c.type_inv.bytes)) c.read_whole.ensures

pub returns-clause-entry : goal.returns-clause-entry
returns-clause-entry c = entry_read c.args.bytes.now c.read_whole.result (λ i. search (rules, c.type_inv.bytes)) c.read_whole.ensures

pub returns-clause-bad : goal.returns-clause-bad
returns-clause-bad c = none_read c.args.bytes.now c.read_whole.result c.read_whole.ensures

pub returns-clause-again : goal.returns-clause-again
returns-clause-again c = again_read c.args.bytes.now c.read_whole.result c.read_whole.ensures
