use Rattle.std.proofs.Common.{◌≡◌, Some}
use Rattle.toml.specs.View.{table_view}
use Rattle.mj_config_walk.specs.Walk.{document}
use Rattle.mj_config_walk.proofs.Documents.{document_read}
use Rattle.mj_config.proofs.plan.read_text.Goals as goal

pub returns-in-Ok : goal.returns-in-Ok
returns-in-Ok c =
    let read : document c.args.bytes.now ≡ Some (table_view c.in-Ok.table) = document_read c.args.bytes.now (table_view c.in-Ok.table) c.in-Ok.ensures.ok.0 c.in-Ok.ensures.ok.1 in
    rw read c.read_document.ensures
