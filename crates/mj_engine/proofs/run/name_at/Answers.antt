use Rattle.std.proofs.Common.{length, refl, sym, subst, ◌∙◌}
use Rattle.std.proofs.lemmas.Option.{slice_get_read}
use Rattle.std.specs.Str.{IsUtf8}
use Rattle.mj_engine.proofs.Fronts.{text_at}
use Rattle.mj_engine.proofs.run.name_at.Goals as goal

pub unreachable-requires : goal.unreachable-requires
unreachable-requires c =
    let text = text_at c.args.names.now c.args.k c.index-names-k.result c.requires.utf8 c.requires.within in
    c.in-Err.ensures.cases.0 (subst IsUtf8 (sym (c.as_slice.ensures ∙ c.index-names-k.is)) text)

pub returns : goal.returns
returns c =
    rw (c.in-Ok.ensures.cases.0, c.as_slice.ensures)
    (slice_get_read c.args.names.now (length c.args.names.now) c.args.k c.index-names-k.result refl c.requires.within c.index-names-k.is)
