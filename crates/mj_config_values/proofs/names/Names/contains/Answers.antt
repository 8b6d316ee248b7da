use Rattle.std.proofs.Common.{◌∙◌, ap}
use Rattle.std.specs.List.{list_any}
use Rattle.std.specs.Str.{bytes_eq}
use Rattle.mj_config_walk.proofs.Added.{list_any-map}
use Rattle.mj_config_values.proofs.names.Names.contains.Goals as goal

pub returns : goal.returns
returns c =
    let is = bytes_eq c.args.name.now in
    c.contains.ensures ∙ list_any-map is (λ name. name.items) _ ∙ ap (list_any is) c.self.view_is
