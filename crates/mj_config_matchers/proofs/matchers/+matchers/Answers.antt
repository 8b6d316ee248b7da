use Rattle.std.proofs.Common.{◌≡◌, List, subst, sym, ap, ◌∙◌}
use Rattle.toml.specs.Data.{Data, array, member, no_members}
use Rattle.toml.specs.View.{items_view, view}
use Rattle.toml.specs.declared.value.Value.{Value}
use Rattle.toml.proofs.Views.{view-Array}
use Rattle.mj_config_walk.specs.Values.{Gives}
use Rattle.mj_config_walk.specs.Matchers.{composite_at}
use Rattle.mj_config_matchers.proofs.matchers.+matchers.Goals as goal

pub composite_of-returns-in-Array : goal.composite_of-returns-in-Array
composite_of-returns-in-Array t c =
    let is_array : view c.args.value.now ≡ array (items_view c.as_slice.result.now) =
    ap view c.in-Array.is ∙ view-Array c.in-Array.children ∙ ap (λ (xs : List Value). array (items_view xs)) (sym c.as_slice.ensures.value)
    in
    subst (λ (d : Data). Gives c.composite_of_array.result (composite_at c.args.depth c.args.count (member c.args.name.now d no_members))) (sym is_array) c.composite_of_array.ensures
