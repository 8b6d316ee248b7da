use Rattle.std.proofs.Common.{◌≡◌, ◌+◌, ◌-◌, ◌*◌, drop}
use Rattle.toml.specs.View.{items_view}
use Rattle.mj_config_walk.specs.Matchers.{matchers_at}
use Rattle.mj_config_walk.proofs.Children.{followed}
use Rattle.mj_config_matchers.proofs.matchers.+matchers.Given as goal

abbrev pub invariant-matchers_at-loop-child : goal.invariant-matchers_at-loop-child
invariant-matchers_at-loop-child l = followed l.matchers (matchers_at l.depth l.count (items_view (drop l.child-index l.children))) ≡ matchers_at l.depth l.fn.count (items_view l.children)

-- at most 16 composites stand inside each other, and the calls for each go down
abbrev pub decreases-matchers_at : goal.decreases-matchers_at
decreases-matchers_at l = 6 * (17 - l.depth) + 5

abbrev pub decreases-matcher_at : goal.decreases-matcher_at
decreases-matcher_at l = 6 * (17 - l.depth) + 4

abbrev pub decreases-composite_at : goal.decreases-composite_at
decreases-composite_at l = 6 * (17 - l.depth) + 3

abbrev pub decreases-composite_of : goal.decreases-composite_of
decreases-composite_of l = 6 * (17 - l.depth) + 2

abbrev pub decreases-composite_of_array : goal.decreases-composite_of_array
decreases-composite_of_array l = 6 * (17 - l.depth) + 1

abbrev pub decreases-composed : goal.decreases-composed
decreases-composed l = 6 * (17 - l.depth)
