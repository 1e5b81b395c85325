-- The law on the branches of paths of one pair of positions.
use Rattle.std.specs.Prelude.{◌≡◌, List, map, Some}
use Rattle.ac_syntax.specs.declared.tree.Order.{Order}
use Rattle.ac_claims_paths.specs.PathSteps.{Pairing, branches}
use Rattle.ac_claims_paths.specs.declared.path.Path.{Path}
use Rattle.ac_unfold_plans.specs.PlanStops.{positions_at}

-- the branches of a step on two paths of one pair of positions are of the same pairs, one by one
abbrev pub BranchesAreAlike : Type 0
BranchesAreAlike =
    (g : Pairing) (order : Order) (h k : Path) (hs ks : List Path) → positions_at h ≡ positions_at k → branches g order h ≡ Some hs → branches g order k ≡ Some ks → map positions_at hs ≡ map positions_at ks
