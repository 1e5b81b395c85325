use Rattle.std.proofs.Common.{◌≡◌, drop}
use Rattle.ac_unfold_plans.specs.ArgumentOrders.{order_of}
use Rattle.ac_walk_state.proofs.partial.choice_at.Given as goal

abbrev pub invariant-loop-choice : goal.invariant-loop-choice
invariant-loop-choice l = order_of l.order (l.site.left, l.site.right) ≡ order_of (drop l.choice-index l.order) (l.site.left, l.site.right)
