use Rattle.std.proofs.Common.{take}
use Rattle.ac_walk_state.specs.PartialOrders.{HasSite}
use Rattle.ac_walk_state.proofs.partial.is_chosen.Given as goal

abbrev pub invariant-loop-choice : goal.invariant-loop-choice
invariant-loop-choice l = ¬ (HasSite (take l.choice-index l.choices) l.site)
