use Rattle.ac_walk_state.specs.PartialOrders.{AreChoices}
use Rattle.ac_walk_state.proofs.partial.listed.Given as goal

abbrev pub invariant-loop-choice : goal.invariant-loop-choice
invariant-loop-choice l = AreChoices l.order l.sites l.choices.items
