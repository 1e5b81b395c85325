use Rattle.std.proofs.Common.{◌≡◌, map, take}
use Rattle.ac_flow.specs.KillAcceptance.{behind}
use Rattle.ac_unfold.proofs.killing.moved_choices.Given as goal

abbrev pub invariant-loop-choice : goal.invariant-loop-choice
invariant-loop-choice l = l.moved ≡ map (behind l.own l.path) (take l.choice-index l.choices)
