use Rattle.ac_match.proofs.Looks.{LookHalfway}
use Rattle.ac_match.proofs.look.look_at.Given as goal

abbrev pub invariant-loop-choice : goal.invariant-loop-choice
invariant-loop-choice l = LookHalfway l.partial l.assigned l.choice-index
