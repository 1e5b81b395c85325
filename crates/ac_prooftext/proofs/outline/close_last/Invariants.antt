use Rattle.std.proofs.Common.{◌≡◌, reverse, vec_len}
use Rattle.ac_prooftext.specs.LineOrder.{closed}
use Rattle.ac_prooftext.proofs.outline.close_last.Given as goal

abbrev pub invariant-loop-left : goal.invariant-loop-left
invariant-loop-left l = closed (reverse l.left.items) ≡ closed (reverse l.fn.left.items)

abbrev pub decreases-loop-left : goal.decreases-loop-left
decreases-loop-left l = vec_len l.left
