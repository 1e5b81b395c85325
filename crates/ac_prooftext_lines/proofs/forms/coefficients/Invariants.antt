use Rattle.std.proofs.Common.{length}
use Rattle.ac_prooftext_lines.proofs.Terms.{IsHalfRead}
use Rattle.ac_prooftext_lines.proofs.forms.coefficients.Given as goal

abbrev pub invariant-loop-word : goal.invariant-loop-word
invariant-loop-word l = IsHalfRead l.fn.words l.words l.coefs.items

abbrev pub decreases-loop-word : goal.decreases-loop-word
decreases-loop-word l = length l.words
