use Rattle.std.proofs.Common.{length}
use Rattle.std.specs.Fmt.{signed_decimal}
use Rattle.ac_forms.specs.Fits.{Fits}
use Rattle.ac_prooftext_lines.specs.Spellable.{IsIndexed, AreIndices}
use Rattle.ac_prooftext_lines.specs.Spelling.{pair_word, dotted_word}
use Rattle.ac_prooftext_lines.proofs.Mapped.{IsMapped}
use Rattle.ac_prooftext_lines.proofs.lists.multiples.Given as goal

abbrev pub invariant-loop-word : goal.invariant-loop-word
invariant-loop-word l = IsMapped IsIndexed pair_word l.fn.words l.words l.pairs

abbrev pub decreases-loop-word : goal.decreases-loop-word
decreases-loop-word l = length l.words
