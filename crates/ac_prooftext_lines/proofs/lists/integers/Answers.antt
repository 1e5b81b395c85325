use Rattle.std.specs.Fmt.{signed_decimal}
use Rattle.ac_forms.specs.Fits.{Fits}
use Rattle.ac_prooftext_lines.specs.Spellable.{IsIndexed, AreIndices}
use Rattle.ac_prooftext_lines.specs.Spelling.{pair_word, dotted_word}
use Rattle.ac_prooftext_lines.proofs.Mapped.{stops}
use Rattle.ac_prooftext_lines.proofs.lists.integers.Goals as goal

pub returns-in_default-integer : goal.returns-in_default-integer
returns-in_default-integer c = stops Fits signed_decimal c.args.words.now c.loop-word.words c.next.new.self c.in-Some.word.now c.loop-word.numbers c.loop-word.invariant c.in-Some.ensures c.in_default-integer.ensures
