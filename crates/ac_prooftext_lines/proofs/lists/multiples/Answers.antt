use Rattle.std.specs.Fmt.{signed_decimal}
use Rattle.ac_forms.specs.Fits.{Fits}
use Rattle.ac_prooftext_lines.specs.Spellable.{IsIndexed, AreIndices}
use Rattle.ac_prooftext_lines.specs.Spelling.{pair_word, dotted_word}
use Rattle.ac_prooftext_lines.proofs.Mapped.{stops}
use Rattle.ac_prooftext_lines.proofs.lists.multiples.Goals as goal

pub returns-in_default-indexed : goal.returns-in_default-indexed
returns-in_default-indexed c = stops IsIndexed pair_word c.args.words.now c.loop-word.words c.next.new.self c.in-Some.word.now c.loop-word.pairs c.loop-word.invariant c.in-Some.ensures c.in_default-indexed.ensures
