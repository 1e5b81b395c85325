use Rattle.std.proofs.Common.{◌≡◌, ◌++◌, take}
use Rattle.ac_syntax.specs.Text.{words_text}
use Rattle.ac_syntax.proofs.print.lines.push_words.Given as goal

abbrev pub invariant-loop-word : goal.invariant-loop-word
invariant-loop-word l = l.bytes.items ≡ l.fn.bytes.items ++ words_text (take l.word-index l.words)
