use Rattle.std.proofs.Common.{◌≡◌, ◌+◌, drop}
use Rattle.ac_lex.specs.LexerModel.{run_len}
use Rattle.ac_lex.proofs.numerals.run_len.Given as goal

abbrev pub invariant-loop-n : goal.invariant-loop-n
invariant-loop-n l = run_len l.first l.bytes ≡ l.n + run_len l.before (drop l.n l.bytes)
