use Rattle.std.proofs.Common.{◌≡◌, drop}
use Rattle.ac_lex.specs.LexerModel.{close_end, plus}
use Rattle.ac_lex.proofs.front.close_end.Given as goal

abbrev pub invariant-loop-n : goal.invariant-loop-n
invariant-loop-n l = close_end 0 l.bytes ≡ plus l.n (close_end l.before (drop l.n l.bytes))
