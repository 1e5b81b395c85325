use Rattle.std.proofs.Common.{◌≤◌, length}
use Rattle.ac_lex.specs.Lexemes.{lexemes}
use Rattle.ac_lex.proofs.ReadLemmas.{LineSoFar}
use Rattle.ac_lex.proofs.lexer.read_line.Given as goal

abbrev pub invariant-loop-rest : goal.invariant-loop-rest
invariant-loop-rest l = LineSoFar l.at l.line l.rest (lexemes l.fn.tokens) (lexemes l.tokens) × (length l.rest ≤ length l.line)

abbrev pub decreases-loop-rest : goal.decreases-loop-rest
decreases-loop-rest l = length l.rest
