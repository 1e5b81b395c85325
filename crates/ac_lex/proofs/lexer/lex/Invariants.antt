use Rattle.std.proofs.Common.{◌≤◌, length}
use Rattle.ac_lex.specs.Lexemes.{lexemes}
use Rattle.ac_lex.proofs.FileLemmas.{FileSoFar}
use Rattle.ac_lex.proofs.lexer.lex.Given as goal

abbrev pub invariant-loop-rest : goal.invariant-loop-rest
invariant-loop-rest l = FileSoFar l.bytes l.rest l.line_start (lexemes l.tokens) × (length l.rest ≤ length l.bytes)

abbrev pub decreases-loop-rest : goal.decreases-loop-rest
decreases-loop-rest l = length l.rest
