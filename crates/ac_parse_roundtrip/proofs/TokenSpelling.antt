-- The tokens of a text are spelled as their kinds say.
use Rattle.std.specs.Prelude.{ℕ, List}
use Rattle.ac_lex.specs.declared.tokens.TokenKind.{TokenKind}
use Rattle.ac_lex.specs.Lexemes.{Lexeme}
use Rattle.ac_lex.specs.TextPieces.{Piece, IsPiece, IsToken, a_word, a_number, a_decimal, a_mark}
use Rattle.ac_lex.specs.Tokens.{Sequence, the_end, next, PieceStep, passes, gives, FileStep, piece_step, skipped, affine_pragma}
use Rattle.ac_parse_exprs.proofs.Absent.{each_append}
use Rattle.ac_parse_roundtrip.specs.TokenSpelling.{IsSpelledAs, IsSpelled, AreSpelled}
use Rattle.ac_parse_roundtrip.specs.ProgramNames.{TokensAreSpelled}

piece_spelled : {kind : TokenKind} {piece : Piece} {text : List ℕ} → IsToken kind piece text → IsPiece piece text → IsSpelledAs kind text
piece_spelled (a_word short) is = record { is = is; short = short }
piece_spelled (a_number number) is = number
piece_spelled (a_decimal decimal short) is = (decimal, short)
piece_spelled a_mark is = is

-- what each step gives is spelled
module _ (Step : List ℕ → List ℕ → List ℕ → List Lexeme → Type 0)
    (step_spelled : (before text rest : List ℕ) (tokens : List Lexeme) → Step before text rest tokens → AreSpelled tokens) where
  all_spelled : {before bytes : List ℕ} {tokens : List Lexeme} → Sequence Step before bytes tokens → AreSpelled tokens
  all_spelled the_end = tt
  all_spelled (next {before} {text} {rest} {tokens} {more} step steps) = each_append IsSpelled tokens more (step_spelled before text rest tokens step) (all_spelled steps)

piece_step_spelled : (before text rest : List ℕ) (tokens : List Lexeme) → PieceStep before text rest tokens → AreSpelled tokens
piece_step_spelled before text rest _ (passes is over) = tt
piece_step_spelled before text rest _ (gives is token) = (piece_spelled token is.is, tt)

file_step_spelled : (before text rest : List ℕ) (tokens : List Lexeme) → FileStep before text rest tokens → AreSpelled tokens
file_step_spelled before text rest tokens (piece_step step) = piece_step_spelled before text rest tokens step
file_step_spelled before text rest _ (skipped is blank) = tt
file_step_spelled before text rest _ (affine_pragma {inner = inner} is pragma line) = (tt, each_append IsSpelled inner _ (all_spelled PieceStep piece_step_spelled line) (tt, tt))

pub tokens_spelled : TokensAreSpelled
tokens_spelled bytes tokens is = all_spelled FileStep file_step_spelled is
