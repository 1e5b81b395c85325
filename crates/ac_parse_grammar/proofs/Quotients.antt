-- The rest of a quotient, behind its word, is exact.
use Rattle.std.specs.Prelude.{false}
use Rattle.std.proofs.Common.{◌≡◌, List, [], ◌∷◌, ◌++◌, refl, ap}
use Rattle.ac_lex.specs.Lexemes.{Lexeme}
use Rattle.ac_parse_grammar.specs.declared.terminal.Terminal.TheVariants as t
use Rattle.ac_parse_grammar.specs.declared.tree.Expr.{Expr}
use Rattle.ac_parse_grammar.specs.Chains.{quotient_of}
use Rattle.ac_parse_grammar.specs.ReaderCombinators.{Got, found, stopped, Reader, and_then, ◌>>=◌, ◌>>◌, pure, peek, is, expect, ending}
use Rattle.ac_parse_grammar.specs.Found.{Rel}
use Rattle.ac_parse_grammar.specs.Expressions.{opens, expr_of, divided}
use Rattle.ac_parse_grammar.proofs.Exact.{Exact, Some_of, nowhere, both, then_exact}
use Rattle.ac_parse_grammar.proofs.Parts.{is_true, IsPure, nothing, ending_exact}
use Rattle.ac_parse_grammar.proofs.StatementPieces.{IsMarked, marked, marked_begun, expected_exact, anywhere}
use Rattle.ac_parse_grammar.proofs.Relations.{IsExprOf, IsDivisor, IsDivision}
use Rattle.ac_parse_grammar.proofs.Productions.{Inner, on_unary, on_expr, a_comma, a_number, a_close, some_expr, expr_exact}

-- ---- the readers of its parts, and the one that they make

abbrev pub close_reader : Lexeme → Expr → Lexeme → Reader Expr
close_reader word a divisor = expect t.Close >>= (λ _. ending opens (quotient_of word a divisor))

abbrev pub number_reader : Lexeme → Expr → Reader Expr
number_reader word a = expect t.Number >>= close_reader word a

abbrev pub divisor_reader : Lexeme → Expr → Reader Expr
divisor_reader word a = expect t.Comma >>= (λ _. number_reader word a)

abbrev pub division_reader : Lexeme → Reader Expr → Reader Expr
division_reader word u = expr_of u >>= divisor_reader word

-- the reader that ends with the closing token and looks behind it
abbrev ended : Got Expr → Got Expr
ended r = and_then (and_then r (λ e. expect t.Close >> pure e)) (ending opens)

pub division_is : (word : Lexeme) (u : Reader Expr) (ts : List Lexeme) → ended (divided word u ts) ≡ division_reader word u ts
unfolding divided
division_is word u ts = by_expr (expr_of u ts)
  where
    by_close : (e : Expr) (r : Got Lexeme) → and_then (and_then r (λ _. pure e)) (ending opens) ≡ and_then r (λ _. ending opens e)
    by_close e (found c us) = refl
    by_close e (stopped w us) = refl

    by_number : (a : Expr) (r : Got Lexeme) → ended (and_then r (λ divisor. pure (quotient_of word a divisor))) ≡ and_then r (close_reader word a)
    by_number a (found n us) = by_close (quotient_of word a n) (expect t.Close us)
    by_number a (stopped w us) = refl

    by_comma : (a : Expr) (r : Got Lexeme) → ended (and_then r (λ _. expect t.Number >>= (λ divisor. pure (quotient_of word a divisor)))) ≡ and_then r (λ _. number_reader word a)
    by_comma a (found c us) = by_number a (expect t.Number us)
    by_comma a (stopped w us) = refl

    by_expr : (r : Got Expr) → ended (and_then r (λ a. expect t.Comma >> (expect t.Number >>= (λ divisor. pure (quotient_of word a divisor))))) ≡ and_then r (divisor_reader word)
    by_expr (found a us) = by_comma a (expect t.Comma us)
    by_expr (stopped w us) = refl

-- ---- they are exact

abbrev IsEnd : Lexeme → Expr → Lexeme → Rel Expr
IsEnd word a divisor = IsMarked t.Close (λ _. IsPure (quotient_of word a divisor))

abbrev IsNumberAndEnd : Lexeme → Expr → Rel Expr
IsNumberAndEnd word a = IsMarked t.Number (IsEnd word a)

some_end : (word : Lexeme) (a : Expr) (divisor : Lexeme) → Some_of (IsEnd word a divisor)
some_end word a divisor = (a_close.0 ∷ [], quotient_of word a divisor, marked a_close.1 nothing)

some_number : (word : Lexeme) (a : Expr) → Some_of (IsNumberAndEnd word a)
some_number word a = let s = some_end word a a_number.0 in (a_number.0 ∷ s.0, s.1, marked a_number.1 s.2)

pub some_divisor : (word : Lexeme) (a : Expr) → Some_of (IsDivisor word a)
some_divisor word a = let s = some_number word a in (a_comma.0 ∷ s.0, s.1, marked a_comma.1 s.2)

end_exact : (word : Lexeme) (a : Expr) (divisor : Lexeme) → Exact (close_reader word a divisor) (IsEnd word a divisor) (IsEnd word a divisor) nowhere on_unary
unfolding is
end_exact word a divisor = expected_exact t.Close (λ _. ending opens (quotient_of word a divisor)) (λ _. IsPure (quotient_of word a divisor)) (λ _. IsPure (quotient_of word a divisor)) on_unary refl
    (λ _. ending_exact (quotient_of word a divisor) nowhere opens) (λ _. ([], quotient_of word a divisor, nothing)) (λ _. ([], quotient_of word a divisor, nothing))

number_exact : (word : Lexeme) (a : Expr) → Exact (number_reader word a) (IsNumberAndEnd word a) (IsNumberAndEnd word a) nowhere on_unary
unfolding is
number_exact word a = expected_exact t.Number (close_reader word a) (IsEnd word a) (IsEnd word a) on_unary refl (end_exact word a) (some_end word a) (some_end word a)

divisor_exact : (word : Lexeme) (a : Expr) → Exact (divisor_reader word a) (IsDivisor word a) (IsDivisor word a) nowhere on_unary
unfolding is
divisor_exact word a = expected_exact t.Comma (λ _. number_reader word a) (λ _. IsNumberAndEnd word a) (λ _. IsNumberAndEnd word a) on_unary refl
    (λ _. number_exact word a) (λ _. some_number word a) (λ _. some_number word a)

divisor_apart : (word : Lexeme) (a : Expr) (ts left : List Lexeme) (b : Expr) → IsDivisor word a ts b → on_expr (peek (ts ++ left)) ≡ false
divisor_apart word a ts left b r = ap on_expr (is_true t.Comma _ (marked_begun t.Comma (λ _. IsNumberAndEnd word a) ts left b r))

pub some_division : (word : Lexeme) (V : Rel Expr) → Some_of V → (t : Lexeme) → Some_of (IsDivision word V t)
some_division word V some t = let e = some_expr V some in let d = some_divisor word e.1 in (e.0 ++ d.0, d.1, both e.2 d.2)

module _ (u : Reader Expr) (U V : Rel Expr) (inner : Inner u U V) where
  pub division_exact : (word open_at : Lexeme) → Exact (division_reader word u) (IsDivision word U open_at) (IsDivision word V open_at) nowhere on_unary
  division_exact word open_at = then_exact (expr_of u) (divisor_reader word) (IsExprOf U) (IsExprOf V) (IsDivisor word) (IsDivisor word) nowhere (λ _. on_expr) on_unary
      (expr_exact u U V inner) (λ a. anywhere on_expr (divisor_exact word a)) (some_divisor word) (some_divisor word) (λ a ts left b r end. divisor_apart word a ts left b r)
