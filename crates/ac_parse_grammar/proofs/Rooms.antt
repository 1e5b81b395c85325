-- A recursion on a count of turns beside a loop that counts up, and the room inside.
use Rattle.std.specs.Prelude.{Option, Some, None, List}
use Rattle.std.proofs.Common.{◌≡◌, ℕ, zero, suc, ◌+◌, ◌-◌, ◌<◌, length, refl, ap, arith}
use Rattle.ac_lex.specs.Lexemes.{Lexeme}
use Rattle.ac_parse_grammar.specs.declared.terminal.Terminal.{Terminal}
use Rattle.ac_parse_grammar.specs.declared.tree.Expr.{Expr}
use Rattle.ac_parse_grammar.specs.declared.tree.Expr.TheVariants.{Negative}
use Rattle.ac_parse_grammar.specs.TokenWords.{place_of}
use Rattle.ac_parse_grammar.specs.ReaderCombinators.{Reader, pure, stopped, nesting, and_then, ◌>>◌, expect, front, rest, peek, found, operator, operator_at, turn, repeat_from, repeat}
use Rattle.ac_parse_grammar.specs.Expressions.{below, unary, within, negated, term_of, sum, terms, product, factors}
use Rattle.ac_parse_grammar.specs.Operators.{sign_of, star_of}
use Rattle.ac_parse_grammar.specs.Chains.{start, link, chain}

pub turns : (n at : ℕ) → at < n → n - at ≡ suc (n - (at + 1))
turns n at below = omega arith

-- inside a construct one less may open
pub below_some : (n : ℕ) → 0 < n → below n ≡ Some (unary (n - 1))
unfolding below unary
below_some n some = let e : n ≡ suc (n - 1) = omega arith in ap below e

pub within_none : {X A : Type 0} (b : Option X) (inside : X → Reader A) (close : Terminal) (ts : List Lexeme) → b ≡ None → within b inside close ts ≡ stopped nesting ts
unfolding within
within_none b inside close ts e = ap (λ b. within b inside close ts) e

pub within_some : {X A : Type 0} (b : Option X) (u : X) (inside : X → Reader A) (close : Terminal) (ts : List Lexeme) → b ≡ Some u
    → within b inside close ts ≡ and_then (inside u (rest ts)) (λ a. expect close >> pure a)
unfolding within
within_some b u inside close ts e = ap (λ b. within b inside close ts) e

pub negated_none : (b : Option (Reader Expr)) (ts : List Lexeme) → b ≡ None → negated b ts ≡ stopped nesting ts
unfolding negated
negated_none b ts e = ap (λ b. negated b ts) e

pub negated_some : (b : Option (Reader Expr)) (u : Reader Expr) (ts : List Lexeme) → b ≡ Some u
    → negated b ts ≡ and_then (u (rest ts)) (λ a. pure (Negative a (place_of (front ts))))
unfolding negated
negated_some b u ts e = ap (λ b. negated b ts) e

-- a repetition without an operator
none_from : {X B O : Type 0} (what : Terminal → Option O) (join : X → O → B → X) (item : Reader B) (n : ℕ) (x : X) (ts : List Lexeme) → what (peek ts) ≡ None → repeat_from what join item n x ts ≡ found x ts
unfolding repeat_from operator
none_from what join item zero x ts e = refl
none_from what join item (suc n) x ts e = ap (λ o. and_then (operator_at o ts) (turn join item (repeat_from what join item n) x)) e

pub no_sign : (u : Reader Expr) (first : Expr) (ts : List Lexeme) → sign_of (peek ts) ≡ None → sum u first ts ≡ found first ts
unfolding sum terms repeat
no_sign u first ts e = ap (λ r. and_then r (λ links. pure (chain links))) (none_from sign_of link (term_of u) (length ts) (start first) ts e)

pub no_star : (u : Reader Expr) (first : Expr) (ts : List Lexeme) → star_of (peek ts) ≡ None → product u first ts ≡ found first ts
unfolding product factors repeat
no_star u first ts e = ap (λ r. and_then r (λ links. pure (chain links))) (none_from star_of link u (length ts) (start first) ts e)
