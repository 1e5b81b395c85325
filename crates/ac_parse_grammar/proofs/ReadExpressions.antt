-- What is read as an expression, or as subscripts, is the grammar's.
use Rattle.std.specs.Prelude.{Bool, true, false, ◌||◌}
use Rattle.std.proofs.Common.{◌≡◌, ℕ, suc, refl}
use Rattle.ac_parse_grammar.specs.declared.terminal.Terminal.{Terminal}
use Rattle.ac_parse_grammar.specs.declared.terminal.Terminal.TheVariants as t
use Rattle.ac_parse_grammar.specs.ReaderCombinators.{is}
use Rattle.ac_parse_grammar.specs.Expressions.{goes_on, expr, subscripts, below}
use Rattle.ac_parse_grammar.specs.Grammar.{IsExpr, Subscripts}
use Rattle.ac_parse_grammar.proofs.Exact.{Exact, Some_of, nowhere}
use Rattle.ac_parse_grammar.proofs.Parts.{goes_exact, equal_exact}
use Rattle.ac_parse_grammar.proofs.Relations.{openings_at}
use Rattle.ac_parse_grammar.proofs.Productions.{on_expr, some_expr}
use Rattle.ac_parse_grammar.proofs.Levels.{expressions_exact, levels, subscripts_exact, some_unary}
use Rattle.ac_parse_grammar.proofs.Relations.{IsUnaryAt}
use Rattle.ac_parse_grammar.proofs.Aloud.{expr_aloud, aloud_expr, subscripts_aloud, aloud_subscripts}

pub same_goes : (k : Terminal) → goes_on k ≡ on_expr k
same_goes t.Plus = refl
same_goes t.Minus = refl
same_goes t.Star = refl
same_goes t.Slash = refl
same_goes t.Percent = refl
same_goes t.Open = refl
same_goes t.OpenBracket = refl
same_goes _ = refl

pub read_expr : (room : ℕ) → Exact (expr room) (IsExpr room) (IsExpr (suc room)) nowhere (λ _. goes_on)
read_expr room = goes_exact (λ _. goes_on) (λ ts a r k. same_goes k) (equal_exact (IsExpr room) (IsExpr (suc room)) (expr_aloud room) (aloud_expr room) (expr_aloud (suc room)) (expressions_exact room))

pub some_expr_at : (room : ℕ) → Some_of (IsExpr room)
some_expr_at room = let s = some_expr (IsUnaryAt room) (some_unary room) in (s.0, s.1, expr_aloud room s.0 s.1 s.2)

or_false : (b : Bool) → b ≡ (b || false)
or_false true = refl
or_false false = refl

pub read_subscripts : (room : ℕ) → Exact (subscripts (below room)) (Subscripts room) (Subscripts (suc room)) nowhere (λ _ k. is t.OpenBracket k)
read_subscripts room = goes_exact (λ _ k. is t.OpenBracket k) (λ ts a r k. or_false (is t.OpenBracket k))
    (equal_exact (Subscripts room) (Subscripts (suc room)) (subscripts_aloud room) (aloud_subscripts room) (subscripts_aloud (suc room))
    (subscripts_exact (below room) (openings_at room) (openings_at (suc room)) (levels room)))
