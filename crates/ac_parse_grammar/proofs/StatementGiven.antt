-- Expressions and conditions as pieces of statements.
use Rattle.std.proofs.Common.{ℕ, suc, List, []}
use Rattle.ac_parse_grammar.specs.declared.terminal.Terminal.TheVariants as t
use Rattle.ac_parse_grammar.specs.declared.tree.Expr.{Expr}
use Rattle.ac_parse_grammar.specs.declared.tree.Part.{Part}
use Rattle.ac_parse_grammar.specs.ReaderCombinators.{is}
use Rattle.ac_parse_grammar.specs.Expressions.{goes_on, expr, below, subscripts}
use Rattle.ac_parse_grammar.specs.Conditions.{condition_goes_on, cond}
use Rattle.ac_parse_grammar.specs.Grammar.{IsExpr, Subscripts, IsCond, no_subscript}
use Rattle.ac_parse_grammar.proofs.Exact.{nowhere}
use Rattle.ac_parse_grammar.proofs.ReadExpressions.{read_expr, some_expr_at, read_subscripts}
use Rattle.ac_parse_grammar.proofs.ReadConditions.{read_cond, some_cond_at}
use Rattle.ac_parse_grammar.proofs.StatementPieces.{Piece, made}

abbrev pub expr_piece : (room : ℕ) → Piece Expr nowhere (λ _. goes_on)
expr_piece room = made (expr room) (IsExpr room) (IsExpr (suc room)) (read_expr room) (some_expr_at (suc room)) (some_expr_at room)

abbrev pub subscripts_piece : (room : ℕ) → Piece (List Expr) nowhere (λ subs k. is t.OpenBracket k)
subscripts_piece room = made (subscripts (below room)) (Subscripts room) (Subscripts (suc room)) (read_subscripts room) ([], [], no_subscript) ([], [], no_subscript)

abbrev pub cond_piece : (room : ℕ) → Piece (List Part) nowhere (λ _. condition_goes_on)
cond_piece room = made (cond room) (IsCond room) (IsCond (suc room)) (read_cond room) (some_cond_at (suc room)) (some_cond_at room)
