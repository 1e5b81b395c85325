-- What is answered of expressions and conditions.
use Rattle.std.specs.Prelude.{Result}
use Rattle.std.proofs.Common.{ℕ, List}
use Rattle.ac_lex.specs.Lexemes.{Lexeme}
use Rattle.ac_parse_grammar.specs.declared.cursor.Stop.{Stop}
use Rattle.ac_parse_grammar.specs.declared.tree.Expr.{Expr}
use Rattle.ac_parse_grammar.specs.declared.tree.Part.{Part}
use Rattle.ac_parse_grammar.specs.ReaderCombinators.{Reads}
use Rattle.ac_parse_grammar.specs.Expressions.{expr, goes_on}
use Rattle.ac_parse_grammar.specs.Conditions.{cond, condition_goes_on}
use Rattle.ac_parse_grammar.specs.Grammar.{IsExpr, IsCond}
use Rattle.ac_parse_grammar.specs.GrammarAnswers.{IsAnswer, FindsAll}
use Rattle.ac_parse_grammar.proofs.Answering.{answer, finds}
use Rattle.ac_parse_grammar.proofs.ReadExpressions.{read_expr, some_expr_at}
use Rattle.ac_parse_grammar.proofs.DeepExpressions.{expression_deeper}
use Rattle.ac_parse_grammar.proofs.ReadConditions.{read_cond, some_cond_at}
use Rattle.ac_parse_grammar.proofs.DeepConditions.{cond_deeper}

pub expr_answer : (room : ℕ) (old new : List Lexeme) (r : Result Expr Stop) → Reads (λ e. e) (expr room old) r new → IsAnswer IsExpr (λ _. goes_on) room old r new
expr_answer = answer expr IsExpr (λ _. goes_on) read_expr expression_deeper some_expr_at

pub expr_finds : (room : ℕ) (old new : List Lexeme) (r : Result Expr Stop) → Reads (λ e. e) (expr room old) r new → FindsAll (IsExpr room) (λ _. goes_on) old r new
expr_finds = finds expr IsExpr (λ _. goes_on) read_expr expression_deeper some_expr_at

pub cond_answer : (room : ℕ) (old new : List Lexeme) (r : Result (List Part) Stop) → Reads (λ parts. parts) (cond room old) r new → IsAnswer IsCond (λ _. condition_goes_on) room old r new
cond_answer = answer cond IsCond (λ _. condition_goes_on) read_cond cond_deeper some_cond_at

pub cond_finds : (room : ℕ) (old new : List Lexeme) (r : Result (List Part) Stop) → Reads (λ parts. parts) (cond room old) r new → FindsAll (IsCond room) (λ _. condition_goes_on) old r new
cond_finds = finds cond IsCond (λ _. condition_goes_on) read_cond cond_deeper some_cond_at
