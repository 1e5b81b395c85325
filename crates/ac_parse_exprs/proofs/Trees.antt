-- Inductions over expressions and statements, at lists.
use Rattle.std.proofs.Common.{List, [], ◌∷◌, map, sym, subst, Bool, Option}
use Rattle.std.specs.List.{AllByRecursion}
use Rattle.ac_syntax.specs.declared.tree.Place.{Place}
use Rattle.ac_parse_grammar.specs.declared.tree.Word.{Word}
use Rattle.ac_parse_grammar.specs.declared.tree.Numeral.{Numeral}
use Rattle.ac_parse_grammar.specs.declared.tree.Operator.{Operator}
use Rattle.ac_parse_grammar.specs.declared.tree.Part.{Part}
use Rattle.ac_parse_grammar.specs.declared.tree.Step.{Step}
use Rattle.ac_parse_grammar.specs.declared.tree.Expr.{Expr, roll-Expr, map-Expr, ind-Expr}
use Rattle.ac_parse_grammar.specs.declared.tree.Expr.TheVariants.{Number, Decimal, Access, Call, Quotient, Negative, Group, Chain, rolls-Number, rolls-Decimal, rolls-Access, rolls-Call, rolls-Quotient, rolls-Negative, rolls-Group, rolls-Chain}
use Rattle.ac_parse_grammar.specs.declared.tree.Expr.TheOpen.{Expr-F}
use Rattle.ac_parse_grammar.specs.declared.tree.Statement.{Statement, roll-Statement, map-Statement, ind-Statement}
use Rattle.ac_parse_grammar.specs.declared.tree.Statement.TheVariants.{Loop, Branch, Assign, rolls-Loop, rolls-Branch, rolls-Assign}
use Rattle.ac_parse_grammar.specs.declared.tree.Statement.TheOpen.{Statement-F}

-- a fact beside each element is a fact of each
beside_each : {A : Type 0} (P : A → Type 0) (xs : List ((x : A) × P x)) → AllByRecursion P (map (λ (e : (x : A) × P x). e.0) xs)
beside_each P [] = tt
beside_each P (x ∷ xs) = (x.1, beside_each P xs)

module _ (P : Expr → Type 0)
    (number : (n : Numeral) → P (Number n))
    (decimal : (word : Word) → P (Decimal word))
    (access : (name : Word) (subs : List Expr) → AllByRecursion P subs → P (Access name subs))
    (call : (name : Word) (args : List Expr) → AllByRecursion P args → P (Call name args))
    (quotient : (up : Bool) (argument : Expr) (divisor : Numeral) (place : Place) → P argument → P (Quotient up argument divisor place))
    (negative : (operand : Expr) (place : Place) → P operand → P (Negative operand place))
    (group : (inner : Expr) (place : Place) → P inner → P (Group inner place))
    (chain : (operands : List Expr) (operators : List Operator) → AllByRecursion P operands → P (Chain operands operators)) where
  expr_case : (y : Expr-F ((e : Expr) × P e)) → P (roll-Expr (map-Expr ((e : Expr) × P e) Expr (λ (e : (e : Expr) × P e). e.0) y))
  expr_case (Expr-F.Number n) = subst P (sym (rolls-Number n)) (number n)
  expr_case (Expr-F.Decimal word) = subst P (sym (rolls-Decimal word)) (decimal word)
  expr_case (Expr-F.Access name subs) = subst P (sym (rolls-Access name (map (λ (e : (e : Expr) × P e). e.0) subs))) (access name (map (λ (e : (e : Expr) × P e). e.0) subs) (beside_each P subs))
  expr_case (Expr-F.Call name args) = subst P (sym (rolls-Call name (map (λ (e : (e : Expr) × P e). e.0) args))) (call name (map (λ (e : (e : Expr) × P e). e.0) args) (beside_each P args))
  expr_case (Expr-F.Quotient up argument divisor place) = subst P (sym (rolls-Quotient up argument.0 divisor place)) (quotient up argument.0 divisor place argument.1)
  expr_case (Expr-F.Negative operand place) = subst P (sym (rolls-Negative operand.0 place)) (negative operand.0 place operand.1)
  expr_case (Expr-F.Group inner place) = subst P (sym (rolls-Group inner.0 place)) (group inner.0 place inner.1)
  expr_case (Expr-F.Chain operands operators) = subst P (sym (rolls-Chain (map (λ (e : (e : Expr) × P e). e.0) operands) operators)) (chain (map (λ (e : (e : Expr) × P e). e.0) operands) operators (beside_each P operands))

  pub every_expr : (e : Expr) → P e
  every_expr = ind-Expr P (λ x y is. subst (λ z. P (roll-Expr z)) is (expr_case y))

module _ (P : Statement → Type 0)
    (loop : (typed : Bool) (name : Word) (start : Expr) (cond : List Part) (step : Step) (body : List Statement) (place : Place) → AllByRecursion P body → P (Loop typed name start cond step body place))
    (branch : (cond : List Part) (taken other : List Statement) (place : Place) → AllByRecursion P taken → AllByRecursion P other → P (Branch cond taken other place))
    (assign : (target : Word) (subs : List Expr) (operator : Option Operator) (e : Expr) → P (Assign target subs operator e)) where
  statement_case : (y : Statement-F ((s : Statement) × P s)) → P (roll-Statement (map-Statement ((s : Statement) × P s) Statement (λ (s : (s : Statement) × P s). s.0) y))
  statement_case (Statement-F.Loop typed name start cond step body place) =
      subst P (sym (rolls-Loop typed name start cond step (map (λ (s : (s : Statement) × P s). s.0) body) place)) (loop typed name start cond step (map (λ (s : (s : Statement) × P s). s.0) body) place (beside_each P body))
  statement_case (Statement-F.Branch cond taken other place) =
      subst P (sym (rolls-Branch cond (map (λ (s : (s : Statement) × P s). s.0) taken) (map (λ (s : (s : Statement) × P s). s.0) other) place))
      (branch cond (map (λ (s : (s : Statement) × P s). s.0) taken) (map (λ (s : (s : Statement) × P s). s.0) other) place (beside_each P taken) (beside_each P other))
  statement_case (Statement-F.Assign target subs operator e) = subst P (sym (rolls-Assign target subs operator e)) (assign target subs operator e)

  pub every_statement : (s : Statement) → P s
  every_statement = ind-Statement P (λ x y is. subst (λ z. P (roll-Statement z)) is (statement_case y))
