-- What each kind of expression in a right side is as it is written.
use Rattle.std.proofs.Common.{◌≡◌, Bool, List, [], ◌∷◌, map, refl, ap, ◌∙◌, sym, pos, Some}
use Rattle.std.specs.Option.{option_and_then}
use Rattle.ac_syntax.specs.Algebra.{Cell}
use Rattle.ac_syntax.specs.Index.{Point}
use Rattle.ac_syntax.specs.Term.{Term}
use Rattle.ac_syntax.specs.declared.tree.Place.{Place}
use Rattle.ac_parse_grammar.specs.declared.tree.Word.{Word}
use Rattle.ac_parse_grammar.specs.declared.tree.Numeral.{Numeral}
use Rattle.ac_parse_grammar.specs.declared.tree.Operator.{Operator}
use Rattle.ac_parse_grammar.specs.declared.tree.Expr.{Expr}
use Rattle.ac_parse_grammar.specs.declared.tree.Expr.TheVariants.{Number, Decimal, Access, Call, Quotient, Negative, Group, Chain, rolls-Number, rolls-Decimal, rolls-Access, rolls-Call, rolls-Quotient, rolls-Negative, rolls-Group, rolls-Chain}
use Rattle.ac_parse_grammar.specs.declared.tree.Expr.TheOpen as open_of
use Rattle.ac_parse_grammar.specs.declared.tree.Expr.TheFolds.{para-roll-Expr}
use Rattle.ac_parse_exprs.specs.declared.scope.Entry.{Entry}
use Rattle.ac_parse_exprs.specs.declared.scope.Scope.{Scope}
use Rattle.ac_parse_exprs.specs.Meanings.{meaning}
use Rattle.ac_parse_exprs.specs.WrittenValues.{integer_of, rounded, expression_value}
use Rattle.ac_parse_exprs.specs.WrittenTerms.{Written, index, other, applied_to, access_written, call_written, negative_written, chain_written, written_step, written}

firsts : {X : Type 0} (g : Expr → X) (f : Expr → Written) (es : List Expr) → map (λ (s : Expr × Written). g s.0) (map (λ (y : Expr). (y, f y)) es) ≡ map g es
firsts g f [] = refl
firsts g f (e ∷ es) = ap (λ xs. g e ∷ xs) (firsts g f es)

seconds : (f : Expr → Written) (es : List Expr) → map (λ (s : Expr × Written). s.1) (map (λ (y : Expr). (y, f y)) es) ≡ map f es
seconds f [] = refl
seconds f (e ∷ es) = ap (λ xs. f e ∷ xs) (seconds f es)

module _ (names : List Entry) (scope : Scope) (p : Point) (state : Cell → Term) where
  pub written-number : (n : Numeral) → written names scope p state (Number n) ≡ index (Some (pos n.number))
  unfolding written
  written-number n = ap (written names scope p state) (sym (rolls-Number n)) ∙ para-roll-Expr Written (written_step names scope p state) (open_of.Number n)

  pub written-decimal : (word : Word) → written names scope p state (Decimal word) ≡ other (applied_to word.name [])
  unfolding written
  written-decimal word = ap (written names scope p state) (sym (rolls-Decimal word)) ∙ para-roll-Expr Written (written_step names scope p state) (open_of.Decimal word)

  pub written-access : (name : Word) (subs : List Expr)
      → written names scope p state (Access name subs) ≡ access_written p state (meaning names scope name.name) (map (expression_value (integer_of names scope p)) subs)
  unfolding written
  written-access name subs =
      ap (written names scope p state) (sym (rolls-Access name subs)) ∙ para-roll-Expr Written (written_step names scope p state) (open_of.Access name subs)
      ∙ rw (firsts (expression_value (integer_of names scope p)) (written names scope p state) subs) refl

  pub written-call : (name : Word) (args : List Expr)
      → written names scope p state (Call name args) ≡ other (call_written (meaning names scope name.name) name.name (map (written names scope p state) args))
  unfolding written
  written-call name args =
      ap (written names scope p state) (sym (rolls-Call name args)) ∙ para-roll-Expr Written (written_step names scope p state) (open_of.Call name args)
      ∙ rw (seconds (written names scope p state) args) refl

  pub written-quotient : (up : Bool) (argument : Expr) (divisor : Numeral) (place : Place) → written names scope p state (Quotient up argument divisor place) ≡ index (option_and_then (rounded up divisor.number) (expression_value (integer_of names scope p) argument))
  unfolding written
  written-quotient up argument divisor place =
      ap (written names scope p state) (sym (rolls-Quotient up argument divisor place)) ∙ para-roll-Expr Written (written_step names scope p state) (open_of.Quotient up argument divisor place)

  pub written-negative : (operand : Expr) (place : Place) → written names scope p state (Negative operand place) ≡ negative_written (written names scope p state operand)
  unfolding written
  written-negative operand place = ap (written names scope p state) (sym (rolls-Negative operand place)) ∙ para-roll-Expr Written (written_step names scope p state) (open_of.Negative operand place)

  pub written-group : (inner : Expr) (place : Place) → written names scope p state (Group inner place) ≡ written names scope p state inner
  unfolding written
  written-group inner place = ap (written names scope p state) (sym (rolls-Group inner place)) ∙ para-roll-Expr Written (written_step names scope p state) (open_of.Group inner place)

  pub written-chain : (operands : List Expr) (operators : List Operator) → written names scope p state (Chain operands operators) ≡ chain_written (map (written names scope p state) operands) operators
  unfolding written
  written-chain operands operators =
      ap (written names scope p state) (sym (rolls-Chain operands operators)) ∙ para-roll-Expr Written (written_step names scope p state) (open_of.Chain operands operators)
      ∙ rw (seconds (written names scope p state) operands) refl
