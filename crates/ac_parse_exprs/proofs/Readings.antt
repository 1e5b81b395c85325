-- What is read of each kind of expression in a value.
use Rattle.std.proofs.Common.{◌≡◌, Bool, List, [], ◌∷◌, map, refl, ap, ◌∙◌, sym, None}
use Rattle.ac_syntax.specs.declared.tree.Place.{Place}
use Rattle.ac_syntax.specs.declared.tree.Value.TheVariants as v
use Rattle.ac_parse_grammar.specs.declared.tree.Word.{Word}
use Rattle.ac_parse_grammar.specs.declared.tree.Numeral.{Numeral}
use Rattle.ac_parse_grammar.specs.declared.tree.Operator.{Operator}
use Rattle.ac_parse_grammar.specs.declared.tree.Expr.{Expr}
use Rattle.ac_parse_grammar.specs.declared.tree.Expr.TheVariants.{Number, Decimal, Access, Call, Quotient, Negative, Group, Chain, rolls-Number, rolls-Decimal, rolls-Access, rolls-Call, rolls-Quotient, rolls-Negative, rolls-Group, rolls-Chain}
use Rattle.ac_parse_grammar.specs.declared.tree.Expr.TheOpen as open_of
use Rattle.ac_parse_grammar.specs.declared.tree.Expr.TheFolds.{para-roll-Expr}
use Rattle.ac_parse_exprs.specs.declared.scope.Entry.{Entry}
use Rattle.ac_parse_exprs.specs.declared.scope.Scope.{Scope}
use Rattle.ac_parse_exprs.specs.Meanings.{meaning}
use Rattle.ac_parse_exprs.specs.IndexExpressions.{judged_number, judged_quotient, judged}
use Rattle.ac_parse_exprs.specs.Values.{Reading, number, other, reading, symbol, access_reading, call_reading, negative_reading, group_reading, chain_reading, reading_step}

firsts : (f : Expr → Reading) (es : List Expr) → map (λ (s : Expr × Reading). s.0) (map (λ (y : Expr). (y, f y)) es) ≡ es
firsts f [] = refl
firsts f (e ∷ es) = ap (λ xs. e ∷ xs) (firsts f es)

seconds : (f : Expr → Reading) (es : List Expr) → map (λ (s : Expr × Reading). s.1) (map (λ (y : Expr). (y, f y)) es) ≡ map f es
seconds f [] = refl
seconds f (e ∷ es) = ap (λ xs. f e ∷ xs) (seconds f es)

pub reading-number : (names : List Entry) (scope : Scope) (n : Numeral) → reading names scope (Number n) ≡ number (judged_number scope n)
unfolding reading
reading-number names scope n = ap (reading names scope) (sym (rolls-Number n)) ∙ para-roll-Expr Reading (reading_step names scope) (open_of.Number n)

pub reading-decimal : (names : List Entry) (scope : Scope) (word : Word) → reading names scope (Decimal word) ≡ other None (v.Call (symbol word.name 0) [] word.place)
unfolding reading
reading-decimal names scope word = ap (reading names scope) (sym (rolls-Decimal word)) ∙ para-roll-Expr Reading (reading_step names scope) (open_of.Decimal word)

pub reading-access : (names : List Entry) (scope : Scope) (name : Word) (subs : List Expr)
    → reading names scope (Access name subs) ≡ access_reading names scope (meaning names scope name.name) name subs
unfolding reading
reading-access names scope name subs = ap (reading names scope) (sym (rolls-Access name subs)) ∙ para-roll-Expr Reading (reading_step names scope) (open_of.Access name subs) ∙ rw (firsts (reading names scope) subs) refl

pub reading-call : (names : List Entry) (scope : Scope) (name : Word) (args : List Expr)
    → reading names scope (Call name args) ≡ call_reading scope (meaning names scope name.name) name (map (reading names scope) args)
unfolding reading
reading-call names scope name args = ap (reading names scope) (sym (rolls-Call name args)) ∙ para-roll-Expr Reading (reading_step names scope) (open_of.Call name args) ∙ rw (seconds (reading names scope) args) refl

pub reading-quotient : (names : List Entry) (scope : Scope) (up : Bool) (argument : Expr) (divisor : Numeral) (place : Place)
    → reading names scope (Quotient up argument divisor place) ≡ number (judged_quotient scope up divisor place (judged names scope argument))
unfolding reading
reading-quotient names scope up argument divisor place = ap (reading names scope) (sym (rolls-Quotient up argument divisor place)) ∙ para-roll-Expr Reading (reading_step names scope) (open_of.Quotient up argument divisor place)

pub reading-negative : (names : List Entry) (scope : Scope) (operand : Expr) (place : Place) → reading names scope (Negative operand place) ≡ negative_reading place (reading names scope operand)
unfolding reading
reading-negative names scope operand place = ap (reading names scope) (sym (rolls-Negative operand place)) ∙ para-roll-Expr Reading (reading_step names scope) (open_of.Negative operand place)

pub reading-group : (names : List Entry) (scope : Scope) (inner : Expr) (place : Place) → reading names scope (Group inner place) ≡ group_reading place (reading names scope inner)
unfolding reading
reading-group names scope inner place = ap (reading names scope) (sym (rolls-Group inner place)) ∙ para-roll-Expr Reading (reading_step names scope) (open_of.Group inner place)

pub reading-chain : (names : List Entry) (scope : Scope) (operands : List Expr) (operators : List Operator)
    → reading names scope (Chain operands operators) ≡ chain_reading scope (map (reading names scope) operands) operators
unfolding reading
reading-chain names scope operands operators = ap (reading names scope) (sym (rolls-Chain operands operators)) ∙ para-roll-Expr Reading (reading_step names scope) (open_of.Chain operands operators) ∙ rw (seconds (reading names scope) operands) refl

pub ruleset readings = (reading-number, reading-decimal, reading-access, reading-call, reading-quotient, reading-negative, reading-group, reading-chain)
