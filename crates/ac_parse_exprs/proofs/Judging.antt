-- What the rules say of each kind of index expression.
use Rattle.std.proofs.Common.{◌≡◌, Bool, ℕ, suc, ◌+◌, ◌-◌, ◌<◌, ◌≤◌, List, [], ◌∷◌, map, drop, get_or, length, refl, rules, ap, ◌∙◌, sym, arith, drop-cons, add-one}
use Rattle.std.proofs.lemmas.List.{length-map, drop_all}
use Rattle.ac_syntax.specs.declared.tree.Place.{Place}
use Rattle.ac_parse_grammar.specs.declared.tree.Word.{Word}
use Rattle.ac_parse_grammar.specs.declared.tree.Numeral.{Numeral}
use Rattle.ac_parse_grammar.specs.declared.tree.Operator.{Operator}
use Rattle.ac_parse_grammar.specs.declared.tree.Expr.{Expr, the_lemmas}
use Rattle.ac_parse_grammar.specs.declared.tree.Expr.TheVariants.{Number, Decimal, Access, Call, Quotient, Negative, Group, Chain}
use Rattle.ac_parse_exprs.specs.declared.scope.Entry.{Entry}
use Rattle.ac_parse_exprs.specs.declared.scope.Scope.{Scope}
use Rattle.ac_parse_exprs.specs.declared.index.Judged.{Judged}
use Rattle.ac_parse_exprs.specs.Meanings.{meaning, call_rule}
use Rattle.ac_parse_exprs.specs.IndexExpressions.{judged, judged_number, judged_decimal, judged_access, judged_other, judged_quotient, judged_negative, judged_group, judged_chain, gathered, no_parts, chained, joined}

pub judged-number : (names : List Entry) (scope : Scope) (n : Numeral) → judged names scope (Number n) ≡ judged_number scope n
unfolding judged
judged-number names scope n = search (rules, the_lemmas)

pub judged-decimal : (names : List Entry) (scope : Scope) (word : Word) → judged names scope (Decimal word) ≡ judged_decimal word
unfolding judged
judged-decimal names scope word = search (rules, the_lemmas)

pub judged-access : (names : List Entry) (scope : Scope) (name : Word) (subs : List Expr)
    → judged names scope (Access name subs) ≡ judged_access scope (meaning names scope name.name) name (length subs) (gathered no_parts (map (judged names scope) subs))
unfolding judged
judged-access names scope name subs = search (rules, the_lemmas, length-map)

pub judged-call : (names : List Entry) (scope : Scope) (name : Word) (args : List Expr)
    → judged names scope (Call name args) ≡ judged_other (call_rule (meaning names scope name.name)) name (gathered no_parts (map (judged names scope) args))
unfolding judged
judged-call names scope name args = search (rules, the_lemmas)

pub judged-quotient : (names : List Entry) (scope : Scope) (up : Bool) (argument : Expr) (divisor : Numeral) (place : Place) → judged names scope (Quotient up argument divisor place) ≡ judged_quotient scope up divisor place (judged names scope argument)
unfolding judged
judged-quotient names scope up argument divisor place = search (rules, the_lemmas)

pub judged-negative : (names : List Entry) (scope : Scope) (operand : Expr) (place : Place) → judged names scope (Negative operand place) ≡ judged_negative place (judged names scope operand)
unfolding judged
judged-negative names scope operand place = search (rules, the_lemmas)

pub judged-group : (names : List Entry) (scope : Scope) (inner : Expr) (place : Place) → judged names scope (Group inner place) ≡ judged_group place (judged names scope inner)
unfolding judged
judged-group names scope inner place = search (rules, the_lemmas)

pub judged-chain : (names : List Entry) (scope : Scope) (operands : List Expr) (operators : List Operator)
    → judged names scope (Chain operands operators) ≡ judged_chain scope (map (judged names scope) operands) operators
unfolding judged
judged-chain names scope operands operators = search (rules, the_lemmas)

pub ruleset judging = (judged-number, judged-decimal, judged-access, judged-call, judged-quotient, judged-negative, judged-group, judged-chain)

chained-end : (a : Judged) (js : List Judged) → chained a js [] ≡ a
chained-end a [] = refl
chained-end a (j ∷ js) = refl

-- where the operators end, so does the chain
pub chained_stop : (a : Judged) (js : List Judged) (ops : List Operator) (k : ℕ) → length ops ≤ k → chained a js (drop k ops) ≡ a
chained_stop a js ops k h = rw (drop_all k ops h) (chained-end a js)

-- one operator and one operand further
pub chained_step : (f : Expr → Judged) (es : List Expr) (ops : List Operator) (i : ℕ) (e : Expr) (op : Operator) (a : Judged) → 1 ≤ i → i < length es → i - 1 < length ops → e ≡ get_or es i e → op ≡ get_or ops (i - 1) op
    → chained a (map f (drop i es)) (drop (i - 1) ops) ≡ chained (joined op a (f e)) (map f (drop (i + 1) es)) (drop (i + 1 - 1) ops)
chained_step f es ops i e op a m h l g k =
    let d : drop i es ≡ e ∷ drop (i + 1) es = rw (add-one) (drop-cons es i e h ∙ ap (λ x. x ∷ drop (suc i) es) (sym g)) in
    let b : drop (i - 1) ops ≡ op ∷ drop (suc (i - 1)) ops = drop-cons ops (i - 1) op l ∙ ap (λ x. x ∷ drop (suc (i - 1)) ops) (sym k) in
    let n : suc (i - 1) ≡ i + 1 - 1 = omega arith in
    rw (d, b, n) refl
