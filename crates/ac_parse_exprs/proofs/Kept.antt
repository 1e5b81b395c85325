-- What a check and what building keep of each kind of expression in a value.
use Rattle.std.proofs.Common.{◌≡◌, Bool, ℕ, suc, ◌+◌, ◌-◌, ◌<◌, ◌≤◌, List, [], ◌∷◌, map, drop, get_or, length, refl, rules, ap, ◌∙◌, sym, arith, drop-cons, add-one, None, sum_by, codes}
use Rattle.std.proofs.lemmas.List.{length-map, drop_all}
use Rattle.std.proofs.lemmas.List.Sums.{sum_by-cons}
use Rattle.ac_syntax.specs.ValueNodes.{size}
use Rattle.ac_syntax.specs.declared.tree.Place.{Place}
use Rattle.ac_syntax.specs.declared.tree.Value.{Value}
use Rattle.ac_syntax.specs.declared.tree.Value.TheVariants as v
use Rattle.ac_syntax.proofs.Sizes.{size_call, size_number}
use Rattle.ac_parse_grammar.specs.declared.tree.Word.{Word}
use Rattle.ac_parse_grammar.specs.declared.tree.Numeral.{Numeral}
use Rattle.ac_parse_grammar.specs.declared.tree.Operator.{Operator}
use Rattle.ac_parse_grammar.specs.declared.tree.Expr.{Expr}
use Rattle.ac_parse_grammar.specs.declared.tree.Expr.TheVariants.{Number, Decimal, Access, Call, Quotient, Negative, Group, Chain}
use Rattle.ac_parse_exprs.specs.declared.scope.Entry.{Entry}
use Rattle.ac_parse_exprs.specs.declared.scope.Scope.{Scope}
use Rattle.ac_parse_exprs.specs.declared.scope.Meaning.{Meaning}
use Rattle.ac_parse_exprs.specs.declared.measure.Measured.{Measured}
use Rattle.ac_parse_exprs.specs.declared.measure.Measured.TheVariants as measured
use Rattle.ac_parse_exprs.specs.declared.measure.Total.{Total}
use Rattle.ac_parse_exprs.specs.declared.value.Built.{Built}
use Rattle.ac_parse_exprs.specs.declared.value.Built.TheVariants as built
use Rattle.ac_parse_exprs.specs.Meanings.{meaning}
use Rattle.ac_parse_exprs.specs.IndexExpressions.{judged_number, judged}
use Rattle.ac_parse_exprs.specs.FaultOrder.{earlier}
use Rattle.ac_parse_exprs.specs.Comparisons.{first_from, index_expr}
use Rattle.ac_parse_exprs.specs.Values.{Reading, number, other, reading, reading_broken, value_broken, value_of, value, placed, symbol, applied_values, access_reading, call_reading, negative_reading, group_reading, joined_reading, chained_reading, chain_reading}
use Rattle.ac_parse_exprs.specs.Measures.{capped, measure_of, measure, measured_broken, measured_nodes, with_measure, total_from, total_of, measured_call, measured_negative, measured_group, joined_measured, chained_measured, chain_measured, built_of, build, built_value, built_call, built_negative, built_group, joined_built, chained_built, chain_built}
use Rattle.ac_parse_exprs.proofs.Judging.{judged-quotient}
use Rattle.ac_parse_exprs.proofs.Readings.{reading-number, reading-decimal, reading-access, reading-call, reading-quotient, reading-negative, reading-group, reading-chain}

-- parts
size_placed : (place : Place) (x : Value) → size (placed place x) ≡ size x
unfolding size
size_placed place (v.Number e) = refl
size_placed place (v.Access array subs p) = refl
size_placed place (v.Call' s n args p) = refl

pub nodes_is : (scope : Scope) (r : Reading) → measured_nodes (measure_of r) ≡ capped (size (value_of scope r))
nodes_is scope (number j) = rw size_number refl
nodes_is scope (other b x) = refl

broken_is : (r : Reading) → measured_broken (measure_of r) ≡ reading_broken r
broken_is (number j) = refl
broken_is (other b x) = refl

value_is : (scope : Scope) (r : Reading) → built_value scope (built_of r) ≡ value_of scope r
value_is scope (number j) = refl
value_is scope (other b x) = refl

capped_twice : (n : ℕ) → capped (capped n + 1) ≡ capped (n + 1)
capped_twice n = omega arith

negative_kept : (place : Place) (r : Reading) → measure_of (negative_reading place r) ≡ measured_negative place (measure_of r)
negative_kept place (number j) = refl
negative_kept place (other b x) = ap (measured.Other b) (ap capped (size_call (symbol (codes "-") 1) (x ∷ []) place ∙ ap (λ k. k + 1) (sum_by-cons size x [])) ∙ omega arith)

group_kept : (place : Place) (r : Reading) → measure_of (group_reading place r) ≡ measured_group place (measure_of r)
group_kept place (number j) = refl
group_kept place (other b x) = ap (λ k. measured.Other b (capped k)) (size_placed place x)

pub both_nodes : (op : Operator) (x y : Value) → size (applied_values op x y) ≡ size x + size y + 1
both_nodes op x y = search (rules, size_call, sum_by-cons)

joined_kept : (scope : Scope) (op : Operator) (r s : Reading) → measure_of (joined_reading scope op r s) ≡ joined_measured op (measure_of r) (measure_of s)
joined_kept scope op (number i) (number j) = refl
joined_kept scope op (number i) (other b y) =
    let h : capped (size (applied_values op (v.Number (index_expr scope i)) y)) ≡ capped ((1 + capped (size y)) + 1) = rw (both_nodes op (v.Number (index_expr scope i)) y, size_number (index_expr scope i)) (omega arith) in
    rw h refl
joined_kept scope op (other b x) s =
    let y = value_of scope s in
    let e : measured_nodes (measure_of s) ≡ capped (size (value_of scope s)) = nodes_is scope s in
    let f : measured_broken (measure_of s) ≡ reading_broken s = broken_is s in
    let h : capped (size (applied_values op x (value_of scope s))) ≡ capped ((capped (size x) + measured_nodes (measure_of s)) + 1) = rw (e, both_nodes op x (value_of scope s)) (omega arith) in
    rw (h, f) refl

chained_kept : (scope : Scope) (a : Reading) (bs : List Reading) (ops : List Operator) → measure_of (chained_reading scope a bs ops) ≡ chained_measured (measure_of a) (map measure_of bs) ops
chained_kept scope a [] ops = refl
chained_kept scope a (b ∷ bs) [] = refl
chained_kept scope a (b ∷ bs) (op ∷ ops) =
    chained_kept scope (joined_reading scope op a b) bs ops ∙ ap (λ m. chained_measured m (map measure_of bs) ops) (joined_kept scope op a b)

chain_kept : (scope : Scope) (rs : List Reading) (ops : List Operator) → measure_of (chain_reading scope rs ops) ≡ chain_measured scope (map measure_of rs) ops
chain_kept scope [] ops = refl
chain_kept scope (a ∷ bs) ops = chained_kept scope a bs ops

total_broken : (t : Total) (rs : List Reading) → (total_from t (map measure_of rs)).broken ≡ first_from t.broken (map reading_broken rs)
total_broken t [] = refl
total_broken t (r ∷ rs) = total_broken (with_measure t (measure_of r)) rs ∙ ap (λ b. first_from (earlier t.broken b) (map reading_broken rs)) (broken_is r)

total_nodes : (scope : Scope) (t : Total) (rs : List Reading) → t.nodes ≤ 65 → (total_from t (map measure_of rs)).nodes ≡ capped (t.nodes + sum_by size (map (value_of scope) rs))
total_nodes scope t [] h = omega arith
total_nodes scope t (r ∷ rs) h =
    let e = nodes_is scope r in
    let i = total_nodes scope (with_measure t (measure_of r)) rs (omega arith) in
    let s = sum_by-cons size (value_of scope r) (map (value_of scope) rs) in
    i ∙ omega arith

call_kept : (scope : Scope) (m : Meaning) (word : Word) (rs : List Reading) → measure_of (call_reading scope m word rs) ≡ measured_call m word (total_of (map measure_of rs))
call_kept scope m word rs =
    let b = total_broken (record { broken = None; nodes = 0 }) rs in
    let n = total_nodes scope (record { broken = None; nodes = 0 }) rs (omega arith) in
    let s = size_call (symbol word.name (length rs)) (map (value_of scope) rs) word.place in
    let h : capped (size (v.Call (symbol word.name (length rs)) (map (value_of scope) rs) word.place)) ≡ capped ((total_of (map measure_of rs)).nodes + 1) = rw (s, n) (omega arith) in
    rw (h, b) refl

map_twice : {A B C : Type 0} (g : B → C) (f : A → B) (xs : List A) → map g (map f xs) ≡ map (λ x. g (f x)) xs
map_twice g f [] = refl
map_twice g f (x ∷ xs) = ap (λ ys. g (f x) ∷ ys) (map_twice g f xs)

module _ (names : List Entry) (scope : Scope) where
  pub measure-number : (n : Numeral) → measure names scope (Number n) ≡ measured.Number (judged_number scope n)
  measure-number n = ap measure_of (reading-number names scope n)

  pub measure-decimal : (word : Word) → measure names scope (Decimal word) ≡ measured.Other None 1
  measure-decimal word = ap measure_of (reading-decimal names scope word) ∙ ap (λ k. measured.Other None (capped k)) (size_call (symbol word.name 0) [] word.place)

  pub measure-access : (name : Word) (subs : List Expr) → measure names scope (Access name subs) ≡ measure_of (access_reading names scope (meaning names scope name.name) name subs)
  measure-access name subs = ap measure_of (reading-access names scope name subs)

  pub measure-call : (name : Word) (args : List Expr)
      → measure names scope (Call name args) ≡ measured_call (meaning names scope name.name) name (total_of (map (measure names scope) args))
  measure-call name args =
      ap measure_of (reading-call names scope name args) ∙ call_kept scope (meaning names scope name.name) name (map (reading names scope) args)
      ∙ ap (λ ms. measured_call (meaning names scope name.name) name (total_of ms)) (map_twice measure_of (reading names scope) args)

  pub measure-quotient : (up : Bool) (argument : Expr) (divisor : Numeral) (place : Place) → measure names scope (Quotient up argument divisor place) ≡ measured.Number (judged names scope (Quotient up argument divisor place))
  measure-quotient up argument divisor place = ap measure_of (reading-quotient names scope up argument divisor place) ∙ ap measured.Number (sym (judged-quotient names scope up argument divisor place))

  pub measure-negative : (operand : Expr) (place : Place) → measure names scope (Negative operand place) ≡ measured_negative place (measure names scope operand)
  measure-negative operand place = ap measure_of (reading-negative names scope operand place) ∙ negative_kept place (reading names scope operand)

  pub measure-group : (inner : Expr) (place : Place) → measure names scope (Group inner place) ≡ measured_group place (measure names scope inner)
  measure-group inner place = ap measure_of (reading-group names scope inner place) ∙ group_kept place (reading names scope inner)

  pub measure-chain : (operands : List Expr) (operators : List Operator)
      → measure names scope (Chain operands operators) ≡ chain_measured scope (map (measure names scope) operands) operators
  measure-chain operands operators =
      ap measure_of (reading-chain names scope operands operators) ∙ chain_kept scope (map (reading names scope) operands) operators
      ∙ ap (λ ms. chain_measured scope ms operators) (map_twice measure_of (reading names scope) operands)

pub ruleset measuring = (measure-number, measure-decimal, measure-access, measure-call, measure-quotient, measure-negative, measure-group, measure-chain)

joined_built_is : (scope : Scope) (op : Operator) (r s : Reading) → built_of (joined_reading scope op r s) ≡ joined_built scope op (built_of r) (built_of s)
joined_built_is scope op (number i) (number j) = refl
joined_built_is scope op (number i) (other b y) = refl
joined_built_is scope op (other b x) s = ap (λ y. built.Other (applied_values op x y)) (sym (value_is scope s))

chained_built_is : (scope : Scope) (a : Reading) (bs : List Reading) (ops : List Operator) → built_of (chained_reading scope a bs ops) ≡ chained_built scope (built_of a) (map built_of bs) ops
chained_built_is scope a [] ops = refl
chained_built_is scope a (b ∷ bs) [] = refl
chained_built_is scope a (b ∷ bs) (op ∷ ops) =
    chained_built_is scope (joined_reading scope op a b) bs ops ∙ ap (λ m. chained_built scope m (map built_of bs) ops) (joined_built_is scope op a b)

chain_built_is : (scope : Scope) (rs : List Reading) (ops : List Operator) → built_of (chain_reading scope rs ops) ≡ chain_built scope (map built_of rs) ops
chain_built_is scope [] ops = refl
chain_built_is scope (a ∷ bs) ops = chained_built_is scope a bs ops

negative_built : (place : Place) (r : Reading) → built_of (negative_reading place r) ≡ built_negative place (built_of r)
negative_built place (number j) = refl
negative_built place (other b x) = refl

group_built : (place : Place) (r : Reading) → built_of (group_reading place r) ≡ built_group place (built_of r)
group_built place (number j) = refl
group_built place (other b x) = refl

module _ (names : List Entry) (scope : Scope) where
  pub build-number : (n : Numeral) → build names scope (Number n) ≡ built.Number (judged_number scope n)
  build-number n = ap built_of (reading-number names scope n)

  pub build-decimal : (word : Word) → build names scope (Decimal word) ≡ built_call word []
  build-decimal word = ap built_of (reading-decimal names scope word)

  pub build-access : (name : Word) (subs : List Expr) → build names scope (Access name subs) ≡ built_of (access_reading names scope (meaning names scope name.name) name subs)
  build-access name subs = ap built_of (reading-access names scope name subs)

  pub build-call : (name : Word) (args : List Expr) → build names scope (Call name args) ≡ built_call name (map (value names scope) args)
  build-call name args =
      ap built_of (reading-call names scope name args)
      ∙ rw (map_twice (value_of scope) (reading names scope) args, length-map args (reading names scope), length-map args (value names scope)) refl

  pub build-quotient : (up : Bool) (argument : Expr) (divisor : Numeral) (place : Place) → build names scope (Quotient up argument divisor place) ≡ built.Number (judged names scope (Quotient up argument divisor place))
  build-quotient up argument divisor place = ap built_of (reading-quotient names scope up argument divisor place) ∙ ap built.Number (sym (judged-quotient names scope up argument divisor place))

  pub build-negative : (operand : Expr) (place : Place) → build names scope (Negative operand place) ≡ built_negative place (build names scope operand)
  build-negative operand place = ap built_of (reading-negative names scope operand place) ∙ negative_built place (reading names scope operand)

  pub build-group : (inner : Expr) (place : Place) → build names scope (Group inner place) ≡ built_group place (build names scope inner)
  build-group inner place = ap built_of (reading-group names scope inner place) ∙ group_built place (reading names scope inner)

  pub build-chain : (operands : List Expr) (operators : List Operator) → build names scope (Chain operands operators) ≡ chain_built scope (map (build names scope) operands) operators
  build-chain operands operators =
      ap built_of (reading-chain names scope operands operators) ∙ chain_built_is scope (map (reading names scope) operands) operators
      ∙ ap (λ ms. chain_built scope ms operators) (map_twice built_of (reading names scope) operands)

  pub value-built : (e : Expr) → built_value scope (build names scope e) ≡ value names scope e
  value-built e = value_is scope (reading names scope e)

pub ruleset building = (build-number, build-decimal, build-access, build-call, build-quotient, build-negative, build-group, build-chain, value-built)

chained_measured-end : (a : Measured) (js : List Measured) → chained_measured a js [] ≡ a
chained_measured-end a [] = refl
chained_measured-end a (j ∷ js) = refl

-- where the operators end, so does the chain
pub measured_stop : (a : Measured) (js : List Measured) (ops : List Operator) (k : ℕ) → length ops ≤ k → chained_measured a js (drop k ops) ≡ a
measured_stop a js ops k h = rw (drop_all k ops h) (chained_measured-end a js)

-- one operator and one operand further
pub measured_step : (f : Expr → Measured) (es : List Expr) (ops : List Operator) (i : ℕ) (e : Expr) (op : Operator) (a : Measured) → 1 ≤ i → i < length es → i - 1 < length ops → e ≡ get_or es i e → op ≡ get_or ops (i - 1) op
    → chained_measured a (map f (drop i es)) (drop (i - 1) ops) ≡ chained_measured (joined_measured op a (f e)) (map f (drop (i + 1) es)) (drop (i + 1 - 1) ops)
measured_step f es ops i e op a m h l g k =
    let d : drop i es ≡ e ∷ drop (i + 1) es = rw (add-one) (drop-cons es i e h ∙ ap (λ x. x ∷ drop (suc i) es) (sym g)) in
    let b : drop (i - 1) ops ≡ op ∷ drop (suc (i - 1)) ops = drop-cons ops (i - 1) op l ∙ ap (λ x. x ∷ drop (suc (i - 1)) ops) (sym k) in
    let n : suc (i - 1) ≡ i + 1 - 1 = omega arith in
    rw (d, b, n) refl

chained_built-end : (scope : Scope) (a : Built) (js : List Built) → chained_built scope a js [] ≡ a
chained_built-end scope a [] = refl
chained_built-end scope a (j ∷ js) = refl

pub built_stop : (scope : Scope) (a : Built) (js : List Built) (ops : List Operator) (k : ℕ) → length ops ≤ k → chained_built scope a js (drop k ops) ≡ a
built_stop scope a js ops k h = rw (drop_all k ops h) (chained_built-end scope a js)

pub built_step : (scope : Scope) (f : Expr → Built) (es : List Expr) (ops : List Operator) (i : ℕ) (e : Expr) (op : Operator) (a : Built) → 1 ≤ i → i < length es → i - 1 < length ops → e ≡ get_or es i e → op ≡ get_or ops (i - 1) op
    → chained_built scope a (map f (drop i es)) (drop (i - 1) ops) ≡ chained_built scope (joined_built scope op a (f e)) (map f (drop (i + 1) es)) (drop (i + 1 - 1) ops)
built_step scope f es ops i e op a m h l g k =
    let d : drop i es ≡ e ∷ drop (i + 1) es = rw (add-one) (drop-cons es i e h ∙ ap (λ x. x ∷ drop (suc i) es) (sym g)) in
    let b : drop (i - 1) ops ≡ op ∷ drop (suc (i - 1)) ops = drop-cons ops (i - 1) op l ∙ ap (λ x. x ∷ drop (suc (i - 1)) ops) (sym k) in
    let n : suc (i - 1) ≡ i + 1 - 1 = omega arith in
    rw (d, b, n) refl

-- the broken rules and the nodes of a value
pub broken-measure : (names : List Entry) (scope : Scope) (e : Expr) → measured_broken (measure names scope e) ≡ value_broken names scope e
broken-measure names scope e = broken_is (reading names scope e)

pub measured_few : (names : List Entry) (scope : Scope) (e : Expr) → measured_nodes (measure names scope e) ≤ 65
measured_few names scope e = rw (nodes_is scope (reading names scope e)) (omega arith)
