-- What holds of index expressions, of what is read of arrays and of calls of values with it holds of each value of a program.
use Rattle.std.proofs.Common.{List, [], ◌∷◌, map, length, sym, subst, Bool, true, false, not, ◌&&◌, ◌==◌, cond, codes, ◌≡◌, ℤ, Option}
use Rattle.std.specs.List.{AllByRecursion}
use Rattle.ac_syntax.specs.declared.tree.Place.{Place}
use Rattle.ac_syntax.specs.declared.tree.Quot.{Quot}
use Rattle.ac_syntax.specs.declared.tree.Symbol.{Symbol}
use Rattle.ac_syntax.specs.declared.tree.Value.{Value}
use Rattle.ac_syntax.specs.declared.tree.Value.TheVariants as v
use Rattle.ac_parse_grammar.specs.declared.tree.Word.{Word}
use Rattle.ac_parse_grammar.specs.declared.tree.Numeral.{Numeral}
use Rattle.ac_parse_grammar.specs.declared.tree.Operator.{Operator}
use Rattle.ac_parse_grammar.specs.declared.tree.Expr.{Expr}
use Rattle.ac_parse_exprs.specs.declared.fault.Broken.{Broken}
use Rattle.ac_parse_exprs.specs.declared.form.Affine.{Affine}
use Rattle.ac_parse_exprs.specs.declared.index.Judged.{Judged}
use Rattle.ac_parse_exprs.specs.declared.scope.Entry.{Entry}
use Rattle.ac_parse_exprs.specs.declared.scope.Meaning.{Meaning}
use Rattle.ac_parse_exprs.specs.declared.scope.Scope.{Scope}
use Rattle.ac_parse_exprs.specs.Meanings.{meaning, is_array, read_rule}
use Rattle.ac_parse_exprs.specs.AffineForms.{is_small}
use Rattle.ac_parse_exprs.specs.IndexExpressions.{quot_of, judged_name, judged}
use Rattle.ac_parse_exprs.specs.Comparisons.{index_expr}
use Rattle.ac_parse_exprs.specs.Values.{Reading, number, other, reading, value_place, placed, value_of, symbol, operator_name, access_broken, read_of, access_reading, call_reading, negative_reading, group_reading, applied_values, joined_reading, chained_reading, chain_reading, value}
use Rattle.ac_parse_exprs.proofs.Absent.{each_further, each_map}
use Rattle.ac_parse_exprs.proofs.Collecting.{Shaped, form_shaped, negative_shaped}
use Rattle.ac_parse_exprs.proofs.Judges.{judges, number_judges, name_shaped, quotient_judges}
use Rattle.ac_parse_exprs.proofs.QuotientForms.{MayDivide, Hold, hold_form, hold_negative, hold_name, hold_number, hold_quotient}
use Rattle.ac_parse_exprs.proofs.Readings.{reading-number, reading-decimal, reading-access, reading-call, reading-quotient, reading-negative, reading-group, reading-chain}
use Rattle.ac_parse_exprs.proofs.Trees.{every_expr}

module _ (names : List Entry) (scope : Scope) (Has : Value → Type 0)
    (P : Quot → Type 0) (keeps : (q : Quot) (c : ℤ) → is_small c ≡ true → P q → P (record q { coef = c })) (made : (up : Bool) (n : Numeral) (place : Place) (f : Affine) → MayDivide scope up n f → P (quot_of up n place f))
    (number_has : (j : Judged) → Shaped scope.params (length scope.iterators) j.form → Hold P keeps j.form → Has (v.Number (index_expr scope j)))
    (read_has : (m : Meaning) (word : Word) (subs : List Expr) → Has (read_of names scope m word subs))
    (call_has : (s : Symbol) (args : List Value) (place : Place) → AllByRecursion Has args → Has (v.Call s args place))
    (placed_has : (place : Place) (x : Value) → Has x → Has (placed place x)) where
  abbrev ReadingHas : Reading → Type 0
  ReadingHas (number j) = Shaped scope.params (length scope.iterators) j.form × Hold P keeps j.form
  ReadingHas (other b x) = Has x

  value_has : (r : Reading) → ReadingHas r → Has (value_of scope r)
  value_has (number j) h = number_has j h.0 h.1
  value_has (other b x) h = h

  applied_has : (op : Operator) (x y : Value) → Has x → Has y → Has (applied_values op x y)
  applied_has op x y h k = call_has (symbol (operator_name op) 2) (x ∷ y ∷ []) (value_place x) (h, (k, tt))

  access_case : (m : Meaning) (word : Word) (subs : List Expr) (b : Option Broken) (alone : Bool) → ReadingHas (cond alone (number (judged_name scope m word)) (other b (read_of names scope m word subs)))
  access_case m word subs b true = (name_shaped scope m, hold_name P keeps names scope made m)
  access_case m word subs b false = read_has m word subs

  access_reading_has : (m : Meaning) (word : Word) (subs : List Expr) → ReadingHas (access_reading names scope m word subs)
  access_reading_has m word subs = access_case m word subs (access_broken names scope (read_rule m (length subs)) word subs) ((length subs == 0) && not (is_array m))

  call_reading_has : (m : Meaning) (word : Word) (rs : List Reading) → AllByRecursion ReadingHas rs → ReadingHas (call_reading scope m word rs)
  call_reading_has m word rs h =
      call_has (symbol word.name (length rs)) (map (value_of scope) rs) word.place (each_map (value_of scope) Has rs (each_further ReadingHas (λ r. Has (value_of scope r)) value_has rs h))

  negative_has : (place : Place) (r : Reading) → ReadingHas r → ReadingHas (negative_reading place r)
  negative_has place (number j) h = (negative_shaped scope.params (length scope.iterators) j.form h.0, hold_negative P keeps j.form h.1)
  negative_has place (other b x) h = call_has (symbol (codes "-") 1) (x ∷ []) place (h, tt)

  group_has : (place : Place) (r : Reading) → ReadingHas r → ReadingHas (group_reading place r)
  group_has place (number j) h = h
  group_has place (other b x) h = placed_has place x h

  joined_has : (op : Operator) (r s : Reading) → ReadingHas r → ReadingHas s → ReadingHas (joined_reading scope op r s)
  joined_has op (number i) (number j) h k = (form_shaped scope.params (length scope.iterators) op i.form j.form h.0 k.0, hold_form P keeps op i.form j.form h.1 k.1)
  joined_has op (number i) (other b y) h k = applied_has op (v.Number (index_expr scope i)) y (number_has i h.0 h.1) k
  joined_has op (other b x) s h k = applied_has op x (value_of scope s) h (value_has s k)

  chained_has : (r : Reading) (rs : List Reading) (ops : List Operator) → ReadingHas r → AllByRecursion ReadingHas rs → ReadingHas (chained_reading scope r rs ops)
  chained_has r [] ops h k = h
  chained_has r (s ∷ rs) [] h k = h
  chained_has r (s ∷ rs) (op ∷ ops) h k = chained_has (joined_reading scope op r s) rs ops (joined_has op r s h k.0) k.1

  chain_has : (rs : List Reading) (ops : List Operator) → AllByRecursion ReadingHas rs → ReadingHas (chain_reading scope rs ops)
  chain_has [] ops h = ((number_judges scope (record { number = 0; place = record { at = 0 } })).0, hold_number P keeps names scope made (record { number = 0; place = record { at = 0 } }))
  chain_has (r ∷ rs) ops h = chained_has r rs ops h.0 h.1

  reading_has : (e : Expr) → ReadingHas (reading names scope e)
  reading_has = every_expr (λ e. ReadingHas (reading names scope e))
      (λ n. subst ReadingHas (sym (reading-number names scope n)) ((number_judges scope n).0, hold_number P keeps names scope made n))
      (λ word. subst ReadingHas (sym (reading-decimal names scope word)) (call_has (symbol word.name 0) [] word.place tt))
      (λ name subs h. subst ReadingHas (sym (reading-access names scope name subs)) (access_reading_has (meaning names scope name.name) name subs))
      (λ name args h. subst ReadingHas (sym (reading-call names scope name args))
      (call_reading_has (meaning names scope name.name) name (map (reading names scope) args) (each_map (reading names scope) ReadingHas args h)))
      (λ up argument divisor place h. subst ReadingHas (sym (reading-quotient names scope up argument divisor place))
      ((quotient_judges scope up divisor place (judged names scope argument) (judges names scope argument)).0, hold_quotient P keeps names scope made up divisor place (judged names scope argument) (judges names scope argument).0))
      (λ operand place h. subst ReadingHas (sym (reading-negative names scope operand place)) (negative_has place (reading names scope operand) h))
      (λ inner place h. subst ReadingHas (sym (reading-group names scope inner place)) (group_has place (reading names scope inner) h))
      (λ operands operators h. subst ReadingHas (sym (reading-chain names scope operands operators))
      (chain_has (map (reading names scope) operands) operators (each_map (reading names scope) ReadingHas operands h)))

  -- the value of an expression
  pub whole_has : (e : Expr) → Has (value names scope e)
  whole_has e = value_has (reading names scope e) (reading_has e)
