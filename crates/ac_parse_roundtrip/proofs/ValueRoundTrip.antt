-- The rules read values back from the trees of their canonical text.
use Rattle.std.proofs.Common.{◌≡◌, ℕ, suc, List, [], ◌∷◌, map, length, refl, sym, ap, subst, ◌∙◌, rules, Bool, true, false, not, ◌&&◌, ◌||◌, ◌==◌, arith, codes, min, None}
use Rattle.std.proofs.lemmas.Bool.Decides.{nat_tests}
use Rattle.std.specs.Prelude.{slice_get}
use Rattle.ac_syntax.specs.declared.tree.Place.{Place}
use Rattle.ac_syntax.specs.declared.tree.Symbol.{Symbol}
use Rattle.ac_syntax.specs.declared.tree.Quot.{Quot}
use Rattle.ac_syntax.specs.declared.tree.IndexExpr.{IndexExpr}
use Rattle.ac_syntax.specs.declared.tree.Value.{Value, Row_of-Value, end_of-Value, more_of-Value, items-the_row-Value, the_lemmas}
use Rattle.ac_syntax.specs.declared.tree.Value.TheVariants.{Number, Access, Call, Call'}
use Rattle.ac_syntax.specs.Text as text
use Rattle.ac_syntax.specs.Text.{array_name, is_operator, is_decimal}
use Rattle.ac_parse_grammar.specs.declared.tree.Word.{Word}
use Rattle.ac_parse_grammar.specs.declared.tree.Operator.{Operator}
use Rattle.ac_parse_grammar.specs.declared.tree.Operator.TheVariants.{Add, Subtract, Multiply, Divide, Remainder}
use Rattle.ac_parse_grammar.specs.declared.tree.Expr.{Expr}
use Rattle.ac_parse_grammar.specs.declared.tree.Expr.TheVariants as expr
use Rattle.ac_parse_exprs.specs.declared.scope.Entry.{Entry}
use Rattle.ac_parse_exprs.specs.declared.scope.Scope.{Scope}
use Rattle.ac_parse_exprs.specs.declared.scope.Meaning.{Meaning}
use Rattle.ac_parse_exprs.specs.declared.scope.Meaning.TheVariants as means
use Rattle.ac_parse_exprs.specs.declared.index.Judged.{Judged}
use Rattle.ac_parse_exprs.specs.Meanings.{meaning, read_rule}
use Rattle.ac_parse_exprs.specs.Comparisons.{counted, index, index_broken, index_expr}
use Rattle.ac_parse_exprs.specs.Values.{Reading, number, other, reading, value_of, reading_broken, symbol, operator_name, placed, access_broken, call_reading, negative_reading, group_reading, joined_reading, value_place}
use Rattle.ac_parse_exprs.proofs.Absent.{NoneBroken}
use Rattle.ac_parse_exprs.proofs.Collecting.{Within}
use Rattle.ac_parse_exprs.proofs.Readings.{reading-decimal, reading-access, reading-call, reading-negative, reading-group, reading-chain}
use Rattle.ac_parse_roundtrip.specs.CanonicalTrees.{Each, IsWordOf, IsFormTree, sign, IsCallTree, negation, operation, decimal, function, IsValueTree, AreValueTrees}
use Rattle.ac_parse_roundtrip.specs.GrammarPrograms.{count}
use Rattle.ac_parse_roundtrip.specs.PlaceErasure.{nowhere, quot_without_place, form_without_place, forms_without_places, value_without_places, values_without_places}
use Rattle.ac_parse_roundtrip.specs.ColumnNames.{FitsScope, FitScope}
use Rattle.ac_parse_roundtrip.specs.ReadableStatements.{ArrayStands, is_number, some_other, FitsCall, IsReadable, AreReadable}
use Rattle.ac_parse_roundtrip.proofs.FormRoundTrip.{affine, Reads}
use Rattle.ac_parse_roundtrip.proofs.QuotientRoundTrip.{form_read, whole_none, placed_as}
use Rattle.ac_parse_roundtrip.proofs.ConditionRoundTrip.{none_broken, subscripts_none, subscripts_same, same_length}

-- ---- values without places

without_number : (e : IndexExpr) → value_without_places (Number e) ≡ Number (form_without_place e)
unfolding value_without_places
without_number e = refl

without_access : (array : ℕ) (subs : List IndexExpr) (place : Place) → value_without_places (Access array subs place) ≡ Access array (forms_without_places subs) nowhere
unfolding value_without_places
without_access array subs place = refl

without_row : (m : _) (k : Row_of-Value m) → values_without_places k ≡ map value_without_places (items-the_row-Value m k)
unfolding value_without_places values_without_places
without_row m end_of-Value = refl
without_row m (more_of-Value {n = n} v rest) = ap (λ vs. value_without_places v ∷ vs) (without_row n rest)

pub without_call : (s : Symbol) (args : List Value) (place : Place) → value_without_places (Call s args place) ≡ Call s (map value_without_places args) nowhere
unfolding value_without_places
without_call s args place = search (rules, the_lemmas, without_row)

without_placed : (place : Place) (v : Value) → value_without_places (placed place v) ≡ value_without_places v
unfolding value_without_places
without_placed place (Number e) = refl
without_placed place (Access array subs p) = refl
without_placed place (Call' s n args p) = refl

-- ---- what is read of a tree

-- what is judged has the form, but for the places of quotients
pub record IsFormOf (j : Judged) (e : IndexExpr) : Type 0 where
  pub quots : List Quot
  pub same : map quot_without_place quots ≡ map quot_without_place e.quots
  pub each : counted quots ≡ quots
  pub within : Within (affine e.konst e.params e.iters quots)
  pub reads : Reads false j (affine e.konst e.params e.iters quots)

-- a reading is that of a value: nothing is broken in it, and it is the value but for places
abbrev pub ReadAs : Reading → Value → Type 0
ReadAs (number j) v = (e : IndexExpr) × (v ≡ Number e) × IsFormOf j e
ReadAs (other b w) v = (b ≡ None) × (value_without_places w ≡ value_without_places v) × (is_number v ≡ false)

abbrev pub AreReadAs : {m : _} → List Reading → Row_of-Value m → Type 0
AreReadAs [] end_of-Value = Unit {0}
AreReadAs [] (more_of-Value v rest) = ⊥
AreReadAs (r ∷ rs) end_of-Value = ⊥
AreReadAs (r ∷ rs) (more_of-Value v rest) = ReadAs r v × AreReadAs rs rest

pub read_broken : (r : Reading) (v : Value) → ReadAs r v → reading_broken r ≡ None
read_broken (number j) v h = let e = h.0 in whole_none false j (affine e.konst e.params e.iters h.2.quots) h.2.reads
read_broken (other b w) v h = h.0

pub read_value : (scope : Scope) (r : Reading) (v : Value) → ReadAs r v → value_without_places (value_of scope r) ≡ value_without_places v
read_value scope (number j) v h =
    without_number (index_expr scope j) ∙ ap (λ e. Number e) (placed_as scope false j h.0 h.2.quots h.2.same h.2.each h.2.within h.2.reads) ∙ sym (without_number h.0) ∙ ap value_without_places (sym h.1)
read_value scope (other b w) v h = h.1

are_none : {m : _} (rs : List Reading) (row : Row_of-Value m) → AreReadAs rs row → NoneBroken (map reading_broken rs)
are_none [] end_of-Value h = tt
are_none [] (more_of-Value v rest) h = absurd h
are_none (r ∷ rs) end_of-Value h = absurd h
are_none (r ∷ rs) (more_of-Value v rest) h = (read_broken r v h.0, are_none rs rest h.1)

are_same : (scope : Scope) {m : _} (rs : List Reading) (row : Row_of-Value m) → AreReadAs rs row → map value_without_places (map (value_of scope) rs) ≡ values_without_places row
unfolding values_without_places
are_same scope [] end_of-Value h = refl
are_same scope [] (more_of-Value v rest) h = absurd h
are_same scope (r ∷ rs) end_of-Value h = absurd h
are_same scope (r ∷ rs) (more_of-Value v rest) h = rw (read_value scope r v h.0, are_same scope rs rest h.1) refl

are_many : {m : _} (rs : List Reading) (row : Row_of-Value m) → AreReadAs rs row → length rs ≡ count row
are_many [] end_of-Value h = refl
are_many [] (more_of-Value v rest) h = absurd h
are_many (r ∷ rs) end_of-Value h = absurd h
are_many (r ∷ rs) (more_of-Value v rest) h = ap suc (are_many rs rest h.1)

not_number : (v : Value) (e : IndexExpr) → v ≡ Number e → is_number v ≡ false → ⊥
not_number v e h k = let f : is_number v ≡ true = ap is_number h in absurd cc

-- ---- calls

symbol_is : (s : Symbol) (name : List ℕ) (n k : ℕ) → name ≡ s.name → n ≡ k → s.arity ≡ min k 255 → symbol name n ≡ s
symbol_is s name n k e f g = rw (e, f, ← g) refl

abbrev as_called : Symbol → List Value → Value
as_called s ws = Call s ws nowhere

sign_name : (op : Operator) → sign op ≡ operator_name op
sign_name Add = refl
sign_name Subtract = refl
sign_name Multiply = refl
sign_name Divide = refl
sign_name Remainder = refl

sign_operator : (op : Operator) → is_operator (sign op) ≡ true
sign_operator Add = refl
sign_operator Subtract = refl
sign_operator Multiply = refl
sign_operator Divide = refl
sign_operator Remainder = refl

module _ (scope : Scope) where
  group_read : (place : Place) (r : Reading) (v : Value) → ReadAs r v → ReadAs (group_reading place r) v
  group_read place (number j) v h =
      let f = h.2 in
      let r = f.reads in
      (h.0, h.1, record { quots = f.quots; same = f.same; each = f.each; within = f.within; reads = record { form = r.form; large = r.large; affine = r.affine; exact = r.exact; broken = r.broken } })
  group_read place (other b w) v h = (h.0, without_placed place w ∙ h.1, h.2)

  -- a value that is called of what is read
  abbrev IsCalled : Symbol → {m : _} → Row_of-Value m → Value → Type 0
  IsCalled s row v = (value_without_places v ≡ as_called s (values_without_places row)) × (is_number v ≡ false)

  made_call : (s t : Symbol) (ws : List Value) (place : Place) {m : _} (row : Row_of-Value m) (v : Value) → t ≡ s → map value_without_places ws ≡ values_without_places row → IsCalled s row v
      → value_without_places (Call t ws place) ≡ value_without_places v
  made_call s t ws place row v e h c = without_call t ws place ∙ (rw (e, h) refl) ∙ sym c.0

  -- an operator of two
  two_read : (op : Operator) (r q : Reading) (s : Symbol) {m : _} (row : Row_of-Value m) (x y v : Value) → symbol (operator_name op) 2 ≡ s
      → value_without_places x ∷ value_without_places y ∷ [] ≡ values_without_places row → (is_number x ≡ true → is_number y ≡ false) → ReadAs r x → ReadAs q y → IsCalled s row v → ReadAs (joined_reading scope op r q) v
  two_read op (number i) (number j) s row x y v e f n h k c = absurd (not_number y k.0 k.1 (n (ap is_number h.1)))
  two_read op (number i) (other b w) s row x y v e f n h k c =
      let p = read_value scope (number i) x h in
      (rw (read_broken (number i) x h, k.0) refl, made_call s (symbol (operator_name op) 2) (value_of scope (number i) ∷ w ∷ []) (value_place (value_of scope (number i))) row v e (rw (p, k.1) f) c, c.1)
  two_read op (other a u) q s row x y v e f n h k c =
      let p = read_value scope q y k in
      (rw (h.0, read_broken q y k) refl, made_call s (symbol (operator_name op) 2) (u ∷ value_of scope q ∷ []) (value_place u) row v e (rw (h.1, p) f) c, c.1)

  -- a minus of one
  one_read : (r : Reading) (s : Symbol) {m : _} (row : Row_of-Value m) (x v : Value) (place : Place) → symbol (codes "-") 1 ≡ s → value_without_places x ∷ [] ≡ values_without_places row → is_number x ≡ false
      → ReadAs r x → IsCalled s row v → ReadAs (negative_reading place r) v
  one_read (number j) s row x v place e f n h c = absurd (not_number x h.0 h.1 n)
  one_read (other b w) s row x v place e f n h c = (h.0, made_call s (symbol (codes "-") 1) (w ∷ []) place row v e (rw h.1 f) c, c.1)

  -- a function of what is read
  function_read : (m : Meaning) (word : Word) (rs : List Reading) (s : Symbol) {k : _} (row : Row_of-Value k) (v : Value) → m ≡ means.Nothing
      → symbol word.name (length rs) ≡ s → AreReadAs rs row → IsCalled s row v → ReadAs (call_reading scope m word rs) v
  function_read m word rs s row v e f h c = (
    rw (e, none_broken (map reading_broken rs) (are_none rs row h)) refl,
    made_call s (symbol word.name (length rs)) (map (value_of scope) rs) word.place row v f (are_same scope rs row h) c,
    c.1,
  )

not_both : (b : Bool) → (b && false) ≡ false
not_both true = refl
not_both false = refl

one_other : (a : Bool) → (not a || false) ≡ true → a ≡ false
one_other true h = absurd cc
one_other false h = refl

two_other : (a b : Bool) → (not a || (not b || false)) ≡ true → a ≡ true → b ≡ false
two_other true true h k = absurd cc
two_other true false h k = refl
two_other false b h k = absurd cc

module _ (names : List Entry) (scope : Scope) (written : text.Scope) where
  pub access_none : (array dimensions : ℕ) (word : Word) (ts : List Expr) → length ts ≡ dimensions → NoneBroken (map (index_broken names scope) ts)
      → access_broken names scope (read_rule (means.Array array dimensions) (length ts)) word ts ≡ None
  access_none array dimensions word ts l h =
      let t : (length ts == dimensions) ≡ true = grind (arith, nat_tests) in
      rw (t, none_broken (map (index_broken names scope) ts) h) refl

  access_read : (array : ℕ) (subs : List IndexExpr) (place : Place) (word : Word) (ts : List Expr) → ArrayStands names scope written array (length subs) → IsWordOf (array_name (slice_get written.arrays array)) word
      → FitScope names scope written subs → Each (IsFormTree written) subs ts → ReadAs (reading names scope (expr.Access word ts)) (Access array subs place)
  access_read array subs place word ts s e fit t =
      let m : meaning names scope word.name ≡ means.Array array (length subs) = ap (meaning names scope) e ∙ s.means in
      let f = without_access array (map (index names scope) ts) word.place ∙ ap (λ es. Access array es nowhere) (subscripts_same names scope written subs ts fit t) ∙ sym (without_access array subs place) in
      rw (reading-access names scope word ts, m, not_both (length ts == 0))
      (access_none array (length subs) word ts (same_length (IsFormTree written) subs ts t) (subscripts_none names scope written subs ts fit t), f, refl)

  call_read : (s : Symbol) {m : _} (row : Row_of-Value m) (v : Value) (ts : List Expr) (tree : Expr) → FitsCall names scope s (count row) (some_other row) → IsCalled scope s row v
      → AreReadAs (map (reading names scope) ts) row → IsCallTree s.name ts tree → ReadAs (reading names scope tree) v
  unfolding values_without_places
  call_read s end_of-Value v ts tree fit c h (negation {operand = operand} minus place e) = absurd h
  call_read s (more_of-Value x end_of-Value) v ts tree fit c h (negation {operand = operand} minus place e) =
      let f = symbol_is s (codes "-") 1 1 (sym e) refl fit.arity in
      rw (reading-group names scope (expr.Negative operand minus) place, reading-negative names scope operand minus)
      (group_read scope place (negative_reading minus (reading names scope operand)) v
      (one_read scope (reading names scope operand) s (more_of-Value x end_of-Value) x v minus f refl (one_other (is_number x) (fit.operator (ap is_operator e))) h.0 c))
  call_read s (more_of-Value x (more_of-Value y rest)) v ts tree fit c h (negation {operand = operand} minus place e) = absurd h.1
  call_read s end_of-Value v ts tree fit c h (operation {left = left} {right = right} op place e) = absurd h
  call_read s (more_of-Value x end_of-Value) v ts tree fit c h (operation {left = left} {right = right} op place e) = absurd h.1
  call_read s (more_of-Value x (more_of-Value y end_of-Value)) v ts tree fit c h (operation {left = left} {right = right} op place e) =
      let f = symbol_is s (operator_name op) 2 2 (sym (sign_name op) ∙ sym e) refl fit.arity in
      rw (reading-group names scope (expr.Chain (left ∷ right ∷ []) (op ∷ [])) place, reading-chain names scope (left ∷ right ∷ []) (op ∷ []))
      (group_read scope place (joined_reading scope op (reading names scope left) (reading names scope right)) v
      (two_read scope op (reading names scope left) (reading names scope right) s (more_of-Value x (more_of-Value y end_of-Value)) x y v f refl
      (two_other (is_number x) (is_number y) (fit.operator (ap is_operator e ∙ sign_operator op))) h.0 h.1.0 c))
  call_read s (more_of-Value x (more_of-Value y (more_of-Value z rest))) v ts tree fit c h (operation {left = left} {right = right} op place e) = absurd h.1.1
  call_read s end_of-Value v ts tree fit c h (decimal word is e) =
      let f = symbol_is s word.name 0 0 e refl fit.arity in
      rw (reading-decimal names scope word) (refl, made_call scope s (symbol word.name 0) [] word.place end_of-Value v f refl c, c.1)
  call_read s (more_of-Value x rest) v ts tree fit c h (decimal word is e) = absurd h
  call_read s row v ts tree fit c h (function word {args = args} apart whole e) =
      let f = symbol_is s word.name (length (map (reading names scope) ts)) (count row) e (are_many (map (reading names scope) ts) row h) fit.arity in
      let g = fit.function apart whole in
      rw (reading-call names scope word ts)
      (function_read scope (meaning names scope word.name) word (map (reading names scope) ts) s row v (ap (meaning names scope) e ∙ g.means) f h c)

  number_group : (e : IndexExpr) (inner : Expr) (place : Place) → FitsScope names scope written e → IsFormTree written e inner → ReadAs (reading names scope (expr.Group inner place)) (Number e)
  number_group e inner place fit t =
      let r = form_read names scope written e fit inner t in
      let f = r.3.form in
      rw (reading-group names scope inner place, r.3.alone)
      (e, refl, record { quots = r.0; same = r.1.0; each = r.1.1; within = r.2; reads = record { form = f.form; large = f.large; affine = f.affine; exact = f.exact; broken = f.broken } })

  mutual
    unfolding IsValueTree AreValueTrees IsReadable AreReadable value_without_places values_without_places

    pub value_read : (v : Value) (tree : Expr) → IsReadable names scope written v → IsValueTree written v tree → ReadAs (reading names scope tree) v
    value_read (Number e) tree fit t = subst (λ x. ReadAs (reading names scope x) (Number e)) (sym t.3) (number_group e t.0 t.1 fit t.2)
    value_read (Access array subs place) tree fit t =
        subst (λ x. ReadAs (reading names scope x) (Access array subs place)) (sym t.4) (access_read array subs place t.0 t.1 fit.0 t.2 fit.1 t.3)
    value_read (Call' s n args place) tree fit t =
        call_read s args (Call' s n args place) t.0 tree fit.0 (refl, refl) (values_read args t.0 fit.1 t.1) t.2

    values_read : {m : _} (row : Row_of-Value m) (ts : List Expr) → AreReadable names scope written row → AreValueTrees written row ts → AreReadAs (map (reading names scope) ts) row
    values_read end_of-Value ts fit t = subst (λ us. AreReadAs (map (reading names scope) us) end_of-Value) (sym t) tt
    values_read (more_of-Value v rest) ts fit t =
        subst (λ us. AreReadAs (map (reading names scope) us) (more_of-Value v rest)) (sym t.4) (value_read v t.0 fit.0 t.2, values_read rest t.1 fit.1 t.3)
