-- The form of an expression has its value.
use Rattle.std.proofs.Common.{◌≡◌, ℕ, ◌<◌, zero, suc, ℤ, pos, negsuc, neg_ℤ, ◌+ℤ◌, ◌-ℤ◌, ◌*ℤ◌, List, [], ◌∷◌, map, length, Bool, true, false, not, cond, ◌&&◌, ◌||◌, ◌==◌, refl, sym, ap, subst, ◌∙◌, rules, Option, Some, None, arith}
use Rattle.std.specs.Option.{option_map, option_and_then}
use Rattle.std.specs.Int.{int_div_euclid}
use Rattle.ac_base.specs.Dot.{dot}
use Rattle.ac_base.proofs.Floor.{ceil_is}
use Rattle.std.proofs.lemmas.Int.{ints}
use Rattle.std.specs.List.{AllByRecursion}
use Rattle.std.proofs.lemmas.List.{length-map}
use Rattle.ac_syntax.specs.Index.{Point, is_zero, quot_value, quots_value, index_value}
use Rattle.ac_syntax.specs.declared.tree.Quot.{Quot}
use Rattle.ac_syntax.specs.declared.tree.Place.{Place}
use Rattle.ac_parse_grammar.specs.declared.tree.Word.{Word}
use Rattle.ac_parse_grammar.specs.declared.tree.Numeral.{Numeral}
use Rattle.ac_parse_grammar.specs.declared.tree.Operator.{Operator}
use Rattle.ac_parse_grammar.specs.declared.tree.Expr.{Expr, the_lemmas}
use Rattle.ac_parse_grammar.specs.declared.tree.Expr.TheVariants.{Number, Decimal, Access, Call, Quotient, Negative, Group, Chain}
use Rattle.ac_parse_exprs.specs.declared.form.Affine.{Affine}
use Rattle.ac_parse_exprs.specs.declared.form.Collected.{Collected}
use Rattle.ac_parse_exprs.specs.declared.form.Collected.TheVariants.{Known, Large, Unknown}
use Rattle.ac_parse_exprs.specs.declared.index.Judged.{Judged}
use Rattle.ac_parse_exprs.specs.declared.index.Parts.{Parts}
use Rattle.ac_parse_exprs.specs.declared.scope.Entry.{Entry}
use Rattle.ac_parse_exprs.specs.declared.scope.Meaning.{Meaning}
use Rattle.ac_parse_exprs.specs.declared.scope.Meaning.TheVariants.{Parameter, Iterator, Array, LoopName, OwnStart, Nothing}
use Rattle.ac_parse_exprs.specs.declared.scope.Scope.{Scope}
use Rattle.ac_parse_exprs.specs.AffineForms.{is_small, zeros, constant_form, quotient_form, is_within}
use Rattle.ac_parse_exprs.specs.Meanings.{meaning, is_array, read_rule}
use Rattle.ac_parse_exprs.specs.IndexExpressions.{is_long, is_refused, added, quot_of, quotient_of, judged_quotient, judged_number, name_form, judged_name, judged_other, judged_variable, judged_access, gathered, no_parts, joined, chained, judged_chain, judged}
use Rattle.ac_parse_exprs.specs.Comparisons.{counted, index_expr, placed_form, form_or_zero}
use Rattle.ac_parse_exprs.specs.WrittenValues.{meant_integer, integer_of, rounded, operated, operated_all, chain_value, expression_value}
use Rattle.ac_parse_exprs.specs.FormValues.{AreNumbered, IsPointOf, form_value, FormsHaveValues, IndicesHaveValues}
use Rattle.ac_parse_exprs.proofs.Absent.{each}
use Rattle.ac_parse_exprs.proofs.Collecting.{Shaped, IsKnown, form_shaped}
use Rattle.ac_parse_exprs.proofs.FormValues.{Agrees, dot-zeros, value-constant, value-parameter, value-iterator, negative_agrees, form_agrees, stands_at}
use Rattle.ac_parse_exprs.proofs.Judges.{judges, whole_known}
use Rattle.ac_parse_exprs.proofs.Judging.{judged-number, judged-decimal, judged-access, judged-call, judged-quotient, judged-negative, judged-group, judged-chain}
use Rattle.ac_parse_exprs.proofs.NumberedMeanings.{IsIn, meaning_in}
use Rattle.ac_parse_exprs.proofs.QuotientForms.{not_refused}
use Rattle.ac_parse_exprs.proofs.Trees.{every_expr}
use Rattle.ac_parse_exprs.proofs.Unrounded.{NoQuots, IsUnrounded, none_left, unrounded}

module _ (integer : List ℕ → Option ℤ) where
  pub value-number : (n : Numeral) → expression_value integer (Number n) ≡ Some (pos n.number)
  unfolding expression_value
  value-number n = search (rules, the_lemmas)

  pub value-decimal : (word : Word) → expression_value integer (Decimal word) ≡ None
  unfolding expression_value
  value-decimal word = search (rules, the_lemmas)

  pub value-access : (name : Word) (subs : List Expr) → expression_value integer (Access name subs) ≡ cond (length subs == 0) (integer name.name) None
  unfolding expression_value
  value-access name subs = search (rules, the_lemmas, length-map)

  pub value-call : (name : Word) (args : List Expr) → expression_value integer (Call name args) ≡ None
  unfolding expression_value
  value-call name args = search (rules, the_lemmas)

  pub value-quotient : (up : Bool) (argument : Expr) (divisor : Numeral) (place : Place) → expression_value integer (Quotient up argument divisor place) ≡ option_and_then (rounded up divisor.number) (expression_value integer argument)
  unfolding expression_value
  value-quotient up argument divisor place = search (rules, the_lemmas)

  pub value-negative : (operand : Expr) (place : Place) → expression_value integer (Negative operand place) ≡ option_map neg_ℤ (expression_value integer operand)
  unfolding expression_value
  value-negative operand place = search (rules, the_lemmas)

  pub value-group : (inner : Expr) (place : Place) → expression_value integer (Group inner place) ≡ expression_value integer inner
  unfolding expression_value
  value-group inner place = search (rules, the_lemmas)

  pub value-chain : (operands : List Expr) (operators : List Operator) → expression_value integer (Chain operands operators) ≡ chain_value (map (expression_value integer) operands) operators
  unfolding expression_value
  value-chain operands operators = search (rules, the_lemmas)

number_case : (p : Point) (ps xs n : ℕ) (b : Bool) → Agrees p (cond b (Large true) (Known (constant_form ps xs (pos n)))) (Some (pos n))
number_case p ps xs n true = tt
number_case p ps xs n false = ap (λ z. Some z) (sym (value-constant p ps xs (pos n)))

pub number_agrees : (p : Point) (scope : Scope) (n : Numeral) → Agrees p (judged_number scope n).form (Some (pos n.number))
number_agrees p scope n = number_case p scope.params (length scope.iterators) n.number (is_long n)

pub name_agrees : (p : Point) (scope : Scope) → IsPointOf scope p → (m : Meaning) → IsIn scope m → Agrees p (name_form scope m) (meant_integer p m)
name_agrees p scope o (Parameter k) h =
    let s = stands_at p.params k (subst (λ n. k < n) (sym o.0) h) in
    s.1 ∙ ap (λ z. Some z) (sym (value-parameter p scope.params (length scope.iterators) k s.0 o.0 s.1))
name_agrees p scope o (Iterator k) h =
    let s = stands_at p.iters k (subst (λ n. k < n) (sym o.1) h) in
    s.1 ∙ ap (λ z. Some z) (sym (value-iterator p scope.params (length scope.iterators) k s.0 o.1 s.1))
name_agrees p scope o (Array number dimensions) h = tt
name_agrees p scope o LoopName h = tt
name_agrees p scope o OwnStart h = tt
name_agrees p scope o Nothing h = tt

access_case : (p : Point) (scope : Scope) (m : Meaning) (word : Word) (subs : ℕ) (parts : Parts) (fixed array none : Bool) → Agrees p (name_form scope m) (meant_integer p m)
    → Agrees p (cond (fixed && array) (judged_variable word) (cond (none && not array) (judged_name scope m word) (judged_other (read_rule m subs) word parts))).form (cond none (meant_integer p m) None)
access_case p scope m word subs parts true true none h = tt
access_case p scope m word subs parts false true true h = tt
access_case p scope m word subs parts false true false h = tt
access_case p scope m word subs parts true false true h = h
access_case p scope m word subs parts false false true h = h
access_case p scope m word subs parts true false false h = tt
access_case p scope m word subs parts false false false h = tt

access_agrees : (p : Point) (scope : Scope) (m : Meaning) (word : Word) (subs : ℕ) (parts : Parts) → Agrees p (name_form scope m) (meant_integer p m)
    → Agrees p (judged_access scope m word subs parts).form (cond (subs == 0) (meant_integer p m) None)
access_agrees p scope m word subs parts h = access_case p scope m word subs parts scope.fixed (is_array m) (subs == 0) h

-- ---- quotients

once : (u w q : ℤ) → u ≡ pos 0 → w ≡ pos 0 → pos 0 +ℤ (u +ℤ (w +ℤ ((pos 1 *ℤ q) +ℤ pos 0))) ≡ q
once u w q h k = omega (arith, ints, h, k)

value-quotient_form : (p : Point) (ps xs : ℕ) (q : Quot) → q.coef ≡ pos 1 → form_value p (quotient_form ps xs q) ≡ quot_value p q
value-quotient_form p ps xs q h = rw h (once (dot (zeros ps) p.params) (dot (zeros xs) p.iters) (quot_value p q) (dot-zeros ps p.params) (dot-zeros xs p.iters))

rearranged : (c d u w : ℤ) → (c +ℤ (u +ℤ (w +ℤ pos 0))) +ℤ d ≡ (c +ℤ d) +ℤ (u +ℤ w)
rearranged c d u w = omega (arith, ints)

-- rounded down, or up, as the quotient that is collected
rounds_to : (up : Bool) (k : ℕ) (c u w : ℤ) → (k == 0) ≡ false → rounded up k (c +ℤ (u +ℤ (w +ℤ pos 0))) ≡ Some (int_div_euclid ((c +ℤ cond up (pos k -ℤ pos 1) (pos 0)) +ℤ (u +ℤ w)) (pos k))
rounds_to up zero c u w h = absurd cc
rounds_to true (suc k) c u w h =
    ap Some (ceil_is (c +ℤ (u +ℤ (w +ℤ pos 0))) (pos (suc k)) (omega (arith, ints)) ∙ ap (λ z. int_div_euclid z (pos (suc k))) (rearranged c (pos (suc k) -ℤ pos 1) u w))
rounds_to false (suc k) c u w h = ap Some (ap (λ z. int_div_euclid z (pos (suc k))) (plain c u w))
  where
    plain : (c u w : ℤ) → c +ℤ (u +ℤ (w +ℤ pos 0)) ≡ (c +ℤ pos 0) +ℤ (u +ℤ w)
    plain c u w = omega (arith, ints)

quot_agrees : (p : Point) (scope : Scope) (up : Bool) (n : Numeral) (place : Place) (f : Affine) (v : Option ℤ) → (n.number == 0) ≡ false → f.quots ≡ [] → v ≡ Some (form_value p f)
    → option_and_then (rounded up n.number) v ≡ Some (form_value p (quotient_form scope.params (length scope.iterators) (quot_of up n place f)))
quot_agrees p scope up n place f v d e h =
    let u = dot f.params p.params in
    let w = dot f.iters p.iters in
    ap (option_and_then (rounded up n.number)) (h ∙ ap (λ (qs : List Quot). Some (f.constant +ℤ (u +ℤ (w +ℤ quots_value p qs)))) e)
    ∙ rounds_to up n.number f.constant u w d ∙ ap Some (sym (value-quotient_form p scope.params (length scope.iterators) (quot_of up n place f) refl))

rounded_by : (p : Point) (scope : Scope) (up : Bool) (n : Numeral) (place : Place) (f : Affine) (v : Option ℤ) (b : Bool)
    → option_and_then (rounded up n.number) v ≡ Some (form_value p (quotient_form scope.params (length scope.iterators) (quot_of up n place f)))
    → Agrees p (cond b (Known (quotient_form scope.params (length scope.iterators) (quot_of up n place f))) (Large false)) (option_and_then (rounded up n.number) v)
rounded_by p scope up n place f v true h = h
rounded_by p scope up n place f v false h = tt

rounded_agrees : (p : Point) (scope : Scope) (up : Bool) (n : Numeral) (place : Place) (c : Collected) (v : Option ℤ) → (n.number == 0) ≡ false → NoQuots c → Agrees p c v
    → Agrees p (quotient_of scope up n place c) (option_and_then (rounded up n.number) v)
rounded_agrees p scope up n place (Known f) v d q h = rounded_by p scope up n place f v (is_within f && is_small (f.constant +ℤ added up n)) (quot_agrees p scope up n place f v d (none_left f.quots q) h)
rounded_agrees p scope up n place (Large constant) v d q h = tt
rounded_agrees p scope up n place Unknown v d q h = tt

pub unless_agrees : (p : Point) (a b : Bool) (c : Collected) (v : Option ℤ) → (a ≡ false → Agrees p c v) → Agrees p (cond (a || b) Unknown c) v
unless_agrees p true b c v h = tt
unless_agrees p false true c v h = tt
unless_agrees p false false c v h = h refl

pub quotient_agrees : (p : Point) (scope : Scope) (up : Bool) (n : Numeral) (place : Place) (j : Judged) (v : Option ℤ) → IsUnrounded j → Agrees p j.form v
    → Agrees p (judged_quotient scope up n place j).form (option_and_then (rounded up n.number) v)
quotient_agrees p scope up n place j v u h = unless_agrees p (is_refused scope n j) (is_long n) (quotient_of scope up n place j.form) (option_and_then (rounded up n.number) v) (λ e.
    let r = not_refused scope n j e in
    rounded_agrees p scope up n place j.form v r.1 (u r.2) h)

module _ (names : List Entry) (scope : Scope) (p : Point) (a : AreNumbered scope.params names) (o : IsPointOf scope p) where
  abbrev value : Expr → Option ℤ
  value e = expression_value (integer_of names scope p) e

  abbrev Good : Expr → Type 0
  Good e = Agrees p (judged names scope e).form (value e)

  abbrev IsShaped : Collected → Type 0
  IsShaped c = Shaped scope.params (length scope.iterators) c

  chained_agrees : (j : Judged) (v : Option ℤ) (es : List Expr) (ops : List Operator) → IsShaped j.form → Agrees p j.form v → AllByRecursion Good es
      → Agrees p (chained j (map (judged names scope) es) ops).form (operated_all v (map value es) ops)
  chained_agrees j v [] ops s h k = h
  chained_agrees j v (e ∷ es) [] s h k = h
  chained_agrees j v (e ∷ es) (op ∷ ops) s h k =
      let t = (judges names scope e).0 in
      chained_agrees (joined op j (judged names scope e)) (operated op v (value e)) es ops
      (form_shaped scope.params (length scope.iterators) op j.form (judged names scope e).form s t)
      (form_agrees p scope.params (length scope.iterators) op j.form (judged names scope e).form v (value e) s t h k.0) k.1

  chain_agrees : (es : List Expr) (ops : List Operator) → AllByRecursion Good es → Agrees p (judged_chain scope (map (judged names scope) es) ops).form (chain_value (map value es) ops)
  chain_agrees [] ops h = number_agrees p scope (record { number = 0; place = record { at = 0 } })
  chain_agrees (e ∷ es) ops h = chained_agrees (judged names scope e) (value e) es ops (judges names scope e).0 h.0 h.1

  -- by equations of both sides
  agree_by : (e : Expr) (j : Judged) (v : Option ℤ) → judged names scope e ≡ j → value e ≡ v → Agrees p j.form v → Good e
  agree_by e j v h k g = rw (h, k) g

  pub expressions_agree : (e : Expr) → Good e
  expressions_agree = every_expr Good
      (λ n. agree_by (Number n) _ _ (judged-number names scope n) (value-number (integer_of names scope p) n) (number_agrees p scope n))
      (λ word. agree_by (Decimal word) _ _ (judged-decimal names scope word) (value-decimal (integer_of names scope p) word) tt)
      (λ name subs h. agree_by (Access name subs) _ _ (judged-access names scope name subs) (value-access (integer_of names scope p) name subs)
      (access_agrees p scope (meaning names scope name.name) name (length subs) (gathered no_parts (map (judged names scope) subs)) (name_agrees p scope o (meaning names scope name.name) (meaning_in scope names name.name a))))
      (λ name args h. agree_by (Call name args) _ _ (judged-call names scope name args) (value-call (integer_of names scope p) name args) tt)
      (λ up argument divisor place h. agree_by (Quotient up argument divisor place) _ _ (judged-quotient names scope up argument divisor place) (value-quotient (integer_of names scope p) up argument divisor place)
      (quotient_agrees p scope up divisor place (judged names scope argument) (value argument) (unrounded names scope argument) h))
      (λ operand place h. agree_by (Negative operand place) _ _ (judged-negative names scope operand place) (value-negative (integer_of names scope p) operand place) (negative_agrees p (judged names scope operand).form (value operand) h))
      (λ inner place h. agree_by (Group inner place) _ _ (judged-group names scope inner place) (value-group (integer_of names scope p) inner place) h)
      (λ operands operators h. agree_by (Chain operands operators) _ _ (judged-chain names scope operands operators) (value-chain (integer_of names scope p) operands operators) (chain_agrees operands operators h))

  pub chains_agree : (es : List Expr) (ops : List Operator) → Agrees p (judged_chain scope (map (judged names scope) es) ops).form (chain_value (map value es) ops)
  chains_agree es ops = chain_agrees es ops (each Good expressions_agree es)

pub the_known : (c : Collected) → IsKnown c → (f : Affine) × (c ≡ Known f) × (is_within f ≡ true)
the_known (Known f) h = (f, refl, h)
the_known (Large c) h = absurd h
the_known Unknown h = absurd h

pub known_agrees : (p : Point) (c : Collected) (f : Affine) (v : Option ℤ) → c ≡ Known f → Agrees p c v → v ≡ Some (form_value p f)
known_agrees p c f v h k = subst (λ c. Agrees p c v) h k

pub forms_have_values : FormsHaveValues
forms_have_values names scope p a o e f h = known_agrees p (judged names scope e).form f (expression_value (integer_of names scope p) e) h (expressions_agree names scope p a o e)

zero_when : (z : ℤ) → is_zero z ≡ true → z ≡ pos 0
zero_when (pos zero) h = refl
zero_when (pos (suc n)) h = absurd cc
zero_when (negsuc n) h = absurd cc

no_more : (z v w : ℤ) → z ≡ pos 0 → (z *ℤ v) +ℤ w ≡ w
no_more z v w h = rw h (omega (arith, ints))

counted_by : (p : Point) (q : Quot) (qs rest : List Quot) (b : Bool) → is_zero q.coef ≡ b → quots_value p qs ≡ quots_value p rest → quots_value p (q ∷ qs) ≡ quots_value p (cond (not b) (q ∷ rest) rest)
counted_by p q qs rest true e h = no_more q.coef (quot_value p q) (quots_value p qs) (zero_when q.coef e) ∙ h
counted_by p q qs rest false e h = ap (λ z. (q.coef *ℤ quot_value p q) +ℤ z) h

-- those that don't count add nothing
value-counted : (p : Point) (qs : List Quot) → quots_value p qs ≡ quots_value p (counted qs)
value-counted p [] = refl
value-counted p (q ∷ qs) = counted_by p q qs (counted qs) (is_zero q.coef) refl (value-counted p qs)

index_case : (p : Point) (scope : Scope) (place : Place) (c : Collected) (f : Affine) → c ≡ Known f → is_within f ≡ true → form_value p f ≡ index_value p (placed_form place (form_or_zero scope c))
index_case p scope place c f h w = rw (h, w) (ap (λ z. f.constant +ℤ (dot f.params p.params +ℤ (dot f.iters p.iters +ℤ z))) (value-counted p f.quots))

pub index_is : (p : Point) (scope : Scope) (j : Judged) (f : Affine) → j.form ≡ Known f → is_within f ≡ true → form_value p f ≡ index_value p (index_expr scope j)
index_is p scope j f h w = index_case p scope j.place j.form f h w

pub indices_have_values : IndicesHaveValues
indices_have_values names scope p a o e b =
    let k = the_known (judged names scope e).form (whole_known scope.params (length scope.iterators) (judged names scope e) (judges names scope e) b) in
    forms_have_values names scope p a o e k.0 k.1 ∙ ap (λ z. Some z) (index_is p scope (judged names scope e) k.0 k.1 k.2)
