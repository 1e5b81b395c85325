-- The values of forms at a point.
use Rattle.std.proofs.Common.{◌≡◌, ℕ, zero, suc, ◌+◌, ◌<◌, ℤ, pos, negsuc, ◌+ℤ◌, ◌-ℤ◌, ◌*ℤ◌, neg_ℤ, List, [], ◌∷◌, map, length, Bool, true, false, cond, ◌&&◌, ◌||◌, ◌==◌, refl, sym, ap, ◌∙◌, arith, Option, Some, None}
use Rattle.std.specs.Prelude.{slice_get}
use Rattle.std.specs.Option.{option_map}
use Rattle.std.specs.List.{range_with_len, list_all}
use Rattle.std.proofs.lemmas.Int.{ints}
use Rattle.std.proofs.lemmas.Bool.Decides.{nat_tests}
use Rattle.std.proofs.lemmas.Option.{slice_get-get_or}
use Rattle.ac_base.specs.Dot.{dot}
use Rattle.ac_base.proofs.Dot.{gather}
use Rattle.ac_base.proofs.Products.{mul_comm_ℤ}
use Rattle.ac_syntax.specs.Index.{Point, is_zero, quot_value, quots_value}
use Rattle.ac_syntax.specs.declared.tree.Quot.{Quot}
use Rattle.ac_parse_grammar.specs.declared.tree.Operator.{Operator}
use Rattle.ac_parse_grammar.specs.declared.tree.Operator.TheVariants.{Add, Subtract, Multiply, Divide, Remainder}
use Rattle.ac_parse_exprs.specs.declared.form.Affine.{Affine}
use Rattle.ac_parse_exprs.specs.declared.form.Collected.{Collected}
use Rattle.ac_parse_exprs.specs.declared.form.Collected.TheVariants.{Known, Large, Unknown}
use Rattle.ac_parse_exprs.specs.AffineForms.{are_kept, is_constant, coef_of, joined_quots, scaled_quots, plus_times, times, sum_form, multiple_form, indicator, unit, zeros, constant_form, parameter_form, iterator_form, limited, sum_of, product_of, negative_of}
use Rattle.ac_parse_exprs.specs.IndexExpressions.{form_of}
use Rattle.ac_parse_exprs.specs.WrittenValues.{on_both, operated}
use Rattle.ac_parse_exprs.specs.FormValues.{form_value}
use Rattle.ac_parse_exprs.proofs.Absent.{both_true}
use Rattle.ac_parse_exprs.proofs.Collecting.{Shaped}
use Rattle.ac_parse_exprs.proofs.QuotientValues.{value-joined, value-scaled, at_some}

no_sum : (x k : ℤ) → k ≡ pos 0 → (pos 0 *ℤ x) +ℤ k ≡ pos 0
no_sum x k h = omega (arith, ints, h)

pub dot-zeros : (n : ℕ) (p : List ℤ) → dot (zeros n) p ≡ pos 0
dot-zeros zero p = refl
dot-zeros (suc n) [] = refl
dot-zeros (suc n) (x ∷ p) = no_sum x (dot (zeros n) p) (dot-zeros n p)

mark_off : (k a : ℕ) (b : Bool) → (a == k) ≡ b → k < a → cond b (pos 1) (pos 0) ≡ pos 0
mark_off k a true e h = absurd (grind (arith, nat_tests))
mark_off k a false e h = refl

mark_below : (k a : ℕ) (b : Bool) → (a == k) ≡ b → a < k → cond b (pos 1) (pos 0) ≡ pos 0
mark_below k a true e h = absurd (grind (arith, nat_tests))
mark_below k a false e h = refl

mark_on : (k a : ℕ) (b : Bool) → (a == k) ≡ b → k ≡ a → cond b (pos 1) (pos 0) ≡ pos 1
mark_on k a true e h = refl
mark_on k a false e h = absurd (grind (arith, nat_tests))

-- no mark stands behind its place
marks_past : (k a n : ℕ) (p : List ℤ) → k < a → dot (map (indicator k) (range_with_len a n)) p ≡ pos 0
marks_past k a zero p h = refl
marks_past k a (suc n) [] h = refl
marks_past k a (suc n) (x ∷ p) h = rw (mark_off k a (a == k) refl h) (no_sum x (dot (map (indicator k) (range_with_len (a + 1) n)) p) (marks_past k (a + 1) n p (omega (arith, h))))

one_sum : (x k z : ℤ) → k ≡ pos 0 → Some x ≡ Some z → (pos 1 *ℤ x) +ℤ k ≡ z
one_sum x k z h g = let e : x ≡ z = cc in omega (arith, ints, h, e)

next_sum : (x k z : ℤ) → k ≡ z → (pos 0 *ℤ x) +ℤ k ≡ z
next_sum x k z h = omega (arith, ints, h)

-- one mark picks one integer
marks_at : (k a n i : ℕ) (p : List ℤ) (z : ℤ) → k ≡ a + i → length p ≡ n → slice_get p i ≡ Some z → dot (map (indicator k) (range_with_len a n)) p ≡ z
marks_at k a n i [] z e l h = absurd cc
marks_at k a zero i (x ∷ p) z e l h = absurd (omega (arith, l))
marks_at k a (suc n) zero (x ∷ p) z e l h =
    rw (mark_on k a (a == k) refl (omega (arith, e))) (one_sum x (dot (map (indicator k) (range_with_len (a + 1) n)) p) z (marks_past k (a + 1) n p (omega (arith, e))) h)
marks_at k a (suc n) (suc i) (x ∷ p) z e l h =
    rw (mark_below k a (a == k) refl (omega (arith, e))) (next_sum x (dot (map (indicator k) (range_with_len (a + 1) n)) p) z (marks_at k (a + 1) n i p z (omega (arith, e)) (omega (arith, l)) h))

pub dot-unit : (n k : ℕ) (p : List ℤ) (z : ℤ) → length p ≡ n → slice_get p k ≡ Some z → dot (unit n k) p ≡ z
dot-unit n k p z l h = marks_at k 0 n k p z (omega arith) l h

no_product : (k : ℤ) → pos 0 ≡ pos 0 +ℤ k *ℤ pos 0
no_product k = omega (arith, ints)

zero_product : (k : ℤ) → pos 0 ≡ k *ℤ pos 0
zero_product k = omega (arith, ints)

head_sum : (k x y z u w : ℤ) → (x +ℤ k *ℤ y) *ℤ z +ℤ (u +ℤ k *ℤ w) ≡ (x *ℤ z +ℤ u) +ℤ k *ℤ (y *ℤ z +ℤ w)
head_sum k x y z u w = simp gather (omega (arith, ints))

head_product : (k x z u : ℤ) → (k *ℤ x) *ℤ z +ℤ k *ℤ u ≡ k *ℤ (x *ℤ z +ℤ u)
head_product k x z u = simp gather (omega (arith, ints))

pub dot-plus_times : (k : ℤ) (xs ys p : List ℤ) → length xs ≡ length ys → dot (plus_times k xs ys) p ≡ dot xs p +ℤ k *ℤ dot ys p
dot-plus_times k [] [] p h = no_product k
dot-plus_times k [] (y ∷ ys) p h = absurd (omega (arith, h))
dot-plus_times k (x ∷ xs) [] p h = absurd (omega (arith, h))
dot-plus_times k (x ∷ xs) (y ∷ ys) [] h = no_product k
dot-plus_times k (x ∷ xs) (y ∷ ys) (z ∷ p) h = rw (dot-plus_times k xs ys p (omega (arith, h))) (head_sum k x y z (dot xs p) (dot ys p))

pub dot-times : (k : ℤ) (xs p : List ℤ) → dot (times k xs) p ≡ k *ℤ dot xs p
dot-times k [] p = zero_product k
dot-times k (x ∷ xs) [] = zero_product k
dot-times k (x ∷ xs) (z ∷ p) = rw (dot-times k xs p) (head_product k x z (dot xs p))

zero_when : (z : ℤ) → is_zero z ≡ true → z ≡ pos 0
zero_when (pos zero) h = refl
zero_when (pos (suc n)) h = absurd cc
zero_when (negsuc n) h = absurd cc

dot-none : (xs p : List ℤ) → list_all is_zero xs ≡ true → dot xs p ≡ pos 0
dot-none [] p h = refl
dot-none (x ∷ xs) [] h = refl
dot-none (x ∷ xs) (z ∷ p) h =
    let b = both_true (is_zero x) (list_all is_zero xs) h in
    rw (zero_when x b.0) (no_sum z (dot xs p) (dot-none xs p b.1))

sums_up : (k c d u v w x y z : ℤ) → (c +ℤ k *ℤ d) +ℤ ((u +ℤ k *ℤ v) +ℤ ((w +ℤ k *ℤ x) +ℤ (y +ℤ k *ℤ z))) ≡ (c +ℤ (u +ℤ (w +ℤ y))) +ℤ k *ℤ (d +ℤ (v +ℤ (x +ℤ z)))
sums_up k c d u v w x y z = simp gather (omega (arith, ints))

multiplies : (k c u w y : ℤ) → (k *ℤ c) +ℤ (k *ℤ u +ℤ (k *ℤ w +ℤ k *ℤ y)) ≡ k *ℤ (c +ℤ (u +ℤ (w +ℤ y)))
multiplies k c u w y = simp gather (omega (arith, ints))

pub alone : (c u w y : ℤ) → u ≡ pos 0 → w ≡ pos 0 → y ≡ pos 0 → c +ℤ (u +ℤ (w +ℤ y)) ≡ c
alone c u w y h k l = omega (arith, ints, h, k, l)

module _ (p : Point) where
  pub value-sum : (k : ℤ) (f g : Affine) (qs : List Quot) → length f.params ≡ length g.params → length f.iters ≡ length g.iters → quots_value p qs ≡ quots_value p f.quots +ℤ k *ℤ quots_value p g.quots
      → form_value p (sum_form k f g qs) ≡ form_value p f +ℤ k *ℤ form_value p g
  value-sum k f g qs h l e = rw (dot-plus_times k f.params g.params p.params h, dot-plus_times k f.iters g.iters p.iters l, e)
      (sums_up k f.constant g.constant (dot f.params p.params) (dot g.params p.params) (dot f.iters p.iters) (dot g.iters p.iters) (quots_value p f.quots) (quots_value p g.quots))

  value-multiple : (k : ℤ) (f : Affine) (qs : List Quot) → quots_value p qs ≡ k *ℤ quots_value p f.quots → form_value p (multiple_form k f qs) ≡ k *ℤ form_value p f
  value-multiple k f qs e = rw (dot-times k f.params p.params, dot-times k f.iters p.iters, e) (multiplies k f.constant (dot f.params p.params) (dot f.iters p.iters) (quots_value p f.quots))

  pub value-constant : (ps xs : ℕ) (c : ℤ) → form_value p (constant_form ps xs c) ≡ c
  value-constant ps xs c = alone c (dot (zeros ps) p.params) (dot (zeros xs) p.iters) (pos 0) (dot-zeros ps p.params) (dot-zeros xs p.iters) refl

  none_count : (qs : List Quot) → list_all is_zero (map coef_of qs) ≡ true → quots_value p qs ≡ pos 0
  none_count [] h = refl
  none_count (q ∷ qs) h =
      let b = both_true (is_zero q.coef) (list_all is_zero (map coef_of qs)) h in
      rw (zero_when q.coef b.0) (no_sum (quot_value p q) (quots_value p qs) (none_count qs b.1))

  constant_value : (f : Affine) → is_constant f ≡ true → form_value p f ≡ f.constant
  constant_value f h =
      let b = both_true (list_all is_zero f.params && list_all is_zero f.iters) (list_all is_zero (map coef_of f.quots)) h in
      let c = both_true (list_all is_zero f.params) (list_all is_zero f.iters) b.0 in
      alone f.constant (dot f.params p.params) (dot f.iters p.iters) (quots_value p f.quots) (dot-none f.params p.params c.0) (dot-none f.iters p.iters c.1) (none_count f.quots b.1)

  first_alone : (u w z : ℤ) → u ≡ z → w ≡ pos 0 → pos 0 +ℤ (u +ℤ (w +ℤ pos 0)) ≡ z
  first_alone u w z h k = omega (arith, ints, h, k)

  second_alone : (u w z : ℤ) → u ≡ pos 0 → w ≡ z → pos 0 +ℤ (u +ℤ (w +ℤ pos 0)) ≡ z
  second_alone u w z h k = omega (arith, ints, h, k)

  pub value-parameter : (ps xs k : ℕ) (z : ℤ) → length p.params ≡ ps → slice_get p.params k ≡ Some z → form_value p (parameter_form ps xs k) ≡ z
  value-parameter ps xs k z l h = first_alone (dot (unit ps k) p.params) (dot (zeros xs) p.iters) z (dot-unit ps k p.params z l h) (dot-zeros xs p.iters)

  pub value-iterator : (ps xs k : ℕ) (z : ℤ) → length p.iters ≡ xs → slice_get p.iters k ≡ Some z → form_value p (iterator_form ps xs k) ≡ z
  value-iterator ps xs k z l h = second_alone (dot (zeros ps) p.params) (dot (unit xs k) p.iters) z (dot-zeros ps p.params) (dot-unit xs k p.iters z l h)

  -- where there is a form, it has the value
  abbrev pub Agrees : Collected → Option ℤ → Type 0
  Agrees (Known f) v = v ≡ Some (form_value p f)
  Agrees (Large constant) v = Unit {0}
  Agrees Unknown v = Unit {0}

  limited_case : (f : Affine) (constant b : Bool) (v : Option ℤ) → v ≡ Some (form_value p f) → Agrees (cond b (Known f) (Large constant)) v
  limited_case f constant true v h = h
  limited_case f constant false v h = tt

  pub limited_agrees : (o : Option (List Quot)) (form : List Quot → Affine) (constant : Bool) (v : Option ℤ) → ((qs : List Quot) → o ≡ Some qs → v ≡ Some (form_value p (form qs))) → Agrees (limited o form constant) v
  limited_agrees None form constant v h = tt
  limited_agrees (Some qs) form constant v h = limited_case (form qs) constant (are_kept (form qs)) v (h qs refl)

  large_agrees : (b c : Bool) (v : Option ℤ) → Agrees (cond b (Large c) Unknown) v
  large_agrees true c v = tt
  large_agrees false c v = tt

  sum_agrees : (ps xs : ℕ) (k : ℤ) (o : ℤ → ℤ → ℤ) → ((x y : ℤ) → o x y ≡ x +ℤ k *ℤ y) → (a b : Collected) (v w : Option ℤ) → Shaped ps xs a → Shaped ps xs b → Agrees a v → Agrees b w
      → Agrees (sum_of k a b) (on_both o v w)
  sum_agrees ps xs k o e (Known f) (Known g) v w s t h l =
      limited_agrees (joined_quots k f.quots g.quots) (sum_form k f g) (is_constant f && is_constant g) (on_both o v w) (λ qs is.
      let q = at_some p (joined_quots k f.quots g.quots) _ qs (value-joined p k f.quots g.quots) is in
      rw (h, l) (ap (λ z. Some z) (e (form_value p f) (form_value p g) ∙ sym (value-sum k f g qs (s.0 ∙ sym t.0) (s.1 ∙ sym t.1) q))))
  sum_agrees ps xs k o e (Known f) (Large d) v w s t h l = tt
  sum_agrees ps xs k o e (Known f) Unknown v w s t h l = tt
  sum_agrees ps xs k o e (Large c) (Known g) v w s t h l = tt
  sum_agrees ps xs k o e (Large c) (Large d) v w s t h l = tt
  sum_agrees ps xs k o e (Large c) Unknown v w s t h l = tt
  sum_agrees ps xs k o e Unknown b v w s t h l = tt

  scaled_agrees : (k : ℤ) (f : Affine) (constant : Bool) (z : ℤ) → z ≡ k *ℤ form_value p f → Agrees (limited (scaled_quots k f.quots) (multiple_form k f) constant) (Some z)
  scaled_agrees k f constant z e = limited_agrees (scaled_quots k f.quots) (multiple_form k f) constant (Some z) (λ qs is.
      ap (λ x. Some x) (e ∙ sym (value-multiple k f qs (at_some p (scaled_quots k f.quots) _ qs (value-scaled p k f.quots) is))))

  product_case : (f g : Affine) (b c : Bool) → is_constant f ≡ b → is_constant g ≡ c
      → Agrees (cond b (limited (scaled_quots f.constant g.quots) (multiple_form f.constant g) (is_constant g)) (cond c (limited (scaled_quots g.constant f.quots) (multiple_form g.constant f) false) Unknown)) (Some (form_value p f *ℤ form_value p g))
  product_case f g true c e i = scaled_agrees f.constant g (is_constant g) (form_value p f *ℤ form_value p g) (ap (λ x. x *ℤ form_value p g) (constant_value f e))
  product_case f g false true e i = scaled_agrees g.constant f false (form_value p f *ℤ form_value p g) (mul_comm_ℤ (form_value p f) (form_value p g) ∙ ap (λ x. x *ℤ form_value p f) (constant_value g i))
  product_case f g false false e i = tt

  product_agrees : (a b : Collected) (v w : Option ℤ) → Agrees a v → Agrees b w → Agrees (product_of a b) (on_both (λ x y. x *ℤ y) v w)
  product_agrees (Known f) (Known g) v w h l = rw (h, l) (product_case f g (is_constant f) (is_constant g) refl refl)
  product_agrees (Known f) (Large d) v w h l = large_agrees (is_constant f || d) (is_constant f && d) (on_both (λ x y. x *ℤ y) v w)
  product_agrees (Known f) Unknown v w h l = tt
  product_agrees (Large c) (Known g) v w h l = large_agrees (c || is_constant g) (c && is_constant g) (on_both (λ x y. x *ℤ y) v w)
  product_agrees (Large c) (Large d) v w h l = large_agrees (c || d) (c && d) (on_both (λ x y. x *ℤ y) v w)
  product_agrees (Large c) Unknown v w h l = tt
  product_agrees Unknown b v w h l = tt

  plus_once : (x y : ℤ) → x +ℤ y ≡ x +ℤ pos 1 *ℤ y
  plus_once x y = omega (arith, ints)

  minus_once : (x y : ℤ) → x -ℤ y ≡ x +ℤ negsuc 0 *ℤ y
  minus_once x y = omega (arith, ints)

  turned : (x : ℤ) → neg_ℤ x ≡ negsuc 0 *ℤ x
  turned x = omega (arith, ints)

  pub negative_agrees : (a : Collected) (v : Option ℤ) → Agrees a v → Agrees (negative_of a) (option_map neg_ℤ v)
  negative_agrees (Known f) v h = rw h (scaled_agrees (negsuc 0) f (is_constant f) (neg_ℤ (form_value p f)) (turned (form_value p f)))
  negative_agrees (Large c) v h = tt
  negative_agrees Unknown v h = tt

  pub form_agrees : (ps xs : ℕ) (op : Operator) (a b : Collected) (v w : Option ℤ) → Shaped ps xs a → Shaped ps xs b → Agrees a v → Agrees b w → Agrees (form_of op a b) (operated op v w)
  form_agrees ps xs Add a b v w s t h l = sum_agrees ps xs (pos 1) (λ x y. x +ℤ y) plus_once a b v w s t h l
  form_agrees ps xs Subtract a b v w s t h l = sum_agrees ps xs (negsuc 0) (λ x y. x -ℤ y) minus_once a b v w s t h l
  form_agrees ps xs Multiply a b v w s t h l = product_agrees a b v w h l
  form_agrees ps xs Divide a b v w s t h l = tt
  form_agrees ps xs Remainder a b v w s t h l = tt

-- an integer stands at each place inside a list
pub stands_at : (xs : List ℤ) (k : ℕ) → k < length xs → (z : ℤ) × (slice_get xs k ≡ Some z)
stands_at xs k h = (_, slice_get-get_or xs k (pos 0) h)
