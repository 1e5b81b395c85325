-- The values of quotients that are joined or scaled.
use Rattle.std.proofs.Common.{◌≡◌, ℤ, pos, ◌+ℤ◌, ◌*ℤ◌, List, [], ◌∷◌, Bool, true, false, cond, refl, sym, ap, ◌∙◌, arith, Option, Some, None}
use Rattle.std.specs.Option.{option_map, option_and_then}
use Rattle.std.proofs.lemmas.Int.{ints}
use Rattle.ac_base.proofs.Dot.{gather}
use Rattle.ac_syntax.specs.Index.{Point, quot_value, quots_value}
use Rattle.ac_syntax.specs.Quotients.{same_quot}
use Rattle.ac_syntax.specs.declared.tree.Quot.{Quot}
use Rattle.ac_parse_exprs.specs.AffineForms.{is_small, with_coef, with_quot, joined_quots, scaled_quots}
use Rattle.ac_syntax.proofs.Alike.{same_value}

some_is : {A : Type 0} (x y : A) → Some x ≡ Some y → x ≡ y
some_is x y h = cc

coef_by : (c : ℤ) (q r : Quot) (b : Bool) → option_map (λ z. record q { coef = z }) (cond b (Some c) None) ≡ Some r → record q { coef = c } ≡ r
coef_by c q r true h = some_is _ _ h
coef_by c q r false h = absurd cc

pub coef_is : (c : ℤ) (q r : Quot) → with_coef c q ≡ Some r → record q { coef = c } ≡ r
coef_is c q r h = coef_by c q r (is_small c) h

one_more : (c k v : ℤ) → ((k *ℤ c) *ℤ v) +ℤ pos 0 ≡ pos 0 +ℤ k *ℤ (c *ℤ v)
one_more c k v = simp gather (omega (arith, ints))

added_to : (c k d v w : ℤ) → ((c +ℤ (k *ℤ d)) *ℤ v) +ℤ w ≡ ((c *ℤ v) +ℤ w) +ℤ k *ℤ (d *ℤ v)
added_to c k d v w = simp gather (omega (arith, ints))

passed_by : (u w z : ℤ) → u +ℤ (w +ℤ z) ≡ (u +ℤ w) +ℤ z
passed_by u w z = omega (arith, ints)

none_joined : (v k : ℤ) → v ≡ v +ℤ k *ℤ pos 0
none_joined v k = omega (arith, ints)

joined_twice : (v k a w : ℤ) → (v +ℤ k *ℤ a) +ℤ k *ℤ w ≡ v +ℤ k *ℤ (a +ℤ w)
joined_twice v k a w = simp gather (omega (arith, ints))

none_scaled : (k : ℤ) → pos 0 ≡ k *ℤ pos 0
none_scaled k = omega (arith, ints)

scaled_twice : (k c v w : ℤ) → ((k *ℤ c) *ℤ v) +ℤ k *ℤ w ≡ k *ℤ ((c *ℤ v) +ℤ w)
scaled_twice k c v w = simp gather (omega (arith, ints))

module _ (p : Point) where
  abbrev pub value : List Quot → ℤ
  value = quots_value p

  -- of a list that may be there
  abbrev pub IsOf : Option (List Quot) → ℤ → Type 0
  IsOf None z = Unit {0}
  IsOf (Some qs) z = value qs ≡ z

  placed_one : (o : Option Quot) (ps : List Quot) (q : Quot) (c z : ℤ) → ((r : Quot) → o ≡ Some r → record q { coef = c } ≡ r) → (c *ℤ quot_value p q) +ℤ value ps ≡ z → IsOf (option_map (λ r. r ∷ ps) o) z
  placed_one None ps q c z h e = tt
  placed_one (Some r) ps q c z h e = ap (λ (s : Quot). (s.coef *ℤ quot_value p s) +ℤ value ps) (sym (h r refl)) ∙ e

  front_one : (q : Quot) (rest : Option (List Quot)) (y z : ℤ) → IsOf rest y → (q.coef *ℤ quot_value p q) +ℤ y ≡ z → IsOf (option_map (λ qs. q ∷ qs) rest) z
  front_one q None y z h e = tt
  front_one q (Some qs) y z h e = ap (λ x. (q.coef *ℤ quot_value p q) +ℤ x) h ∙ e

  with_by : (k : ℤ) (q r : Quot) (ps : List Quot) (b : Bool) → same_quot q r ≡ b → IsOf (with_quot k q ps) (value ps +ℤ k *ℤ (q.coef *ℤ quot_value p q))
      → IsOf (cond b (option_map (λ s. s ∷ ps) (with_coef (r.coef +ℤ (k *ℤ q.coef)) r)) (option_map (λ rest. r ∷ rest) (with_quot k q ps))) (value (r ∷ ps) +ℤ k *ℤ (q.coef *ℤ quot_value p q))
  with_by k q r ps true e rest =
      placed_one (with_coef (r.coef +ℤ (k *ℤ q.coef)) r) ps r (r.coef +ℤ (k *ℤ q.coef)) _ (λ s. coef_is (r.coef +ℤ (k *ℤ q.coef)) r s)
      (added_to r.coef k q.coef (quot_value p r) (value ps) ∙ ap (λ x. (value (r ∷ ps)) +ℤ k *ℤ (q.coef *ℤ x)) (sym (same_value p q r e)))
  with_by k q r ps false e rest = front_one r (with_quot k q ps) _ _ rest (passed_by (r.coef *ℤ quot_value p r) (value ps) (k *ℤ (q.coef *ℤ quot_value p q)))

  value-with : (k : ℤ) (q : Quot) (ps : List Quot) → IsOf (with_quot k q ps) (value ps +ℤ k *ℤ (q.coef *ℤ quot_value p q))
  value-with k q [] = placed_one (with_coef (k *ℤ q.coef) q) [] q (k *ℤ q.coef) _ (λ s. coef_is (k *ℤ q.coef) q s) (one_more q.coef k (quot_value p q))
  value-with k q (r ∷ ps) = with_by k q r ps (same_quot q r) refl (value-with k q ps)

  then_is : (o : Option (List Quot)) (next : List Quot → Option (List Quot)) (y z : ℤ) → IsOf o y → ((qs : List Quot) → value qs ≡ y → IsOf (next qs) z) → IsOf (option_and_then next o) z
  then_is None next y z h f = tt
  then_is (Some qs) next y z h f = f qs h

  is_also : (o : Option (List Quot)) (y z : ℤ) → IsOf o y → y ≡ z → IsOf o z
  is_also None y z h e = tt
  is_also (Some qs) y z h e = h ∙ e

  pub value-joined : (k : ℤ) (ps qs : List Quot) → IsOf (joined_quots k ps qs) (value ps +ℤ k *ℤ value qs)
  value-joined k ps [] = none_joined (value ps) k
  value-joined k ps (q ∷ qs) =
      then_is (with_quot k q ps) (λ more. joined_quots k more qs) _ _ (value-with k q ps)
      (λ more e. is_also (joined_quots k more qs) _ _ (value-joined k more qs) (ap (λ v. v +ℤ k *ℤ value qs) e ∙ joined_twice (value ps) k (q.coef *ℤ quot_value p q) (value qs)))

  scaled_by : (k : ℤ) (q : Quot) (o : Option Quot) (rest : Option (List Quot)) (y : ℤ) → ((r : Quot) → o ≡ Some r → record q { coef = k *ℤ q.coef } ≡ r) → IsOf rest (k *ℤ y)
      → IsOf (option_and_then (λ s. option_map (λ qs. s ∷ qs) rest) o) (k *ℤ ((q.coef *ℤ quot_value p q) +ℤ y))
  scaled_by k q None rest y f h = tt
  scaled_by k q (Some r) rest y f h = front_one r rest _ _ h (ap (λ (s : Quot). (s.coef *ℤ quot_value p s) +ℤ k *ℤ y) (sym (f r refl)) ∙ scaled_twice k q.coef (quot_value p q) y)

  pub value-scaled : (k : ℤ) (qs : List Quot) → IsOf (scaled_quots k qs) (k *ℤ value qs)
  value-scaled k [] = none_scaled k
  value-scaled k (q ∷ qs) = scaled_by k q (with_coef (k *ℤ q.coef) q) (scaled_quots k qs) (value qs) (λ r. coef_is (k *ℤ q.coef) q r) (value-scaled k qs)

  -- a list that is there
  pub at_some : (o : Option (List Quot)) (z : ℤ) (qs : List Quot) → IsOf o z → o ≡ Some qs → value qs ≡ z
  at_some None z qs h e = absurd cc
  at_some (Some rs) z qs h e = ap value (sym (some_is _ _ e)) ∙ h
