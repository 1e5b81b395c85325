-- Rows over differences compared at points.
use Rattle.std.proofs.Common.{◌≡◌, ◌↔◌, inl, inr, ℕ, zero, suc, ◌+◌, ◌<◌, ◌≤◌, ℤ, ◌+ℤ◌, ◌-ℤ◌, ◌≤ℤ◌, List, [], ◌∷◌, length, take, get_or, Option, Some, None, Bool, true, false, refl, sym, ◌∙◌, arith}
use Rattle.std.specs.Prelude.{slice_get, IsTrue, is_some}
use Rattle.std.proofs.lemmas.Int.{ints}
use Rattle.std.proofs.lemmas.List.{take_more, take_all}
use Rattle.ac_forms.specs.ListMembers.{IsAmong}
use Rattle.ac_widen.specs.Combinations.{Each}
use Rattle.ac_widen.proofs.Combining.{each_among}
use Rattle.ac_hull.specs.ColumnDifferences.{IsConstant, IsWeaker, gap_of}
use Rattle.ac_hull.specs.declared.difference.Difference.{Difference}
use Rattle.ac_hull.proofs.Facts.{each_snoc}

pub among_at : {A : Type 0} (xs : List A) (i : ℕ) (x : A) → i < length xs → x ≡ get_or xs i x → IsAmong x xs
among_at [] i x l e = absurd (omega arith)
among_at (y ∷ ys) zero x l e = inl e
among_at (y ∷ ys) (suc i) x l e = inr (among_at ys i x (omega arith) e)

pub each_from : {A : Type 0} (P : A → Type 0) (xs : List A) → ((x : A) → IsAmong x xs → P x) → Each P xs
each_from P [] f = tt
each_from P (x ∷ xs) f = (f x (inl refl), each_from P xs (λ y a. f y (inr a)))

-- one more of a list
pub each_more : {A : Type 0} (P : A → Type 0) (xs : List A) (i : ℕ) (x : A) → Each P (take i xs) → i < length xs → x ≡ get_or xs i x → P x → Each P (take (i + 1) xs)
each_more P xs i x h l e p = rw (take_more xs i x l, ← e) (each_snoc P (take i xs) x h p)

pub each_whole : {A : Type 0} (P : A → Type 0) (xs : List A) (i : ℕ) → Each P (take i xs) → length xs ≤ i → Each P xs
each_whole P xs i h l = rw (take_all i xs l) at h

pub first_among : {A : Type 0} (xs : List A) (x : A) → slice_get xs 0 ≡ Some x → IsAmong x xs
first_among [] x e = absurd cc
first_among (y ∷ ys) x e = inl cc

pub none_first : {A : Type 0} (xs : List A) → slice_get xs 0 ≡ None → xs ≡ []
none_first [] e = refl
none_first (y ∷ ys) e = absurd cc

pub none_some : (o : Option ℤ) → true ≡ is_some o → o ≡ None → ⊥
none_some (Some x) e n = cc
none_some None e n = cc

pub both_ways : (a b : ℤ) (r : Bool) → a ≤ℤ b → IsTrue r ↔ (b ≤ℤ a) → IsTrue r ↔ (a ≡ b)
both_ways a b r h k = ((λ t. let g = k.0 t in omega (arith, ints)), (λ e. k.1 (omega (arith, ints))))

pub not_constant : (points : List (List ℤ)) (d : Difference) (base p : List ℤ) → IsAmong base points → IsAmong p points → ¬ (gap_of d p ≡ gap_of d base) → ¬ (IsConstant points d)
not_constant points d base p a b n h = n (h p base b a)

pub constant_of : (points : List (List ℤ)) (d : Difference) (base : List ℤ) → Each (λ p. gap_of d p ≡ gap_of d base) points → IsConstant points d
constant_of points d base h p q a b = each_among (λ p. gap_of d p ≡ gap_of d base) p points h a ∙ sym (each_among (λ p. gap_of d p ≡ gap_of d base) q points h b)

moves : (a b x y z w : ℤ) → a -ℤ x ≡ b -ℤ y → z -ℤ x ≡ w -ℤ y → a -ℤ z ≡ b -ℤ w
moves a b x y z w e f = omega (arith, ints)

stays_below : (g h x y c d : ℤ) → g -ℤ x ≡ h -ℤ y → (y +ℤ c) ≤ℤ (x +ℤ d) → (h +ℤ c) ≤ℤ (g +ℤ d)
stays_below g h x y c d e l = omega (arith, ints)

pub weaker_of : (points : List (List ℤ)) (e d : Difference) (base : List ℤ) (r : Bool) → IsAmong base points → e.modulus ≡ d.modulus → (d.modulus ≡ None → (gap_of e base +ℤ e.constant) ≤ℤ (gap_of d base +ℤ d.constant))
    → IsTrue r ↔ Each (λ p. gap_of d p -ℤ gap_of d base ≡ gap_of e p -ℤ gap_of e base) points → IsTrue r ↔ IsWeaker points e d
weaker_of points e d base r a k b h = (
  (λ t. let all = h.0 t in
      record {
        kind = k;
        parallel = λ p q x y. moves (gap_of d p) (gap_of e p) (gap_of d base) (gap_of e base) (gap_of d q) (gap_of e q) (at p all x) (at q all y);
        below = λ n p x. stays_below (gap_of d p) (gap_of e p) (gap_of d base) (gap_of e base) e.constant d.constant (at p all x) (b n);
      }),
  (λ w. h.1 (each_from (λ p. gap_of d p -ℤ gap_of d base ≡ gap_of e p -ℤ gap_of e base) points (λ p x. w.parallel p base x a))),
)
  where
    at : (p : List ℤ) → Each (λ p. gap_of d p -ℤ gap_of d base ≡ gap_of e p -ℤ gap_of e base) points → IsAmong p points → gap_of d p -ℤ gap_of d base ≡ gap_of e p -ℤ gap_of e base
    at p all x = each_among (λ p. gap_of d p -ℤ gap_of d base ≡ gap_of e p -ℤ gap_of e base) p points all x

pub no_true : (b : Bool) → b ≡ true → b ≡ false → ⊥
no_true b p q = cc
