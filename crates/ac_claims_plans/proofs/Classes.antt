-- The sides of the residue classes, one after the other.
use Rattle.std.proofs.Common.{◌≡◌, ◌⊎◌, inl, inr, ℕ, ◌+◌, ◌-◌, ◌<◌, ◌≤◌, ℤ, pos, ◌-ℤ◌, ◌≤ℤ◌, List, [], ◌∷◌, ◌++◌, map, unsigned_abs, true, sym, ap, ◌∙◌, subst, arith}
use Rattle.std.specs.Prelude.{◌<ℤ◌, min}
use Rattle.std.specs.List.{range_with_len}
use Rattle.std.proofs.lemmas.Int.{ints}
use Rattle.std.proofs.lemmas.List.FromFn.{map-range_with_len_more}
use Rattle.ac_base.proofs.Floor.{positive_is}
use Rattle.ac_forms.specs.Affine.{Affine}
use Rattle.ac_forms.specs.Fits.{Fits}
use Rattle.ac_cert.specs.Rules.{class_row}
use Rattle.ac_base.proofs.Truths.{le-true}
use Rattle.ac_claims_plans.specs.BranchSides.{has_few, one_row, ClassesFit}
use Rattle.ac_claims_plans.specs.declared.branching.Part.{Part}

-- the side of a class
abbrev class_side : ℤ → Affine → ℕ → Part
class_side m f r = one_row (class_row m f (pos r)) 0 0 1

-- those below n
pub record Classes (m : ℤ) (f : Affine) (n : ℕ) (outside : List Part) : Type 0 where
  pub value : pos 1 ≤ℤ m → outside ≡ map (λ r. one_row (class_row m f (pos r)) 0 0 1) (range_with_len 1 (min (n - 1) (unsigned_abs m - 1)))
  pub fits : (r : ℕ) → 1 ≤ r → r < n → pos r <ℤ m → Fits (f.konst -ℤ pos r)

pub classes_start : (m : ℤ) (f : Affine) → Classes m f 1 []
classes_start m f = record {
  value = λ p. ap (λ k. map (class_side m f) (range_with_len 1 k)) (none (unsigned_abs m - 1));
  fits = λ r l h p. absurd (omega (arith, l, h));
}
  where
    none : (k : ℕ) → 0 ≡ min (1 - 1) k
    none k = omega arith

pub classes_more : (m : ℤ) (f : Affine) (n : ℕ) (part : Part) (old new : List Part) → Classes m f n old → 1 ≤ n → pos n <ℤ m → Fits (f.konst -ℤ pos n) × (part ≡ one_row (class_row m f (pos n)) 0 0 1) → new ≡ old ++ part ∷ [] → Classes m f (n + 1) new
classes_more m f n part old new h l p made is = record {
  value = λ q. let s = positive_is m q in by s.0 s.2 (h.value q);
  fits = λ r a b c. fits r a b c (or r b);
}
  where
    or : (r : ℕ) → r < n + 1 → (r < n) ⊎ (r ≡ n)
    or r b = grind (arith, b)

    fits : (r : ℕ) → 1 ≤ r → r < n + 1 → pos r <ℤ m → (r < n) ⊎ (r ≡ n) → Fits (f.konst -ℤ pos r)
    fits r a b c (inl k) = h.fits r a k c
    fits r a b c (inr k) = subst (λ (z : ℕ). Fits (f.konst -ℤ pos z)) (sym k) made.0

    low : (k : ℕ) → m ≡ pos k → n < k
    low k e = omega (arith, ints, p, e)

    before : (k : ℕ) → n < k → min (n - 1) (k - 1) ≡ n - 1
    before k a = omega (arith, a)

    after : (k : ℕ) → n < k → 1 ≤ n → min ((n + 1) - 1) (k - 1) ≡ (n - 1) + 1
    after k a b = omega (arith, a, b)

    next : 1 ≤ n → 1 + (n - 1) ≡ n
    next b = omega (arith, b)

    by : (k : ℕ) → m ≡ pos k → old ≡ map (class_side m f) (range_with_len 1 (min (n - 1) (unsigned_abs m - 1))) → new ≡ map (class_side m f) (range_with_len 1 (min ((n + 1) - 1) (unsigned_abs m - 1)))
    by k e v =
        let abs : unsigned_abs m ≡ k = ap unsigned_abs e in
        let a : old ≡ map (class_side m f) (range_with_len 1 (n - 1)) = v ∙ ap (λ (x : ℕ). map (class_side m f) (range_with_len 1 (min (n - 1) (x - 1)))) abs ∙ ap (λ (x : ℕ). map (class_side m f) (range_with_len 1 x)) (before k (low k e)) in
        let b : map (class_side m f) (range_with_len 1 (min ((n + 1) - 1) (unsigned_abs m - 1))) ≡ map (class_side m f) (range_with_len 1 ((n - 1) + 1)) = ap (λ (x : ℕ). map (class_side m f) (range_with_len 1 (min ((n + 1) - 1) (x - 1)))) abs ∙ ap (λ (x : ℕ). map (class_side m f) (range_with_len 1 x)) (after k (low k e) l) in
        is ∙ ap (λ xs. xs ++ part ∷ []) a ∙ ap (λ x. map (class_side m f) (range_with_len 1 (n - 1)) ++ x ∷ []) made.1 ∙ sym (map-range_with_len_more (class_side m f) 1 (n - 1) n (next l)) ∙ sym b

pub classes_same : (m : ℤ) (f : Affine) (n : ℕ) (old : List Part) → Classes m f n old → 1 ≤ n → m ≤ℤ pos n → Classes m f (n + 1) old
classes_same m f n old h l p = record {
  value = λ q. let s = positive_is m q in h.value q ∙ ap (λ (x : ℕ). map (class_side m f) (range_with_len 1 x)) (by s.0 s.2);
  fits = λ r a b c. h.fits r a (below r b c) c;
}
  where
    below : (r : ℕ) → r < n + 1 → pos r <ℤ m → r < n
    below r b c = omega (arith, ints, b, c, p)

    same : (k : ℕ) → k ≤ n → min (n - 1) (k - 1) ≡ min ((n + 1) - 1) (k - 1)
    same k a = omega (arith, a)

    by : (k : ℕ) → m ≡ pos k → min (n - 1) (unsigned_abs m - 1) ≡ min ((n + 1) - 1) (unsigned_abs m - 1)
    by k e =
        let a : k ≤ n = omega (arith, ints, p, e) in
        rw (ap unsigned_abs e) (same k a)

pub classes_end : (m : ℤ) (f : Affine) (n : ℕ) (done : List Part) → Classes m f n done → has_few m ≡ true → n ≡ 64 → pos 1 ≤ℤ m → ClassesFit m f × (done ≡ map (λ r. one_row (class_row m f (pos r)) 0 0 1) (range_with_len 1 (unsigned_abs m - 1)))
classes_end m f n done h few last p = (
  (λ r a b. h.fits r a (below r b) b),
  let s = positive_is m p in h.value p ∙ ap (λ (x : ℕ). map (class_side m f) (range_with_len 1 x)) (by s.0 s.2),
)
  where
    most : m ≤ℤ pos 64
    most = le-true m (pos 64) few

    below : (r : ℕ) → pos r <ℤ m → r < n
    below r b = let l = most in omega (arith, ints, b, l, last)

    all : (k : ℕ) → k ≤ 64 → min (n - 1) (k - 1) ≡ k - 1
    all k a = omega (arith, a, last)

    by : (k : ℕ) → m ≡ pos k → min (n - 1) (unsigned_abs m - 1) ≡ unsigned_abs m - 1
    by k e =
        let l = most in
        let a : k ≤ 64 = omega (arith, ints, l, e) in
        rw (ap unsigned_abs e) (all k a)

pub classes_wide : (m : ℤ) (f : Affine) (n : ℕ) → 1 ≤ n → pos n <ℤ m → ¬ Fits (f.konst -ℤ pos n) → ¬ ClassesFit m f
classes_wide m f n l p w all = w (all n l p)

pub ruleset classes_steps = (classes_start, classes_more, classes_same, classes_end, classes_wide)
