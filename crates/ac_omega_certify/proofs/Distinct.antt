-- Different columns, place by place.
use Rattle.std.proofs.Common.{◌≡◌, ℕ, zero, suc, ◌<◌, List, [], ◌∷◌, length, get_or, refl, sym, ap, arith}
use Rattle.ac_forms.specs.Renaming.{AreColumns, IsApartFrom, AreDistinct}

pub name-within : (n : ℕ) (xs : List ℕ) → AreColumns n xs → (k : ℕ) → k < length xs → get_or xs k 0 < n
name-within n [] h k l = absurd (omega arith)
name-within n (x ∷ xs) h zero l = h.0
name-within n (x ∷ xs) h (suc k) l = name-within n xs h.1 k (omega arith)

apart-at : (x : ℕ) (xs : List ℕ) → IsApartFrom x xs → (k : ℕ) → k < length xs → ¬ (x ≡ get_or xs k 0)
apart-at x [] h k l = absurd (omega arith)
apart-at x (y ∷ xs) h zero l = h.0
apart-at x (y ∷ xs) h (suc k) l = apart-at x xs h.1 k (omega arith)

pub same-place : (xs : List ℕ) → AreDistinct xs → (j k : ℕ) → j < length xs → k < length xs → get_or xs j 0 ≡ get_or xs k 0 → j ≡ k
same-place [] h j k l m e = absurd (omega arith)
same-place (x ∷ xs) h zero zero l m e = refl
same-place (x ∷ xs) h zero (suc k) l m e = absurd (apart-at x xs h.0 k (omega arith) e)
same-place (x ∷ xs) h (suc j) zero l m e = absurd (apart-at x xs h.0 j (omega arith) (sym e))
same-place (x ∷ xs) h (suc j) (suc k) l m e = ap suc (same-place xs h.1 j k (omega arith) (omega arith) e)

pub columns-of : (n : ℕ) (xs : List ℕ) → ((k : ℕ) → k < length xs → get_or xs k 0 < n) → AreColumns n xs
columns-of n [] h = tt
columns-of n (x ∷ xs) h = (h 0 (omega arith), columns-of n xs (λ k l. h (suc k) (omega (arith, l))))

apart-of : (x : ℕ) (xs : List ℕ) → ((k : ℕ) → k < length xs → ¬ (x ≡ get_or xs k 0)) → IsApartFrom x xs
apart-of x [] h = tt
apart-of x (y ∷ xs) h = (h 0 (omega arith), apart-of x xs (λ k l. h (suc k) (omega (arith, l))))

pub distinct-of : (xs : List ℕ) → ((j k : ℕ) → j < length xs → k < length xs → get_or xs j 0 ≡ get_or xs k 0 → j ≡ k) → AreDistinct xs
distinct-of [] h = tt
distinct-of (x ∷ xs) h = (
  apart-of x xs (λ k l e. absurd (omega (arith, h 0 (suc k) (omega arith) (omega (arith, l)) e))),
  distinct-of xs (λ j k l m e. omega (arith, h (suc j) (suc k) (omega (arith, l)) (omega (arith, m)) e)),
)
