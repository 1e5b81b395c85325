-- Entries of lists: of combinations, of lists divided or multiplied by a number, of units.
use Rattle.std.proofs.Common.{◌≡◌, ◌⊎◌, inl, inr, ℕ, zero, suc, ◌<◌, ◌≤◌, ℤ, pos, ◌*ℤ◌, List, [], ◌∷◌, length, map, Bool, true, false, refl, ap, ◌∙◌, arith}
use Rattle.std.specs.Ordering.{int_eq}
use Rattle.std.proofs.lemmas.Int.{ints}
use Rattle.std.proofs.lemmas.Bool.Decides.{Decides-int_eq}
use Rattle.ac_base.specs.Dot.{dot, floored}
use Rattle.ac_base.specs.Gcd.{DividesEach}
use Rattle.ac_base.proofs.Columns.{get_or-mix}
use Rattle.ac_base.proofs.Floor.{floor_exact}
use Rattle.ac_widen.specs.Combinations.{blend, times}
use Rattle.ac_widen.proofs.Combining.{no_divisor}
use Rattle.ac_hull.specs.FractionFreeElimination.{entry, lead, IsZero}

-- the entries of the points in a column
abbrev pub column : ℕ → List (List ℤ) → List ℤ
column z ps = map (entry z) ps

pub entry_blend : (z : ℕ) (ws : List ℤ) (ps : List (List ℤ)) → entry z (blend ws ps) ≡ dot ws (column z ps)
entry_blend z [] ps = refl
entry_blend z (w ∷ ws) [] = refl
entry_blend z (w ∷ ws) (p ∷ ps) = get_or-mix w p (pos 1) (blend ws ps) z ∙ (rw (entry_blend z ws ps) (omega (arith, ints)))

pub entry_times : (z : ℕ) (m : ℤ) (xs : List ℤ) → entry z (times m xs) ≡ m *ℤ entry z xs
entry_times z m [] = omega (arith, ints)
entry_times zero m (x ∷ xs) = refl
entry_times (suc z) m (x ∷ xs) = entry_times z m xs

pub entry_floored : (z k : ℕ) (xs : List ℤ) → 0 < k → DividesEach k xs → entry z xs ≡ pos k *ℤ entry z (floored (pos k) xs)
entry_floored z k [] h d = omega (arith, ints)
entry_floored zero k (x ∷ xs) h d = floor_exact x k h d.0
entry_floored (suc z) k (x ∷ xs) h d = entry_floored z k xs h d.1

pub entry_past : (z : ℕ) (xs : List ℤ) → length xs ≤ z → entry z xs ≡ pos 0
entry_past z [] h = refl
entry_past zero (x ∷ xs) h = absurd (omega arith)
entry_past (suc z) (x ∷ xs) h = entry_past z xs (omega arith)

-- a list begins with zeros alone, or its first entry that is not 0 is at its lead
pub lead_or : (xs : List ℤ) → IsZero xs ⊎ ((lead xs < length xs) × ¬ (entry (lead xs) xs ≡ pos 0))
lead_or [] = inl (λ z. refl)
lead_or (x ∷ xs) = at_head (int_eq x (pos 0)) refl (lead_or xs)
  where
    zeros : x ≡ pos 0 → IsZero xs → IsZero (x ∷ xs)
    zeros e h zero = e
    zeros e h (suc z) = h z

    at_head : (b : Bool) → int_eq x (pos 0) ≡ b → IsZero xs ⊎ ((lead xs < length xs) × ¬ (entry (lead xs) xs ≡ pos 0)) → IsZero (x ∷ xs) ⊎ ((lead (x ∷ xs) < length (x ∷ xs)) × ¬ (entry (lead (x ∷ xs)) (x ∷ xs) ≡ pos 0))
    at_head true e (inl h) = inl (zeros ((Decides-int_eq x (pos 0)).0 e) h)
    at_head true e (inr h) = rw e (inr (omega (arith, h.0), h.1))
    at_head false e h = rw e (inr (omega arith, λ y. let g : int_eq x (pos 0) ≡ true = (Decides-int_eq x (pos 0)).1 y in absurd cc))

-- a dot product in which only one column counts
pub dot_single : (v x : List ℤ) (z : ℕ) → ((y : ℕ) → ¬ (y ≡ z) → entry y v *ℤ entry y x ≡ pos 0) → dot v x ≡ entry z v *ℤ entry z x
dot_single [] x z h = omega (arith, ints)
dot_single (c ∷ v) [] z h = omega (arith, ints)
dot_single (c ∷ v) (y ∷ x) zero h = rw (dot_none v x (λ i. h (suc i) (λ e. absurd cc))) (omega (arith, ints))
  where
    dot_none : (v x : List ℤ) → ((y : ℕ) → entry y v *ℤ entry y x ≡ pos 0) → dot v x ≡ pos 0
    dot_none [] x h = refl
    dot_none (c ∷ v) [] h = refl
    dot_none (c ∷ v) (y ∷ x) h = let a : c *ℤ y ≡ pos 0 = h 0 in let b = dot_none v x (λ i. h (suc i)) in omega (arith, ints, a, b)
dot_single (c ∷ v) (y ∷ x) (suc z) h =
    let a : c *ℤ y ≡ pos 0 = h 0 (λ e. absurd cc) in
    let b = dot_single v x z (λ i n. h (suc i) (λ e. n cc)) in
    omega (arith, ints, a, b)

-- a product that is not 0
pub product_nonzero : (a b : ℤ) → ¬ (a ≡ pos 0) → ¬ (b ≡ pos 0) → ¬ (a *ℤ b ≡ pos 0)
product_nonzero a b n m e = m (no_divisor a b n e)

-- lists with equal entries and equal lengths are equal
pub same_entries : (xs ys : List ℤ) → length xs ≡ length ys → ((z : ℕ) → entry z xs ≡ entry z ys) → xs ≡ ys
same_entries [] [] l h = refl
same_entries [] (y ∷ ys) l h = absurd (omega (arith, l))
same_entries (x ∷ xs) [] l h = absurd (omega (arith, l))
same_entries (x ∷ xs) (y ∷ ys) l h = rw (← (h 0)) (ap (λ t. x ∷ t) (same_entries xs ys (omega (arith, l)) (λ z. h (suc z))))
