-- A list without the zeros at its end.
use Rattle.std.proofs.Common.{◌≡◌, ℕ, zero, suc, ◌+◌, ◌<◌, ◌≤◌, ℤ, pos, ◌+ℤ◌, ◌*ℤ◌, List, [], ◌∷◌, ◌++◌, length, take, get_or, arith, refl, ap, sym, ◌∙◌, Bool, true, false, cond, int_eq, add-one}
use Rattle.std.proofs.lemmas.Int.{ints}
use Rattle.ac_base.specs.Dot.{dot}
use Rattle.ac_base.proofs.Dot.{dot-nil}
use Rattle.ac_forms.specs.NormalRows.{trim, trim_onto}

zero_test : (c : ℤ) → int_eq c (pos 0) ≡ true → c ≡ pos 0
zero_test c e = grind (arith, ints)

pub test_zero : (c : ℤ) → c ≡ pos 0 → int_eq c (pos 0) ≡ true
test_zero c e = grind (arith, ints)

test_other : (c : ℤ) → (c ≡ pos 0 → ⊥) → int_eq c (pos 0) ≡ false
test_other c h = grind (arith, ints)

dot-trim_onto : (c : ℤ) (cs p : List ℤ) (x : ℤ) → dot (trim_onto c cs) (x ∷ p) ≡ c *ℤ x +ℤ dot cs p
dot-trim_onto c [] p x = by (int_eq c (pos 0)) refl
  where
    by : (b : Bool) → int_eq c (pos 0) ≡ b → dot (cond b [] (c ∷ [])) (x ∷ p) ≡ c *ℤ x +ℤ pos 0
    by true e = rw (zero_test c e) (omega (arith, ints))
    by false e = refl
dot-trim_onto c (d ∷ ds) p x = refl

-- zeros at the end change no value
pub dot-trim : (cs p : List ℤ) → dot (trim cs) p ≡ dot cs p
dot-trim [] p = refl
dot-trim (c ∷ cs) [] = dot-nil (trim (c ∷ cs))
dot-trim (c ∷ cs) (x ∷ p) = dot-trim_onto c (trim cs) p x ∙ ap (λ r. c *ℤ x +ℤ r) (dot-trim cs p)

-- one number more
trim-other : (cs : List ℤ) (i : ℕ) → i < length cs → (get_or cs i (pos 0) ≡ pos 0 → ⊥) → trim (take (suc i) cs) ≡ take (suc i) cs
trim-other [] i l h = absurd (omega arith)
trim-other (c ∷ cs) zero l h = rw (test_other c h) refl
trim-other (c ∷ cs) (suc i) l h = rw (trim-other cs i (omega arith) h) (front cs i (omega arith))
  where
    front : (cs : List ℤ) (i : ℕ) → i < length cs → trim_onto c (take (suc i) cs) ≡ c ∷ take (suc i) cs
    front [] i l = absurd (omega arith)
    front (d ∷ ds) i l = refl

trim-zero : (cs : List ℤ) (i : ℕ) → get_or cs i (pos 0) ≡ pos 0 → trim (take (suc i) cs) ≡ trim (take i cs)
trim-zero [] zero e = refl
trim-zero [] (suc i) e = refl
trim-zero (c ∷ cs) zero e = rw (test_zero c e) refl
trim-zero (c ∷ cs) (suc i) e = ap (λ r. trim_onto c r) (trim-zero cs i e)

-- the first k numbers are the first i without zeros at the end
pub record TrimHalfway (cs : List ℤ) (k i : ℕ) : Type 0 where
  pub order : k ≤ i
  pub value : trim (take i cs) ≡ take k cs

pub trim_start : (cs : List ℤ) → TrimHalfway cs 0 0
trim_start cs = record { order = omega arith; value = refl }

pub trim_kept : (cs : List ℤ) (k i j : ℕ) → TrimHalfway cs k i → i < length cs → (get_or cs i (pos 0) ≡ pos 0 → ⊥) → j ≡ i + 1 → TrimHalfway cs j (i + 1)
trim_kept cs k i j h l n e = rw e (record { order = omega arith; value = rw add-one (trim-other cs i l n) })

pub trim_passed : (cs : List ℤ) (k i : ℕ) → TrimHalfway cs k i → i < length cs → get_or cs i (pos 0) ≡ pos 0 → TrimHalfway cs k (i + 1)
trim_passed cs k i h l e = record { order = omega (arith, h.order); value = rw add-one (trim-zero cs i e ∙ h.value) }

pub ruleset trim_steps = (trim_start, trim_kept, trim_passed)
