-- Rows of differences over some columns, and the normal form of one of them.
use Rattle.std.proofs.Common.{◌≡◌, ◌⊎◌, inl, inr, ℕ, zero, suc, ◌<◌, ◌≤◌, cond, Bool, true, false, int_eq, int_le, ℤ, pos, negsuc, ◌*ℤ◌, neg_ℤ, List, [], ◌∷◌, map, get_or, arith, refl, ap, sym, ◌∙◌}
use Rattle.std.specs.Prelude.{unsigned_abs}
use Rattle.std.specs.Int.{int_div_euclid}
use Rattle.std.proofs.lemmas.Int.{ints}
use Rattle.ac_base.specs.Dot.{floored}
use Rattle.ac_base.specs.Gcd.{gcd, gcd_within, gcd_all, content}
use Rattle.ac_base.specs.Multiple.{divides}
use Rattle.ac_base.proofs.Floor.{floor_le, lt_floor}
use Rattle.ac_forms.specs.Affine.{Affine, coef, scaled}
use Rattle.ac_forms.specs.NormalRows.{trim, trim_onto, divided, leads_negative, signed, normal_row}
use Rattle.ac_forms.specs.declared.row.Row.{Row}
use Rattle.ac_forms.specs.declared.row.Row.TheVariants.{Eq, Div, Ge}
use Rattle.ac_forms.specs.declared.normal.NormalRow.{NormalRow}
use Rattle.ac_forms.specs.declared.normal.NormalRow.TheVariants.{Kept, Dropped, Absurd}
use Rattle.ac_omega.specs.DifferenceRows.{IsDifference}
use Rattle.ac_omega.specs.Projection.{is_among}
use Rattle.ac_omega.proofs.DifferenceForms.{IsUnit, unit-at, same-difference, turned-difference}

-- a difference over these columns plus a number from -b to b
pub record IsOver (vars : List ℕ) (b : ℕ) (f : Affine) : Type 0 where
  pub difference : IsDifference (λ z. coef z f)
  pub within : (j : ℕ) → is_among j vars ≡ false → coef j f ≡ pos 0
  pub small : unsigned_abs f.konst ≤ b

-- without zeros at the end
abbrev pub IsTrimmed : Affine → Type 0
IsTrimmed f = trim f.coefs ≡ f.coefs

-- a row of a normal form
abbrev pub IsRow : List ℕ → ℕ → Row → Type 0
IsRow vars b (Eq f) = IsOver vars b f × IsTrimmed f
IsRow vars b (Div m f) = ⊥
IsRow vars b (Ge f) = IsOver vars b f × IsTrimmed f

-- a row as a choice leaves it: a modulus of 1 says nothing
abbrev pub IsRaw : List ℕ → ℕ → Row → Type 0
IsRaw vars b (Eq f) = IsOver vars b f
IsRaw vars b (Div m f) = m ≡ pos 1
IsRaw vars b (Ge f) = IsOver vars b f

-- P holds of each row
abbrev pub Each : (Row → Type 0) → List Row → Type 0
Each P [] = Unit {0}
Each P (r ∷ rs) = P r × Each P rs

zero-test : (c : ℤ) → int_eq c (pos 0) ≡ true → c ≡ pos 0
zero-test c e = grind (arith, ints)

-- zeros at the end
at-onto : (c : ℤ) (xs : List ℤ) (j : ℕ) → get_or (trim_onto c xs) j (pos 0) ≡ get_or (c ∷ xs) j (pos 0)
at-onto c [] j = by (int_eq c (pos 0)) refl j
  where
    by : (t : Bool) → int_eq c (pos 0) ≡ t → (j : ℕ) → get_or (cond t [] (c ∷ [])) j (pos 0) ≡ get_or (c ∷ []) j (pos 0)
    by true e zero = sym (zero-test c e)
    by true e (suc j) = refl
    by false e j = refl
at-onto c (x ∷ xs) j = refl

pub at-trim : (cs : List ℤ) (j : ℕ) → get_or (trim cs) j (pos 0) ≡ get_or cs j (pos 0)
at-trim [] j = refl
at-trim (c ∷ cs) zero = at-onto c (trim cs) zero
at-trim (c ∷ cs) (suc j) = at-onto c (trim cs) (suc j) ∙ at-trim cs j

onto-trimmed : (c : ℤ) (xs : List ℤ) → trim xs ≡ xs → trim (trim_onto c xs) ≡ trim_onto c xs
onto-trimmed c [] h = by (int_eq c (pos 0)) refl
  where
    by : (t : Bool) → int_eq c (pos 0) ≡ t → trim (cond t [] (c ∷ [])) ≡ cond t [] (c ∷ [])
    by true e = refl
    by false e = rw e refl
onto-trimmed c (x ∷ xs) h = ap (λ (ys : List ℤ). trim_onto c ys) h

trim-trim : (cs : List ℤ) → trim (trim cs) ≡ trim cs
trim-trim [] = refl
trim-trim (c ∷ cs) = onto-trimmed c (trim cs) (trim-trim cs)

abbrev turned : List ℤ → List ℤ
turned = map (λ c. negsuc 0 *ℤ c)

test-turned : (c : ℤ) → int_eq (negsuc 0 *ℤ c) (pos 0) ≡ int_eq c (pos 0)
test-turned c = grind (arith, ints)

onto-turned : (c : ℤ) (ys : List ℤ) → trim_onto (negsuc 0 *ℤ c) (turned ys) ≡ turned (trim_onto c ys)
onto-turned c [] = rw (test-turned c) (by (int_eq c (pos 0)))
  where
    by : (t : Bool) → cond t [] ((negsuc 0 *ℤ c) ∷ []) ≡ turned (cond t [] (c ∷ []))
    by true = refl
    by false = refl
onto-turned c (y ∷ ys) = refl

trim-turned : (cs : List ℤ) → trim (turned cs) ≡ turned (trim cs)
trim-turned [] = refl
trim-turned (c ∷ cs) = ap (λ (ys : List ℤ). trim_onto (negsuc 0 *ℤ c) ys) (trim-turned cs) ∙ onto-turned c (trim cs)

turned-is : (c : ℤ) → negsuc 0 *ℤ c ≡ neg_ℤ c
turned-is c = omega (arith, ints)

pub at-turned : (cs : List ℤ) (j : ℕ) → get_or (map (λ c. negsuc 0 *ℤ c) cs) j (pos 0) ≡ neg_ℤ (get_or cs j (pos 0))
at-turned [] zero = refl
at-turned [] (suc j) = refl
at-turned (c ∷ cs) zero = turned-is c
at-turned (c ∷ cs) (suc j) = at-turned cs j

-- each is 1, 0 or -1
abbrev pub AreUnits : List ℤ → Type 0
AreUnits [] = Unit {0}
AreUnits (c ∷ cs) = IsUnit c × AreUnits cs

units-by : (cs : List ℤ) → ((j : ℕ) → IsUnit (get_or cs j (pos 0))) → AreUnits cs
units-by [] h = tt
units-by (c ∷ cs) h = (h 0, units-by cs (λ j. h (suc j)))

pub form-units : (vars : List ℕ) (b : ℕ) (f : Affine) → IsOver vars b f → AreUnits f.coefs
form-units vars b f h = units-by f.coefs (λ j. unit-at (λ z. coef z f) h.difference j)

-- their content is 0 or 1
abbrev pub IsBit : ℕ → Type 0
IsBit d = (d ≡ 0) ⊎ (d ≡ 1)

unit-size : (c : ℤ) → IsUnit c → IsBit (unsigned_abs c)
unit-size c (inl e) = inr (rw e refl)
unit-size c (inr (inl e)) = inl (rw e refl)
unit-size c (inr (inr e)) = inr (rw e refl)

gcd-bit : (d e : ℕ) → IsBit d → IsBit e → IsBit (gcd d e)
unfolding gcd gcd_within
gcd-bit d e (inl x) (inl y) = inl (rw (x, y) refl)
gcd-bit d e (inl x) (inr y) = inr (rw (x, y) refl)
gcd-bit d e (inr x) (inl y) = inr (rw (x, y) refl)
gcd-bit d e (inr x) (inr y) = inr (rw (x, y) refl)

pub all-bit : (d : ℕ) (cs : List ℤ) → IsBit d → AreUnits cs → IsBit (gcd_all d cs)
all-bit d [] h u = h
all-bit d (c ∷ cs) h u = all-bit (gcd d (unsigned_abs c)) cs (gcd-bit d (unsigned_abs c) h (unit-size c u.0)) u.1

pub by-one : (x : ℤ) → int_div_euclid x (pos 1) ≡ x
by-one x = let k : 0 < 1 = omega arith in omega (arith, ints, floor_le x 1 k, lt_floor x 1 k)

floored-one : (cs : List ℤ) → floored (pos 1) cs ≡ cs
floored-one [] = refl
floored-one (c ∷ cs) = ap (λ (x : ℤ). x ∷ floored (pos 1) cs) (by-one c) ∙ ap (λ (xs : List ℤ). c ∷ xs) (floored-one cs)

pub divided-is : (f : Affine) (j : ℕ) → coef j (divided (pos 1) f) ≡ coef j f
divided-is f j = at-trim (floored (pos 1) f.coefs) j ∙ ap (λ (cs : List ℤ). get_or cs j (pos 0)) (floored-one f.coefs)

pub over-divided : (vars : List ℕ) (b : ℕ) (f : Affine) → IsOver vars b f → IsOver vars b (divided (pos 1) f) × IsTrimmed (divided (pos 1) f)
over-divided vars b f h = (
  record {
    difference = same-difference (λ z. coef z f) (λ z. coef z (divided (pos 1) f)) (λ j. divided-is f j) h.difference;
    within = λ j a. divided-is f j ∙ h.within j a;
    small = rw (by-one f.konst) h.small;
  },
  trim-trim (floored (pos 1) f.coefs),
)

abs-turned : (c : ℤ) → unsigned_abs (negsuc 0 *ℤ c) ≡ unsigned_abs c
abs-turned c = omega (arith, ints)

neg-zero : (c : ℤ) → c ≡ pos 0 → neg_ℤ c ≡ pos 0
neg-zero c e = rw e refl

pub over-turned : (vars : List ℕ) (b : ℕ) (f : Affine) → IsOver vars b f → IsOver vars b (scaled (negsuc 0) f)
over-turned vars b f h = record {
  difference = turned-difference (λ z. coef z f) (λ z. coef z (scaled (negsuc 0) f)) (λ j. at-turned f.coefs j) h.difference;
  within = λ j a. at-turned f.coefs j ∙ neg-zero (coef j f) (h.within j a);
  small = rw (abs-turned f.konst) h.small;
}

over-signed : (vars : List ℕ) (b : ℕ) (f : Affine) → IsOver vars b f × IsTrimmed f → IsOver vars b (signed f) × IsTrimmed (signed f)
over-signed vars b f h = by (leads_negative f.coefs)
  where
    by : (t : Bool) → IsOver vars b (cond t (scaled (negsuc 0) f) f) × IsTrimmed (cond t (scaled (negsuc 0) f) f)
    by true = (over-turned vars b f h.0, trim-turned f.coefs ∙ ap turned h.1)
    by false = h

-- what is left of a row
abbrev pub IsLeft : List ℕ → ℕ → NormalRow → Type 0
IsLeft vars b (Kept r) = IsRow vars b r
IsLeft vars b Dropped = Unit {0}
IsLeft vars b Absurd = Unit {0}

pub cond-left : (vars : List ℕ) (b : ℕ) (t : Bool) (k l : NormalRow) → IsLeft vars b k → IsLeft vars b l → IsLeft vars b (cond t k l)
cond-left vars b true k l h g = h
cond-left vars b false k l h g = g

pub left-ge : (vars : List ℕ) (b : ℕ) (f : Affine) → IsOver vars b f → IsBit (content f.coefs) → IsLeft vars b (normal_row (Ge f))
left-ge vars b f h (inl e) = rw e (cond-left vars b (int_le (pos 0) f.konst) Dropped Absurd tt tt)
left-ge vars b f h (inr e) = rw e (over-divided vars b f h)

pub left-eq : (vars : List ℕ) (b : ℕ) (f : Affine) → IsOver vars b f → IsBit (content f.coefs) → IsLeft vars b (normal_row (Eq f))
left-eq vars b f h (inl e) = rw e (cond-left vars b (int_eq f.konst (pos 0)) Dropped Absurd tt tt)
left-eq vars b f h (inr e) = rw e (cond-left vars b (divides 1 f.konst) (Kept (Eq (signed (divided (pos 1) f)))) Absurd (over-signed vars b (divided (pos 1) f) (over-divided vars b f h)) tt)
