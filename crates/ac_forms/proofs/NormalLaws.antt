-- The normal form of a row has the same integer points.
use Rattle.std.proofs.Common.{◌≡◌, ◌↔◌, ℕ, ◌*◌, ◌/◌, ◌<◌, ◌==◌, Bool, true, false, cond, ℤ, pos, negsuc, ◌+ℤ◌, ◌*ℤ◌, ◌≤ℤ◌, List, [], ◌∷◌, ◌++◌, map, arith, refl, sym, ap, ◌∙◌, unsigned_abs, int_le, int_eq, IsTrue, Result, Ok, Err}
use Rattle.std.specs.Prelude.{IfOk}
use Rattle.std.specs.Int.{◌∣◌, int_div_euclid, int_rem_euclid}
use Rattle.std.proofs.lemmas.Int.{ints}
use Rattle.std.proofs.Math.Nat.{eq-zero_of_zero-dvd, mul-div_cancel', pos_of_dvd_of_pos}
use borrow.Author.Tests.{eqb-true, eqb-false}
use Rattle.ac_base.specs.Dot.{dot, floored, residues}
use Rattle.ac_base.specs.Gcd.{gcd_all, content, DividesEach}
use Rattle.ac_base.specs.Multiple.{IsMultiple, divides}
use Rattle.ac_base.proofs.Divisors.{gcd_all_divides, divides-true, divides-false, true-divides, false-divides}
use Rattle.ac_base.proofs.Multiples.{multiple_from}
use Rattle.ac_base.proofs.Floor.{cut_keeps, cut_back, positive_is}
use Rattle.ac_base.proofs.Residues.{eq_keeps, eq_absurd, div_keeps, div_absurd, mod_keeps, zero_factor}
use Rattle.ac_forms.specs.Fits.{AllFit, Fits}
use Rattle.ac_forms.specs.Affine.{Affine, value_at, scaled, FormFits}
use Rattle.ac_forms.specs.NormalRows.{trim, divided, reduced, leads_negative, signed, normal_eq, normal_div, normal_ge, normal_row, modular_content, absolutes, sign_numbers, eq_numbers, LeftHolds, NormalFits}
use Rattle.ac_forms.specs.Rows.{Holds, HasModulus}
use Rattle.ac_forms.specs.FormStops.{MadeIff}
use Rattle.ac_forms.specs.declared.stop.FormStop.{FormStop}
use Rattle.ac_forms.specs.declared.stop.FormStop.TheVariants.{Wide, Memory}
use Rattle.ac_forms.specs.declared.row.Row.{Row}
use Rattle.ac_forms.specs.declared.row.Row.TheVariants.{Eq, Div, Ge}
use Rattle.ac_forms.specs.declared.normal.NormalRow.{NormalRow}
use Rattle.ac_forms.specs.declared.normal.NormalRow.TheVariants.{Kept, Dropped, Absurd}
use Rattle.ac_forms.proofs.Trims.{dot-trim}
use Rattle.ac_forms.proofs.Values.{value_at-scaled}

zero_from_abs : (c : ℤ) → unsigned_abs c ≡ 0 → c ≡ pos 0
zero_from_abs c e = omega (arith, ints)

-- without coefficients other than 0 a sum is 0
pub dot_zero : (cs p : List ℤ) → DividesEach 0 cs → dot cs p ≡ pos 0
dot_zero [] p d = refl
dot_zero (c ∷ cs) [] d = refl
dot_zero (c ∷ cs) (x ∷ p) d =
    let e = zero_from_abs c (eq-zero_of_zero-dvd d.0) in
    rw (e, dot_zero cs p d.1) (omega (arith, ints))

value_constant : (f : Affine) (p : List ℤ) → (content f.coefs == 0) ≡ true → value_at f p ≡ f.konst
value_constant f p e =
    let d = (gcd_all_divides 0 f.coefs).1 in
    let z = dot_zero f.coefs p (rw (eqb-true _ _ e) at d) in
    rw z (omega (arith, ints))

content_positive : (f : Affine) → (content f.coefs == 0) ≡ false → 0 < content f.coefs
content_positive f e = let n = eqb-false _ _ e in omega arith

-- the value of the divided form
value_divided : (d : ℤ) (f : Affine) (p : List ℤ) → value_at (divided d f) p ≡ dot (floored d f.coefs) p +ℤ int_div_euclid f.konst d
value_divided d f p = ap (λ z. z +ℤ int_div_euclid f.konst d) (dot-trim (floored d f.coefs) p)

ge_constant : (t : Bool) (k : ℤ) (p : List ℤ) → int_le (pos 0) k ≡ t → LeftHolds (cond t Dropped Absurd) p ↔ (pos 0 ≤ℤ k)
ge_constant true k p e = ((λ _. omega (arith, ints)), (λ _. tt))
ge_constant false k p e = ((λ b. absurd b), (λ l. omega (arith, ints)))

ge_by : (t : Bool) (f : Affine) (p : List ℤ) → (content f.coefs == 0) ≡ t
    → LeftHolds (cond t (cond (int_le (pos 0) f.konst) Dropped Absurd) (Kept (Ge (divided (pos (content f.coefs)) f)))) p ↔ (pos 0 ≤ℤ value_at f p)
ge_by true f p e = rw (value_constant f p e) (ge_constant (int_le (pos 0) f.konst) f.konst p refl)
ge_by false f p e =
    let d = (gcd_all_divides 0 f.coefs).1 in
    let h = content_positive f e in
    rw (value_divided (pos (content f.coefs)) f p) ((λ l. cut_back (content f.coefs) f.coefs p f.konst h d l), (λ l. cut_keeps (content f.coefs) f.coefs p f.konst h d l))

pub ge_keeps : (f : Affine) (p : List ℤ) → LeftHolds (normal_ge f) p ↔ (pos 0 ≤ℤ value_at f p)
ge_keeps f p = ge_by (content f.coefs == 0) f p refl

eq_constant : (t : Bool) (k : ℤ) (p : List ℤ) → int_eq k (pos 0) ≡ t → LeftHolds (cond t Dropped Absurd) p ↔ (k ≡ pos 0)
eq_constant true k p e = ((λ _. grind (arith, ints)), (λ _. tt))
eq_constant false k p e = ((λ b. absurd b), (λ l. grind (arith, ints)))

-- the opposite is 0 where the form is
signed_by : (t : Bool) (f : Affine) (p : List ℤ) → (value_at (cond t (scaled (negsuc 0) f) f) p ≡ pos 0) ↔ (value_at f p ≡ pos 0)
signed_by true f p = rw (value_at-scaled (negsuc 0) f p) ((λ e. omega (arith, ints)), (λ e. omega (arith, ints)))
signed_by false f p = ((λ e. e), (λ e. e))

eq_divided : (t : Bool) (f : Affine) (p : List ℤ) → (content f.coefs == 0) ≡ false → divides (content f.coefs) f.konst ≡ t
    → LeftHolds (cond t (Kept (Eq (signed (divided (pos (content f.coefs)) f)))) Absurd) p ↔ (value_at f p ≡ pos 0)
eq_divided true f p z e =
    let d = (gcd_all_divides 0 f.coefs).1 in
    let h = content_positive f z in
    let s = signed_by (leads_negative (divided (pos (content f.coefs)) f).coefs) (divided (pos (content f.coefs)) f) p in
    let k = rw (← (value_divided (pos (content f.coefs)) f p)) at (eq_keeps (content f.coefs) f.coefs p f.konst h d (divides-true (content f.coefs) f.konst e)) in
    ((λ l. k.1 (s.0 l)), (λ l. s.1 (k.0 l)))
eq_divided false f p z e =
    let d = (gcd_all_divides 0 f.coefs).1 in
    let h = content_positive f z in
    ((λ b. absurd b), (λ l. absurd (eq_absurd (content f.coefs) f.coefs p f.konst h d (divides-false (content f.coefs) f.konst e) l)))

eq_by : (t : Bool) (f : Affine) (p : List ℤ) → (content f.coefs == 0) ≡ t
    → LeftHolds (cond t (cond (int_eq f.konst (pos 0)) Dropped Absurd) (cond (divides (content f.coefs) f.konst) (Kept (Eq (signed (divided (pos (content f.coefs)) f)))) Absurd)) p ↔ (value_at f p ≡ pos 0)
eq_by true f p e = rw (value_constant f p e) (eq_constant (int_eq f.konst (pos 0)) f.konst p refl)
eq_by false f p e = eq_divided (divides (content f.coefs) f.konst) f p e refl

pub eq_row_keeps : (f : Affine) (p : List ℤ) → LeftHolds (normal_eq f) p ↔ (value_at f p ≡ pos 0)
eq_row_keeps f p = eq_by (content f.coefs == 0) f p refl

-- the quotient of the modulus by what it has in common with the coefficients
div_parts : (n : ℕ) (f : Affine) (p : List ℤ) → 0 < n → divides (modular_content (pos n) f) (int_rem_euclid f.konst (pos n)) ≡ true
    → IsMultiple (pos (n / modular_content (pos n) f)) (value_at (divided (pos (modular_content (pos n) f)) (reduced (pos n) f)) p) ↔ IsMultiple (pos n) (value_at f p)
div_parts n f p l t =
    let h = modular_content (pos n) f in
    let cs = residues (pos n) f.coefs in
    let c = int_rem_euclid f.konst (pos n) in
    let d = gcd_all_divides n cs in
    let e : h * (n / h) ≡ n = mul-div_cancel' h d.0 in
    let k = rw (e, ← (value_divided (pos h) (reduced (pos n) f) p)) at (div_keeps h (n / h) cs p c (pos_of_dvd_of_pos d.0 l) d.1 (divides-true h c t)) in
    let m = mod_keeps n f.coefs p f.konst l in
    ((λ q. m.1 (k.1 q)), (λ q. k.0 (m.0 q)))

div_left : (t : Bool) (n : ℕ) (f : Affine) (p : List ℤ) → 0 < n → divides (modular_content (pos n) f) (int_rem_euclid f.konst (pos n)) ≡ true → int_eq (pos (n / modular_content (pos n) f)) (pos 1) ≡ t
    → LeftHolds (cond t Dropped (Kept (Div (pos (n / modular_content (pos n) f)) (divided (pos (modular_content (pos n) f)) (reduced (pos n) f))))) p ↔ IsMultiple (pos n) (value_at f p)
div_left true n f p l d e =
    let v = value_at (divided (pos (modular_content (pos n) f)) (reduced (pos n) f)) p in
    let one : n / modular_content (pos n) f ≡ 1 = grind (arith, ints) in
    let k = rw one at (div_parts n f p l d) in
    ((λ _. k.0 (multiple_from (pos 1) v v (omega (arith, ints)))), (λ _. tt))
div_left false n f p l d e = div_parts n f p l d

div_by : (t : Bool) (n : ℕ) (f : Affine) (p : List ℤ) → 0 < n → divides (modular_content (pos n) f) (int_rem_euclid f.konst (pos n)) ≡ t
    → LeftHolds (cond t (cond (int_eq (pos (n / modular_content (pos n) f)) (pos 1)) Dropped (Kept (Div (pos (n / modular_content (pos n) f)) (divided (pos (modular_content (pos n) f)) (reduced (pos n) f))))) Absurd) p
    ↔ IsMultiple (pos n) (value_at f p)
div_by true n f p l e = div_left (int_eq (pos (n / modular_content (pos n) f)) (pos 1)) n f p l e refl
div_by false n f p l e =
    let h = modular_content (pos n) f in
    let cs = residues (pos n) f.coefs in
    let c = int_rem_euclid f.konst (pos n) in
    let d = gcd_all_divides n cs in
    let q : h * (n / h) ≡ n = mul-div_cancel' h d.0 in
    let k = rw q at (div_absurd h (n / h) cs p c (pos_of_dvd_of_pos d.0 l) d.1 (divides-false h c e)) in
    ((λ b. absurd b), (λ w. absurd (k ((mod_keeps n f.coefs p f.konst l).0 w))))

pub div_row_keeps : (m : ℤ) (f : Affine) (p : List ℤ) → pos 1 ≤ℤ m → LeftHolds (normal_div m f) p ↔ IsMultiple m (value_at f p)
div_row_keeps m f p l =
    let s = positive_is m l in
    rw s.2 (div_by (divides (modular_content (pos s.0) f) (int_rem_euclid f.konst (pos s.0))) s.0 f p s.1 refl)

-- what is left of a row has the row's points
pub row_keeps : (r : Row) (p : List ℤ) → HasModulus r → LeftHolds (normal_row r) p ↔ Holds r p
row_keeps (Eq f) p h = eq_row_keeps f p
row_keeps (Div m f) p h = div_row_keeps m f p h
row_keeps (Ge f) p h = ge_keeps f p

pub left_keeps : (P : Type 0) (res : Result NormalRow FormStop) (r : Row) → HasModulus r → MadeIff res P (normal_row r) → IfOk res (λ left. (p : List ℤ) → LeftHolds left p ↔ Holds r p)
left_keeps P (Ok left) r h m = λ p. rw m.1 (row_keeps r p h)
left_keeps P (Err e) r h m = tt
