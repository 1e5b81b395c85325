-- What is left of a divisibility that stands: its quotient, or that a number divides one that it does not divide.
use Rattle.std.proofs.Common.{◌≡◌, ℕ, zero, suc, ◌^◌, ◌*◌, ◌/◌, ◌<◌, ◌≤◌, ℤ, pos, negsuc, neg_ℤ, ◌+ℤ◌, ◌*ℤ◌, ◌≤ℤ◌, List, [], ◌∷◌, length, get_or, Option, Some, None, Bool, true, false, cond, int_eq, slice_get, unsigned_abs, refl, sym, ap, ◌∙◌, subst, arith}
use Rattle.std.specs.Prelude.{not}
use Rattle.std.specs.Int.{int_div_euclid, int_rem_euclid, ◌∣◌}
use Rattle.std.proofs.lemmas.Int.{ints}
use Rattle.std.proofs.lemmas.Nat.Gcd.{dvd-zero, dvd_refl, dvd_trans, le_of_dvd}
use Rattle.std.proofs.Math.Nat.{eq-zero_of_zero-dvd}
use Rattle.ac_base.specs.Dot.{residues}
use Rattle.ac_base.specs.Gcd.{gcd, gcd_all, content, DividesEach}
use Rattle.ac_base.specs.Multiple.{IsMultiple, divides}
use Rattle.ac_base.proofs.Divisors.{IsGcd-gcd, gcd_all_divides, divides_gcd_all, divides-true, divides-false, false-divides}
use Rattle.ac_base.proofs.Floor.{floor_exact, positive_is}
use Rattle.ac_base.proofs.Multiples.{multiple_from, multiple_add}
use Rattle.ac_base.proofs.Products.{neg-mul_ℤ, mul_comm_ℤ}
use Rattle.ac_base.proofs.Residues.{split_mod}
use Rattle.ac_forms.specs.Affine.{Affine, coef, MixFits}
use Rattle.ac_forms.specs.Fits.{Fits}
use Rattle.ac_forms.specs.NormalRows.{divided, reduced, modular_content, normal_div}
use Rattle.ac_forms.specs.FormOrder.{modulus_of}
use Rattle.ac_forms.specs.Rows.{form_of}
use Rattle.ac_forms.specs.declared.conj.Conj.{Conj}
use Rattle.ac_forms.specs.declared.row.Row.{Row}
use Rattle.ac_forms.specs.declared.row.Row.TheVariants.{Div}
use Rattle.ac_forms.specs.declared.normal.NormalRow.TheVariants.{Kept, Dropped, Absurd}
use Rattle.ac_cert.specs.AbsurdEnd.{is_absurd}
use Rattle.ac_omega_certify.specs.Descents.{IsFormUpTo2To122, AreNames}
use Rattle.ac_omega_certify.specs.TreePathRows.{place_of, coef_of, Renames, Blends, LeavesMultiple, StandsAt, Leads, Reaches, Shows}
use Rattle.ac_omega_certify.specs.declared.path.TreePath.{TreePath}
use Rattle.ac_omega_certify.proofs.Inequalities.{absurd-at}
use Rattle.ac_omega_certify.proofs.Quotients.{coef-divided, divides-coef}
use Rattle.ac_omega_certify.proofs.SmallNumbers.{fits_small, difference_fits, floor_multiple, rest_multiple, rest_small, turned_is, less_small}
use Rattle.ac_omega_certify.proofs.Terms.{once}

-- the common divisor of a modulus and of the coefficients modulo it
abbrev pub common : ℕ → Affine → ℕ
common k f = gcd_all k (residues (pos k) f.coefs)

common-modulus : (k : ℕ) (f : Affine) → common k f ∣ k
common-modulus k f = (gcd_all_divides k (residues (pos k) f.coefs)).0

dividing : (h k : ℕ) → 0 < k → h ∣ k → 0 < h
dividing zero k l d = absurd (omega (arith, eq-zero_of_zero-dvd d))
dividing (suc h) k l d = omega arith

pub common-some : (k : ℕ) (f : Affine) → 0 < k → 0 < common k f
common-some k f l = dividing (common k f) k l (common-modulus k f)

zero_rest : (k : ℕ) → int_rem_euclid (pos 0) (pos k) ≡ pos 0
zero_rest zero = refl
zero_rest (suc k) = omega (arith, ints)

coef-reduced : (k : ℕ) (f : Affine) (j : ℕ) → coef j (reduced (pos k) f) ≡ int_rem_euclid (coef j f) (pos k)
coef-reduced k f j = by f.coefs j
  where
    by : (cs : List ℤ) (j : ℕ) → get_or (residues (pos k) cs) j (pos 0) ≡ int_rem_euclid (get_or cs j (pos 0)) (pos k)
    by [] zero = sym (zero_rest k)
    by [] (suc j) = sym (zero_rest k)
    by (c ∷ cs) zero = refl
    by (c ∷ cs) (suc j) = by cs j

common-rest : (k : ℕ) (f : Affine) (j : ℕ) → common k f ∣ unsigned_abs (int_rem_euclid (coef j f) (pos k))
common-rest k f j = rw coef-reduced at (divides-coef (common k f) (residues (pos k) f.coefs) j (gcd_all_divides k (residues (pos k) f.coefs)).1)

-- the quotient of what is left of a form
abbrev pub quotient : ℕ → Affine → Affine
quotient k f = divided (pos (common k f)) (reduced (pos k) f)

-- one number of it, back again
back_again : (k h : ℕ) (c : ℤ) → 0 < h → h ∣ unsigned_abs (int_rem_euclid c (pos k)) → neg_ℤ (pos h) *ℤ int_div_euclid (int_rem_euclid c (pos k)) (pos h) ≡ neg_ℤ (int_rem_euclid c (pos k))
back_again k h c l d = neg-mul_ℤ (pos h) (int_div_euclid (int_rem_euclid c (pos k)) (pos h)) ∙ ap neg_ℤ (sym (floor_exact (int_rem_euclid c (pos k)) h l d))

number_fits : (k h : ℕ) (c : ℤ) → 0 < k → k ≤ 2 ^ 122 → 0 < h → h ∣ unsigned_abs (int_rem_euclid c (pos k)) → unsigned_abs c ≤ 2 ^ 122 → MixFits (pos 1) c (neg_ℤ (pos h)) (int_div_euclid (int_rem_euclid c (pos k)) (pos h))
number_fits k h c p q l d small = rw (once c, back_again k h c l d)
    (fits_small c (omega arith), fits_small (neg_ℤ (int_rem_euclid c (pos k))) (omega (arith, turned_is (int_rem_euclid c (pos k)), rest_small c k p)), fits_small (c +ℤ neg_ℤ (int_rem_euclid c (pos k))) (omega (arith, less_small c (int_rem_euclid c (pos k)), rest_small c k p)))

number_left : (k h : ℕ) (c : ℤ) → 0 < k → 0 < h → h ∣ unsigned_abs (int_rem_euclid c (pos k)) → IsMultiple (pos k) (pos 1 *ℤ c +ℤ neg_ℤ (pos h) *ℤ int_div_euclid (int_rem_euclid c (pos k)) (pos h))
number_left k h c p l d = rw (once c, back_again k h c l d) (multiple_from (pos k) (c +ℤ neg_ℤ (int_rem_euclid c (pos k))) (int_div_euclid c (pos k)) (rest_multiple c k p))

coef-quotient : (k : ℕ) (f : Affine) (j : ℕ) → 0 < k → coef j (quotient k f) ≡ int_div_euclid (int_rem_euclid (coef j f) (pos k)) (pos (common k f))
coef-quotient k f j p = coef-divided (pos (common k f)) (reduced (pos k) f) j (above (common-some k f p)) ∙ ap (λ z. int_div_euclid z (pos (common k f))) (coef-reduced k f j)
  where
    above : {h : ℕ} → 0 < h → pos 1 ≤ℤ pos h
    above l = omega (arith, ints)

-- the common divisor divides the constant modulo k
abbrev pub Divides : ℕ → Affine → Type 0
Divides k f = common k f ∣ unsigned_abs (int_rem_euclid f.konst (pos k))

pub quotient_blends : (k : ℕ) (f : Affine) → 0 < k → k ≤ 2 ^ 122 → Divides k f → IsFormUpTo2To122 f → Blends (pos 1) f (neg_ℤ (pos (common k f))) (quotient k f)
quotient_blends k f p q d m = record {
  konst = number_fits k (common k f) f.konst p q (common-some k f p) d m.konst;
  coefs = λ j. rw (coef-quotient k f j p) (number_fits k (common k f) (coef j f) p q (common-some k f p) (common-rest k f j) (m.coefs j));
}

pub quotient_leaves : (k : ℕ) (f : Affine) → 0 < k → Divides k f → LeavesMultiple (pos k) f (pos (common k f)) (quotient k f)
quotient_leaves k f p d = record {
  konst = number_left k (common k f) f.konst p (common-some k f p) d;
  coefs = λ j. rw (coef-quotient k f j p) (number_left k (common k f) (coef j f) p (common-some k f p) (common-rest k f j));
}

-- the modulus is the product of the common divisor and the quotient
pub modulus_product : (k : ℕ) (f : Affine) → 0 < k → pos (common k f) *ℤ int_div_euclid (pos k) (pos (common k f)) ≡ pos k
modulus_product k f p = sym (floor_exact (pos k) (common k f) (common-some k f p) (common-modulus k f))

positive_part : (h n k : ℕ) → h * n ≡ k → 0 < k → 0 < n
positive_part h zero k e p = absurd (omega (arith, e))
positive_part h (suc n) k e p = omega arith

pub modulus_some : (k : ℕ) (f : Affine) → 0 < k → pos 1 ≤ℤ int_div_euclid (pos k) (pos (common k f))
modulus_some k f p = omega (arith, ints, positive_part (common k f) (k / common k f) k (omega (arith, ints, modulus_product k f p)) p)

-- and the modulus divided by the quotient is the common divisor
pub modulus_back : (k : ℕ) (f : Affine) → 0 < k → int_div_euclid (pos k) (int_div_euclid (pos k) (pos (common k f))) ≡ pos (common k f)
modulus_back k f p =
    let n = k / common k f in
    let l : 0 < n = positive_part (common k f) n k (omega (arith, ints, modulus_product k f p)) p in
    ap (λ z. int_div_euclid z (pos n)) (sym (mul_comm_ℤ (pos n) (pos (common k f)) ∙ modulus_product k f p)) ∙ floor_multiple n (pos (common k f)) l

-- what the cases of the normal form say
pub div_kept : (m : ℤ) (f : Affine) (r : Row) → normal_div m f ≡ Kept r → (divides (modular_content m f) (int_rem_euclid f.konst m) ≡ true) × (r ≡ Div (int_div_euclid m (pos (modular_content m f))) (divided (pos (modular_content m f)) (reduced m f)))
div_kept m f r e = by (divides (modular_content m f) (int_rem_euclid f.konst m)) (int_eq (int_div_euclid m (pos (modular_content m f))) (pos 1)) e
  where
    row : Row
    row = Div (int_div_euclid m (pos (modular_content m f))) (divided (pos (modular_content m f)) (reduced m f))

    by : (b c : Bool) → cond b (cond c Dropped (Kept row)) Absurd ≡ Kept r → (b ≡ true) × (r ≡ row)
    by true true e = absurd cc
    by true false e = (refl, cc)
    by false c e = absurd cc

pub div_absurd : (m : ℤ) (f : Affine) → normal_div m f ≡ Absurd → divides (modular_content m f) (int_rem_euclid f.konst m) ≡ false
div_absurd m f e = by (divides (modular_content m f) (int_rem_euclid f.konst m)) (int_eq (int_div_euclid m (pos (modular_content m f))) (pos 1)) e
  where
    by : (b c : Bool) → cond b (cond c Dropped (Kept (Div (int_div_euclid m (pos (modular_content m f))) (divided (pos (modular_content m f)) (reduced m f))))) Absurd ≡ Absurd → b ≡ false
    by true true e = absurd cc
    by true false e = absurd cc
    by false c e = refl

-- ---- a number that divides the modulus and the coefficients, and not the constant
rest_divides : (h k : ℕ) (c : ℤ) → 0 < k → h ∣ k → h ∣ unsigned_abs c → h ∣ unsigned_abs (int_rem_euclid c (pos k))
rest_divides h k c p d e = subst (λ z. IsMultiple (pos h) z) (out c (pos k *ℤ int_div_euclid c (pos k)) (int_rem_euclid c (pos k)) (split_mod c k p))
    (multiple_add (pos h) (pos 1) c (negsuc 0) (pos k *ℤ int_div_euclid c (pos k)) e (dvd_trans h d (multiple_from (pos k) (pos k *ℤ int_div_euclid c (pos k)) (int_div_euclid c (pos k)) refl)))
  where
    out : (c q r : ℤ) → c ≡ q +ℤ r → pos 1 *ℤ c +ℤ negsuc 0 *ℤ q ≡ r
    out c q r e = omega (arith, ints, e)

number_divides : (h k : ℕ) (c : ℤ) → 0 < k → h ∣ k → h ∣ unsigned_abs (int_rem_euclid c (pos k)) → h ∣ unsigned_abs c
number_divides h k c p d e = subst (λ z. IsMultiple (pos h) z) (back c (pos k *ℤ int_div_euclid c (pos k)) (int_rem_euclid c (pos k)) (split_mod c k p))
    (multiple_add (pos h) (pos 1) (pos k *ℤ int_div_euclid c (pos k)) (pos 1) (int_rem_euclid c (pos k)) (dvd_trans h d (multiple_from (pos k) (pos k *ℤ int_div_euclid c (pos k)) (int_div_euclid c (pos k)) refl)) e)
  where
    back : (c q r : ℤ) → c ≡ q +ℤ r → pos 1 *ℤ q +ℤ pos 1 *ℤ r ≡ c
    back c q r e = omega (arith, ints, e)

each_number : (h k : ℕ) (cs : List ℤ) → 0 < k → h ∣ k → DividesEach h (residues (pos k) cs) → DividesEach h cs
each_number h k [] p d e = tt
each_number h k (c ∷ cs) p d e = (number_divides h k c p d e.0, each_number h k cs p d e.1)

-- the greatest common divisor of a modulus and of the coefficients themselves
abbrev pub divisor : ℕ → Affine → ℕ
divisor k f = gcd k (content f.coefs)

divisor-modulus : (k : ℕ) (f : Affine) → divisor k f ∣ k
divisor-modulus k f = (IsGcd-gcd k (content f.coefs)).0

divisor-coef : (k : ℕ) (f : Affine) (j : ℕ) → divisor k f ∣ unsigned_abs (coef j f)
divisor-coef k f j = dvd_trans (divisor k f) (IsGcd-gcd k (content f.coefs)).1 (divides-coef (content f.coefs) f.coefs j (gcd_all_divides 0 f.coefs).1)

pub divisor_some : (k : ℕ) (f : Affine) → 0 < k → 0 < divisor k f
divisor_some k f p = dividing (divisor k f) k p (divisor-modulus k f)

pub divisor_small : (k : ℕ) (f : Affine) → 0 < k → divisor k f ≤ k
divisor_small k f p = le_of_dvd p (divisor-modulus k f)

common-divides : (k : ℕ) (f : Affine) → 0 < k → common k f ∣ divisor k f
common-divides k f p =
    let c = gcd_all_divides k (residues (pos k) f.coefs) in
    (IsGcd-gcd k (content f.coefs)).2 (common k f) c.0 (divides_gcd_all (common k f) 0 f.coefs (dvd-zero (common k f)) (each_number (common k f) k f.coefs p c.0 c.1))

pub divisor_apart : (k : ℕ) (f : Affine) → 0 < k → divides (common k f) (int_rem_euclid f.konst (pos k)) ≡ false → ¬ (divisor k f ∣ unsigned_abs f.konst)
divisor_apart k f p e d = divides-false (common k f) (int_rem_euclid f.konst (pos k)) e (rest_divides (common k f) k f.konst p (common-modulus k f) (dvd_trans (common k f) (common-divides k f p) d))

-- the form that is worth the constant
abbrev pub constant : Affine → Affine
constant f = record { konst = f.konst; coefs = [] }

pub constant_renames : (names : List ℕ) (f : Affine) → Renames names (constant f) (constant f)
constant_renames names f = record { konst = refl; coefs = λ j. by (place_of j names) }
  where
    by : (o : Option ℕ) → pos 0 ≡ coef_of o (constant f)
    by None = refl
    by (Some i) = refl

pub constant_blends : (f : Affine) → IsFormUpTo2To122 f → Blends (pos 1) f (negsuc 0) (constant f)
constant_blends f m = record {
  konst = difference_fits f.konst f.konst (omega (arith, m.konst)) (omega (arith, m.konst));
  coefs = λ j. difference_fits (coef j f) (pos 0) (omega (arith, m.coefs j)) (omega arith);
}

pub constant_leaves : (k : ℕ) (f : Affine) → LeavesMultiple (pos (divisor k f)) f (pos 1) (constant f)
constant_leaves k f = record {
  konst = rw (none f.konst) (dvd-zero (divisor k f));
  coefs = λ j. rw (same (coef j f)) (divisor-coef k f j);
}
  where
    none : (c : ℤ) → pos 1 *ℤ c +ℤ negsuc 0 *ℤ c ≡ pos 0
    none c = omega (arith, ints)

    same : (c : ℤ) → pos 1 *ℤ c +ℤ negsuc 0 *ℤ pos 0 ≡ c
    same c = omega (arith, ints)

-- a call that reduces a divisibility
abbrev pub MakesReduced : TreePath → TreePath → ℕ → ℤ → ℤ → Affine → ℕ → Type 0
MakesReduced t u x g n form i = (start path : Conj) (names : List ℕ) (m : ℤ) (e f : Affine) → Reaches t start path → StandsAt names path x (Div m e) → Renames names f form → length form.coefs ≤ path.columns → pos 1 ≤ℤ g → pos 1 ≤ℤ n → Fits (g *ℤ n) → IsMultiple (g *ℤ n) m → Blends (pos 1) e (neg_ℤ g) f → LeavesMultiple (g *ℤ n) e g f → Leads u start path names i (Div n f)

-- what is left of a divisibility stands behind a call
abbrev pub IsLeftOfDivisibility : TreePath → TreePath → ℕ → ℤ → Affine → List ℕ → ℕ → Type 0
IsLeftOfDivisibility t u x m f names i = (start path : Conj) → Reaches t start path → AreNames path.columns names → StandsAt names path x (Div m f) → Shows u start path names i (normal_div m f)

-- a form stands over the columns of a path under names
abbrev pub IsNamed : List ℕ → ℕ → Affine → Affine → Type 0
IsNamed names columns f form = (AreNames columns names → Renames names f form) × (length form.coefs ≤ columns)

above_zero : (h : ℕ) → 0 < h → pos 1 ≤ℤ pos h
above_zero h l = omega (arith, ints)

quotient_at : (t u : TreePath) (x i k : ℕ) (f form : Affine) (names : List ℕ) → 0 < k → k ≤ 2 ^ 122 → IsFormUpTo2To122 f → Divides k f → normal_div (pos k) f ≡ Kept (Div (int_div_euclid (pos k) (pos (common k f))) (quotient k f)) → IsNamed names t.columns (quotient k f) form
    → MakesReduced t u x (pos (common k f)) (int_div_euclid (pos k) (pos (common k f))) form i → IsLeftOfDivisibility t u x (pos k) f names i
quotient_at t u x i k f form names p q m d e named call start path h a s =
    let n = int_div_euclid (pos k) (pos (common k f)) in
    let at : AreNames t.columns names = rw (← h.columns) a in
    let within : length form.coefs ≤ path.columns = rw h.columns named.1 in
    let l = call start path names (pos k) f (quotient k f) h s (named.0 at) within (above_zero (common k f) (common-some k f p)) (modulus_some k f p)
    (rw (modulus_product k f p) (fits_small (pos k) (omega arith))) (subst (λ (z : ℤ). IsMultiple z (pos k)) (sym (modulus_product k f p)) (dvd_refl k)) (quotient_blends k f p q d m) (rw (modulus_product k f p) (quotient_leaves k f p d)) in
    rw e (record { further = l.further; reaches = l.reaches; onto = l.onto; stands = l.stands })

quotient_with : (t u : TreePath) (x i k : ℕ) (g n : ℤ) (f form : Affine) (r : Row) (names : List ℕ) → 0 < k → k ≤ 2 ^ 122 → IsFormUpTo2To122 f → normal_div (pos k) f ≡ Kept r → n ≡ modulus_of r → g ≡ int_div_euclid (pos k) n → IsNamed names t.columns (form_of r) form
    → MakesReduced t u x g n form i → IsLeftOfDivisibility t u x (pos k) f names i
quotient_with t u x i k g n f form r names p q m e en eg =
    let c = div_kept (pos k) f r e in
    let is : n ≡ int_div_euclid (pos k) (pos (common k f)) = en ∙ ap modulus_of c.1 in
    let back : g ≡ pos (common k f) = eg ∙ ap (λ z. int_div_euclid (pos k) z) is ∙ modulus_back k f p in
    let d : Divides k f = divides-true (common k f) (int_rem_euclid f.konst (pos k)) c.0 in
    rw (c.1, is, back) (quotient_at t u x i k f form names p q m d (e ∙ ap Kept c.1))

pub quotient_shows : (t u : TreePath) (x i : ℕ) (m g n : ℤ) (f form : Affine) (r : Row) (names : List ℕ) → pos 1 ≤ℤ m → unsigned_abs m ≤ 2 ^ 122 → IsFormUpTo2To122 f → normal_div m f ≡ Kept r → n ≡ modulus_of r → g ≡ int_div_euclid m n → IsNamed names t.columns (form_of r) form
    → MakesReduced t u x g n form i → IsLeftOfDivisibility t u x m f names i
quotient_shows t u x i m g n f form r names h =
    let s = positive_is m h in
    rw s.2 (λ q d e en eg. quotient_with t u x i s.0 g n f form r names s.1 q d e en eg)

-- the quotient's modulus is positive
pub quotient_some : (m : ℤ) (f : Affine) (r : Row) → pos 1 ≤ℤ m → normal_div m f ≡ Kept r → pos 1 ≤ℤ modulus_of r
quotient_some m f r h =
    let s = positive_is m h in
    rw s.2 (λ e. rw (div_kept (pos s.0) f r e).1 (modulus_some s.0 f s.1))

-- the row that the divisor divides the constant is absurd
absurd_at_place : (names : List ℕ) (c : Conj) (i k : ℕ) (f : Affine) → 0 < k → divides (common k f) (int_rem_euclid f.konst (pos k)) ≡ false → StandsAt names c i (Div (pos (divisor k f)) (constant f)) → is_absurd (slice_get c.rows i) ≡ true
absurd_at_place names c i k f p e a =
    absurd-at names c i (Div (pos (divisor k f)) (constant f)) (λ j. refl) (ap not (false-divides (divisor k f) f.konst (divisor_apart k f p e))) a

one_product : (d : ℕ) → pos 1 *ℤ pos d ≡ pos d
one_product d = omega (arith, ints)

constant_at : (t u : TreePath) (x i k : ℕ) (f : Affine) (names : List ℕ) → 0 < k → k ≤ 2 ^ 122 → IsFormUpTo2To122 f → normal_div (pos k) f ≡ Absurd → MakesReduced t u x (pos 1) (pos (divisor k f)) (constant f) i → IsLeftOfDivisibility t u x (pos k) f names i
constant_at t u x i k f names p q m e call start path h a s =
    let d = divisor k f in
    let l = call start path names (pos k) f (constant f) h s (constant_renames names f) (omega arith) (omega (arith, ints)) (above_zero d (divisor_some k f p))
    (rw (one_product d) (fits_small (pos d) (omega (arith, divisor_small k f p)))) (subst (λ (z : ℤ). IsMultiple z (pos k)) (sym (one_product d)) (divisor-modulus k f)) (constant_blends f m) (rw (one_product d) (constant_leaves k f)) in
    rw e (record { further = l.further; reaches = l.reaches; onto = l.onto; stands = absurd_at_place names l.further i k f p (div_absurd (pos k) f e) l.stands })

constant_with : (t u : TreePath) (x i k : ℕ) (d : ℤ) (f form : Affine) (names : List ℕ) → 0 < k → k ≤ 2 ^ 122 → IsFormUpTo2To122 f → normal_div (pos k) f ≡ Absurd → d ≡ pos (divisor k f) → form ≡ constant f → MakesReduced t u x (pos 1) d form i → IsLeftOfDivisibility t u x (pos k) f names i
constant_with t u x i k d f form names p q m e ed ef = rw (ed, ef) (constant_at t u x i k f names p q m e)

pub constant_shows : (t u : TreePath) (x i : ℕ) (m d : ℤ) (f form : Affine) (names : List ℕ) → pos 1 ≤ℤ m → unsigned_abs m ≤ 2 ^ 122 → IsFormUpTo2To122 f → normal_div m f ≡ Absurd → d ≡ pos (divisor (unsigned_abs m) f) → form ≡ constant f → MakesReduced t u x (pos 1) d form i → IsLeftOfDivisibility t u x m f names i
constant_shows t u x i m d f form names h =
    let s = positive_is m h in
    rw s.2 (λ q b e ed ef. constant_with t u x i s.0 d f form names s.1 q b e ed ef)

pub gcd_small : (m : ℤ) (k c g : ℕ) → pos 1 ≤ℤ m → k ≡ unsigned_abs m → g ≡ gcd k c → g ≤ unsigned_abs m
gcd_small m k c g h e is = rw (is, e) (le_of_dvd (some m h) (IsGcd-gcd (unsigned_abs m) c).0)
  where
    some : (m : ℤ) → pos 1 ≤ℤ m → 0 < unsigned_abs m
    some (pos n) h = omega (arith, ints)
    some (negsuc n) h = omega arith

pub positive_small : (m : ℤ) → pos 1 ≤ℤ m → Fits m → unsigned_abs m < 2 ^ 127
positive_small (pos n) h f = f.sfits
positive_small (negsuc n) h f = absurd (omega (arith, ints))
