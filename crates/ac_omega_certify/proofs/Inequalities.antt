-- What is left of a row `form >= 0` that stands; rows without coefficients.
use Rattle.std.proofs.Common.{◌≡◌, ◌==◌, ℕ, zero, suc, ◌≤◌, ℤ, pos, negsuc, ◌*ℤ◌, ◌≤ℤ◌, List, get_or, Option, Some, None, Bool, true, false, cond, slice_get, unsigned_abs, refl, sym, ap, ◌∙◌, arith}
use Rattle.std.specs.Prelude.{int_le}
use Rattle.std.specs.Int.{int_div_euclid}
use Rattle.std.specs.Int.Signed.{lt_z}
use Rattle.std.proofs.lemmas.Int.{ints}
use Rattle.std.proofs.Math.Nat.{eq-zero_of_zero-dvd}
use borrow.Author.Tests.{eqb-true}
use Rattle.ac_base.specs.Gcd.{content, DividesEach}
use Rattle.ac_base.specs.Multiple.{divides}
use Rattle.ac_base.proofs.Divisors.{gcd_all_divides, divides-true}
use Rattle.ac_base.proofs.Floor.{floor_exact}
use Rattle.ac_forms.specs.Affine.{Affine, coef}
use Rattle.ac_forms.specs.NormalRows.{divided, normal_ge}
use Rattle.ac_forms.specs.Rows.{form_of}
use Rattle.ac_forms.specs.declared.conj.Conj.{Conj}
use Rattle.ac_forms.specs.declared.row.Row.{Row}
use Rattle.ac_forms.specs.declared.row.Row.TheVariants.{Eq, Div, Ge}
use Rattle.ac_forms.specs.declared.normal.NormalRow.TheVariants.{Dropped, Absurd}
use Rattle.ac_cert.specs.AbsurdEnd.{is_absurd, is_false}
use Rattle.ac_cert.specs.Rules.{all_zero}
use Rattle.ac_omega_certify.specs.declared.path.TreePath.{TreePath}
use Rattle.ac_forms.specs.Renaming.{with_form}
use Rattle.ac_omega_certify.specs.TreePathRows.{place_of, coef_of, Alike, Renames, StandsAt, Reaches, Leads, LeftStands, Shows}
use Rattle.ac_omega_certify.proofs.Quotients.{coef-divided, divides-coef, zeros}
use Rattle.ac_omega_certify.proofs.Renaming.{renames-alike}
use Rattle.ac_omega_certify.proofs.Paths.{onto-self}

zero_size : (c : ℤ) → unsigned_abs c ≡ 0 → c ≡ pos 0
zero_size (pos n) e = ap pos e
zero_size (negsuc n) e = absurd (omega arith)

pub no_coefs : (cs : List ℤ) (j : ℕ) → (content cs == 0) ≡ true → get_or cs j (pos 0) ≡ pos 0
no_coefs cs j e =
    let d : DividesEach 0 cs = rw (eqb-true _ _ e) at (gcd_all_divides 0 cs).1 in
    zero_size (get_or cs j (pos 0)) (eq-zero_of_zero-dvd (divides-coef 0 cs j d))

pub renamed-zeros : (names : List ℕ) (f f' : Affine) → Renames names f f' → ((j : ℕ) → coef j f ≡ pos 0) → all_zero f'.coefs ≡ true
renamed-zeros names f f' x h = zeros f'.coefs (λ j. x.coefs j ∙ by (place_of j names))
  where
    by : (o : Option ℕ) → coef_of o f ≡ pos 0
    by None = refl
    by (Some i) = h i

form-with : (r : Row) (f : Affine) → form_of (with_form r f) ≡ f
form-with (Eq e) f = refl
form-with (Div m e) f = refl
form-with (Ge e) f = refl

false-with : (r : Row) (f : Affine) → f.konst ≡ (form_of r).konst → is_false r ≡ true → is_false (with_form r f) ≡ true
false-with (Eq e) f k h = rw k h
false-with (Div m e) f k h = rw k h
false-with (Ge e) f k h = rw k h

-- a row without coefficients that is false is absurd on the path
pub absurd-at : (names : List ℕ) (c : Conj) (i : ℕ) (r : Row) → ((j : ℕ) → coef j (form_of r) ≡ pos 0) → is_false r ≡ true → StandsAt names c i r → is_absurd (slice_get c.rows i) ≡ true
absurd-at names c i r z h a =
    rw (a.at, form-with r a.form, renamed-zeros names (form_of r) a.form a.renames z) (false-with r a.form a.renames.konst h)

below_zero : (k : ℤ) → int_le (pos 0) k ≡ false → lt_z k (pos 0) ≡ true
below_zero k e = grind (arith, ints)

ge_still : (names : List ℕ) (c : Conj) (x : ℕ) (f : Affine) → (content f.coefs == 0) ≡ true → StandsAt names c x (Ge f) → LeftStands names c x (normal_ge f)
ge_still names c x f e a = rw e (by (int_le (pos 0) f.konst) refl)
  where
    by : (b : Bool) → int_le (pos 0) f.konst ≡ b → LeftStands names c x (cond b Dropped Absurd)
    by true t = tt
    by false t = absurd-at names c x (Ge f) (λ j. no_coefs f.coefs j e) (below_zero f.konst t) a

pub ge_shows_still : (t : TreePath) (start path : Conj) (names : List ℕ) (x d : ℕ) (f : Affine) → d ≡ content f.coefs → d ≡ 0 → Reaches t start path → StandsAt names path x (Ge f) → Shows t start path names x (normal_ge f)
ge_shows_still t start path names x d f e z h a = record {
  further = path;
  reaches = h;
  onto = onto-self path;
  stands = ge_still names path x f (rw (← e, z) refl) a;
}

pub ge_shows_cut : (u : TreePath) (start path : Conj) (names : List ℕ) (i d : ℕ) (f : Affine) → d ≡ content f.coefs → (d ≡ 0 → ⊥) → Leads u start path names i (Ge (divided (pos d) f)) → Shows u start path names i (normal_ge f)
ge_shows_cut u start path names i d f e n l = record {
  further = l.further;
  reaches = l.reaches;
  onto = l.onto;
  stands = rw (other d (content f.coefs) e n, ← e) l.stands;
}
  where
    other : (d c : ℕ) → d ≡ c → (d ≡ 0 → ⊥) → (c == 0) ≡ false
    other d c e n = grind arith

-- ---- a row whose coefficients have no common divisor stands as it is

divided_by_one : (k : ℤ) → divides 1 k ≡ true
divided_by_one k = grind arith

pub floor_by_one : (c : ℤ) → int_div_euclid c (pos 1) ≡ c
floor_by_one c = sym (floor_exact c 1 (omega arith) (divides-true 1 c (divided_by_one c)) ∙ one_times (int_div_euclid c (pos 1)))
  where
    one_times : (c : ℤ) → pos 1 *ℤ c ≡ c
    one_times c = omega (arith, ints)

divided_alike : (f : Affine) → Alike f (divided (pos 1) f)
divided_alike f = record { konst = floor_by_one f.konst; coefs = λ j. coef-divided (pos 1) f j (omega (arith, ints)) ∙ floor_by_one (coef j f) }

pub ge_shows_unit : (t : TreePath) (start path : Conj) (names : List ℕ) (x d : ℕ) (f : Affine) → d ≡ content f.coefs → d ≡ 1 → Reaches t start path → StandsAt names path x (Ge f) → Shows t start path names x (normal_ge f)
ge_shows_unit t start path names x d f e o h a =
    ge_shows_cut t start path names x 1 f (sym o ∙ e) (λ z. absurd (omega (arith, z))) (record {
      further = path;
      reaches = h;
      onto = onto-self path;
      stands = record { form = a.form; at = a.at; renames = renames-alike names f (divided (pos 1) f) a.form a.renames (divided_alike f) };
    })

pub ge_shows_small : (t : TreePath) (start path : Conj) (names : List ℕ) (x d : ℕ) (f : Affine) → d ≡ content f.coefs → d ≤ 1 → Reaches t start path → StandsAt names path x (Ge f) → Shows t start path names x (normal_ge f)
ge_shows_small t start path names x zero f e l h a = ge_shows_still t start path names x 0 f e refl h a
ge_shows_small t start path names x (suc zero) f e l h a = ge_shows_unit t start path names x 1 f e refl h a
ge_shows_small t start path names x (suc (suc d)) f e l h a = absurd (omega arith)
