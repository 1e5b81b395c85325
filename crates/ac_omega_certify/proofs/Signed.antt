-- A multiple of an equality that stands, as a row `>= 0`.
use Rattle.std.proofs.Common.{◌≡◌, ℕ, ℤ, pos, ◌+ℤ◌, ◌*ℤ◌, List, [], sym, ◌∙◌, arith}
use Rattle.std.proofs.lemmas.Int.{ints}
use Rattle.ac_base.proofs.Columns.{get_or-mix}
use Rattle.ac_forms.specs.Affine.{Affine, coef, combined, scaled, MixFits}
use Rattle.ac_forms.specs.Fits.{Fits}
use Rattle.ac_forms.specs.Rows.{form_of}
use Rattle.ac_forms.specs.declared.conj.Conj.{Conj}
use Rattle.ac_forms.specs.declared.row.Row.{Row}
use Rattle.ac_forms.specs.declared.row.Row.TheVariants.{Eq, Ge}
use Rattle.ac_omega_certify.specs.declared.path.TreePath.{TreePath}
use Rattle.ac_omega_certify.specs.TreePathRows.{Alike, Blends, CanScale, one_form, StandsAt, Reaches, Leads, HasOne, CanAdd, sum_of}
use Rattle.ac_omega_certify.proofs.Renaming.{fits-zero}
use Rattle.ac_omega_certify.proofs.Divisibilities.{get_or-scaled}
use Rattle.ac_omega_certify.proofs.Raising.{like_stands}
use Rattle.ac_omega_certify.proofs.Starts.{one-anywhere}

nought : (z : ℤ) → pos 0 *ℤ z ≡ pos 0
nought z = omega (arith, ints)

plus_nought : (x z : ℤ) → x +ℤ pos 0 *ℤ z ≡ x
plus_nought x z = omega (arith, ints)

scaled_fits : (k x z : ℤ) → Fits (k *ℤ x) → MixFits k x (pos 0) z
scaled_fits k x z h = rw (plus_nought (k *ℤ x) z, nought z) (h, fits-zero, h)

sign_blends : (k : ℤ) (f : Affine) → CanScale k f → Blends k f (pos 0) one_form
sign_blends k f h = record {
  konst = scaled_fits k f.konst (pos 1) h.konst;
  coefs = λ j. scaled_fits k (coef j f) (coef j one_form) (h.coefs j);
}

sign_alike : (k : ℤ) (f : Affine) → Alike (combined k f (pos 0) one_form) (scaled k f)
sign_alike k f = record {
  konst = sym (plus_nought (k *ℤ f.konst) (pos 1));
  coefs = λ j. get_or-scaled k f.coefs j ∙ sym (get_or-mix k f.coefs (pos 0) [] j ∙ plus_nought (k *ℤ coef j f) (coef j one_form));
}

pub sign_leads : (t u : TreePath) (start path : Conj) (names : List ℕ) (x i : ℕ) (k : ℤ) (f : Affine)
    → ((start path : Conj) (names : List ℕ) (r s : Row) → Reaches t start path → StandsAt names path x r → StandsAt names path t.one s → CanAdd k r → CanAdd (pos 0) s → Blends k (form_of r) (pos 0) (form_of s) → Leads u start path names i (sum_of k r (pos 0) s))
    → Reaches t start path → HasOne t path → StandsAt names path x (Eq f) → CanScale k f → Leads u start path names i (Ge (scaled k f))
sign_leads t u start path names x i k f add h o a v =
    let s = add start path names (Eq f) (Ge one_form) h a (one-anywhere names path t.one o) tt (omega (arith, ints)) (sign_blends k f v) in
    record { further = s.further; reaches = s.reaches; onto = s.onto; stands = like_stands names s.further i (combined k f (pos 0) one_form) (scaled k f) (sign_alike k f) s.stands }
