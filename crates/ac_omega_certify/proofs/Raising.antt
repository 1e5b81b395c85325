-- A number added to a row that stands.
use Rattle.std.proofs.Common.{◌≡◌, ℕ, ℤ, pos, ◌+ℤ◌, ◌*ℤ◌, ◌≤ℤ◌, List, [], refl, sym, ◌∙◌, arith}
use Rattle.std.proofs.lemmas.Int.{ints}
use Rattle.ac_base.proofs.Columns.{get_or-mix}
use Rattle.ac_forms.specs.Affine.{Affine, coef, combined, MixFits}
use Rattle.ac_forms.specs.Fits.{Fits}
use Rattle.ac_forms.specs.Rows.{form_of}
use Rattle.ac_forms.specs.declared.conj.Conj.{Conj}
use Rattle.ac_forms.specs.declared.row.Row.{Row}
use Rattle.ac_forms.specs.declared.row.Row.TheVariants.{Ge}
use Rattle.ac_omega_certify.specs.declared.path.TreePath.{TreePath}
use Rattle.ac_omega_certify.specs.TreePathRows.{Alike, Blends, CanRaise, raised, one_form, StandsAt, Reaches, Leads, HasOne, CanAdd, sum_of}
use Rattle.ac_omega_certify.proofs.Terms.{once}
use Rattle.ac_omega_certify.proofs.Renaming.{fits-zero, times_zero, renames-alike}
use Rattle.ac_omega_certify.proofs.Paths.{stands-on, onto-again}
use Rattle.ac_omega_certify.proofs.Starts.{one-anywhere}

plus_zero : (x k : ℤ) → pos 1 *ℤ x +ℤ k *ℤ pos 0 ≡ x
plus_zero x k = omega (arith, ints)

plus_times : (x d : ℤ) → pos 1 *ℤ x +ℤ d *ℤ pos 1 ≡ x +ℤ d
plus_times x d = omega (arith, ints)

times_one : (d : ℤ) → d *ℤ pos 1 ≡ d
times_one d = omega (arith, ints)

no_one : (j : ℕ) → coef j one_form ≡ pos 0
no_one j = refl

column_fits : (x d z : ℤ) → z ≡ pos 0 → Fits x → MixFits (pos 1) x d z
column_fits x d z e h = rw (e, plus_zero x d, once x, times_zero d) (h, fits-zero, h)

raise_blends : (f : Affine) (d : ℤ) → CanRaise f d → Blends (pos 1) f d one_form
raise_blends f d h = record {
  konst = rw (plus_times f.konst d, once f.konst, times_one d) (h.konst, h.number, h.sum);
  coefs = λ j. column_fits (coef j f) d (coef j one_form) (no_one j) (h.coefs j);
}

raise_alike : (f : Affine) (d : ℤ) → Alike (combined (pos 1) f d one_form) (raised f d)
raise_alike f d = record {
  konst = sym (plus_times f.konst d);
  coefs = λ j. sym (get_or-mix (pos 1) f.coefs d [] j ∙ plus_zero (coef j f) d);
}

pub like_stands : (names : List ℕ) (c : Conj) (i : ℕ) (f g : Affine) → Alike f g → StandsAt names c i (Ge f) → StandsAt names c i (Ge g)
like_stands names c i f g a h = record { form = h.form; at = h.at; renames = renames-alike names f g h.form h.renames a }

pub raise_leads : (t u : TreePath) (start path : Conj) (names : List ℕ) (x i : ℕ) (d : ℤ) (f : Affine)
    → ((start path : Conj) (names : List ℕ) (r s : Row) → Reaches t start path → StandsAt names path x r → StandsAt names path t.one s → CanAdd (pos 1) r → CanAdd d s → Blends (pos 1) (form_of r) d (form_of s) → Leads u start path names i (sum_of (pos 1) r d s))
    → Reaches t start path → HasOne t path → StandsAt names path x (Ge f) → pos 0 ≤ℤ d → CanRaise f d → Leads u start path names i (Ge (raised f d))
raise_leads t u start path names x i d f add h o a l v =
    let s = add start path names (Ge f) (Ge one_form) h a (one-anywhere names path t.one o) (omega (arith, ints)) l (raise_blends f d v) in
    record { further = s.further; reaches = s.reaches; onto = s.onto; stands = like_stands names s.further i (combined (pos 1) f d one_form) (raised f d) (raise_alike f d) s.stands }

pub bounds_lead : (t u w : TreePath) (start path : Conj) (names : List ℕ) (x y i l : ℕ) (a b d : ℤ) (f g : Affine) → u.one ≡ t.one
    → ((start path : Conj) (names : List ℕ) (r s : Row) → Reaches t start path → StandsAt names path x r → StandsAt names path y s → CanAdd a r → CanAdd b s → Blends a (form_of r) b (form_of s) → Leads u start path names i (sum_of a r b s))
    → ((start path : Conj) (names : List ℕ) (f : Affine) → Reaches u start path → HasOne u path → StandsAt names path i (Ge f) → pos 0 ≤ℤ d → CanRaise f d → Leads w start path names l (Ge (raised f d)))
    → Reaches t start path → HasOne t path → StandsAt names path x (Ge f) → StandsAt names path y (Ge g) → pos 0 ≤ℤ a → pos 0 ≤ℤ b → pos 0 ≤ℤ d → Blends a f b g → CanRaise (combined a f b g) d → Leads w start path names l (Ge (raised (combined a f b g) d))
bounds_lead t u w start path names x y i l a b d f g e add raise h o p q la lb ld v z =
    let s = add start path names (Ge f) (Ge g) h p q la lb v in
    let one : HasOne u s.further = rw e (stands-on [] path s.further t.one (Ge one_form) s.onto o) in
    let r = raise start s.further names (combined a f b g) s.reaches one s.stands ld z in
    record { further = r.further; reaches = r.reaches; onto = onto-again path s.further r.further s.onto r.onto; stands = r.stands }
