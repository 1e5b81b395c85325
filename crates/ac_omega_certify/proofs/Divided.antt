-- The coefficient of a column in an equality divides the rest of it.
use Rattle.std.proofs.Common.{◌≡◌, ℕ, ◌≤◌, ℤ, pos, neg_ℤ, ◌+ℤ◌, ◌*ℤ◌, ◌≤ℤ◌, List, inl, inr, length, unsigned_abs, refl, arith}
use Rattle.std.specs.Int.{◌∣◌}
use Rattle.std.proofs.lemmas.Int.{ints}
use Rattle.std.proofs.lemmas.Nat.Gcd.{dvd-zero, dvd_refl}
use Rattle.ac_base.specs.Multiple.{IsMultiple}
use Rattle.ac_forms.specs.Affine.{Affine, coef}
use Rattle.ac_forms.specs.Fits.{Fits}
use Rattle.ac_forms.specs.declared.conj.Conj.{Conj}
use Rattle.ac_forms.specs.declared.row.Row.TheVariants.{Eq, Div}
use Rattle.ac_omega_steps.specs.Bounds.{without}
use Rattle.ac_omega_steps.specs.Choices.{size_of}
use Rattle.ac_omega_certify.specs.declared.path.TreePath.{TreePath}
use Rattle.ac_omega_certify.specs.Replacements.{CanDivide}
use Rattle.ac_omega_certify.specs.TreePathRows.{Blends, Renames, StandsAt, Reaches, Leads, LeavesMultiple}
use Rattle.ac_omega_certify.proofs.Moderate.{cleared}
use Rattle.ac_omega_certify.proofs.Paths.{onto-again}

once : (x : ℤ) → pos 1 *ℤ x ≡ x
once x = omega (arith, ints)

difference : (x y : ℤ) → pos 1 *ℤ x +ℤ neg_ℤ (pos 1) *ℤ y ≡ x +ℤ neg_ℤ y
difference x y = omega (arith, ints)

itself : (x y : ℤ) → y ≡ x → x +ℤ neg_ℤ y ≡ pos 0
itself x y e = omega (arith, ints, e)

no_less : (x y : ℤ) → y ≡ pos 0 → x +ℤ neg_ℤ y ≡ x
no_less x y e = omega (arith, ints, e)

none_left : (d : ℕ) (x y : ℤ) → y ≡ x → d ∣ unsigned_abs (pos 1 *ℤ x +ℤ neg_ℤ (pos 1) *ℤ y)
none_left d x y e = rw (difference x y, itself x y e) (dvd-zero d)

all_left : (x y z : ℤ) → y ≡ pos 0 → x ≡ z → unsigned_abs z ∣ unsigned_abs (pos 1 *ℤ x +ℤ neg_ℤ (pos 1) *ℤ y)
all_left x y z e f = rw (difference x y, no_less x y e, f) (dvd_refl (unsigned_abs z))

leaves-column : (z : ℕ) (g : Affine) → LeavesMultiple (size_of (coef z g)) g (pos 1) (without z g)
leaves-column z g = record {
  konst = none_left (unsigned_abs (coef z g)) g.konst g.konst refl;
  coefs = λ j. elim (cleared g.coefs z j) [ inl e ↦ none_left (unsigned_abs (coef z g)) (coef j g) (coef j (without z g)) e | inr e ↦ all_left (coef j g) (coef j (without z g)) (coef z g) e.0 e.1 ];
}

pub divided-leads : (t u v : TreePath) (start path : Conj) (names : List ℕ) (z : ℕ) (g rest form : Affine) (at j i : ℕ) (s : ℤ) → s ≡ size_of (coef z g) → rest ≡ without z g → CanDivide z g
    → Renames names rest form → length form.coefs ≤ t.columns → u.columns ≡ t.columns
    → ((start path : Conj) (names : List ℕ) (f : Affine) → Reaches t start path → StandsAt names path at (Eq f) → pos 1 ≤ℤ s → Leads u start path names j (Div s f))
    → ((start path : Conj) (names : List ℕ) (m : ℤ) (e f : Affine) → Reaches u start path → StandsAt names path j (Div m e) → Renames names f form → length form.coefs ≤ path.columns → pos 1 ≤ℤ pos 1 → pos 1 ≤ℤ s → Fits (pos 1 *ℤ s) → IsMultiple (pos 1 *ℤ s) m → Blends (pos 1) e (neg_ℤ (pos 1)) f → LeavesMultiple (pos 1 *ℤ s) e (pos 1) f → Leads v start path names i (Div s f))
    → Reaches t start path → StandsAt names path at (Eq g) → Leads v start path names i (Div s rest)
divided-leads t u v start path names z g rest form at j i s es er d n w c zero reduce h a =
    let p : pos 1 ≤ℤ s = rw es d.column in
    let x = zero start path names g h a p in
    let o : pos 1 *ℤ s ≡ s = once s in
    let y = reduce start x.further names s g rest x.reaches x.stands n (rw (x.reaches.columns, c) w) (omega (arith, ints)) p (rw (o, es) d.size) (rw o (dvd_refl (unsigned_abs s))) (rw er d.blends) (rw (o, es, er) (leaves-column z g)) in
    record { further = y.further; reaches = y.reaches; onto = onto-again path x.further y.further x.onto y.onto; stands = y.stands }
