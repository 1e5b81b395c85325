-- Two equalities with the same coefficients and different constants.
use Rattle.std.proofs.Common.{◌≡◌, ℕ, ℤ, pos, negsuc, ◌+ℤ◌, ◌*ℤ◌, List, Bool, true, false, int_eq, refl, ◌∙◌, arith}
use Rattle.std.specs.Prelude.{not}
use Rattle.std.proofs.lemmas.Int.{ints}
use Rattle.ac_base.proofs.Columns.{get_or-mix}
use Rattle.ac_forms.specs.Affine.{Affine, coef, combined}
use Rattle.ac_forms.specs.declared.conj.Conj.{Conj}
use Rattle.ac_forms.specs.declared.row.Row.TheVariants.{Eq}
use Rattle.ac_forms.specs.declared.normal.NormalRow.TheVariants.{Absurd}
use Rattle.ac_omega_certify.specs.declared.path.TreePath.{TreePath}
use Rattle.ac_omega_certify.specs.TreePathRows.{Leads, Shows, Clash}
use Rattle.ac_omega_certify.proofs.Inequalities.{absurd-at}

less_same : (x y : ℤ) → x ≡ y → pos 1 *ℤ x +ℤ negsuc 0 *ℤ y ≡ pos 0
less_same x y e = omega (arith, ints, e)

less_other : (x y : ℤ) → (x ≡ y → ⊥) → not (int_eq (pos 1 *ℤ x +ℤ negsuc 0 *ℤ y) (pos 0)) ≡ true
less_other x y h = by (int_eq (pos 1 *ℤ x +ℤ negsuc 0 *ℤ y) (pos 0)) refl
  where
    gone : (z : ℤ) → int_eq z (pos 0) ≡ true → z ≡ pos 0
    gone z e = grind (arith, ints)

    same : pos 1 *ℤ x +ℤ negsuc 0 *ℤ y ≡ pos 0 → x ≡ y
    same e = omega (arith, ints, e)

    by : (b : Bool) → int_eq (pos 1 *ℤ x +ℤ negsuc 0 *ℤ y) (pos 0) ≡ b → not (int_eq (pos 1 *ℤ x +ℤ negsuc 0 *ℤ y) (pos 0)) ≡ true
    by true e = absurd (h (same (gone (pos 1 *ℤ x +ℤ negsuc 0 *ℤ y) e)))
    by false e = rw e refl

pub clash_shows : (u : TreePath) (start path : Conj) (names : List ℕ) (i : ℕ) (f g : Affine) → Clash f g → Leads u start path names i (Eq (combined (pos 1) f (negsuc 0) g)) → Shows u start path names i Absurd
clash_shows u start path names i f g c l = record {
  further = l.further;
  reaches = l.reaches;
  onto = l.onto;
  stands = absurd-at names l.further i (Eq (combined (pos 1) f (negsuc 0) g)) (λ j. get_or-mix (pos 1) f.coefs (negsuc 0) g.coefs j ∙ less_same (coef j f) (coef j g) (c.coefs j)) (less_other f.konst g.konst c.konst) l.stands;
}
