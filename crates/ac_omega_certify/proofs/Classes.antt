-- A residue branch with a child for each residue stands; the row of each child says that the modulus divides the column less the residue.
use Rattle.std.proofs.Common.{◌≡◌, ℕ, ◌≤◌, ℤ, pos, neg_ℤ, ◌+ℤ◌, ◌-ℤ◌, List, Option, Some, None, true, length, refl, ap, ◌∙◌, arith}
use Rattle.std.proofs.lemmas.Int.{ints}
use Rattle.std.proofs.lemmas.Bool.Decides.{Decides-int_eq}
use Rattle.ac_forms.specs.Affine.{Affine, column_form, shifted}
use Rattle.ac_forms.specs.Fits.{Fits}
use Rattle.ac_forms.specs.declared.conj.Conj.{Conj}
use Rattle.ac_forms.specs.declared.row.Row.TheVariants.{Div}
use Rattle.ac_cert.specs.Rules.{has_class, is_partition, class, class_row}
use Rattle.ac_base.proofs.Truths.{true-le, true-nat_le}
use Rattle.ac_omega_steps.proofs.Fitting.{fits_true}
use Rattle.ac_omega_certify.specs.Descents.{column_less}
use Rattle.ac_omega_certify.specs.TreePathRows.{coef_of, place_of, Renames, StandsAt}
use Rattle.ac_omega_certify.proofs.Paths.{get-last}

pub branch-stands : (count columns : ℕ) (m : ℤ) (f : Affine) → m ≡ pos count → 1 ≤ count → length f.coefs ≤ columns → Fits (f.konst -ℤ (m -ℤ pos 1)) → is_partition m f columns count ≡ true
unfolding is_partition has_class
branch-stands count columns m f is some short h =
    rw ((Decides-int_eq m (pos count)).1 is, true-le (pos 1) m (omega (arith, ints, is, some)), true-nat_le (length f.coefs) columns short, fits_true (f.konst -ℤ (m -ℤ pos 1)) h) refl

-- child r of a column: its row stands at the end
pub class-stands : (names : List ℕ) (c : Conj) (z : ℕ) (m r : ℤ) (form : Affine) → Renames names (column_form (length names) z) form → StandsAt names (class m form r c) (length c.rows) (Div m (column_less (length names) z r))
class-stands names c z m r form x = record {
  form = shifted form (neg_ℤ r);
  at = get-last c.rows (class_row m form r);
  renames = record { konst = ap (λ k. k +ℤ neg_ℤ r) x.konst; coefs = λ j. x.coefs j ∙ by (place_of j names) };
}
  where
    by : (o : Option ℕ) → coef_of o (column_form (length names) z) ≡ coef_of o (column_less (length names) z r)
    by None = refl
    by (Some i) = refl
