-- The steps to the row of an exact pair: the real shadow, or a row that one or two rows imply.
use Rattle.std.proofs.Common.{◌≡◌, zero, suc, ℕ, ℤ, pos, int_cmp, ◌+ℤ◌, ◌-ℤ◌, ◌*ℤ◌, neg_ℤ, ◌≤ℤ◌, true, List, [], ◌∷◌, get_or, int_le, refl, sym, ap, ◌∙◌, subst, arith}
use Rattle.std.specs.Ordering.{is_eq}
use Rattle.std.specs.declared.cmp.Ordering.{Ordering}
use Rattle.std.specs.declared.cmp.Ordering.TheVariants.{Less, Equal, Greater}
use Rattle.std.proofs.lemmas.Int.{ints}
use Rattle.ac_base.proofs.Columns.{get_or-mix}
use Rattle.ac_forms.specs.Affine.{Affine, added, coef, combined}
use Rattle.ac_forms.specs.Fits.{Fits}
use Rattle.ac_forms.specs.FormOrder.{columns_cmp}
use Rattle.ac_forms.specs.Ties.{int_tied, then_tied}
use Rattle.ac_forms.specs.declared.conj.Conj.{Conj}
use Rattle.ac_forms.specs.declared.row.Row.TheVariants.{Ge}
use Rattle.ac_omega_steps.specs.Bounds.{is_high, low_bound, high_bound}
use Rattle.ac_base.proofs.Truths.{and-true, le-true}
use Rattle.ac_omega_exact.specs.Exact.{real_form}
use Rattle.ac_omega_exact.specs.ExactnessTests.{is_at_most}
use Rattle.ac_omega_exact.proofs.Summing.{get_or-plus}
use Rattle.ac_omega_certify.specs.TreePathRows.{Alike, Blends, Leads, raised}
use Rattle.ac_omega_certify.specs.declared.path.TreePath.{TreePath}
use Rattle.ac_omega_certify.proofs.Raising.{like_stands}
use Rattle.ac_omega_certify.proofs.Shadowed.{shadow-is, high-size}

-- the column goes by itself
pub real-is : (z : ℕ) (f g : Affine) → pos 1 ≤ℤ coef z f → is_high z g ≡ true → combined (neg_ℤ (coef z g)) f (coef z f) g ≡ real_form (low_bound z f) (high_bound z g)
real-is z f g h k =
    ap (λ (cs : List ℤ). record { konst = neg_ℤ (coef z g) *ℤ f.konst +ℤ coef z f *ℤ g.konst; coefs = cs }) (ap (λ (x : Affine). x.coefs) (shadow-is z f g h (high-size (coef z g) k)))

pub leads-like : (u : TreePath) (start path : Conj) (names : List ℕ) (i : ℕ) (f g : Affine) → Alike f g → Leads u start path names i (Ge f) → Leads u start path names i (Ge g)
leads-like u start path names i f g a l = record { further = l.further; reaches = l.reaches; onto = l.onto; stands = like_stands names l.further i f g a l.stands }

tied : (o : Ordering) → is_eq o ≡ true → o ≡ Equal
tied Less e = absurd cc
tied Equal e = refl
tied Greater e = absurd cc

same-columns : (xs ys : List ℤ) → columns_cmp xs ys ≡ Equal → (j : ℕ) → get_or ys j (pos 0) ≡ get_or xs j (pos 0)
same-columns [] [] e j = refl
same-columns [] (y ∷ ys) e zero = sym (int_tied (pos 0) y (then_tied (int_cmp (pos 0) y) (columns_cmp [] ys) e).0)
same-columns [] (y ∷ ys) e (suc j) = same-columns [] ys (then_tied (int_cmp (pos 0) y) (columns_cmp [] ys) e).1 j
same-columns (x ∷ xs) [] e zero = sym (int_tied x (pos 0) (then_tied (int_cmp x (pos 0)) (columns_cmp xs []) e).0)
same-columns (x ∷ xs) [] e (suc j) = same-columns xs [] (then_tied (int_cmp x (pos 0)) (columns_cmp xs []) e).1 j
same-columns (x ∷ xs) (y ∷ ys) e zero = sym (int_tied x y (then_tied (int_cmp x y) (columns_cmp xs ys) e).0)
same-columns (x ∷ xs) (y ∷ ys) e (suc j) = same-columns xs ys (then_tied (int_cmp x y) (columns_cmp xs ys) e).1 j

-- f implies g by its constant: the coefficients are the same, and what g has more is not negative
at-most : (f g : Affine) → is_at_most f g ≡ true → ((j : ℕ) → coef j g ≡ coef j f) × (pos 0 ≤ℤ (g.konst -ℤ f.konst))
at-most f g e =
    let b = and-true (is_eq (columns_cmp f.coefs g.coefs)) (int_le f.konst g.konst) e in
    let k = le-true f.konst g.konst b.1 in
    ((λ j. same-columns f.coefs g.coefs (tied (columns_cmp f.coefs g.coefs) b.0) j), omega (arith, ints, k))

-- one row, raised to a constant, is the one that it implies
pub one-alike : (f g : Affine) → is_at_most f g ≡ true → Alike (raised f (g.konst -ℤ f.konst)) g
one-alike f g e = record { konst = omega (arith, ints); coefs = (at-most f g e).0 }

pub one-enough : (f g : Affine) → is_at_most f g ≡ true → pos 0 ≤ℤ (g.konst -ℤ f.konst)
one-enough f g e = (at-most f g e).1

-- so is the sum of two
pub two-alike : (f h g : Affine) → is_at_most (added f h) g ≡ true → Alike (raised (combined (pos 1) f (pos 1) h) (g.konst -ℤ (f.konst +ℤ h.konst))) g
two-alike f h g e = record {
  konst = omega (arith, ints);
  coefs = λ j. (at-most (added f h) g e).0 j ∙ get_or-plus f.coefs h.coefs j ∙ ones (coef j f) (coef j h) ∙ sym (get_or-mix (pos 1) f.coefs (pos 1) h.coefs j);
}
  where
    ones : (x y : ℤ) → x +ℤ y ≡ pos 1 *ℤ x +ℤ pos 1 *ℤ y
    ones x y = omega (arith, ints)

pub two-enough : (f h g : Affine) → is_at_most (added f h) g ≡ true → pos 0 ≤ℤ (g.konst -ℤ (f.konst +ℤ h.konst))
two-enough f h g e = (at-most (added f h) g e).1

-- the constant of the sum
pub sum-fits : (f h : Affine) → Blends (pos 1) f (pos 1) h → Fits (f.konst +ℤ h.konst)
sum-fits f h b = subst Fits (ones f.konst h.konst) b.konst.2
  where
    ones : (x y : ℤ) → pos 1 *ℤ x +ℤ pos 1 *ℤ y ≡ x +ℤ y
    ones x y = omega (arith, ints)
