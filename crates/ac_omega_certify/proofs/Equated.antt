-- Rows in which an equality replaces a column: their numbers, and the steps to them.
use Rattle.std.proofs.Common.{◌≡◌, ℕ, zero, suc, ℤ, pos, negsuc, neg_ℤ, ◌*ℤ◌, ◌≤ℤ◌, List, [], ◌∷◌, ◌++◌, unsigned_abs, refl, arith}
use Rattle.std.proofs.lemmas.Int.{ints}
use Rattle.ac_forms.specs.Affine.{Affine, coef, combined, CanCombine}
use Rattle.ac_forms.specs.Fits.{Fits}
use Rattle.ac_forms.specs.Rows.{form_of}
use Rattle.ac_forms.specs.declared.conj.Conj.{Conj}
use Rattle.ac_forms.specs.declared.row.Row.{Row}
use Rattle.ac_forms.specs.declared.row.Row.TheVariants.{Eq, Div, Ge}
use Rattle.ac_omega_steps.specs.Choices.{size_of, against, replaced_row}
use Rattle.ac_omega_certify.specs.Replacements.{CanDivide, CanReplace, LeadsAll}
use Rattle.ac_omega_certify.specs.TreePathRows.{Blends, StandsAt, Stand, Reaches, Leads, CanAdd, sum_of}
use Rattle.ac_omega_certify.specs.declared.path.TreePath.{TreePath}
use Rattle.ac_omega_certify.proofs.Renaming.{blends-can}
use Rattle.ac_omega_certify.proofs.Paths.{stand-on}
use Rattle.ac_omega_certify.proofs.StandingLists.{stand-push}

pub opposite_fits : (x : ℤ) → Fits (pos (unsigned_abs x)) → Fits (neg_ℤ x)
opposite_fits (pos zero) h = h
opposite_fits (pos (suc n)) h = let l = h.sfits in record { sfits = omega arith }
opposite_fits (negsuc n) h = h

-- the combination of the row's form with the equality, as it is written
pub replaced-can : (z : ℕ) (g : Affine) (r : Row) (f : Affine) (s k : ℤ) → f ≡ form_of r → s ≡ size_of (coef z g) → k ≡ against (coef z g) (coef z (form_of r)) → CanReplace z g r → CanCombine s f k g
replaced-can z g r f s k e t m h = rw (e, t, m) (blends-can (size_of (coef z g)) (form_of r) (against (coef z g) (coef z (form_of r))) g h.blends)

-- the steps to the row
pub add-replaced : (t u : TreePath) (start path : Conj) (names : List ℕ) (z : ℕ) (g : Affine) (r : Row) (place at i : ℕ) (s k : ℤ) → s ≡ size_of (coef z g) → k ≡ against (coef z g) (coef z (form_of r)) → ((m : ℤ) (f : Affine) → r ≡ Div m f → ⊥) → CanDivide z g → CanReplace z g r
    → ((start path : Conj) (names : List ℕ) (r' s' : Row) → Reaches t start path → StandsAt names path place r' → StandsAt names path at s' → CanAdd s r' → CanAdd k s' → Blends s (form_of r') k (form_of s') → Leads u start path names i (sum_of s r' k s'))
    → Reaches t start path → StandsAt names path place r → StandsAt names path at (Eq g) → Leads u start path names i (replaced_row z g r)
add-replaced t u start path names z g (Eq f) place at i s k es ek n d c add h a b =
    let l : Leads u start path names i (Eq (combined s f k g)) = add start path names (Eq f) (Eq g) h a b tt tt (rw (es, ek) c.blends) in
    rw (es, ek) at l
add-replaced t u start path names z g (Ge f) place at i s k es ek n d c add h a b =
    let o : pos 0 ≤ℤ s = rw es (let l = d.column in omega (arith, ints, l)) in
    let l : Leads u start path names i (Ge (combined s f k g)) = add start path names (Ge f) (Eq g) h a b o tt (rw (es, ek) c.blends) in
    rw (es, ek) at l
add-replaced t u start path names z g (Div m f) place at i s k es ek n d c add h a b = absurd (n m f refl)

pub divide-replaced : (t u : TreePath) (start path : Conj) (names : List ℕ) (z : ℕ) (g : Affine) (r : Row) (f : Affine) (place at i : ℕ) (s k m : ℤ) → r ≡ Div m f → s ≡ size_of (coef z g) → k ≡ against (coef z g) (coef z (form_of r)) → CanDivide z g → CanReplace z g r
    → ((start path : Conj) (names : List ℕ) (f' g' : Affine) → Reaches t start path → StandsAt names path place (Div m f') → StandsAt names path at (Eq g') → pos 1 ≤ℤ s → pos 1 ≤ℤ m → Blends s f' k g' → Leads u start path names i (Div (s *ℤ m) (combined s f' k g')))
    → Reaches t start path → StandsAt names path place r → StandsAt names path at (Eq g) → Leads u start path names i (replaced_row z g r)
divide-replaced t u start path names z g r f place at i s k m is es ek d c show h a b =
    let ef = rw is at ek in
    let cf = rw is at c in
    let af = rw is at a in
    let l : Leads u start path names i (Div (s *ℤ m) (combined s f k g)) = show start path names f g h af b (rw es d.column) cf.modulus (rw (es, ef) cf.blends) in
    rw is (rw (es, ef) at l)

-- and to the rows so far
pub leads-kept : (u : TreePath) (start path : Conj) (names : List ℕ) (rs : List Row) (places : List ℕ) (r : Row) (i : ℕ) → Stand names path rs places → Leads u start path names i r → LeadsAll u start path names (rs ++ r ∷ []) (places ++ i ∷ [])
leads-kept u start path names rs places r i h l = record {
  further = l.further;
  reaches = l.reaches;
  onto = l.onto;
  stand = stand-push names l.further rs places r i (stand-on names path l.further rs places l.onto h) l.stands;
}
