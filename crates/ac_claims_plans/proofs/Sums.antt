-- A sum of multiples of rows, and of those on the path.
use Rattle.std.proofs.Common.{◌≡◌, ℕ, ℤ, pos, List, [], ◌∷◌, Option, Some, None, Bool, int_le, slice_get, refl, subst}
use Rattle.std.specs.Prelude.{option_and_then}
use Rattle.ac_forms.specs.Affine.{Affine}
use Rattle.ac_forms.specs.declared.conj.Conj.{Conj}
use Rattle.ac_forms.specs.declared.row.Row.{Row}
use Rattle.ac_forms.specs.declared.row.Row.TheVariants.{Eq, Div, Ge}
use Rattle.ac_omega_steps.specs.Combination.{combination}
use Rattle.ac_cert.specs.Rules.{term_form, sum_from, is_equality, are_equalities}
use Rattle.ac_base.proofs.Options.{bind-some, if-some, some-is}
use Rattle.ac_claims_plans.specs.declared.embedding.Embedding.{Embedding}
use Rattle.ac_claims_plans.proofs.Named.{named, Renames, Stands, IsShifted}
use Rattle.ac_claims_plans.specs.Embeddings.{row_on, moved_terms}
use Rattle.ac_claims_plans.proofs.Renamings.{moved-combination}

-- a row that may stand in a sum, and its like
record Term (names : ℕ → Option ℕ) (l : ℤ) (f : Affine) (o p : Option Row) : Type 0 where
  form : Affine
  is : term_form l p ≡ Some form
  renames : Renames names f form
  equal : is_equality p ≡ is_equality o

term-at : (names : ℕ → Option ℕ) (l : ℤ) (f : Affine) (d : Conj) (i : ℕ) (r : Row) → Stands names d i r → term_form l (Some r) ≡ Some f → Term names l f (Some r) (slice_get d.rows i)
term-at names l f d i (Eq g) a e = rw a.at (record { form = a.form; is = refl; renames = subst (λ (x : Affine). Renames names x a.form) (some-is g f e) a.renames; equal = refl })
term-at names l f d i (Div m g) a e = absurd cc
term-at names l f d i (Ge g) a e =
    let s = if-some (int_le (pos 0) l) (Some g) f e in
    rw a.at (record { form = a.form; is = rw s.0 refl; renames = subst (λ (x : Affine). Renames names x a.form) (some-is g f s.1) a.renames; equal = refl })

moved-term : (s : Embedding) (c d : Conj) (i : ℕ) (l : ℤ) (f : Affine) → IsShifted s c d → term_form l (slice_get c.rows i) ≡ Some f → Term (named s) l f (slice_get c.rows i) (slice_get d.rows (row_on s i))
moved-term s c d i l f x e = by (slice_get c.rows i) refl e
  where
    by : (o : Option Row) → slice_get c.rows i ≡ o → term_form l o ≡ Some f → Term (named s) l f o (slice_get d.rows (row_on s i))
    by None p e = absurd cc
    by (Some r) p e = term-at (named s) l f d (row_on s i) r (x.rows i r p) e

pub record Sum (names : ℕ → Option ℕ) (h : Affine) (made : Option Affine) (equal like : Bool) : Type 0 where
  pub form : Affine
  pub is : made ≡ Some form
  pub renames : Renames names h form
  pub same : like ≡ equal

pub moved-sum : (s : Embedding) (c d : Conj) (ts : List (ℕ × ℤ)) (sum sum' h : Affine) → IsShifted s c d → Renames (named s) sum sum' → sum_from sum ts c.rows ≡ Some h
    → Sum (named s) h (sum_from sum' (moved_terms s ts) d.rows) (are_equalities ts c.rows) (are_equalities (moved_terms s ts) d.rows)
moved-sum s c d [] sum sum' h x a e = record { form = sum'; is = refl; renames = subst (λ (f : Affine). Renames (named s) f sum') (some-is sum h e) a; same = refl }
moved-sum s c d (t ∷ ts) sum sum' h x a e =
    let u = bind-some (term_form t.1 (slice_get c.rows t.0)) (λ f. option_and_then (λ s. sum_from s ts c.rows) (combination (pos 1) sum t.1 f)) h e in
    let v = bind-some (combination (pos 1) sum t.1 u.0) (λ s. sum_from s ts c.rows) h u.2 in
    let term = moved-term s c d t.0 t.1 u.0 x u.1 in
    let next = moved-combination (named s) (pos 1) sum t.1 u.0 v.0 sum' term.form a term.renames v.1 in
    let rest = moved-sum s c d ts v.0 next.form h x next.renames v.2 in
    record { form = rest.form; is = rw (term.is, next.is) rest.is; renames = rest.renames; same = rw (term.equal, rest.same) refl }
