-- The steps to the dark shadows of a column (W. Pugh, The Omega test, 1991).
use Rattle.std.specs.Prelude.{ℕ, ℤ, pos, neg_ℤ, ◌≤ℤ◌, List, [], ◌∷◌}
use Rattle.ac_forms.specs.Affine.{Affine, coef, shifted}
use Rattle.ac_forms.specs.declared.conj.Conj.{Conj}
use Rattle.ac_forms.specs.declared.row.Row.{Row}
use Rattle.ac_forms.specs.declared.row.Row.TheVariants.{Ge}
use Rattle.ac_omega_steps.specs.Bounds.{low_bound, highs}
use Rattle.ac_omega_certify.specs.Refutations.{AreWithin2To120}
use Rattle.ac_omega_certify.specs.TreePathRows.{IsOnto, Reaches, HasOne, StandsAt, Stand}
pub use Rattle.ac_omega_certify.specs.SplinterCounts.{dark_gap}
use Rattle.ac_omega_certify.specs.SplinterCounts.{AreShown}
use Rattle.ac_omega_certify.specs.declared.descent.Standing.{Standing}
use Rattle.ac_omega_certify.specs.declared.path.TreePath.{TreePath}

-- n may be taken from a lower row of the column beside these rows: at most its coefficient
pub record IsTaken (z : ℕ) (n : ℤ) (form : Affine) (rows : List Row) : Type 0 where
  pub within_2_to_120 : AreWithin2To120 (Ge form ∷ rows) []
  pub low : pos 1 ≤ℤ coef z form
  pub some : pos 0 ≤ℤ n
  pub within : n ≤ℤ coef z form

-- among all rows, a lower row of the column less n goes on to its dark shadow with each upper one of these, or their pair is exact
pub record IsMargin (z : ℕ) (all : List Row) (n : ℤ) (form : Affine) (rows : List Row) : Type 0 where
  pub taken : IsTaken z n form rows
  pub around : AreWithin2To120 (Ge form ∷ all) []
  pub shown : AreShown z all n (low_bound z form) (highs z rows)

-- a lower row stands less n at the first place and as it is at the second, beside all rows at theirs
pub record IsBeside (form : Affine) (n : ℤ) (place own : ℕ) (rows : List Row) (places : List ℕ) (names : List ℕ) (path : Conj) : Type 0 where
  pub less : StandsAt names path place (Ge (shifted form (neg_ℤ n)))
  pub whole : StandsAt names path own (Ge form)
  pub all : Stand names path rows places

-- the tree path goes on from the path, to one on which the rows stand at their places, beside `1 >= 0`
pub record ShowsAll (t : TreePath) (start path : Conj) (names : List ℕ) (s : Standing) : Type 0 where
  pub further : Conj
  pub reaches : Reaches t start further
  pub onto : IsOnto path further
  pub one : HasOne t further
  pub stand : Stand names further s.rows.items s.places.items

-- the second tree path goes on from each path of the first one on which the fact holds and the rows that were made stand: to one on which those of the second stand
abbrev pub Continues : TreePath → TreePath → Standing → Standing → (List ℕ → Conj → Type 0) → Type 0
Continues t u made more holds =
    (start path : Conj) (names : List ℕ) → Reaches t start path → HasOne t path → holds names path → Stand names path made.rows.items made.places.items → ShowsAll u start path names more
