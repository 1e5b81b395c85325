-- What is known at a recurrence pair: the members that were found there, the hull that they make, and the claim that all of them meet.
use Rattle.std.specs.Prelude.{◌≡◌, ◌⊎◌, ℕ, ℤ, List, [], ◌++◌, length, map}
use Rattle.ac_syntax.specs.declared.tree.Position.{Position}
use Rattle.ac_forms.specs.Rows.{AreRowsOver}
use Rattle.ac_forms.specs.declared.row.Row.{Row}
use Rattle.ac_forms.specs.declared.row.Row.TheVariants.{Eq}
use Rattle.ac_forms.specs.ListMembers.{IsAmong}
use Rattle.ac_claims.specs.declared.types.Claim.{Claim}
use Rattle.ac_hull.specs.Hulls.{HullOf, equalities_of}
use Rattle.ac_widen.specs.Combinations.{Each}
use Rattle.ac_widen.specs.Walks.{rows_with}

-- a recurrence pair as callers see it: its positions; the hull of its members; the members in the order in which they were found, and
-- the number of each one's entry; the numbers of the entries of those that the hull keeps; and the template rows of its claim
pub record WideningPointOf : Type 0 where
  pub left : Position
  pub right : Position
  pub hull : HullOf
  pub members : List (List ℤ)
  pub places : List ℕ
  pub kept : List ℕ
  pub rows : List Row

abbrev pub positions : WideningPointOf → Position × Position
positions k = (k.left, k.right)

-- a point that was found there, or that the hull keeps
abbrev pub IsMemberOf : WideningPointOf → List ℤ → Type 0
IsMemberOf k p = IsAmong p k.members ⊎ IsAmong p k.hull.members

-- its claim: `-1 >= 0` before the first member; then the equalities of the hull, and the template rows
abbrev pub claim_of : WideningPointOf → Claim
claim_of k = record { left = k.left; right = k.right; rows = rows_with k.hull.members (map Eq (equalities_of k.hull.columns k.hull.members) ++ k.rows) }

-- the members of a hull are among the found ones, and are none only of none; each of these has a number for each column; each of both has an
-- entry; and the rows are over the columns
pub record AreKept (hull : HullOf) (members : List (List ℤ)) (places kept : List ℕ) (rows : List Row) : Type 0 where
  pub among : Each (λ p. IsAmong p members) hull.members
  pub none : hull.members ≡ [] → members ≡ []
  pub widths : Each (λ p. length p ≡ hull.columns) members
  pub entries : length places ≡ length members
  pub own_entries : length kept ≡ length hull.members
  pub over : AreRowsOver hull.columns rows
