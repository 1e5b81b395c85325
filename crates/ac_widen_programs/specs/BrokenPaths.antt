-- What a broken path of an unfolding is: the pairs of a pair path, read off one point, and how it ends.
use Rattle.std.specs.Prelude.{◌≡◌, ◌⊎◌, ◌++◌, List, [], ◌∷◌, ℤ}
use Rattle.std.specs.List.{AllByRecursion}
use Rattle.ac_forms.specs.Rows.{Holds}
use Rattle.ac_forms.specs.declared.row.Row.{Row}
use Rattle.ac_forms.specs.ListMembers.{IsAmong}
use Rattle.ac_claims_paths.specs.declared.path.Path.{Path}
use Rattle.ac_claims_paths.specs.declared.path.Seat.{Seat}
use Rattle.ac_widen.specs.declared.derivation.Entry.{Entry}
use Rattle.ac_claims.specs.declared.types.Claim.{Claim}
use Rattle.ac_widen_programs.specs.PairPathEnds.{entries_at, MatchesNothing}
use Rattle.ac_widen_programs.specs.PairPaths.{Unfolding, ComesTo, params_of, point_of, seats_of}

-- ---- ends

-- no claim is of the positions of the pair
abbrev pub HasNoClaim : List Claim → Seat × Seat → Type 0
HasNoClaim claims s = (c : Claim) → IsAmong c claims → s.0.position ≡ c.left → s.1.position ≡ c.right → ⊥

-- the pair of the question matches nothing at the point, and none of the pairs behind the first one has a claim
pub record EndsUnmatched (u : Unfolding) (claims : List Claim) (rest : List (Seat × Seat)) (q : Path) (p : List ℤ) : Type 0 where
  pub free : AllByRecursion (HasNoClaim claims) rest
  pub nothing : MatchesNothing u q p

-- the pair of the question has a claim, of which a row fails at the pair's point, and none of those between it and the first pair has one
pub record EndsAtClaim (u : Unfolding) (claims : List Claim) (rest : List (Seat × Seat)) (q : Path) (p : List ℤ) : Type 0 where
  pub between : List (Seat × Seat)
  pub rest_is : rest ≡ between ++ seats_of q ∷ []
  pub free : AllByRecursion (HasNoClaim claims) between
  pub claim : Claim
  pub among : IsAmong claim claims
  pub left_is : q.left.position ≡ claim.left
  pub right_is : q.right.position ≡ claim.right
  pub row : Row
  pub row_among : IsAmong row claim.rows
  pub fails : ¬ (Holds row (point_of (params_of u) p (seats_of q)))

abbrev pub EndsBroken : Unfolding → List Claim → List (Seat × Seat) → Path → List ℤ → Type 0
EndsBroken u claims rest q p = EndsUnmatched u claims rest q p ⊎ EndsAtClaim u claims rest q p

-- ---- paths

-- at one point a pair path comes by steps from a pair of the claim to a question where it is broken, and these are its entries there
pub record IsBroken (u : Unfolding) (claims : List Claim) (entries : List Entry) : Type 0 where
  pub first : Seat × Seat
  pub rest : List (Seat × Seat)
  pub question : Path
  pub point : List ℤ
  pub comes : ComesTo u (first ∷ rest) question point
  pub are : entries ≡ entries_at (params_of u) point (first ∷ rest)
  pub ends : EndsBroken u claims rest question point
