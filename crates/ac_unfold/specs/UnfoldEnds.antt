-- The ends of paths that an unfolding reaches, and when they are too many.
use Rattle.std.specs.Prelude.{◌≡◌, ◌⊎◌, ◌++◌, ℕ, List, [], ◌∷◌, ℤ, length, map}
use Rattle.std.specs.Cmp.Lexicographic.{slice_cmp}
use Rattle.std.specs.List.{AllByRecursion}
use Rattle.std.specs.Ordering.{nat_cmp}
use Rattle.std.specs.declared.cmp.Ordering.TheVariants.{Less}
use Rattle.ac_forms.specs.ListMembers.{IsAmong}
use Rattle.ac_syntax.specs.declared.tree.Position.{Position}
use Rattle.ac_syntax.specs.declared.tree.Position.TheVariants.{Output, Node, InitialOutput, InitialNode}
use Rattle.ac_claims_paths.specs.declared.path.Path.{Path}
use Rattle.ac_claims_paths.specs.declared.path.Seat.{Seat}
use Rattle.ac_claims.specs.declared.types.Claim.{Claim}
use Rattle.ac_widen.specs.declared.derivation.Entry.{Entry}
use Rattle.ac_widen_programs.specs.BrokenPaths.{HasNoClaim}
use Rattle.ac_widen_programs.specs.PairPathEnds.{entries_at, AreNotCalls}
use Rattle.ac_widen_programs.specs.PairPaths.{Unfolding, ComesTo, params_of, seats_of}
use Rattle.ac_widen_programs.specs.PairPathSteps.{AreNoReaders}

-- ---- paths that differ

-- the numbers of a position
abbrev pub place_of : Position → List ℕ
place_of (Output o) = 0 ∷ o ∷ 0 ∷ []
place_of (Node s k) = 1 ∷ s ∷ k ∷ []
place_of (InitialOutput o) = 2 ∷ o ∷ 0 ∷ []
place_of (InitialNode s k) = 3 ∷ s ∷ k ∷ []

-- those of all positions along a path, each left one before the right one
abbrev pub places_along : List Entry → List ℕ
places_along [] = []
places_along (e ∷ es) = place_of e.left ++ (place_of e.right ++ places_along es)

-- each list comes before the next one, in the order of the dictionary
abbrev pub AreIncreasing : List (List ℕ) → Type 0
AreIncreasing [] = Unit {0}
AreIncreasing (x ∷ []) = Unit {0}
AreIncreasing (x ∷ y ∷ ys) = (slice_cmp nat_cmp x y ≡ Less) × AreIncreasing (y ∷ ys)

-- ---- where a path ends

-- the pair of the question has a claim, and none of those between it and the first pair has one
pub record EndsAtClaimed (claims : List Claim) (rest : List (Seat × Seat)) (q : Path) : Type 0 where
  pub between : List (Seat × Seat)
  pub rest_is : rest ≡ between ++ seats_of q ∷ []
  pub free : AllByRecursion (HasNoClaim claims) between
  pub claim : Claim
  pub among : IsAmong claim claims
  pub left_is : q.left.position ≡ claim.left
  pub right_is : q.right.position ≡ claim.right

-- the pair of the question has no step, and none of the pairs behind the first one has a claim
pub record EndsWithoutStep (u : Unfolding) (claims : List Claim) (rest : List (Seat × Seat)) (q : Path) : Type 0 where
  pub free : AllByRecursion (HasNoClaim claims) rest
  pub readers : AreNoReaders u q
  pub calls : AreNotCalls u q

-- at one point a pair path comes by steps from a pair of the start to its end, and these are its entries there
pub record IsWalked (u : Unfolding) (claims : List Claim) (entries : List Entry) : Type 0 where
  pub first : Seat × Seat
  pub rest : List (Seat × Seat)
  pub question : Path
  pub point : List ℤ
  pub comes : ComesTo u (first ∷ rest) question point
  pub are : entries ≡ entries_at (params_of u) point (first ∷ rest)
  pub ends : EndsAtClaimed claims rest question ⊎ EndsWithoutStep u claims rest question

-- ---- too many

-- there are 20,001 such paths, each through other positions than those before it
pub record AreTooMany (u : Unfolding) (claims : List Claim) (found : List (List Entry)) : Type 0 where
  pub walked : AllByRecursion (IsWalked u claims) found
  pub differ : AreIncreasing (map places_along found)
  pub count : length found ≡ 20001
