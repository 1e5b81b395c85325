-- Where a start stands, each pair to which one of its pairs leads is fine.
use Rattle.std.specs.Prelude.{◌≡◌, List, [], ◌∷◌, ℤ}
use Rattle.ac_forms.specs.ListMembers.{IsAmong}
use Rattle.ac_forms.specs.Rows.{Meets}
use Rattle.ac_syntax.specs.declared.tree.Position.{Position}
use Rattle.ac_claims.specs.declared.types.Claim.{Claim}
use Rattle.ac_flow.specs.declared.types.Flow.{Flow}
use Rattle.ac_widen.specs.DerivationPaths.{StepsOn}
use Rattle.ac_widen.specs.declared.derivation.Entry.{Entry}
use Rattle.ac_graph.specs.GraphMeaning.{HaveFlows}
use Rattle.ac_widen_programs.specs.PairSetting.{IsMismatchPair}
use Rattle.ac_widen_programs.specs.BrokenPaths.{IsBroken, EndsAtClaim, EndsUnmatched}
use Rattle.ac_widen_programs.specs.PairPathEnds.{HaveBothArities}
use Rattle.ac_widen_programs.specs.PairPaths.{Unfolding, IsOfClaim, last_of, setting_of}
use Rattle.ac_unfold.specs.UnbrokenStarts.{StartStands}

-- two positions, and a point of theirs
abbrev pub PairOf : Type 0
PairOf = (Position × Position) × List ℤ

-- ---- claims at a pair

-- the claim is of both positions
pub record IsOf (claim : Claim) (positions : Position × Position) : Type 0 where
  pub left_is : positions.0 ≡ claim.left
  pub right_is : positions.1 ≡ claim.right

-- none of the claims is
abbrev pub IsFree : List Claim → Position × Position → Type 0
IsFree claims positions = (c : Claim) → IsAmong c claims → ¬ (IsOf c positions)

-- one of those that are has all its rows hold at the point
abbrev pub OneHolds : List Claim → PairOf → Type 0
OneHolds claims x = (c : Claim) × IsAmong c claims × IsOf c x.0 × Meets c.rows x.1

-- behind a step a pair is fine: where claims are of its positions, one of them holds at its point; where none is, it is no mismatch
pub record IsFine (u : Unfolding) (claims : List Claim) (x : PairOf) : Type 0 where
  pub claimed : (c : Claim) → IsAmong c claims → IsOf c x.0 → OneHolds claims x
  pub unclaimed : IsFree claims x.0 → ¬ (IsMismatchPair u.pair x.0 x.1)

-- ---- paths

-- none of the pairs but the last one has a claim
abbrev pub AreFree : List Claim → List PairOf → Type 0
AreFree claims [] = Unit {0}
AreFree claims (x ∷ []) = Unit {0}
AreFree claims (x ∷ y ∷ path) = IsFree claims x.0 × AreFree claims (y ∷ path)

-- the last of the pairs behind the first one is fine; where there is none, the first one is no mismatch
abbrev pub EndsFine : Unfolding → List Claim → PairOf → List PairOf → Type 0
EndsFine u claims first [] = ¬ (IsMismatchPair u.pair first.0 first.1)
EndsFine u claims first (x ∷ path) = IsFine u claims (last_of x path)

-- ---- the laws

-- where a start stands, the steps from each of its pairs end fine, up to the first claim behind a step
abbrev pub StandingStartsAreFine : Type 0
StandingStartsAreFine =
    (u : Unfolding) (left right : Flow) (claims : List Claim) → HaveFlows u.pair left right → StartStands u left right claims
    → (positions : Position × Position) (p : List ℤ) → IsOfClaim u positions p → (path : List PairOf) → StepsOn (setting_of u) u.order positions p path → AreFree claims path → EndsFine u claims (positions, p) path

-- no two claims are of the same positions
abbrev pub AreApart : List Claim → Type 0
AreApart claims = (c d : Claim) → IsAmong c claims → IsAmong d claims → c.left ≡ d.left → c.right ≡ d.right → c ≡ d

-- and no path is broken: none ends unmatched, and none at a claim, if no two claims are of the same positions
abbrev pub NothingIsBroken : Type 0
NothingIsBroken =
    (u : Unfolding) (left right : Flow) (claims : List Claim) → HaveFlows u.pair left right → HaveBothArities u → StartStands u left right claims
    → (entries : List Entry) (b : IsBroken u claims entries) → (¬ (EndsUnmatched u claims b.rest b.question b.point)) × (AreApart claims → ¬ (EndsAtClaim u claims b.rest b.question b.point))
