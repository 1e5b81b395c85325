-- What the functions of an unfolding promise where they find no broken path.
use Rattle.std.specs.Prelude.{◌≡◌, ◌≤◌, ◌<◌, ◌∷◌, [], ℕ, false, List, length, Some}
use Rattle.ac_forms.specs.ListMembers.{IsAmong}
use Rattle.ac_forms.specs.Rows.{IsWellMade}
use Rattle.ac_forms.specs.declared.conj.Conj.{Conj}
use Rattle.ac_forms.specs.declared.row.Row.{Row}
use Rattle.ac_claims_paths.specs.declared.path.Path.{Path}
use Rattle.ac_claims.specs.RemainingPlans.{start_at}
use Rattle.ac_claims.specs.declared.types.Claim.{Claim}
use Rattle.ac_flow.specs.declared.types.Case.{Case}
use Rattle.ac_flow.specs.declared.types.Remainder.{Remainder}
use Rattle.ac_claims_plans.specs.BranchSides.{side_of}
use Rattle.ac_claims_plans.specs.declared.branching.Part.{Part}
use Rattle.ac_widen_programs.specs.PairPaths.{Unfolding}
use Rattle.ac_widen_programs.specs.PairPathSteps.{at_rest}
use Rattle.ac_unfold.specs.PlanResults.{judge_of}
use Rattle.ac_unfold.specs.UnfoldPaths.{BrokenPathsOf}
use Rattle.ac_unfold.specs.BrokenPathResults.{IsOf}
use Rattle.ac_unfold.specs.UnbrokenStarts.{AllHold, HasNoPoint, Stands}
use Rattle.ac_unfold.specs.declared.decide.Opened.{Opened}
use Rattle.ac_unfold.specs.declared.decide.Opened.TheVariants as opened
use Rattle.ac_unfold.specs.declared.ends.Closed.{Closed}
use Rattle.ac_unfold.specs.declared.ends.Closed.TheVariants as closed
use Rattle.ac_unfold.specs.declared.ends.Search.{Search}
use Rattle.ac_unfold.specs.declared.ends.Stood.{Stood}
use Rattle.ac_unfold.specs.declared.ends.Stood.TheVariants as stood

-- broken paths are looked for, and no further one is found
pub record FindsNone (search : Search) (before after : BrokenPathsOf) : Type 0 where
  pub finding : search.making ≡ false
  pub none : length after.paths ≤ length before.paths

-- ---- questions

-- a question that is not unfolded has no point
abbrev pub IsEmptyOpen : Conj → Opened → Type 0
IsEmptyOpen c (opened.Empty o) = HasNoPoint c
IsEmptyOpen c (opened.On n) = Unit {0}

-- no part of a row's negation has a point beside the question
abbrev pub AreEmpty : Conj → List Part → Type 0
AreEmpty c parts = (part : Part) → IsAmong part parts → HasNoPoint (side_of c part)

abbrev pub IsAllRefuted : Conj → List Part → Closed → Type 0
IsAllRefuted c parts closed.Broken = ⊥
IsAllRefuted c parts (closed.Refuted plans) = AreEmpty c parts

-- the row holds at each point of the question; a course that has ended has none
abbrev pub HoldsOrEnds : Conj → Row → Stood → Type 0
HoldsOrEnds c row (stood.On course) = AllHold c (row ∷ [])
HoldsOrEnds c row (stood.Ended o) = HasNoPoint c

-- ---- where it stands

-- the question stands in each unfolding of the search
unfoldable pub StandsIn : Search → Path → Type 0
StandsIn search q = (u : Unfolding) → IsOf search u → Stands u search.program_flows.now.left_flow.now search.program_flows.now.right_flow.now search.claims.now q

-- a question that stands is at what is left of a case, over its branch
pub record StandsLeft (search : Search) (b : Path) (rest : Remainder) : Type 0 where
  pub question : Path
  pub is : at_rest (judge_of search).params b rest.conj ≡ Some question
  pub stands : StandsIn search question

-- so it is at all that is left of it
unfoldable pub CaseStands : Search → Case → Path → Type 0
CaseStands search case b = (rest : Remainder) → IsAmong rest case.pieces → StandsLeft search b rest

-- the start of a claim at these pieces is formed and well made, and stands
pub record StandsAtStart (search : Search) (start : Claim) (left right : ℕ) : Type 0 where
  pub question : Path
  pub is : start_at (judge_of search) start left right ≡ Some question
  pub made : IsWellMade question.conj
  pub stands : StandsIn search question

-- beside a piece of the left position, at each of the first pieces of the right one, so many
unfoldable pub StandsBeside : Search → Claim → ℕ → ℕ → Type 0
StandsBeside search start left rights = (right : ℕ) → right < rights → StandsAtStart search start left right
