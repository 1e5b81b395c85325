-- What the functions of an unfolding promise of the plans that they make.
use Rattle.std.specs.Prelude.{◌≡◌, ◌≤◌, ◌+◌, true, List, length, Some, IfSome}
use Rattle.std.specs.List.{AllByRecursion}
use Rattle.ac_forms.specs.Rows.{form_of}
use Rattle.ac_forms.specs.Standing.{stands}
use Rattle.ac_forms.specs.declared.conj.Conj.{Conj}
use Rattle.ac_forms.specs.declared.row.Row.{Row}
use Rattle.ac_poly.specs.declared.types.Model.{Model}
use Rattle.ac_claims_paths.specs.ModelCalls.{pairing}
use Rattle.ac_claims_paths.specs.WellFormedPaths.{IsFormed}
use Rattle.ac_claims_paths.specs.PathSteps.{Pairing, at_rows}
use Rattle.ac_forms.specs.ListMembers.{IsAmong}
use Rattle.ac_claims_paths.specs.declared.path.Assumed.{Assumed}
use Rattle.ac_claims_paths.specs.declared.path.Path.{Path}
use Rattle.ac_claims.specs.declared.types.Claim.{Claim}
use Rattle.ac_claims.specs.declared.types.Plan.{Plan}
use Rattle.ac_claims.specs.declared.types.PlanNext.{PlanNext}
use Rattle.ac_flow.specs.FlowCases.{Reads}
use Rattle.ac_flow.specs.Readers.{IsFlowOf}
use Rattle.ac_flow.specs.declared.types.Case.{Case}
use Rattle.ac_flow.specs.declared.types.ReadFlow.{ReadFlow}
use Rattle.ac_flow.specs.KillAcceptance.{assumed_by, IsAssumedOn}
use Rattle.ac_claims_plans.specs.declared.embedding.Embedding.{Embedding}
use Rattle.ac_unfold_plans.specs.PlanEnds.{IsEnd}
use Rattle.ac_claims_plans.specs.QuestionPaths.{IsPlanFor}
use Rattle.ac_claims_plans.specs.DuePlans.{AreNumbered}
use Rattle.ac_unfold.specs.ReadySetting.{IsSettled}
use Rattle.ac_unfold.specs.SearchPlanStops.{EndsAnywhere, StopsIn}
use Rattle.ac_unfold.specs.declared.decide.Answer.{Answer}
use Rattle.ac_unfold.specs.declared.decide.Answer.TheVariants as answer
use Rattle.ac_unfold.specs.declared.decide.Opened.{Opened}
use Rattle.ac_unfold.specs.declared.decide.Opened.TheVariants as opened
use Rattle.ac_unfold.specs.declared.ends.Search.{Search}

-- ---- what is made where

-- what the plans of a search are checked against
abbrev pub judge_of : Search → Pairing
judge_of search = pairing search.program_flows.now.programs

-- plans are made, and the claims of the search have their numbers among these, the tabled ones behind the others
pub record IsGiven (search : Search) (cs : List Claim) : Type 0 where
  pub making : search.making ≡ true
  pub settled : IsSettled search.program_flows.now
  pub numbered : AreNumbered search.base search.claims.now cs
  pub tabled : AreNumbered (search.base + length search.claims.now) search.tabled.now cs

-- a plan for the question so embedded, against whatever pair and claims: it shows that the question has no point, stops anywhere, and uses whatever claims are tabled
pub record IsRefuted (s : Embedding) (q : Path) (t : Plan) : Type 0 where
  pub plan : (g : Pairing) (cs : List Claim) → IsPlanFor g cs s q t
  pub stops : EndsAnywhere t.next

-- a plan for the question so embedded, wherever the search is given
unfoldable pub IsPlanIn : Search → Embedding → Path → Plan → Type 0
IsPlanIn search s q t = (cs : List Claim) → IsGiven search cs → IsFormed (judge_of search).params q → IsPlanFor (judge_of search) cs s q t

-- so it is, and stops as plans of the search do
pub record IsMade (search : Search) (s : Embedding) (q : Path) (t : Plan) : Type 0 where
  pub plan : IsPlanIn search s q t
  pub stops : StopsIn search q t.next

-- ---- questions

abbrev pub IsAnswer : Embedding → Path → Answer → Type 0
IsAnswer s q (answer.Empty o) = IfSome o (IsRefuted s q)
IsAnswer s q (answer.Point p) = Unit {0}

-- the question is empty, or stays
abbrev pub IsOpen : Embedding → Path → Opened → Type 0
IsOpen s q (opened.Empty o) = IfSome o (IsRefuted s q)
IsOpen s q (opened.On n) = (n.question ≡ q) × (n.embedding ≡ s)

-- ---- ends

-- a row over these columns stands among these rows
abbrev pub IsStanding : Conj → Row → Type 0
IsStanding c r = (length (form_of r).coefs ≤ c.columns) × (stands c.rows r ≡ true)

abbrev pub AreStanding : Conj → List Row → Type 0
AreStanding c = AllByRecursion (IsStanding c)

-- such an end is a plan wherever these rows stand among those of a question at the positions of q
unfoldable pub EndsWhere : Search → Path → List Row → PlanNext → Type 0
EndsWhere search q rows end =
    (cs : List Claim) (s : Embedding) (c : Conj) (t : Plan) → IsGiven search cs → IsFormed (judge_of search).params (at_rows q c) → AreStanding c rows → IsEnd end t → IsPlanFor (judge_of search) cs s (at_rows q c) t

-- and it stops there
pub record IsEndFor (search : Search) (q : Path) (rows : List Row) (end : PlanNext) : Type 0 where
  pub ends : EndsWhere search q rows end
  pub stops : StopsIn search q end

-- ---- a case of a read or an output

-- what was assumed last is the case's source, and the case is one of a flow
pub record IsCaseAt (g : Pairing) (q : Path) (case : Case) : Type 0 where
  pub assumed : Assumed
  pub is : q.last ≡ Some assumed
  pub model : Model
  pub reader : Reads
  pub flow : ReadFlow
  pub flow_is : IsFlowOf model reader flow
  pub among : IsAmong case flow.cases
  pub stands_for : IsAssumedOn g assumed model (assumed_by model reader case)

-- a plan for the question so embedded, where it assumes the case, which stops as plans of the search do
pub record IsMadeIn (search : Search) (case : Case) (s : Embedding) (q : Path) (t : Plan) : Type 0 where
  pub plan : IsCaseAt (judge_of search) q case → IsPlanIn search s q t
  pub stops : StopsIn search q t.next
