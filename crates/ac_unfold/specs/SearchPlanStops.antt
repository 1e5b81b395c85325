-- Where the plans of a search stop, and which claims they use.
use Rattle.std.specs.Prelude.{◌≡◌, ◌+◌, ℕ, true, List, Some, length, slice_get}
use Rattle.ac_forms.specs.ListMembers.{IsAmong}
use Rattle.ac_syntax.specs.declared.tree.Order.{Order}
use Rattle.ac_syntax.specs.declared.tree.Position.{Position}
use Rattle.ac_syntax.specs.declared.tree.Site.{Site}
use Rattle.ac_claims_paths.specs.ModelCalls.{pairing}
use Rattle.ac_claims_paths.specs.PathSteps.{branches}
use Rattle.ac_claims_paths.specs.declared.path.Path.{Path}
use Rattle.ac_claims.specs.declared.types.Claim.{Claim}
use Rattle.ac_claims.specs.declared.types.PlanNext.{PlanNext}
use Rattle.ac_widen_programs.specs.PairSetting.{order_at}
use Rattle.ac_unfold_plans.specs.PlanStops.{positions_at, claim_positions, programs_of}
use Rattle.ac_unfold_plans.specs.ArgumentOrders.{order_of}
use Rattle.ac_unfold_plans.specs.TabledUse.{HaveClaimModuli, UsesTabledAnywhere, UsesTabledOn, PassesNone}
use Rattle.ac_unfold_plans.specs.PairStops.{Stopped, StopsAnywhere, StopsOn}
use Rattle.ac_widen_programs.specs.BrokenPaths.{HasNoClaim}
use Rattle.ac_widen_programs.specs.PairPaths.{seats_of}
use Rattle.ac_unfold.specs.ReadySetting.{IsSettled}
use Rattle.ac_unfold.specs.declared.ends.Search.{Search}
use Rattle.ac_unfold.specs.declared.types.ProgramFlows.{ProgramFlows}

-- plans of the two programs stop so: they take arguments in the order that is listed, a recurrence pair has one of the claims, and the
-- claims, numbered from the base on, are of the part, and so are the tabled ones behind them
pub record IsStoppedAt (program_flows : ProgramFlows) (order : List (Site × Order)) (base : ℕ) (claims tabled : List Claim) (g : Stopped) : Type 0 where
  pub programs : programs_of g.pair ≡ pairing program_flows.programs
  pub orders : (positions : Position × Position) → g.order positions ≡ order_of order positions
  pub claimed : (positions : Position × Position) → g.recurrent positions ≡ true → (c : Claim) × IsAmong c claims × (claim_positions c ≡ positions)
  pub part : (i : ℕ) (c : Claim) → slice_get claims i ≡ Some c → g.part (base + i) ≡ true
  pub tabled_part : (i : ℕ) (c : Claim) → slice_get tabled i ≡ Some c → g.part (base + length claims + i) ≡ true

abbrev pub IsStoppedIn : Search → Stopped → Type 0
IsStoppedIn search g = IsStoppedAt search.program_flows.now search.order.now search.base search.claims.now search.tabled.now g

-- the setting is settled, and each modulus in the rows of the tabled claims is at least 1
pub record MayUseTabled (search : Search) : Type 0 where
  pub settled : IsSettled search.program_flows.now
  pub moduli : HaveClaimModuli search.tabled.now

-- where plans are made, what comes behind steps stops so from the pair of the question, and uses the tabled claims on it
unfoldable pub StopsIn : Search → Path → PlanNext → Type 0
StopsIn search q x =
    search.making ≡ true → ((g : Stopped) → IsStoppedIn search g → StopsOn g (positions_at q) q.gone x) × (MayUseTabled search → UsesTabledOn (pairing search.program_flows.now.programs) search.tabled.now q x)

-- it stops anywhere, and uses whatever claims are tabled
pub record EndsAnywhere (x : PlanNext) : Type 0 where
  pub stops : StopsAnywhere x
  pub uses_tabled : UsesTabledAnywhere x

-- ---- where a plan may go on

-- behind a step the pair of the question has no claim; and where plans are made, no tabled claim is hit on it
pub record IsUnclaimed (search : Search) (q : Path) : Type 0 where
  pub none : q.gone ≡ true → HasNoClaim search.claims.now (seats_of q)
  pub passes : search.making ≡ true → HaveClaimModuli search.tabled.now → PassesNone (pairing search.program_flows.now.programs) search.tabled.now q

-- where its step has branches in an order, that is the order there
unfoldable pub TakesIn : Search → Path → Order → Type 0
TakesIn search q order = (g : Stopped) → IsStoppedIn search g → (bs : List Path) → branches (programs_of g.pair) order q ≡ Some bs → order ≡ order_at g.pair (positions_at q) (g.order (positions_at q))

-- a step may be taken in the order
pub record MayStep (search : Search) (q : Path) (order : Order) : Type 0 where
  pub unclaimed : IsUnclaimed search q
  pub takes : TakesIn search q order
