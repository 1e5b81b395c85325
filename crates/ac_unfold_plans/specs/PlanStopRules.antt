-- Which plans stop.
use Rattle.std.specs.Prelude.{ℕ, ◌≡◌, List, Bool, true, false, Some, Vec}
use Rattle.std.specs.declared.alloc.Global.{Global}
use Rattle.std.specs.List.{AllByRecursion}
use Rattle.ac_syntax.specs.declared.tree.Order.{Order}
use Rattle.ac_syntax.specs.declared.tree.Position.{Position}
use Rattle.ac_cert.specs.declared.ends.Absurd.{Absurd}
use Rattle.ac_cert.specs.declared.types.Tree.{Tree}
use Rattle.ac_claims_paths.specs.PathSteps.{branches}
use Rattle.ac_claims_paths.specs.declared.path.Path.{Path}
use Rattle.ac_claims.specs.declared.types.Kill.{Kill}
use Rattle.ac_claims.specs.declared.types.Plan.{Plan}
use Rattle.ac_claims.specs.declared.types.PlanNext.{PlanNext, Go}
use Rattle.ac_claims.specs.declared.types.PlanNext.TheVariants.{Killed, Hit, SameNumber, SameInitial}
use Rattle.ac_claims_plans.specs.PlanAcceptance.{BranchesTo, IsMoved}
use Rattle.ac_claims_plans.specs.declared.embedding.Embedding.{Embedding}
use Rattle.ac_widen_programs.specs.PairSetting.{order_at}
use Rattle.ac_unfold_plans.specs.PlanStops.{positions_at, programs_of}
use Rattle.ac_unfold_plans.specs.PairStops.{Stopped, MayGoOnFrom, StopEach, StopsAnywhere, StopsFrom, StopsOn}

-- a certificate that was moved to a path
abbrev pub CertificatesStop : Type 0
CertificatesStop = (s : Embedding) (tree : Tree Absurd) (t : Plan) → IsMoved s tree t → StopsAnywhere t.next

-- branches on rows, down to plans that stop
abbrev pub BranchesStop : Type 0
BranchesStop = (g : Stopped) (positions : Position × Position) (gone : Bool) (ts : List Plan) (x : PlanNext) → BranchesTo ts x → AllByRecursion (λ (t : Plan). StopsOn g positions gone t.next) ts → StopsOn g positions gone x

-- a plan, whatever its steps
abbrev pub PlansStop : Type 0
PlansStop = (g : Stopped) (positions : Position × Position) (t : Plan) → StopsOn g positions false t.next → StopsFrom g positions t

-- a step from the pair of a path whose step has these branches
abbrev pub StepsStop : Type 0
StepsStop =
    (g : Stopped) (q : Path) (order : Order) (cases : Vec Plan Global) (bs : List Path) → MayGoOnFrom g (positions_at q) q.gone → order ≡ order_at g.pair (positions_at q) (g.order (positions_at q)) → branches (programs_of g.pair) order q ≡ Some bs → StopEach g bs cases.items
    → StopsOn g (positions_at q) q.gone (Go order cases)

-- ---- ends

abbrev pub KillsStop : Type 0
KillsStop = (kill : Kill) → StopsAnywhere (Killed kill)

abbrev pub HitsStop : Type 0
HitsStop = (g : Stopped) (positions : Position × Position) (gone : Bool) (n : ℕ) → g.part n ≡ true → StopsOn g positions gone (Hit n)

abbrev pub NumbersStop : Type 0
NumbersStop = (g : Stopped) (positions : Position × Position) (gone : Bool) → MayGoOnFrom g positions gone → StopsOn g positions gone SameNumber

abbrev pub InitialCellsStop : Type 0
InitialCellsStop = (g : Stopped) (positions : Position × Position) (gone : Bool) → MayGoOnFrom g positions gone → StopsOn g positions gone SameInitial
