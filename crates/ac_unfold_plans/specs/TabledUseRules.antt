-- Which plans use tabled claims.
use Rattle.std.specs.Prelude.{ℕ, ◌≡◌, List, Some, Vec}
use Rattle.std.specs.declared.alloc.Global.{Global}
use Rattle.std.specs.List.{AllByRecursion}
use Rattle.ac_forms.specs.declared.row.Row.{Row}
use Rattle.ac_syntax.specs.declared.tree.Order.{Order}
use Rattle.ac_cert.specs.declared.ends.Absurd.{Absurd}
use Rattle.ac_cert.specs.declared.types.Tree.{Tree}
use Rattle.ac_claims_paths.specs.WellFormedPaths.{HasModuli, IsFormed}
use Rattle.ac_claims_paths.specs.PathSteps.{Pairing, at_rows, branches, extended}
use Rattle.ac_claims_paths.specs.declared.path.Path.{Path}
use Rattle.ac_claims.specs.declared.types.Claim.{Claim}
use Rattle.ac_claims.specs.declared.types.Kill.{Kill}
use Rattle.ac_claims.specs.declared.types.Plan.{Plan}
use Rattle.ac_claims.specs.declared.types.PlanNext.{PlanNext, Go}
use Rattle.ac_claims.specs.declared.types.PlanNext.TheVariants.{Killed, Hit, SameNumber, SameInitial}
use Rattle.ac_claims_plans.specs.PlanAcceptance.{BranchesTo, IsMoved}
use Rattle.ac_claims_plans.specs.declared.embedding.Embedding.{Embedding}
use Rattle.ac_unfold_plans.specs.TabledUse.{UseTabledEach, UsesTabled, UsesTabledAnywhere, UsesTabledOn, PassesNone}

-- a certificate that was moved to a path
abbrev pub CertificatesUseTabled : Type 0
CertificatesUseTabled = (s : Embedding) (tree : Tree Absurd) (t : Plan) → IsMoved s tree t → UsesTabledAnywhere t.next

-- branches on rows, down to plans that use the claims
abbrev pub BranchesUseTabled : Type 0
BranchesUseTabled = (g : Pairing) (claims : List Claim) (q : Path) (ts : List Plan) (x : PlanNext) → BranchesTo ts x → AllByRecursion (λ (t : Plan). UsesTabledOn g claims q t.next) ts → UsesTabledOn g claims q x

-- what uses them on the question with further rows and columns
abbrev pub FurtherRowsUseTabled : Type 0
FurtherRowsUseTabled = (g : Pairing) (claims : List Claim) (q : Path) (more : ℕ) (rows : List Row) (x : PlanNext) → UsesTabledOn g claims (at_rows q (extended q.conj more rows)) x → UsesTabledOn g claims q x

-- a step of a question that has these branches
abbrev pub StepsUseTabled : Type 0
StepsUseTabled =
    (g : Pairing) → HasModuli g.left → HasModuli g.right → (claims : List Claim) (q : Path) (order : Order) (cases : Vec Plan Global) (bs : List Path) → PassesNone g claims q → branches g order q ≡ Some bs → UseTabledEach g claims bs cases.items
    → UsesTabledOn g claims q (Go order cases)

-- ---- ends

abbrev pub KillsUseTabled : Type 0
KillsUseTabled = (kill : Kill) → UsesTabledAnywhere (Killed kill)

abbrev pub HitsUseTabled : Type 0
HitsUseTabled = (n : ℕ) → UsesTabledAnywhere (Hit n)

abbrev pub NumbersUseTabled : Type 0
NumbersUseTabled = (g : Pairing) (claims : List Claim) (q : Path) → PassesNone g claims q → UsesTabledOn g claims q SameNumber

abbrev pub InitialCellsUseTabled : Type 0
InitialCellsUseTabled = (g : Pairing) (claims : List Claim) (q : Path) → PassesNone g claims q → UsesTabledOn g claims q SameInitial

-- ---- starts

abbrev pub StartsUseTabled : Type 0
StartsUseTabled = (g : Pairing) (claims : List Claim) (q : Path) (x : PlanNext) → IsFormed g.params q → UsesTabledOn g claims q x → UsesTabled g claims x q
