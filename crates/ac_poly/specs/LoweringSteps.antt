-- What the steps of lowering answer, at lists.
use Rattle.std.specs.Prelude.{ℕ, ◌+◌, ◌*◌, ◌≡◌, List, [], ◌∷◌, ◌++◌, Option, Some, None, Result, Ok, Err, nat_lt, if◌then◌else◌, sum_by}
use Rattle.ac_forms.specs.Affine.{Affine}
use Rattle.ac_forms.specs.declared.stop.FormStop.{FormStop}
use Rattle.ac_forms.specs.declared.stop.FormStop.TheVariants as stops
use Rattle.ac_syntax.specs.LoopNests.{loop_count}
use Rattle.ac_syntax.specs.ValueNodes.{size}
use Rattle.ac_syntax.specs.declared.tree.IndexExpr.{IndexExpr}
use Rattle.ac_syntax.specs.declared.tree.Rel.{Rel}
use Rattle.ac_syntax.specs.declared.tree.Rel.TheVariants.{NonNegative, Zero, Divides}
use Rattle.ac_syntax.specs.declared.tree.Comparison.{Comparison}
use Rattle.ac_syntax.specs.declared.tree.Value.{Value}
use Rattle.ac_syntax.specs.declared.tree.Stmt.{Stmt, Row_of-Stmt, end_of-Stmt, more_of-Stmt}
use Rattle.ac_syntax.specs.declared.tree.Stmt.TheVariants.{For', If', Assign}
use Rattle.ac_poly.specs.LoweringFaults.{IsLowerable, IsFirst, AreLowerable, IsFirstAll, Answers}
use Rattle.ac_poly.specs.Lower.{lower, lower_all}
use Rattle.ac_poly.specs.ModelNodes.{nodes}
use Rattle.ac_poly_quotients.specs.declared.types.Scope.{Scope}
use Rattle.ac_poly.specs.declared.types.LowerFault.{LowerFault}
use Rattle.ac_poly.specs.declared.types.LowerFault.TheVariants.{Pieces, Wide, Memory}
use Rattle.ac_poly.specs.declared.types.NodeModel.{NodeModel}
use Rattle.ac_poly.specs.declared.types.StmtModel.{StmtModel}

-- the numbers of values one after another
abbrev pub roots_of : List Value → ℕ → List ℕ
roots_of [] at = []
roots_of (v ∷ vs) at = at ∷ roots_of vs (at + size v)

-- the nodes of values one after another
abbrev pub nodes_of : (IndexExpr → Affine) → List Value → ℕ → List NodeModel
nodes_of form [] at = []
nodes_of form (v ∷ vs) at = nodes form v at ++ nodes_of form vs (at + size v)

-- in how many ways a condition fails
abbrev pub ways_by : Rel → ℕ
ways_by NonNegative = 1
ways_by Zero = 2
ways_by (Divides m) = 1

abbrev pub ways : List Comparison → ℕ
ways [] = 0
ways (c ∷ cs) = ways_by c.rel + ways cs

-- that many pieces, each failing in so many ways; above 16 their number doesn't matter
abbrev pub pieces_by : ℕ → ℕ → ℕ
pieces_by pieces count = if nat_lt 16 pieces then pieces else pieces * count

abbrev pub or_first : Option LowerFault → Option LowerFault → Option LowerFault
or_first None g = g
or_first (Some f) g = Some f

-- the first fault in a scope of so many pieces, if they are too many or something around does not fit
unfoldable mutual
  pub fault : Stmt → ℕ → Option LowerFault
  fault (For' iter start cond step n body place) pieces = fault_in body pieces
  fault (If' cond n taken m other place) pieces = or_first (fault_in taken pieces) (fault_in other (pieces_by pieces (ways cond.parts)))
  fault (Assign array subs value place) pieces = Some (if nat_lt 16 pieces then Pieces place else Wide place)

  pub fault_in : {m : _} → Row_of-Stmt m → ℕ → Option LowerFault
  fault_in end_of-Stmt pieces = None
  fault_in (more_of-Stmt s rest) pieces = or_first (fault s pieces) (fault_in rest pieces)

abbrev pub fault_all : List Stmt → ℕ → Option LowerFault
fault_all [] pieces = None
fault_all (s ∷ ss) pieces = or_first (fault s pieces) (fault_all ss pieces)

-- what looking for that fault answers: the number after the loops, or the fault
abbrev pub Seeks : Result ℕ LowerFault → Stmt → ℕ → ℕ → Type 0
Seeks r s number pieces = Answers r (λ next. (next ≡ number + loop_count s) × (fault s pieces ≡ None)) (λ f. fault s pieces ≡ Some f)

abbrev pub SeeksAll : Result ℕ LowerFault → List Stmt → ℕ → ℕ → Type 0
SeeksAll r ss number pieces = Answers r (λ next. (next ≡ number + sum_by loop_count ss) × (fault_all ss pieces ≡ None)) (λ f. fault_all ss pieces ≡ Some f)

-- what lowering answers: the number after the loops, and the assignments behind those before; or the first fault
abbrev pub Lowers : Result ℕ LowerFault → Stmt → ℕ → Scope → Type 0 → List StmtModel → List StmtModel → Type 0
Lowers r s number sc fit old new =
    Answers r (λ next. (next ≡ number + loop_count s) × IsLowerable s number sc fit × (new ≡ old ++ lower s number sc)) (IsFirst s number sc fit)

abbrev pub LowersAll : Result ℕ LowerFault → List Stmt → ℕ → Scope → Type 0 → List StmtModel → List StmtModel → Type 0
LowersAll r ss number sc fit old new =
    Answers r (λ next. (next ≡ number + sum_by loop_count ss) × AreLowerable ss number sc fit × (new ≡ old ++ lower_all ss number sc)) (IsFirstAll ss number sc fit)

-- the same within a scope that was made; where it was not, what looking for the fault answers, with so many pieces
abbrev pub LowersWithin : Result Scope FormStop → Result ℕ LowerFault → List Stmt → ℕ → ℕ → List StmtModel → List StmtModel → Type 0
LowersWithin (Ok made) r ss number pieces old new = LowersAll r ss number made (Unit {0}) old new
LowersWithin (Err stops.Wide) r ss number pieces old new = SeeksAll r ss number pieces × (new ≡ old)
LowersWithin (Err (stops.Memory want)) r ss number pieces old new = r ≡ Err (Memory want)
