-- The steps of reads and outputs, by the cases of a flow: a read goes to a case's source exactly where the case's rows hold
-- and none of its kills.
use Rattle.std.specs.Prelude.{ℕ, ◌+◌, ◌≡◌, ◌↔◌, ◌⊎◌, ◌++◌, ℤ, List, [], ◌∷◌, length, Some, None, slice_get}
use Rattle.ac_forms.specs.Rows.{Meets}
use Rattle.ac_forms.specs.PieceMembership.{IsInNone}
use Rattle.ac_forms.specs.declared.conj.Conj.{Conj}
use Rattle.ac_forms.specs.declared.row.Row.{Row}
use Rattle.ac_syntax.specs.ReadyPrograms.{ReadyProgram, FitParts}
use Rattle.ac_syntax.specs.declared.tree.Cond.{Cond}
use Rattle.ac_syntax.specs.declared.tree.Position.TheVariants.{Node}
use Rattle.ac_syntax.specs.declared.tree.Program.{Program}
use Rattle.ac_poly.specs.Model.{model_of}
use Rattle.ac_poly.specs.declared.types.Model.{Model}
use Rattle.ac_poly.specs.declared.types.StmtModel.{StmtModel}
use Rattle.ac_claims.specs.declared.types.Kill.{Kill}
use Rattle.ac_claims_paths.specs.InstanceCoordinates.{width}
use Rattle.ac_claims_paths.specs.Executions.{Execution, execution}
use Rattle.ac_forms.specs.ListMembers.{IsAmong}
use Rattle.ac_claims_paths.specs.Pairs.{Placed, ResolvesTo}
use Rattle.ac_claims_paths.specs.ModelPositions.{initial_of}
use Rattle.ac_flow.specs.FlowCases.{Reads, case_conj}
use Rattle.ac_flow.specs.Flows.{MeetsCase, IsOneCase}
use Rattle.ac_flow.specs.Readers.{readers, IsFlowOf, AreFlows}
use Rattle.ac_flow.specs.Writings.{reading, writing, conj_of}
use Rattle.ac_flow.specs.declared.types.Case.{Case}
use Rattle.ac_flow.specs.declared.types.ReadFlow.{ReadFlow}

-- ---- where a read goes

-- to the root of the assignment u at an instance
pub record GoesToRoot (x : Execution) (a : Placed x) (u : ℕ) (ys : List ℤ) : Type 0 where
  pub to : Placed x
  pub position_is : to.position ≡ Node u 0
  pub at_is : to.at ≡ ys
  pub goes : ResolvesTo x a to

-- to its initial position
pub record GoesToStart (x : Execution) (a : Placed x) : Type 0 where
  pub to : Placed x
  pub position_is : to.position ≡ initial_of a.position
  pub at_is : to.at ≡ a.at
  pub goes : ResolvesTo x a to

-- ---- a read of a flow, and the cases of it

-- the point lies in none of the kills
abbrev pub InNoKill : List (Conj × Kill) → List ℤ → Type 0
InNoKill ks p = IsInNone (λ (k : Conj × Kill). Meets k.0.rows) ks p

-- a read or an output of a ready program, at its coordinates and a valuation of the context, with its flow
pub record IsReadOf (p : Program) (context : Cond) (params : List ℤ) (r : Reads) (flow : ReadFlow) (a : Placed (execution p (model_of p context) params)) : Type 0 where
  pub ready : ReadyProgram p
  pub fit : FitParts (length p.params) 0 context.parts
  pub each : length params ≡ length p.params
  pub meets : Meets (model_of p context).context params
  pub among : IsAmong r (readers (model_of p context))
  pub is : IsFlowOf (model_of p context) r flow
  pub position_is : a.position ≡ r.position

-- the case of the assignment u, and the coordinates of an instance at which its rows hold
pub record MeetsRows (m : Model) (params : List ℤ) (x : Execution) (a : Placed x) (case : Case) (u : ℕ) (ys : List ℤ) : Type 0 where
  pub source : case.source ≡ Some u
  pub stmt : StmtModel
  pub is : slice_get m.stmts u ≡ Some stmt
  pub wide : length ys ≡ width stmt
  pub meets : MeetsCase m a.position (length a.at) u case (params ++ (a.at ++ ys))

-- the rows of the case of an assignment in a piece of the reader: those of the context, of the piece and of its writing
pub record MeetsInPiece (m : Model) (r : Reads) (case : Case) (u number : ℕ) (p : List ℤ) : Type 0 where
  pub piece : List Row
  pub is : slice_get r.pieces number ≡ Some piece
  pub own : Conj
  pub formed : conj_of m (reading m r.position r.count None) (writing u case.piece case.level None) ≡ Some own
  pub meets : Meets (case_conj m own.columns own.rows piece).rows p

-- those of the case of the initial contents
pub record StartsInPiece (m : Model) (r : Reads) (number : ℕ) (p : List ℤ) : Type 0 where
  pub piece : List Row
  pub is : slice_get r.pieces number ≡ Some piece
  pub meets : Meets (case_conj m (m.params + r.count) [] piece).rows p

-- the rows of a case hold in exactly one piece of the reader, or in none
pub record IsInOnePiece (m : Model) (params : List ℤ) (x : Execution) (a : Placed x) (r : Reads) (case : Case) : Type 0 where
  pub some : (u : ℕ) (ys : List ℤ) → MeetsRows m params x a case u ys → (number : ℕ) × MeetsInPiece m r case u number (params ++ (a.at ++ ys))
  pub back : (u : ℕ) (stmt : StmtModel) (ys : List ℤ) (number : ℕ) → case.source ≡ Some u → slice_get m.stmts u ≡ Some stmt → length ys ≡ width stmt → MeetsInPiece m r case u number (params ++ (a.at ++ ys)) → MeetsRows m params x a case u ys
  pub one : (u : ℕ) (ys : List ℤ) (number other : ℕ) → MeetsInPiece m r case u number (params ++ (a.at ++ ys)) → MeetsInPiece m r case u other (params ++ (a.at ++ ys)) → number ≡ other
  pub start : (number : ℕ) × StartsInPiece m r number (params ++ a.at)
  pub one_start : (number other : ℕ) → StartsInPiece m r number (params ++ a.at) → StartsInPiece m r other (params ++ a.at) → number ≡ other

abbrev pub CasesAreInPieces : Type 0
CasesAreInPieces =
    (p : Program) (context : Cond) (params : List ℤ) (r : Reads) (flow : ReadFlow) (a : Placed (execution p (model_of p context) params)) → IsReadOf p context params r flow a
    → (case : Case) → IsInOnePiece (model_of p context) params (execution p (model_of p context) params) a r case

-- where the case's rows hold, the read goes to its source exactly outside its kills
pub record IsStepCase (m : Model) (params : List ℤ) (x : Execution) (a : Placed x) (case : Case) : Type 0 where
  pub initial : case.source ≡ None → GoesToStart x a ↔ InNoKill case.kills (params ++ a.at)
  pub assigned : (u : ℕ) (ys : List ℤ) → MeetsRows m params x a case u ys → GoesToRoot x a u ys ↔ InNoKill case.kills (params ++ (a.at ++ ys))

abbrev pub CasesAreSteps : Type 0
CasesAreSteps =
    (p : Program) (context : Cond) (params : List ℤ) (r : Reads) (flow : ReadFlow) (a : Placed (execution p (model_of p context) params)) → IsReadOf p context params r flow a
    → (case : Case) → IsAmong case flow.cases → IsStepCase (model_of p context) params (execution p (model_of p context) params) a case

-- the case of a step: its rows hold, and none of its kills
pub record StartsIn (m : Model) (params : List ℤ) (x : Execution) (a : Placed x) (cases : List Case) : Type 0 where
  pub case : Case
  pub among : IsAmong case cases
  pub source : case.source ≡ None
  pub outside : InNoKill case.kills (params ++ a.at)

pub record ComesFrom (m : Model) (params : List ℤ) (x : Execution) (a : Placed x) (cases : List Case) (u : ℕ) (ys : List ℤ) : Type 0 where
  pub case : Case
  pub among : IsAmong case cases
  pub rows : MeetsRows m params x a case u ys
  pub outside : InNoKill case.kills (params ++ (a.at ++ ys))

-- each step of a read is that of a case, and each read goes somewhere
pub record HasStepCase (m : Model) (params : List ℤ) (x : Execution) (a : Placed x) (cases : List Case) : Type 0 where
  pub initial : GoesToStart x a → StartsIn m params x a cases
  pub assigned : (u : ℕ) (ys : List ℤ) → GoesToRoot x a u ys → ComesFrom m params x a cases u ys
  pub goes : GoesToStart x a ⊎ ((u : ℕ) × (ys : List ℤ) × GoesToRoot x a u ys)

abbrev pub StepsAreOfCases : Type 0
StepsAreOfCases =
    (p : Program) (context : Cond) (params : List ℤ) (r : Reads) (flow : ReadFlow) (a : Placed (execution p (model_of p context) params)) → IsReadOf p context params r flow a
    → HasStepCase (model_of p context) params (execution p (model_of p context) params) a flow.cases

-- of two cases whose rows hold and none of whose kills both are the same
pub record IsOneStep (m : Model) (params : List ℤ) (x : Execution) (a : Placed x) (cases : List Case) : Type 0 where
  pub one_case : (u v : ℕ) (ys zs : List ℤ) (f : ComesFrom m params x a cases u ys) (g : ComesFrom m params x a cases v zs) → IsOneCase u v ys zs f.case g.case
  pub one_kind : (u : ℕ) (ys : List ℤ) → StartsIn m params x a cases → ¬ ComesFrom m params x a cases u ys

abbrev pub StepsAreDetermined : Type 0
StepsAreDetermined =
    (p : Program) (context : Cond) (params : List ℤ) (r : Reads) (flow : ReadFlow) (a : Placed (execution p (model_of p context) params)) → IsReadOf p context params r flow a
    → IsOneStep (model_of p context) params (execution p (model_of p context) params) a flow.cases

-- each flow of the reads and outputs of a program is that of one of them, and each of them has one
pub record HaveFlows (m : Model) (flows : List ReadFlow) : Type 0 where
  pub reader : (flow : ReadFlow) → IsAmong flow flows → (r : Reads) × IsAmong r (readers m) × IsFlowOf m r flow
  pub flow : (r : Reads) → IsAmong r (readers m) → (flow : ReadFlow) × IsAmong flow flows × IsFlowOf m r flow

abbrev pub FlowsAreOfReaders : Type 0
FlowsAreOfReaders = (m : Model) (flows : List ReadFlow) → AreFlows m (readers m) flows → HaveFlows m flows
