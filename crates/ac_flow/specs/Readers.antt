-- The reads and outputs of a program, and its flow.
use Rattle.std.specs.Prelude.{ℕ, suc, ◌+◌, ◌≡◌, ◌⊎◌, ◌≤◌, List, [], ◌∷◌, ◌++◌, length, Some, None, cond, slice_get}
use Rattle.std.specs.List.{AllByRecursion, flat_map}
use Rattle.ac_forms.specs.Affine.{Affine}
use Rattle.ac_forms.specs.Rows.{AreRowsOver}
use Rattle.ac_syntax.specs.ReadyPrograms.{ReadyProgram, FitParts}
use Rattle.ac_syntax.specs.declared.tree.Cond.{Cond}
use Rattle.ac_syntax.specs.declared.tree.Position.{Position}
use Rattle.ac_syntax.specs.declared.tree.Position.TheVariants.{Output, Node}
use Rattle.ac_syntax.specs.declared.tree.Program.{Program}
use Rattle.ac_poly.specs.CoordinateColumns.{CanBound, AreOver}
use Rattle.ac_poly.specs.Model.{model_of}
use Rattle.ac_poly.specs.declared.types.Model.{Model}
use Rattle.ac_poly.specs.declared.types.NodeModel.{NodeModel}
use Rattle.ac_poly.specs.declared.types.NodeModel.TheVariants.{Number, Read, Call}
use Rattle.ac_poly.specs.declared.types.StmtModel.{StmtModel}
use Rattle.ac_flow.specs.declared.cut.CutStop.TheVariants as cut
use Rattle.ac_claims.specs.ProofFaults.{is_output_array}
use Rattle.ac_claims_paths.specs.InstanceCoordinates.{width}
use Rattle.ac_claims_paths.specs.WellFormedPaths.{HasModuli}
use Rattle.ac_forms.specs.ListMembers.{IsAmong}
use Rattle.ac_claims_paths.specs.ModelPositions.{extent_rows}
use Rattle.ac_flow.specs.FlowCases.{Reads, AreCases, conjs_of}
use Rattle.ac_flow.specs.CaseOverflow.{AreTooMany}
use Rattle.ac_flow.specs.FlowStops.{ReadStops}
use Rattle.ac_flow.specs.Writings.{over, writings}
use Rattle.ac_flow.specs.declared.stop.CaseStop.{CaseStop}
use Rattle.ac_flow.specs.declared.stop.CaseStop.TheVariants as case
use Rattle.ac_flow.specs.declared.types.FlowStop.{FlowStop}
use Rattle.ac_flow.specs.declared.types.FlowStop.TheVariants as flow
use Rattle.ac_flow.specs.declared.types.ReadFlow.{ReadFlow}

-- a node of the assignment s, if it is a read
abbrev pub read_at : ℕ → ℕ → StmtModel → NodeModel → List Reads
read_at s k stmt (Number f) = []
read_at s k stmt (Read array subs) = record { position = Node s k; array = array; count = width stmt; pieces = stmt.pieces } ∷ []
read_at s k stmt (Call symbol args) = []

-- the reads among its nodes, from the one with the number k on
abbrev pub reads_from : ℕ → ℕ → StmtModel → List NodeModel → List Reads
reads_from s k stmt [] = []
reads_from s k stmt (node ∷ nodes) = read_at s k stmt node ++ reads_from s (suc k) stmt nodes

-- those of all assignments, from the one with the number s on
abbrev pub reads_of_all : ℕ → List StmtModel → List Reads
reads_of_all s [] = []
reads_of_all s (stmt ∷ stmts) = reads_from s 0 stmt stmt.nodes ++ reads_of_all (suc s) stmts

-- the elements of an array, and these if it is an output
abbrev pub elements_of : Model → ℕ → List Affine → Reads
elements_of m o extents = record { position = Output o; array = o; count = length extents; pieces = extent_rows m.params extents ∷ [] }

abbrev pub output_at : Model → ℕ → List Affine → List Reads
output_at m o extents = cond (is_output_array m o) (elements_of m o extents ∷ []) []

abbrev pub outputs_from : Model → ℕ → List (List Affine) → List Reads
outputs_from m o [] = []
outputs_from m o (extents ∷ rest) = output_at m o extents ++ outputs_from m (suc o) rest

-- the reads in the order of the text, then the outputs
abbrev pub readers : Model → List Reads
readers m = reads_of_all 0 m.stmts ++ outputs_from m 0 m.extents

-- the flow of one of them, with at most 4,096 pieces
abbrev pub IsFlowOf : Model → Reads → ReadFlow → Type 0
IsFlowOf m r f = (f.position ≡ r.position) × AreCases m r (writings m r.position r.array None) f.cases × (length (flat_map conjs_of f.cases) ≤ 4096)

-- one flow for each of them
abbrev pub AreFlows : Model → List Reads → List ReadFlow → Type 0
AreFlows m [] [] = Unit {0}
AreFlows m [] (f ∷ fs) = ⊥
AreFlows m (r ∷ rs) [] = ⊥
AreFlows m (r ∷ rs) (f ∷ fs) = IsFlowOf m r f × AreFlows m rs fs

-- the flows of further ones, behind those before
pub record Grows (m : Model) (rs : List Reads) (old new : List ReadFlow) : Type 0 where
  pub more : List ReadFlow
  pub is : new ≡ old ++ more
  pub flows : AreFlows m rs more

-- the stop of the cases of a position
abbrev pub flow_stop_of : Position → CaseStop → FlowStop
flow_stop_of position (case.Overflow q) = flow.Overflow q
flow_stop_of position (case.Spent q k) = flow.Spent q k
flow_stop_of position (case.Full kept) = flow.Pieces position kept
flow_stop_of position (case.Memory e) = flow.Memory e

-- a read or an output stops the flow: one of its questions, or one piece too many
abbrev pub StopsAt : ℕ → Model → Reads → FlowStop → Type 0
StopsAt budget m r (flow.Overflow q) = ReadStops budget m r (cut.Overflow q)
StopsAt budget m r (flow.Spent q k) = ReadStops budget m r (cut.Spent q k)
StopsAt budget m r (flow.Pieces position kept) = (position ≡ r.position) × AreTooMany budget m r kept
StopsAt budget m r (flow.Memory e) = Unit {0}

abbrev pub IsContextOverflow : Model → FlowStop → Type 0
IsContextOverflow m (flow.Overflow q) = q ≡ over m.params m.context
IsContextOverflow m (flow.Spent q k) = ⊥
IsContextOverflow m (flow.Pieces position kept) = ⊥
IsContextOverflow m (flow.Memory e) = Unit {0}

-- the rows of the elements cannot be formed
abbrev pub IsUnbounded : Model → List Affine → FlowStop → Type 0
IsUnbounded m extents (flow.Overflow q) = (¬ CanBound m.params extents) × (q ≡ over m.params m.context)
IsUnbounded m extents (flow.Spent q k) = ⊥
IsUnbounded m extents (flow.Pieces position kept) = ⊥
IsUnbounded m extents (flow.Memory e) = Unit {0}

-- one of these reads and outputs does
pub record StopsAmong (budget : ℕ) (m : Model) (rs : List Reads) (e : FlowStop) : Type 0 where
  pub why : ((r : Reads) × IsAmong r rs × StopsAt budget m r e) ⊎ ((o : ℕ) × (extents : List Affine) × (slice_get m.extents o ≡ Some extents) × IsUnbounded m extents e)

-- the model of some program under some context
pub record IsLowered (m : Model) : Type 0 where
  pub program : Program
  pub context : Cond
  pub ready : ReadyProgram program
  pub fit : FitParts (length program.params) 0 context.parts
  pub is : m ≡ model_of program context

-- its rows and forms are over its own columns, and each modulus is at least 1
pub record IsOver (m : Model) : Type 0 where
  pub moduli : HasModuli m
  pub context : AreRowsOver m.params m.context
  pub pieces : (number : ℕ) (stmt : StmtModel) → slice_get m.stmts number ≡ Some stmt → AllByRecursion (AreRowsOver (m.params + width stmt)) stmt.pieces
  pub extents : (array : ℕ) (extents : List Affine) → slice_get m.extents array ≡ Some extents → AreOver m.params extents
