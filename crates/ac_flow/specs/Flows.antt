-- What a flow says: for each case exactly the instances whose source it is.
use Rattle.std.specs.Prelude.{ℕ, ◌≡◌, ◌↔◌, ◌++◌, List, map, length, ℤ, Some, None, slice_get}
use Rattle.ac_forms.specs.Rows.{Meets}
use Rattle.ac_forms.specs.declared.conj.Conj.{Conj}
use Rattle.ac_syntax.specs.Algebra.{Cell}
use Rattle.ac_syntax.specs.ReadyPrograms.{ReadyProgram, FitParts}
use Rattle.ac_syntax.specs.Source.{source}
use Rattle.ac_syntax.specs.Trace.{Entry}
use Rattle.ac_syntax.specs.declared.tree.Cond.{Cond}
use Rattle.ac_syntax.specs.declared.tree.Position.{Position}
use Rattle.ac_syntax.specs.declared.tree.Program.{Program}
use Rattle.ac_poly.specs.Model.{model_of}
use Rattle.ac_poly.specs.declared.types.Model.{Model}
use Rattle.ac_poly.specs.declared.types.StmtModel.{StmtModel}
use Rattle.ac_claims_paths.specs.InstanceCoordinates.{width}
use Rattle.ac_claims_paths.specs.Executions.{Execution, execution}
use Rattle.ac_forms.specs.ListMembers.{IsAmong}
use Rattle.ac_flow.specs.FlowCases.{conj_of_remainder}
use Rattle.ac_flow.specs.Sources.{IsReading, IsSource}
use Rattle.ac_flow.specs.Writings.{reading, writing, conj_of}
use Rattle.ac_flow.specs.declared.types.Case.{Case}
use Rattle.ac_flow.specs.declared.types.Flow.{Flow}
use Rattle.ac_flow.specs.declared.types.ReadFlow.{ReadFlow}
use Rattle.ac_flow.specs.declared.types.Remainder.{Remainder}
use Rattle.ac_forms.specs.Negation.{HasExtension}
use Rattle.ac_forms.specs.PieceMembership.{IsInSome}

-- the point is in one of the pieces of a case
abbrev pub IsLeft : List Remainder → List ℤ → Type 0
IsLeft pieces p = IsInSome HasExtension (map conj_of_remainder pieces) p

-- the rows of a case's source hold: the instance lies in its piece, writes the cell, and stands before the reader by its level
pub record MeetsCase (m : Model) (reader : Position) (count u : ℕ) (case : Case) (p : List ℤ) : Type 0 where
  pub own : Conj
  pub formed : conj_of m (reading m reader count None) (writing u case.piece case.level None) ≡ Some own
  pub meets : Meets own.rows p

-- at a reading, a case without a source is left exactly where no entry before writes the cell; a case of an assignment is left
-- exactly at the coordinates of an instance that is the source, in the case's piece and at its level
pub record CaseIsTheSource (m : Model) (params : List ℤ) (x : Execution) (reader : Position) (at : List ℤ) (cell : Cell) (before : List Entry) (case : Case) : Type 0 where
  pub initial : case.source ≡ None → IsLeft case.pieces (params ++ at) ↔ (source cell before ≡ None)
  pub assigned : (u : ℕ) (stmt : StmtModel) (ys : List ℤ) → case.source ≡ Some u → slice_get m.stmts u ≡ Some stmt → length ys ≡ width stmt
      → IsLeft case.pieces (params ++ (at ++ ys)) ↔ (IsSource x cell before u ys × MeetsCase m reader (length at) u case (params ++ (at ++ ys)))

-- some case of a reading is left: that of its source
pub record HasCase (m : Model) (params : List ℤ) (at : List ℤ) (cases : List Case) : Type 0 where
  pub case : Case
  pub among : IsAmong case cases
  pub more : List ℤ
  pub left : IsLeft case.pieces (params ++ (at ++ more))

-- one source with its coordinates, one piece and one level
pub record IsOneCase (u v : ℕ) (ys zs : List ℤ) (case other : Case) : Type 0 where
  pub source_is : u ≡ v
  pub coordinates : ys ≡ zs
  pub piece : case.piece ≡ other.piece
  pub level : case.level ≡ other.level

-- a reading has one case: of two cases of assignments that are left there both are the same
abbrev pub HasOneCase : Model → List ℤ → List ℤ → List Case → Type 0
HasOneCase m params at cases =
    (case other : Case) (u v : ℕ) (first second : StmtModel) (ys zs : List ℤ) → IsAmong case cases → IsAmong other cases → case.source ≡ Some u → other.source ≡ Some v → slice_get m.stmts u ≡ Some first → slice_get m.stmts v ≡ Some second
    → length ys ≡ width first → length zs ≡ width second → IsLeft case.pieces (params ++ (at ++ ys)) → IsLeft other.pieces (params ++ (at ++ zs)) → IsOneCase u v ys zs case other

-- at each valuation of the context and each reading of a position of the flow
abbrev pub CasesAreSources : Model → Flow → Type 0
CasesAreSources m f =
    (p : Program) (context : Cond) (params : List ℤ) → ReadyProgram p → FitParts (length p.params) 0 context.parts → m ≡ model_of p context → length params ≡ length p.params → Meets m.context params
    → (read : ReadFlow) (at : List ℤ) (cell : Cell) (before : List Entry) → IsAmong read f.reads → IsReading (execution p m params) read.position at cell before
    → ((case : Case) → IsAmong case read.cases → CaseIsTheSource m params (execution p m params) read.position at cell before case) × HasCase m params at read.cases × HasOneCase m params at read.cases
