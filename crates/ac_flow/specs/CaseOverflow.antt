-- What is kept where a read or an output has too many pieces: cut cases of it.
use Rattle.std.specs.Prelude.{ℕ, ◌+◌, ◌≡◌, ◌⊎◌, List, [], ◌∷◌, ◌++◌, length, Option, Some, None, slice_get}
use Rattle.ac_forms.specs.declared.conj.Conj.{Conj}
use Rattle.ac_forms.specs.declared.row.Row.{Row}
use Rattle.ac_sets.specs.Unions.{ArePieces}
use Rattle.ac_poly.specs.declared.types.Model.{Model}
use Rattle.ac_poly.specs.declared.types.StmtModel.{StmtModel}
use Rattle.ac_flow.specs.CutStops.{AreCutCases}
use Rattle.ac_flow.specs.Cuts.{AllHavePoints, NoneMeet}
use Rattle.ac_claims_paths.specs.PathSteps.{root}
use Rattle.ac_claims_paths.specs.declared.path.CopyNumbers.{CopyNumbers}
use Rattle.ac_claims_paths.specs.declared.path.Seat.{Seat}
use Rattle.ac_flow.specs.Writings.{reading, conj_of, writings}
use Rattle.ac_flow.specs.FlowCases.{Reads, case_conj}
use Rattle.ac_flow.specs.FlowStops.{AreKillPieces}

-- for each piece of the reader, in order, cut cases of the case in it, over its columns and further ones, of which no two have a
-- point in common
abbrev pub AreGroups : Model → ℕ → List Row → List (List Row) → List (List Row) → List Conj → Type 0
AreGroups m columns rows kills [] kept = kept ≡ []
AreGroups m columns rows kills (q ∷ qs) kept =
    (group : List Conj) × (rest : List Conj) × (kept ≡ group ++ rest) × AreCutCases (case_conj m columns rows q) kills group × ArePieces columns group × NoneMeet columns group × AreGroups m columns rows kills qs rest

-- those of the case of what is assumed, with rows of its kill pieces
pub record AreCutCasesOf (budget : ℕ) (m : Model) (r : Reads) (source : Option Seat) (columns : ℕ) (rows : List Row) (kept : List Conj) : Type 0 where
  pub kills : List (List Row)
  pub found : AreKillPieces budget m (reading m r.position r.count source) (writings m r.position r.array source) kills
  pub groups : AreGroups m columns rows kills r.pieces kept

-- those of the case of a writing, or none where it was not yet cut
abbrev pub AreOfWriting : ℕ → Model → Reads → CopyNumbers → List Conj → Type 0
AreOfWriting budget m r w kept =
    (kept ≡ [])
    ⊎ ((stmt : StmtModel) × (own : Conj) × (slice_get m.stmts w.stmt ≡ Some stmt) × (conj_of m (reading m r.position r.count None) w ≡ Some own) × AreCutCasesOf budget m r (Some (root (m.params + r.count) w.stmt stmt)) own.columns own.rows kept)

-- those of the case of each writing, in order, and then those of the case of the initial contents
abbrev pub AreOfCases : ℕ → Model → Reads → List CopyNumbers → List Conj → Type 0
AreOfCases budget m r [] kept = AreCutCasesOf budget m r None (m.params + r.count) [] kept
AreOfCases budget m r (w ∷ ws) kept = (own : List Conj) × (rest : List Conj) × (kept ≡ own ++ rest) × AreOfWriting budget m r w own × AreOfCases budget m r ws rest

-- one cut case more than a read or an output may have, each with a point
pub record AreTooMany (budget : ℕ) (m : Model) (r : Reads) (kept : List Conj) : Type 0 where
  pub count : length kept ≡ 4097
  pub points : AllHavePoints kept
  pub cases : AreOfCases budget m r (writings m r.position r.array None) kept
