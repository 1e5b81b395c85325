-- The rows of a lowered program are over its own columns.
use Rattle.std.proofs.Common.{◌≡◌, ℕ, zero, suc, ◌+◌, ◌-◌, ◌≤◌, ℤ, pos, negsuc, List, [], ◌∷◌, length, replicate, Some, refl, sym, subst, arith, length-append}
use Rattle.std.specs.Prelude.{slice_get}
use Rattle.std.specs.List.{AllByRecursion}
use Rattle.std.proofs.lemmas.List.{length-replicate}
use Rattle.ac_forms.specs.Affine.{Affine, column_form}
use Rattle.ac_forms.specs.Rows.{AreRowsOver}
use Rattle.ac_forms.specs.declared.row.Row.{Row}
use Rattle.ac_poly.specs.CoordinateColumns.{AreOver}
use Rattle.ac_poly.specs.Model.{model_of}
use Rattle.ac_poly.specs.declared.types.Model.{Model}
use Rattle.ac_poly.specs.declared.types.StmtModel.{StmtModel}
use Rattle.ac_poly.proofs.Columns.{has_columns}
use Rattle.ac_poly.proofs.Values.{length-mix}
use Rattle.ac_claims_paths.specs.InstanceCoordinates.{width}
use Rattle.ac_claims_paths.specs.ModelPositions.{extent_rows}
use Rattle.ac_claims_paths.proofs.Described.{models_describe}
use Rattle.ac_flow.specs.FlowCases.{Reads, CanRead, ArePiecesOver}
use Rattle.ac_flow.specs.Readers.{IsLowered, IsOver}
use Rattle.ac_claims_paths.proofs.Kills.{zeros}

pub is_over : (m : Model) → IsLowered m → IsOver m
is_over m l = subst IsOver (sym l.is) made
  where
    n : Model
    n = model_of l.program l.context

    z : (z : List ℤ) × (length z ≡ length l.program.params)
    z = zeros (length l.program.params)

    made : IsOver (model_of l.program l.context)
    made =
        let d = models_describe l.program l.context z.0 l.ready l.fit z.1 in
        let c = has_columns l.program l.context l.ready l.fit in
        record {
          moduli = record { pieces = d.pieces_moduli; levels = d.levels_moduli };
          context = c.context;
          pieces = λ number stmt is. (c.stmts number stmt is).pieces;
          extents = c.extents;
        }

pieces_of_all : (n : ℕ) (qs : List (List Row)) → AllByRecursion (AreRowsOver n) qs → ArePiecesOver n qs
pieces_of_all n [] h = tt
pieces_of_all n (q ∷ qs) h = (h.0, pieces_of_all n qs h.1)

-- a read of an assignment
pub can_read : (m : Model) (r : Reads) (s : ℕ) (stmt : StmtModel) → IsOver m → slice_get m.stmts s ≡ Some stmt → r.count ≡ width stmt → r.pieces ≡ stmt.pieces → CanRead m r
can_read m r s stmt h is c p = record {
  moduli = h.moduli;
  context = h.context;
  pieces = subst (ArePiecesOver (m.params + r.count)) (sym p) (subst (λ n. ArePiecesOver (m.params + n) stmt.pieces) (sym c) (pieces_of_all (m.params + width stmt) stmt.pieces (h.pieces s stmt is)));
}

column_length : (k : ℕ) → length ((column_form (k + 1) k).coefs) ≡ k + 1
column_length k =
    let a = length-append (replicate k (pos 0)) (pos 1 ∷ replicate (k + 1 - k - 1) (pos 0)) in
    omega (arith, a, length-replicate k (pos 0), length-replicate (k + 1 - k - 1) (pos 0))

extents_over : (n k : ℕ) (es : List Affine) → AreOver n es → n ≤ k → AreRowsOver (k + length es) (extent_rows k es)
extents_over n k [] h l = tt
extents_over n k (e ∷ es) h l =
    let c = column_length k in
    let m = length-mix (pos 1) e.coefs (negsuc 0) (column_form (k + 1) k).coefs in
    let a = h.0 in
    let z : k + 1 + length es ≡ k + suc (length es) = omega arith in (
      (omega (arith, c), tt),
      ((omega (arith, c, m, a, l), tt), subst (λ j. AreRowsOver j (extent_rows (k + 1) es)) z (extents_over n (k + 1) es h.1 (omega (arith, l)))),
    )

-- an output
pub can_read_elements : (m : Model) (r : Reads) (o : ℕ) (extents : List Affine) → IsOver m → slice_get m.extents o ≡ Some extents → r.count ≡ length extents → r.pieces ≡ extent_rows m.params extents ∷ [] → CanRead m r
can_read_elements m r o extents h is c p = record {
  moduli = h.moduli;
  context = h.context;
  pieces = subst (ArePiecesOver (m.params + r.count)) (sym p) (subst (λ n. ArePiecesOver (m.params + n) (extent_rows m.params extents ∷ [])) (sym c) (extents_over m.params m.params extents (h.extents o extents is) (omega arith), tt));
}
