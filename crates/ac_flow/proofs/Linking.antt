-- The readings of a program are those of its readers.
use Rattle.std.proofs.Common.{◌≡◌, ◌⊎◌, inl, inr, ℕ, suc, ◌+◌, ℤ, List, [], ◌∷◌, ◌++◌, length, Bool, true, false, cond, Option, Some, refl, sym, ap, ◌∙◌, subst, arith}
use Rattle.std.specs.Prelude.{slice_get, option_and_then}
use Rattle.ac_forms.specs.Affine.{Affine}
use Rattle.ac_forms.specs.Rows.{Meets}
use Rattle.ac_syntax.specs.Algebra.{Cell}
use Rattle.ac_syntax.specs.Trace.{Entry}
use Rattle.ac_syntax.specs.Spot.{Spot}
use Rattle.ac_syntax.specs.Where.{At}
use Rattle.ac_syntax.specs.declared.tree.Position.TheVariants.{Output, Node}
use Rattle.ac_poly.specs.declared.types.Model.{Model}
use Rattle.ac_poly.specs.declared.types.NodeModel.{NodeModel}
use Rattle.ac_poly.specs.declared.types.NodeModel.TheVariants.{Number, Read, Call}
use Rattle.ac_poly.specs.declared.types.StmtModel.{StmtModel}
use Rattle.ac_claims.specs.ProofFaults.{is_output_array}
use Rattle.ac_base.proofs.Options.{some-is}
use Rattle.ac_claims_paths.specs.InstanceCoordinates.{width}
use Rattle.ac_claims_paths.specs.Executions.{Execution, Describes}
use Rattle.ac_forms.specs.ListMembers.{IsAmong}
use Rattle.ac_claims_paths.specs.ModelPositions.{cell_read, extent_rows, element_forms}
use Rattle.ac_claims_paths.proofs.InBranches.{in_either}
use Rattle.ac_flow.specs.FlowCases.{Reads}
use Rattle.ac_flow.specs.Readers.{read_at, reads_from, reads_of_all, output_at, outputs_from, readers}
use Rattle.ac_flow.specs.Sources.{IsReading}
use Rattle.ac_flow.proofs.Exact.{ReadHere}
use Rattle.ac_forms.specs.PieceMembership.{IsInSome}

-- a reader is a read of an assignment, or an output
pub data IsReader (m : Model) : Reads → Type 0 where
  OfNode : (s k : ℕ) (stmt : StmtModel) (array : ℕ) (subs : List Affine) → slice_get m.stmts s ≡ Some stmt → slice_get stmt.nodes k ≡ Some (Read array subs) → IsReader m (record { position = Node s k; array = array; count = width stmt; pieces = stmt.pieces })
  OfOutput : (o : ℕ) (extents : List Affine) → slice_get m.extents o ≡ Some extents → IsReader m (record { position = Output o; array = o; count = length extents; pieces = extent_rows m.params extents ∷ [] })

node_reader : (m : Model) (s k : ℕ) (stmt : StmtModel) (node : NodeModel) → slice_get m.stmts s ≡ Some stmt → slice_get stmt.nodes k ≡ Some node → (r : Reads) → IsAmong r (read_at s k stmt node) → IsReader m r
node_reader m s k stmt (Number f) is e r h = absurd h
node_reader m s k stmt (Read array subs) is e r (inl i) = subst (IsReader m) (sym i) (OfNode s k stmt array subs is e)
node_reader m s k stmt (Read array subs) is e r (inr h) = absurd h
node_reader m s k stmt (Call symbol args) is e r h = absurd h

nodes_reader : (m : Model) (s k : ℕ) (stmt : StmtModel) (nodes : List NodeModel) → slice_get m.stmts s ≡ Some stmt → ((j : ℕ) (node : NodeModel) → slice_get nodes j ≡ Some node → slice_get stmt.nodes (k + j) ≡ Some node) → (r : Reads) → IsAmong r (reads_from s k stmt nodes) → IsReader m r
nodes_reader m s k stmt [] is f r h = absurd h
nodes_reader m s k stmt (node ∷ nodes) is f r h = by (in_either r (read_at s k stmt node) (reads_from s (suc k) stmt nodes) h) (λ x. nodes_reader m s (suc k) stmt nodes is (λ j n e. let z : k + suc j ≡ suc k + j = omega arith in subst (λ i. slice_get stmt.nodes i ≡ Some n) z (f (suc j) n e)) r x)
  where
    by : IsAmong r (read_at s k stmt node) ⊎ IsAmong r (reads_from s (suc k) stmt nodes) → (IsAmong r (reads_from s (suc k) stmt nodes) → IsReader m r) → IsReader m r
    by (inl x) next = node_reader m s k stmt node is (let z : k + 0 ≡ k = omega arith in subst (λ j. slice_get stmt.nodes j ≡ Some node) z (f 0 node refl)) r x
    by (inr x) next = next x

stmts_reader : (m : Model) (s : ℕ) (stmts : List StmtModel) → ((j : ℕ) (stmt : StmtModel) → slice_get stmts j ≡ Some stmt → slice_get m.stmts (s + j) ≡ Some stmt) → (r : Reads) → IsAmong r (reads_of_all s stmts) → IsReader m r
stmts_reader m s [] f r h = absurd h
stmts_reader m s (stmt ∷ stmts) f r h = by (in_either r (reads_from s 0 stmt stmt.nodes) (reads_of_all (suc s) stmts) h) (λ x. stmts_reader m (suc s) stmts (λ j q e. let z : s + suc j ≡ suc s + j = omega arith in subst (λ i. slice_get m.stmts i ≡ Some q) z (f (suc j) q e)) r x)
  where
    by : IsAmong r (reads_from s 0 stmt stmt.nodes) ⊎ IsAmong r (reads_of_all (suc s) stmts) → (IsAmong r (reads_of_all (suc s) stmts) → IsReader m r) → IsReader m r
    by (inl x) next = nodes_reader m s 0 stmt stmt.nodes (let z : s + 0 ≡ s = omega arith in subst (λ j. slice_get m.stmts j ≡ Some stmt) z (f 0 stmt refl)) (λ j n e. let z : j ≡ 0 + j = omega arith in subst (λ i. slice_get stmt.nodes i ≡ Some n) z e) r x
    by (inr x) next = next x

outputs_reader : (m : Model) (o : ℕ) (es : List (List Affine)) → ((j : ℕ) (e : List Affine) → slice_get es j ≡ Some e → slice_get m.extents (o + j) ≡ Some e) → (r : Reads) → IsAmong r (outputs_from m o es) → IsReader m r
outputs_reader m o [] f r h = absurd h
outputs_reader m o (e ∷ es) f r h = by (in_either r (output_at m o e) (outputs_from m (suc o) es) h) (λ x. outputs_reader m (suc o) es (λ j q i. let z : o + suc j ≡ suc o + j = omega arith in subst (λ k. slice_get m.extents k ≡ Some q) z (f (suc j) q i)) r x)
  where
    one : (b : Bool) → IsAmong r (cond b (record { position = Output o; array = o; count = length e; pieces = extent_rows m.params e ∷ [] } ∷ []) []) → IsReader m r
    one true (inl i) = subst (IsReader m) (sym i) (OfOutput o e (let z : o + 0 ≡ o = omega arith in subst (λ j. slice_get m.extents j ≡ Some e) z (f 0 e refl)))
    one true (inr x) = absurd x
    one false x = absurd x

    by : IsAmong r (output_at m o e) ⊎ IsAmong r (outputs_from m (suc o) es) → (IsAmong r (outputs_from m (suc o) es) → IsReader m r) → IsReader m r
    by (inl x) next = one (is_output_array m o) x
    by (inr x) next = next x

pub is_reader : (m : Model) (r : Reads) → IsAmong r (readers m) → IsReader m r
is_reader m r h = by (in_either r (reads_of_all 0 m.stmts) (outputs_from m 0 m.extents) h)
  where
    by : IsAmong r (reads_of_all 0 m.stmts) ⊎ IsAmong r (outputs_from m 0 m.extents) → IsReader m r
    by (inl x) = stmts_reader m 0 m.stmts (λ j q e. let z : j ≡ 0 + j = omega arith in subst (λ i. slice_get m.stmts i ≡ Some q) z e) r x
    by (inr x) = outputs_reader m 0 m.extents (λ j q e. let z : j ≡ 0 + j = omega arith in subst (λ i. slice_get m.extents i ≡ Some q) z e) r x

-- what stands at a read
node_stands : (m : Model) (params : List ℤ) (x : Execution) → Describes m params x → (s k : ℕ) (stmt : StmtModel) (at : List ℤ) (spot : Spot) → slice_get m.stmts s ≡ Some stmt → At x (Node s k) at spot → (width stmt ≡ length at) × IsInSome Meets stmt.pieces (params ++ at)
unfolding At
node_stands m params x d s k stmt at spot is (w, i, v, n, e) =
    let here : slice_get m.stmts w.entry.stmt ≡ Some stmt = ap (slice_get m.stmts) i.stmt ∙ is in
    let mo = d.entry w i.stands in
    let same : mo.stmt ≡ stmt = some-is mo.stmt stmt (sym mo.is ∙ here) in
    (ap width (sym same) ∙ sym mo.width ∙ ap (λ (q : List ℤ). length q) i.coords, subst (λ (q : List ℤ). IsInSome Meets stmt.pieces (params ++ q)) i.coords (d.piece w stmt i.stands here))

output_stands : (m : Model) (params : List ℤ) (x : Execution) → Describes m params x → (o : ℕ) (extents : List Affine) (at : List ℤ) (spot : Spot) → slice_get m.extents o ≡ Some extents → At x (Output o) at spot → (length extents ≡ length at) × IsInSome Meets (extent_rows m.params extents ∷ []) (params ++ at)
unfolding At
output_stands m params x d o extents at spot is (inside, e) =
    let f = d.elements o at inside in
    let same : f.extents ≡ extents = some-is f.extents extents (sym f.is ∙ is) in
    (ap (λ (q : List Affine). length q) (sym same) ∙ sym f.count, inl (subst (λ n. Meets (extent_rows n extents) (params ++ at)) (sym d.count) (subst (λ (q : List Affine). Meets (extent_rows (length params) q) (params ++ at)) same f.within)))

-- a reading at a reader's position
pub at_reader : (m : Model) (params : List ℤ) (x : Execution) → Describes m params x → Meets m.context params → (r : Reads) → IsReader m r → (at : List ℤ) (cell : Cell) (before : List Entry) → IsReading x r.position at cell before → ReadHere m params x r at cell before
at_reader m params x d c r (OfNode s k stmt array subs is e) at cell before h =
    let n = node_stands m params x d s k stmt at h.spot is h.here in
    record {
      describes = d;
      forms = record { array = array; subs = subs };
      read = (λ i. option_and_then Rattle.ac_claims_paths.specs.ModelPositions.read_of (option_and_then (λ (y : StmtModel). slice_get y.nodes k) (is i))) ∙ ap (λ o. option_and_then Rattle.ac_claims_paths.specs.ModelPositions.read_of o) e;
      array = refl;
      here = h;
      count = n.0;
      piece = n.1;
      context = c;
    }
at_reader m params x d c r (OfOutput o extents is) at cell before h =
    let n = output_stands m params x d o extents at h.spot is h.here in
    record {
      describes = d;
      forms = record { array = o; subs = element_forms m.params (length extents) };
      read = ap (λ (y : Option (List Affine)). Rattle.std.specs.Prelude.option_map (λ (e : List Affine). record { array = o; subs = element_forms m.params (length e) }) y) is;
      array = refl;
      here = h;
      count = n.0;
      piece = n.1;
      context = c;
    }
