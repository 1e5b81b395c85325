-- A reader of a model is a read of an assignment, or an output, which is an input array.
use Rattle.std.proofs.Common.{◌≡◌, ◌⊎◌, inl, inr, ℕ, suc, ◌+◌, List, [], ◌∷◌, length, Bool, true, false, cond, Some, arith, refl, sym, subst}
use Rattle.std.specs.Prelude.{slice_get}
use Rattle.ac_forms.specs.Affine.{Affine}
use Rattle.ac_syntax.specs.declared.tree.Position.TheVariants.{Output, Node}
use Rattle.ac_poly.specs.Model.{is_input}
use Rattle.ac_poly.specs.declared.types.Model.{Model}
use Rattle.ac_poly.specs.declared.types.NodeModel.{NodeModel}
use Rattle.ac_poly.specs.declared.types.NodeModel.TheVariants.{Number, Read, Call}
use Rattle.ac_poly.specs.declared.types.StmtModel.{StmtModel}
use Rattle.ac_claims.specs.ProofFaults.{is_output_array}
use Rattle.ac_claims_paths.specs.InstanceCoordinates.{width}
use Rattle.ac_forms.specs.ListMembers.{IsAmong}
use Rattle.ac_claims_paths.specs.ModelPositions.{extent_rows}
use Rattle.ac_claims_paths.proofs.InBranches.{in_either}
use Rattle.ac_flow.specs.FlowCases.{Reads}
use Rattle.ac_flow.specs.Readers.{read_at, reads_from, reads_of_all, elements_of, output_at, outputs_from, readers}
use Rattle.ac_omega.proofs.Replays.{first-true}

pub data IsReaderOf (m : Model) : Reads → Type 0 where
  OfNode : (s k : ℕ) (stmt : StmtModel) (array : ℕ) (subs : List Affine) → slice_get m.stmts s ≡ Some stmt → slice_get stmt.nodes k ≡ Some (Read array subs) → IsReaderOf m (record { position = Node s k; array = array; count = width stmt; pieces = stmt.pieces })
  OfOutput : (o : ℕ) (extents : List Affine) → slice_get m.extents o ≡ Some extents → is_input (slice_get m.kinds o) ≡ true → IsReaderOf m (record { position = Output o; array = o; count = length extents; pieces = extent_rows m.params extents ∷ [] })

node-reader : (m : Model) (s k : ℕ) (stmt : StmtModel) (node : NodeModel) (r : Reads) → slice_get m.stmts s ≡ Some stmt → slice_get stmt.nodes k ≡ Some node → IsAmong r (read_at s k stmt node) → IsReaderOf m r
node-reader m s k stmt (Number f) r is e h = absurd h
node-reader m s k stmt (Read array subs) r is e (inl i) = subst (IsReaderOf m) (sym i) (OfNode s k stmt array subs is e)
node-reader m s k stmt (Read array subs) r is e (inr h) = absurd h
node-reader m s k stmt (Call symbol args) r is e h = absurd h

nodes-reader : (m : Model) (s k : ℕ) (stmt : StmtModel) (nodes : List NodeModel) (r : Reads) → slice_get m.stmts s ≡ Some stmt → ((j : ℕ) (node : NodeModel) → slice_get nodes j ≡ Some node → slice_get stmt.nodes (k + j) ≡ Some node) → IsAmong r (reads_from s k stmt nodes) → IsReaderOf m r
nodes-reader m s k stmt [] r is f h = absurd h
nodes-reader m s k stmt (node ∷ nodes) r is f h =
    by (in_either r (read_at s k stmt node) (reads_from s (suc k) stmt nodes) h)
    (λ i. nodes-reader m s (suc k) stmt nodes r is (λ j n e. let z : k + suc j ≡ suc k + j = omega arith in subst (λ (i : ℕ). slice_get stmt.nodes i ≡ Some n) z (f (suc j) n e)) i)
  where
    here : slice_get stmt.nodes k ≡ Some node
    here = let z : k + 0 ≡ k = omega arith in subst (λ (j : ℕ). slice_get stmt.nodes j ≡ Some node) z (f 0 node refl)

    by : IsAmong r (read_at s k stmt node) ⊎ IsAmong r (reads_from s (suc k) stmt nodes) → (IsAmong r (reads_from s (suc k) stmt nodes) → IsReaderOf m r) → IsReaderOf m r
    by (inl i) next = node-reader m s k stmt node r is here i
    by (inr i) next = next i

stmts-reader : (m : Model) (s : ℕ) (stmts : List StmtModel) (r : Reads) → ((j : ℕ) (stmt : StmtModel) → slice_get stmts j ≡ Some stmt → slice_get m.stmts (s + j) ≡ Some stmt) → IsAmong r (reads_of_all s stmts) → IsReaderOf m r
stmts-reader m s [] r f h = absurd h
stmts-reader m s (stmt ∷ stmts) r f h =
    by (in_either r (reads_from s 0 stmt stmt.nodes) (reads_of_all (suc s) stmts) h)
    (λ i. stmts-reader m (suc s) stmts r (λ j q e. let z : s + suc j ≡ suc s + j = omega arith in subst (λ (i : ℕ). slice_get m.stmts i ≡ Some q) z (f (suc j) q e)) i)
  where
    here : slice_get m.stmts s ≡ Some stmt
    here = let z : s + 0 ≡ s = omega arith in subst (λ (j : ℕ). slice_get m.stmts j ≡ Some stmt) z (f 0 stmt refl)

    by : IsAmong r (reads_from s 0 stmt stmt.nodes) ⊎ IsAmong r (reads_of_all (suc s) stmts) → (IsAmong r (reads_of_all (suc s) stmts) → IsReaderOf m r) → IsReaderOf m r
    by (inl i) next = nodes-reader m s 0 stmt stmt.nodes r here (λ j n e. let z : j ≡ 0 + j = omega arith in subst (λ (i : ℕ). slice_get stmt.nodes i ≡ Some n) z e) i
    by (inr i) next = next i

outputs-reader : (m : Model) (o : ℕ) (es : List (List Affine)) (r : Reads) → ((j : ℕ) (e : List Affine) → slice_get es j ≡ Some e → slice_get m.extents (o + j) ≡ Some e) → IsAmong r (outputs_from m o es) → IsReaderOf m r
outputs-reader m o [] r f h = absurd h
outputs-reader m o (e ∷ es) r f h =
    by (in_either r (output_at m o e) (outputs_from m (suc o) es) h)
    (λ i. outputs-reader m (suc o) es r (λ j q x. let z : o + suc j ≡ suc o + j = omega arith in subst (λ (i : ℕ). slice_get m.extents i ≡ Some q) z (f (suc j) q x)) i)
  where
    here : slice_get m.extents o ≡ Some e
    here = let z : o + 0 ≡ o = omega arith in subst (λ (j : ℕ). slice_get m.extents j ≡ Some e) z (f 0 e refl)

    one : (t : Bool) → is_output_array m o ≡ t → IsAmong r (cond t (elements_of m o e ∷ []) []) → IsReaderOf m r
    one true x (inl i) = subst (IsReaderOf m) (sym i) (OfOutput o e here (first-true (is_input (slice_get m.kinds o)) _ x))
    one true x (inr i) = absurd i
    one false x i = absurd i

    by : IsAmong r (output_at m o e) ⊎ IsAmong r (outputs_from m (suc o) es) → (IsAmong r (outputs_from m (suc o) es) → IsReaderOf m r) → IsReaderOf m r
    by (inl i) next = one (is_output_array m o) refl i
    by (inr i) next = next i

pub reader-of : (m : Model) (r : Reads) → IsAmong r (readers m) → IsReaderOf m r
reader-of m r h = by (in_either r (reads_of_all 0 m.stmts) (outputs_from m 0 m.extents) h)
  where
    by : IsAmong r (reads_of_all 0 m.stmts) ⊎ IsAmong r (outputs_from m 0 m.extents) → IsReaderOf m r
    by (inl i) = stmts-reader m 0 m.stmts r (λ j q e. let z : j ≡ 0 + j = omega arith in subst (λ (i : ℕ). slice_get m.stmts i ≡ Some q) z e) i
    by (inr i) = outputs-reader m 0 m.extents r (λ j q e. let z : j ≡ 0 + j = omega arith in subst (λ (i : ℕ). slice_get m.extents i ≡ Some q) z e) i
