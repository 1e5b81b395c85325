-- Which positions have a flow: reads, and outputs whose array is an input with a dimension.
use Rattle.std.proofs.Common.{◌≡◌, inl, inr, ℕ, zero, suc, ◌+◌, List, [], ◌∷◌, length, Bool, true, false, cond, Option, Some, refl, sym, ap, ◌∙◌, subst, arith}
use Rattle.std.specs.Prelude.{slice_get, option_map, option_and_then}
use Rattle.ac_forms.specs.Affine.{Affine}
use Rattle.ac_syntax.specs.declared.tree.Position.{Position}
use Rattle.ac_syntax.specs.declared.tree.Position.TheVariants.{Output, Node, InitialOutput, InitialNode}
use Rattle.ac_poly.specs.declared.types.Model.{Model}
use Rattle.ac_poly.specs.declared.types.NodeModel.{NodeModel}
use Rattle.ac_poly.specs.declared.types.NodeModel.TheVariants as node
use Rattle.ac_poly.specs.declared.types.StmtModel.{StmtModel}
use Rattle.ac_claims.specs.ProofFaults.{is_output_array}
use Rattle.ac_base.proofs.Options.{bind-some, map-some}
use Rattle.ac_claims_paths.specs.InstanceCoordinates.{width}
use Rattle.ac_forms.specs.ListMembers.{IsAmong}
use Rattle.ac_claims_paths.specs.ModelPositions.{cell_read, read_of, element_forms, node_at, initial_of}
use Rattle.ac_claims_paths.specs.declared.places.CellForms.{CellForms}
use Rattle.ac_flow.specs.FlowCases.{Reads, CanRead}
use Rattle.ac_flow.specs.Readers.{read_at, reads_from, reads_of_all, elements_of, output_at, outputs_from, readers, IsFlowOf, AreFlows, IsOver}
use Rattle.ac_flow.specs.declared.types.ReadFlow.{ReadFlow}
use Rattle.ac_flow.proofs.Linking.{IsReader, OfNode, OfOutput}
use Rattle.ac_flow.proofs.Overs.{can_read, can_read_elements}
use Rattle.ac_graph.specs.GraphMeaning.{IsNamed}
use Rattle.ac_graph.proofs.Members.{in_left, in_right, in_split}
use Rattle.ac_flow.proofs.FlowSources.{reader_can}

-- ---- a read or output of the model is a reader

node_read : (s k : ℕ) (stmt : StmtModel) (n : NodeModel) (forms : CellForms) → read_of n ≡ Some forms → (r : Reads) × IsAmong r (read_at s k stmt n) × (r.position ≡ Node s k)
node_read s k stmt (node.Number f) forms e = absurd cc
node_read s k stmt (node.Read array subs) forms e = (record { position = Node s k; array = array; count = width stmt; pieces = stmt.pieces }, inl refl, refl)
node_read s k stmt (node.Call symbol args) forms e = absurd cc

nodes_in : (s j : ℕ) (stmt : StmtModel) (ns : List NodeModel) (k : ℕ) (n : NodeModel) → slice_get ns k ≡ Some n → (r : Reads) → IsAmong r (read_at s (j + k) stmt n) → IsAmong r (reads_from s j stmt ns)
nodes_in s j stmt [] k n e r i = absurd cc
nodes_in s j stmt (x ∷ ns) zero n e r i =
    let same : x ≡ n = cc in
    let z : j + 0 ≡ j = omega arith in
    in_left r (read_at s j stmt x) (reads_from s (suc j) stmt ns) (subst (λ (y : NodeModel). IsAmong r (read_at s j stmt y)) (sym same) (subst (λ q. IsAmong r (read_at s q stmt n)) z i))
nodes_in s j stmt (x ∷ ns) (suc k) n e r i =
    let z : j + suc k ≡ suc j + k = omega arith in
    in_right r (read_at s j stmt x) (reads_from s (suc j) stmt ns) (nodes_in s (suc j) stmt ns k n e r (subst (λ q. IsAmong r (read_at s q stmt n)) z i))

stmts_in : (s : ℕ) (ts : List StmtModel) (k : ℕ) (t : StmtModel) → slice_get ts k ≡ Some t → (r : Reads) → IsAmong r (reads_from (s + k) 0 t t.nodes) → IsAmong r (reads_of_all s ts)
stmts_in s [] k t e r i = absurd cc
stmts_in s (x ∷ ts) zero t e r i =
    let same : x ≡ t = cc in
    let z : s + 0 ≡ s = omega arith in
    in_left r (reads_from s 0 x x.nodes) (reads_of_all (suc s) ts) (subst (λ (y : StmtModel). IsAmong r (reads_from s 0 y y.nodes)) (sym same) (subst (λ q. IsAmong r (reads_from q 0 t t.nodes)) z i))
stmts_in s (x ∷ ts) (suc k) t e r i =
    let z : s + suc k ≡ suc s + k = omega arith in
    in_right r (reads_from s 0 x x.nodes) (reads_of_all (suc s) ts) (stmts_in (suc s) ts k t e r (subst (λ q. IsAmong r (reads_from q 0 t t.nodes)) z i))

outputs_in : (m : Model) (j : ℕ) (es : List (List Affine)) (k : ℕ) (e : List Affine) → slice_get es k ≡ Some e → (r : Reads) → IsAmong r (output_at m (j + k) e) → IsAmong r (outputs_from m j es)
outputs_in m j [] k e h r i = absurd cc
outputs_in m j (x ∷ es) zero e h r i =
    let same : x ≡ e = cc in
    let z : j + 0 ≡ j = omega arith in
    in_left r (output_at m j x) (outputs_from m (suc j) es) (subst (λ (y : List Affine). IsAmong r (output_at m j y)) (sym same) (subst (λ q. IsAmong r (output_at m q e)) z i))
outputs_in m j (x ∷ es) (suc k) e h r i =
    let z : j + suc k ≡ suc j + k = omega arith in
    in_right r (output_at m j x) (outputs_from m (suc j) es) (outputs_in m (suc j) es k e h r (subst (λ q. IsAmong r (output_at m q e)) z i))

pub named_reader : (m : Model) (P : Position) (forms : CellForms) → cell_read m P ≡ Some forms → IsNamed m P → (r : Reads) × IsAmong r (readers m) × (r.position ≡ P)
named_reader m (Output o) forms e n =
    let b = map-some (slice_get m.extents o) (λ (extents : List Affine). record { array = o; subs = element_forms m.params (length extents) }) forms e in
    let r = elements_of m o b.0 in
    let here : IsAmong r (output_at m o b.0) = subst (λ t. IsAmong r (cond t (r ∷ []) [])) (sym n) (inl refl) in
    let z : o ≡ 0 + o = omega arith in
    (r, in_right r (reads_of_all 0 m.stmts) (outputs_from m 0 m.extents) (outputs_in m 0 m.extents o b.0 b.1 r (subst (λ q. IsAmong r (output_at m q b.0)) z here)), refl)
named_reader m (Node s k) forms e n =
    let b = bind-some (node_at m s k) read_of forms e in
    let c = bind-some (slice_get m.stmts s) (λ (stmt : StmtModel). slice_get stmt.nodes k) b.0 b.1 in
    let r = node_read s k c.0 b.0 forms b.2 in
    let y : k ≡ 0 + k = omega arith in
    let z : s ≡ 0 + s = omega arith in
    let i = nodes_in s 0 c.0 c.0.nodes k b.0 c.2 r.0 (subst (λ q. IsAmong r.0 (read_at s q c.0 b.0)) y r.1) in
    (r.0, in_left r.0 (reads_of_all 0 m.stmts) (outputs_from m 0 m.extents) (stmts_in 0 m.stmts s c.0 c.1 r.0 (subst (λ q. IsAmong r.0 (reads_from q 0 c.0 c.0.nodes)) z i)), r.2)
named_reader m (InitialOutput o) forms e n = absurd cc
named_reader m (InitialNode s k) forms e n = absurd cc

-- ---- and the other way round

node_named : (m : Model) (s k : ℕ) (stmt : StmtModel) (n : NodeModel) (r : Reads) → IsAmong r (read_at s k stmt n) → IsNamed m r.position
node_named m s k stmt (node.Number f) r i = absurd i
node_named m s k stmt (node.Read array subs) r (inl e) = subst (λ (y : Reads). IsNamed m y.position) (sym e) tt
node_named m s k stmt (node.Read array subs) r (inr i) = absurd i
node_named m s k stmt (node.Call symbol args) r i = absurd i

nodes_named : (m : Model) (s j : ℕ) (stmt : StmtModel) (ns : List NodeModel) (r : Reads) → IsAmong r (reads_from s j stmt ns) → IsNamed m r.position
nodes_named m s j stmt [] r i = absurd i
nodes_named m s j stmt (n ∷ ns) r i = elim (in_split r (read_at s j stmt n) (reads_from s (suc j) stmt ns) i) [ inl a ↦ node_named m s j stmt n r a | inr a ↦ nodes_named m s (suc j) stmt ns r a ]

stmts_named : (m : Model) (s : ℕ) (ts : List StmtModel) (r : Reads) → IsAmong r (reads_of_all s ts) → IsNamed m r.position
stmts_named m s [] r i = absurd i
stmts_named m s (t ∷ ts) r i = elim (in_split r (reads_from s 0 t t.nodes) (reads_of_all (suc s) ts) i) [ inl a ↦ nodes_named m s 0 t t.nodes r a | inr a ↦ stmts_named m (suc s) ts r a ]

output_named : (m : Model) (o : ℕ) (e : List Affine) (r : Reads) (b : Bool) → is_output_array m o ≡ b → IsAmong r (cond b (elements_of m o e ∷ []) []) → IsNamed m r.position
output_named m o e r true t (inl i) = subst (λ (y : Reads). IsNamed m y.position) (sym i) t
output_named m o e r true t (inr i) = absurd i
output_named m o e r false t i = absurd i

outputs_named : (m : Model) (o : ℕ) (es : List (List Affine)) (r : Reads) → IsAmong r (outputs_from m o es) → IsNamed m r.position
outputs_named m o [] r i = absurd i
outputs_named m o (e ∷ es) r i = elim (in_split r (output_at m o e) (outputs_from m (suc o) es) i) [ inl a ↦ output_named m o e r (is_output_array m o) refl a | inr a ↦ outputs_named m (suc o) es r a ]

pub reader_named : (m : Model) (r : Reads) → IsAmong r (readers m) → IsNamed m r.position
reader_named m r i = elim (in_split r (reads_of_all 0 m.stmts) (outputs_from m 0 m.extents) i) [ inl a ↦ stmts_named m 0 m.stmts r a | inr a ↦ outputs_named m 0 m.extents r a ]

-- steps lead to positions that need no name
pub initial_named : (m : Model) (P : Position) → IsNamed m (initial_of P)
initial_named m (Output o) = tt
initial_named m (Node s k) = tt
initial_named m (InitialOutput o) = tt
initial_named m (InitialNode s k) = tt

-- ---- readers and their flows

pub flow_of_reader : (m : Model) (rs : List Reads) (fs : List ReadFlow) → AreFlows m rs fs → (r : Reads) → IsAmong r rs → (f : ReadFlow) × IsAmong f fs × IsFlowOf m r f
flow_of_reader m [] fs h r i = absurd i
flow_of_reader m (q ∷ rs) [] h r i = absurd h
flow_of_reader m (q ∷ rs) (g ∷ fs) h r (inl e) = (g, inl refl, subst (λ (y : Reads). IsFlowOf m y g) (sym e) h.0)
flow_of_reader m (q ∷ rs) (g ∷ fs) h r (inr i) = let z = flow_of_reader m rs fs h.1 r i in (z.0, inr z.1, z.2)

pub reader_of_flow : (m : Model) (rs : List Reads) (fs : List ReadFlow) → AreFlows m rs fs → (f : ReadFlow) → IsAmong f fs → (r : Reads) × IsAmong r rs × IsFlowOf m r f
reader_of_flow m [] [] h f i = absurd i
reader_of_flow m [] (g ∷ fs) h f i = absurd h
reader_of_flow m (r ∷ rs) [] h f i = absurd h
reader_of_flow m (r ∷ rs) (g ∷ fs) h f (inl e) = (r, inl refl, subst (IsFlowOf m r) (sym e) h.0)
reader_of_flow m (r ∷ rs) (g ∷ fs) h f (inr i) = let z = reader_of_flow m rs fs h.1 f i in (z.0, inr z.1, z.2)

pub reader_cell : (m : Model) (r : Reads) → IsReader m r → (forms : CellForms) × (cell_read m r.position ≡ Some forms)
reader_cell m r (OfNode s k stmt array subs is e) =
    (record { array = array; subs = subs }, ap (λ (o : Option StmtModel). option_and_then read_of (option_and_then (λ (y : StmtModel). slice_get y.nodes k) o)) is ∙ ap (λ (o : Option NodeModel). option_and_then read_of o) e)
reader_cell m r (OfOutput o extents is) =
    (record { array = o; subs = element_forms m.params (length extents) }, ap (λ (y : Option (List Affine)). option_map (λ (e : List Affine). record { array = o; subs = element_forms m.params (length e) }) y) is)
