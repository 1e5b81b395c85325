-- What the loops over reads and outputs keep.
use Rattle.std.proofs.Common.{◌≡◌, inl, inr, ℕ, zero, suc, ◌+◌, ◌<◌, ◌≤◌, List, [], ◌∷◌, ◌++◌, take, length, get_or, sym, ap, ◌∙◌, subst, arith, append_assoc, append-nil}
use Rattle.std.proofs.lemmas.List.{take_more, take_all, length-take-le}
use Rattle.ac_forms.specs.Affine.{Affine}
use Rattle.ac_poly.specs.declared.types.Model.{Model}
use Rattle.ac_poly.specs.declared.types.NodeModel.{NodeModel}
use Rattle.ac_poly.specs.declared.types.StmtModel.{StmtModel}
use Rattle.ac_forms.specs.ListMembers.{IsAmong}
use Rattle.ac_claims_paths.proofs.Branches.{in_left, in_right}
use Rattle.ac_flow.specs.FlowCases.{Reads}
use Rattle.ac_flow.specs.Readers.{read_at, reads_from, reads_of_all, output_at, outputs_from, AreFlows, Grows, StopsAmong}
use Rattle.ac_flow.specs.declared.types.FlowStop.{FlowStop}
use Rattle.ac_flow.specs.declared.types.ReadFlow.{ReadFlow}

flows_append : (m : Model) (rs qs : List Reads) (fs gs : List ReadFlow) → AreFlows m rs fs → AreFlows m qs gs → AreFlows m (rs ++ qs) (fs ++ gs)
flows_append m [] qs [] gs a b = b
flows_append m [] qs (f ∷ fs) gs a b = absurd a
flows_append m (r ∷ rs) qs [] gs a b = absurd a
flows_append m (r ∷ rs) qs (f ∷ fs) gs a b = (a.0, flows_append m rs qs fs gs a.1 b)

pub grows_none : (m : Model) (old new : List ReadFlow) → new ≡ old → Grows m [] old new
grows_none m old new e = record { more = []; is = e ∙ sym (append-nil old); flows = tt }

pub grows_both : (m : Model) (rs qs : List Reads) (old out new : List ReadFlow) → Grows m rs old out → Grows m qs out new → Grows m (rs ++ qs) old new
grows_both m rs qs old out new a b = record {
  more = a.more ++ b.more;
  is = b.is ∙ ap (λ (x : List ReadFlow). x ++ b.more) a.is ∙ append_assoc old a.more b.more;
  flows = flows_append m rs qs a.more b.more a.flows b.flows;
}

pub flows_of : (m : Model) (rs qs : List Reads) (old out new : List ReadFlow) → old ≡ [] → Grows m rs old out → Grows m qs out new → AreFlows m (rs ++ qs) new
flows_of m rs qs old out new e a b =
    let g = grows_both m rs qs old out new a b in
    let is : new ≡ g.more = g.is ∙ ap (λ (x : List ReadFlow). x ++ g.more) e in
    subst (AreFlows m (rs ++ qs)) (sym is) g.flows

pub stops_more : (budget : ℕ) (m : Model) (rs qs : List Reads) (e : FlowStop) → ((r : Reads) → IsAmong r rs → IsAmong r qs) → StopsAmong budget m rs e → StopsAmong budget m qs e
stops_more budget m rs qs e f h = record { why = elim h.why [ inl x ↦ inl (x.0, f x.0 x.1, x.2) | inr x ↦ inr x ] }

-- ---- the nodes of an assignment

nodes_snoc : (s j : ℕ) (stmt : StmtModel) (ns : List NodeModel) (n : NodeModel) → reads_from s j stmt (ns ++ n ∷ []) ≡ reads_from s j stmt ns ++ read_at s (j + length ns) stmt n
nodes_snoc s j stmt [] n = let z : j ≡ j + 0 = omega arith in append-nil (read_at s j stmt n) ∙ ap (λ i. read_at s i stmt n) z
nodes_snoc s j stmt (x ∷ ns) n =
    let z : suc j + length ns ≡ j + suc (length ns) = omega arith in
    ap (λ y. read_at s j stmt x ++ y) (nodes_snoc s (suc j) stmt ns n ∙ ap (λ i. reads_from s (suc j) stmt ns ++ read_at s i stmt n) z) ∙ sym (append_assoc (read_at s j stmt x) (reads_from s (suc j) stmt ns) (read_at s (j + suc (length ns)) stmt n))

pub record NodesSoFar (m : Model) (s : ℕ) (stmt : StmtModel) (nodes : List NodeModel) (old : List ReadFlow) (k : ℕ) (out : List ReadFlow) : Type 0 where
  pub grows : Grows m (reads_from s 0 stmt (take k nodes)) old out

pub nodes_next : (m : Model) (s : ℕ) (stmt : StmtModel) (nodes : List NodeModel) (old out new : List ReadFlow) (k : ℕ) (node : NodeModel) → NodesSoFar m s stmt nodes old k out → k < length nodes → node ≡ get_or nodes k node → Grows m (read_at s k stmt node) out new → NodesSoFar m s stmt nodes old (k + 1) new
nodes_next m s stmt nodes old out new k node h l e g = record {
  grows = subst (λ (rs : List Reads). Grows m rs old new) same (grows_both m (reads_from s 0 stmt (take k nodes)) (read_at s k stmt node) old out new h.grows g);
}
  where
    same : reads_from s 0 stmt (take k nodes) ++ read_at s k stmt node ≡ reads_from s 0 stmt (take (k + 1) nodes)
    same = ap (λ i. reads_from s 0 stmt (take k nodes) ++ read_at s i stmt node) (let z : k ≡ 0 + length (take k nodes) = omega (arith, length-take-le k nodes (omega (arith, l))) in z) ∙ sym (nodes_snoc s 0 stmt (take k nodes) node) ∙ (let t : take k nodes ++ node ∷ [] ≡ take (k + 1) nodes = sym (rw e (take_more nodes k node l)) in ap (reads_from s 0 stmt) t)

pub nodes_end : (m : Model) (s : ℕ) (stmt : StmtModel) (nodes : List NodeModel) (old out : List ReadFlow) (k : ℕ) → NodesSoFar m s stmt nodes old k out → length nodes ≤ k → Grows m (reads_from s 0 stmt nodes) old out
nodes_end m s stmt nodes old out k h l = subst (λ (ns : List NodeModel). Grows m (reads_from s 0 stmt ns) old out) (take_all k nodes l) h.grows

node_in : (s j : ℕ) (stmt : StmtModel) (nodes : List NodeModel) (k : ℕ) (node : NodeModel) → k < length nodes → node ≡ get_or nodes k node → (r : Reads) → IsAmong r (read_at s (j + k) stmt node) → IsAmong r (reads_from s j stmt nodes)
node_in s j stmt [] k node l e r h = absurd (omega (arith, l))
node_in s j stmt (n ∷ ns) zero node l e r h =
    let z : j + 0 ≡ j = omega arith in
    in_left r (read_at s j stmt n) (reads_from s (suc j) stmt ns) (subst (λ (x : NodeModel). IsAmong r (read_at s j stmt x)) e (subst (λ i. IsAmong r (read_at s i stmt node)) z h))
node_in s j stmt (n ∷ ns) (suc k) node l e r h =
    let z : j + suc k ≡ suc j + k = omega arith in
    in_right r (read_at s j stmt n) (reads_from s (suc j) stmt ns) (node_in s (suc j) stmt ns k node (omega (arith, l)) e r (subst (λ i. IsAmong r (read_at s i stmt node)) z h))

pub node_stops : (budget : ℕ) (m : Model) (s : ℕ) (stmt : StmtModel) (nodes : List NodeModel) (k : ℕ) (node : NodeModel) (e : FlowStop) → k < length nodes → node ≡ get_or nodes k node → StopsAmong budget m (read_at s k stmt node) e → StopsAmong budget m (reads_from s 0 stmt nodes) e
node_stops budget m s stmt nodes k node x l e h = stops_more budget m (read_at s k stmt node) (reads_from s 0 stmt nodes) x (λ r i. node_in s 0 stmt nodes k node l e r (let z : k ≡ 0 + k = omega arith in subst (λ j. IsAmong r (read_at s j stmt node)) z i)) h

-- ---- the assignments

stmts_snoc : (s : ℕ) (qs : List StmtModel) (q : StmtModel) → reads_of_all s (qs ++ q ∷ []) ≡ reads_of_all s qs ++ reads_from (s + length qs) 0 q q.nodes
stmts_snoc s [] q = let z : s ≡ s + 0 = omega arith in append-nil (reads_from s 0 q q.nodes) ∙ ap (λ i. reads_from i 0 q q.nodes) z
stmts_snoc s (x ∷ qs) q =
    let z : suc s + length qs ≡ s + suc (length qs) = omega arith in
    ap (λ y. reads_from s 0 x x.nodes ++ y) (stmts_snoc (suc s) qs q ∙ ap (λ i. reads_of_all (suc s) qs ++ reads_from i 0 q q.nodes) z) ∙ sym (append_assoc (reads_from s 0 x x.nodes) (reads_of_all (suc s) qs) (reads_from (s + suc (length qs)) 0 q q.nodes))

pub record StmtsSoFar (m : Model) (stmts : List StmtModel) (old : List ReadFlow) (s : ℕ) (out : List ReadFlow) : Type 0 where
  pub grows : Grows m (reads_of_all 0 (take s stmts)) old out

pub stmts_next : (m : Model) (stmts : List StmtModel) (old out new : List ReadFlow) (s : ℕ) (stmt : StmtModel) → StmtsSoFar m stmts old s out → s < length stmts → stmt ≡ get_or stmts s stmt → Grows m (reads_from s 0 stmt stmt.nodes) out new → StmtsSoFar m stmts old (s + 1) new
stmts_next m stmts old out new s stmt h l e g = record {
  grows = subst (λ (rs : List Reads). Grows m rs old new) same (grows_both m (reads_of_all 0 (take s stmts)) (reads_from s 0 stmt stmt.nodes) old out new h.grows g);
}
  where
    same : reads_of_all 0 (take s stmts) ++ reads_from s 0 stmt stmt.nodes ≡ reads_of_all 0 (take (s + 1) stmts)
    same = ap (λ i. reads_of_all 0 (take s stmts) ++ reads_from i 0 stmt stmt.nodes) (let z : s ≡ 0 + length (take s stmts) = omega (arith, length-take-le s stmts (omega (arith, l))) in z) ∙ sym (stmts_snoc 0 (take s stmts) stmt) ∙ (let t : take s stmts ++ stmt ∷ [] ≡ take (s + 1) stmts = sym (rw e (take_more stmts s stmt l)) in ap (reads_of_all 0) t)

pub stmts_end : (m : Model) (stmts : List StmtModel) (old out : List ReadFlow) (s : ℕ) → StmtsSoFar m stmts old s out → length stmts ≤ s → Grows m (reads_of_all 0 stmts) old out
stmts_end m stmts old out s h l = subst (λ (qs : List StmtModel). Grows m (reads_of_all 0 qs) old out) (take_all s stmts l) h.grows

stmt_in : (s : ℕ) (stmts : List StmtModel) (k : ℕ) (stmt : StmtModel) → k < length stmts → stmt ≡ get_or stmts k stmt → (r : Reads) → IsAmong r (reads_from (s + k) 0 stmt stmt.nodes) → IsAmong r (reads_of_all s stmts)
stmt_in s [] k stmt l e r h = absurd (omega (arith, l))
stmt_in s (q ∷ qs) zero stmt l e r h =
    let z : s + 0 ≡ s = omega arith in
    in_left r (reads_from s 0 q q.nodes) (reads_of_all (suc s) qs) (subst (λ (x : StmtModel). IsAmong r (reads_from s 0 x x.nodes)) e (subst (λ i. IsAmong r (reads_from i 0 stmt stmt.nodes)) z h))
stmt_in s (q ∷ qs) (suc k) stmt l e r h =
    let z : s + suc k ≡ suc s + k = omega arith in
    in_right r (reads_from s 0 q q.nodes) (reads_of_all (suc s) qs) (stmt_in (suc s) qs k stmt (omega (arith, l)) e r (subst (λ i. IsAmong r (reads_from i 0 stmt stmt.nodes)) z h))

pub stmt_stops : (budget : ℕ) (m : Model) (stmts : List StmtModel) (s : ℕ) (stmt : StmtModel) (e : FlowStop) → s < length stmts → stmt ≡ get_or stmts s stmt → StopsAmong budget m (reads_from s 0 stmt stmt.nodes) e → StopsAmong budget m (reads_of_all 0 stmts) e
stmt_stops budget m stmts s stmt x l e h = stops_more budget m (reads_from s 0 stmt stmt.nodes) (reads_of_all 0 stmts) x (λ r i. stmt_in 0 stmts s stmt l e r (let z : s ≡ 0 + s = omega arith in subst (λ j. IsAmong r (reads_from j 0 stmt stmt.nodes)) z i)) h

-- ---- the outputs

outputs_snoc : (m : Model) (o : ℕ) (es : List (List Affine)) (e : List Affine) → outputs_from m o (es ++ e ∷ []) ≡ outputs_from m o es ++ output_at m (o + length es) e
outputs_snoc m o [] e = let z : o ≡ o + 0 = omega arith in append-nil (output_at m o e) ∙ ap (λ i. output_at m i e) z
outputs_snoc m o (x ∷ es) e =
    let z : suc o + length es ≡ o + suc (length es) = omega arith in
    ap (λ y. output_at m o x ++ y) (outputs_snoc m (suc o) es e ∙ ap (λ i. outputs_from m (suc o) es ++ output_at m i e) z) ∙ sym (append_assoc (output_at m o x) (outputs_from m (suc o) es) (output_at m (o + suc (length es)) e))

pub record OutputsSoFar (m : Model) (es : List (List Affine)) (old : List ReadFlow) (o : ℕ) (out : List ReadFlow) : Type 0 where
  pub grows : Grows m (outputs_from m 0 (take o es)) old out

pub outputs_next : (m : Model) (es : List (List Affine)) (old out new : List ReadFlow) (o : ℕ) (extents given : List Affine) → OutputsSoFar m es old o out → o < length es → extents ≡ get_or es o extents → given ≡ extents → Grows m (output_at m o given) out new → OutputsSoFar m es old (o + 1) new
outputs_next m es old out new o extents given h l e f g = record {
  grows = subst (λ (rs : List Reads). Grows m rs old new) same (grows_both m (outputs_from m 0 (take o es)) (output_at m o extents) old out new h.grows (subst (λ (x : List Affine). Grows m (output_at m o x) out new) f g));
}
  where
    same : outputs_from m 0 (take o es) ++ output_at m o extents ≡ outputs_from m 0 (take (o + 1) es)
    same = ap (λ i. outputs_from m 0 (take o es) ++ output_at m i extents) (let z : o ≡ 0 + length (take o es) = omega (arith, length-take-le o es (omega (arith, l))) in z) ∙ sym (outputs_snoc m 0 (take o es) extents) ∙ (let t : take o es ++ extents ∷ [] ≡ take (o + 1) es = sym (rw e (take_more es o extents l)) in ap (outputs_from m 0) t)

pub outputs_end : (m : Model) (es : List (List Affine)) (old out : List ReadFlow) (o : ℕ) → OutputsSoFar m es old o out → length es ≤ o → Grows m (outputs_from m 0 es) old out
outputs_end m es old out o h l = subst (λ (x : List (List Affine)). Grows m (outputs_from m 0 x) old out) (take_all o es l) h.grows

output_in : (m : Model) (o : ℕ) (es : List (List Affine)) (k : ℕ) (e : List Affine) → k < length es → e ≡ get_or es k e → (r : Reads) → IsAmong r (output_at m (o + k) e) → IsAmong r (outputs_from m o es)
output_in m o [] k e l f r h = absurd (omega (arith, l))
output_in m o (q ∷ qs) zero e l f r h =
    let z : o + 0 ≡ o = omega arith in
    in_left r (output_at m o q) (outputs_from m (suc o) qs) (subst (λ (x : List Affine). IsAmong r (output_at m o x)) f (subst (λ i. IsAmong r (output_at m i e)) z h))
output_in m o (q ∷ qs) (suc k) e l f r h =
    let z : o + suc k ≡ suc o + k = omega arith in
    in_right r (output_at m o q) (outputs_from m (suc o) qs) (output_in m (suc o) qs k e (omega (arith, l)) f r (subst (λ i. IsAmong r (output_at m i e)) z h))

pub output_stops : (budget : ℕ) (m : Model) (es : List (List Affine)) (o : ℕ) (extents given : List Affine) (e : FlowStop) → o < length es → extents ≡ get_or es o extents → given ≡ extents → StopsAmong budget m (output_at m o given) e → StopsAmong budget m (outputs_from m 0 es) e
output_stops budget m es o extents given x l e f h =
    stops_more budget m (output_at m o extents) (outputs_from m 0 es) x (λ r i. output_in m 0 es o extents l e r (let z : o ≡ 0 + o = omega arith in subst (λ j. IsAmong r (output_at m j extents)) z i)) (subst (λ (y : List Affine). StopsAmong budget m (output_at m o y) x) f h)
