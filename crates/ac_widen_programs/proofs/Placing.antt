-- What stands at coordinates by a model, stands there in the execution of its program.
use Rattle.std.proofs.Common.{◌≡◌, ℕ, ◌<◌, ℤ, List, length, Some, Option, refl, sym, ap, ◌∙◌, subst, arith}
use Rattle.std.specs.Prelude.{slice_get, option_and_then}
use Rattle.std.proofs.lemmas.Option.{slice_get_within}
use Rattle.ac_forms.specs.Rows.{Meets}
use Rattle.ac_syntax.specs.ReadyPrograms.{ReadyProgram, FitParts}
use Rattle.ac_syntax.specs.Spot.{Spot, AtEnd, AtNode, AtStart}
use Rattle.ac_syntax.specs.Where.{element}
use Rattle.ac_syntax.specs.declared.tree.Cond.{Cond}
use Rattle.ac_syntax.specs.declared.tree.Position.{Position}
use Rattle.ac_syntax.specs.declared.tree.Position.TheVariants.{Output, Node, InitialOutput, InitialNode}
use Rattle.ac_syntax.specs.declared.tree.Program.{Program}
use Rattle.ac_syntax.proofs.LastWriters.{stands_contains}
use Rattle.ac_poly.specs.Model.{model_of}
use Rattle.ac_poly.specs.declared.types.Model.{Model}
use Rattle.ac_poly.specs.declared.types.NodeModel.{NodeModel}
use Rattle.ac_poly.specs.declared.types.NodeModel.TheVariants.{Read}
use Rattle.ac_poly.specs.declared.types.StmtModel.{StmtModel}
use Rattle.ac_poly.proofs.Elements.{has_elements}
use Rattle.ac_poly.proofs.Whole.{has_context, has_nodes}
use Rattle.ac_claims_paths.specs.Executions.{At, execution}
use Rattle.ac_claims_paths.specs.ModelPositions.{cell_read, read_of}
use Rattle.ac_claims_paths.proofs.Described.{models_describe}
use Rattle.ac_claims_paths.proofs.Heres.{reading}
use Rattle.ac_graph.proofs.Standing.{node_there}
use Rattle.ac_graph.proofs.Stepping.{valuations_are_compared}
use Rattle.ac_widen_programs.specs.PositionInstances.{IsNode, IsReadNode, IsHere}
use Rattle.ac_widen_programs.specs.PairSteps.{PositionsStand}

-- a node of an instance
node_here : (p : Program) (context : Cond) → ReadyProgram p → FitParts (length p.params) 0 context.parts → (params : List ℤ) → length params ≡ length p.params → (s k : ℕ) (at : List ℤ) → IsNode (model_of p context) params s k at
    → (x : Spot) × At (execution p (model_of p context) params) (Node s k) at x
unfolding At
node_here p context ready fit params long s k at h =
    let d = models_describe p context params ready fit long in
    let i = d.instance s h.stmt at h.instance.is h.instance.count h.instance.piece in
    let here : slice_get (model_of p context).stmts i.0.entry.stmt ≡ Some h.stmt = ap (slice_get (model_of p context).stmts) i.1.stmt ∙ h.instance.is in
    let n = (has_nodes p context ready params i.0.entry h.stmt long here (stands_contains i.1.stands)).0 in
    let w = h.within in
    let v = node_there i.0.entry.value k (omega (arith, n, w)) in
    (AtNode i.0 v.0, (i.0, i.1, v.0, v.1, refl))

-- the cell of a read
read_is : (m : Model) (params : List ℤ) (s k : ℕ) (at : List ℤ) (h : IsReadNode m params s k at) → cell_read m (Node s k) ≡ Some (record { array = h.array; subs = h.subs })
read_is m params s k at h =
    ap (λ (o : Option StmtModel). option_and_then read_of (option_and_then (λ (st : StmtModel). slice_get st.nodes k) o)) h.instance.is ∙ ap (λ (o : Option NodeModel). option_and_then read_of o) h.read

within_nodes : (nodes : List NodeModel) (k : ℕ) (n : NodeModel) → slice_get nodes k ≡ Some n → k < length nodes
within_nodes nodes k n e = slice_get_within nodes k n e

pub spot_here : (p : Program) (context : Cond) → ReadyProgram p → FitParts (length p.params) 0 context.parts → (params : List ℤ) → length params ≡ length p.params → (P : Position) (at : List ℤ) → IsHere (model_of p context) params P at
    → (x : Spot) × At (execution p (model_of p context) params) P at x
unfolding At
spot_here p context ready fit params long (Output o) at h =
    let z = (has_elements p context ready params at o h.extents long h.is).0 (h.count, h.within) in
    (AtEnd (element o at), ((h.extents, h.is, z), refl))
spot_here p context ready fit params long (Node s k) at h = node_here p context ready fit params long s k at h
spot_here p context ready fit params long (InitialOutput o) at h =
    let z = (has_elements p context ready params at o h.extents long h.is).0 (h.count, h.within) in
    (AtStart (element o at), ((h.extents, h.is, z), refl))
spot_here p context ready fit params long (InitialNode s k) at h =
    let m = model_of p context in
    let x = execution p m params in
    let d = models_describe p context params ready fit long in
    let n = node_here p context ready fit params long s k at (record { stmt = h.stmt; instance = h.instance; within = within_nodes h.stmt.nodes k (Read h.array h.subs) h.read }) in
    let rd = reading m params x d (Node s k) at (record { array = h.array; subs = h.subs }) n.0 (read_is m params s k at h) n.1 in
    (AtStart rd.read, rd.initial)

-- both positions at their coordinates
pub seen_there : PositionsStand
seen_there pair left right paired models params long meets P at Q bt h k =
    let l : length params ≡ length pair.left.params = long ∙ ap (λ (m : Model). m.params) models.left_is in
    let r : length params ≡ length pair.right.params = l ∙ sym paired.params in
    let met = subst (λ (m : Model). Meets m.context params) models.left_is meets in
    let fit = subst (λ (n : ℕ). FitParts n 0 pair.context.parts) (sym paired.params) paired.context in
    let a = spot_here pair.left pair.context paired.left paired.context params l P at (subst (λ (m : Model). IsHere m params P at) models.left_is h) in
    let b = spot_here pair.right pair.context paired.right fit params r Q bt (subst (λ (m : Model). IsHere m params Q bt) models.right_is k) in
    record {
      compared = valuations_are_compared pair params paired (record { each = l; context = (has_context pair.left pair.context paired.context params l).0 met });
      a = record { position = P; at = at; spot = a.0; here = a.1 };
      b = record { position = Q; at = bt; spot = b.0; here = b.1 };
      left_is = refl;
      left_at_is = refl;
      right_is = refl;
      right_at_is = refl;
    }
