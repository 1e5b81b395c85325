-- What stands at a placed position, by the model.
use Rattle.std.proofs.Common.{◌≡◌, ℕ, ◌+◌, ℤ, List, map, length, Some, None, refl, sym, ap, ◌∙◌, subst}
use Rattle.std.specs.Prelude.{slice_get}
use Rattle.ac_syntax.specs.ValueNodes.{node_of}
use Rattle.ac_syntax.specs.Spot.{Spot, AtNode, Reads as SpotReads, an_output}
use Rattle.ac_syntax.specs.Where.{element}
use Rattle.ac_syntax.specs.declared.tree.Position.{Position}
use Rattle.ac_syntax.specs.declared.tree.Position.TheVariants.{Output, Node, InitialOutput, InitialNode}
use Rattle.ac_syntax.specs.declared.tree.Value.{Value}
use Rattle.ac_syntax.specs.declared.tree.Value.TheVariants.{Number, Access, Call'}
use Rattle.ac_poly.specs.ModelNodes.{roots}
use Rattle.ac_poly.specs.declared.types.Model.{Model}
use Rattle.ac_poly.specs.declared.types.NodeModel.{NodeModel}
use Rattle.ac_poly.specs.declared.types.NodeModel.TheVariants.{Number as Constant, Read, Call as Applied}
use Rattle.ac_base.proofs.Options.{bind-some, some-is}
use Rattle.ac_claims_paths.specs.Executions.{Execution, At, Describes}
use Rattle.ac_claims_paths.specs.Pairs.{Placed, IsReader as Reads, CallPlace}
use Rattle.ac_claims_paths.specs.ModelPositions.{CallAt, call_at, call_of, node_at}
use Rattle.ac_claims_paths.proofs.Heres.{node_model, reading}
use Rattle.ac_graph.specs.PairMoves.{IsReader}
use Rattle.ac_widen_programs.specs.PairSetting.{coordinate_count, extent_count, counter_count}
use Rattle.ac_claims_paths.proofs.Stepping.{CallIs, call_place}

-- as many coordinates as the model gives the position
pub at_width : (m : Model) (params : List ℤ) (x : Execution) → Describes m params x → (P : Position) (at : List ℤ) (s : Spot) → At x P at s → length at ≡ coordinate_count m P
unfolding At
at_width m params x d (Output o) at s h = let e = d.elements o at h.0 in e.count ∙ ap extent_count (sym e.is)
at_width m params x d (Node k j) at s (w, i, v, n, is) =
    let e = d.entry w i.stands in ap length (sym i.coords) ∙ e.width ∙ ap counter_count (sym e.is) ∙ ap (λ (n : ℕ). counter_count (slice_get m.stmts n)) i.stmt
at_width m params x d (InitialOutput o) at s h = let e = d.elements o at h.0 in e.count ∙ ap extent_count (sym e.is)
at_width m params x d (InitialNode k j) at s (w, i, a, b, c, n, is) =
    let e = d.entry w i.stands in ap length (sym i.coords) ∙ e.width ∙ ap counter_count (sym e.is) ∙ ap (λ (n : ℕ). counter_count (slice_get m.stmts n)) i.stmt

-- a read or an output of the model is one of the program
pub reads_there : (m : Model) (params : List ℤ) (x : Execution) → Describes m params x → (a : Placed x) (P : Position) → a.position ≡ P → IsReader m P → Reads x a
reads_there m params x d a P p r =
    let rd = reading m params x d P a.at r.0 a.spot r.1 (subst (λ (z : Position). At x z a.at a.spot) p a.here) in
    (rd.read, rd.before, rd.reads)

pub call_there : (m : Model) (params : List ℤ) (x : Execution) → Describes m params x → (a : Placed x) (P : Position) (call : CallAt) → a.position ≡ P → call_at m P ≡ Some call → CallIs x a call
call_there m params x d a P call p e = call_place m params x d a P a.at call p e (subst (λ (z : Position). At x z a.at a.spot) p a.here)

-- an output of an execution reads
pub output_reads : (x : Execution) (a : Placed x) (o : ℕ) → a.position ≡ Output o → Reads x a
unfolding At
output_reads x a o p = by (subst (λ (z : Position). At x z a.at a.spot) p a.here)
  where
    by : At x (Output o) a.at a.spot → Reads x a
    by h = (element o a.at, x.trace, subst (λ (s : Spot). SpotReads x.trace s (element o a.at) x.trace) (sym h.1) (an_output (element o a.at)))
