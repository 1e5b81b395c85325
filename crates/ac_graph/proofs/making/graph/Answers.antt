use Rattle.std.proofs.Common.{◌∙◌, ◌↔◌, sym, ap, subst, List, ℕ, length}
use Rattle.ac_syntax.specs.declared.tree.Position.{Position}
use Rattle.ac_forms.specs.ListMembers.{IsAmong}
use Rattle.ac_graph.specs.PairMoves.{dependences, starts_of}
use Rattle.ac_graph.specs.Ways.{IsGraph}
use Rattle.ac_graph.proofs.GraphSteps.{graph_of, recurrent_are, ranks_are, recurring_at, marked_at, falling_at, reached_from}
use Rattle.ac_graph.proofs.LawSteps.{calls_descend, edges_lead}
use Rattle.ac_graph.proofs.Stepping.{left_flow, right_flow, edges_sourced, holds_met, chains_recur}
use Rattle.ac_graph.proofs.making.graph.Goals as goal

pub all_reached-requires : goal.all_reached-requires
all_reached-requires c = c.in_ok-starts.ensures.distinct

pub recurring-requires-clause-graph : goal.recurring-requires-clause-graph
recurring-requires-clause-graph c =
    let d = dependences c.args.pair.now c.in_ok-left_edges.left_edges c.in_ok-right_edges.right_edges in
    let all = c.in_ok-pairs.ensures d (record { programs = c.in_ok-both.ensures; left = c.as_slice.ensures; right = c.as_slice-2.ensures }) in
    subst (λ (ns : List (List ℕ)). IsGraph ns) (sym c.as_slice-5.ensures) (graph_of d c.in_ok-starts.starts c.in_ok-pairs.field-0.pairs c.in_ok-pairs.field-0.next all)

pub recurring-requires-clause-wide : goal.recurring-requires-clause-wide
recurring-requires-clause-wide c =
    let d = dependences c.args.pair.now c.in_ok-left_edges.left_edges c.in_ok-right_edges.right_edges in
    let all = c.in_ok-pairs.ensures d (record { programs = c.in_ok-both.ensures; left = c.as_slice.ensures; right = c.as_slice-2.ensures }) in
    ap length c.as_slice-5.ensures ∙ all.each ∙ ap length (sym c.as_slice-4.ensures)

pub ranks-requires : goal.ranks-requires
ranks-requires c =
    let d = dependences c.args.pair.now c.in_ok-left_edges.left_edges c.in_ok-right_edges.right_edges in
    let all = c.in_ok-pairs.ensures d (record { programs = c.in_ok-both.ensures; left = c.as_slice.ensures; right = c.as_slice-2.ensures }) in
    subst (λ (ns : List (List ℕ)). IsGraph ns) (sym c.as_slice-8.ensures) (graph_of d c.in_ok-starts.starts c.in_ok-pairs.field-0.pairs c.in_ok-pairs.field-0.next all)

pub returns-clause-reachable : goal.returns-clause-reachable
returns-clause-reachable c =
    let d = dependences c.args.pair.now c.in_ok-left_edges.left_edges c.in_ok-right_edges.right_edges in
    let all = c.in_ok-pairs.ensures d (record { programs = c.in_ok-both.ensures; left = c.as_slice.ensures; right = c.as_slice-2.ensures }) in
    reached_from d c.in_ok-starts.starts (starts_of c.args.pair.now.outputs) c.in_ok-pairs.field-0.pairs c.in_ok-pairs.field-0.next all
    (subst (λ (os : List ℕ). (p : Position × Position) → IsAmong p c.in_ok-starts.starts ↔ IsAmong p (starts_of os)) c.as_slice-3.ensures c.in_ok-starts.ensures.starts)

pub returns-clause-distinct : goal.returns-clause-distinct
returns-clause-distinct c =
    let d = dependences c.args.pair.now c.in_ok-left_edges.left_edges c.in_ok-right_edges.right_edges in
    (c.in_ok-pairs.ensures d (record { programs = c.in_ok-both.ensures; left = c.as_slice.ensures; right = c.as_slice-2.ensures })).distinct

pub returns-clause-targets : goal.returns-clause-targets
returns-clause-targets c =
    let d = dependences c.args.pair.now c.in_ok-left_edges.left_edges c.in_ok-right_edges.right_edges in
    let all = c.in_ok-pairs.ensures d (record { programs = c.in_ok-both.ensures; left = c.as_slice.ensures; right = c.as_slice-2.ensures }) in
    record { each = all.each; follows = all.follows }

pub returns-clause-recurrent : goal.returns-clause-recurrent
returns-clause-recurrent c =
    let d = dependences c.args.pair.now c.in_ok-left_edges.left_edges c.in_ok-right_edges.right_edges in
    let all = c.in_ok-pairs.ensures d (record { programs = c.in_ok-both.ensures; left = c.as_slice.ensures; right = c.as_slice-2.ensures }) in
    let marks = recurring_at c.in_ok-both.both c.in_ok-pairs.field-0.pairs c.as_slice-4.result.now c.in_ok-pairs.field-0.next c.as_slice-5.result.now c.in_ok-marks.marks c.as_slice-4.ensures c.as_slice-5.ensures c.in_ok-marks.ensures in
    recurrent_are d c.in_ok-both.both c.in_ok-starts.starts c.in_ok-pairs.field-0.pairs c.in_ok-recurrent.recurrent c.in_ok-pairs.field-0.next c.in_ok-marks.marks c.in_ok-both.ensures all marks
    (marked_at c.in_ok-pairs.field-0.pairs c.as_slice-6.result.now c.in_ok-recurrent.recurrent c.in_ok-marks.marks c.as_slice-7.result.now c.as_slice-6.ensures c.as_slice-7.ensures c.in_ok-recurrent.ensures)

pub returns-clause-ranks : goal.returns-clause-ranks
returns-clause-ranks c =
    let d = dependences c.args.pair.now c.in_ok-left_edges.left_edges c.in_ok-right_edges.right_edges in
    let all = c.in_ok-pairs.ensures d (record { programs = c.in_ok-both.ensures; left = c.as_slice.ensures; right = c.as_slice-2.ensures }) in
    let marks = recurring_at c.in_ok-both.both c.in_ok-pairs.field-0.pairs c.as_slice-4.result.now c.in_ok-pairs.field-0.next c.as_slice-5.result.now c.in_ok-marks.marks c.as_slice-4.ensures c.as_slice-5.ensures c.in_ok-marks.ensures in
    let recurrent = recurrent_are d c.in_ok-both.both c.in_ok-starts.starts c.in_ok-pairs.field-0.pairs c.in_ok-recurrent.recurrent c.in_ok-pairs.field-0.next c.in_ok-marks.marks c.in_ok-both.ensures all marks
    (marked_at c.in_ok-pairs.field-0.pairs c.as_slice-6.result.now c.in_ok-recurrent.recurrent c.in_ok-marks.marks c.as_slice-7.result.now c.as_slice-6.ensures c.as_slice-7.ensures c.in_ok-recurrent.ensures) in
    ranks_are d c.in_ok-both.both c.in_ok-starts.starts c.in_ok-pairs.field-0.pairs c.in_ok-recurrent.recurrent c.in_ok-pairs.field-0.next c.in_ok-marks.marks c.in_ok-ranks.ranks c.in_ok-both.ensures all marks recurrent
    (falling_at c.in_ok-pairs.field-0.next c.as_slice-8.result.now c.in_ok-marks.marks c.as_slice-9.result.now c.in_ok-ranks.ranks c.as_slice-8.ensures c.as_slice-9.ensures c.in_ok-ranks.ensures)
    (calls_descend c.args.pair.now.left c.args.pair.now.context) (edges_lead c.args.left.now c.in_ok-left_edges.left_edges c.in_ok-left_edges.ensures) (edges_lead c.args.right.now c.in_ok-right_edges.right_edges c.in_ok-right_edges.ensures)

pub returns-clause-sources : goal.returns-clause-sources
returns-clause-sources c = λ h. (
  edges_sourced c.args.pair.now.left c.args.pair.now.context c.args.left.now c.in_ok-left_edges.left_edges (left_flow c.args.pair.now c.args.left.now c.args.right.now h) c.in_ok-left_edges.ensures,
  edges_sourced c.args.pair.now.right c.args.pair.now.context c.args.right.now c.in_ok-right_edges.right_edges (right_flow c.args.pair.now c.args.left.now c.args.right.now h) c.in_ok-right_edges.ensures,
)

pub returns-clause-met : goal.returns-clause-met
returns-clause-met c = λ h o.
    holds_met c.args.pair.now c.args.left.now c.args.right.now c.in_ok-left_edges.left_edges c.in_ok-right_edges.right_edges c.args.pair.now.outputs c.in_ok-pairs.field-0.pairs
    (record { flows = h; left_are = c.in_ok-left_edges.ensures; right_are = c.in_ok-right_edges.ensures }) o (returns-clause-reachable c)

pub returns-clause-chains : goal.returns-clause-chains
returns-clause-chains c = λ h o.
    chains_recur c.args.pair.now c.args.left.now c.args.right.now c.in_ok-left_edges.left_edges c.in_ok-right_edges.right_edges c.args.pair.now.outputs
    (record { flows = h; left_are = c.in_ok-left_edges.ensures; right_are = c.in_ok-right_edges.ensures }) o c.in_ok-pairs.field-0.pairs c.in_ok-recurrent.recurrent c.in_ok-ranks.ranks (returns-clause-ranks c)
