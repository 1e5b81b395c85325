use Rattle.std.proofs.Common.{subst, List}
use Rattle.ac_syntax.specs.declared.tree.Position.{Position}
use Rattle.ac_graph.specs.PairMoves.{dependences, start_of, AreReached}
use Rattle.ac_graph.proofs.SiteSteps.{distinct_one, first_of}
use Rattle.ac_graph.proofs.making.reachable_from.Goals as goal

pub all_reached-requires : goal.all_reached-requires
all_reached-requires c = distinct_one c.in_ok-starts.starts (start_of c.args.output) c.in_ok-starts.ensures

pub returns-clause-reached : goal.returns-clause-reached
returns-clause-reached c =
    let d = dependences c.args.pair.now c.args.graph.now.left_edges c.args.graph.now.right_edges in
    let all = c.in_ok-pairs.ensures d (record { programs = c.in_ok-both.ensures; left = c.as_slice.ensures; right = c.as_slice-2.ensures }) in
    subst (λ (ss : List (Position × Position)). AreReached d ss c.in_ok-pairs.field-0.pairs) c.in_ok-starts.ensures all.reached

pub returns-clause-distinct : goal.returns-clause-distinct
returns-clause-distinct c =
    let d = dependences c.args.pair.now c.args.graph.now.left_edges c.args.graph.now.right_edges in
    (c.in_ok-pairs.ensures d (record { programs = c.in_ok-both.ensures; left = c.as_slice.ensures; right = c.as_slice-2.ensures })).distinct

pub returns-clause-first : goal.returns-clause-first
returns-clause-first c =
    let d = dependences c.args.pair.now c.args.graph.now.left_edges c.args.graph.now.right_edges in
    let all = c.in_ok-pairs.ensures d (record { programs = c.in_ok-both.ensures; left = c.as_slice.ensures; right = c.as_slice-2.ensures }) in
    first_of c.in_ok-starts.starts all.more c.in_ok-pairs.field-0.pairs (start_of c.args.output) c.in_ok-starts.ensures all.is
