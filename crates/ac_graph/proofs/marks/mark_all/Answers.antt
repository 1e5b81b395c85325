use Rattle.std.proofs.Common.{◌≡◌, ◌∙◌, get_or, false, true, rules, length}
use Rattle.ac_graph.proofs.MarkSteps.{below_of, added_start, added_new, added_known, added_end}
use Rattle.ac_graph.proofs.marks.mark_all.Goals.{then-not-marks-node+in_ok-push, else-not-marks-node}
use Rattle.ac_graph.proofs.marks.mark_all.Goals as goal

pub bounds-marks-node : goal.bounds-marks-node
bounds-marks-node c = below_of (length c.args.marks.now) c.args.nodes.now c.loop-node.marks c.loop-node.node-index c.requires.below c.loop-node-test.true (search rules)

pub bounds-marks-node-then-not-marks-node : goal.bounds-marks-node-then-not-marks-node
bounds-marks-node-then-not-marks-node c = below_of (length c.args.marks.now) c.args.nodes.now c.loop-node.marks c.loop-node.node-index c.requires.below c.loop-node-test.true (search rules)

pub loop-node-preserved : goal.loop-node-preserved
loop-node-preserved c =
    let b = below_of (length c.args.marks.now) c.args.nodes.now c.loop-node.marks c.loop-node.node-index c.requires.below c.loop-node-test.true (search rules) in
    elim c.if-not-marks-node.branch [
      | then-not-marks-node+in_ok-push w ↦ added_new c.args.nodes.now c.args.found.now c.loop-node.found c.loop-node.marks c.loop-node.node-index c.if-not-marks-node.found c.if-not-marks-node.marks c.loop-node.invariant c.loop-node-test.true b
          (w.found-is ∙ w.in_ok-push.ensures.ok) w.marks-is
      | else-not-marks-node w ↦
          let m : get_or c.loop-node.marks (get_or c.args.nodes.now c.loop-node.node-index 0) false ≡ true = search rules in
          let f = w.found-is in let g = w.marks-is in
          let h = added_known c.args.nodes.now c.args.found.now c.loop-node.found c.loop-node.marks c.loop-node.node-index c.loop-node.invariant c.loop-node-test.true b m in
          rw (w.found-is, w.marks-is) h
    ]

pub loop-node-init : goal.loop-node-init
loop-node-init c = added_start c.args.nodes.now c.args.found.now c.args.marks.now c.requires.matched

pub returns : goal.returns
returns c = added_end c.args.nodes.now c.args.found.now c.loop-node.found c.loop-node.marks c.loop-node.node-index c.loop-node.invariant (search rules)
