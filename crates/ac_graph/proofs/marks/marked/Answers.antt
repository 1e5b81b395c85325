use Rattle.std.proofs.Common.{◌∙◌, sym, ap, subst, ℕ, List, Bool, length, arith}
use Rattle.ac_graph.specs.NodeMarks.{AreMatched}
use Rattle.ac_graph.proofs.MarkSteps.{nodes_fit, length_unmarked, unmarked_matched, item_at, found_below, spreading_begin, spreading_next, spreading_end}
use Rattle.ac_graph.proofs.marks.marked.Goals as goal

pub mark_all-requires-clause-below : goal.mark_all-requires-clause-below
mark_all-requires-clause-below c =
    nodes_fit c.args.next.now c.args.from c.following.result.now c.in_ok-marks.marks.items c.as_mut_slice.result.now c.requires.graph c.following.ensures c.as_mut_slice.ensures.value (length_unmarked (length c.args.next.now) c.in_ok-marks.marks.items c.in_ok-marks.ensures)

pub mark_all-requires-clause-matched : goal.mark_all-requires-clause-matched
mark_all-requires-clause-matched c =
    subst (λ (f : List ℕ). AreMatched c.as_mut_slice.result.now f) (sym c.new-found.ensures) (unmarked_matched (length c.args.next.now) c.as_mut_slice.result.now (c.as_mut_slice.ensures.value ∙ c.in_ok-marks.ensures))

pub loop-at-init : goal.loop-at-init
loop-at-init c =
    spreading_begin c.args.next.now c.args.from c.in_ok-marks.marks.len c.following.result.now c.new-found.result c.mark_all.new.found c.in_ok-marks.marks.items c.as_mut_slice.result.now c.mark_all.new.marks
    c.following.ensures c.new-found.ensures c.as_mut_slice.ensures.value c.in_ok-marks.ensures c.as_mut_slice.ensures.len (omega arith) c.in_ok-mark_all.ensures

pub returns-in-None : goal.returns-in-None
returns-in-None c = spreading_end c.args.next.now c.args.from c.loop-at.at c.loop-at.marks.items c.loop-at.found c.loop-at.invariant (let l = c.in-None.ensures.lookup.3 in let e = ap length c.as_slice.ensures in omega arith)

pub following-requires-in-Some : goal.following-requires-in-Some
following-requires-in-Some c =
    found_below c.args.next.now c.args.from c.loop-at.at c.loop-at.marks.items c.loop-at.found c.in-Some.node.now c.loop-at.at c.requires.graph c.loop-at.invariant
    (item_at c.as_slice.result.now c.loop-at.found c.loop-at.at c.in-Some.node.now c.as_slice.ensures c.in-Some.ensures.lookup.3.0 c.in-Some.ensures.lookup.1)

pub mark_all-requires-in-Some-clause-below : goal.mark_all-requires-in-Some-clause-below
mark_all-requires-in-Some-clause-below c =
    nodes_fit c.args.next.now c.in-Some.node.now c.following-in-Some.result.now c.loop-at.marks.items c.as_mut_slice-in-Some.result.now c.requires.graph c.following-in-Some.ensures c.as_mut_slice-in-Some.ensures.value c.loop-at.invariant.wide

pub mark_all-requires-in-Some-clause-matched : goal.mark_all-requires-in-Some-clause-matched
mark_all-requires-in-Some-clause-matched c = subst (λ (ms : List Bool). AreMatched ms c.loop-at.found) (sym c.as_mut_slice-in-Some.ensures.value) c.loop-at.invariant.matched

pub loop-at-preserved : goal.loop-at-preserved
loop-at-preserved c =
    spreading_next c.args.next.now c.args.from c.loop-at.at c.loop-at.marks.len c.in-Some.node.now c.following-in-Some.result.now c.loop-at.found c.mark_all-in-Some.new.found c.loop-at.marks.items c.as_mut_slice-in-Some.result.now c.mark_all-in-Some.new.marks
    c.loop-at.invariant (item_at c.as_slice.result.now c.loop-at.found c.loop-at.at c.in-Some.node.now c.as_slice.ensures c.in-Some.ensures.lookup.3.0 c.in-Some.ensures.lookup.1)
    c.following-in-Some.ensures c.as_mut_slice-in-Some.ensures.value c.as_mut_slice-in-Some.ensures.len (omega arith) c.in_ok-mark_all-in-Some.ensures
