use Rattle.std.proofs.Common.{◌≡◌, ◌↔◌, subst, ℕ, length, arith}
use Rattle.ac_syntax.specs.declared.tree.Position.{Position}
use Rattle.ac_forms.specs.ListMembers.{IsAmong}
use Rattle.ac_graph.specs.Recurrence.{HasMark}
use Rattle.ac_graph.proofs.RecurSteps.{picked_start, picked_step}
use Rattle.ac_graph.proofs.analysis.chosen.Goals as goal

pub loop-at-init : goal.loop-at-init
loop-at-init c = picked_start c.args.pairs.now c.args.marks.now c.new-made.result c.new-made.ensures

pub loop-at-preserved : goal.loop-at-preserved
loop-at-preserved c = picked_step c.args.pairs.now c.args.marks.now c.loop-at.at _ c.loop-at.made c.push_if.new.out c.is_marked.result c.loop-at.invariant c.loop-at-test.true c.is_marked.ensures c.in_ok-push_if.ensures

pub returns : goal.returns
returns c =
    let e : c.loop-at.at ≡ length c.args.pairs.now = omega arith in
    subst (λ (n : ℕ). (p : Position × Position) → IsAmong p c.loop-at.made ↔ HasMark c.args.pairs.now c.args.marks.now n p) e c.loop-at.invariant
