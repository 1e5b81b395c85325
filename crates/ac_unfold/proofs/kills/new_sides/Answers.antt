use Rattle.std.proofs.Common.{Option, subst}
use Rattle.std.specs.List.{AllByRecursion}
use Rattle.ac_claims_plans.specs.BranchSides.{AreSides}
use Rattle.ac_claims_plans.specs.declared.branching.Parts.{Parts}
use Rattle.ac_unfold.specs.UnfoldQuestions.{IsNew}
use Rattle.ac_unfold.proofs.PairTasks.{handed_never}
use Rattle.ac_unfold.proofs.Passing.{side_never}
use Rattle.ac_unfold.proofs.Places.{row_stops}
use Rattle.ac_unfold.proofs.kills.new_sides.Goals as goal

pub parts_of-requires : goal.parts_of-requires
parts_of-requires c = c.requires.can.over

pub returns-then-outside-clause-none : goal.returns-then-outside-clause-none
returns-then-outside-clause-none c =
    let k = c.args.at.now.node.question.conj in
    let are = subst (λ (o : Option Parts). AreSides k.columns c.args.row.now o) c.in-Some.is c.in_ok-parts.ensures in
    λ _. side_never k c.args.row.now c.in-Some.parts c.as_slice.result.now c.requires.can.over are c.as_slice.ensures (c.in_ok-outside.ensures.there c.if-outside.true)

pub returns-clause-sides : goal.returns-clause-sides
returns-clause-sides c =
    let k = c.args.at.now.node.question.conj in
    record {
      can = c.requires.can;
      are = subst (λ (o : Option Parts). AreSides k.columns c.args.row.now o) c.in-Some.is c.in_ok-parts.ensures;
      new = subst (AllByRecursion (IsNew k)) c.as_slice.ensures (c.in_ok-outside.ensures.new c.if-outside.false);
    }

pub returns-in_default-clause-causes : goal.returns-in_default-clause-causes
returns-in_default-clause-causes c =
    let at = c.args.at.now in
    let v = at.node.question in
    let no = subst (λ (o : Option Parts). AreSides v.conj.columns c.args.row.now o) c.in_default.is c.in_ok-parts.ensures in
    row_stops c.args.search.now at.case.now at.number at.standing at.node.pair_path v c.args.row.now c.too_wide.result c.requires.kills (λ over fits. no) c.too_wide.ensures

pub returns-in_default-clause-never : goal.returns-in_default-clause-never
returns-in_default-clause-never c = handed_never c.args.at.now.node.question.conj (Unit {0}) c.too_wide.result c.too_wide.ensures
