use Rattle.std.proofs.Common.{◌≡◌, Some, rules, sym, ap, ◌∙◌}
use Rattle.std.specs.Prelude.{slice_get}
use Rattle.ac_unfold.specs.EndResults.{IsNeverFull}
use Rattle.ac_unfold.specs.UnfoldStops.{AreNewSides, FollowsCut, StopsUnder}
use Rattle.ac_unfold.proofs.KillTasks.{cut_assumes, row_its, row_left, row_passed, rows_end, split_unfolds}
use Rattle.ac_unfold.proofs.Results.{at_some, get_below}
use Rattle.ac_unfold.proofs.Sides.{inside_new}
use Rattle.ac_unfold.proofs.Stopped.{if_err}
use Rattle.ac_unfold.proofs.kills.cut.Goals as goal

pub returns-in_default-clause-unfolds : goal.returns-in_default-clause-unfolds
returns-in_default-clause-unfolds c = rows_end c.args.search.now c.args.at c.in_ok-more.more.items c.args.plans.now.items c.killed_end.new.plans.items c.in_ok-more.ensures.none c.requires (search rules) c.in_ok-more.ensures.end

pub returns-then-standing-clause-unfolds : goal.returns-then-standing-clause-unfolds
returns-then-standing-clause-unfolds c =
    let get : slice_get c.args.at.rows c.args.at.standing ≡ Some c.in_ok-row.row = sym c.in-Some.ensures.value ∙ ap Some (sym c.in_ok-row.ensures) in
    row_passed c.args.search.now c.args.at c.in_ok-row.row c.in_ok-more-2.more.items c.in_ok-more-2.ensures c.requires get (c.in_ok-standing.ensures.stands c.if-standing.true) c.args.plans.now.items

pub killed_end-requires : goal.killed_end-requires
killed_end-requires c = cut_assumes c.args.search.now c.args.at c.requires

pub sides-requires : goal.sides-requires
sides-requires c =
    let get : slice_get c.args.at.rows c.args.at.standing ≡ Some c.in_ok-row.row = sym c.in-Some.ensures.value ∙ ap Some (sym c.in_ok-row.ensures) in
    row_its c.args.search.now c.args.at c.in_ok-row.row c.requires get

pub split-requires : goal.split-requires
split-requires c = get_below c.args.at.case.now.kills c.args.at.number c.requires.there.kill c.requires.there.is

pub left-requires : goal.left-requires
left-requires c = get_below c.args.at.case.now.kills c.args.at.number c.requires.there.kill c.requires.there.is

pub returns-in-Some-made-clause-unfolds : goal.returns-in-Some-made-clause-unfolds
returns-in-Some-made-clause-unfolds c =
    let k = c.args.at.node.question.conj in
    let row = c.in_ok-row.row in
    let get : slice_get c.args.at.rows c.args.at.standing ≡ Some row = sym c.in-Some.ensures.value ∙ ap Some (sym c.in_ok-row.ensures) in
    let sides : AreNewSides k row c.in-Some-made.parts = at_some c.in_ok-made.made c.in-Some-made.parts (AreNewSides k row) c.in-Some-made.is c.in_ok-made.ensures.sides in
    split_unfolds c.args.search.now c.args.at row c.in-Some-made.parts c.in_ok-more-in-Some-made.more.items c.args.plans.now.items c.split.new.plans.items c.requires get sides (inside_new k row (c.in_ok-standing.ensures.fails c.if-standing.false)) c.in_ok-more-in-Some-made.ensures

pub returns-clause-unfolds : goal.returns-clause-unfolds
returns-clause-unfolds c =
    let row = c.in_ok-row.row in
    let get : slice_get c.args.at.rows c.args.at.standing ≡ Some row = sym c.in-Some.ensures.value ∙ ap Some (sym c.in_ok-row.ensures) in
    row_left c.args.search.now c.args.at row c.in_ok-more-in-None.more.items c.in_ok-more-in-None.ensures c.requires get (c.in_ok-made.ensures.none c.in-None.is) c.args.plans.now.items

pub returns-in_err-made-clause-causes : goal.returns-in_err-made-clause-causes
returns-in_err-made-clause-causes c =
    let s = c.args.search.now in
    let at = c.args.at in
    let stop = c.in_err-made.field-0.0 in
    if_err (StopsUnder s (FollowsCut s at.case.now at.number at.standing at.node.pair_path at.node.question)) c.from_residual-in_err-made.result stop c.from_residual-in_err-made.ensures.1 c.in_err-made.ensures.causes

pub returns-in_err-made-clause-never : goal.returns-in_err-made-clause-never
returns-in_err-made-clause-never c =
    let stop = c.in_err-made.field-0.0 in
    if_err IsNeverFull c.from_residual-in_err-made.result stop c.from_residual-in_err-made.ensures.1 c.in_err-made.ensures.never
