use Rattle.std.proofs.Common.{subst}
use Rattle.ac_unfold.specs.BrokenPathResults.{IsUnmet}
use Rattle.ac_unfold.specs.RequiredRows.{IsRefused}
use Rattle.ac_unfold.specs.declared.decide.Wanted.{Wanted}
use Rattle.ac_unfold.proofs.PairTasks.{handed_never}
use Rattle.ac_unfold.proofs.Places.{row_stops}
use Rattle.ac_unfold.proofs.kills.sides.Goals as goal

pub returns-in-Absurd-clause-none : goal.returns-in-Absurd-clause-none
returns-in-Absurd-clause-none c =
    let n = c.args.at.now.node.question.conj.columns in
    let unmet = subst (λ (k : Wanted). IsUnmet n c.args.row.now k) c.in-Absurd.is c.in_ok-kind.ensures.unmet in
    λ _ p long meets. unmet.1 p

pub returns-in-Wide-clause-causes : goal.returns-in-Wide-clause-causes
returns-in-Wide-clause-causes c =
    let at = c.args.at.now in
    let v = at.node.question in
    let row = c.args.row.now in
    let refused = subst (IsRefused v.conj.columns row) c.in-Wide.is c.in_ok-kind.ensures.refused in
    row_stops c.args.search.now at.case.now at.number at.standing at.node.pair_path v row c.too_wide.result c.requires (λ over fits _. refused over fits) c.too_wide.ensures

pub returns-in-Wide-clause-never : goal.returns-in-Wide-clause-never
returns-in-Wide-clause-never c = handed_never c.args.at.now.node.question.conj (Unit {0}) c.too_wide.result c.too_wide.ensures
