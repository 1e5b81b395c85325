use Rattle.std.proofs.Common.{◌≡◌, ◌∙◌, ◌-◌, ap, length, subst, suc, sym, true, arith, List, ℤ}
use Rattle.ac_forms.specs.Rows.{Meets}
use Rattle.ac_walk_state.specs.GrowthStops.{StopsAt}
use Rattle.ac_walk_state.specs.RecurrencePairs.{claim_of}
use Rattle.ac_widen_programs.specs.DerivationEntries.{entries_of}
use Rattle.ac_walk_state.specs.MemberGrowth.{GrowsAt}
use Rattle.ac_walk_state.proofs.Beginning.{right_at}
use Rattle.ac_walk_state.proofs.LastItems.{if_err, in_get}
use Rattle.ac_walk_state.proofs.Stopping.{stops_growing, stops_meeting}
use Rattle.ac_walk_state.proofs.Taking.{end_wide, widening_point_at, some_entries, taken_grown, taken_nothing}
use Rattle.ac_walk_state.proofs.growth.take_member.Goals as goal

pub breaks-requires : goal.breaks-requires
breaks-requires c =
    let r = c.requires.path in
    let known = c.args.known in
    let k = widening_point_at known c.args.at c.args.end.now c.index.result.now c.requires.widening_point c.index.ensures in
    ap length c.as_slice-point.ensures ∙ end_wide r.0 c.args.template.now r.1 known c.args.path.now r.2 c.args.end.now c.requires.ends c.args.at c.index.result.now k.0 k.1

pub returns-then-not-breaks-clause-takes : goal.returns-then-not-breaks-clause-takes
returns-then-not-breaks-clause-takes c =
    λ u claims h.
    let known = c.args.known in
    let end = c.args.end.now in
    let x = c.index.result.now in
    let k = widening_point_at known c.args.at end x c.requires.widening_point c.index.ensures in
    taken_nothing u c.args.template.now claims known c.args.begin.now c.args.path.now h end c.requires.ends c.args.at x k.0 k.1
    (λ n.
    let t : c.in_ok-breaks.breaks ≡ true = c.in_ok-breaks.ensures.1.1 (subst (λ (p : List ℤ). ¬ (Meets (claim_of x).rows p)) (sym c.as_slice-point.ensures) n) in
    let f = c.if-not-breaks.true in
    absurd cc)

pub overflow_sub-place : goal.overflow_sub-place
overflow_sub-place c =
    let r = c.requires.path in
    let some = some_entries r.0 c.args.template.now r.1 c.args.known c.args.begin.now c.args.path.now c.in-Ok.entries r.2 c.requires.steps c.in-Ok.ensures in
    let long = c.len-place.ensures in
    omega (arith, some, long)

pub with_member-requires-clause-width : goal.with_member-requires-clause-width
with_member-requires-clause-width c =
    let r = c.requires.path in
    let known = c.args.known in
    let x = c.index.result.now in
    let k = widening_point_at known c.args.at c.args.end.now x c.requires.widening_point c.index.ensures in
    (x, k.0, ap length c.as_slice-point.ensures ∙ end_wide r.0 c.args.template.now r.1 known c.args.path.now r.2 c.args.end.now c.requires.ends c.args.at x k.0 k.1)

pub returns-in-Ok-with_member-clause-takes : goal.returns-in-Ok-with_member-clause-takes
returns-in-Ok-with_member-clause-takes c =
    λ u claims h.
    let t = c.args.template.now in
    let known = c.args.known in
    let end = c.args.end.now in
    let x = c.index.result.now in
    let k = widening_point_at known c.args.at end x c.requires.widening_point c.index.ensures in
    let entries = c.in-Ok.entries in
    let some = some_entries u t claims known c.args.begin.now c.args.path.now entries h c.requires.steps c.in-Ok.ensures in
    let long = c.len-place.ensures in
    let last : suc (c.len-place.result - 1) ≡ length entries = omega (arith, some, long) in
    let grows = subst (λ (p : List ℤ). GrowsAt t known.widening_points.items c.args.at p (c.len-place.result - 1) c.in-Ok-with_member.widening_points.items) c.as_slice-point.ensures c.in-Ok-with_member.ensures.grown in
    let breaks = subst (λ (p : List ℤ). ¬ (Meets (claim_of x).rows p)) c.as_slice-point.ensures (c.in_ok-breaks.ensures.1.0 c.if-not-breaks.false) in
    taken_grown u t claims known (record { widening_points = c.in-Ok-with_member.widening_points; entries = entries }) c.args.begin.now c.args.path.now h c.requires.steps end c.requires.ends c.args.at x k.0 k.1 (c.len-place.result - 1) c.in-Ok.ensures last grows breaks

pub returns-in_err-breaks-clause-stops : goal.returns-in_err-breaks-clause-stops
returns-in_err-breaks-clause-stops c =
    let t = c.args.template.now in
    let known = c.args.known in
    let end = c.args.end.now in
    let x = c.index.result.now in
    let r = c.requires.path in
    let k = widening_point_at known c.args.at end x c.requires.widening_point c.index.ensures in
    let stop = c.in_err-breaks.field-0.0 in
    if_err (StopsAt t known.widening_points.items c.args.path.now) c.from_residual.result stop c.from_residual.ensures.1
    (stops_meeting t (entries_of known.entries) known.widening_points.items x c.args.path.now end c.as_slice-point.result.now stop (in_get known.widening_points.items c.args.at x k.0) (right_at r.0 t known c.args.at x r.2.is_known k.0)
    (end_wide r.0 t r.1 known c.args.path.now r.2 end c.requires.ends c.args.at x k.0 k.1) c.requires.ends k.1 c.as_slice-point.ensures c.in_err-breaks.ensures)

pub returns-in-Err-with_member-clause-stops : goal.returns-in-Err-with_member-clause-stops
returns-in-Err-with_member-clause-stops c =
    let t = c.args.template.now in
    let known = c.args.known in
    let end = c.args.end.now in
    let x = c.index.result.now in
    let r = c.requires.path in
    let k = widening_point_at known c.args.at end x c.requires.widening_point c.index.ensures in
    stops_growing t known.widening_points.items x c.args.path.now end c.as_slice-point.result.now c.in-Err-with_member.stop (in_get known.widening_points.items c.args.at x k.0)
    (end_wide r.0 t r.1 known c.args.path.now r.2 end c.requires.ends c.args.at x k.0 k.1) c.requires.ends k.1 c.as_slice-point.ensures (c.in-Err-with_member.ensures.stops x k.0)
