use Rattle.std.proofs.Common.{◌∙◌, ◌≡◌, ◌++◌, ap}
use Rattle.ac_forms.specs.ListMembers.{IsAmong}
use Rattle.ac_hull.specs.ColumnDifferences.{AllMeetRow, IsThin}
use Rattle.ac_hull.specs.HullInternals.Gathering.{Gathers, OfPair}
use Rattle.ac_hull.proofs.Comparing.{each_from}
use Rattle.ac_hull.proofs.Gatherings.{pair_gathered, ok_map}
use Rattle.ac_hull.proofs.claim.with_pair.Goals as goal

pub thinned-requires-clause-met : goal.thinned-requires-clause-met
thinned-requires-clause-met c = rw c.as_slice.ensures (each_from (AllMeetRow c.args.points.now) c.in_ok-rows.rows (λ d a. ((c.in_ok-rows.ensures d).0 a).1))

pub returns : goal.returns
returns c =
    let thin : IsThin c.args.points.now (λ d. IsAmong d c.in_ok-rows.rows) c.in_ok-kept.kept = rw c.as_slice.ensures at c.in_ok-kept.ensures in
    ok_map c.joined.result (λ made. made ≡ c.args.made.now ++ c.as_slice-2.result.now) (Gathers c.args.points.now (OfPair c.args.thresholds.now c.args.moduli.now c.args.points.now c.args.first c.args.second) c.args.made.now)
    (λ new e. pair_gathered c.args.points.now c.args.thresholds.now c.args.moduli.now c.args.first c.args.second c.args.made.now c.in_ok-rows.rows c.in_ok-kept.kept new c.in_ok-rows.ensures thin (e ∙ ap (λ t. c.args.made.now ++ t) c.as_slice-2.ensures)) c.joined.ensures
