use Rattle.std.proofs.Common.{◌≡◌, ◌∙◌}
use Rattle.ac_hull.specs.Thresholds.{threshold_candidates}
use Rattle.ac_hull.proofs.Collecting.{thresholds_joined}
use Rattle.ac_hull.proofs.Placing.{first_again}
use Rattle.ac_hull.proofs.candidates.thresholds.Goals as goal

pub returns : goal.returns
returns c =
    let e : c.as_slice-2.result.now ≡ threshold_candidates c.args.pair.now =
    c.as_slice-2.ensures ∙ thresholds_joined c.args.pair.now c.as_slice.result.now c.new.result c.in_ok-made.made c.in_ok-made-2.made c.in_ok-candidates.candidates (c.as_slice.ensures ∙ c.in_ok-numbers.ensures) c.new.ensures c.in_ok-made.ensures c.in_ok-made-2.ensures c.in_ok-candidates.ensures in
    first_again c.first.result 64 c.as_slice-2.result.now (threshold_candidates c.args.pair.now) e c.first.ensures
