use Rattle.std.proofs.Common.{◌≡◌, ◌<◌, ℕ, Some, length, get_or, refl, sym, ap, ◌∙◌}
use Rattle.std.specs.Prelude.{slice_get}
use Rattle.ac_walk.proofs.Lists.{all_at, get_some}
use Rattle.ac_walk.proofs.Ranked.{claims_more}
use Rattle.ac_walk.proofs.ranking.claims_at.Goals as goal

pub loop-at-preserved : goal.loop-at-preserved
loop-at-preserved c =
    let widening_points = c.args.widening_points.now in
    let numbers = c.args.numbers.now in
    let n = get_or numbers c.loop-at.at 0 in
    let within : n < length widening_points = all_at (λ (m : ℕ). m < length widening_points) numbers c.loop-at.at 0 c.loop-at-test.true c.requires in
    let there : slice_get widening_points n ≡ Some c.index-widening_points-numbers.result = get_some widening_points n c.index-widening_points-numbers.result within ∙ ap Some (sym c.index-widening_points-numbers.is) in
    claims_more widening_points numbers c.loop-at.at c.loop-at.made.items c.push.new.self.items c.in_ok-claim.field-0 n c.loop-at-test.true refl (c.index-widening_points-numbers.result, there, c.in_ok-claim.ensures.value) c.loop-at.invariant c.in_ok-push.ensures.items
