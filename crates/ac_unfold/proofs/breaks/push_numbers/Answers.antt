use Rattle.std.proofs.Common.{rules, ◌≡◌, ◌∙◌, ap, ℕ, pos, to_z, of_z}
use Rattle.std.specs.Int.{w128}
use Rattle.std.specs.Prelude.{slice_index_or}
use Rattle.ac_base.proofs.Bits.{again_128}
use Rattle.ac_unfold.proofs.Tracing.{picked_more}
use Rattle.ac_unfold.proofs.breaks.push_numbers.Goals as goal

pub loop-k-preserved : goal.loop-k-preserved
loop-k-preserved c =
    let e : to_z w128 (of_z w128 c.number_in.result) ≡ c.number_in.result = search (rules, again_128) in
    picked_more c.args.first c.loop-k.k c.args.point.now c.args.numbers.now c.loop-k.numbers c.push.new.self _ c.loop-k.invariant c.in_ok-push.ensures.ok
    (e ∙ c.number_in.ensures ∙ ap (λ (k : ℕ). slice_index_or c.args.point.now k (pos 0)) c.in_ok-column_after.ensures)
