use Rattle.std.proofs.Common.{rules, ◌∙◌, ap, refl}
use Rattle.std.proofs.lemmas.List.{take_more}
use Rattle.ac_unfold.specs.UnfoldPaths.{reason_at}
use Rattle.ac_unfold.proofs.PathSteps.{path_more}
use Rattle.ac_unfold.proofs.Tracing.{entries_next}
use Rattle.ac_unfold.proofs.breaks.entries.Goals as goal

pub loop-pair-preserved : goal.loop-pair-preserved
loop-pair-preserved c =
    record {
      path = search (rules, path_more);
      exact = entries_next c.args.params c.args.point.now _ _ c.loop-pair.made c.push.new.self _ _ c.loop-pair.invariant.exact c.in_ok-push.ensures.ok (take_more c.args.pair_path.now c.loop-pair.pair-index _ (search rules)) refl refl c.in_ok-pair_point.ensures (c.reason_of-reason.ensures ∙ ap reason_at c.len.ensures);
    }
