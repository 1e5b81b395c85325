use Rattle.std.proofs.Common.{◌++◌, slice_index_or, ap, sym, ◌∙◌, arith}
use Rattle.ac_top.specs.ConsoleLines.{name_at, outcome_line}
use Rattle.ac_top.proofs.Instances.{one_further_outcome}
use Rattle.ac_top.proofs.halts.outcome_lines.Goals as goal

pub loop-at-preserved : goal.loop-at-preserved
loop-at-preserved c =
    let arrays = c.args.arrays.now in
    let os = c.args.outputs.now in
    let rs = c.args.outcomes.now in
    let at = c.loop-at.at in
    let v = c.index-outcomes-at.result in
    c.in_ok-push_outcome.ensures ∙ ap (λ n. c.loop-at.bytes.items ++ outcome_line n v) c.name_of.ensures
    ∙ ap (λ l. l ++ outcome_line (name_at arrays (slice_index_or os at 0)) v) c.loop-at.invariant
    ∙ sym (one_further_outcome arrays os rs at v c.loop-at-test.true (omega (arith, c.loop-at-test.true, c.requires)) c.requires c.index-outcomes-at.is)
