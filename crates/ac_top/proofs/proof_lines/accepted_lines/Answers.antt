use Rattle.std.proofs.Common.{◌++◌, slice_index_or, ap, sym, ◌∙◌}
use Rattle.ac_top.specs.ConsoleLines.{accepted_line}
use Rattle.ac_top.proofs.Lines.{further_accepted}
use Rattle.ac_top.proofs.proof_lines.accepted_lines.Goals as goal

pub loop-output-preserved : goal.loop-output-preserved
loop-output-preserved c =
    let outputs = c.args.outputs.now in
    let at = c.loop-output.output-index in
    c.in_ok-push_accepted.ensures
    ∙ ap (λ n. c.loop-output.bytes.items ++ accepted_line n) c.name_of.ensures
    ∙ ap (λ l. l ++ accepted_line (Rattle.ac_top.specs.ConsoleLines.name_at c.args.arrays.now (slice_index_or outputs at 0))) c.loop-output.invariant
    ∙ sym (further_accepted c.args.arrays.now outputs at c.loop-output-test.true)
