use Rattle.std.proofs.Common.{◌++◌, slice_index_or, ap, sym, ◌∙◌, arith}
use Rattle.ac_top.specs.ArrangementLines.{answer_line}
use Rattle.ac_top.specs.ConsoleLines.{name_at}
use Rattle.ac_top.specs.declared.arrangements.Answer.TheVariants as answer
use Rattle.ac_top.proofs.ArrangedAnswers.{one_further_answer}
use Rattle.ac_top.proofs.regrouped.answer_lines.Goals as goal

pub loop-at-preserved : goal.loop-at-preserved
loop-at-preserved c =
    let arrays = c.args.arrays.now in
    let os = c.args.outputs.now in
    let said = c.args.answers.now in
    let at = c.loop-at.at in
    let a = slice_index_or said at answer.Equal in
    c.in_ok-push_answer.ensures ∙ ap (λ n. c.loop-at.bytes.items ++ answer_line n a) c.name_of.ensures
    ∙ ap (λ l. l ++ answer_line (name_at arrays (slice_index_or os at 0)) a) c.loop-at.invariant
    ∙ sym (one_further_answer arrays os said at answer.Equal c.loop-at-test.true (omega (arith, c.loop-at-test.true, c.requires)) c.requires)
