use Rattle.std.proofs.Common.{sym, ap, subst, ◌∙◌}
use Rattle.std.specs.Prelude.{Ok, Err}
use Rattle.ac_claims.specs.Soundness.{pairing_of}
use Rattle.ac_prooftext.specs.StreamChecks.{IsAnswer}
use Rattle.ac_prooftext.specs.declared.types.CheckFault.TheVariants.{TooLong, TooDeep, Refused}
use Rattle.ac_top.specs.ProgramAnswers.{ProofReports, accepted, too_long, too_deep, not_valid}
use Rattle.ac_top.specs.Reports.{report as a_report}
use Rattle.ac_top.specs.ConsoleLines.{accepted_lines}
use Rattle.ac_top.specs.declared.status.Status.TheVariants as status
use Rattle.ac_top.proofs.check.report_checked.Goals as goal

pub returns-in_ok-accepted_lines-in-Ok : goal.returns-in_ok-accepted_lines-in-Ok
returns-in_ok-accepted_lines-in-Ok c = λ stream took.
    let pair = c.args.pair.now in
    let left = c.args.left.now in
    let right = c.args.right.now in
    let is : IsAnswer (pairing_of pair left right) pair.outputs stream (Ok c.in-Ok.outputs) = subst (IsAnswer (pairing_of pair left right) pair.outputs stream) c.in-Ok.is (c.finish.ensures.answer (pairing_of pair left right) pair.outputs stream took) in
    subst (λ t. ProofReports pair stream (a_report status.Done t))
    (sym (c.in_ok-accepted_lines-in-Ok.ensures ∙ ap (λ os. accepted_lines c.as_slice.result.now os) c.deref.ensures.value ∙ ap (λ arrays. accepted_lines arrays c.in-Ok.outputs.items) c.as_slice.ensures))
    (accepted left right c.in-Ok.outputs c.requires.models is (c.named_outputs_are_the_same.ensures.stream pair left right stream c.in-Ok.outputs c.requires.paired c.requires.models is))

pub returns-in_ok-rejected_too_long_line-in-Err-TooLong : goal.returns-in_ok-rejected_too_long_line-in-Err-TooLong
returns-in_ok-rejected_too_long_line-in-Err-TooLong c = λ stream took.
    let pair = c.args.pair.now in
    let left = c.args.left.now in
    let right = c.args.right.now in
    let is : IsAnswer (pairing_of pair left right) pair.outputs stream (Err TooLong) = subst (IsAnswer (pairing_of pair left right) pair.outputs stream) (c.in-Err-TooLong.is ∙ ap Err c.in-Err-TooLong.field-0-is) (c.finish.ensures.answer (pairing_of pair left right) pair.outputs stream took) in
    subst (ProofReports pair stream) (sym (c.rejected.ensures ∙ ap (a_report status.Different) c.in_ok-rejected_too_long_line-in-Err-TooLong.ensures)) (too_long left right c.requires.models is)

pub returns-in_ok-rejected_too_long_line-in-Err-TooDeep : goal.returns-in_ok-rejected_too_long_line-in-Err-TooDeep
returns-in_ok-rejected_too_long_line-in-Err-TooDeep c = λ stream took.
    let pair = c.args.pair.now in
    let left = c.args.left.now in
    let right = c.args.right.now in
    let is : IsAnswer (pairing_of pair left right) pair.outputs stream (Err TooDeep) = subst (IsAnswer (pairing_of pair left right) pair.outputs stream) (c.in-Err-TooDeep.is ∙ ap Err c.in-Err-TooDeep.field-0-is) (c.finish.ensures.answer (pairing_of pair left right) pair.outputs stream took) in
    subst (ProofReports pair stream) (sym (c.rejected-in-Err-TooDeep.ensures ∙ ap (a_report status.Different) c.in_ok-rejected_too_long_line-in-Err-TooDeep.ensures)) (too_deep left right c.requires.models is)

pub returns-in_ok-rejected_line-in-Err-Refused : goal.returns-in_ok-rejected_line-in-Err-Refused
returns-in_ok-rejected_line-in-Err-Refused c = λ stream took.
    let pair = c.args.pair.now in
    let left = c.args.left.now in
    let right = c.args.right.now in
    let is : IsAnswer (pairing_of pair left right) pair.outputs stream (Err (Refused c.in-Err-Refused.line c.in-Err-Refused.rule)) =
    subst (IsAnswer (pairing_of pair left right) pair.outputs stream) (c.in-Err-Refused.is ∙ ap Err c.in-Err-Refused.field-0-is) (c.finish.ensures.answer (pairing_of pair left right) pair.outputs stream took) in
    subst (ProofReports pair stream) (sym (c.rejected-in-Err-Refused.ensures ∙ ap (a_report status.Different) c.in_ok-rejected_line-in-Err-Refused.ensures)) (not_valid left right c.in-Err-Refused.line c.in-Err-Refused.rule c.requires.models is)
