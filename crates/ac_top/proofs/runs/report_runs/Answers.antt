use Rattle.std.proofs.Common.{length, Err, sym, ap, subst, ◌∙◌}
use Rattle.std.proofs.lemmas.Result.{IfOk-weaker}
use Rattle.ac_instance.specs.ComparisonAnswers.{compared, IsAnswer}
use Rattle.ac_top.specs.Reports.{report as a_report}
use Rattle.ac_top.specs.InstanceReports.{status_of, RunReports, ran}
use Rattle.ac_top.specs.RunStages.{written}
use Rattle.ac_top.specs.ConsoleLines.{outcome_lines}
use Rattle.ac_top.proofs.Instances.{as_many_outcomes, equal_is_same, of_halt}
use Rattle.ac_top.proofs.runs.report_runs.Goals as goal

pub report_outcomes-requires : goal.report_outcomes-requires
report_outcomes-requires c =
    let pair = c.args.pair.now in
    let v = c.args.valuation.now in
    let said = subst (IsAnswer pair v c.args.limit) c.in-Ok.is (c.instance.ensures.answer c.requires.ready) in
    as_many_outcomes (compared pair v) pair.outputs c.in-Ok.ran.outcomes said.1 ∙ ap length (sym c.as_slice.ensures)

pub report_halt-requires : goal.report_halt-requires
report_halt-requires c e = c.instance.ensures.narrow c.requires.ready c.requires.small (c.in-Err.is ∙ ap Err e)

pub returns-in-Ok : goal.returns-in-Ok
returns-in-Ok c =
    let pair = c.args.pair.now in
    let v = c.args.valuation.now in
    let said = subst (IsAnswer pair v c.args.limit) c.in-Ok.is (c.instance.ensures.answer c.requires.ready) in
    let Reports = RunReports c.args.left.now.name.now c.args.right.now.name.now c.args.left.now.bytes.now c.args.right.now.bytes.now pair v c.args.limit in
    IfOk-weaker c.report_outcomes.result _ _
    (λ r is. subst Reports (sym (is ∙ ap (λ rs. a_report (status_of rs) (outcome_lines pair.left.arrays pair.outputs rs)) c.as_slice.ensures)) (ran c.in-Ok.ran.events c.in-Ok.ran.outcomes said.0 said.1 (equal_is_same pair v pair.outputs c.in-Ok.ran.outcomes said.1)))
    c.report_outcomes.ensures

pub returns-in-Err : goal.returns-in-Err
returns-in-Err c =
    let pair = c.args.pair.now in
    let v = c.args.valuation.now in
    let said = subst (IsAnswer pair v c.args.limit) c.in-Err.is (c.instance.ensures.answer c.requires.ready) in
    IfOk-weaker c.report_halt.result _ _
    (λ r is. of_halt c.args.left.now.name.now c.args.right.now.name.now c.args.left.now.bytes.now c.args.right.now.bytes.now pair v c.args.limit c.in-Err.halt (written r) said is)
    c.report_halt.ensures
