use Rattle.std.proofs.Common.{Err, sym, ap, subst, ◌∙◌}
use Rattle.std.proofs.lemmas.Result.{IfOk-weaker}
use Rattle.ac_instance.specs.ComparisonAnswers.{IsAnswer}
use Rattle.ac_top.specs.GenReports.{at_1000, RunEnds, run_ended}
use Rattle.ac_top.specs.RunStages.{written}
use Rattle.ac_top.proofs.Generating.{halt_ends}
use Rattle.ac_top.proofs.Instances.{equal_is_same}
use Rattle.ac_top.proofs.generated.report_run.Goals as goal

pub report_halt-requires : goal.report_halt-requires
report_halt-requires c e = c.instance.ensures.narrow c.requires.ready c.requires.small (c.in-Err.is ∙ ap Err e)

pub returns-in-Ok : goal.returns-in-Ok
returns-in-Ok c =
    let pair = c.args.pair.now in
    let said = subst (IsAnswer pair at_1000 1000000) c.in-Ok.is (c.instance.ensures.answer c.requires.ready) in
    IfOk-weaker c.report_ran.result _ _
    (λ r is. subst (RunEnds pair) (sym is) (run_ended c.in-Ok.ran.events c.in-Ok.ran.outcomes said.0 said.1 (equal_is_same pair at_1000 pair.outputs c.in-Ok.ran.outcomes said.1)))
    c.report_ran.ensures

pub returns-in-Err : goal.returns-in-Err
returns-in-Err c =
    let pair = c.args.pair.now in
    let said = subst (IsAnswer pair at_1000 1000000) c.in-Err.is (c.instance.ensures.answer c.requires.ready) in
    IfOk-weaker c.report_halt.result _ _ (λ r is. halt_ends pair c.in-Err.halt (written r) c.requires.within said is) c.report_halt.ensures
