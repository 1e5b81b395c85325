use Rattle.std.proofs.lemmas.Result.{IfOk-weaker}
use Rattle.ac_top.specs.RunStages.{written}
use Rattle.ac_top.proofs.Lowerings.{judged}
use Rattle.ac_top.proofs.Reading.{no_reads, task_prove, task_check, task_instance}
use Rattle.ac_top.proofs.report.report_task.Goals as goal

pub returns-in-Prove-clause-report : goal.returns-in-Prove-clause-report
returns-in-Prove-clause-report g c = IfOk-weaker c.report_prove.result _ _ (λ r found. task_prove c.args.task.now _ _ _ _ _ _ c.args.pair.now (written r) c.in-Prove.is (no_reads (g.F.Files.transcript c.args.files.now)) found) c.report_prove.ensures

pub returns-in-Instance-clause-report : goal.returns-in-Instance-clause-report
returns-in-Instance-clause-report g c = IfOk-weaker c.report_instance.result _ _ (λ r found. task_instance c.args.task.now _ _ _ _ _ _ c.args.pair.now (written r) c.in-Instance.is (no_reads (g.F.Files.transcript c.args.files.now)) found) c.report_instance.ensures

pub returns-in-Check-clause-report : goal.returns-in-Check-clause-report
returns-in-Check-clause-report g c = IfOk-weaker c.report_check.result _ _ (λ r found. task_check c.args.task.now _ _ _ _ _ _ c.args.pair.now (written r) c.in-Check.is found) c.report_check.ensures.report

pub report_check-requires-clause-paired : goal.report_check-requires-clause-paired
report_check-requires-clause-paired g c = judged c.args.pair.now c.requires.pair

pub report_prove-requires-clause-paired : goal.report_prove-requires-clause-paired
report_prove-requires-clause-paired g c = judged c.args.pair.now c.requires.pair
