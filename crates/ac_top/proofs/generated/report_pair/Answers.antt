use Rattle.std.proofs.Common.{sym, subst}
use Rattle.std.proofs.lemmas.Result.{IfOk-weaker}
use Rattle.ac_top.specs.GenReports.{GenReports, of_generated}
use Rattle.ac_top.specs.RunStages.{written}
use Rattle.ac_top.proofs.Arities.{generated_arities}
use Rattle.ac_top.proofs.generated.report_pair.Goals as goal

pub returns : goal.returns
returns c =
    IfOk-weaker c.report_both.result _ _
    (λ r same. subst (GenReports c.args.seed c.args.stages) (sym same) (of_generated c.args.made.now.pair (written c.in_ok-proved.proved) (written c.in_ok-ended.ended) c.requires.pair c.in_ok-proved.ensures c.in_ok-ended.ensures))
    c.report_both.ensures

pub report_prove-requires-clause-arities : goal.report_prove-requires-clause-arities
report_prove-requires-clause-arities c = generated_arities c.args.seed c.args.stages c.args.made.now.pair c.requires.pair
