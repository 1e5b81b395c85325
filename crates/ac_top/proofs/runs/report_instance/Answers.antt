use Rattle.std.proofs.Common.{ap, sym, subst, ◌∙◌}
use Rattle.std.specs.Prelude.{option_map}
use Rattle.std.proofs.lemmas.Result.{IfOk-weaker}
use Rattle.ac_instance.specs.ComparisonAnswers.{IsReadyAt}
use Rattle.ac_top.specs.Reports.{report as a_report}
use Rattle.ac_top.specs.InstanceReports.{valuation_word, RunReports, InstanceReports, not_a_valuation, at_valuation}
use Rattle.ac_top.specs.RunStages.{written}
use Rattle.ac_top.specs.declared.status.Status.TheVariants as status
use Rattle.ac_top.proofs.Instances.{ready_at, as_many_values, IsFound}
use Rattle.ac_top.proofs.runs.report_instance.Goals as goal

pub report_runs-requires-clause-ready : goal.report_runs-requires-clause-ready
report_runs-requires-clause-ready c =
    let pair = c.args.pair.now in
    let is = subst (IsFound pair (option_map (λ w. w.now) c.args.at)) c.in-Some.is c.in_ok-values.ensures in
    subst (IsReadyAt pair) (sym c.deref.ensures.value)
    (ready_at pair c.in-Some.values.items c.requires.ready (as_many_values pair.left.params (valuation_word (option_map (λ w. w.now) c.args.at)) c.in-Some.values.items is))

pub returns-in-Some : goal.returns-in-Some
returns-in-Some c =
    let is = subst (IsFound c.args.pair.now (option_map (λ w. w.now) c.args.at)) c.in-Some.is c.in_ok-values.ensures in
    IfOk-weaker c.report_runs.result _ _
    (λ r found. at_valuation c.in-Some.values.items (written r) is
    (subst (λ v. RunReports c.args.left.now.name.now c.args.right.now.name.now c.args.left.now.bytes.now c.args.right.now.bytes.now c.args.pair.now v c.args.limit (written r)) c.deref.ensures.value found))
    c.report_runs.ensures

pub returns-in_ok-valuation_line-in-None : goal.returns-in_ok-valuation_line-in-None
returns-in_ok-valuation_line-in-None c =
    let is = subst (IsFound c.args.pair.now (option_map (λ w. w.now) c.args.at)) c.in-None.is c.in_ok-values.ensures in
    let Reports = InstanceReports c.args.left.now.name.now c.args.right.now.name.now c.args.left.now.bytes.now c.args.right.now.bytes.now c.args.pair.now (option_map (λ w. w.now) c.args.at) c.args.limit in
    subst Reports (sym (c.refused.ensures ∙ ap (a_report status.Refused) c.in_ok-valuation_line-in-None.ensures)) (not_a_valuation is)
