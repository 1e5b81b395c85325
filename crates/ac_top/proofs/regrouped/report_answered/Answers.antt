use Rattle.std.proofs.Common.{length, sym, ap, subst, ◌∙◌}
use Rattle.std.proofs.lemmas.Result.{IfOk-weaker}
use Rattle.ac_top.specs.ArrangementLines.{answer_lines, status_of}
use Rattle.ac_top.specs.ArrangementReports.{ArrangedReports, without_valuation, answered}
use Rattle.ac_top.specs.Reports.{report as a_report}
use Rattle.ac_top.specs.declared.status.Status.TheVariants as status
use Rattle.ac_top.proofs.ArrangedAnswers.{as_many_answers, IsFound}
use Rattle.ac_top.proofs.regrouped.report_answered.Goals as goal

pub report_answers-requires : goal.report_answers-requires
report_answers-requires c =
    let pair = c.args.asked.now.pair.now in
    let are = subst (IsFound c.args.asked.now.symbols.now pair) c.in-Some.is c.in_ok-answers.ensures in
    as_many_answers c.args.asked.now.symbols.now pair pair.outputs c.in-Some.answers.items are ∙ ap length (sym c.as_slice.ensures.value)

pub returns-in-Some : goal.returns-in-Some
returns-in-Some c =
    let pair = c.args.asked.now.pair.now in
    let names = c.args.asked.now.symbols.now in
    let are = subst (IsFound names pair) c.in-Some.is c.in_ok-answers.ensures in
    IfOk-weaker c.report_answers.result _ _
    (λ r is. subst (ArrangedReports names pair) (sym (is ∙ ap (λ said. a_report (status_of said) (answer_lines pair.left.arrays pair.outputs said)) c.as_slice.ensures.value)) (answered c.in-Some.answers.items are))
    c.report_answers.ensures

pub returns-in_ok-empty_context_line-in-None : goal.returns-in_ok-empty_context_line-in-None
returns-in_ok-empty_context_line-in-None c =
    let pair = c.args.asked.now.pair.now in
    let names = c.args.asked.now.symbols.now in
    let none = subst (IsFound names pair) c.in-None.is c.in_ok-answers.ensures in
    subst (ArrangedReports names pair) (sym (c.refused.ensures ∙ ap (a_report status.Refused) c.in_ok-empty_context_line-in-None.ensures)) (without_valuation none)
