use Rattle.std.proofs.Common.{ℕ, List, sym, ap, subst, ◌∙◌}
use Rattle.std.specs.Option.{option_map}
use Rattle.ac_report.specs.Layouts.{layout_of}
use Rattle.ac_report.specs.ReportTexts.{report_lines}
use Rattle.ac_top.specs.ProveReports.{ProveReports, compared}
use Rattle.ac_top.specs.RunStages.{file_of}
use Rattle.ac_top.specs.Statuses.{status_of}
use Rattle.ac_top.specs.declared.status.Status.{Status}
use Rattle.ac_top.proofs.prove.report_proved.Goals as goal

pub returns : goal.returns
returns c =
    let pair = c.args.pair.now in
    let name = option_map (λ w. w.now) c.args.name in
    let file = option_map file_of c.in_ok-proof.proof in
    let said = c.args.proved.now.verdicts in
    let lines = report_lines (layout_of pair.left) pair.outputs in
    subst (λ (s : Status). ProveReports pair c.args.budget name (record { status = s; text = c.in_ok-text.text.items; proof = file })) (sym (c.status_of.ensures ∙ ap status_of c.as_slice-verdicts.ensures))
    (subst (λ (t : List ℕ). ProveReports pair c.args.budget name (record { status = status_of said; text = t; proof = file })) (sym (c.in_ok-text.ensures ∙ ap lines c.as_slice-verdicts.ensures))
    (compared said c.args.proved.now.proof file c.requires.verdicts c.requires.matched c.requires.answered c.requires.tried c.requires.proof c.in_ok-proof.ensures))
