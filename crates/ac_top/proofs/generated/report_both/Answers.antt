use Rattle.std.proofs.Common.{ℕ, List, ◌++◌, ap, refl, ◌∙◌}
use Rattle.ac_top.specs.GenReports.{seed_line}
use Rattle.ac_top.proofs.generated.report_both.Goals as goal

pub returns : goal.returns
returns c =
    let first : List ℕ = seed_line c.args.seed c.args.stages in
    let text =
    c.in_ok-extend_from_slice-2.ensures.items
    ∙ ap (λ l. l ++ c.as_slice-2.result.now) (c.in_ok-extend_from_slice.ensures.items ∙ ap (λ l. l ++ c.as_slice.result.now) c.in_ok-text.ensures)
    ∙ ap (λ l. first ++ l ++ c.as_slice-2.result.now) c.as_slice.ensures.value
    ∙ ap (λ l. first ++ c.args.proved.now.text.items ++ l) c.as_slice-2.ensures.value in
    rw (c.status_of_both.ensures, text) refl
