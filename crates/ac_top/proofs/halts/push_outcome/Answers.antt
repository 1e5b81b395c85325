use Rattle.std.proofs.Common.{◌++◌, [], ◌∷◌, codes, sym, ap, ◌∙◌}
use Rattle.ac_top.specs.ConsoleLines.{element_text, outcome_line}
use Rattle.ac_top.proofs.Lines.{different_text}
use Rattle.ac_top.proofs.halts.push_outcome.Goals as goal

pub returns-in_ok-push-in-Different : goal.returns-in_ok-push-in-Different
returns-in_ok-push-in-Different c =
    let words = codes " different, element " in
    c.in_ok-push-in-Different.ensures.items
    ∙ ap (λ l. l ++ 10 ∷ []) (c.in_ok-push_element-in-Different.ensures
    ∙ ap (λ l. l ++ element_text c.as_slice.result.now) (c.in_ok-extend_from_slice-in-Different.ensures.items ∙ ap (λ l. l ++ words) c.in_ok-extend_from_slice.ensures.items)
    ∙ ap (λ e. (c.args.bytes.now.items ++ c.args.name.now) ++ words ++ element_text e) c.as_slice.ensures)
    ∙ different_text c.args.bytes.now.items c.args.name.now words (element_text c.in-Different.element)
    ∙ ap (λ v. c.args.bytes.now.items ++ outcome_line c.args.name.now v) (sym c.in-Different.is)
