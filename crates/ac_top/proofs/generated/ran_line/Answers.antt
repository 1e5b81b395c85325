use Rattle.std.proofs.Common.{List, ℕ, [], ◌∷◌, ◌++◌, codes, decimal, ap, ◌∙◌}
use Rattle.ac_top.specs.GenReports.{all_found_text}
use Rattle.ac_top.specs.ConsoleLines.{name_at}
use Rattle.ac_top.proofs.Lines.{ran_text}
use Rattle.ac_top.proofs.generated.ran_line.Goals as goal

pub returns : goal.returns
returns c =
    let head : List ℕ = codes "instance at N=1000: " in
    let number : List ℕ = decimal c.args.ran.now.events in
    c.in_ok-extend_from_slice-2.ensures.items
    ∙ ap (λ l. l ++ (codes " events" ++ 10 ∷ [])) (c.in_ok-push_count.ensures
    ∙ ap (λ l. l ++ number) (c.in_ok-extend_from_slice.ensures.items
    ∙ ap (λ l. l ++ codes ", ") (c.in_ok-push_all_found.ensures
    ∙ ap (λ l. l ++ all_found_text c.name_of-name.result.now c.as_slice-2.result.now) c.in_ok-bytes.ensures.items
    ∙ ap (λ n. head ++ all_found_text n c.as_slice-2.result.now) (c.name_of-name.ensures ∙ ap (λ arrays. name_at arrays 1) c.as_slice.ensures)
    ∙ ap (λ rs. head ++ all_found_text (name_at c.args.pair.now.left.arrays 1) rs) c.as_slice-2.ensures)))
    ∙ ran_text head (all_found_text (name_at c.args.pair.now.left.arrays 1) c.args.ran.now.outcomes) (codes ", ") number (codes " events")
