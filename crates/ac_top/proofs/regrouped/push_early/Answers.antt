use Rattle.std.proofs.Common.{◌++◌, codes, decimal, ap, ◌∙◌}
use Rattle.ac_top.proofs.regrouped.push_early.Goals as goal

pub returns : goal.returns
returns c =
    let first = c.args.first in
    c.in_ok-extend_from_slice-3.ensures.items
    ∙ ap (λ l. l ++ first.words.now) (c.in_ok-extend_from_slice-2.ensures.items ∙ ap (λ l. l ++ codes ": ") (c.in_ok-push_digits.ensures ∙ ap (λ l. l ++ decimal first.number) c.in_ok-extend_from_slice.ensures.items))
