use Rattle.std.proofs.Common.{◌++◌, [], ◌∷◌, ap, ◌∙◌}
use Rattle.ac_top.specs.ArrangementLines.{answer_words}
use Rattle.ac_top.proofs.ArrangedAnswers.{line_joined}
use Rattle.ac_top.proofs.regrouped.push_answer.Goals as goal

pub returns : goal.returns
returns c =
    c.in_ok-push.ensures.items
    ∙ ap (λ l. l ++ 10 ∷ []) (c.in_ok-push_words.ensures ∙ ap (λ l. l ++ answer_words c.args.answer) c.in_ok-extend_from_slice.ensures.items)
    ∙ line_joined c.args.bytes.now.items c.args.name.now (answer_words c.args.answer)
