use Rattle.std.proofs.Common.{◌++◌, codes, decimal, ap, sym, ◌∙◌}
use Rattle.std.proofs.lemmas.Result.{on_ok_weaker}
use Rattle.ac_top.specs.ArrangementLines.{answer_words}
use Rattle.ac_top.proofs.ArrangedAnswers.{words_joined}
use Rattle.ac_top.proofs.regrouped.push_words.Goals as goal

pub returns-in-Early : goal.returns-in-Early
returns-in-Early c =
    let old = c.args.bytes.now.items in
    let first = c.in-Early.first in
    on_ok_weaker c.push_early.result
    (λ e. e ∙ words_joined old (codes " unknown early in arrangement ") (decimal first.number) (codes ": ") first.words.now ∙ ap (λ a. old ++ answer_words a) (sym c.in-Early.is)) c.push_early.ensures
