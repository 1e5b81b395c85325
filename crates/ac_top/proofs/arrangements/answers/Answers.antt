use Rattle.std.proofs.Common.{◌++◌, ◌∷◌, [], ◌+◌, MatchOption, slice_index_or, take, sym, subst}
use Rattle.std.proofs.lemmas.List.{take_more}
use Rattle.ac_top.specs.ArrangementReports.{AreAnswers, IsAnswer, IsWithoutValuation}
use Rattle.ac_top.proofs.ArrangedAnswers.{one_more_answer}
use Rattle.ac_top.proofs.arrangements.answers.Goals as goal

pub loop-at-preserved : goal.loop-at-preserved
loop-at-preserved c =
    let names = c.args.asked.now.symbols.now in
    let pair = c.args.asked.now.pair.now in
    let outs = c.as_slice-outputs.result.now in
    let at = c.loop-at.at in
    let o = slice_index_or outs at 0 in
    let old = c.loop-at.answers.items in
    let said = subst (λ f. MatchOption f (IsWithoutValuation pair) (IsAnswer names pair o)) c.in-Some.is c.in_ok-found.ensures in
    let more = one_more_answer names pair (take at outs) old o c.in-Some.found c.loop-at.invariant said in
    let taken = subst (λ os. AreAnswers names pair os (old ++ c.in-Some.found ∷ [])) (sym (take_more outs at 0 c.loop-at-test.true)) more in
    subst (AreAnswers names pair (take (at + 1) outs)) (sym c.in_ok-push.ensures.items) taken
