use Rattle.std.proofs.Common.{Option, refl, ap, subst, ◌∙◌}
use Rattle.std.specs.Prelude.{MatchOption}
use Rattle.std.proofs.lemmas.Result.{IfOk-weaker}
use Rattle.ac_walk.specs.OutputDecisions.{IsDifference}
use Rattle.ac_walk.specs.TriedValuations.{HoldsOfFirst, NumberShowsNone, valuations_of}
use Rattle.ac_walk.specs.declared.differing.Difference.{Difference}
use Rattle.ac_walk.proofs.Trying.{none_shown}
use Rattle.ac_walk.proofs.differing.any_difference.Goals as goal

pub returns : goal.returns
returns c =
    let pair = c.args.pair.now in
    let number = c.args.number in
    let cause = c.args.cause.now in
    let listed = c.as_slice.result.now in
    let shown = subst (λ (o : Option Difference). MatchOption o (HoldsOfFirst (NumberShowsNone pair number) 16 listed) (IsDifference pair number)) c.in-None.is c.in_ok-found.ensures in
    IfOk-weaker c.first_difference-in-None.result _ _
    (λ found h. none_shown pair c.args.samples.now listed number _ cause found refl (c.as_slice.ensures ∙ c.in_ok-listed.ensures ∙ ap (λ n. valuations_of n cause) c.len.ensures) shown h)
    c.first_difference-in-None.ensures
