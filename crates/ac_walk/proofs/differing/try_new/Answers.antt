use Rattle.std.proofs.Common.{List, ℤ, ◌++◌, ◌∷◌, [], Option, refl, sym, ap, subst, ◌∙◌}
use Rattle.std.specs.Prelude.{MatchOption}
use Rattle.std.specs.Cmp.Lexicographic.{pointwise}
use Rattle.std.specs.Ordering.{int_eq}
use Rattle.std.specs.Set.{is_member}
use Rattle.ac_walk.specs.OutputDecisions.{IsDifference}
use Rattle.ac_walk.specs.TriedValuations.{NumberShowsNone, again, anew}
use Rattle.ac_walk.specs.declared.differing.Difference.{Difference}
use Rattle.ac_walk.proofs.differing.try_new.Goals as goal

pub returns-then-is_among-clause-tried : goal.returns-then-is_among-clause-tried
returns-then-is_among-clause-tried c = again (ap (λ (vs : List (List ℤ)). is_member (pointwise int_eq) vs c.args.at.now) (sym c.as_slice.ensures) ∙ sym c.is_among.ensures ∙ c.if-is_among.true) refl

pub returns-in_ok-push-in-None-clause-tried : goal.returns-in_ok-push-in-None-clause-tried
returns-in_ok-push-in-None-clause-tried c =
    let pair = c.args.pair.now in
    let at = c.args.at.now in
    anew (ap (λ (vs : List (List ℤ)). is_member (pointwise int_eq) vs at) (sym c.as_slice.ensures) ∙ sym c.is_among.ensures ∙ c.if-is_among.false)
    (subst (λ (o : Option Difference). MatchOption o (NumberShowsNone pair c.args.number at) (IsDifference pair c.args.number)) c.in-None.is c.in_ok-found.ensures)
    (c.in_ok-push-in-None.ensures.ok ∙ ap (λ (v : List ℤ). c.args.tried.now ++ v ∷ []) c.in_ok-from_slice-in-None.ensures)
