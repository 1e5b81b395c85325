use Rattle.std.proofs.Common.{◌≡◌, [], ◌∷◌, ◌++◌, refl, ap, ◌∙◌, subst}
use Rattle.ac_widen_programs.specs.PairPathEnds.{entries_at}
use Rattle.ac_unfold.specs.EndResults.{FullBy}
use Rattle.ac_unfold.specs.PlanResults.{judge_of}
use Rattle.ac_unfold.specs.BrokenPathResults.{IsNone, IsPointIn}
use Rattle.ac_unfold.proofs.Adding.{adds_none, found_at}
use Rattle.ac_unfold.proofs.Reaching.{never_by}
use Rattle.ac_unfold.proofs.Stopped.{if_err}
use Rattle.ac_unfold.specs.PlanGaps.{HasNone}
use Rattle.ac_unfold.proofs.Unbroken.{not_one}
use Rattle.ac_unfold.proofs.ends.refuted.Goals as goal

pub returns-in-Empty-clause-found : goal.returns-in-Empty-clause-found
returns-in-Empty-clause-found c = adds_none _ _ _ _ refl

pub returns-in_ok-push-in-Point-clause-found : goal.returns-in_ok-push-in-Point-clause-found
returns-in_ok-push-in-Point-clause-found c =
    let n = c.args.node.now in
    let there = subst (IsPointIn n.question.conj) c.in-Point.is c.in_ok-plan.ensures.point in
    let paths : c.push.new.self.paths ≡ c.args.found_paths.now.paths ++ entries_at c.params.result c.in-Point.point.items n.pair_path ∷ [] =
    c.in_ok-push-in-Point.ensures.paths ∙ ap (λ xs. c.args.found_paths.now.paths ++ entries_at c.params.result xs n.pair_path ∷ []) c.deref.ensures.value in
    found_at IsNone c.params.result (judge_of c.args.search.now).params n.pair_path n.question.conj c.in-Point.point.items _ _ c.params.ensures there paths c.in_ok-push-in-Point.ensures.ended

pub returns-in_err-plan-clause-full : goal.returns-in_err-plan-clause-full
returns-in_err-plan-clause-full c =
    let stop = c.in_err-plan.field-0.0 in
    if_err (FullBy IsNone c.args.found_paths.now.ended) c.from_residual.result stop c.from_residual.ensures.1 (never_by IsNone c.args.found_paths.now.ended stop c.in_err-plan.ensures.full)

pub returns-in-Empty-clause-empty : goal.returns-in-Empty-clause-empty
returns-in-Empty-clause-empty c = λ none. (subst (HasNone c.args.node.now.question.conj) c.in-Empty.is c.in_ok-plan.ensures.none).1

pub returns-in_ok-push-in-Point-clause-empty : goal.returns-in_ok-push-in-Point-clause-empty
returns-in_ok-push-in-Point-clause-empty c = λ none. absurd (not_one c.args.search.now _ _ _ c.in_ok-push-in-Point.ensures.paths none)
