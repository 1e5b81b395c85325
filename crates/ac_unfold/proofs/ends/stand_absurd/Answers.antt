use Rattle.std.proofs.Common.{◌∷◌, []}
use Rattle.ac_unfold.specs.PlanResults.{judge_of}
use Rattle.ac_unfold.specs.BrokenPathResults.{IsNone}
use Rattle.ac_unfold.specs.UnfoldStops.{StopsStanding}
use Rattle.ac_unfold.proofs.Failing.{breaking_absurd}
use Rattle.ac_unfold.proofs.Results.{absurd_ended}
use Rattle.ac_unfold.proofs.Stopped.{if_err, standing_here}
use Rattle.ac_unfold.proofs.ends.stand_absurd.Goals as goal

pub returns-clause-stood : goal.returns-clause-stood
returns-clause-stood c = absurd_ended c.args.search.now c.args.course c.in_ok-end.end c.in_ok-made.made c.in_ok-end.ensures.made c.in_ok-made.ensures.made

pub returns-clause-found : goal.returns-clause-found
returns-clause-found c = breaking_absurd IsNone (judge_of c.args.search.now).params c.args.course.node.pair_path c.args.course.node.question.conj c.args.row.now _ _ c.requires c.in_ok-end.ensures.found

pub returns-clause-missing : goal.returns-clause-missing
returns-clause-missing c = λ on e. c.in_ok-end.ensures.missing on (c.in_ok-made.ensures.missing e)

pub returns-in_err-end-clause-causes : goal.returns-in_err-end-clause-causes
returns-in_err-end-clause-causes c =
    let b = c.args.search.now.budget in
    let k = c.args.course.node.question.conj in
    let stop = c.in_err-end.field-0.0 in
    if_err (StopsStanding b k (c.args.row.now ∷ [])) c.from_residual.result stop c.from_residual.ensures.1 (standing_here b k (c.args.row.now ∷ []) stop c.in_err-end.ensures.causes)
