use Rattle.std.proofs.Common.{◌∷◌, [], Option, subst, ap, ◌∙◌}
use Rattle.ac_claims_plans.specs.BranchSides.{AreSides}
use Rattle.ac_claims_plans.specs.declared.branching.Parts.{Parts}
use Rattle.ac_unfold.specs.EndRows.{IsClosed}
use Rattle.ac_unfold.specs.UnfoldStops.{StopsStanding}
use Rattle.ac_unfold.specs.declared.ends.Closed.{Closed}
use Rattle.ac_unfold.specs.PlanResults.{judge_of}
use Rattle.ac_unfold.specs.BrokenPathResults.{IsNone}
use Rattle.ac_unfold.proofs.Failing.{breaking_beside}
use Rattle.ac_unfold.proofs.Reaching.{hands_by}
use Rattle.ac_unfold.proofs.Results.{branched}
use Rattle.ac_unfold.proofs.Stopped.{if_err, row_unbranched, standing_lacks, standing_side}
use Rattle.ac_unfold.specs.UnbrokenResults.{AreEmpty, FindsNone, IsAllRefuted}
use Rattle.ac_unfold.proofs.Unbroken.{refuted_holds}
use Rattle.ac_unfold.proofs.ends.stand_branched.Goals as goal

pub parts_of-requires : goal.parts_of-requires
parts_of-requires c = c.requires.over

pub returns-in_ok-next-in-Refuted-clause-stood : goal.returns-in_ok-next-in-Refuted-clause-stood
returns-in_ok-next-in-Refuted-clause-stood c =
    let n = c.args.course.node.question.conj.columns in
    branched c.args.search.now c.args.course c.in_ok-next-in-Refuted.next c.args.row.now c.in-Refuted.outside.items c.in-Some.parts c.as_slice.result.now
    (subst (λ (o : Option Parts). AreSides n c.args.row.now o) c.in-Some.is c.in_ok-parts.ensures) c.as_slice.ensures
    (subst (λ (x : Closed). IsClosed c.args.search.now c.args.course.node c.as_slice.result.now x) c.in-Refuted.is c.in_ok-closed.ensures.closed)
    c.in_ok-next-in-Refuted.ensures.with_branch c.in_ok-next-in-Refuted.ensures.question c.in_ok-next-in-Refuted.ensures.embedding c.requires

pub returns-in-Broken-clause-found : goal.returns-in-Broken-clause-found
returns-in-Broken-clause-found c =
    let course = c.args.course in
    let n = course.node.question.conj.columns in
    let sides = subst (λ (o : Option Parts). AreSides n c.args.row.now o) c.in-Some.is c.in_ok-parts.ensures in
    breaking_beside IsNone (judge_of c.args.search.now).params course.node.pair_path course.node.question.conj c.args.row.now c.as_slice.result.now _ _ c.requires.over (c.as_slice.ensures ∙ ap (λ (x : Parts). x.outside) sides.1) c.in_ok-closed.ensures.found

pub returns-in_ok-next-in-Refuted-clause-found : goal.returns-in_ok-next-in-Refuted-clause-found
returns-in_ok-next-in-Refuted-clause-found c =
    let course = c.args.course in
    let n = course.node.question.conj.columns in
    let sides = subst (λ (o : Option Parts). AreSides n c.args.row.now o) c.in-Some.is c.in_ok-parts.ensures in
    breaking_beside IsNone (judge_of c.args.search.now).params course.node.pair_path course.node.question.conj c.args.row.now c.as_slice.result.now _ _ c.requires.over (c.as_slice.ensures ∙ ap (λ (x : Parts). x.outside) sides.1) c.in_ok-closed.ensures.found

pub returns-in_default-clause-causes : goal.returns-in_default-clause-causes
returns-in_default-clause-causes c =
    let k = c.args.course.node.question.conj in
    let row = c.args.row.now in
    standing_lacks c.args.search.now.budget k (row ∷ []) c.too_wide.result c.too_wide.ensures (row_unbranched k.columns row (subst (λ (o : Option Parts). AreSides k.columns row o) c.in_default.is c.in_ok-parts.ensures))

pub returns-in_err-closed-clause-causes : goal.returns-in_err-closed-clause-causes
returns-in_err-closed-clause-causes c =
    let b = c.args.search.now.budget in
    let k = c.args.course.node.question.conj in
    let row = c.args.row.now in
    let stop = c.in_err-closed.field-0.0 in
    let sides = subst (λ (o : Option Parts). AreSides k.columns row o) c.in-Some.is c.in_ok-parts.ensures in
    if_err (StopsStanding b k (row ∷ [])) c.from_residual-in_err-closed.result stop c.from_residual-in_err-closed.ensures.1
    (standing_side b k row c.as_slice.result.now stop (c.as_slice.ensures ∙ ap (λ (x : Parts). x.outside) sides.1) c.in_err-closed.ensures.causes)

pub returns-in_default-clause-full : goal.returns-in_default-clause-full
returns-in_default-clause-full c = hands_by IsNone c.args.found_paths.now.ended c.args.course.node.question.conj (Unit {0}) c.too_wide.result c.too_wide.ensures

-- ---- where no further path is found

pub returns-in-Broken-clause-met : goal.returns-in-Broken-clause-met
returns-in-Broken-clause-met c = λ made none.
    let q = c.args.course.node.question.conj in
    absurd (subst (λ (x : Closed). FindsNone c.args.search.now c.args.found_paths.now c.refute_parts.new.found_paths → IsAllRefuted q c.as_slice.result.now x) c.in-Broken.is c.in_ok-closed.ensures.empty none)

pub returns-in_ok-next-in-Refuted-clause-met : goal.returns-in_ok-next-in-Refuted-clause-met
returns-in_ok-next-in-Refuted-clause-met c = λ made none.
    let q = c.args.course.node.question.conj in
    let sides = subst (λ (o : Option Parts). AreSides q.columns c.args.row.now o) c.in-Some.is c.in_ok-parts.ensures in
    let empty : AreEmpty q c.as_slice.result.now = subst (λ (x : Closed). FindsNone c.args.search.now c.args.found_paths.now c.refute_parts.new.found_paths → IsAllRefuted q c.as_slice.result.now x) c.in-Refuted.is c.in_ok-closed.ensures.empty none in
    refuted_holds q c.args.row.now c.as_slice.result.now made c.requires.over (c.as_slice.ensures ∙ ap (λ (x : Parts). x.outside) sides.1) empty
