use Rattle.std.proofs.Common.{List}
use Rattle.std.proofs.lemmas.Result.{IfErr-weaker}
use Rattle.ac_claims.specs.declared.types.Claim.{Claim}
use Rattle.ac_widen_programs.specs.PairPaths.{Unfolding}
use Rattle.ac_walk_state.specs.declared.template.Template.{Template}
use Rattle.ac_walk_state.specs.GrowthStep.{IsPathFor, Takes}
use Rattle.ac_walk_state.proofs.LastItems.{if_ok}
use Rattle.ac_walk_state.proofs.growth.take_path.Goals as goal

pub returns-in_default-clause-takes : goal.returns-in_default-clause-takes
returns-in_default-clause-takes c =
    let known = c.args.known in
    let begin = c.args.begin.now in
    let path = c.args.path.now in
    if_ok (λ growth. (u : Unfolding) (t : Template) (claims : List Claim) → IsPathFor u t claims known path → Takes u t claims known begin path growth)
    (λ growth. (u : Unfolding) (claims : List Claim) → IsPathFor u c.args.template.now claims known path → Takes u c.args.template.now claims known begin path growth)
    c.take_mismatch.result (λ growth f u claims h. f u c.args.template.now claims h) c.take_mismatch.ensures.takes

pub returns-in-None-clause-takes : goal.returns-in-None-clause-takes
returns-in-None-clause-takes c =
    let known = c.args.known in
    let begin = c.args.begin.now in
    let path = c.args.path.now in
    if_ok (λ growth. (u : Unfolding) (t : Template) (claims : List Claim) → IsPathFor u t claims known path → Takes u t claims known begin path growth)
    (λ growth. (u : Unfolding) (claims : List Claim) → IsPathFor u c.args.template.now claims known path → Takes u c.args.template.now claims known begin path growth)
    c.take_mismatch-in-None.result (λ growth f u claims h. f u c.args.template.now claims h) c.take_mismatch-in-None.ensures.takes

pub returns-in_default-clause-stops : goal.returns-in_default-clause-stops
returns-in_default-clause-stops c = IfErr-weaker c.take_mismatch.result _ _ (λ stop f. f c.args.template.now c.args.known.widening_points.items) c.take_mismatch.ensures.stops

pub returns-in-None-clause-stops : goal.returns-in-None-clause-stops
returns-in-None-clause-stops c = IfErr-weaker c.take_mismatch-in-None.result _ _ (λ stop f. f c.args.template.now c.args.known.widening_points.items) c.take_mismatch-in-None.ensures.stops
