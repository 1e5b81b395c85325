use Rattle.std.proofs.Common.{◌++◌, ◌∷◌, [], List, subst, sym}
use Rattle.std.proofs.lemmas.Result.{IfErr-weaker}
use Rattle.ac_claims.specs.declared.types.Claim.{Claim}
use Rattle.ac_widen_programs.specs.PairPaths.{Unfolding}
use Rattle.ac_widen.specs.declared.derivation.Entry.{Entry}
use Rattle.ac_walk_state.specs.OrderKnowledge.{claims_of}
use Rattle.ac_walk_state.specs.Growth.{IsGrowthOf}
use Rattle.ac_walk_state.specs.GrowthStops.{StopsNext}
use Rattle.ac_walk_state.specs.GrowthStep.{BeginsIf, IsPathFor, Takes}
use Rattle.ac_walk_state.specs.declared.known.Known.{Known}
use Rattle.ac_walk_state.specs.declared.growth.Growth.{Growth}
use Rattle.ac_walk_state.proofs.LastItems.{if_ok}
use Rattle.ac_walk_state.proofs.Onward.{behind_grown, behind_nothing, path_later}
use Rattle.ac_walk_state.proofs.growth.take_next.Goals as goal

pub returns-in-Nothing-clause-takes : goal.returns-in-Nothing-clause-takes
returns-in-Nothing-clause-takes c =
    let t = c.args.template.now in
    let begin = c.args.begin.now in
    let path = c.args.path.now in
    let known = c.in-Nothing.known in
    if_ok (λ next. (u : Unfolding) (claims : List Claim) → IsPathFor u t claims known path → Takes u t claims known begin path next)
    (λ next. (u : Unfolding) (start : Known) (paths : List (List Entry)) → IsGrowthOf u t start paths c.args.growth → IsPathFor u t (claims_of start) start path → BeginsIf u t start path begin → IsGrowthOf u t start (paths ++ path ∷ []) next)
    c.take_path.result
    (λ next f u start paths h p b.
    let g = subst (IsGrowthOf u t start paths) c.in-Nothing.is h in
    behind_nothing u t start paths known begin path next g b (f u (claims_of start) (path_later u t start known path p g.is_known g.pairs)))
    c.take_path.ensures.takes

pub returns-in-Ok-clause-takes : goal.returns-in-Ok-clause-takes
returns-in-Ok-clause-takes c =
    λ u start paths h p b.
    let t = c.args.template.now in
    let begin = c.args.begin.now in
    let path = c.args.path.now in
    let known = c.in-Grown.known in
    let g = subst (IsGrowthOf u t start paths) c.in-Grown.is h in
    let takes = c.in-Ok.ensures.takes u (claims_of start) (path_later u t start known path p g.is_known g.pairs) in
    subst (IsGrowthOf u t start (paths ++ path ∷ [])) (sym c.as_grown.ensures) (behind_grown u t start paths known begin path c.in-Ok.growth g b takes)

pub returns-in-Nothing-clause-stops : goal.returns-in-Nothing-clause-stops
returns-in-Nothing-clause-stops c =
    IfErr-weaker c.take_path.result _ _ (λ stop f. subst (λ (r : Growth). StopsNext c.args.template.now c.args.path.now r stop) (sym c.in-Nothing.is) f) c.take_path.ensures.stops

pub returns-in-Err-clause-stops : goal.returns-in-Err-clause-stops
returns-in-Err-clause-stops c = subst (λ (r : Growth). StopsNext c.args.template.now c.args.path.now r c.in-Err.stop) (sym c.in-Grown.is) c.in-Err.ensures.stops
