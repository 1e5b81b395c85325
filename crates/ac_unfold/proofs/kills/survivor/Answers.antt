use Rattle.std.proofs.Common.{refl, rules}
use Rattle.std.proofs.lemmas.Result.{IfErr-weaker}
use Rattle.ac_unfold.specs.KillTraversal.{IsOutsideKills}
use Rattle.ac_unfold.specs.PlanResults.{IsMade}
use Rattle.ac_unfold.specs.EndResults.{FullUnder}
use Rattle.ac_unfold.specs.UnfoldStops.{FollowsCut, StopsUnder}
use Rattle.ac_unfold.specs.declared.tasks.Task.TheVariants as task
use Rattle.ac_unfold.specs.UnfoldTasks.{Place}
use Rattle.ac_unfold.proofs.Coming.{broken_from, on_ok}
use Rattle.ac_unfold.proofs.Full.{full_none}
use Rattle.ac_unfold.proofs.KillTasks.{made_of_kills, survivor_visited}
use Rattle.ac_unfold.proofs.PairTasks.{all_ended, ended_stops, if_all, unfolds_goes}
use Rattle.ac_unfold.proofs.Passing.{last_broken, nothing_left}
use Rattle.ac_unfold.proofs.Places.{asking_stops, survivor_stops}
use Rattle.ac_unfold.proofs.Results.{all_refuted_made}
use Rattle.ac_unfold.proofs.kills.survivor.Goals as goal

pub returns-then-is_empty-clause-goes : goal.returns-then-is_empty-clause-goes
returns-then-is_empty-clause-goes c =
    let s = c.args.search.now in
    let k = c.args.case.now in
    let n = c.args.node in
    let made = c.refuted-made.result in
    let t = task.Kills n c.args.case c.args.number in
    all_ended s t c.ended.result made (IsMade s n.embedding n.question) c.args.plans.now.items c.ended.new.plans.items c.args.found_paths.now c.refuted-made.new.found_paths c.ended.ensures.ends (made_of_kills s n c.args.case c.args.number)
    c.refuted-made.ensures.missing (all_refuted_made made s n.embedding n.question c.refuted-made.ensures.made) (if_all made _)
    (on_ok made _ _ (λ h. broken_from s (Place s t) (IsOutsideKills s k c.args.number n.pair_path n.question) _ _ (λ u of at. at.0) (last_broken s k c.args.number n.pair_path n.question _ _ c.requires (nothing_left s k n.pair_path n.question _ _ (search rules) h))) c.refuted-made.ensures.found)

pub returns-then-is_empty-clause-causes : goal.returns-then-is_empty-clause-causes
returns-then-is_empty-clause-causes c =
    let s = c.args.search.now in
    let q = c.args.node.question in
    ended_stops c.ended.result c.refuted-made.result (StopsUnder s (FollowsCut s c.args.case.now c.args.number 0 c.args.node.pair_path q)) (λ want. tt) c.ended.ensures.stops (survivor_stops c.refuted-made.result s c.args.case.now c.args.number 0 c.args.node.pair_path q (asking_stops c.refuted-made.result s c.args.node.pair_path q c.refuted-made.ensures.causes))

pub returns-then-is_empty-clause-full : goal.returns-then-is_empty-clause-full
returns-then-is_empty-clause-full c =
    let s = c.args.search.now in
    let k = c.args.case.now in
    let n = c.args.node in
    let There = IsOutsideKills s k c.args.number n.pair_path n.question in
    ended_stops c.ended.result c.refuted-made.result (FullUnder s There c.args.found_paths.now) (λ want. tt) c.ended.ensures.stops (IfErr-weaker c.refuted-made.result _ _ (full_none s There c.args.found_paths.now) c.refuted-made.ensures.full)

pub returns-clause-goes : goal.returns-clause-goes
returns-clause-goes c =
    let s = c.args.search.now in
    let n = c.args.node in
    let plans = c.args.plans.now.items in
    unfolds_goes s (task.Kills n c.args.case c.args.number) c.in_ok-more.more.items plans plans _ _ refl (survivor_visited s n c.args.case c.args.number c.in_ok-more.more.items c.in_ok-more.ensures c.requires plans)
