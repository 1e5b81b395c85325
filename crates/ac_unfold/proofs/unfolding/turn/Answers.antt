use Rattle.std.proofs.Common.{Some, refl, sym, subst}
use Rattle.std.specs.Prelude.{IfErr, IfOk}
use Rattle.ac_unfold.specs.EndResults.{FullUnder}
use Rattle.ac_unfold.specs.UnfoldStops.{StopsUnder}
use Rattle.ac_unfold.specs.UnfoldTasks.{At, Goes, IsReady, On, Unfolds}
use Rattle.ac_unfold.specs.declared.tasks.Task.{Task}
use Rattle.ac_unfold.specs.declared.tasks.Task.TheVariants as task
use Rattle.ac_unfold.proofs.KillTasks.{closed_unfolds}
use Rattle.ac_unfold.proofs.PairTasks.{onward_full, onward_goes, onward_moves, onward_stops, unfolds_goes}
use Rattle.ac_unfold.proofs.unfolding.turn.Goals as goal

-- ---- how the task goes on

pub returns-in-Visit-clause-goes : goal.returns-in-Visit-clause-goes
returns-in-Visit-clause-goes c = subst (λ (t : Task). IfOk c.unfold_pair.result (Goes c.args.search.now t c.args.plans.now.items c.unfold_pair.new.plans.items c.args.found_paths.now c.unfold_pair.new.found_paths)) (sym c.in-Visit.is) c.unfold_pair.ensures.goes

pub returns-in_ok-more-in-Rest-clause-goes : goal.returns-in_ok-more-in-Rest-clause-goes
returns-in_ok-more-in-Rest-clause-goes c =
    let s = c.args.search.now in
    let plans = c.args.plans.now.items in
    let more = c.in_ok-more-in-Rest.more.items in
    let unfolds : Unfolds s (task.Rest c.in-Rest.node) more plans plans = record { lead = c.in_ok-more-in-Rest.ensures.lead; makes = λ making last run. tt; holds = λ finding all. c.in_ok-more-in-Rest.ensures.holds all } in
    subst (λ (t : Task). Goes s t plans plans c.args.found_paths.now c.args.found_paths.now (Some c.in_ok-more-in-Rest.more)) (sym c.in-Rest.is) (unfolds_goes s (task.Rest c.in-Rest.node) more plans plans _ _ refl unfolds)

pub returns-in-Case-clause-goes : goal.returns-in-Case-clause-goes
returns-in-Case-clause-goes c =
    let s = c.args.search.now in
    let plans = c.args.plans.now.items in
    let t = task.Case c.in-Case.node c.in-Case.case in
    subst (λ (t : Task). IfOk c.onward.result (Goes s t plans plans c.args.found_paths.now c.args.found_paths.now)) (sym c.in-Case.is) (onward_moves s t c.onward.result c.enter.result plans _ _ c.onward.ensures refl c.enter.ensures.moves)

pub returns-in_ok-more-in-Outside-clause-goes : goal.returns-in_ok-more-in-Outside-clause-goes
returns-in_ok-more-in-Outside-clause-goes c =
    let s = c.args.search.now in
    let before = c.args.plans.now.items in
    let after = c.outside.new.plans.items in
    let more = c.in_ok-more-in-Outside.more in
    let t = task.Outside c.in-Outside.node c.in-Outside.case c.in-Outside.number in
    subst (λ (t : Task). Goes s t before after c.args.found_paths.now c.args.found_paths.now (Some more)) (sym c.in-Outside.is) (unfolds_goes s t more.items before after _ _ refl c.in_ok-more-in-Outside.ensures)

pub returns-in-Kills-clause-goes : goal.returns-in-Kills-clause-goes
returns-in-Kills-clause-goes c = subst (λ (t : Task). IfOk c.kills.result (Goes c.args.search.now t c.args.plans.now.items c.kills.new.plans.items c.args.found_paths.now c.kills.new.found_paths)) (sym c.in-Kills.is) c.kills.ensures.goes

pub enter-requires : goal.enter-requires
enter-requires c = subst (IsReady c.args.search.now) c.in-Case.is c.requires

pub outside-requires : goal.outside-requires
outside-requires c = subst (IsReady c.args.search.now) c.in-Outside.is c.requires

pub kills-requires : goal.kills-requires
kills-requires c = subst (IsReady c.args.search.now) c.in-Kills.is c.requires

pub cut-requires : goal.cut-requires
cut-requires c = subst (IsReady c.args.search.now) c.in-Cut.is c.requires

pub returns-in-Cut-clause-goes : goal.returns-in-Cut-clause-goes
returns-in-Cut-clause-goes c =
    let s = c.args.search.now in
    let before = c.args.plans.now.items in
    let after = c.cut.new.plans.items in
    let t = task.Cut c.in-Cut.at in
    subst (λ (t : Task). IfOk c.onward-in-Cut.result (Goes s t before after c.args.found_paths.now c.args.found_paths.now)) (sym c.in-Cut.is) (onward_goes s t c.onward-in-Cut.result c.cut.result before after _ _ c.onward-in-Cut.ensures refl c.cut.ensures.unfolds)

pub returns-in_ok-more-in-Step-clause-goes : goal.returns-in_ok-more-in-Step-clause-goes
returns-in_ok-more-in-Step-clause-goes c =
    let s = c.args.search.now in
    let before = c.args.plans.now.items in
    let after = c.close_step.new.plans.items in
    let more = c.in_ok-more-in-Step.more in
    let t = task.Step c.in-Step.order c.in-Step.around in
    subst (λ (t : Task). Goes s t before after c.args.found_paths.now c.args.found_paths.now (Some more)) (sym c.in-Step.is)
    (unfolds_goes s t more.items before after _ _ refl (closed_unfolds s t more.items before after c.in_ok-more-in-Step.ensures.none (λ making. c.in_ok-more-in-Step.ensures.closes) (λ finding. tt)))

pub returns-in_ok-more-in-Branch-clause-goes : goal.returns-in_ok-more-in-Branch-clause-goes
returns-in_ok-more-in-Branch-clause-goes c =
    let s = c.args.search.now in
    let before = c.args.plans.now.items in
    let after = c.close_branch.new.plans.items in
    let more = c.in_ok-more-in-Branch.more in
    let t = task.Branch c.in-Branch.embedding c.in-Branch.row c.in-Branch.around in
    subst (λ (t : Task). Goes s t before after c.args.found_paths.now c.args.found_paths.now (Some more)) (sym c.in-Branch.is)
    (unfolds_goes s t more.items before after _ _ refl (closed_unfolds s t more.items before after c.in_ok-more-in-Branch.ensures.none (λ making. c.in_ok-more-in-Branch.ensures.closes) (λ finding. tt)))

-- ---- why it stops

pub returns-in-Visit-clause-causes : goal.returns-in-Visit-clause-causes
returns-in-Visit-clause-causes c = subst (λ (t : Task). IfErr c.unfold_pair.result (StopsUnder c.args.search.now (On c.args.search.now t))) (sym c.in-Visit.is) c.unfold_pair.ensures.causes

pub returns-in-Case-clause-causes : goal.returns-in-Case-clause-causes
returns-in-Case-clause-causes c =
    let s = c.args.search.now in
    let t = task.Case c.in-Case.node c.in-Case.case in
    subst (λ (t : Task). IfErr c.onward.result (StopsUnder s (On s t))) (sym c.in-Case.is) (onward_stops c.onward.result c.enter.result (StopsUnder s (On s t)) c.onward.ensures c.enter.ensures.causes)

pub returns-in-Kills-clause-causes : goal.returns-in-Kills-clause-causes
returns-in-Kills-clause-causes c = subst (λ (t : Task). IfErr c.kills.result (StopsUnder c.args.search.now (On c.args.search.now t))) (sym c.in-Kills.is) c.kills.ensures.causes

pub returns-in-Cut-clause-causes : goal.returns-in-Cut-clause-causes
returns-in-Cut-clause-causes c =
    let s = c.args.search.now in
    let t = task.Cut c.in-Cut.at in
    subst (λ (t : Task). IfErr c.onward-in-Cut.result (StopsUnder s (On s t))) (sym c.in-Cut.is) (onward_stops c.onward-in-Cut.result c.cut.result (StopsUnder s (On s t)) c.onward-in-Cut.ensures c.cut.ensures.causes)

-- ---- too many paths

pub returns-in-Visit-clause-full : goal.returns-in-Visit-clause-full
returns-in-Visit-clause-full c = subst (λ (t : Task). IfErr c.unfold_pair.result (FullUnder c.args.search.now (At c.args.search.now t) c.args.found_paths.now)) (sym c.in-Visit.is) c.unfold_pair.ensures.full

pub returns-in-Case-clause-full : goal.returns-in-Case-clause-full
returns-in-Case-clause-full c = onward_full c.args.search.now (At c.args.search.now c.args.task) c.args.found_paths.now c.onward.result c.enter.result c.onward.ensures c.enter.ensures.never

pub returns-in-Kills-clause-full : goal.returns-in-Kills-clause-full
returns-in-Kills-clause-full c = subst (λ (t : Task). IfErr c.kills.result (FullUnder c.args.search.now (At c.args.search.now t) c.args.found_paths.now)) (sym c.in-Kills.is) c.kills.ensures.full

pub returns-in-Cut-clause-full : goal.returns-in-Cut-clause-full
returns-in-Cut-clause-full c = onward_full c.args.search.now (At c.args.search.now c.args.task) c.args.found_paths.now c.onward-in-Cut.result c.cut.result c.onward-in-Cut.ensures c.cut.ensures.never
