use Rattle.std.proofs.Common.{◌≡◌, ◌∷◌, [], List, None, arith, refl, rules, sym, subst}
use Rattle.std.proofs.lemmas.Grind.{common_steps}
use Rattle.std.specs.Prelude.{reverse}
use Rattle.ac_unfold.specs.EndResults.{FullUnder}
use Rattle.ac_unfold.specs.UnfoldStops.{Follows, StopsUnder}
use Rattle.ac_unfold.specs.UnfoldTasks.{At, Breaks, Goes, IsThere, On}
use Rattle.ac_unfold.specs.declared.tasks.Task.{Task}
use Rattle.ac_unfold.specs.declared.tasks.Task.TheVariants as task
use Rattle.ac_unfold.proofs.Full.{full_after, full_from}
use Rattle.ac_unfold.proofs.Stopped.{if_err, stops_from}
use Rattle.ac_unfold.proofs.TaskRuns.{breaks_missing, breaks_stand, breaks_under_way, end_made, end_missing, end_stands, top_leads, under_way, under_way_next, UnderWay}
use Rattle.ac_unfold.proofs.unfolding.visit.Goals as goal

pub loop-turn-init : goal.loop-turn-init
loop-turn-init c =
    let n = c.args.node in
    let one : c.push.new.self.items ≡ task.Visit n ∷ [] = search rules in
    subst (λ (xs : List Task). UnderWay c.args.search.now n (reverse xs) c.new-plans.result.items c.args.found_paths.now c.args.found_paths.now) (sym one) (under_way c.args.search.now n c.new-plans.result.items c.args.found_paths.now c.args.found_paths.now c.new-plans.ensures.items refl)

pub turn-requires : goal.turn-requires
turn-requires c = (top_leads c.args.search.now c.args.node c.loop-turn.tasks.items c.pop.new.self.items c.in-Some.task c.pop.result c.loop-turn.plans.items c.args.found_paths.now c.loop-turn.found_paths c.loop-turn.invariant c.pop.ensures.items c.in-Some.is).fits

pub loop-turn-preserved : goal.loop-turn-preserved
loop-turn-preserved c =
    under_way_next c.args.search.now c.args.node c.loop-turn.tasks.items c.pop.new.self.items c.put.new.tasks.items c.in-Some.task c.pop.result c.in_ok-goes.goes c.in-Some-goes.more c.loop-turn.plans.items c.turn.new.plans.items c.args.found_paths.now c.loop-turn.found_paths c.turn.new.found_paths
    c.loop-turn.invariant c.pop.ensures.items c.in-Some.is c.in_ok-goes.ensures.goes c.in-Some-goes.is c.in_ok-put.ensures

-- ---- all is done

pub returns-in_default-clause-missing : goal.returns-in_default-clause-missing
returns-in_default-clause-missing c =
    let none : c.loop-turn.tasks.items ≡ [] = first_of (search rules, grind (arith, common_steps)) in
    end_missing c.args.search.now c.args.node c.loop-turn.tasks.items c.loop-turn.plans.items c.last_plan.result c.args.found_paths.now c.loop-turn.found_paths c.loop-turn.invariant none c.last_plan.ensures.none

pub returns-in_default-clause-made : goal.returns-in_default-clause-made
returns-in_default-clause-made c =
    let none : c.loop-turn.tasks.items ≡ [] = first_of (search rules, grind (arith, common_steps)) in
    end_made c.args.search.now c.args.node c.loop-turn.tasks.items c.loop-turn.plans.items c.last_plan.result c.args.found_paths.now c.loop-turn.found_paths c.loop-turn.invariant none c.last_plan.ensures.last

pub returns-in_default-clause-stands : goal.returns-in_default-clause-stands
returns-in_default-clause-stands c =
    let none : c.loop-turn.tasks.items ≡ [] = first_of (search rules, grind (arith, common_steps)) in
    end_stands c.args.search.now c.args.node c.loop-turn.tasks.items c.loop-turn.plans.items c.args.found_paths.now c.loop-turn.found_paths c.loop-turn.invariant none

pub returns-in_default-clause-broken : goal.returns-in_default-clause-broken
returns-in_default-clause-broken c = c.loop-turn.invariant.broken

-- ---- a path is broken, and plans are made

pub returns-in_default-goes-clause-missing : goal.returns-in_default-goes-clause-missing
returns-in_default-goes-clause-missing c =
    let s = c.args.search.now in
    let breaks : Breaks s c.in-Some.task c.loop-turn.found_paths c.turn.new.found_paths = subst (Goes s c.in-Some.task c.loop-turn.plans.items c.turn.new.plans.items c.loop-turn.found_paths c.turn.new.found_paths) c.in_default-goes.is c.in_ok-goes.ensures.goes in
    breaks_missing s c.args.node c.in-Some.task c.args.found_paths.now c.loop-turn.found_paths c.turn.new.found_paths c.loop-turn.invariant.broken breaks None

pub returns-in_default-goes-clause-stands : goal.returns-in_default-goes-clause-stands
returns-in_default-goes-clause-stands c =
    let s = c.args.search.now in
    let breaks : Breaks s c.in-Some.task c.loop-turn.found_paths c.turn.new.found_paths = subst (Goes s c.in-Some.task c.loop-turn.plans.items c.turn.new.plans.items c.loop-turn.found_paths c.turn.new.found_paths) c.in_default-goes.is c.in_ok-goes.ensures.goes in
    breaks_stand s c.args.node c.in-Some.task c.args.found_paths.now c.turn.new.found_paths c.loop-turn.found_paths breaks

pub returns-in_default-goes-clause-broken : goal.returns-in_default-goes-clause-broken
returns-in_default-goes-clause-broken c =
    let s = c.args.search.now in
    let breaks : Breaks s c.in-Some.task c.loop-turn.found_paths c.turn.new.found_paths = subst (Goes s c.in-Some.task c.loop-turn.plans.items c.turn.new.plans.items c.loop-turn.found_paths c.turn.new.found_paths) c.in_default-goes.is c.in_ok-goes.ensures.goes in
    let leads = top_leads s c.args.node c.loop-turn.tasks.items c.pop.new.self.items c.in-Some.task c.pop.result c.loop-turn.plans.items c.args.found_paths.now c.loop-turn.found_paths c.loop-turn.invariant c.pop.ensures.items c.in-Some.is in
    breaks_under_way s c.args.node c.in-Some.task c.args.found_paths.now c.loop-turn.found_paths c.turn.new.found_paths c.loop-turn.invariant.broken leads breaks

-- ---- a task stops

pub returns-in_err-goes-clause-causes : goal.returns-in_err-goes-clause-causes
returns-in_err-goes-clause-causes c =
    let s = c.args.search.now in
    let n = c.args.node in
    let q = n.question in
    let stop = c.in_err-goes.field-0.0 in
    let leads = top_leads s c.args.node c.loop-turn.tasks.items c.pop.new.self.items c.in-Some.task c.pop.result c.loop-turn.plans.items c.args.found_paths.now c.loop-turn.found_paths c.loop-turn.invariant c.pop.ensures.items c.in-Some.is in
    if_err (StopsUnder s (Follows s n.pair_path q)) c.from_residual-in_err-goes.result stop c.from_residual-in_err-goes.ensures.1 (stops_from s (Follows s n.pair_path q) (On s c.in-Some.task) stop leads.on c.in_err-goes.ensures.causes)

pub returns-in_err-goes-clause-full : goal.returns-in_err-goes-clause-full
returns-in_err-goes-clause-full c =
    let s = c.args.search.now in
    let n = c.args.node in
    let There = IsThere s n.pair_path n.question in
    let stop = c.in_err-goes.field-0.0 in
    let leads = top_leads s n c.loop-turn.tasks.items c.pop.new.self.items c.in-Some.task c.pop.result c.loop-turn.plans.items c.args.found_paths.now c.loop-turn.found_paths c.loop-turn.invariant c.pop.ensures.items c.in-Some.is in
    if_err (FullUnder s There c.args.found_paths.now) c.from_residual-in_err-goes.result stop c.from_residual-in_err-goes.ensures.1
    (full_after s There c.args.found_paths.now c.loop-turn.found_paths stop c.loop-turn.invariant.broken (full_from s There (At s c.in-Some.task) c.loop-turn.found_paths stop (λ u of at. leads.at u of at.0) c.in_err-goes.ensures.full))
