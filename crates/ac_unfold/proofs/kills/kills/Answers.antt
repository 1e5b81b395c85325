use Rattle.std.proofs.Common.{rules, refl, sym}
use Rattle.ac_unfold.specs.KillTraversal.{IsOutsideKills}
use Rattle.ac_unfold.specs.UnfoldStops.{FollowsCut, StopsUnder}
use Rattle.ac_unfold.specs.declared.tasks.Task.TheVariants as task
use Rattle.ac_unfold.proofs.Missing.{none_behind}
use Rattle.ac_unfold.proofs.PairTasks.{onward_full, onward_moves, onward_stops}
use Rattle.ac_unfold.proofs.kills.kills.Goals as goal

pub survivor-requires : goal.survivor-requires
survivor-requires c = none_behind c.args.case.now.kills c.args.number (search rules)

pub next_kill-requires : goal.next_kill-requires
next_kill-requires c = record { kill = sym c.in-Some.ensures.value; assumes = c.requires }

pub returns-clause-goes : goal.returns-clause-goes
returns-clause-goes c = onward_moves c.args.search.now (task.Kills c.args.node c.args.case c.args.number) c.onward.result c.next_kill.result c.args.plans.now.items _ _ c.onward.ensures refl c.next_kill.ensures.moves

pub returns-clause-causes : goal.returns-clause-causes
returns-clause-causes c = onward_stops c.onward.result c.next_kill.result (StopsUnder c.args.search.now (FollowsCut c.args.search.now c.args.case.now c.args.number 0 c.args.node.pair_path c.args.node.question)) c.onward.ensures c.next_kill.ensures.causes

pub returns-clause-full : goal.returns-clause-full
returns-clause-full c =
    let n = c.args.node in
    onward_full c.args.search.now (IsOutsideKills c.args.search.now c.args.case.now c.args.number n.pair_path n.question) c.args.found_paths.now c.onward.result c.next_kill.result c.onward.ensures c.next_kill.ensures.never
