use Rattle.std.proofs.Common.{◌≡◌, ◌++◌, [], List, ap, rules, arith}
use Rattle.std.proofs.lemmas.Grind.{common_steps}
use Rattle.ac_claims_paths.specs.declared.path.Path.{Path}
use Rattle.ac_unfold_table.specs.StartTraversal.{tasks_of}
use Rattle.ac_unfold_table.proofs.Tabling.{put_all, put_next, taken}
use Rattle.ac_unfold_table.proofs.unfolding.put.Goals as goal

pub loop-question-init : goal.loop-question-init
loop-question-init c = ap (λ (qs : List Path). c.args.tasks.now.items ++ tasks_of qs) c.into_vec-left.ensures

pub loop-question-preserved : goal.loop-question-preserved
loop-question-preserved c =
    put_next c.loop-question.left.items c.pop.new.self.items c.loop-question.tasks.items c.push.new.self.items _ c.in-Some.question c.loop-question.invariant
    (taken c.loop-question.left.items c.pop.new.self.items c.pop.result c.in-Some.question c.pop.ensures.items c.in-Some.is) c.in_ok-push.ensures.items

pub returns : goal.returns
returns c =
    let none_left : c.loop-question.left.items ≡ [] = first_of (search rules, grind (arith, common_steps)) in
    put_all c.loop-question.left.items c.loop-question.tasks.items _ c.loop-question.invariant none_left
