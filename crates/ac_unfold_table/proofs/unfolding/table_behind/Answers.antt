use Rattle.std.proofs.Common.{◌≡◌, ◌∙◌, ◌++◌, ◌∷◌, [], List, ap, inr, rules, arith, subst, sym}
use Rattle.std.proofs.lemmas.Grind.{common_steps}
use Rattle.ac_claims.specs.declared.types.Claim.{Claim}
use Rattle.ac_claims_paths.specs.declared.path.Path.{Path}
use Rattle.ac_syntax.specs.declared.tree.Order.{Order}
use Rattle.ac_syntax.specs.declared.tree.Site.{Site}
use Rattle.ac_unfold_table.specs.QuestionLists.{questions_of}
use Rattle.ac_unfold_table.specs.StartTraversal.{IsUnderWay, tasks_of}
use Rattle.ac_unfold_table.specs.declared.unfolding.Task.{Task}
use Rattle.ac_unfold_table.proofs.Growing.{adds_same, adds_then}
use Rattle.ac_unfold_table.proofs.Tabling.{begun, gone_through, less_popped, taken}
use Rattle.ac_unfold_table.proofs.unfolding.table_behind.Goals as goal

pub loop-task-init : goal.loop-task-init
loop-task-init c =
    let s = c.args.program_flows.now in
    let t = c.args.table.now in
    let start = c.args.start.now in
    let questions = c.in_ok-questions.ensures ∙ ap (λ (o : List (Site × Order)). questions_of s o start) c.order.ensures in
    let tasks = c.in_ok-put.ensures ∙ ap (λ (xs : List Task). xs ++ tasks_of c.in_ok-questions.questions) c.new-tasks.ensures.items ∙ ap tasks_of questions in
    (adds_same s t, subst (λ (ms : List Claim). IsUnderWay s t start ms c.put.new.tasks.items) (sym c.new-met.ensures) (begun s t start c.put.new.tasks.items tasks))

pub take_task-requires : goal.take_task-requires
take_task-requires c =
    let l = c.loop-task in (
      c.args.start.now,
      subst (IsUnderWay c.args.program_flows.now l.table c.args.start.now l.met) (taken l.tasks.items c.pop.new.self.items c.pop.result c.in-Some.task c.pop.ensures.items c.in-Some.is) l.invariant.1,
    )

pub loop-task-preserved : goal.loop-task-preserved
loop-task-preserved c =
    let l = c.loop-task in
    let s = c.args.program_flows.now in
    let under = subst (IsUnderWay s l.table c.args.start.now l.met) (taken l.tasks.items c.pop.new.self.items c.pop.result c.in-Some.task c.pop.ensures.items c.in-Some.is) l.invariant.1 in
    (adds_then s c.args.table.now l.table c.take_task.new.table l.invariant.0 c.in_ok-stands.ensures.adds, (c.in_ok-stands.ensures.goes c.args.start.now under).1)

pub loop-task-smaller : goal.loop-task-smaller
loop-task-smaller c =
    let l = c.loop-task in
    let less = less_popped l.met l.tasks.items c.pop.new.self.items c.in-Some.task (taken l.tasks.items c.pop.new.self.items c.pop.result c.in-Some.task c.pop.ensures.items c.in-Some.is) in
    let ends = c.in_ok-stands.ensures.ends in
    omega (arith, less, ends)

pub returns-then-not-stands-clause-adds : goal.returns-then-not-stands-clause-adds
returns-then-not-stands-clause-adds c = adds_then c.args.program_flows.now c.args.table.now c.loop-task.table c.take_task.new.table c.loop-task.invariant.0 c.in_ok-stands.ensures.adds

pub returns-then-not-stands-clause-tabled : goal.returns-then-not-stands-clause-tabled
returns-then-not-stands-clause-tabled c =
    let l = c.loop-task in
    let s = c.args.program_flows.now in
    let under = subst (IsUnderWay s l.table c.args.start.now l.met) (taken l.tasks.items c.pop.new.self.items c.pop.result c.in-Some.task c.pop.ensures.items c.in-Some.is) l.invariant.1 in
    inr ((c.in_ok-stands.ensures.goes c.args.start.now under).0 c.if-not-stands.true)

pub returns-clause-tabled : goal.returns-clause-tabled
returns-clause-tabled c =
    let none : c.loop-task.tasks.items ≡ [] = first_of (search rules, grind (arith, common_steps)) in
    gone_through c.args.program_flows.now c.loop-task.table c.args.start.now c.loop-task.met c.loop-task.tasks.items none c.loop-task.invariant.1
