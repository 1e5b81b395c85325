use Rattle.std.proofs.Common.{◌≡◌, ◌∙◌, ◌++◌, ◌∷◌, [], List, ap, append_assoc}
use Rattle.ac_claims.specs.declared.types.Claim.{Claim}
use Rattle.ac_claims_paths.specs.declared.path.Path.{Path}
use Rattle.ac_syntax.specs.declared.tree.Order.{Order}
use Rattle.ac_syntax.specs.declared.tree.Site.{Site}
use Rattle.ac_unfold_table.specs.QuestionLists.{questions_of}
use Rattle.ac_unfold_table.specs.StartTraversal.{tasks_of}
use Rattle.ac_unfold_table.specs.declared.unfolding.Task.{Task}
use Rattle.ac_unfold_table.specs.declared.unfolding.Task.TheVariants.{Relation}
use Rattle.ac_unfold_table.proofs.Tabling.{less_met}
use Rattle.ac_unfold_table.proofs.unfolding.meet.Goals as goal

pub returns-clause-met : goal.returns-clause-met
returns-clause-met c = c.in_ok-push.ensures.ok ∙ ap (λ (x : Claim). c.args.met.now ++ x ∷ []) c.in_ok-copy_of.ensures

pub returns-clause-tasks : goal.returns-clause-tasks
returns-clause-tasks c =
    let s = c.args.program_flows.now in
    let r = c.args.relation in
    c.in_ok-put.ensures ∙ ap (λ (xs : List Task). xs ++ tasks_of c.in_ok-questions.questions) c.in_ok-push-2.ensures.items ∙ append_assoc c.args.tasks.now.items (Relation r ∷ []) (tasks_of c.in_ok-questions.questions)
    ∙ ap (λ (qs : List Path). c.args.tasks.now.items ++ Relation r ∷ tasks_of qs) (c.in_ok-questions.ensures ∙ ap (λ (o : List (Site × Order)). questions_of s o r) c.order.ensures)

pub returns-clause-ends : goal.returns-clause-ends
returns-clause-ends c =
    let r = c.args.relation in
    let met = c.in_ok-push.ensures.ok ∙ ap (λ (x : Claim). c.args.met.now ++ x ∷ []) c.in_ok-copy_of.ensures in
    let tasks = c.in_ok-put.ensures ∙ ap (λ (xs : List Task). xs ++ tasks_of c.in_ok-questions.questions) c.in_ok-push-2.ensures.items ∙ append_assoc c.args.tasks.now.items (Relation r ∷ []) (tasks_of c.in_ok-questions.questions) in
    less_met c.args.met.now c.push.new.self c.args.tasks.now.items c.put.new.tasks.items r c.in_ok-questions.questions c.len-met.result c.len-questions.result met tasks c.len-met.ensures c.len-met.type_inv c.len-questions.ensures c.len-questions.type_inv
