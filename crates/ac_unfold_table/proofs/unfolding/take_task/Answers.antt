use Rattle.std.proofs.Common.{◌≡◌, ◌⊎◌, ◌++◌, ◌∷◌, [], Bool, false, true, refl, subst, sym}
use Rattle.ac_claims.specs.declared.types.Claim.{Claim}
use Rattle.ac_unfold_table.specs.StepQuestions.{judge}
use Rattle.ac_unfold_table.specs.StartTraversal.{IsUnderWay}
use Rattle.ac_unfold_table.specs.TableCoverage.{AreCalls, Fails, IsCovered, IsHindered}
use Rattle.ac_unfold_table.specs.declared.unfolding.Task.{Task}
use Rattle.ac_unfold_table.proofs.Growing.{adds_same}
use Rattle.ac_unfold_table.proofs.Tabling.{if_each, question_behind, relation_done, relation_free}
use Rattle.ac_unfold_table.proofs.unfolding.take_task.Goals as goal

pub take_question-requires : goal.take_question-requires
take_question-requires c = question_behind c.args.program_flows.now c.args.table.now c.requires.0 c.args.met.now c.args.tasks.now.items c.args.task c.in-Question.question c.in-Question.is c.requires.1

pub take_relation-requires : goal.take_relation-requires
take_relation-requires c =
    let s = c.args.program_flows.now in
    let t = c.args.table.now in
    relation_free s t c.requires.0 c.args.met.now c.args.tasks.now.items c.in-Relation.relation (subst (λ (x : Task). IsUnderWay s t c.requires.0 c.args.met.now (c.args.tasks.now.items ++ x ∷ [])) c.in-Relation.is c.requires.1)

pub returns-in_ok-take_question-in-Question-clause-adds : goal.returns-in_ok-take_question-in-Question-clause-adds
returns-in_ok-take_question-in-Question-clause-adds c = adds_same c.args.program_flows.now c.args.table.now

pub returns-in_ok-take_question-in-Question-clause-goes : goal.returns-in_ok-take_question-in-Question-clause-goes
returns-in_ok-take_question-in-Question-clause-goes c =
    let s = c.args.program_flows.now in
    let t = c.args.table.now in
    λ start under. (
      λ fails. (let x : true ≡ false = fails in absurd cc),
      c.in_ok-take_question-in-Question.ensures.goes start (subst (λ (x : Task). IsUnderWay s t start c.args.met.now (c.args.tasks.now.items ++ x ∷ [])) c.in-Question.is under),
    )

pub returns-in-Relation-clause-goes : goal.returns-in-Relation-clause-goes
returns-in-Relation-clause-goes c =
    let s = c.args.program_flows.now in
    let old = c.args.table.now in
    let new = c.take_relation.new.table in
    let met = c.args.met.now in
    let tasks = c.args.tasks.now.items in
    let r = c.in-Relation.relation in
    if_each c.take_relation.result (λ (b : Bool). Fails s old.order old.claims r ⊎ ((b ≡ true) × (AreCalls (judge s) r → IsCovered new.tabled r)))
    (λ (b : Bool). (start : Claim) → IsUnderWay s old start met (tasks ++ c.args.task ∷ []) → (b ≡ false → IsHindered s new.order new.claims start) × IsUnderWay s new start met tasks)
    (λ b done start under. relation_done s old new start met tasks r b c.take_relation.ensures.adds.kept done (subst (λ (x : Task). IsUnderWay s old start met (tasks ++ x ∷ [])) c.in-Relation.is under)) c.take_relation.ensures.done
