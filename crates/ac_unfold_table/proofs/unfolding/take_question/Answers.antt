use Rattle.std.proofs.Common.{◌≡◌, List, Option, subst}
use Rattle.std.specs.Prelude.{MatchOption}
use Rattle.ac_claims.specs.declared.types.Claim.{Claim}
use Rattle.ac_unfold_table.specs.StepQuestions.{judge}
use Rattle.ac_unfold_table.specs.QuestionRelations.{HasNoRelation, IsRelationOf}
use Rattle.ac_unfold_table.specs.StartTraversal.{IsMet}
use Rattle.ac_unfold_table.proofs.Seated.{question_seated}
use Rattle.ac_unfold_table.proofs.Tabling.{question_met, question_related, question_unrelated}
use Rattle.ac_unfold_table.proofs.unfolding.take_question.Goals as goal

pub relation_of-requires : goal.relation_of-requires
relation_of-requires c = question_seated c.args.program_flows.now c.args.table.now.order c.requires.0 c.args.question.now c.requires.1

pub returns-in_default-clause-goes : goal.returns-in_default-clause-goes
returns-in_default-clause-goes c =
    let s = c.args.program_flows.now in
    let q = c.args.question.now in
    let none = subst (λ (o : Option Claim). MatchOption o (HasNoRelation s.budget (judge s).params q) (IsRelationOf (judge s).params q)) c.in_default.is c.in_ok-relation.ensures in
    λ start under. question_unrelated s c.args.table.now start c.args.met.now c.args.tasks.now.items q none under

pub returns-then-is_met-clause-goes : goal.returns-then-is_met-clause-goes
returns-then-is_met-clause-goes c =
    let s = c.args.program_flows.now in
    let q = c.args.question.now in
    let is = subst (λ (o : Option Claim). MatchOption o (HasNoRelation s.budget (judge s).params q) (IsRelationOf (judge s).params q)) c.in-Some.is c.in_ok-relation.ensures in
    λ start under. question_met s c.args.table.now start c.args.met.now c.args.tasks.now.items q c.in-Some.relation is (subst (λ (ms : List Claim). IsMet c.args.table.now ms c.in-Some.relation) c.as_slice.ensures (c.is_met.ensures.met c.if-is_met.true)) under

pub returns-clause-goes : goal.returns-clause-goes
returns-clause-goes c =
    let s = c.args.program_flows.now in
    let q = c.args.question.now in
    let is = subst (λ (o : Option Claim). MatchOption o (HasNoRelation s.budget (judge s).params q) (IsRelationOf (judge s).params q)) c.in-Some.is c.in_ok-relation.ensures in
    λ start under. question_related s c.args.table.now start c.args.met.now c.meet.new.met c.args.tasks.now.items c.meet.new.tasks.items q c.in-Some.relation is (c.is_met.ensures.free c.if-is_met.false) c.in_ok-meet.ensures.met c.in_ok-meet.ensures.tasks under
