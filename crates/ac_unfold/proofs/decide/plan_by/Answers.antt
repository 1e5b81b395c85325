use Rattle.ac_unfold_plans.proofs.Heeding.{certificates_use_tabled}
use Rattle.ac_unfold_plans.proofs.Stopping.{certificates_stop}
use Rattle.ac_unfold.proofs.decide.plan_by.Goals as goal

pub returns : goal.returns
returns c = record {
  plan = λ g cs h follows formed. c.in_ok-plan.ensures.serves g cs h c.args.node.now.question.conj c.requires.made c.requires.accepted h.conj follows.stands formed.made;
  stops = record {
    stops = certificates_stop c.args.node.now.embedding c.args.tree.now c.in_ok-plan.plan c.in_ok-plan.ensures.moved;
    uses_tabled = certificates_use_tabled c.args.node.now.embedding c.args.tree.now c.in_ok-plan.plan c.in_ok-plan.ensures.moved;
  };
}
