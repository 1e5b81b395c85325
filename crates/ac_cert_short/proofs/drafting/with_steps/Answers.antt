use Rattle.ac_cert_short.specs.Drafts.{draft_nodes}
use Rattle.ac_cert_short.proofs.Shapes.{step_room, steps_next, popped}
use Rattle.ac_cert_short.proofs.drafting.with_steps.Goals as goal

pub with_step-requires : goal.with_step-requires
with_step-requires c =
    step_room c.args.steps c.loop-last.left.items c.pop.new.self.items c.in-Some.last c.args.uses.now.items c.loop-last.uses.items (draft_nodes c.args.draft) (draft_nodes c.loop-last.made) c.loop-last.invariant (popped c.loop-last.left.items c.pop.new.self.items c.pop.result c.in-Some.last c.pop.ensures.items c.in-Some.is) c.requires

pub loop-last-preserved : goal.loop-last-preserved
loop-last-preserved c =
    steps_next c.args.steps c.loop-last.left.items c.pop.new.self.items c.in-Some.last c.args.uses.now.items c.loop-last.uses.items c.with_step.new.uses.items (draft_nodes c.args.draft) (draft_nodes c.loop-last.made) (draft_nodes c.in_ok-made.made) c.loop-last.invariant (popped c.loop-last.left.items c.pop.new.self.items c.pop.result c.in-Some.last c.pop.ensures.items c.in-Some.is) c.requires c.in_ok-made.ensures.long c.in_ok-made.ensures.drafted
