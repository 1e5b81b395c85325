use Rattle.ac_walk_state.proofs.partial.listed.Goals as goal

pub loop-choice-preserved : goal.loop-choice-preserved
loop-choice-preserved c = c.in_ok-push_choice.ensures.right c.loop-choice.invariant
