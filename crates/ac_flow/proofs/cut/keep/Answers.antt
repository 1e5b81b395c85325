use Rattle.ac_flow.proofs.cut.keep.Goals as goal

pub returns-in-Ok-true-clause-stops : goal.returns-in-Ok-true-clause-stops
returns-in-Ok-true-clause-stops c = c.push_kept.ensures.stops c.args.budget c.args.part
