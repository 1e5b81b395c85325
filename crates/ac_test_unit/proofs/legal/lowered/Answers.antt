use Rattle.ac_test_unit.proofs.legal.lowered.Goals as goal

pub lower-requires-clause-context : goal.lower-requires-clause-context
lower-requires-clause-context c = c.requires.context

pub returns-in-Ok : goal.returns-in-Ok
returns-in-Ok c = record { program = c.args.program.now; context = c.args.program.now.context; ready = c.requires; fit = c.requires.context; is = c.in-Ok.ensures.exact.1 }
