use Rattle.ac_top.proofs.sources.program_of.Goals as goal

pub returns-in-Ok : goal.returns-in-Ok
returns-in-Ok c =
    (c.in-Ok.ensures.program, record { ready = c.in-Ok.ensures.ready; small = c.in-Ok.ensures.small; parameters = c.in-Ok.ensures.parameters })
