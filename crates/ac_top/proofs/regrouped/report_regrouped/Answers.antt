use Rattle.ac_top.proofs.regrouped.report_regrouped.Goals as goal

pub report_answered-requires : goal.report_answered-requires
report_answered-requires c = record { asked = record { chains = c.requires.chains; fault = c.requires.fault; read = c.requires.read; arities = c.requires.arities; lowered = c.requires.lowered } }
