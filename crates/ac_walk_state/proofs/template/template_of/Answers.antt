use Rattle.ac_walk_state.proofs.Templates.{moduli_positive}
use Rattle.ac_walk_state.proofs.template.template_of.Goals as goal

pub returns-clause-moduli : goal.returns-clause-moduli
returns-clause-moduli c = moduli_positive c.args.pair.now c.in_ok-moduli.field-0 c.in_ok-moduli.ensures
