use Rattle.ac_parse.proofs.Composing.{ready, small}
use Rattle.ac_parse.proofs.text_laws.programs_are_ready.Goals as goal

pub returns-clause-ready : goal.returns-clause-ready
returns-clause-ready c = ready

pub returns-clause-small : goal.returns-clause-small
returns-clause-small c = small
