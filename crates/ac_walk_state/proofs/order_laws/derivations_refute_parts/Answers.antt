use Rattle.ac_widen_programs.specs.PairSetting.{setting}
use Rattle.ac_walk_state.proofs.Orders.{refutes_part}
use Rattle.ac_walk_state.proofs.order_laws.derivations_refute_parts.Goals as goal

pub returns : goal.returns
returns c = λ pair outputs recurrent template. refutes_part (setting pair outputs recurrent template)
