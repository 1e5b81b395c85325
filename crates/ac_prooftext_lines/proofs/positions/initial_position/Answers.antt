use Rattle.ac_prooftext_lines.proofs.Places.{no_initial}
use Rattle.ac_prooftext_lines.proofs.positions.initial_position.Goals as goal

pub returns-in_default-node_of : goal.returns-in_default-node_of
returns-in_default-node_of c = no_initial c.args.word.now c.in_default.ensures c.in_default-node_of.ensures
