use Rattle.ac_prooftext_lines.proofs.Places.{no_present}
use Rattle.ac_prooftext_lines.proofs.positions.present_position.Goals as goal

pub returns-in_default-node_of : goal.returns-in_default-node_of
returns-in_default-node_of c = no_present c.args.word.now c.requires c.in_default.ensures c.in_default-node_of.ensures
