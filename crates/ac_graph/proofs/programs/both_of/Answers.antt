use Rattle.ac_graph.proofs.Linking.{linked_pair}
use Rattle.ac_graph.proofs.programs.both_of.Goals as goal

pub returns : goal.returns
returns c = linked_pair c.args.pair.now _ c.in_ok-left.ensures c.in_ok-right.ensures c.as_slice.ensures
