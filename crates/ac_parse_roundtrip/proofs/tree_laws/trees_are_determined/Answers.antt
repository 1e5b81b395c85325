use Rattle.ac_parse_roundtrip.proofs.Files.{have_no_other_trees}
use Rattle.ac_parse_roundtrip.proofs.tree_laws.trees_are_determined.Goals as goal

pub returns : goal.returns
returns c = have_no_other_trees
