use Rattle.ac_parse_roundtrip.proofs.Files.{have_trees}
use Rattle.ac_parse_roundtrip.proofs.tree_laws.tokens_have_trees.Goals as goal

pub returns : goal.returns
returns c = have_trees
