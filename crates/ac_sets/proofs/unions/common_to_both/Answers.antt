use Rattle.ac_sets.proofs.Searches.{piece-at}
use Rattle.ac_sets.proofs.unions.common_to_both.Goals as goal

pub push_common-requires-clause-columns : goal.push_common-requires-clause-columns
push_common-requires-clause-columns c = (piece-at c.args.visible c.args.first.now c.loop-piece.piece-index c.piece-item.result c.requires.first c.loop-piece-test.true c.piece-item.is).0
