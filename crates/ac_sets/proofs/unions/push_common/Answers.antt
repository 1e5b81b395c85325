use Rattle.ac_sets.proofs.Searches.{piece-at}
use Rattle.ac_sets.proofs.unions.push_common.Goals as goal

pub common-requires-clause-second : goal.common-requires-clause-second
common-requires-clause-second c = (piece-at c.args.visible c.args.others.now c.loop-other.other-index c.other-item.result c.requires.others c.loop-other-test.true c.other-item.is).0
