use Rattle.ac_unfold.proofs.PairTasks.{all_rests}
use Rattle.ac_unfold.proofs.ReadTasks.{case_outside}
use Rattle.ac_unfold.proofs.reads.enter.Goals as goal

pub returns-then-search-clause-moves : goal.returns-then-search-clause-moves
returns-then-search-clause-moves c = case_outside c.args.search.now c.args.node c.args.case c.in_ok-more.more.items c.if-search.true c.requires c.in_ok-more.ensures

pub returns-clause-moves : goal.returns-clause-moves
returns-clause-moves c = all_rests c.args.search.now c.args.node c.args.case c.rests.result c.if-search.false c.rests.ensures.rests
