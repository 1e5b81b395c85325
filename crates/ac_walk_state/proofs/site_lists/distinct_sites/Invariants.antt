use Rattle.std.proofs.Common.{take}
use Rattle.ac_walk_state.specs.PartialOrders.{AreOnce}
use Rattle.ac_walk_state.proofs.site_lists.distinct_sites.Given as goal

abbrev pub invariant-loop-site : goal.invariant-loop-site
invariant-loop-site l = AreOnce (take l.site-index l.sites) l.made
