use Rattle.ac_graph.specs.PairMoves.{pairing_of}
use Rattle.ac_graph.proofs.SiteSteps.{sites_start, sites_step, sites_end}
use Rattle.ac_graph.proofs.making.sites.Goals as goal

pub loop-at-init : goal.loop-at-init
loop-at-init c = λ g h. sites_start g c.args.pairs.now c.new-made.result c.new-made.ensures

pub loop-at-preserved : goal.loop-at-preserved
loop-at-preserved c = λ g h. sites_step g c.args.pairs.now c.loop-at.at _ c.loop-at.made c.push_site.new.out (c.loop-at.invariant g h) c.loop-at-test.true (c.in_ok-push_site.ensures g h)

pub returns : goal.returns
returns c = sites_end (pairing_of c.args.pair.now) c.args.pairs.now c.loop-at.at c.loop-at.made (c.loop-at.invariant (pairing_of c.args.pair.now) c.in_ok-both.ensures) c.loop-at-test.false
