use Rattle.ac_graph.specs.PairMoves.{IsSite}
use Rattle.ac_graph.proofs.SiteSteps.{sites_pushed}
use Rattle.ac_graph.proofs.making.push_site.Goals as goal

pub returns-in_ok-push : goal.returns-in_ok-push
returns-in_ok-push c = λ g h s. sites_pushed c.args.out.now c.push.new.self c.args.pair.now (IsSite g c.args.pair.now) c.in_ok-push.ensures.ok ((c.is_site.ensures g h).0 c.if-is_site.true) s
