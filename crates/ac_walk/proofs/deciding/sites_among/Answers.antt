use Rattle.std.proofs.Common.{List, subst}
use Rattle.std.proofs.lemmas.Result.{IfOk-weaker}
use Rattle.ac_syntax.specs.declared.tree.Site.{Site}
use Rattle.ac_walk.specs.OutputDecisions.{AreSitesAmong}
use Rattle.ac_walk_state.specs.PartialOrders.{AreOnce}
use Rattle.ac_walk.proofs.Refuting.{once_among}
use Rattle.ac_walk.proofs.deciding.sites_among.Goals as goal

pub returns : goal.returns
returns c =
    IfOk-weaker c.distinct_sites.result _ (AreSitesAmong c.args.pair.now c.args.pairs.now)
    (λ made once. once_among c.args.pair.now c.args.pairs.now c.in_ok-all.all made c.in_ok-all.ensures (subst (λ (all : List Site). AreOnce all made) c.as_slice.ensures once))
    c.distinct_sites.ensures
