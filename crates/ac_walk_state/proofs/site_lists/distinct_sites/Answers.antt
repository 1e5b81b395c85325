use Rattle.std.proofs.Common.{List, [], subst, sym}
use Rattle.std.proofs.lemmas.List.{take_all}
use Rattle.ac_syntax.specs.declared.tree.Site.{Site}
use Rattle.ac_walk_state.specs.PartialOrders.{AreOnce}
use Rattle.ac_walk_state.proofs.Choosing.{none_once}
use Rattle.ac_walk_state.proofs.LastItems.{next_item, reread}
use Rattle.ac_walk_state.proofs.site_lists.distinct_sites.Goals as goal

pub loop-site-init : goal.loop-site-init
loop-site-init c = subst (AreOnce []) (sym c.new-made.ensures) none_once

pub loop-site-preserved : goal.loop-site-preserved
loop-site-preserved c =
    let sites = c.args.sites.now in
    let i = c.loop-site.site-index in
    let l = c.loop-site-test.true in
    subst (λ (first : List Site). AreOnce first c.push_new.new.made) (sym (next_item sites i _ l (reread sites i _ l))) (c.in_ok-push_new.ensures _ c.loop-site.invariant)

pub returns : goal.returns
returns c = subst (λ (sites : List Site). AreOnce sites c.loop-site.made) (take_all c.loop-site.site-index c.args.sites.now c.loop-site-test.false) c.loop-site.invariant
