use Rattle.std.proofs.Common.{sym, subst, List}
use Rattle.std.proofs.lemmas.List.{take_all}
use Rattle.ac_syntax.specs.declared.tree.Site.{Site}
use Rattle.ac_forms.specs.ListMembers.{IsAmong}
use Rattle.ac_walk_state.proofs.Choosing.{all_more}
use Rattle.ac_walk_state.proofs.LastItems.{in_read, reread}
use Rattle.ac_walk_state.proofs.partial.chosen.Goals as goal

pub loop-site-preserved : goal.loop-site-preserved
loop-site-preserved c =
    let e = c.in_ok-push_choice.ensures in
    let h = c.loop-site.invariant in
    let sites = c.args.sites.now in
    let i = c.loop-site.site-index in
    let l = c.loop-site-test.true in
    record {
      right = e.right h.right;
      all = all_more c.args.order.now sites i _ c.loop-site.choices.items c.push_choice.new.choices.items l (reread sites i _ l) e.stays (e.chosen h.right (in_read sites i _ l (reread sites i _ l))) h.all;
    }

pub returns-clause-all : goal.returns-clause-all
returns-clause-all c = λ site k. c.loop-site.invariant.all site (subst (λ (ss : List Site). IsAmong site ss) (sym (take_all c.loop-site.site-index c.args.sites.now c.loop-site-test.false)) k)
