use Rattle.std.proofs.Common.{◌≡◌, List, subst, true}
use Rattle.ac_syntax.specs.declared.tree.Order.{Order}
use Rattle.ac_syntax.specs.declared.tree.Site.{Site}
use Rattle.ac_walk_state.specs.PartialOrders.{HasSite}
use Rattle.ac_walk_state.proofs.Choosing.{choices_more, chosen_more, chosen_is, still_among}
use Rattle.ac_walk_state.proofs.partial.push_choice.Goals as goal

pub returns-then-not-has_site-clause-chosen : goal.returns-then-not-has_site-clause-chosen
returns-then-not-has_site-clause-chosen c = λ right among. let t : c.has_site.result ≡ true = c.has_site.ensures.1 among in let f = c.if-not-has_site.true in absurd cc

pub returns-then-is_chosen-clause-chosen : goal.returns-then-is_chosen-clause-chosen
returns-then-is_chosen-clause-chosen c =
    λ right among.
    chosen_is c.args.order.now c.args.sites.now c.args.site.now c.args.choices.now.items right (subst (λ (cs : List (Site × Order)). HasSite cs c.args.site.now) c.as_slice.ensures.value (c.is_chosen.ensures.0 c.if-is_chosen.true))

pub returns-clause-stays : goal.returns-clause-stays
returns-clause-stays c = still_among c.args.choices.now.items c.push.new.self.items (c.args.site.now, c.choice_at.result) c.in_ok-push.ensures.items

pub returns-clause-right : goal.returns-clause-right
returns-clause-right c =
    choices_more c.args.order.now c.args.sites.now c.args.site.now c.choice_at.result c.args.choices.now.items c.push.new.self.items (c.has_site.ensures.0 c.if-not-has_site.false) c.choice_at.ensures c.in_ok-push.ensures.items

pub returns-clause-chosen : goal.returns-clause-chosen
returns-clause-chosen c = λ right among. chosen_more c.args.order.now c.args.site.now c.choice_at.result c.args.choices.now.items c.push.new.self.items c.choice_at.ensures c.in_ok-push.ensures.items
