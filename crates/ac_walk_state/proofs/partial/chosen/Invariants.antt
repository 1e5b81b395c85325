use Rattle.std.proofs.Common.{take}
use Rattle.ac_syntax.specs.declared.tree.Site.{Site}
use Rattle.ac_forms.specs.ListMembers.{IsAmong}
use Rattle.ac_walk_state.specs.PartialOrders.{AreChoices, choice_of}
use Rattle.ac_walk_state.proofs.partial.chosen.Given as goal

abbrev pub invariant-loop-site : goal.invariant-loop-site
invariant-loop-site l = record { right : AreChoices l.order l.sites l.choices.items; all : (site : Site) → IsAmong site (take l.site-index l.sites) → IsAmong (choice_of l.order site) l.choices.items }
