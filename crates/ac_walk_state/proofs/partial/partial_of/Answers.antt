use Rattle.std.proofs.Common.{List, Bool, ℕ, subst}
use Rattle.ac_syntax.specs.declared.tree.Position.{Position}
use Rattle.ac_syntax.specs.declared.tree.Site.{Site}
use Rattle.ac_forms.specs.ListMembers.{IsAmong}
use Rattle.ac_forms.specs.declared.row.Row.{Row}
use Rattle.ac_graph.specs.PairMoves.{AreSites, pairing_of}
use Rattle.ac_widen_programs.specs.PairSetting.{setting}
use Rattle.ac_unfold_plans.specs.ArgumentOrders.{order_of}
use Rattle.ac_widen.specs.OrderRefutations.{IsPartOf}
use Rattle.ac_widen_programs.specs.PairPoints.{choices_of}
use Rattle.ac_widen_programs.specs.DerivationEntries.{entries_of}
use Rattle.ac_walk_state.specs.PartialOrders.{AreChoices, choice_of}
use Rattle.ac_walk_state.proofs.Choosing.{part_is}
use Rattle.ac_walk_state.proofs.LastItems.{both_ok}
use Rattle.ac_walk_state.proofs.partial.partial_of.Goals as goal

pub returns : goal.returns
returns c =
    let pair = c.args.pair.now in
    let es = c.args.entries.now in
    let order = c.args.order.now in
    let pairs = c.in_ok-pairs.pairs in
    let sites = c.in_ok-stepped.stepped in
    let are : AreSites (pairing_of pair) pairs sites = subst (λ (ps : List (Position × Position)). AreSites (pairing_of pair) ps sites) c.as_slice.ensures c.in_ok-stepped.ensures in
    both_ok (λ v. AreChoices order c.as_slice-2.result.now v.items) (λ v. (site : Site) → IsAmong site c.as_slice-2.result.now → IsAmong (choice_of order site) v.items)
    (λ v. (outputs : List ℕ) (recurrent : Position × Position → Bool) (template : Position × Position → List Row) → IsPartOf (setting pair outputs recurrent template) (order_of order) (entries_of es) (choices_of v.items))
    c.chosen.result
    (λ v right all.
    part_is pair es order pairs sites v.items c.in_ok-pairs.ensures are (subst (λ (ss : List Site). AreChoices order ss v.items) c.as_slice-2.ensures right)
    (subst (λ (ss : List Site). (site : Site) → IsAmong site ss → IsAmong (choice_of order site) v.items) c.as_slice-2.ensures all))
    c.chosen.ensures.right
    c.chosen.ensures.all
