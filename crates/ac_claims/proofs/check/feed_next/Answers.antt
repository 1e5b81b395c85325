use Rattle.std.proofs.Common.{◌≡◌, [], ◌∷◌, ap, sym, ◌∙◌, length}
use Rattle.ac_claims.specs.PlanNodes.{own_items}
use Rattle.ac_claims.specs.declared.item.Item.{Item}
use Rattle.ac_claims.specs.declared.item.Item.TheVariants as item
use Rattle.ac_claims.proofs.FeedSteps.{feeds_as}
use Rattle.ac_claims.proofs.NodeSteps.{own_go}
use Rattle.ac_claims.proofs.check.feed_next.Goals as goal

pub returns-in_ok-feed-in-Split : goal.returns-in_ok-feed-in-Split
returns-in_ok-feed-in-Split c =
    feeds_as (c.in_ok-split_item-in-Split.field-0 ∷ []) (own_items c.args.next.now) c.args.stepper.now c.feed.new.stepper (ap own_items c.in-Split.is ∙ ap (λ (x : Item). x ∷ []) (sym c.in_ok-split_item-in-Split.ensures)) c.in_ok-feed-in-Split.ensures

pub returns-in_ok-feed-in-Residue : goal.returns-in_ok-feed-in-Residue
returns-in_ok-feed-in-Residue c =
    feeds_as (c.in_ok-residue_item-in-Residue.field-0 ∷ []) (own_items c.args.next.now) c.args.stepper.now c.feed-in-Residue.new.stepper (ap own_items c.in-Residue.is ∙ ap (λ (x : Item). x ∷ []) (sym c.in_ok-residue_item-in-Residue.ensures)) c.in_ok-feed-in-Residue.ensures

pub returns-in_ok-feed-in-Go : goal.returns-in_ok-feed-in-Go
returns-in_ok-feed-in-Go c =
    let count : c.len.result ≡ length c.in-Go.cases.items = cc in
    feeds_as (item.Go c.in-Go.order c.len.result ∷ []) (own_items c.args.next.now) c.args.stepper.now c.feed-in-Go.new.stepper (own_go c.args.next.now c.in-Go.order c.in-Go.cases c.len.result c.in-Go.is count) c.in_ok-feed-in-Go.ensures
