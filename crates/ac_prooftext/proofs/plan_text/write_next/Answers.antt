use Rattle.std.proofs.Common.{◌≡◌, [], ◌∷◌, length}
use Rattle.std.proofs.lemmas.Result.{on_ok_weaker}
use Rattle.ac_claims.specs.PlanNodes.{own_items}
use Rattle.ac_claims.specs.declared.item.Item.TheVariants as item
use Rattle.ac_claims.proofs.NodeSteps.{own_go}
use Rattle.ac_prooftext.proofs.WriteSteps.{adds_as}
use Rattle.ac_prooftext.proofs.plan_text.write_next.Goals as goal

pub returns-in-Go : goal.returns-in-Go
returns-in-Go c =
    let count : c.len.result ≡ length c.in-Go.cases.items = cc in
    on_ok_weaker c.write_line.result (λ added. adds_as (item.Go c.in-Go.order c.len.result ∷ []) (own_items c.args.next.now) c.args.text.now c.write_line.new.text (own_go c.args.next.now c.in-Go.order c.in-Go.cases c.len.result c.in-Go.is count) added) c.write_line.ensures
