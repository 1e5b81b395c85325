use Rattle.std.proofs.Common.{◌<◌, length, rules, arith}
use Rattle.std.proofs.lemmas.Grind.{common_steps}
use Rattle.ac_syntax.specs.declared.tree.Order.TheVariants.{Keep}
use Rattle.ac_claims.specs.declared.types.PlanNext.TheViews.{roll-Plan}
use Rattle.ac_claims.proofs.PlanDrops.{enter_less}
use Rattle.ac_claims.proofs.types.enter.Goals as goal

pub returns : goal.returns
returns c =
    let some : 0 < length c.args.plans.items = first_of (search rules, grind (arith, common_steps)) in
    enter_less c.args.plans (roll-Plan (record { steps = c.index_mut.result.now.steps; next = c.replace-next.new.dest })) c.index_mut.result.now c.replace-next.result c.args.rest Keep some c.replace-next.ensures.value c.index_mut.ensures.value c.replace-next.ensures.after
