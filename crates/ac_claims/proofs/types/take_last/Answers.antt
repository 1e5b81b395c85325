use Rattle.std.proofs.Common.{◌<◌, length, rules, arith}
use Rattle.std.proofs.lemmas.Grind.{common_steps}
use Rattle.ac_syntax.specs.declared.tree.Order.TheVariants.{Keep}
use Rattle.ac_claims.proofs.PlanDrops.{last_less}
use Rattle.ac_claims.proofs.types.take_last.Goals as goal

pub returns : goal.returns
returns c =
    let some : 0 < length c.pop.new.self.items = first_of (search rules, grind (arith, common_steps)) in
    last_less c.args.plans.items c.pop.new.self c.in-Some.plan Keep c.in-Some.ensures.items some
