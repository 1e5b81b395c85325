use Rattle.std.proofs.Common.{subst}
use Rattle.ac_forms.specs.Rows.{IsRowOver}
use Rattle.ac_claims_plans.proofs.branching.parts_by.Goals as goal

pub returns-in-Div : goal.returns-in-Div
returns-in-Div c = rw c.in-Div.is c.divisibility_parts.ensures

pub divisibility_parts-requires : goal.divisibility_parts-requires
divisibility_parts-requires c = subst (IsRowOver c.args.columns) c.in-Div.is c.requires
