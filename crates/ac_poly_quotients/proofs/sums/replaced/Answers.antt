use Rattle.std.proofs.Common.{rules, refl}
use Rattle.ac_poly_quotients.proofs.Replacing.{replacing_made, replacing_err}
use Rattle.ac_poly_quotients.proofs.sums.replaced.Goals as goal

pub returns-in_err-form-2 : goal.returns-in_err-form-2
returns-in_err-form-2 c =
    replacing_err _ _ _ _ _ _ _ _ _ c.in_err-form-2.field-0.0 c.loop-i.invariant refl (search rules) (search rules) c.index-forms-i.is (search rules) c.in_err-form-2.ensures c.from_residual-in_err-form-2.ensures.1

pub loop-i-preserved : goal.loop-i-preserved
loop-i-preserved c = replacing_made _ _ _ _ _ _ _ c.loop-i.invariant (search rules) (search rules) c.index-forms-i.is (search rules) c.in_ok-form-2.ensures
