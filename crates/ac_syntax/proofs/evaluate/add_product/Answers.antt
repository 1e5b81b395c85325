use Rattle.std.proofs.Common.{FitsSigned, w64, ◌*ℤ◌, ◌+ℤ◌, refl}
use Rattle.std.specs.Int.{w128}
use Rattle.std.proofs.lemmas.Int.{to_z-of_z}
use Rattle.ac_syntax.proofs.Wide.{checked_is, widened, product_fits}
use Rattle.ac_syntax.proofs.evaluate.add_product.Goals as goal

pub returns : goal.returns
returns c =
    let s : FitsSigned w128 c.args.sum = c.ranges.sum in
    let k : FitsSigned w64 c.args.c = c.ranges.c in
    let x : FitsSigned w64 c.args.x = c.ranges.x in
    let kw : FitsSigned w128 c.args.c = widened _ k in
    let xw : FitsSigned w128 c.args.x = widened _ x in
    let kx : FitsSigned w128 (c.args.c *ℤ c.args.x) = product_fits _ _ k x in
    checked_is c.checked_add.result (c.args.sum +ℤ (c.args.c *ℤ c.args.x)) _ refl (simp to_z-of_z at c.checked_add.ensures)
