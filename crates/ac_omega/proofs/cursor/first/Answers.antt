use Rattle.std.proofs.Common.{rules}
use Rattle.ac_base.proofs.Bits.{again_128}
use Rattle.ac_forms.specs.Fits.{Fits}
use Rattle.ac_omega.proofs.Advances.{first-equal, first-residues, first-wide, first-drop, first-shadow}
use Rattle.ac_omega.proofs.cursor.first.Goals as goal

pub returns-in-Some-clause-value : goal.returns-in-Some-clause-value
returns-in-Some-clause-value c = first-equal c.args.strategy c.args.z c.in-Some.place c.args.rows.now c.in-Some.ensures

pub returns-in-Some-common_modulus-clause-value : goal.returns-in-Some-common_modulus-clause-value
returns-in-Some-common_modulus-clause-value c =
    let f : Fits c.in-Some-common_modulus.modulus = search rules in
    rw (again_128 c.in-Some-common_modulus.modulus f) (first-residues c.args.strategy c.args.z c.args.rows.now c.in-Some-common_modulus.modulus c.in_default.ensures c.if-has_divisibility.ensures c.in-Some-common_modulus.ensures.0 c.in-Some-common_modulus.ensures.1)

pub returns-in-None-clause-value : goal.returns-in-None-clause-value
returns-in-None-clause-value c = first-wide c.args.strategy c.args.z c.args.rows.now c.in_default.ensures c.if-has_divisibility.ensures c.in-None.ensures

pub returns-then-is_one_sided-clause-value : goal.returns-then-is_one_sided-clause-value
returns-then-is_one_sided-clause-value c = first-drop c.args.strategy c.args.z c.args.rows.now c.in_default.ensures c.if-has_divisibility.ensures c.if-is_one_sided.ensures

pub returns-else-is_one_sided-clause-value : goal.returns-else-is_one_sided-clause-value
returns-else-is_one_sided-clause-value c = first-shadow c.args.strategy c.args.z c.args.rows.now c.in_default.ensures c.if-has_divisibility.ensures c.if-is_one_sided.ensures
