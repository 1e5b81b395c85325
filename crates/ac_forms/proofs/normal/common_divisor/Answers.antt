use Rattle.ac_forms.proofs.Divisions.{gcd_at_zero, gcd_of_zero, gcd_of_one, gcd_at_one}
use Rattle.ac_forms.proofs.normal.common_divisor.Goals as goal

pub returns-then-b-eq0 : goal.returns-then-b-eq0
returns-then-b-eq0 c = gcd_at_zero c.args.a c.args.b c.if-b-eq0.true

pub returns-then-a-eq0 : goal.returns-then-a-eq0
returns-then-a-eq0 c = gcd_of_zero c.args.a c.args.b c.if-a-eq0.true

pub returns-then-a-eq1 : goal.returns-then-a-eq1
returns-then-a-eq1 c = gcd_of_one c.args.a c.args.b c.if-a-eq1.true

pub returns-then-b-eq1 : goal.returns-then-b-eq1
returns-then-b-eq1 c = gcd_at_one c.args.a c.args.b c.if-b-eq1.true
