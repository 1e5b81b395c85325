use Rattle.std.proofs.Common.{unsigned_abs}
use Rattle.ac_base.proofs.Floor.{floor_low, floor_greatest}
use Rattle.ac_base.proofs.Divisors.{divides-true, true-divides}
use Rattle.ac_syntax.specs.Index.{quot_argument}
use Rattle.ac_syntax.proofs.Alike.{same_value}
use Rattle.ac_syntax.proofs.laws.quotients_are_greatest.Goals as goal

pub returns-clause-greatest : goal.returns-clause-greatest
returns-clause-greatest c = λ p q h. (floor_low (quot_argument p q) q.div h, λ k l. floor_greatest (quot_argument p q) q.div k h l)

pub returns-clause-multiples : goal.returns-clause-multiples
returns-clause-multiples c = λ m z. (divides-true (unsigned_abs m) z, true-divides (unsigned_abs m) z)

pub returns-clause-same : goal.returns-clause-same
returns-clause-same c = same_value
