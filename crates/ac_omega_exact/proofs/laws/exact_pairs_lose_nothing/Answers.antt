use Rattle.ac_omega_exact.proofs.Implying.{exact-loses-nothing, economical-suffices, full-suffices}
use Rattle.ac_omega_exact.proofs.laws.exact_pairs_lose_nothing.Goals as goal

pub returns-clause-pair : goal.returns-clause-pair
returns-clause-pair c = λ rows low high e. exact-loses-nothing c.args.z rows low high e

pub returns-clause-economical : goal.returns-clause-economical
returns-clause-economical c = λ rows. economical-suffices c.args.z rows

pub returns-clause-full : goal.returns-clause-full
returns-clause-full c = λ rows n. full-suffices c.args.z rows n
