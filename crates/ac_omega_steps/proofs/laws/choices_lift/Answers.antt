use Rattle.std.proofs.Common.{arith}
use Rattle.ac_omega_steps.proofs.Lifting.{lifts, lifted_at, lifts-somewhere, column-gone, legal-allows, legal-column}
use Rattle.ac_omega_steps.proofs.laws.choices_lift.Goals as goal

pub returns-clause-point : goal.returns-clause-point
returns-clause-point c = λ q l m. lifts c.args.choice.now c.args.conj.now q c.requires.legal l m

pub returns-clause-column : goal.returns-clause-column
returns-clause-column c = λ q. lifted_at c.args.choice.now c.args.conj.now.rows q

pub returns-clause-somewhere : goal.returns-clause-somewhere
returns-clause-somewhere c = λ p w l m.
    lifts-somewhere c.args.choice.now c.args.conj.now.rows p w (legal-allows c.args.choice.now c.args.conj.now c.requires.legal) (omega (arith, l, legal-column c.args.choice.now c.args.conj.now c.requires.legal)) m

pub returns-clause-gone : goal.returns-clause-gone
returns-clause-gone c = λ r q v l m. column-gone c.args.choice.now c.args.conj.now q v c.requires.legal r l m
