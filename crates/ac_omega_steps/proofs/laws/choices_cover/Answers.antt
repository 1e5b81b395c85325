use Rattle.std.proofs.Common.{arith}
use Rattle.ac_omega_steps.proofs.Covering.{covers-equal, covers-residue, covers-drop, covers-bounds}
use Rattle.ac_omega_steps.proofs.laws.choices_cover.Goals as goal

pub returns-clause-equality : goal.returns-clause-equality
returns-clause-equality c = λ i p v l e m. covers-equal c.args.z i c.args.conj.now.rows p v (omega (arith, l, c.requires)) e m

pub returns-clause-residue : goal.returns-clause-residue
returns-clause-residue c = λ m p v e l h. covers-residue c.args.z m c.args.conj.now.rows p v (omega (arith, l, c.requires)) e h

pub returns-clause-drop : goal.returns-clause-drop
returns-clause-drop c = λ p m. covers-drop c.args.z c.args.conj.now.rows p m

pub returns-clause-bounds : goal.returns-clause-bounds
returns-clause-bounds c = λ p v l o m. covers-bounds c.args.z c.args.conj.now.rows p v (omega (arith, l, c.requires)) o m
