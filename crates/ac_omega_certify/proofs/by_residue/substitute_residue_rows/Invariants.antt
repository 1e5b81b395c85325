use Rattle.std.proofs.Common.{◌≡◌, map, take}
use Rattle.ac_omega_steps.specs.Choices.{substitute_residue_row}
use Rattle.ac_omega_certify.proofs.by_residue.substitute_residue_rows.Given as goal

abbrev pub invariant-loop-row : goal.invariant-loop-row
invariant-loop-row l = l.made.items ≡ map (substitute_residue_row l.z l.m l.r) (take l.row-index l.rows)
