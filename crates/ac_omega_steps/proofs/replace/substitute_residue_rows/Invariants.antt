use Rattle.std.proofs.Common.{drop, map}
use Rattle.ac_omega_steps.specs.Choices.{substitute_residue_row}
use Rattle.ac_omega_steps.specs.ChoiceFits.{all_spread_fit}
use Rattle.ac_omega_steps.proofs.Parts.{Halfway}
use Rattle.ac_omega_steps.proofs.replace.substitute_residue_rows.Given as goal

abbrev pub invariant-loop-row : goal.invariant-loop-row
invariant-loop-row l =
    Halfway (all_spread_fit l.z l.m l.r l.rows) (map (substitute_residue_row l.z l.m l.r) l.rows) (all_spread_fit l.z l.m l.r (drop l.row-index l.rows)) l.made (map (substitute_residue_row l.z l.m l.r) (drop l.row-index l.rows))
