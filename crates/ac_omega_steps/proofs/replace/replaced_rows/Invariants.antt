use Rattle.std.proofs.Common.{◌++◌, drop, map}
use Rattle.ac_omega_steps.specs.Choices.{replaced_row}
use Rattle.ac_omega_steps.specs.ChoiceFits.{all_replaced_fit}
use Rattle.ac_omega_steps.proofs.Parts.{Halfway}
use Rattle.ac_omega_steps.proofs.replace.replaced_rows.Given as goal

abbrev pub invariant-loop-row : goal.invariant-loop-row
invariant-loop-row l =
    Halfway (all_replaced_fit l.z l.equality l.rows) (l.fn.made ++ map (replaced_row l.z l.equality) l.rows) (all_replaced_fit l.z l.equality (drop l.row-index l.rows)) l.made (map (replaced_row l.z l.equality) (drop l.row-index l.rows))
