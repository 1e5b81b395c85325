use Rattle.std.proofs.Common.{◌≡◌, take}
use Rattle.ac_omega_certify.proofs.by_equality.copied.Given as goal

abbrev pub invariant-loop-row : goal.invariant-loop-row
invariant-loop-row l = l.copies.items ≡ take l.row-index l.rows
