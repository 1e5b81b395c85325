use Rattle.std.proofs.Common.{◌≡◌, take, map}
use Rattle.ac_poly.specs.Model.{kind_of}
use Rattle.ac_poly.proofs.program.kinds.Given as goal

abbrev pub invariant-loop-array : goal.invariant-loop-array
invariant-loop-array l = l.made ≡ map kind_of (take l.array-index l.arrays)
