use Rattle.std.proofs.Common.{◌≡◌, ◌++◌, take}
use Rattle.ac_hull.specs.Templates.{classes_of}
use Rattle.ac_hull.proofs.templates.with_classes.Given as goal

abbrev pub invariant-loop-modulus : goal.invariant-loop-modulus
invariant-loop-modulus l = l.made ≡ l.fn.rows ++ classes_of l.columns l.first l.second (take l.modulus-index l.moduli)
