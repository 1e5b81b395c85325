use Rattle.std.proofs.Common.{◌≡◌, ◌++◌}
use Rattle.ac_hull.specs.Templates.{classes_below}
use Rattle.ac_hull.proofs.templates.with_modulus.Given as goal

abbrev pub invariant-loop-class : goal.invariant-loop-class
invariant-loop-class l = l.made ≡ l.fn.rows ++ classes_below l.columns l.first l.second l.fn.modulus l.class
