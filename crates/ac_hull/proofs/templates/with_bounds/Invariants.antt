use Rattle.std.proofs.Common.{◌≡◌, ◌++◌, map, take}
use Rattle.ac_hull.specs.Templates.{difference}
use Rattle.ac_forms.specs.declared.row.Row.TheVariants.{Ge}
use Rattle.ac_hull.proofs.templates.with_bounds.Given as goal

abbrev pub invariant-loop-threshold : goal.invariant-loop-threshold
invariant-loop-threshold l = l.made ≡ l.fn.rows ++ map (λ c. Ge (difference l.columns l.first l.second c)) (take l.threshold-index l.thresholds)
