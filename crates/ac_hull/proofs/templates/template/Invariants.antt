use Rattle.std.proofs.Common.{◌≡◌}
use Rattle.ac_hull.specs.Templates.{all_rows}
use Rattle.ac_hull.proofs.templates.template.Given as goal

abbrev pub invariant-loop-first : goal.invariant-loop-first
invariant-loop-first l = l.rows ≡ all_rows l.columns l.thresholds l.moduli l.first
