use Rattle.std.proofs.Common.{◌≡◌, ◌++◌, take, codes}
use Rattle.std.specs.Prelude.{slice_get}
use Rattle.std.specs.List.{flat_map}
use Rattle.ac_syntax.specs.Text.{array_name}
use Rattle.ac_syntax.proofs.print.lines.push_outputs.Given as goal

abbrev pub invariant-loop-output : goal.invariant-loop-output
invariant-loop-output l = l.bytes.items ≡ l.fn.bytes.items ++ flat_map (λ k. codes " " ++ array_name (slice_get l.scope.arrays k)) (take l.output-index l.outputs)
