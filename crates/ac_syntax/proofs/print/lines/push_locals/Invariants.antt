use Rattle.std.proofs.Common.{◌≡◌, ◌++◌, take}
use Rattle.std.specs.List.{flat_map}
use Rattle.ac_syntax.specs.declared.tree.Array.{Array}
use Rattle.ac_syntax.specs.Text.{local_line}
use Rattle.ac_syntax.proofs.print.lines.push_locals.Given as goal

abbrev pub invariant-loop-array : goal.invariant-loop-array
invariant-loop-array l = l.bytes.items ≡ l.fn.bytes.items ++ flat_map (λ (a : Array). local_line l.scope a.kind a) (take l.array-index l.arrays)
