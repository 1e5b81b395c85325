use Rattle.std.proofs.Common.{◌≡◌, ◌++◌, drop, codes}
use Rattle.std.specs.List.{flat_map, join_by}
use Rattle.ac_syntax.specs.Text.{slot_text}
use Rattle.ac_syntax.proofs.print.lines.push_slots.Given as goal

abbrev pub invariant-loop-slot : goal.invariant-loop-slot
invariant-loop-slot l = l.bytes.items ++ flat_map (λ s. codes ", " ++ slot_text l.scope s) (drop l.slot-index l.rest) ≡ l.fn.bytes.items ++ join_by (slot_text l.scope) (codes ", ") l.slots
