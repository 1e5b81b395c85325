use Rattle.std.proofs.Common.{◌≡◌, drop}
use Rattle.ac_syntax.specs.Quotients.{noted_parts}
use Rattle.ac_syntax.proofs.quotients.note_parts.Given as goal

abbrev pub invariant-loop-part : goal.invariant-loop-part
invariant-loop-part l = noted_parts l.seen (drop l.part-index l.parts) ≡ noted_parts l.fn.seen l.parts
