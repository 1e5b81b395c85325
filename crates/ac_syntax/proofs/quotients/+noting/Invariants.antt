use Rattle.std.proofs.Common.{◌≡◌, drop}
use Rattle.ac_syntax.specs.Quotients.{noted_all}
use Rattle.ac_syntax.proofs.quotients.+noting.Given as goal

abbrev pub invariant-note_values-loop-value : goal.invariant-note_values-loop-value
invariant-note_values-loop-value l = noted_all l.seen (drop l.value-index l.values) ≡ noted_all l.fn.seen l.values
