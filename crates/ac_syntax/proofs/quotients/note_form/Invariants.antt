use Rattle.std.proofs.Common.{◌≡◌, drop}
use Rattle.ac_syntax.specs.Quotients.{noted_quots, noted_form}
use Rattle.ac_syntax.proofs.quotients.note_form.Given as goal

abbrev pub invariant-loop-quot : goal.invariant-loop-quot
invariant-loop-quot l = noted_quots l.seen (drop l.quot-index l.quot-items) ≡ noted_form l.fn.seen l.form
