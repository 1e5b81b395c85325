use Rattle.std.proofs.Common.{◌≡◌, drop}
use Rattle.ac_syntax.specs.Quotients.{noted_subs}
use Rattle.ac_syntax.proofs.quotients.note_forms.Given as goal

abbrev pub invariant-loop-form : goal.invariant-loop-form
invariant-loop-form l = noted_subs l.seen (drop l.form-index l.forms) ≡ noted_subs l.fn.seen l.forms
