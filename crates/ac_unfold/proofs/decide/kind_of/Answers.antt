use Rattle.std.proofs.Common.{sym, ap}
use Rattle.ac_forms.specs.NormalForm.{is_absurd}
use Rattle.ac_unfold.proofs.Stopped.{not_over}
use Rattle.ac_unfold.proofs.decide.kind_of.Goals as goal

pub returns-then-not-is_over-clause-refused : goal.returns-then-not-is_over-clause-refused
returns-then-not-is_over-clause-refused c = not_over c.args.columns c.args.row.now c.is_over.result c.is_over.ensures c.if-not-is_over.true

pub returns-in-Ok-Absurd-clause-refused : goal.returns-in-Ok-Absurd-clause-refused
returns-in-Ok-Absurd-clause-refused c = let made = rw c.in-Ok-Absurd.field-0-is at c.in-Ok-Absurd.ensures.exact in sym (ap is_absurd made.1)

pub returns-in-Err-Wide-clause-refused : goal.returns-in-Err-Wide-clause-refused
returns-in-Err-Wide-clause-refused c = λ _. rw c.in-Err-Wide.field-0-is at c.in-Err-Wide.ensures.exact
