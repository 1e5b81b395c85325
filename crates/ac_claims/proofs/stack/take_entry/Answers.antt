use Rattle.std.proofs.Common.{subst}
use Rattle.ac_claims.specs.Dues.{AreDueFormed}
use Rattle.ac_claims.specs.StackEntries.{HasDues, due_at}
use Rattle.ac_claims.specs.declared.entry.Awaited.{Awaited}
use Rattle.ac_claims.proofs.Entering.{of_classes}
use Rattle.ac_claims.proofs.stack.take_entry.Goals as goal

pub take_class-requires-clause-path : goal.take_class-requires-clause-path
take_class-requires-clause-path c =
    of_classes c.args.line.now.programs.now.left.now.params c.args.path c.in-Classes.classes
    (subst (HasDues c.args.path.conj.columns) c.in-Classes.is c.requires.some)
    (subst (λ (a : Awaited). AreDueFormed c.args.line.now.programs.now.left.now.params (due_at c.args.path a)) c.in-Classes.is c.requires.formed)
