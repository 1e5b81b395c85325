use Rattle.std.proofs.Common.{subst, sym}
use Rattle.ac_claims_paths.specs.ModelCalls.{pairing}
use Rattle.ac_claims.specs.Dues.{AreDueFormed}
use Rattle.ac_claims.specs.StackEntries.{all_dues}
use Rattle.ac_claims.proofs.DueForms.{taken_formed}
use Rattle.ac_claims.proofs.stack.Stack.take.Goals as goal

pub take_last-requires-clause-line : goal.take_last-requires-clause-line
take_last-requires-clause-line c = record { left = c.requires.left; right = c.requires.right; claims = c.requires.claims }

pub take_last-requires-clause-formed : goal.take_last-requires-clause-formed
take_last-requires-clause-formed c = subst (AreDueFormed c.args.programs.now.left.now.params) (sym c.self.view_is) c.requires.formed

pub returns-in-Ok-clause-formed : goal.returns-in-Ok-clause-formed
returns-in-Ok-clause-formed c =
    taken_formed (pairing c.args.programs.now) c.args.claims.now c.args.item.now c.args.line (all_dues c.self.inside.ongoing) (all_dues c.take_last.new.ongoing) c.requires.left c.requires.right
    (subst (AreDueFormed c.args.programs.now.left.now.params) (sym c.self.view_is) c.requires.formed) c.in-Ok.ensures.settles
