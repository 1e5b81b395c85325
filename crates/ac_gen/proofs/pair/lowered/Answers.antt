use Rattle.std.proofs.Common.{length}
use Rattle.ac_poly_quotients.specs.QuotientScopes.{outermost}
use Rattle.ac_gen.proofs.Faultless.{none_first_all}
use Rattle.ac_gen.proofs.pair.lowered.Goals as goal

pub unreachable-requires : goal.unreachable-requires
unreachable-requires c =
    none_first_all c.args.program.now.body 0 (outermost (length c.args.program.now.params)) (Unit {0}) _ c.requires.lowered (rw c.in-Err-Pieces.field-0-is at c.in-Err-Pieces.ensures.exact)

pub unreachable-requires-in-Err-Wide : goal.unreachable-requires-in-Err-Wide
unreachable-requires-in-Err-Wide c =
    none_first_all c.args.program.now.body 0 (outermost (length c.args.program.now.params)) (Unit {0}) _ c.requires.lowered (rw c.in-Err-Wide.field-0-is at c.in-Err-Wide.ensures.exact)
