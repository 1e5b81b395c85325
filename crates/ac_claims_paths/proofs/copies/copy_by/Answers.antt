use Rattle.ac_claims_paths.specs.ModelCalls.{pairing}
use Rattle.ac_claims_paths.proofs.CopySteps.{rows_made_by}
use Rattle.ac_claims_paths.proofs.copies.copy_by.Goals as goal

pub normal_of-requires : goal.normal_of-requires
normal_of-requires c =
    rows_made_by (pairing c.args.programs.now) c.args.assumed.now c.args.numbers.now.stmt c.args.numbers.now.piece c.args.numbers.now.after c.args.numbers.now.before c.args.stmt.now c.in_ok-own.own c.in_ok-first.first c.width.result c.in_ok-columns.columns c.in_ok-rows.field-0 c.in-Some.rows
    c.requires.moduli c.requires.stmt c.in_ok-own.ensures c.in_ok-first.ensures c.width.ensures c.in_ok-columns.ensures c.in_ok-rows.ensures c.in-Some.is
