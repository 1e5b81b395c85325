use Rattle.ac_claims_paths.proofs.Moduli.{moduli_result}
use Rattle.ac_claims_paths.proofs.columns.moved_rows.Goals as goal

pub returns-clause-moduli : goal.returns-clause-moduli
returns-clause-moduli c = moduli_result c.args.columns.now c.args.rows.now c.rows_moved.result c.requires c.rows_moved.ensures
