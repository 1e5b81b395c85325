use Rattle.std.proofs.Common.{◌++◌, [], ◌∷◌}
use Rattle.ac_claims_paths.specs.PathColumns.{base, columns_of}
use Rattle.ac_claims_paths.proofs.Forming.{equal_result}
use Rattle.ac_claims_paths.proofs.columns.equal_form_at.Goals as goal

pub returns-clause-moduli : goal.returns-clause-moduli
returns-clause-moduli c = equal_result (base c.args.params ++ columns_of c.args.first.now) (c.args.form.now ∷ []) (base c.args.params ++ columns_of c.args.second.now) (c.args.other.now ∷ []) c.form_equal.result c.form_equal.ensures
