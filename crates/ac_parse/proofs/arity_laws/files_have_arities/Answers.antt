use Rattle.ac_parse.proofs.Assigned.{files_have_arities}
use Rattle.ac_parse.proofs.arity_laws.files_have_arities.Goals as goal

pub returns : goal.returns
returns c = λ file h. files_have_arities file h
