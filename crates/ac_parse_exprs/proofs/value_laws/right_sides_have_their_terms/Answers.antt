use Rattle.ac_parse_exprs.proofs.WrittenTerms.{values_have_terms}
use Rattle.ac_parse_exprs.proofs.value_laws.right_sides_have_their_terms.Goals as goal

pub returns : goal.returns
returns c = record { terms = values_have_terms }
