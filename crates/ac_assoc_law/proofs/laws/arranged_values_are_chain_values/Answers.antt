use Rattle.ac_assoc_law.proofs.Counting.{counts_of_nodes}
use Rattle.ac_assoc_law.proofs.Valuing.{value_law}
use Rattle.ac_assoc_law.proofs.laws.arranged_values_are_chain_values.Goals as goal

pub returns : goal.returns
returns c = λ names t choice k p state v h a. value_law names t p state choice k v h (counts_of_nodes v a)
