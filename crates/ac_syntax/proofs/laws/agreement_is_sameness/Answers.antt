use Rattle.ac_syntax.specs.Outputs.{input_at, swaps_of}
use Rattle.ac_syntax.specs.Where.{element}
use Rattle.ac_syntax.proofs.Agreeing.{same_from_terms}
use Rattle.ac_syntax.proofs.laws.agreement_is_sameness.Goals as goal

pub returns-clause-cell : goal.returns-clause-cell
returns-clause-cell c = same_from_terms

pub returns-clause-output : goal.returns-clause-output
returns-clause-output c = λ pair output h params v e k.
    same_from_terms (input_at pair.left.arrays) (swaps_of pair.commutative) pair.left.body pair.right.body params (element output e) (h params v e k)
