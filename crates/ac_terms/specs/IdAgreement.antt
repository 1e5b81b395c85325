-- What every table keeps, whatever the order in which its terms were built.
use Rattle.std.specs.Prelude.{◌≡◌, ◌↔◌}
use Rattle.ac_syntax.specs.Outputs.{swaps_of}
use Rattle.ac_syntax.specs.Term.{Term, Agree}
use Rattle.ac_terms.specs.declared.node.TermId.{TermId}
use Rattle.ac_terms.specs.Table.{Table, StandsFor}

-- ids are equal exactly where the terms that they stand for agree
abbrev pub IdsDecideAgreement : Table → Type 0
IdsDecideAgreement table = (t u : Term) (a b : TermId) → StandsFor table t a → StandsFor table u b → (a ≡ b) ↔ Agree (swaps_of table.commutative) t u
