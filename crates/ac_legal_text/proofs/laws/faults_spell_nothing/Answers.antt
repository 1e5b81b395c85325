use Rattle.ac_legal_text.proofs.Unspelled.{unspelled}
use Rattle.ac_legal_text.proofs.laws.faults_spell_nothing.Goals as goal

pub returns : goal.returns
returns c = unspelled
