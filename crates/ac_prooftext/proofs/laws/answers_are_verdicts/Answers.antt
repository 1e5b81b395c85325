use Rattle.ac_prooftext.proofs.Verdicts.{verdicts, faults, spellings}
use Rattle.ac_prooftext.proofs.laws.answers_are_verdicts.Goals as goal

pub returns : goal.returns
returns c = record { verdicts = verdicts; faults = faults; spellings = spellings }
