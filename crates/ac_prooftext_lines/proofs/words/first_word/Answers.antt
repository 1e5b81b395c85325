use Rattle.ac_prooftext_lines.proofs.Splits.{cut_word, no_cut}
use Rattle.ac_prooftext_lines.proofs.words.first_word.Goals as goal

pub returns-in-Some : goal.returns-in-Some
returns-in-Some c = cut_word c.args.text.now c.in-Some.word.now c.in-Some.rest.now c.in-Some.ensures

pub returns-in-None : goal.returns-in-None
returns-in-None c = no_cut c.args.text.now c.in-None.ensures
