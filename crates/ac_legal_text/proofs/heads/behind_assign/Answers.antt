use Rattle.ac_legal_text.proofs.Lines.{no_assign, assign_read}
use Rattle.ac_legal_text.proofs.heads.behind_assign.Goals as goal

pub returns-in_default : goal.returns-in_default
returns-in_default c = no_assign c.args.number c.args.text.now c.in_default.ensures

pub returns : goal.returns
returns c = assign_read (λ r. r.now) c.args.number c.args.text.now c.in-Some.word.now c.behind_number.result c.in-Some.ensures c.behind_number.ensures
