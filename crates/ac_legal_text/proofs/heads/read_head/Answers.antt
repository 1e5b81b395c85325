use Rattle.ac_legal_text.proofs.Lines.{no_head_word, head_read}
use Rattle.ac_legal_text.proofs.heads.read_head.Goals as goal

pub returns-in_default : goal.returns-in_default
returns-in_default c = no_head_word c.args.text.now c.in_default.ensures

pub returns : goal.returns
returns c = head_read (λ p. p.0) (λ p. p.1.now) c.args.text.now c.in-Some.digits.now c.levels_at.result c.in-Some.ensures c.levels_at.ensures
