use Rattle.std.proofs.Common.{rules}
use Rattle.ac_prooftext_lines.proofs.Arms.{too_small}
use Rattle.ac_prooftext_lines.proofs.rows.modulus_form.Goals as goal

pub returns-then-modulus-lt1 : goal.returns-then-modulus-lt1
returns-then-modulus-lt1 c = too_small c.args.words.now c.in-Some.modulus c.in-Some.form (search rules) (search rules)
