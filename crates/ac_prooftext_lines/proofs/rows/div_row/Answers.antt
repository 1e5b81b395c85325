use Rattle.std.proofs.Common.{rules}
use Rattle.ac_prooftext_lines.proofs.Arms.{no_div}
use Rattle.ac_prooftext_lines.proofs.rows.div_row.Goals as goal

pub returns-in_default : goal.returns-in_default
returns-in_default c = no_div c.args.words.now (search rules)
