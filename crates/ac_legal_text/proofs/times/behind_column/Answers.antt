use Rattle.std.proofs.Common.{◌++◌, decimal}
use Rattle.std.specs.Prelude.{codes}
use Rattle.ac_legal_text.proofs.Texts.{three_fronts}
use Rattle.ac_legal_text.proofs.times.behind_column.Goals as goal

pub returns-in_default : goal.returns-in_default
returns-in_default c = λ rest e. c.in_default.ensures (decimal c.args.column ++ (codes ":" ++ rest)) e

pub returns : goal.returns
returns c = three_fronts (λ r. r.now) c.args.text.now (codes " ") c.in-Some.word.now (decimal c.args.column) (codes ":") c.behind_number.result c.in-Some.ensures c.behind_number.ensures
