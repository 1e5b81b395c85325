use Rattle.ac_syntax.specs.Index.{point}
use Rattle.std.proofs.Common.{[]}
use Rattle.ac_syntax.proofs.LastWriters.{is_before, stands_before}
use Rattle.ac_syntax.proofs.Order.{one_entry}
use Rattle.ac_syntax.proofs.laws.order_of_entries.Goals as goal

pub returns-clause-order : goal.returns-clause-order
returns-clause-order c = λ body params w u h k. (is_before body (point params []) w u h k, stands_before body (point params []) w u h k)

pub returns-clause-once : goal.returns-clause-once
returns-clause-once c = λ body params w u h k. one_entry body (point params []) w u h k
