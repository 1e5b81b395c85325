use Rattle.std.proofs.Common.{◌≡◌, ◌++◌, take}
use Rattle.ac_syntax.specs.Text.{subscripts_text}
use Rattle.ac_syntax.proofs.print.forms.push_subscripts.Given as goal

abbrev pub invariant-loop-e : goal.invariant-loop-e
invariant-loop-e l = l.bytes.items ≡ l.fn.bytes.items ++ subscripts_text l.scope (take l.e-index l.subs)
