use Rattle.std.proofs.Common.{◌≡◌, ◌++◌, drop}
use Rattle.ac_syntax.specs.Text.{quot_terms}
use Rattle.ac_syntax.specs.PrinterTerms.{continued, has_terms}
use Rattle.ac_syntax.proofs.print.forms.push_quots.Given as goal

abbrev pub invariant-loop-quot : goal.invariant-loop-quot
invariant-loop-quot l =
    (l.bytes.items ++ continued l.any (quot_terms l.scope (drop l.quot-index l.quots)) ≡ l.fn.bytes.items ++ continued l.before (quot_terms l.scope l.quots))
    × (has_terms l.any (quot_terms l.scope (drop l.quot-index l.quots)) ≡ has_terms l.before (quot_terms l.scope l.quots))
