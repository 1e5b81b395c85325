use Rattle.std.proofs.Common.{◌≡◌, ◌++◌, drop}
use Rattle.ac_syntax.specs.Text.{terms}
use Rattle.ac_syntax.specs.PrinterTerms.{continued, has_terms}
use Rattle.ac_syntax.proofs.print.forms.push_terms.Given as goal

abbrev pub invariant-loop-i : goal.invariant-loop-i
invariant-loop-i l =
    (l.bytes.items ++ continued l.any (terms (drop l.i l.coefs) (drop l.i l.names)) ≡ l.fn.bytes.items ++ continued l.before (terms l.coefs l.names))
    × (has_terms l.any (terms (drop l.i l.coefs) (drop l.i l.names)) ≡ has_terms l.before (terms l.coefs l.names))
