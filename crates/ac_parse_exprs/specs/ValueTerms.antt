-- That right sides mean in the program what they mean as they are written.
use Rattle.std.specs.Prelude.{◌≡◌, List, Some, None}
use Rattle.ac_syntax.specs.Index.{Point}
use Rattle.ac_syntax.specs.Algebra.{Cell, value_of}
use Rattle.ac_syntax.specs.Term.{Term, free}
use Rattle.ac_parse_grammar.specs.declared.tree.Expr.{Expr}
use Rattle.ac_parse_exprs.specs.declared.scope.Entry.{Entry}
use Rattle.ac_parse_exprs.specs.declared.scope.Scope.{Scope}
use Rattle.ac_parse_exprs.specs.FormValues.{AreNumbered, IsPointOf}
use Rattle.ac_parse_exprs.specs.Values.{value, value_broken}
use Rattle.ac_parse_exprs.specs.WrittenTerms.{as_term, written}

-- a right side that breaks no rule has in the program the term that it has as it is written
abbrev pub ValuesHaveTerms : Type 0
ValuesHaveTerms = (names : List Entry) (scope : Scope) (p : Point) (state : Cell → Term) → AreNumbered scope.params names → IsPointOf scope p
    → (e : Expr) → value_broken names scope e ≡ None → as_term (written names scope p state e) ≡ Some (value_of free p state (value names scope e))
