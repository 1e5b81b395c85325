-- Where each number that the model of an assignment needs stays in `i128`: its forms, and the rows of its quotients. What is around
-- it is told in ac_poly_quotients, `ScopeRange`.
use Rattle.std.specs.Prelude.{◌+◌, List}
use Rattle.std.specs.List.{AllByRecursion}
use Rattle.ac_syntax.specs.declared.tree.IndexExpr.{IndexExpr}
use Rattle.ac_syntax.specs.declared.tree.Value.{Value, Row_of-Value, end_of-Value, more_of-Value}
use Rattle.ac_syntax.specs.declared.tree.Value.TheVariants.{Number, Access, Call'}
use Rattle.ac_poly_quotients.specs.FilledColumns.{counters}
use Rattle.ac_poly_quotients.specs.LastColumns.{places, finals}
use Rattle.ac_poly_quotients.specs.LastRange.{CanTell}
use Rattle.ac_poly_quotients.specs.OwnQuotients.{own_quots}
use Rattle.ac_poly_quotients.specs.ScopeRange.{CanLower, CanNote}
use Rattle.ac_poly_quotients.specs.declared.types.Scope.{Scope}
use Rattle.ac_poly.specs.Lower.{own_scope}

-- an index expression in its scope; among other columns its numbers are the same
abbrev pub CanForm : Scope → IndexExpr → Type 0
CanForm c e = CanLower c c.iters e

-- each index expression of a value
unfoldable mutual
  pub CanFormValue : Scope → Value → Type 0
  CanFormValue c (Number e) = CanForm c e
  CanFormValue c (Access array subs place) = AllByRecursion (CanForm c) subs
  CanFormValue c (Call' symbol n args place) = CanFormValues c args

  pub CanFormValues : Scope → {m : _} → Row_of-Value m → Type 0
  CanFormValues c end_of-Value = Unit {0}
  CanFormValues c (more_of-Value v rest) = CanFormValue c v × CanFormValues c rest

-- an assignment, in its scope: the rows of its quotients, and its forms
abbrev pub CanModel : Scope → List IndexExpr → Value → Type 0
CanModel c subs value = CanTell (c.params + counters c.columns) (finals (places c) c.columns) × CanFormValue c value × AllByRecursion (CanForm c) subs

-- an assignment, in the scope around it: what its own quotients divide, and then that
abbrev pub CanAssign : Scope → List IndexExpr → Value → Type 0
CanAssign sc subs value = CanNote sc.iters (own_quots subs value) × CanModel (own_scope sc subs value) subs value
