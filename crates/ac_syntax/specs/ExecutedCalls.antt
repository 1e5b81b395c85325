-- The calls of the assignments that are executed.
use Rattle.std.specs.Prelude.{ℕ, ◌≡◌, ℤ, List, length, Some}
use Rattle.ac_syntax.specs.ValueNodes.{node_of}
use Rattle.ac_syntax.specs.Source.{Writer, Stands}
use Rattle.ac_syntax.specs.Trace.{trace_of}
use Rattle.ac_syntax.specs.declared.tree.Place.{Place}
use Rattle.ac_syntax.specs.declared.tree.Stmt.{Stmt}
use Rattle.ac_syntax.specs.declared.tree.Symbol.{Symbol}
use Rattle.ac_syntax.specs.declared.tree.Value.{Value}
use Rattle.ac_syntax.specs.declared.tree.Value.TheVariants.{Call}

-- each call of an assignment that is executed has as many arguments as its symbol says
abbrev pub HaveArities : List Stmt → Type 0
HaveArities body =
    (params : List ℤ) (w : Writer) → Stands (trace_of body params) w → (k : ℕ) (f : Symbol) (args : List Value) (place : Place) → node_of w.entry.value k ≡ Some (Call f args place) → length args ≡ f.arity
