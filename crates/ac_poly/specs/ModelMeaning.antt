-- What the pieces and forms of a lowered program mean, in words.
use Rattle.std.specs.Prelude.{ℕ, ◌≡◌, ◌↔◌, ◌++◌, ◌+◌, List, length, map, ℤ, slice_get, Some, Option}
use Rattle.std.specs.List.{Contains}
use Rattle.ac_forms.specs.Affine.{Affine, value_at}
use Rattle.ac_syntax.specs.Algebra.{Cell, target}
use Rattle.ac_syntax.specs.Index.{Point, index_value}
use Rattle.ac_syntax.specs.ValueNodes.{size, node_of}
use Rattle.ac_syntax.specs.ReadyPrograms.{ReadyAll}
use Rattle.ac_syntax.specs.Trace.{Entry, trace_of}
use Rattle.ac_syntax.specs.declared.tree.Stmt.{Stmt}
use Rattle.ac_syntax.specs.declared.tree.Value.{Value}
use Rattle.ac_syntax.specs.declared.tree.Value.TheVariants.{Number, Access, Call'}
use Rattle.ac_poly.specs.StmtCoordinates.{width, coordinates_at}
use Rattle.ac_poly.specs.Lower.{lowered_body}
use Rattle.ac_poly.specs.ModelNodes.{roots}
use Rattle.ac_poly.specs.declared.types.NodeModel.{NodeModel}
use Rattle.ac_poly.specs.declared.types.NodeModel.TheVariants.{Number as Constant, Read, Call}
use Rattle.ac_poly.specs.declared.types.StmtModel.{StmtModel}
use Rattle.ac_forms.specs.Rows.{Meets}
use Rattle.ac_forms.specs.PieceMembership.{IsInSome}

-- an entry of the assignment with a number, with these counters
abbrev pub HasEntry : List Entry → ℕ → List ℤ → Type 0
HasEntry es number counters = (e : Entry) × Contains es e × (e.stmt ≡ number) × (e.counters ≡ counters)

-- the model of the assignment with a number
abbrev pub Lowered : ℕ → List Stmt → ℕ → StmtModel → Type 0
Lowered params body number model = slice_get (lowered_body params body) number ≡ Some model

-- as many numbers as an assignment has coordinates lie in some of its pieces exactly where they are those of an entry of the trace
abbrev pub PointsAreInstances : Type 0
PointsAreInstances =
    (body : List Stmt) (params at : List ℤ) (number : ℕ) (model : StmtModel) → ReadyAll (length params) 0 body → Lowered (length params) body number model
    → length at ≡ width model → IsInSome Meets model.pieces (params ++ at) ↔ ((counters : List ℤ) × HasEntry (trace_of body params) number counters × (coordinates_at model params counters ≡ at))

-- the values of forms at a point
abbrev pub values_at : List ℤ → List Affine → List ℤ
values_at p = map (λ f. value_at f p)

-- the cell that an assignment writes, at the point of the parameters and its coordinates
abbrev pub cell_of : StmtModel → List ℤ → Cell
cell_of model p = record { array = model.array; at = values_at p model.subs }

-- an entry writes the cell of its model
abbrev pub TargetsAreCells : Type 0
TargetsAreCells =
    (body : List Stmt) (params : List ℤ) (e : Entry) (model : StmtModel) → ReadyAll (length params) 0 body → Lowered (length params) body e.stmt model
    → Contains (trace_of body params) e → target e ≡ cell_of model (params ++ coordinates_at model params e.counters)

-- what the model has for a value whose root has the number `number`: the index values are those of the forms
abbrev pub Shows : List ℤ → Point → Value → ℕ → Option NodeModel → Type 0
Shows p point (Number e) number node = (form : Affine) × (node ≡ Some (Constant form)) × (value_at form p ≡ index_value point e)
Shows p point (Access array subs place) number node = (forms : List Affine) × (node ≡ Some (Read array forms)) × (values_at p forms ≡ map (index_value point) subs)
Shows p point (Call' symbol n args place) number node = node ≡ Some (Call symbol (roots args (number + 1)))

-- each node of an entry's value has its model, and there are no others
abbrev pub NodesAreValues : Type 0
NodesAreValues =
    (body : List Stmt) (params : List ℤ) (e : Entry) (model : StmtModel) → ReadyAll (length params) 0 body → Lowered (length params) body e.stmt model
    → Contains (trace_of body params) e
    → (length model.nodes ≡ size e.value) × ((number : ℕ) (v : Value) → node_of e.value number ≡ Some v → Shows (params ++ coordinates_at model params e.counters) e.point v number (slice_get model.nodes number))
