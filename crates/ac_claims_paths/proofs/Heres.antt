-- What stands at a position, by the model: reads and outputs, numbers, calls.
use Rattle.std.proofs.Common.{◌≡◌, ℕ, zero, suc, ◌+◌, ℤ, pos, List, [], ◌∷◌, ◌++◌, length, get_or, Option, Some, None, refl, sym, ap, ◌∙◌, subst, arith}
use Rattle.std.specs.Prelude.{slice_get}
use Rattle.ac_forms.specs.Affine.{Affine, value_at, column_form}
use Rattle.ac_syntax.specs.Index.{index_value}
use Rattle.ac_syntax.specs.Trace.{Entry}
use Rattle.ac_syntax.specs.Algebra.{Cell}
use Rattle.ac_syntax.specs.ValueNodes.{node_of}
use Rattle.ac_syntax.specs.Source.{Writer}
use Rattle.ac_syntax.specs.Spot.{Spot, AtEnd, AtNode, AtStart, Reads, an_output, an_access, cell_at}
use Rattle.ac_syntax.specs.Where.{element}
use Rattle.ac_syntax.specs.declared.tree.IndexExpr.{IndexExpr}
use Rattle.ac_syntax.specs.declared.tree.Place.{Place}
use Rattle.ac_syntax.specs.declared.tree.Position.{Position}
use Rattle.ac_syntax.specs.declared.tree.Position.TheVariants.{Output, Node, InitialOutput, InitialNode}
use Rattle.ac_syntax.specs.declared.tree.Value.{Value}
use Rattle.ac_syntax.specs.declared.tree.Value.TheVariants.{Number, Access, Call'}
use Rattle.ac_poly.specs.ModelMeaning.{Shows, values_at}
use Rattle.ac_poly.specs.ModelNodes.{roots}
use Rattle.ac_poly.specs.declared.types.Model.{Model}
use Rattle.ac_poly.specs.declared.types.NodeModel.{NodeModel}
use Rattle.ac_poly.specs.declared.types.NodeModel.TheVariants.{Number as Constant, Read, Call as Applied}
use Rattle.ac_poly.specs.declared.types.StmtModel.{StmtModel}
use Rattle.ac_base.proofs.Options.{bind-some, map-some, some-is}
use Rattle.ac_claims_paths.specs.Executions.{Execution, InstanceAt, At, Describes}
use Rattle.ac_claims_paths.specs.ModelPositions.{CellForms, cell_read, initial_cell, output_cell, node_at, read_of, element_forms, initial_of, number_of, number_at}
use Rattle.ac_poly.proofs.Differences.{column-value}

-- the cell of forms at coordinates
abbrev pub cell_with : List ℤ → CellForms → List ℤ → Cell
cell_with params cell at = record { array = cell.array; at = values_at (params ++ at) cell.subs }

pub two : {A : Type 0} {x y : A} {xs ys : List A} → x ≡ y → xs ≡ ys → x ∷ xs ≡ y ∷ ys
two p q = λ i. p i ∷ q i

pub get_at : (params : List ℤ) (y : ℤ) (ys : List ℤ) → get_or (params ++ y ∷ ys) (length params) (pos 0) ≡ y
get_at [] y ys = refl
get_at (x ∷ params) y ys = get_at params y ys

pub open_front : (params : List ℤ) (y : ℤ) (ys : List ℤ) → params ++ y ∷ ys ≡ (params ++ y ∷ []) ++ ys
open_front [] y ys = refl
open_front (x ∷ params) y ys = two refl (open_front params y ys)

pub length-one : (params : List ℤ) (y : ℤ) → length (params ++ y ∷ []) ≡ length params + 1
length-one [] y = refl
length-one (x ∷ params) y = omega (arith, length-one params y)

-- the subscripts of an element are its coordinates
pub element_values : (params at : List ℤ) (n count : ℕ) → n ≡ length params → length at ≡ count → values_at (params ++ at) (element_forms n count) ≡ at
element_values params [] n zero e l = refl
element_values params [] n (suc count) e l = absurd (omega (arith, l))
element_values params (y ∷ at) n zero e l = absurd (omega (arith, l))
element_values params (y ∷ at) n (suc count) e l =
    let a : value_at (column_form (n + 1) n) (params ++ y ∷ at) ≡ y = column-value n (params ++ y ∷ at) ∙ ap (λ k. get_or (params ++ y ∷ at) k (pos 0)) e ∙ get_at params y at in
    let m : n + 1 ≡ length (params ++ y ∷ []) = omega (arith, e, length-one params y) in
    let b : values_at ((params ++ y ∷ []) ++ at) (element_forms (n + 1) count) ≡ at = element_values (params ++ y ∷ []) at (n + 1) count m (omega (arith, l)) in
    two a (ap (λ p. values_at p (element_forms (n + 1) count)) (open_front params y at) ∙ b)

-- the node that a model shows for a value
pub node_model : (m : Model) (params : List ℤ) (x : Execution) → Describes m params x → (s k : ℕ) (at : List ℤ) (w : Writer) (v : Value) (node : NodeModel) → InstanceAt x s at w → node_of w.entry.value k ≡ Some v
    → node_at m s k ≡ Some node → Shows (params ++ at) w.entry.point v k (Some node)
node_model m params x d s k at w v node i n e =
    let b = bind-some (slice_get m.stmts s) (λ (stmt : StmtModel). slice_get stmt.nodes k) node e in
    let is : slice_get m.stmts w.entry.stmt ≡ Some b.0 = ap (slice_get m.stmts) i.stmt ∙ b.1 in
    let shows = d.node w b.0 i.stands is k v n in
    subst (λ (o : Option NodeModel). Shows (params ++ at) w.entry.point v k o) b.2 (subst (λ (y : List ℤ). Shows (params ++ y) w.entry.point v k (slice_get b.0.nodes k)) i.coords shows)

-- a read in the model is a read in the program
pub record ReadHere (params : List ℤ) (cell : CellForms) (at : List ℤ) (w : Writer) (v : Value) : Type 0 where
  pub array : ℕ
  pub subs : List IndexExpr
  pub place : Place
  pub value : v ≡ Access array subs place
  pub cell_is : cell_at w array subs ≡ cell_with params cell at

read_here : (params : List ℤ) (cell : CellForms) (at : List ℤ) (w : Writer) (v : Value) (k : ℕ) (node : NodeModel) → Shows (params ++ at) w.entry.point v k (Some node) → read_of node ≡ Some cell → ReadHere params cell at w v
read_here params cell at w (Number e) k node (form, is, value) r = let i : node ≡ Constant form = cc in let j : None ≡ Some cell = ap read_of (sym i) ∙ r in absurd cc
read_here params cell at w (Access array subs place) k node (forms, is, values) r =
    let i : node ≡ Read array forms = cc in
    let j : record { array = array; subs = forms } ≡ cell = some-is _ cell (ap read_of (sym i) ∙ r) in
    record { array = array; subs = subs; place = place; value = refl; cell_is = (λ i. record { array = array; at = sym values i }) ∙ ap (λ (c : CellForms). cell_with params c at) j }
read_here params cell at w (Call' symbol n args place) k node is r = let i : node ≡ Applied symbol (roots args (k + 1)) = cc in let j : None ≡ Some cell = ap read_of (sym i) ∙ r in absurd cc

-- a read or an output, and the cell that it reads
pub record Reading (x : Execution) (params : List ℤ) (P : Position) (at : List ℤ) (cell : CellForms) (s : Spot) : Type 0 where
  pub read : Cell
  pub before : List Entry
  pub reads : Reads x.trace s read before
  pub cell_is : read ≡ cell_with params cell at
  pub initial : At x (initial_of P) at (AtStart read)

element_cell : (m : Model) (params : List ℤ) (x : Execution) → Describes m params x → (o : ℕ) (at : List ℤ) (cell : CellForms) → x.inside o at → output_cell m o ≡ Some cell → element o at ≡ cell_with params cell at
element_cell m params x d o at cell inside e =
    let b = map-some (slice_get m.extents o) (λ (extents : List Affine). record { array = o; subs = element_forms m.params (length extents) }) cell e in
    let f = d.elements o at inside in
    let same : f.extents ≡ b.0 = some-is f.extents b.0 (sym f.is ∙ b.1) in
    let count : length at ≡ length b.0 = f.count ∙ ap (λ (y : List Affine). length y) same in
    let v : values_at (params ++ at) (element_forms m.params (length b.0)) ≡ at = element_values params at m.params (length b.0) d.count count in
    (λ i. record { array = o; at = sym v i }) ∙ ap (λ (c : CellForms). cell_with params c at) (sym b.2)

pub reading : (m : Model) (params : List ℤ) (x : Execution) → Describes m params x → (P : Position) (at : List ℤ) (cell : CellForms) (s : Spot) → cell_read m P ≡ Some cell → At x P at s → Reading x params P at cell s
unfolding At
reading m params x d (Output o) at cell s e (inside, is) =
    subst (λ (y : Spot). Reading x params (Output o) at cell y) (sym is)
    (record { read = element o at; before = x.trace; reads = an_output (element o at); cell_is = element_cell m params x d o at cell inside e; initial = (inside, refl) })
reading m params x d (Node k j) at cell s e (w, i, v, n, is) =
    let b = bind-some (node_at m k j) read_of cell e in
    let r = read_here params cell at w v j b.0 (node_model m params x d k j at w v b.0 i n b.1) b.2 in
    subst (λ (y : Spot). Reading x params (Node k j) at cell y) (sym (is ∙ ap (AtNode w) r.value))
    (record { read = cell_at w r.array r.subs; before = w.earlier; reads = an_access w r.array r.subs r.place; cell_is = r.cell_is; initial = (w, i, r.array, r.subs, r.place, n ∙ ap Some r.value, refl) })
reading m params x d (InitialOutput o) at cell s e h = absurd cc
reading m params x d (InitialNode k j) at cell s e h = absurd cc

-- an initial position stands for the contents of its cell
pub initial_here : (m : Model) (params : List ℤ) (x : Execution) → Describes m params x → (P : Position) (at : List ℤ) (cell : CellForms) (s : Spot) → initial_cell m P ≡ Some cell → At x P at s → s ≡ AtStart (cell_with params cell at)
unfolding At
initial_here m params x d (Output o) at cell s e h = absurd cc
initial_here m params x d (Node k j) at cell s e h = absurd cc
initial_here m params x d (InitialOutput o) at cell s e (inside, is) = is ∙ ap AtStart (element_cell m params x d o at cell inside e)
initial_here m params x d (InitialNode k j) at cell s e (w, i, array, subs, place, n, is) =
    let b = bind-some (node_at m k j) read_of cell e in
    let r = read_here params cell at w (Access array subs place) j b.0 (node_model m params x d k j at w (Access array subs place) b.0 i n b.1) b.2 in
    let a : array ≡ r.array = (let v : Access array subs place ≡ Access r.array r.subs r.place = r.value in cc) in
    let u : subs ≡ r.subs = (let v : Access array subs place ≡ Access r.array r.subs r.place = r.value in cc) in
    is ∙ (λ i. AtStart (cell_at w (a i) (u i))) ∙ ap AtStart r.cell_is

-- a number in the model is a number in the program
pub record NumberHere (params : List ℤ) (f : Affine) (at : List ℤ) (s : Spot) : Type 0 where
  pub writer : Writer
  pub form : IndexExpr
  pub is : s ≡ AtNode writer (Number form)
  pub value : value_at f (params ++ at) ≡ index_value writer.entry.point form

number_here : (params : List ℤ) (f : Affine) (at : List ℤ) (w : Writer) (v : Value) (k : ℕ) (node : NodeModel) → Shows (params ++ at) w.entry.point v k (Some node) → number_of node ≡ Some f → NumberHere params f at (AtNode w v)
number_here params f at w (Number e) k node (form, is, value) r =
    let i : node ≡ Constant form = cc in
    let j : form ≡ f = some-is form f (ap number_of (sym i) ∙ r) in
    record { writer = w; form = e; is = refl; value = ap (λ (g : Affine). value_at g (params ++ at)) (sym j) ∙ value }
number_here params f at w (Access array subs place) k node (forms, is, values) r = let i : node ≡ Read array forms = cc in let j : None ≡ Some f = ap number_of (sym i) ∙ r in absurd cc
number_here params f at w (Call' symbol n args place) k node is r = let i : node ≡ Applied symbol (roots args (k + 1)) = cc in let j : None ≡ Some f = ap number_of (sym i) ∙ r in absurd cc

pub number_at_spot : (m : Model) (params : List ℤ) (x : Execution) → Describes m params x → (P : Position) (at : List ℤ) (f : Affine) (s : Spot) → number_at m P ≡ Some f → At x P at s → NumberHere params f at s
unfolding At
number_at_spot m params x d (Output o) at f s e h = absurd cc
number_at_spot m params x d (Node k j) at f s e (w, i, v, n, is) =
    let b = bind-some (node_at m k j) number_of f e in
    subst (λ (y : Spot). NumberHere params f at y) (sym is) (number_here params f at w v j b.0 (node_model m params x d k j at w v b.0 i n b.1) b.2)
number_at_spot m params x d (InitialOutput o) at f s e h = absurd cc
number_at_spot m params x d (InitialNode k j) at f s e h = absurd cc

-- what a spot reads is one cell
reads_end : (es : List Entry) (s : Spot) (c : Cell) (before : List Entry) → Reads es s c before → (d : Cell) → s ≡ AtEnd d → c ≡ d
reads_end es s c before (an_output e) d i = cc
reads_end es s c before (an_access w array subs place) d i = absurd cc

reads_node : (es : List Entry) (s : Spot) (c : Cell) (before : List Entry) → Reads es s c before → (w : Writer) (array : ℕ) (subs : List IndexExpr) (place : Place) → s ≡ AtNode w (Access array subs place) → c ≡ cell_at w array subs
reads_node es s c before (an_output e) w array subs place i = absurd cc
reads_node es s c before (an_access u array' subs' place') w array subs place i =
    let j : u ≡ w = cc in
    let k : Access array' subs' place' ≡ Access array subs place = cc in
    let a : array' ≡ array = cc in
    let b : subs' ≡ subs = cc in
    λ z. cell_at (j z) (a z) (b z)

pub same_read : (es : List Entry) (s : Spot) (c : Cell) (before : List Entry) (d : Cell) (later : List Entry) → Reads es s c before → Reads es s d later → d ≡ c
same_read es s c before d later (an_output e) r = reads_end es s d later r e refl
same_read es s c before d later (an_access w array subs place) r = reads_node es s d later r w array subs place refl

-- the cell that is read at a read or an output
pub read_cell : (m : Model) (params : List ℤ) (x : Execution) → Describes m params x → (P : Position) (at : List ℤ) (cell : CellForms) (s : Spot) (c : Cell) (before : List Entry) → cell_read m P ≡ Some cell → At x P at s → Reads x.trace s c before → c ≡ cell_with params cell at
read_cell m params x d P at cell s c before e h r = let rd = reading m params x d P at cell s e h in same_read x.trace s rd.read rd.before c before rd.reads r ∙ rd.cell_is
