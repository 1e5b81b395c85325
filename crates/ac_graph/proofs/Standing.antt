-- What stands at a position in an execution, the model has there.
use Rattle.std.proofs.Common.{◌≡◌, ℕ, zero, suc, ◌+◌, ◌-◌, ◌<◌, ◌≤◌, ℤ, List, ◌++◌, map, length, Bool, true, false, cond, Option, Some, refl, sym, ap, ◌∙◌, subst, arith}
use Rattle.std.specs.Prelude.{nat_lt, slice_get, option_map, option_and_then}
use Rattle.ac_forms.specs.Affine.{Affine}
use Rattle.ac_syntax.specs.Algebra.{Cell}
use Rattle.ac_syntax.specs.Index.{Point}
use Rattle.ac_syntax.specs.ValueNodes.{node_of, node_in, size, size_in}
use Rattle.ac_syntax.specs.Source.{Writer}
use Rattle.ac_syntax.specs.Spot.{Spot, AtNode, AtStart, Reads, an_output, an_access, cell_at}
use Rattle.ac_syntax.specs.Trace.{Entry}
use Rattle.ac_syntax.specs.Where.{element}
use Rattle.ac_syntax.specs.declared.tree.Position.{Position}
use Rattle.ac_syntax.specs.declared.tree.Position.TheVariants.{Output, Node, InitialOutput, InitialNode}
use Rattle.ac_syntax.specs.declared.tree.Symbol.{Symbol}
use Rattle.ac_syntax.specs.declared.tree.Value.{Value, Row_of-Value, end_of-Value, more_of-Value}
use Rattle.ac_syntax.specs.declared.tree.Value.TheVariants.{Number, Access, Call'}
use Rattle.ac_syntax.proofs.NodeLemmas.{in_first}
use Rattle.ac_poly.specs.ModelMeaning.{Shows}
use Rattle.ac_poly.specs.declared.types.Model.{Model}
use Rattle.ac_poly.specs.declared.types.NodeModel.{NodeModel}
use Rattle.ac_poly.specs.declared.types.NodeModel.TheVariants as node
use Rattle.ac_poly.specs.declared.types.StmtModel.{StmtModel}
use Rattle.ac_claims_paths.specs.Executions.{Execution, At, Describes}
use Rattle.ac_claims_paths.specs.Pairs.{Placed, IsCallOf, CallPlace}
use Rattle.ac_claims_paths.specs.ModelPositions.{CallAt, call_at, call_of, cell_read, read_of, element_forms}
use Rattle.ac_claims_paths.specs.declared.places.CellForms.{CellForms}

-- a value has as many nodes as its size says
node_by : (b : Bool) (v : Value) (k m : ℕ) (rest : Option Value) → nat_lt k (size v) ≡ b → k < size v + m → (k < size v → (u : Value) × (node_of v k ≡ Some u)) → (k - size v < m → (u : Value) × (rest ≡ Some u)) → (u : Value) × (cond b (node_of v k) rest ≡ Some u)
node_by true v k m rest e l f g = f (in_first k (size v) true e)
node_by false v k m rest e l f g = let s : size v ≤ k = in_first k (size v) false e in g (omega arith)

mutual
  unfolding node_of size

  pub node_there : (v : Value) (k : ℕ) → k < size v → (u : Value) × (node_of v k ≡ Some u)
  node_there (Number e) zero l = (Number e, refl)
  node_there (Number e) (suc k) l = absurd (omega arith)
  node_there (Access array subs place) zero l = (Access array subs place, refl)
  node_there (Access array subs place) (suc k) l = absurd (omega arith)
  node_there (Call' symbol n args place) zero l = (Call' symbol n args place, refl)
  node_there (Call' symbol n args place) (suc k) l = node_among_them args k (omega arith)

  node_among_them : {m : _} (vs : Row_of-Value m) (k : ℕ) → k < size_in vs → (u : Value) × (node_in vs k ≡ Some u)
  node_among_them end_of-Value k l = absurd (omega arith)
  node_among_them (more_of-Value v rest) k l = node_by (nat_lt k (size v)) v k (size_in rest) (node_in rest (k - size v)) refl l (node_there v k) (λ s. node_among_them rest (k - size v) s)

-- a read or an output
reader_at_spot : (es : List Entry) (s : Spot) (c : Cell) (before : List Entry) → Reads es s c before → (d : Cell) → s ≡ AtStart d → ⊥
reader_at_spot es s c before (an_output z) d q = absurd cc
reader_at_spot es s c before (an_access u array subs place) d q = absurd cc

pub reader_there : (m : Model) (params : List ℤ) (x : Execution) → Describes m params x → (P : Position) (at : List ℤ) (s : Spot) → At x P at s → (c : Cell) (before : List Entry) → Reads x.trace s c before → (forms : CellForms) × (cell_read m P ≡ Some forms)
unfolding At
reader_there m params x d (Output o) at s h c before r =
    let f = d.elements o at h.0 in
    (record { array = o; subs = element_forms m.params (length f.extents) }, ap (λ (y : Option (List Affine)). option_map (λ (extents : List Affine). record { array = o; subs = element_forms m.params (length extents) }) y) f.is)
reader_there m params x d (Node k j) at s (w, i, v, n, is) c before r = by s c before r is
  where
    by : (s : Spot) (c : Cell) (before : List Entry) → Reads x.trace s c before → s ≡ AtNode w v → (forms : CellForms) × (cell_read m (Node k j) ≡ Some forms)
    by s c before (an_output z) q = absurd cc
    by s c before (an_access u array subs place) q =
        let mo = d.entry w i.stands in
        let same : v ≡ Access array subs place = cc in
        let sh = d.node w mo.stmt i.stands mo.is j (Access array subs place) (n ∙ ap Some same) in
        let here : slice_get m.stmts k ≡ Some mo.stmt = ap (slice_get m.stmts) (sym i.stmt) ∙ mo.is in
        (record { array = array; subs = sh.0 }, ap (λ (o : Option StmtModel). option_and_then read_of (option_and_then (λ (st : StmtModel). slice_get st.nodes j) o)) here ∙ ap (λ (o : Option NodeModel). option_and_then read_of o) sh.1)
reader_there m params x d (InitialOutput o) at s h c before r = absurd (reader_at_spot x.trace s c before r (element o at) h.1)
reader_there m params x d (InitialNode k j) at s (w, i, array, subs, place, n, is) c before r = absurd (reader_at_spot x.trace s c before r (cell_at w array subs) is)

-- a call
call_value : (p : List ℤ) (point : Point) (v : Value) (number : ℕ) (f : Symbol) (ks : List ℕ) (o : Option NodeModel) → IsCallOf v number f ks → Shows p point v number o → o ≡ Some (node.Call f ks)
call_value p point (Number e) number f ks o h sh = absurd h
call_value p point (Access array subs place) number f ks o h sh = absurd h
call_value p point (Call' g n args place) number f ks o h sh = sh ∙ (λ i. Some (node.Call (sym h.0 i) (sym h.1 i)))

call_node : (m : Model) (params : List ℤ) (x : Execution) → Describes m params x → (stmt number : ℕ) (at : List ℤ) (s : Spot) → At x (Node stmt number) at s → (w : Writer) (v : Value) (f : Symbol) (ks : List ℕ) → s ≡ AtNode w v → IsCallOf v number f ks
    → call_at m (Node stmt number) ≡ Some (record { symbol = f; args = map (Node stmt) ks })
unfolding At
call_node m params x d stmt number at s (w', i, v', n, is) w v f ks q h =
    let same : AtNode w' v' ≡ AtNode w v = sym is ∙ q in
    let value : v' ≡ v = cc in
    let mo = d.entry w' i.stands in
    let sh = d.node w' mo.stmt i.stands mo.is number v' n in
    let o = call_value (params ++ x.coords w'.entry) w'.entry.point v' number f ks (slice_get mo.stmt.nodes number) (subst (λ (z : Value). IsCallOf z number f ks) (sym value) h) sh in
    let here : slice_get m.stmts stmt ≡ Some mo.stmt = ap (slice_get m.stmts) (sym i.stmt) ∙ mo.is in
    ap (λ (y : Option StmtModel). option_and_then (call_of stmt) (option_and_then (λ (st : StmtModel). slice_get st.nodes number) y)) here ∙ ap (λ (y : Option NodeModel). option_and_then (call_of stmt) y) o

-- as the model has it
abbrev pub call_of_place : (x : Execution) (a : Placed x) → CallPlace x a → CallAt
call_of_place x a c = record { symbol = c.symbol; args = map (Node c.stmt) c.arguments }

pub call_there : (m : Model) (params : List ℤ) (x : Execution) → Describes m params x → (a : Placed x) (c : CallPlace x a) → call_at m a.position ≡ Some (call_of_place x a c)
call_there m params x d a c =
    subst (λ (P : Position). call_at m P ≡ Some (call_of_place x a c)) (sym c.position_is)
    (call_node m params x d c.stmt c.node a.at a.spot (subst (λ (P : Position). At x P a.at a.spot) c.position_is a.here) c.writer c.value c.symbol c.arguments c.spot_is c.is_call)
