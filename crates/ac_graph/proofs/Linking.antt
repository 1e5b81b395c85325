-- The outlines of a program are those of its model.
use Rattle.std.proofs.Common.{◌≡◌, ◌↔◌, inl, inr, ℕ, suc, ◌+◌, List, [], ◌∷◌, ◌++◌, length, map, refl, sym, ap, subst, ◌∙◌, Option, Some, None, option_and_then, option_map, get_or, Bool, true, false, nat_lt}
use Rattle.std.specs.List.{flat_map, slice_get}
use Rattle.std.proofs.lemmas.Option.{slice_get-map, slice_get_cases, slice_get-get_or}
use Rattle.std.proofs.lemmas.List.{map-append, length-map}
use Rattle.std.proofs.lemmas.Bool.{ltb-true, lt-ltb}
use Rattle.ac_forms.specs.Affine.{Affine}
use Rattle.ac_syntax.specs.LoopNests.{loop_count, loop_count_in}
use Rattle.ac_syntax.specs.ValueNodes.{size}
use Rattle.ac_syntax.specs.Outputs.{swaps_of}
use Rattle.ac_syntax.specs.declared.tree.Cond.{Cond}
use Rattle.ac_syntax.specs.declared.tree.IndexExpr.{IndexExpr}
use Rattle.ac_syntax.specs.declared.tree.Pair.{Pair}
use Rattle.ac_syntax.specs.declared.tree.Position.{Position}
use Rattle.ac_syntax.specs.declared.tree.Position.TheVariants.{Output, Node, InitialOutput, InitialNode}
use Rattle.ac_syntax.specs.declared.tree.Program.{Program}
use Rattle.ac_syntax.specs.declared.tree.Stmt.{Stmt, Row_of-Stmt, end_of-Stmt, more_of-Stmt}
use Rattle.ac_syntax.specs.declared.tree.Stmt.TheVariants.{For', If', Assign}
use Rattle.ac_syntax.specs.declared.tree.Value.{Value, Row_of-Value, end_of-Value, more_of-Value}
use Rattle.ac_syntax.specs.declared.tree.Value.TheVariants.{Number, Access, Call'}
use Rattle.ac_poly.specs.Lower.{own_scope, last_form, lower, lower_in, lower_all}
use Rattle.ac_poly_quotients.specs.QuotientScopes.{outermost, in_loop, where_holds, where_fails}
use Rattle.ac_poly.specs.Model.{model_of, extents_of}
use Rattle.ac_poly.specs.ModelNodes.{nodes, nodes_in, roots}
use Rattle.ac_poly_quotients.specs.declared.types.Scope.{Scope}
use Rattle.ac_poly.specs.declared.types.Model.{Model}
use Rattle.ac_poly.specs.declared.types.NodeModel.{NodeModel}
use Rattle.ac_poly.specs.declared.types.NodeModel.TheVariants as node
use Rattle.ac_poly.specs.declared.types.StmtModel.{StmtModel}
use Rattle.ac_claims_paths.specs.declared.places.CellForms.{CellForms}
use Rattle.ac_claims_paths.specs.ModelPositions.{CallAt, call_at, node_at, read_of, output_cell, call_of, element_forms}
use Rattle.ac_graph.specs.PairMoves.{IsReader, pairing_of}
use Rattle.ac_graph.specs.ProgramOutlines.{outline_of, outline_of_stmt, outlined, outlined_in, outlines, outlines_in, outline_at, reads_at, is_some_read, called_by, called_at, IsOutlineOf, AreOutlinesOf}
use Rattle.ac_graph.specs.declared.outline.Outline.{Outline}
use Rattle.ac_graph.specs.declared.outline.Outline.TheVariants as outline
use Rattle.ac_graph.specs.declared.programs.Both.{Both}
use Rattle.ac_graph.specs.declared.programs.Outlines.{Outlines}

mutual
  unfolding outlined nodes

  value_linked : (form : IndexExpr → Affine) (v : Value) (at : ℕ) → outlined v at ≡ map outline_of (nodes form v at)
  value_linked form (Number e) at = refl
  value_linked form (Access array subs place) at = refl
  value_linked form (Call' symbol n args place) at = ap (λ r. outline.Call symbol (roots args (at + 1)) ∷ r) (values_linked form args (at + 1))

  values_linked : (form : IndexExpr → Affine) {m : _} (k : Row_of-Value m) (at : ℕ) → outlined_in k at ≡ map outline_of (nodes_in form k at)
  values_linked form end_of-Value at = refl
  values_linked form (more_of-Value v rest) at =
      (λ i. value_linked form v at i ++ values_linked form rest (at + size v) i) ∙ sym (map-append outline_of (nodes form v at) (nodes_in form rest (at + size v)))

mutual
  unfolding outlines lower

  stmt_linked : (s : Stmt) (loop : ℕ) (sc : Scope) → outlines s ≡ map outline_of_stmt (lower s loop sc)
  stmt_linked (For' iter start cond step n body place) loop sc = stmts_linked body (suc loop) (in_loop sc loop start cond step)
  stmt_linked (If' cond n taken m other place) loop sc =
      (λ i. stmts_linked taken loop (where_holds sc cond) i ++ stmts_linked other (loop + loop_count_in taken) (where_fails sc cond) i)
      ∙ sym (map-append outline_of_stmt (lower_in taken loop (where_holds sc cond)) (lower_in other (loop + loop_count_in taken) (where_fails sc cond)))
  stmt_linked (Assign array subs value place) loop sc = ap (λ v. v ∷ []) (value_linked (last_form (own_scope sc subs value)) value 0)

  stmts_linked : {m : _} (k : Row_of-Stmt m) (loop : ℕ) (sc : Scope) → outlines_in k ≡ map outline_of_stmt (lower_in k loop sc)
  stmts_linked end_of-Stmt loop sc = refl
  stmts_linked (more_of-Stmt s rest) loop sc =
      (λ i. stmt_linked s loop sc i ++ stmts_linked rest (loop + loop_count s) sc i) ∙ sym (map-append outline_of_stmt (lower s loop sc) (lower_in rest (loop + loop_count s) sc))

body_linked : (ss : List Stmt) (loop : ℕ) (sc : Scope) → flat_map outlines ss ≡ map outline_of_stmt (lower_all ss loop sc)
body_linked [] loop sc = refl
body_linked (s ∷ ss) loop sc =
    (λ i. stmt_linked s loop sc i ++ body_linked ss (loop + loop_count s) sc i) ∙ sym (map-append outline_of_stmt (lower s loop sc) (lower_all ss (loop + loop_count s) sc))

pub linked : (p : Program) (context : Cond) (o : Outlines) → o.stmts ≡ flat_map outlines p.body → o.arrays ≡ length p.arrays → IsOutlineOf (model_of p context) o
linked p context o s a = record {
  stmts = s ∙ body_linked p.body 0 (outermost (length p.params));
  arrays = a ∙ sym (length-map p.arrays extents_of);
}

pub linked_pair : (pair : Pair) (b : Both) → b.left ≡ record { stmts = flat_map outlines pair.left.body; arrays = length pair.left.arrays } → b.right ≡ record { stmts = flat_map outlines pair.right.body; arrays = length pair.right.arrays }
    → b.commutative.now ≡ pair.commutative → AreOutlinesOf (pairing_of pair) b
linked_pair pair b l r c = record {
  left = linked pair.left pair.context b.left (ap (λ (o : Outlines). o.stmts) l) (ap (λ (o : Outlines). o.arrays) l);
  right = linked pair.right pair.context b.right (ap (λ (o : Outlines). o.stmts) r) (ap (λ (o : Outlines). o.arrays) r);
  swaps = λ s. ap (λ names. swaps_of names s) (sym c);
}

-- the node at a position
stmt_by : (k : ℕ) (x : Option StmtModel) → option_and_then (λ (nodes : List Outline). slice_get nodes k) (option_map outline_of_stmt x) ≡ option_map outline_of (option_and_then (λ (stmt : StmtModel). slice_get stmt.nodes k) x)
stmt_by k None = refl
stmt_by k (Some stmt) = slice_get-map outline_of stmt.nodes k

node_linked : (m : Model) (o : Outlines) → IsOutlineOf m o → (s k : ℕ) → outline_at o s k ≡ option_map outline_of (node_at m s k)
node_linked m o h s k =
    ap (λ (ns : List (List Outline)). option_and_then (λ (nodes : List Outline). slice_get nodes k) (slice_get ns s)) h.stmts
    ∙ ap (option_and_then (λ (nodes : List Outline). slice_get nodes k)) (slice_get-map outline_of_stmt m.stmts s) ∙ stmt_by k (slice_get m.stmts s)

call_by : (s : ℕ) (x : Option NodeModel) → option_and_then (called_by s) (option_map outline_of x) ≡ option_and_then (call_of s) x
call_by s None = refl
call_by s (Some (node.Number f)) = refl
call_by s (Some (node.Read array subs)) = refl
call_by s (Some (node.Call symbol args)) = refl

pub call_linked : (m : Model) (o : Outlines) → IsOutlineOf m o → (p : Position) → called_at o p ≡ call_at m p
call_linked m o h (Output a) = refl
call_linked m o h (Node s k) = ap (option_and_then (called_by s)) (node_linked m o h s k) ∙ call_by s (node_at m s k)
call_linked m o h (InitialOutput a) = refl
call_linked m o h (InitialNode s k) = refl

read_by : (x : Option NodeModel) → (is_some_read (option_map outline_of x) ≡ true) ↔ ((cell : CellForms) × (option_and_then read_of x ≡ Some cell))
read_by None = ((λ e. cc), (λ h. let e = h.1 in cc))
read_by (Some (node.Number f)) = ((λ e. cc), (λ h. let e = h.1 in cc))
read_by (Some (node.Read array subs)) = ((λ e. (record { array = array; subs = subs }, refl)), (λ h. refl))
read_by (Some (node.Call symbol args)) = ((λ e. cc), (λ h. let e = h.1 in cc))

cell_of : Model → ℕ → List Affine → CellForms
cell_of m a extents = record { array = a; subs = element_forms m.params (length extents) }

some_cell : (m : Model) (a : ℕ) (x : Option (List Affine)) (e : List Affine) → x ≡ Some e → (cell : CellForms) × (option_map (λ (extents : List Affine). cell_of m a extents) x ≡ Some cell)
some_cell m a x e i = (cell_of m a e, ap (option_map (λ (extents : List Affine). cell_of m a extents)) i)

no_cell : (m : Model) (a : ℕ) (x : Option (List Affine)) (cell : CellForms) → x ≡ None → option_map (λ (extents : List Affine). cell_of m a extents) x ≡ Some cell → ⊥
no_cell m a None cell i e = absurd cc
no_cell m a (Some extents) cell i e = absurd cc

output_by : (m : Model) (a : ℕ) → (nat_lt a (length m.extents) ≡ true) ↔ ((cell : CellForms) × (output_cell m a ≡ Some cell))
unfolding cell_of
output_by m a = (
  (λ e. some_cell m a (slice_get m.extents a) (get_or m.extents a []) (slice_get-get_or m.extents a [] (ltb-true a (length m.extents) e))),
  (λ h. elim (slice_get_cases m.extents a).1 [ inl i ↦ lt-ltb a (length m.extents) i.1 | inr o ↦ absurd (no_cell m a (slice_get m.extents a) h.0 o.1 h.1) ]),
)

pub reader_linked : (m : Model) (o : Outlines) → IsOutlineOf m o → (p : Position) → (reads_at o p ≡ true) ↔ IsReader m p
reader_linked m o h (Output a) = subst (λ n. (nat_lt a n ≡ true) ↔ IsReader m (Output a)) (sym h.arrays) (output_by m a)
reader_linked m o h (Node s k) = subst (λ x. (is_some_read x ≡ true) ↔ IsReader m (Node s k)) (sym (node_linked m o h s k)) (read_by (node_at m s k))
reader_linked m o h (InitialOutput a) = ((λ e. cc), (λ h. let e = h.1 in cc))
reader_linked m o h (InitialNode s k) = ((λ e. cc), (λ h. let e = h.1 in cc))

pub called_some : (m : Model) (o : Outlines) (p : Position) (found : Option CallAt) (call : CallAt) → IsOutlineOf m o → found ≡ called_at o p → found ≡ Some call → call_at m p ≡ Some call
called_some m o p found call h e f = sym (call_linked m o h p) ∙ sym e ∙ f

pub reads : (m : Model) (o : Outlines) (p : Position) (r : Bool) → IsOutlineOf m o → r ≡ reads_at o p → r ≡ true → IsReader m p
reads m o p r h e t = (reader_linked m o h p).0 (sym e ∙ t)

pub reads_not : (m : Model) (o : Outlines) (p : Position) (r : Bool) → IsOutlineOf m o → r ≡ reads_at o p → r ≡ false → ¬ (IsReader m p)
reads_not m o p r h e f i = let t = (reader_linked m o h p).1 i in let c : false ≡ true = sym f ∙ e ∙ t in absurd cc
