-- At an instance, the forms of its assignment have the values of its index expressions, and its quotients those of the text.
use Rattle.std.proofs.Common.{◌≡◌, ℕ, ◌+◌, List, [], ◌∷◌, ◌++◌, length, map, true, refl, sym, ap, ◌∙◌, ℤ, subst}
use Rattle.std.specs.Prelude.{slice_get, Some}
use Rattle.std.specs.List.{Contains, flat_map, list_any}
use Rattle.ac_forms.specs.Affine.{Affine, value_at}
use Rattle.ac_forms.specs.Renaming.{renamed}
use Rattle.ac_syntax.specs.Index.{Point, index_value, quot_value}
use Rattle.ac_syntax.specs.Quotients.{quotients_of}
use Rattle.ac_syntax.specs.FittingForms.{FormsFit}
use Rattle.ac_syntax.specs.ReadyPrograms.{ReadyAll}
use Rattle.ac_syntax.specs.Trace.{Entry, trace_of}
use Rattle.ac_syntax.specs.ValueNodes.{size, node_of}
use Rattle.ac_syntax.specs.declared.tree.IndexExpr.{IndexExpr}
use Rattle.ac_syntax.specs.declared.tree.Quot.{Quot}
use Rattle.ac_syntax.specs.declared.tree.Stmt.{Stmt}
use Rattle.ac_syntax.specs.declared.tree.Value.{Value}
use Rattle.ac_poly_quotients.specs.LastColumns.{final_columns}
use Rattle.ac_poly_quotients.specs.LoopPaths.{depth_of, point_at, FitsPath}
use Rattle.ac_poly_quotients.specs.OwnQuotients.{form_quots, value_quots}
use Rattle.ac_poly_quotients.specs.QuotientRows.{quotients_at}
use Rattle.ac_poly_quotients.specs.QuotientScopes.{outermost, is_named, lowered_in}
use Rattle.ac_poly_quotients.specs.declared.types.Rounded.{Rounded}
use Rattle.ac_poly_quotients.specs.declared.types.Scope.{Scope}
use Rattle.ac_poly_quotients.proofs.LoopPaths.{forms_of_path, named_at_end, paths_have_quotients}
use Rattle.ac_poly_quotients.proofs.NotedColumns.{AreNamed, named_front}
use Rattle.ac_poly.specs.Lower.{last_form, lowered_body}
use Rattle.ac_poly.specs.ModelMeaning.{values_at, Shows, TargetsAreCells, NodesAreValues}
use Rattle.ac_poly.specs.ModelNodes.{nodes}
use Rattle.ac_poly.specs.StmtCoordinates.{coordinates_at}
use Rattle.ac_poly.specs.declared.types.StmtModel.{StmtModel}
use Rattle.ac_poly.proofs.Bodies.{outside, scope_of, Ended, Told, told_at}
use Rattle.ac_poly.proofs.EndQuotients.{quotients_end_all}
use Rattle.ac_poly.proofs.NodeForms.{EachForm, each_form, length-nodes, node_shows}
use Rattle.ac_poly.proofs.PathEnds.{End, end_quots}

-- ---- the forms at the end of a way

-- an expression whose quotients have columns
form_value : (ps : List ℤ) (w : End) (l : StmtModel) (zs : List ℤ) (t : IndexExpr) → Ended ps w l → FitsPath (length ps) 0 w.path (end_quots w) → length zs ≡ depth_of w.path → length t.params ≡ length ps
    → AreNamed (scope_of ps w) t.quots → value_at (last_form (scope_of ps w) t) (ps ++ coordinates_at l ps zs) ≡ index_value (point_at (outside ps) w.path zs) t
form_value ps w l zs t m f d p n =
    let c : Scope = scope_of ps w in
    let columns : List ℕ = final_columns (length ps) (depth_of w.path) c.columns in
    ap (λ (ks : List ℕ). value_at (renamed ks (lowered_in c c.iters t)) (ps ++ coordinates_at l ps zs)) m.moved
    ∙ ap (λ (qs : List Rounded). value_at (renamed columns (lowered_in c c.iters t)) (ps ++ (zs ++ quotients_at qs (ps ++ zs)))) m.quots
    ∙ forms_of_path ps w.path (end_quots w) t zs f d p n

form_values : (ps : List ℤ) (w : End) (l : StmtModel) (zs : List ℤ) (xs : ℕ) (es : List IndexExpr) → Ended ps w l → FitsPath (length ps) 0 w.path (end_quots w) → length zs ≡ depth_of w.path → FormsFit (length ps) xs es
    → AreNamed (scope_of ps w) (flat_map form_quots es) → values_at (ps ++ coordinates_at l ps zs) (map (last_form (scope_of ps w)) es) ≡ map (index_value (point_at (outside ps) w.path zs)) es
form_values ps w l zs xs [] m f d g n = refl
form_values ps w l zs xs (e ∷ es) m f d g n =
    let ns = named_front (scope_of ps w) (form_quots e) (flat_map form_quots es) n in
    let first = form_value ps w l zs e m f d g.0.params ns.0 in
    let rest = form_values ps w l zs xs es m f d g.1 ns.1 in
    λ i. first i ∷ rest i

-- ---- the cell that an entry writes

pub targets_are_cells : TargetsAreCells
targets_are_cells body ps e l r low c =
    let t = told_at body ps e l r low c in
    let w : End = t.at in
    let ns = named_front (scope_of ps w) (value_quots w.value) (flat_map form_quots w.subs) (named_at_end (outermost (length ps)) w.path (end_quots w)) in
    let here = form_values ps w l e.counters (0 + depth_of w.path) w.subs t.model t.fits.path t.counted t.fits.subs ns.1 in
    let subs : l.subs ≡ map (last_form (scope_of ps w)) w.subs = ap (λ (l : StmtModel). l.subs) t.is in
    let array : e.array ≡ l.array = t.array ∙ sym (ap (λ (l : StmtModel). l.array) t.is) in
    let values : map (index_value e.point) e.subs ≡ values_at (ps ++ coordinates_at l ps e.counters) l.subs =
    (λ i. map (index_value (t.point i)) (t.subs i)) ∙ sym here ∙ ap (values_at (ps ++ coordinates_at l ps e.counters)) (sym subs) in
    λ i. record { array = array i; at = values i }

-- ---- the nodes of its value

pub nodes_are_values : NodesAreValues
nodes_are_values body ps e l r low c = (ap length made ∙ length-nodes form w.value 0 ∙ ap size (sym t.value), shows)
  where
    t : Told ps body l e
    t = told_at body ps e l r low c

    w : End
    w = t.at

    form : IndexExpr → Affine
    form = last_form (scope_of ps w)

    full : List ℤ
    full = ps ++ coordinates_at l ps e.counters

    made : l.nodes ≡ nodes form w.value 0
    made = ap (λ (l : StmtModel). l.nodes) t.is

    each : EachForm (λ (x : IndexExpr). value_at (form x) full ≡ index_value (point_at (outside ps) w.path e.counters) x) w.value
    each =
        each_form (length ps) (0 + depth_of w.path) (λ (q : Quot). list_any (is_named q) (scope_of ps w).quots ≡ true) (λ (x : IndexExpr). value_at (form x) full ≡ index_value (point_at (outside ps) w.path e.counters) x)
        (λ x f n. form_value ps w l e.counters x t.model t.fits.path t.counted f.params n) w.value t.fits.value
        (named_front (scope_of ps w) (value_quots w.value) (flat_map form_quots w.subs) (named_at_end (outermost (length ps)) w.path (end_quots w))).0

    shows : (number : ℕ) (v : Value) → node_of e.value number ≡ Some v → Shows full e.point v number (slice_get l.nodes number)
    shows number v h =
        let g : node_of w.value number ≡ Some v = ap (λ (u : Value). node_of u number) (sym t.value) ∙ h in
        subst (λ (p : Point). Shows full p v number (slice_get l.nodes number)) (sym t.point)
        (subst (λ ns. Shows full (point_at (outside ps) w.path e.counters) v number (slice_get ns number)) (sym made) (node_shows full (point_at (outside ps) w.path e.counters) form w.value number v each g))

-- ---- its quotients

pub quotients_are_values : (body : List Stmt) (ps : List ℤ) (e : Entry) (l : StmtModel) → ReadyAll (length ps) 0 body → slice_get (lowered_body (length ps) body) e.stmt ≡ Some l → Contains (trace_of body ps) e
    → quotients_at l.quots (ps ++ e.counters) ≡ map (quot_value e.point) (quotients_of body e.stmt)
quotients_are_values body ps e l r low c =
    let t = told_at body ps e l r low c in
    let w : End = t.at in
    let named = quotients_end_all body 0 0 e.stmt w [] t.leads in
    ap (λ (qs : List Rounded). quotients_at qs (ps ++ e.counters)) t.model.quots ∙ paths_have_quotients ps w.path (end_quots w) e.counters t.fits.path t.counted
    ∙ (λ i. map (quot_value (sym t.point i)) (sym named i))
