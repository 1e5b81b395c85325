-- The forms and rows of a lowered program have no columns but its own, and each modulus is at least 1.
use Rattle.std.proofs.Common.{◌≡◌, ℕ, zero, suc, ◌+◌, ◌≤◌, List, [], ◌∷◌, length, map, refl, sym, ◌∙◌, subst, arith, ℤ, pos, replicate, Some}
use Rattle.std.specs.Prelude.{slice_get}
use Rattle.std.specs.List.{AllByRecursion}
use Rattle.std.proofs.lemmas.List.{length-map}
use Rattle.ac_forms.specs.Affine.{Affine}
use Rattle.ac_forms.specs.Renaming.{AreColumns}
use Rattle.ac_forms.specs.Rows.{HasModulus, HaveModuli, AreRowsOver}
use Rattle.ac_forms.specs.declared.row.Row.{Row}
use Rattle.ac_forms.proofs.Renamings.{form-within}
use Rattle.ac_syntax.specs.Outputs.{input_at}
use Rattle.ac_syntax.specs.ReadyPrograms.{AllFit, FitParts, ReadyProgram}
use Rattle.ac_syntax.specs.declared.tree.Array.{Array}
use Rattle.ac_syntax.specs.declared.tree.Comparison.{Comparison}
use Rattle.ac_syntax.specs.declared.tree.Cond.{Cond}
use Rattle.ac_syntax.specs.declared.tree.IndexExpr.{IndexExpr}
use Rattle.ac_syntax.specs.declared.tree.Program.{Program}
use Rattle.ac_syntax.specs.declared.tree.Quot.{Quot}
use Rattle.ac_syntax.specs.declared.tree.Rel.{Rel}
use Rattle.ac_syntax.specs.declared.tree.Rel.TheVariants.{NonNegative, Zero, Divides}
use Rattle.ac_syntax.specs.declared.tree.Value.{Value, Row_of-Value, end_of-Value, more_of-Value}
use Rattle.ac_syntax.specs.declared.tree.Value.TheVariants.{Number, Access, Call'}
use Rattle.ac_poly_quotients.specs.FilledColumns.{counters, quots_of, ColumnsAreMade}
use Rattle.ac_poly_quotients.specs.LastColumns.{places, moved_quotient, finals}
use Rattle.ac_poly_quotients.specs.LoopPaths.{Step, Enters, Taken, Other, depth_of, scope_at, FitsPath}
use Rattle.ac_poly_quotients.specs.QuotientScopes.{outermost, lowered_in, in_loop, where_holds, where_fails}
use Rattle.ac_poly_quotients.specs.declared.types.Scope.{Scope}
use Rattle.ac_poly_quotients.proofs.FormValues.{length-replicate}
use Rattle.ac_poly_quotients.proofs.LastColumns.{final-columns}
use Rattle.ac_poly_quotients.proofs.LoopPaths.{stands_end}
use Rattle.ac_poly_quotients.proofs.NarrowRows.{NarrowRows}
use Rattle.ac_poly_quotients.proofs.NotedColumns.{grown_all}
use Rattle.ac_poly_quotients.proofs.PlacedPieces.{placed_over}
use Rattle.ac_poly_quotients.proofs.ScopePieces.{loop_moduli, holds_moduli, fails_moduli}
use Rattle.ac_poly_quotients.proofs.StandingScopes.{stands_outermost}
use Rattle.ac_poly.specs.CoordinateColumns.{AreOver}
use Rattle.ac_poly.specs.IndexForms.{lowered, row_by, rows_of}
use Rattle.ac_poly.specs.Lower.{last_form, model_in, lowered_body}
use Rattle.ac_poly.specs.Model.{model_of, extents_of, kind_of, is_input, NodeIsOver, StmtIsOver, HasColumns, HasKinds}
use Rattle.ac_poly.specs.ModelNodes.{nodes, nodes_in}
use Rattle.ac_poly.specs.declared.types.StmtModel.{StmtModel}
use Rattle.ac_poly.proofs.EndFits.{fits_all}
use Rattle.ac_poly.proofs.LowerEnds.{end_at}
use Rattle.ac_poly.proofs.Narrows.{all_append, narrow-lowered, narrow_rows}
use Rattle.ac_poly.proofs.PathDepths.{params_at, counters_at, loops_counted}
use Rattle.ac_poly.proofs.PathEnds.{End, end_quots, end_scope, end_model}

-- ---- contexts and extents

row-modulus : (r : Rel) (f : Affine) → HasModulus (row_by r f)
row-modulus NonNegative f = tt
row-modulus Zero f = tt
row-modulus (Divides m) f = tt

rows-moduli : (its : List Affine) (cs : List Comparison) → HaveModuli (rows_of its cs)
rows-moduli its [] = tt
rows-moduli its (c ∷ cs) = (row-modulus c.rel (lowered its c.form), rows-moduli its cs)

-- rows without further columns whose moduli are at least 1
rows-over : (n : ℕ) (rows : List Row) → NarrowRows n rows → HaveModuli rows → AreRowsOver n rows
rows-over n [] h i = tt
rows-over n (r ∷ rows) h i = ((h.0, i.0), rows-over n rows h.1 i.1)

forms-over : (ps : ℕ) (es : List IndexExpr) → AllFit ps 0 es → AreOver ps (map (lowered []) es)
forms-over ps [] f = tt
forms-over ps (e ∷ es) f = (narrow-lowered ps ps [] e (omega arith) f.0.params tt, forms-over ps es f.1)

extents-over : (ps : ℕ) (arrays : List Array) → AllByRecursion (λ (a : Array). AllFit ps 0 a.extents) arrays → (array : ℕ) (extents : List Affine) → slice_get (map extents_of arrays) array ≡ Some extents → AreOver ps extents
extents-over ps [] h array extents e = absurd cc
extents-over ps (a ∷ arrays) h zero extents e = let s : extents_of a ≡ extents = cc in subst (AreOver ps) s (forms-over ps a.extents h.0)
extents-over ps (a ∷ arrays) h (suc array) extents e = extents-over ps arrays h.1 array extents e

-- ---- an assignment in its scope

-- a form among the last columns has no others
last-over : (n : ℕ) (c : Scope) (es : List IndexExpr) → AreColumns n (places c) → AreOver n (map (last_form c) es)
last-over n c [] h = tt
last-over n c (e ∷ es) h = (form-within (places c) (lowered_in c c.iters e) n h, last-over n c es h)

mutual
  unfolding nodes

  nodes-over : (n : ℕ) (c : Scope) (v : Value) (at : ℕ) → AreColumns n (places c) → AllByRecursion (NodeIsOver n) (nodes (last_form c) v at)
  nodes-over n c (Number e) at h = (form-within (places c) (lowered_in c c.iters e) n h, tt)
  nodes-over n c (Access array subs place) at h = (last-over n c subs h, tt)
  nodes-over n c (Call' symbol m args place) at h = (tt, nodes-over_in n c args (at + 1) h)

  nodes-over_in : (n : ℕ) (c : Scope) {m : _} (vs : Row_of-Value m) (at : ℕ) → AreColumns n (places c) → AllByRecursion (NodeIsOver n) (nodes_in (last_form c) vs at)
  nodes-over_in n c end_of-Value at h = tt
  nodes-over_in n c (more_of-Value v rest) at h = all_append (NodeIsOver n) (nodes (last_form c) v at) _ (nodes-over n c v at h) (nodes-over_in n c rest _ h)

-- what a scope needs for that
record IsFormed (n : ℕ) (c : Scope) : Type 0 where
  pub params : c.params ≡ n
  pub loops : length c.loops ≡ counters c.columns
  pub made : ColumnsAreMade c.params c.columns
  pub moduli : AllByRecursion HaveModuli c.pieces

stmt-over : (n : ℕ) (c : Scope) (array : ℕ) (subs : List IndexExpr) (value : Value) → IsFormed n c → StmtIsOver n (model_in c array subs value)
stmt-over n c array subs value h =
    let all : ℕ = n + (length c.loops + length (finals (places c) c.columns)) in
    let many = length-map (quots_of c.columns) (moved_quotient (places c)) in
    let within : c.params + (counters c.columns + length (quots_of c.columns)) ≤ all = omega (arith, many, h.params, h.loops) in
    let columns = final-columns c.params (counters c.columns) all c.columns (omega arith) within in
    record {
      pieces = placed_over c.params (counters c.columns) all c.columns c.pieces (omega arith) within h.made h.moduli;
      subs = last-over all c subs columns;
      nodes = nodes-over all c value 0 columns;
    }

-- ---- the scope at the end of a way

path-moduli : (sc : Scope) (ss : List Step) (qs : List Quot) → AllByRecursion HaveModuli sc.pieces → AllByRecursion HaveModuli (scope_at sc ss qs).pieces
path-moduli sc [] qs h = subst (λ (x : List (List Row)). AllByRecursion HaveModuli x) (sym (grown_all sc qs).pieces) h
path-moduli sc (Enters number start cond step ∷ ss) qs h = path-moduli (in_loop sc number start cond step) ss qs (loop_moduli sc number start cond step h)
path-moduli sc (Taken cond ∷ ss) qs h = path-moduli (where_holds sc cond) ss qs (holds_moduli sc cond h)
path-moduli sc (Other cond ∷ ss) qs h = path-moduli (where_fails sc cond) ss qs (fails_moduli sc cond h)

-- some valuation of so many parameters
valuation : (n : ℕ) → (ps : List ℤ) × (length ps ≡ n)
valuation n = (replicate n (pos 0), length-replicate n)

path-formed : (ps : List ℤ) (ss : List Step) (qs : List Quot) → FitsPath (length ps) 0 ss qs → IsFormed (length ps) (scope_at (outermost (length ps)) ss qs)
path-formed ps ss qs f =
    let zeros : List ℤ = replicate (depth_of ss) (pos 0) in
    let h = stands_end (record { params = ps; iters = [] }) [] (outermost (length ps)) ss qs zeros (stands_outermost ps) f (length-replicate (depth_of ss)) in
    record {
      params = params_at (outermost (length ps)) ss qs;
      loops = loops_counted (outermost (length ps)) ss qs ∙ sym (counters_at (outermost (length ps)) ss qs);
      made = h.made;
      moduli = path-moduli (outermost (length ps)) ss qs (tt, tt);
    }

end-over : (n : ℕ) (w : End) → FitsPath n 0 w.path (end_quots w) → StmtIsOver n (end_model (outermost n) w)
end-over n w f =
    let v = valuation n in
    let formed : IsFormed n (end_scope (outermost n) w) =
    subst (λ (k : ℕ). IsFormed k (scope_at (outermost k) w.path (end_quots w))) v.1 (path-formed v.0 w.path (end_quots w) (subst (λ (k : ℕ). FitsPath k 0 w.path (end_quots w)) (sym v.1) f)) in
    stmt-over n (end_scope (outermost n) w) w.array w.subs w.value formed

stmts-over : (p : Program) → ReadyProgram p → (number : ℕ) (stmt : StmtModel) → slice_get (lowered_body (length p.params) p.body) number ≡ Some stmt → StmtIsOver (length p.params) stmt
stmts-over p ready number stmt at =
    let e = end_at p.body (length p.params) number stmt at in
    subst (StmtIsOver (length p.params)) (sym e.2) (end-over (length p.params) e.0 (fits_all p.body 0 0 (length p.params) 0 number e.0 ready.body e.1))

pub has_columns : (p : Program) (context : Cond) → ReadyProgram p → FitParts (length p.params) 0 context.parts → HasColumns p (model_of p context)
has_columns p context ready fit = record {
  params = refl;
  context = rows-over (length p.params) (rows_of [] context.parts) (narrow_rows (length p.params) (length p.params) 0 [] context.parts (omega arith) fit tt) (rows-moduli [] context.parts);
  stmts = λ number stmt at. stmts-over p ready number stmt at;
  extents = extents-over (length p.params) p.arrays ready.extents;
}

inputs-are : (arrays : List Array) (array : ℕ) → is_input (slice_get (map kind_of arrays) array) ≡ input_at arrays array
inputs-are [] array = refl
inputs-are (a ∷ arrays) zero = refl
inputs-are (a ∷ arrays) (suc array) = inputs-are arrays array

pub has_kinds : (p : Program) (context : Cond) → HasKinds p (model_of p context)
has_kinds p context = inputs-are p.arrays
