-- The cells of a lowered program have a subscript for each dimension where the program's have.
use Rattle.std.proofs.Common.{◌≡◌, inl, inr, ℕ, zero, suc, ◌+◌, List, [], ◌∷◌, length, map, sym, ap, ◌∙◌, subst, Some}
use Rattle.std.specs.Prelude.{slice_get}
use Rattle.std.specs.List.{AllByRecursion}
use Rattle.std.proofs.lemmas.List.{length-map}
use Rattle.ac_forms.specs.Affine.{Affine}
use Rattle.ac_syntax.specs.Dimensions.{IsCellOf, ReadsCells, EachReadsCells, UsesCells, EachUsesCells, HasDimensions}
use Rattle.ac_syntax.specs.LoopNests.{loop_count, loop_count_in}
use Rattle.ac_syntax.specs.ValueNodes.{size}
use Rattle.ac_syntax.specs.Trace.{assignments, assignments_in}
use Rattle.ac_syntax.specs.declared.tree.Array.{Array}
use Rattle.ac_syntax.specs.declared.tree.Cond.{Cond}
use Rattle.ac_syntax.specs.declared.tree.IndexExpr.{IndexExpr}
use Rattle.ac_syntax.specs.declared.tree.Program.{Program}
use Rattle.ac_syntax.specs.declared.tree.Stmt.{Stmt, Row_of-Stmt, end_of-Stmt, more_of-Stmt}
use Rattle.ac_syntax.specs.declared.tree.Stmt.TheVariants.{For', If', Assign}
use Rattle.ac_syntax.specs.declared.tree.Value.{Value, Row_of-Value, end_of-Value, more_of-Value}
use Rattle.ac_syntax.specs.declared.tree.Value.TheVariants.{Number, Access, Call'}
use Rattle.ac_poly_quotients.specs.QuotientScopes.{outermost}
use Rattle.ac_poly.specs.IndexForms.{lowered}
use Rattle.ac_poly.specs.Lower.{last_form}
use Rattle.ac_poly.specs.Model.{model_of, extents_of, IsCellIn, ReadsCellIn, StmtHasDimensions, CellsHaveDimensions}
use Rattle.ac_poly.specs.ModelNodes.{nodes, nodes_in}
use Rattle.ac_poly.proofs.LowerEnds.{end_at}
use Rattle.ac_poly.proofs.Narrows.{all_append}
use Rattle.ac_poly.proofs.PathEnds.{End, end_scope, end_model, LeadsTo, LeadsToIn, LeadsToAll}

extents-at : (arrays : List Array) (k : ℕ) (a : Array) → slice_get arrays k ≡ Some a → slice_get (map extents_of arrays) k ≡ Some (extents_of a)
extents-at [] k a h = absurd cc
extents-at (x ∷ arrays) zero a h = let e : x ≡ a = cc in ap (λ (y : Array). Some (extents_of y)) e
extents-at (x ∷ arrays) (suc k) a h = extents-at arrays k a h

cell-in : (arrays : List Array) (form : IndexExpr → Affine) (array : ℕ) (subs : List IndexExpr) → IsCellOf arrays array subs → IsCellIn (map extents_of arrays) array (map form subs)
cell-in arrays form array subs (own, at, long) = (extents_of own, extents-at arrays array own at, length-map subs form ∙ long ∙ sym (length-map own.extents (lowered [])))

mutual
  unfolding nodes ReadsCells

  reads-in : (arrays : List Array) (form : IndexExpr → Affine) (v : Value) (at : ℕ) → ReadsCells arrays v → AllByRecursion (ReadsCellIn (map extents_of arrays)) (nodes form v at)
  reads-in arrays form (Number e) at h = (tt, tt)
  reads-in arrays form (Access array subs place) at h = (cell-in arrays form array subs h, tt)
  reads-in arrays form (Call' symbol n args place) at h = (tt, reads-in_row arrays form args (at + 1) h)

  reads-in_row : (arrays : List Array) (form : IndexExpr → Affine) {m : _} (vs : Row_of-Value m) (at : ℕ) → EachReadsCells arrays vs → AllByRecursion (ReadsCellIn (map extents_of arrays)) (nodes_in form vs at)
  reads-in_row arrays form end_of-Value at h = tt
  reads-in_row arrays form (more_of-Value v rest) at h = all_append (ReadsCellIn (map extents_of arrays)) (nodes form v at) _ (reads-in arrays form v at h.0) (reads-in_row arrays form rest (at + size v) h.1)

-- the assignment at the end of a way
record EndUsesCells (arrays : List Array) (w : End) : Type 0 where
  pub written : IsCellOf arrays w.array w.subs
  pub reads : ReadsCells arrays w.value

mutual
  unfolding LeadsTo UsesCells

  cells : (arrays : List Array) (s : Stmt) (first loop k : ℕ) (w : End) → UsesCells arrays s → LeadsTo s first loop k w → EndUsesCells arrays w
  cells arrays (For' iter start cond step n body place) first loop k w h (u, e, i) = let c = cells_in arrays body first (suc loop) k u h i in subst (EndUsesCells arrays) (sym e) (record { written = c.written; reads = c.reads })
  cells arrays (If' cond n taken m other place) first loop k w h (inl (u, e, i)) =
      let c = cells_in arrays taken first loop k u h.0 i in subst (EndUsesCells arrays) (sym e) (record { written = c.written; reads = c.reads })
  cells arrays (If' cond n taken m other place) first loop k w h (inr (u, e, i)) =
      let c = cells_in arrays other (first + assignments_in taken) (loop + loop_count_in taken) k u h.1 i in subst (EndUsesCells arrays) (sym e) (record { written = c.written; reads = c.reads })
  cells arrays (Assign array subs value place) first loop k w h i = subst (EndUsesCells arrays) (sym i.1) (record { written = h.0; reads = h.1 })

  cells_in : (arrays : List Array) {m : _} (b : Row_of-Stmt m) (first loop k : ℕ) (w : End) → EachUsesCells arrays b → LeadsToIn b first loop k w → EndUsesCells arrays w
  cells_in arrays end_of-Stmt first loop k w h i = absurd i
  cells_in arrays (more_of-Stmt s rest) first loop k w h (inl i) = cells arrays s first loop k w h.0 i
  cells_in arrays (more_of-Stmt s rest) first loop k w h (inr i) = cells_in arrays rest (first + assignments s) (loop + loop_count s) k w h.1 i

cells_all : (arrays : List Array) (ss : List Stmt) (first loop k : ℕ) (w : End) → AllByRecursion (UsesCells arrays) ss → LeadsToAll ss first loop k w → EndUsesCells arrays w
cells_all arrays [] first loop k w h i = absurd i
cells_all arrays (s ∷ ss) first loop k w h (inl i) = cells arrays s first loop k w h.0 i
cells_all arrays (s ∷ ss) first loop k w h (inr i) = cells_all arrays ss (first + assignments s) (loop + loop_count s) k w h.1 i

model_cells : (arrays : List Array) (n : ℕ) (w : End) → EndUsesCells arrays w → StmtHasDimensions (map extents_of arrays) (end_model (outermost n) w)
model_cells arrays n w h =
    let c = end_scope (outermost n) w in
    record { written = cell-in arrays (last_form c) w.array w.subs h.written; reads = reads-in arrays (last_form c) w.value 0 h.reads }

pub cells_have_dimensions : (p : Program) (context : Cond) → HasDimensions p → CellsHaveDimensions (model_of p context)
cells_have_dimensions p context h number stmt at =
    let e = end_at p.body (length p.params) number stmt at in
    subst (StmtHasDimensions (map extents_of p.arrays)) (sym e.2) (model_cells p.arrays (length p.params) e.0 (cells_all p.arrays p.body 0 0 number e.0 h e.1))
