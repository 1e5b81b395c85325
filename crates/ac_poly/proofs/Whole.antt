-- The model of a program is what it should be.
use Rattle.std.proofs.Common.{◌≡◌, ◌↔◌, ◌<◌, ℕ, List, [], ◌∷◌, ◌++◌, length, map, refl, sym, ap, ◌∙◌, subst, ℤ, append-nil, true, IfOk, Result, Ok, Err}
use Rattle.std.specs.Prelude.{slice_get, Some}
use Rattle.std.specs.List.{AllByRecursion}
use Rattle.ac_forms.specs.Rows.{Meets}
use Rattle.ac_syntax.specs.Index.{point, index_value, holds}
use Rattle.ac_syntax.specs.ReadyPrograms.{FitParts, AllFit, ReadyAll, ReadyProgram}
use Rattle.ac_syntax.specs.Trace.{Entry, trace_of}
use Rattle.ac_syntax.specs.ValueNodes.{size, node_of}
use Rattle.ac_syntax.specs.declared.tree.Array.{Array}
use Rattle.ac_syntax.specs.declared.tree.Cond.{Cond}
use Rattle.ac_syntax.specs.declared.tree.Program.{Program}
use Rattle.ac_syntax.specs.declared.tree.Value.{Value}
use Rattle.ac_poly.specs.Coordinates.{coordinates, coordinates_of, coordinates_at, HasInstance, levels_before}
use Rattle.ac_poly.specs.IndexForms.{rows_of}
use Rattle.ac_poly.specs.ModelMeaning.{values_at, cell_of, HasEntry, Shows}
use Rattle.ac_poly.specs.Lower.{lowered_body}
use Rattle.ac_poly.specs.Model.{extents_of, model_of, HasInstances, HasCells, HasNodes, HasQuotients, HasOrder, HasContext, HasExtents}
use Rattle.ac_poly.specs.LoweringFaults.{Answers}
use Rattle.ac_poly.specs.declared.types.LowerFault.{LowerFault}
use Rattle.ac_poly.specs.declared.types.Model.{Model}
use Rattle.ac_poly.specs.declared.types.StmtModel.{StmtModel}
use Rattle.ac_poly.proofs.Bodies.{points_are_instances}
use Rattle.ac_poly.proofs.Orders.{counters_behind}
use Rattle.ac_poly.proofs.Rows.{meets_rows}
use Rattle.ac_poly.proofs.Targets.{targets_are_cells, nodes_are_values, quotients_are_values}
use Rattle.ac_poly.proofs.Values.{all_values}
use Rattle.ac_forms.specs.PieceMembership.{IsInSome}

ready : (p : Program) (params : List ℤ) → ReadyProgram p → length params ≡ length p.params → ReadyAll (length params) 0 p.body
ready p params r l = subst (λ n. ReadyAll n 0 p.body) (sym l) r.body

at_params : (p : Program) (params : List ℤ) (number : ℕ) (stmt : StmtModel) → length params ≡ length p.params → slice_get (lowered_body (length p.params) p.body) number ≡ Some stmt
    → slice_get (lowered_body (length params) p.body) number ≡ Some stmt
at_params p params number stmt l at = subst (λ n. slice_get (lowered_body n p.body) number ≡ Some stmt) (sym l) at

-- the coordinates of an entry are those that its model gives
abbrev Found : Program → Cond → ℕ → StmtModel → Type 0
Found p context number stmt = slice_get (model_of p context).stmts number ≡ Some stmt

coordinates_found : (p : Program) (context : Cond) (params : List ℤ) (e : Entry) (number : ℕ) (stmt : StmtModel) → Found p context number stmt → e.stmt ≡ number
    → coordinates (model_of p context) params e ≡ coordinates_at stmt params e.counters
coordinates_found p context params e number stmt at i =
    ap (λ (k : ℕ). coordinates_of (slice_get (model_of p context).stmts k) params e.counters) i ∙ ap (λ o. coordinates_of o params e.counters) at

pub has_instances : (p : Program) (context : Cond) → ReadyProgram p → HasInstances p (model_of p context)
has_instances p context r params at number stmt l found len =
    let tells = points_are_instances p.body params at number stmt (ready p params r l) (at_params p params number stmt l found) len in (
      (λ s. let t = tells.0 s in of t.0 t.1 t.2),
      (λ i. tells.1 (i.0.counters, (i.0, i.1, i.2, refl), sym (coordinates_found p context params i.0 number stmt found i.2) ∙ i.3)),
    )
  where
    of : (counters : List ℤ) → HasEntry (trace_of p.body params) number counters → coordinates_at stmt params counters ≡ at → HasInstance (model_of p context) params (trace_of p.body params) number at
    of counters (e, c, i, n) same = (e, c, i, coordinates_found p context params e number stmt found i ∙ ap (coordinates_at stmt params) n ∙ same)

pub has_cells : (p : Program) (context : Cond) → ReadyProgram p → HasCells p (model_of p context)
has_cells p context r params e stmt l at c =
    targets_are_cells p.body params e stmt (ready p params r l) (at_params p params e.stmt stmt l at) c
    ∙ ap (λ (cs : List ℤ). cell_of stmt (params ++ cs)) (sym (coordinates_found p context params e e.stmt stmt at refl))

pub has_nodes : (p : Program) (context : Cond) → ReadyProgram p → HasNodes p (model_of p context)
has_nodes p context r params e stmt l at c =
    subst (λ (cs : List ℤ). (length stmt.nodes ≡ size e.value) × ((number : ℕ) (v : Value) → node_of e.value number ≡ Some v → Shows (params ++ cs) e.point v number (slice_get stmt.nodes number)))
    (sym (coordinates_found p context params e e.stmt stmt at refl)) (nodes_are_values p.body params e stmt (ready p params r l) (at_params p params e.stmt stmt l at) c)

pub has_quotients : (p : Program) (context : Cond) → ReadyProgram p → HasQuotients p (model_of p context)
has_quotients p context r params e stmt l at c = quotients_are_values p.body params e stmt (ready p params r l) (at_params p params e.stmt stmt l at) c

pub has_order : (p : Program) (context : Cond) → ReadyProgram p → HasOrder p (model_of p context)
has_order p context r params w u first second l a b s t =
    let i = coordinates_found p context params w.entry w.entry.stmt first a refl in
    let j = coordinates_found p context params u.entry u.entry.stmt second b refl in
    let d = counters_behind p.body params w u first second (ready p params r l) (at_params p params w.entry.stmt first l a) (at_params p params u.entry.stmt second l b) s t in
    let e = subst (λ (at : List ℤ). (length w.earlier < length u.earlier) ↔ IsInSome Meets (levels_before (length params) w.entry.stmt first u.entry.stmt second) (params ++ at)) (λ k. sym i k ++ sym j k) d in
    subst (λ n. (length w.earlier < length u.earlier) ↔ IsInSome Meets (levels_before n w.entry.stmt first u.entry.stmt second) (params ++ (coordinates (model_of p context) params w.entry ++ coordinates (model_of p context) params u.entry))) l e

pub has_context : (p : Program) (context : Cond) → FitParts (length p.params) 0 context.parts → HasContext context (model_of p context)
has_context p context f params l =
    let m = meets_rows params [] [] 0 context.parts (subst (λ n. FitParts n 0 context.parts) (sym l) f) in
    subst (λ q. Meets (rows_of [] context.parts) q ↔ (holds (point params []) context ≡ true)) (append-nil params) m

extents_are : (params : List ℤ) (arrays : List Array) → AllByRecursion (λ (a : Array). AllFit (length params) 0 a.extents) arrays → map (values_at params) (map extents_of arrays) ≡ map (λ (a : Array). map (index_value (point params [])) a.extents) arrays
extents_are params [] h = refl
extents_are params (a ∷ arrays) h =
    let v = all_values params [] [] a.extents h.0 in
    let w : map (index_value (point params [])) a.extents ≡ values_at params (extents_of a) = v ∙ ap (λ q. values_at q (extents_of a)) (append-nil params) in
    λ i. sym w i ∷ extents_are params arrays h.1 i

pub has_extents : (p : Program) (context : Cond) → ReadyProgram p → HasExtents p (model_of p context)
has_extents p context r params l = extents_are params p.arrays (subst (λ n. AllByRecursion (λ (a : Array). AllFit n 0 a.extents) p.arrays) (sym l) r.extents)

pub if_made : (r : Result Model LowerFault) (F : Type 0) (G : LowerFault → Type 0) (Q : Model → Type 0) (v : Model) → Answers r (λ m. F × (m ≡ v)) G → Q v → IfOk r Q
if_made (Ok m) F G Q v h q = subst Q (sym h.1) q
if_made (Err f) F G Q v h q = tt
