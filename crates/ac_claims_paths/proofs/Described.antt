-- A model that tells of its program describes each of its executions.
use Rattle.std.proofs.Common.{◌≡◌, ℕ, zero, suc, ◌+◌, ◌<◌, ◌≤◌, ℤ, pos, negsuc, List, [], ◌∷◌, ◌++◌, map, length, get_or, Some, refl, sym, ap, ◌∙◌, subst, arith, append_assoc, append-nil}
use Rattle.std.specs.List.{AllByRecursion}
use Rattle.std.specs.Prelude.{slice_get, ◌↔◌}
use Rattle.std.proofs.lemmas.Int.{ints}
use Rattle.ac_forms.specs.Affine.{Affine, value_at, column_form}
use Rattle.ac_forms.specs.Rows.{Meets, AreRowsOver}
use Rattle.ac_forms.specs.declared.row.Row.{Row}
use Rattle.ac_forms.proofs.Passes.{moduli_of}
use Rattle.ac_forms.proofs.Values.{value_at-combined, value_at-append}
use Rattle.ac_syntax.specs.Index.{Point, point, index_value}
use Rattle.ac_syntax.specs.Outputs.{InExtents, extents_at}
use Rattle.ac_syntax.specs.Trace.{Entry, trace_of}
use Rattle.ac_syntax.specs.declared.tree.Array.{Array}
use Rattle.ac_syntax.specs.declared.tree.IndexExpr.{IndexExpr}
use Rattle.ac_syntax.proofs.LastWriters.{stands_contains}
use Rattle.ac_syntax.proofs.Order.{one_entry}
use Rattle.ac_syntax.proofs.Places.{contains_stands}
use Rattle.ac_poly.specs.ModelMeaning.{values_at}
use Rattle.ac_poly.specs.CoordinateColumns.{AreOver}
use Rattle.ac_poly.specs.Model.{model_of}
use Rattle.ac_poly.proofs.Columns.{has_columns}
use Rattle.ac_poly.proofs.Models.{has_models, same_counters}
use Rattle.ac_poly.proofs.Whole.{has_instances, has_cells, has_nodes, has_order, has_extents}
use Rattle.ac_base.proofs.Options.{some-is}
use Rattle.ac_claims_paths.specs.InstanceCoordinates.{width, coordinates, levels_before}
use Rattle.ac_claims_paths.specs.StepLaws.{ModelsHaveModuli}
use Rattle.ac_claims_paths.specs.Executions.{ModelsDescribe}
use Rattle.ac_claims_paths.specs.ModelPositions.{extent_rows}
use Rattle.ac_poly.proofs.Differences.{column-value}
use Rattle.ac_claims_paths.proofs.LevelModuli.{levels_moduli}
use Rattle.ac_claims_paths.proofs.Heres.{get_at, open_front, length-one}
use Rattle.ac_forms.specs.PieceMembership.{IsInSome}

extents_there : (params : List ℤ) (es : List (List Affine)) (arrays : List Array) (o : ℕ) (extents : List Affine) → map (values_at params) es ≡ map (λ (a : Array). map (index_value (point params [])) a.extents) arrays → slice_get es o ≡ Some extents
    → values_at params extents ≡ map (index_value (point params [])) (extents_at arrays o)
extents_there params [] arrays o extents e q = absurd cc
extents_there params (x ∷ es) [] o extents e q = absurd cc
extents_there params (x ∷ es) (a ∷ arrays) zero extents e q =
    let s : x ≡ extents = cc in
    let h : values_at params x ≡ map (index_value (point params [])) a.extents = cc in
    subst (λ (y : List Affine). values_at params y ≡ map (index_value (point params [])) a.extents) s h
extents_there params (x ∷ es) (a ∷ arrays) (suc o) extents e q =
    let t : map (values_at params) es ≡ map (λ (a : Array). map (index_value (point params [])) a.extents) arrays = cc in
    extents_there params es arrays o extents t q

lengths : (params : List ℤ) (p : Point) (es : List Affine) (xs : List IndexExpr) (at : List ℤ) → values_at params es ≡ map (index_value p) xs → InExtents p xs at → length at ≡ length es
lengths params p [] [] [] e h = refl
lengths params p [] [] (y ∷ at) e h = absurd h
lengths params p [] (x ∷ xs) at e h = absurd cc
lengths params p (f ∷ es) [] at e h = absurd cc
lengths params p (f ∷ es) (x ∷ xs) [] e h = absurd h
lengths params p (f ∷ es) (x ∷ xs) (y ∷ at) e h = let t : values_at params es ≡ map (index_value p) xs = cc in let r = lengths params p es xs at t h.2 in omega (arith, r)

extents_meet : (params before : List ℤ) (p : Point) (es : List Affine) (xs : List IndexExpr) (at : List ℤ) (k : ℕ) → length (params ++ before) ≡ k → ((j : ℕ) (f : Affine) → slice_get es j ≡ Some f → length f.coefs ≤ length params)
    → values_at params es ≡ map (index_value p) xs → InExtents p xs at → Meets (extent_rows k es) ((params ++ before) ++ at)
extents_meet params before p [] xs at k l over e h = tt
extents_meet params before p (f ∷ es) [] at k l over e h = absurd cc
extents_meet params before p (f ∷ es) (x ∷ xs) [] k l over e h = absurd h
extents_meet params before p (f ∷ es) (x ∷ xs) (y ∷ at) k l over e h =
    let q = (params ++ before) ++ (y ∷ at) in
    let v : value_at f params ≡ index_value p x = cc in
    let t : values_at params es ≡ map (index_value p) xs = cc in
    let col : value_at (column_form (k + 1) k) q ≡ y = column-value k q ∙ ap (λ j. get_or q j (pos 0)) (sym l) ∙ get_at (params ++ before) y at in
    let fq : value_at f q ≡ value_at f params = ap (value_at f) (append_assoc params before (y ∷ at)) ∙ value_at-append f params (before ++ y ∷ at) (over 0 f refl) in
    let cmb = value_at-combined (pos 1) f (negsuc 0) (column_form (k + 1) k) q in
    let lo = h.0 in
    let hi = h.1 in
    let m : (params ++ before) ++ (y ∷ at) ≡ (params ++ (before ++ y ∷ [])) ++ at = open_front (params ++ before) y at ∙ ap (λ z. z ++ at) (append_assoc params before (y ∷ [])) in
    let l' : length (params ++ (before ++ y ∷ [])) ≡ k + 1 = ap (λ (z : List ℤ). length z) (sym (append_assoc params before (y ∷ []))) ∙ length-one (params ++ before) y ∙ ap (λ j. j + 1) l in
    (omega (arith, ints, col, lo), (omega (arith, ints, cmb, col, fq, v, hi), subst (Meets (extent_rows (k + 1) es)) (sym m) (extents_meet params (before ++ y ∷ []) p es xs at (k + 1) l' (λ j g i. over (suc j) g i) t h.2)))

each_over : (n : ℕ) (es : List Affine) → AreOver n es → (j : ℕ) (f : Affine) → slice_get es j ≡ Some f → length f.coefs ≤ n
each_over n [] h j f e = absurd cc
each_over n (x ∷ es) h zero f e = let i : x ≡ f = cc in subst (λ (y : Affine). length y.coefs ≤ n) i h.0
each_over n (x ∷ es) h (suc j) f e = each_over n es h.1 j f e

piece_over : (n : ℕ) (ps : List (List Row)) → AllByRecursion (AreRowsOver n) ps → (k : ℕ) (rows : List Row) → slice_get ps k ≡ Some rows → AreRowsOver n rows
piece_over n [] h k rows e = absurd cc
piece_over n (p ∷ ps) h zero rows e = let i : p ≡ rows = cc in subst (AreRowsOver n) i h.0
piece_over n (p ∷ ps) h (suc k) rows e = piece_over n ps h.1 k rows e

-- the model of a ready program describes its execution at each valuation
pub models_describe : ModelsDescribe
models_describe p context params r f l =
    let m = model_of p context in
    let cols = has_columns p context r f in
    record {
      count = sym l;
      entry = λ w s. let h = has_models p context r params w.entry l (stands_contains s) in record { stmt = h.0; is = h.1; width = h.2 };
      piece = λ w stmt s is.
          let h = has_models p context r params w.entry l (stands_contains s) in
          let same : h.0 ≡ stmt = some-is h.0 stmt (sym h.1 ∙ is) in
          (has_instances p context r params (coordinates m params w.entry) w.entry.stmt stmt l is (h.2 ∙ ap width same)).1 (w.entry, stands_contains s, refl, refl);
      instance = λ number stmt at is lc some.
          let e = (has_instances p context r params at number stmt l is lc).0 some in
          let w = contains_stands (trace_of p.body params) e.0 e.1 in
          (w.0, record { stands = w.1; stmt = ap (λ (x : Entry). x.stmt) w.2 ∙ e.2; coords = ap (coordinates m params) w.2 ∙ e.3 });
      once = λ w u a b i j. one_entry p.body (point params []) w u a b i (same_counters p context r params w.entry u.entry l (stands_contains a) (stands_contains b) i j);
      cell = λ w stmt s is. has_cells p context r params w.entry stmt l is (stands_contains s);
      node = λ w stmt s is number v n. (has_nodes p context r params w.entry stmt l is (stands_contains s)).1 number v n;
      order = λ w u first second sw su iw iu.
          subst (λ n. (length w.earlier < length u.earlier) ↔ IsInSome Meets (levels_before n w.entry.stmt first u.entry.stmt second) (params ++ (coordinates m params w.entry ++ coordinates m params u.entry))) (sym l) (has_order p context r params w u first second l iw iu sw su);
      elements = λ o at inside.
          let es = inside.0 in
          let v = extents_there params m.extents p.arrays o es (has_extents p context r params l) inside.1 in
          let met = extents_meet params [] (point params []) es (extents_at p.arrays o) at (length params) (ap (λ (z : List ℤ). length z) (append-nil params))
          (λ j f i. let z = each_over m.params es (cols.extents o es inside.1) j f i in omega (arith, z, l)) v inside.2 in
          record {
            extents = es;
            is = inside.1;
            count = lengths params (point params []) es (extents_at p.arrays o) at v inside.2;
            within = subst (λ (z : List ℤ). Meets (extent_rows (length params) es) (z ++ at)) (append-nil params) met;
          };
      pieces_moduli = λ number stmt k rows is at. moduli_of (m.params + width stmt) rows (piece_over (m.params + width stmt) stmt.pieces (cols.stmts number stmt is).pieces k rows at);
      levels_moduli = levels_moduli m.params;
    }

pub models_have_moduli : ModelsHaveModuli
models_have_moduli p context r f =
    let m = model_of p context in
    let cols = has_columns p context r f in
    record {
      pieces = λ number stmt k rows is at. moduli_of (m.params + width stmt) rows (piece_over (m.params + width stmt) stmt.pieces (cols.stmts number stmt is).pieces k rows at);
      levels = levels_moduli m.params;
    }
