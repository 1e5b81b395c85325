-- The points of an assignment's pieces are exactly its instances; and what is known at an entry.
use Rattle.std.proofs.Common.{◌≡◌, ◌↔◌, ℕ, ◌+◌, List, [], ◌++◌, length, refl, sym, ap, ◌∙◌, arith, ℤ, subst}
use Rattle.std.specs.Prelude.{slice_get, Some}
use Rattle.std.specs.List.{Contains}
use Rattle.std.proofs.lemmas.List.{length-map}
use Rattle.ac_forms.specs.PieceMembership.{IsInSome}
use Rattle.ac_forms.specs.Rows.{Meets}
use Rattle.ac_syntax.specs.Index.{Point}
use Rattle.ac_syntax.specs.ReadyPrograms.{ReadyAll}
use Rattle.ac_syntax.specs.Trace.{Entry, trace_of}
use Rattle.ac_syntax.specs.declared.tree.Stmt.{Stmt}
use Rattle.ac_syntax.proofs.Instances.{instance_among, among_instances}
use Rattle.ac_poly_quotients.specs.FilledColumns.{counters, quots_of}
use Rattle.ac_poly_quotients.specs.LastColumns.{final_columns, finals, places, moved_quotient, placed_pieces}
use Rattle.ac_poly_quotients.specs.LawsOfPaths.{last_scope, model_quotients}
use Rattle.ac_poly_quotients.specs.LoopPaths.{depth_of, point_at, Reaches}
use Rattle.ac_poly_quotients.specs.QuotientRows.{quotients_at}
use Rattle.ac_poly_quotients.specs.QuotientScopes.{outermost}
use Rattle.ac_poly_quotients.specs.declared.types.Rounded.{Rounded}
use Rattle.ac_poly_quotients.specs.declared.types.Scope.{Scope}
use Rattle.ac_poly_quotients.proofs.LoopPaths.{points_of_path}
use Rattle.ac_poly.specs.Lower.{lowered_body}
use Rattle.ac_poly.specs.ModelMeaning.{HasEntry, PointsAreInstances}
use Rattle.ac_poly.specs.StmtCoordinates.{width, coordinates_at}
use Rattle.ac_poly.specs.declared.types.StmtModel.{StmtModel}
use Rattle.ac_poly.proofs.EndEntries.{arrives_all, counters_reach, entry_at, entered_all}
use Rattle.ac_poly.proofs.EndFits.{FitsEnd, fits_end_all}
use Rattle.ac_poly.proofs.LowerEnds.{EndsAll, end_at}
use Rattle.ac_poly.proofs.PathDepths.{params_at, counters_at, loops_counted}
use Rattle.ac_poly.proofs.PathEnds.{End, end_quots, end_model, LeadsToAll}

-- each model of a body is that of the end of a way
pub leads_to : (body : List Stmt) (n k : ℕ) (l : StmtModel) → slice_get (lowered_body n body) k ≡ Some l → (w : End) × LeadsToAll body 0 0 k w × (l ≡ end_model (outermost n) w)
leads_to body n k l at = end_at body n k l at

-- outside all loops
abbrev pub outside : List ℤ → Point
outside ps = record { params = ps; iters = [] }

-- the scope at the end of a way
abbrev pub scope_of : List ℤ → End → Scope
scope_of ps w = last_scope ps w.path (end_quots w)

-- ---- a model, in the numbers that its way has

pub record Ended (ps : List ℤ) (w : End) (l : StmtModel) : Type 0 where
  pub loops : length l.loops ≡ depth_of w.path
  pub moved : places (scope_of ps w) ≡ final_columns (length ps) (depth_of w.path) (scope_of ps w).columns
  pub quots : l.quots ≡ model_quotients ps w.path (end_quots w)
  pub pieces : l.pieces ≡ placed_pieces (length ps) (depth_of w.path) (scope_of ps w).columns (scope_of ps w).pieces
  pub wide : width l ≡ depth_of w.path + length (quots_of (scope_of ps w).columns)

pub ended : (ps : List ℤ) (w : End) (l : StmtModel) → l ≡ end_model (outermost (length ps)) w → Ended ps w l
ended ps w l e =
    let c : Scope = scope_of ps w in
    let d : counters c.columns ≡ depth_of w.path = counters_at (outermost (length ps)) w.path (end_quots w) ∙ omega arith in
    let n : c.params ≡ length ps = params_at (outermost (length ps)) w.path (end_quots w) in
    let m : length c.loops ≡ depth_of w.path = loops_counted (outermost (length ps)) w.path (end_quots w) ∙ omega arith in
    let many : length (finals (places c) c.columns) ≡ length (quots_of c.columns) = length-map (quots_of c.columns) (moved_quotient (places c)) in
    subst (Ended ps w) (sym e)
    (record {
      loops = m;
      moved = (λ i. final_columns (n i) (d i) c.columns);
      quots = (λ i. finals (final_columns (n i) (d i) c.columns) c.columns);
      pieces = (λ i. placed_pieces (n i) (d i) c.columns c.pieces);
      wide = (λ i. m i + many i);
    })

-- ---- the points of its pieces

pub points_are_instances : PointsAreInstances
points_are_instances body ps at k l r low len = ((λ s. to (tells.0 s)), (λ t. tells.1 (from t.0 t.1 t.2)))
  where
    whole : EndsAll body 0 0 (outermost (length ps)) k l
    whole = leads_to body (length ps) k l low

    w : End
    w = whole.0

    m : Ended ps w l
    m = ended ps w l whole.2

    Reached : Type 0
    Reached = (zs : List ℤ) × (length zs ≡ depth_of w.path) × Reaches (outside ps) w.path zs × (zs ++ quotients_at (model_quotients ps w.path (end_quots w)) (ps ++ zs) ≡ at)

    tells : IsInSome Meets l.pieces (ps ++ at) ↔ Reached
    tells =
        subst (λ qs. IsInSome Meets qs (ps ++ at) ↔ Reached) (sym m.pieces)
        (points_of_path ps w.path (end_quots w) at (fits_end_all body 0 0 (length ps) 0 k w r whole.1).path (len ∙ m.wide))

    to : Reached → (zs : List ℤ) × HasEntry (trace_of body ps) k zs × (coordinates_at l ps zs ≡ at)
    to (zs, d, reach, e) =
        let entry = entry_at k [] (outside ps) w zs in
        let c = among_instances body 0 (outside ps) [] entry (entered_all body 0 0 k w (outside ps) [] zs whole.1 r reach) in
        (zs, (entry, c, refl, refl), ap (λ (qs : List Rounded). zs ++ quotients_at qs (ps ++ zs)) m.quots ∙ e)

    from : (zs : List ℤ) → HasEntry (trace_of body ps) k zs → coordinates_at l ps zs ≡ at → Reached
    from zs (e, c, q, n) i =
        let a = arrives_all body 0 0 k w (outside ps) [] e whole.1 (instance_among body 0 (outside ps) [] e c) q in
        let same : a.rest ≡ zs = sym a.counters ∙ n in
        let reach : Reaches (outside ps) w.path zs = subst (Reaches (outside ps) w.path) same a.reaches in
        (zs, counters_reach (outside ps) w.path zs reach, reach, ap (λ (qs : List Rounded). zs ++ quotients_at qs (ps ++ zs)) (sym m.quots) ∙ i)

-- ---- at an entry

-- the end of the way to its assignment, reached with its counters
pub record Told (ps : List ℤ) (body : List Stmt) (l : StmtModel) (e : Entry) : Type 0 where
  pub at : End
  pub leads : LeadsToAll body 0 0 e.stmt at
  pub fits : FitsEnd (length ps) 0 at
  pub is : l ≡ end_model (outermost (length ps)) at
  pub model : Ended ps at l
  pub counted : length e.counters ≡ depth_of at.path
  pub reaches : Reaches (outside ps) at.path e.counters
  pub point : e.point ≡ point_at (outside ps) at.path e.counters
  pub array : e.array ≡ at.array
  pub subs : e.subs ≡ at.subs
  pub value : e.value ≡ at.value

pub told_at : (body : List Stmt) (ps : List ℤ) (e : Entry) (l : StmtModel) → ReadyAll (length ps) 0 body → slice_get (lowered_body (length ps) body) e.stmt ≡ Some l → Contains (trace_of body ps) e → Told ps body l e
told_at body ps e l r low c =
    let t = leads_to body (length ps) e.stmt l low in
    let a = arrives_all body 0 0 e.stmt t.0 (outside ps) [] e t.1 (instance_among body 0 (outside ps) [] e c) refl in
    let same : a.rest ≡ e.counters = sym a.counters in
    let reach : Reaches (outside ps) t.0.path e.counters = subst (Reaches (outside ps) t.0.path) same a.reaches in
    record {
      at = t.0;
      leads = t.1;
      fits = fits_end_all body 0 0 (length ps) 0 e.stmt t.0 r t.1;
      is = t.2;
      model = ended ps t.0 l t.2;
      counted = counters_reach (outside ps) t.0.path e.counters reach;
      reaches = reach;
      point = a.point ∙ ap (point_at (outside ps) t.0.path) same;
      array = a.array;
      subs = a.subs;
      value = a.value;
    }

-- an entry has a counter for each loop
pub counters_told : (body : List Stmt) (ps : List ℤ) (e : Entry) (l : StmtModel) → ReadyAll (length ps) 0 body → slice_get (lowered_body (length ps) body) e.stmt ≡ Some l → Contains (trace_of body ps) e
    → length e.counters ≡ length l.loops
counters_told body ps e l r low c = let t = told_at body ps e l r low c in t.counted ∙ sym t.model.loops
