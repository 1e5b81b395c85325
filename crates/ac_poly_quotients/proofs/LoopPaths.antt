-- An assignment's points, before and after its columns are moved to their last places.
use Rattle.std.proofs.Common.{inl, ◌≡◌, ◌↔◌, ℕ, ◌+◌, List, [], ◌∷◌, ◌++◌, length, map, replicate, refl, sym, ap, ◌∙◌, subst, arith, ℤ, pos, ◌+ℤ◌, ◌*ℤ◌, length-append, append_assoc, append-nil, true}
use Rattle.std.specs.List.{AllByRecursion, list_any, flat_map}
use Rattle.std.proofs.lemmas.List.{length-map}
use Rattle.ac_forms.specs.Affine.{value_at}
use Rattle.ac_forms.specs.PieceMembership.{IsInSome}
use Rattle.ac_forms.specs.Renaming.{renamed}
use Rattle.ac_forms.specs.Rows.{Meets}
use Rattle.ac_syntax.specs.Index.{Point, index_value, quot_value}
use Rattle.ac_syntax.specs.Quotients.{noted_parts}
use Rattle.ac_syntax.specs.Turns.{inside}
use Rattle.ac_syntax.specs.declared.tree.Comparison.{Comparison}
use Rattle.ac_syntax.specs.declared.tree.IndexExpr.{IndexExpr}
use Rattle.ac_syntax.specs.declared.tree.Quot.{Quot}
use Rattle.ac_poly_quotients.specs.FilledColumns.{counters, quots_of, filled, ColumnsAreMade}
use Rattle.ac_poly_quotients.specs.LastColumns.{final_columns, finals, placed_pieces}
use Rattle.ac_poly_quotients.specs.LawsOfPaths.{PathsArePoints, PathsHaveQuotients, PathsHaveForms}
use Rattle.ac_poly_quotients.specs.LoopPaths.{Step, Enters, Taken, Other, depth_of, scope_at, noted_path, point_at, Reaches, FitsPath}
use Rattle.ac_poly_quotients.specs.QuotientRows.{rounded_at, quotients_at}
use Rattle.ac_poly_quotients.specs.QuotientScopes.{outermost, is_named, with_quots, part_quots, lowered_in, with_counter, in_loop, where_holds, where_fails}
use Rattle.ac_poly_quotients.specs.declared.types.QuotColumn.{QuotColumn}
use Rattle.ac_poly_quotients.specs.declared.types.Scope.{Scope}
use Rattle.ac_poly_quotients.proofs.EnteredScopes.{stands_taken, stands_other, taken_pieces, other_pieces, assigned_pieces, enters, same_point}
use Rattle.ac_poly_quotients.proofs.FormValues.{length-replicate}
use Rattle.ac_poly_quotients.proofs.NotedColumns.{AreNamed, grown_all, stands_all, all_named, lowered_value}
use Rattle.ac_poly_quotients.proofs.NotedQuotients.{quot_of, quots_noted, parts_noted}
use Rattle.ac_poly_quotients.proofs.PlacedPieces.{instances_placed, placed_value, values_of_columns}
use Rattle.ac_poly_quotients.proofs.QuotientRows.{length-quotients}
use Rattle.ac_poly_quotients.proofs.StandingScopes.{now, Stands, stands_outermost}

one_more : (p : Point) (x : ℤ) → length (inside p x).iters ≡ length p.iters + 1
one_more p x = length-append p.iters (x ∷ [])

-- the scope at the end stands at the counters on the way
pub stands_end : (p : Point) (zs : List ℤ) (sc : Scope) (ss : List Step) (qs : List Quot) (rest : List ℤ) → Stands p zs sc → FitsPath (length p.params) (length p.iters) ss qs → length rest ≡ depth_of ss
    → Stands (point_at p ss rest) (zs ++ rest) (scope_at sc ss qs)
stands_end p zs sc [] qs [] h f l = subst (λ (x : List ℤ). Stands p x (with_quots sc qs)) (sym (append-nil zs)) (stands_all p zs sc qs h f)
stands_end p zs sc [] qs (z ∷ rest) h f l = absurd (omega arith)
stands_end p zs sc (Enters number start cond step ∷ ss) qs [] h f l = absurd (omega arith)
stands_end p zs sc (Enters number start cond step ∷ ss) qs (z ∷ rest) h f l =
    let x = index_value p start +ℤ (step *ℤ z) in
    let e = enters p zs sc number start cond step z h f.0 f.1 f.2 in
    let g : FitsPath (length p.params) (length (inside p x).iters) ss qs = subst (λ (n : ℕ). FitsPath (length p.params) n ss qs) (sym (one_more p x)) f.3 in
    subst (λ (y : List ℤ). Stands (point_at (inside p x) ss rest) y (scope_at (in_loop sc number start cond step) ss qs)) (append_assoc zs (z ∷ []) rest)
    (stands_end (inside p x) (zs ++ z ∷ []) (in_loop sc number start cond step) ss qs rest e.stands g (omega arith))
stands_end p zs sc (Taken cond ∷ ss) qs rest h f l = stands_end p zs (where_holds sc cond) ss qs rest (stands_taken p zs sc cond h f.0) f.1 l
stands_end p zs sc (Other cond ∷ ss) qs rest h f l = stands_end p zs (where_fails sc cond) ss qs rest (stands_other p zs sc cond h f.0) f.1 l

-- its pieces are met exactly where the end is reached
pub pieces_end : (p : Point) (zs : List ℤ) (sc : Scope) (ss : List Step) (qs : List Quot) (rest : List ℤ) → Stands p zs sc → FitsPath (length p.params) (length p.iters) ss qs → length rest ≡ depth_of ss
    → IsInSome Meets (scope_at sc ss qs).pieces (filled (scope_at sc ss qs).columns p.params (zs ++ rest)) ↔ (IsInSome Meets sc.pieces (now p zs sc) × Reaches p ss rest)
pieces_end p zs sc [] qs [] h f l =
    let e = ap (λ (x : List ℤ). IsInSome Meets (with_quots sc qs).pieces (filled (with_quots sc qs).columns p.params x)) (append-nil zs) ∙ assigned_pieces p zs sc qs h in
    ((λ m. (rw e at m, tt)), (λ m. rw e m.0))
pieces_end p zs sc [] qs (z ∷ rest) h f l = absurd (omega arith)
pieces_end p zs sc (Enters number start cond step ∷ ss) qs [] h f l = absurd (omega arith)
pieces_end p zs sc (Enters number start cond step ∷ ss) qs (z ∷ rest) h f l =
    let x = index_value p start +ℤ (step *ℤ z) in
    let in_it = in_loop sc number start cond step in
    let e = enters p zs sc number start cond step z h f.0 f.1 f.2 in
    let g : FitsPath (length p.params) (length (inside p x).iters) ss qs = subst (λ (n : ℕ). FitsPath (length p.params) n ss qs) (sym (one_more p x)) f.3 in
    let again = pieces_end (inside p x) (zs ++ z ∷ []) in_it ss qs rest e.stands g (omega arith) in
    let whole = append_assoc zs (z ∷ []) rest in
    let t = subst (λ (y : List ℤ). IsInSome Meets (scope_at in_it ss qs).pieces (filled (scope_at in_it ss qs).columns p.params y) ↔ (IsInSome Meets in_it.pieces (now (inside p x) (zs ++ z ∷ []) in_it) × Reaches (inside p x) ss rest)) whole again in (
      (λ m. let r = t.0 m in let i = e.pieces.0 r.0 in (i.0, (i.1, i.2, i.3, r.1))),
      (λ m. t.1 (e.pieces.1 (m.0, m.1.0, m.1.1, m.1.2), m.1.3)),
    )
pieces_end p zs sc (Taken cond ∷ ss) qs rest h f l =
    let a = taken_pieces p zs sc cond h f.0 in
    let again = pieces_end p zs (where_holds sc cond) ss qs rest (stands_taken p zs sc cond h f.0) f.1 l in
    ((λ m. let r = again.0 m in let i = a.0 r.0 in (i.0, (i.1, r.1))), (λ m. again.1 (a.1 (m.0, m.1.0), m.1.1)))
pieces_end p zs sc (Other cond ∷ ss) qs rest h f l =
    let a = other_pieces p zs sc cond h f.0 in
    let again = pieces_end p zs (where_fails sc cond) ss qs rest (stands_other p zs sc cond h f.0) f.1 l in
    ((λ m. let r = again.0 m in let i = a.0 r.0 in (i.0, (i.1, r.1))), (λ m. again.1 (a.1 (m.0, m.1.0), m.1.1)))

abbrev outside : List ℤ → Point
outside ps = record { params = ps; iters = [] }

same_params : (sc : Scope) (ss : List Step) (qs : List Quot) → (scope_at sc ss qs).params ≡ sc.params
same_params sc [] qs = (grown_all sc qs).params
same_params sc (Enters number start cond step ∷ ss) qs =
    let a = with_quots sc start.quots in
    let b = with_counter a number (lowered_in a a.iters start) step in
    same_params (in_loop sc number start cond step) ss qs ∙ (grown_all b (flat_map part_quots cond.parts)).params ∙ (grown_all sc start.quots).params
same_params sc (Taken cond ∷ ss) qs = same_params (where_holds sc cond) ss qs ∙ (grown_all sc (flat_map part_quots cond.parts)).params
same_params sc (Other cond ∷ ss) qs = same_params (where_fails sc cond) ss qs ∙ (grown_all sc (flat_map part_quots cond.parts)).params

-- what the scope at the end of a way has, whatever the counters
counted : (ps : List ℤ) (ss : List Step) (qs : List Quot) → FitsPath (length ps) 0 ss qs → (counters (scope_at (outermost (length ps)) ss qs).columns ≡ depth_of ss) × ColumnsAreMade (length ps) (scope_at (outermost (length ps)) ss qs).columns
counted ps ss qs f =
    let zeros : List ℤ = replicate (depth_of ss) (pos 0) in
    let h = stands_end (outside ps) [] (outermost (length ps)) ss qs zeros (stands_outermost ps) f (length-replicate (depth_of ss)) in
    let n : (scope_at (outermost (length ps)) ss qs).params ≡ length ps = same_params (outermost (length ps)) ss qs in
    (sym h.counters ∙ length-replicate (depth_of ss), subst (λ (k : ℕ). ColumnsAreMade k (scope_at (outermost (length ps)) ss qs).columns) n h.made)

-- the model of the assignment: coordinates lie in its pieces exactly where they are the counters of a way to it, with the values of the quotients behind
pub points_of_path : (ps : List ℤ) (ss : List Step) (qs : List Quot) (at : List ℤ) → FitsPath (length ps) 0 ss qs
    → length at ≡ depth_of ss + length (quots_of (scope_at (outermost (length ps)) ss qs).columns)
    → IsInSome Meets (placed_pieces (length ps) (depth_of ss) (scope_at (outermost (length ps)) ss qs).columns (scope_at (outermost (length ps)) ss qs).pieces) (ps ++ at)
    ↔ ((zs : List ℤ) × (length zs ≡ depth_of ss) × Reaches (outside ps) ss zs
    × (zs ++ quotients_at (finals (final_columns (length ps) (depth_of ss) (scope_at (outermost (length ps)) ss qs).columns) (scope_at (outermost (length ps)) ss qs).columns) (ps ++ zs) ≡ at))
points_of_path ps ss qs at f l =
    let e = scope_at (outermost (length ps)) ss qs in
    let c = counted ps ss qs f in
    instances_placed (length ps) (depth_of ss) e.columns e.pieces ps (Reaches (outside ps) ss) refl c.0 c.1
    (λ zs d. let t = pieces_end (outside ps) [] (outermost (length ps)) ss qs zs (stands_outermost ps) f d in ((λ m. (t.0 m).1), (λ r. t.1 (inl tt, r)))) at l

params_at : (p : Point) (ss : List Step) (rest : List ℤ) → (point_at p ss rest).params ≡ p.params
params_at p [] rest = refl
params_at p (Enters number start cond step ∷ ss) [] = params_at (inside p (index_value p start +ℤ (step *ℤ pos 0))) ss []
params_at p (Enters number start cond step ∷ ss) (z ∷ rest) = params_at (inside p (index_value p start +ℤ (step *ℤ z))) ss rest
params_at p (Taken cond ∷ ss) rest = params_at p ss rest
params_at p (Other cond ∷ ss) rest = params_at p ss rest

-- and its quotients are those of the text, at the counters
pub quotients_of_path : (ps : List ℤ) (ss : List Step) (qs : List Quot) (zs : List ℤ) → FitsPath (length ps) 0 ss qs → length zs ≡ depth_of ss
    → quotients_at (finals (final_columns (length ps) (depth_of ss) (scope_at (outermost (length ps)) ss qs).columns) (scope_at (outermost (length ps)) ss qs).columns) (ps ++ zs)
    ≡ map (λ (q : QuotColumn). quot_value (point_at (outside ps) ss zs) q.quot) (scope_at (outermost (length ps)) ss qs).quots
quotients_of_path ps ss qs zs f d =
    let e = scope_at (outermost (length ps)) ss qs in
    let c = counted ps ss qs f in
    let h = stands_end (outside ps) [] (outermost (length ps)) ss qs zs (stands_outermost ps) f d in
    let n : (point_at (outside ps) ss zs).params ≡ ps = params_at (outside ps) ss zs in
    values_of_columns (length ps) (depth_of ss) e.columns ps zs refl d (d ∙ sym c.0) c.1
    ∙ ap (λ (x : List ℤ). map (λ r. rounded_at r (filled e.columns x zs)) (quots_of e.columns)) (sym n) ∙ h.told

-- the quotients of the assignment itself have columns at the end
pub named_at_end : (sc : Scope) (ss : List Step) (qs : List Quot) → AreNamed (scope_at sc ss qs) qs
named_at_end sc [] qs = all_named sc qs
named_at_end sc (Enters number start cond step ∷ ss) qs = named_at_end (in_loop sc number start cond step) ss qs
named_at_end sc (Taken cond ∷ ss) qs = named_at_end (where_holds sc cond) ss qs
named_at_end sc (Other cond ∷ ss) qs = named_at_end (where_fails sc cond) ss qs

-- a moved expression has its value at the counters
pub forms_of_path : (ps : List ℤ) (ss : List Step) (qs : List Quot) (t : IndexExpr) (zs : List ℤ) → FitsPath (length ps) 0 ss qs → length zs ≡ depth_of ss → length t.params ≡ length ps
    → AllByRecursion (λ (q : Quot). list_any (is_named q) (scope_at (outermost (length ps)) ss qs).quots ≡ true) t.quots
    → value_at (renamed (final_columns (length ps) (depth_of ss) (scope_at (outermost (length ps)) ss qs).columns) (lowered_in (scope_at (outermost (length ps)) ss qs) (scope_at (outermost (length ps)) ss qs).iters t))
    (ps ++ (zs ++ quotients_at (finals (final_columns (length ps) (depth_of ss) (scope_at (outermost (length ps)) ss qs).columns) (scope_at (outermost (length ps)) ss qs).columns) (ps ++ zs)))
    ≡ index_value (point_at (outside ps) ss zs) t
forms_of_path ps ss qs t zs f d l named =
    let e = scope_at (outermost (length ps)) ss qs in
    let c = counted ps ss qs f in
    let p = point_at (outside ps) ss zs in
    let h = stands_end (outside ps) [] (outermost (length ps)) ss qs zs (stands_outermost ps) f d in
    let n : p.params ≡ ps = params_at (outside ps) ss zs in
    let quots = finals (final_columns (length ps) (depth_of ss) e.columns) e.columns in
    let many : length (quotients_at quots (ps ++ zs)) ≡ length (quots_of e.columns) = length-quotients quots (ps ++ zs) ∙ length-map (quots_of e.columns) _ in
    let form = lowered_in e e.iters t in
    placed_value (length ps) (depth_of ss) e.columns form ps zs (quotients_at quots (ps ++ zs)) refl d (d ∙ sym c.0) many c.1 refl
    ∙ ap (λ (x : List ℤ). value_at form (filled e.columns x zs)) (sym n)
    ∙ lowered_value p zs e e.iters p.iters t h h.values (l ∙ sym (ap length n)) named (same_point p t.quots)

-- as laws say it
pub paths_are_points : PathsArePoints
paths_are_points ps ss qs at f l = points_of_path ps ss qs at f l

pub values_noted : (p : Point) (ns : List QuotColumn) → map (λ (n : QuotColumn). quot_value p n.quot) ns ≡ map (quot_value p) (map quot_of ns)
values_noted p [] = refl
values_noted p (n ∷ ns) = ap (λ (vs : List ℤ). quot_value p n.quot ∷ vs) (values_noted p ns)

pub parts_behind : (sc : Scope) (cs : List Comparison) → map quot_of (with_quots sc (flat_map part_quots cs)).quots ≡ noted_parts (map quot_of sc.quots) cs
parts_behind sc cs = quots_noted sc (flat_map part_quots cs) ∙ parts_noted (map quot_of sc.quots) cs

-- what has columns at the end is what was noted on the way
pub path_noted : (sc : Scope) (ss : List Step) (qs : List Quot) → map quot_of (scope_at sc ss qs).quots ≡ noted_path (map quot_of sc.quots) ss qs
path_noted sc [] qs = quots_noted sc qs
path_noted sc (Enters number start cond step ∷ ss) qs =
    let a = with_quots sc start.quots in
    let b = with_counter a number (lowered_in a a.iters start) step in
    path_noted (in_loop sc number start cond step) ss qs
    ∙ ap (λ (seen : List Quot). noted_path seen ss qs) (parts_behind b cond.parts ∙ ap (λ (seen : List Quot). noted_parts seen cond.parts) (quots_noted sc start.quots))
path_noted sc (Taken cond ∷ ss) qs = path_noted (where_holds sc cond) ss qs ∙ ap (λ (seen : List Quot). noted_path seen ss qs) (parts_behind sc cond.parts)
path_noted sc (Other cond ∷ ss) qs = path_noted (where_fails sc cond) ss qs ∙ ap (λ (seen : List Quot). noted_path seen ss qs) (parts_behind sc cond.parts)

pub paths_have_quotients : PathsHaveQuotients
paths_have_quotients ps ss qs zs f d =
    let p = point_at (outside ps) ss zs in
    quotients_of_path ps ss qs zs f d ∙ values_noted p (scope_at (outermost (length ps)) ss qs).quots ∙ ap (map (quot_value p)) (path_noted (outermost (length ps)) ss qs)

pub paths_have_forms : PathsHaveForms
paths_have_forms ps ss qs t zs f d l n = forms_of_path ps ss qs t zs f d l n
