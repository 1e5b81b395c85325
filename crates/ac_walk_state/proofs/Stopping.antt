-- Where a growth stops.
use Rattle.std.proofs.Common.{◌≡◌, ◌⊎◌, inl, inr, ℕ, ℤ, List, [], ◌∷◌, ◌++◌, length, Option, Some, refl, sym, ap, ◌∙◌, subst}
use Rattle.std.specs.Prelude.{slice_get}
use Rattle.ac_syntax.specs.declared.tree.Order.{Order}
use Rattle.ac_syntax.specs.declared.tree.Position.{Position}
use Rattle.ac_forms.specs.Affine.{CanEvaluate}
use Rattle.ac_forms.specs.ListMembers.{IsAmong}
use Rattle.ac_forms.specs.Rows.{CanTest, form_of}
use Rattle.ac_forms.specs.declared.row.Row.{Row}
use Rattle.ac_hull.specs.ColumnDifferences.{GapsFit}
use Rattle.ac_hull.specs.EliminationRange.{CanAdd, CanCombine}
use Rattle.ac_hull.specs.HullStops.{HandsBack}
use Rattle.ac_hull.specs.Templates.{template_rows}
use Rattle.ac_hull.specs.declared.stop.HullStop.{HullStop}
use Rattle.ac_hull.specs.declared.stop.HullStop.TheVariants.{Overflow, Memory}
use Rattle.ac_widen.specs.Combinations.{Each}
use Rattle.ac_widen.specs.Derivations.{EntryOf}
use Rattle.ac_widen.specs.Obligations.{Obligation, Obligations}
use Rattle.ac_widen.specs.Setting.{Setting}
use Rattle.ac_widen.specs.declared.derivation.Entry.{Entry}
use Rattle.ac_widen.proofs.Deriving.{derived_obligation}
use Rattle.ac_widen.proofs.Walking.{left_among}
use Rattle.ac_widen_programs.specs.BrokenPaths.{IsBroken}
use Rattle.ac_widen_programs.specs.DerivationEntries.{entries_of}
use Rattle.ac_widen_programs.specs.PairPaths.{Unfolding, setting_of}
use Rattle.ac_walk_state.specs.RecurrencePairs.{WideningPointOf, positions}
use Rattle.ac_walk_state.specs.RecurrencePairInvariant.{CanMeet, IsWideningPoint, IsTooLarge, template_at}
use Rattle.ac_walk_state.specs.declared.template.Template.{Template}
use Rattle.ac_walk_state.specs.BrokenPathStarts.{IsInside}
use Rattle.ac_walk_state.specs.PathEnds.{IsEnd, entry_positions}
use Rattle.ac_walk_state.specs.OrderKnowledge.{IsKnown, IsWidenedAt, claims_of, pairs_of}
use Rattle.ac_walk_state.specs.Growth.{ArePathsOf, IsEndAt, IsGrowthOf, IsMemberAt, MembersEnd, StillDerives}
use Rattle.ac_walk_state.specs.GrowthStops.{StopsAt, StopsGrowth, StopsNext}
use Rattle.ac_walk_state.specs.declared.known.Known.{Known}
use Rattle.ac_walk_state.specs.declared.growth.Growth.{Growth}
use Rattle.ac_walk_state.specs.declared.growth.Growth.TheVariants.{Grown, Mismatch, Nothing}
use Rattle.ac_walk_state.proofs.LastItems.{all_in, among_last, among_map, each_in, in_get}
use Rattle.ac_walk_state.proofs.Owed.{Owed, at_owed, first_owed, path_owed, with_owed}

-- ---- numbers

-- rows can be tested where each of some among which they are can be evaluated
can_test : (all rows : List Row) (p : List ℤ) → ((r : Row) → IsAmong r rows → IsAmong r all) → Each (λ r. CanEvaluate (form_of r) p) all → CanTest rows p
can_test all [] p among h = tt
can_test all (r ∷ rows) p among h = (each_in (λ (x : Row). CanEvaluate (form_of x) p) all r h (among r (inl refl)), λ _. can_test all rows p (λ x i. among x (inr i)) h)

template_among : (t : Template) (es : List (EntryOf (Position × Position))) (k : WideningPointOf) (n : ℕ) → IsWideningPoint t es k → n ≡ k.hull.columns → (r : Row) → IsAmong r k.rows → IsAmong r (template_rows n t.thresholds t.moduli)
template_among t es k n right width r i = subst (λ (m : ℕ). IsAmong r (template_rows m t.thresholds t.moduli)) (sym width) (left_among (template_at t k) k.members r (right.1.among r i)).0

-- ---- at a widening point

-- where a path begins
pub stops_combining : (t : Template) (k : WideningPointOf) (path : List Entry) (inside : IsInside k path) (p : List ℤ) (stop : HullStop) → p ≡ inside.first.point → HandsBack (k.hull.members ++ p ∷ []) stop (¬ CanCombine k.hull.members p) → StopsAt t (k ∷ []) path stop
stops_combining t k path inside p (Overflow ps) same h = record {
  widening_point = k;
  among = inl refl;
  members = k.hull.members;
  are = inr refl;
  entry = inside.first;
  on_path = subst (IsAmong inside.first) (sym inside.path_is) (inl refl);
  there = inside.there;
  points_are = h.1 ∙ ap (λ (x : List ℤ). k.hull.members ++ x ∷ []) same;
  large = λ can. h.0 (subst (CanCombine k.hull.members) (sym same) can.combines);
  ends = inr (λ can. h.0 (subst (CanCombine k.hull.members) (sym same) can));
}
stops_combining t k path inside p (Memory want) same h = tt

-- where it ends
end_on : (path : List Entry) (e : Entry) → IsEnd path e → IsAmong e path
end_on path e end = subst (IsAmong e) (sym end.path_is) (among_last e end.front)

pub stops_meeting : (t : Template) (es : List (EntryOf (Position × Position))) (widening_points : List WideningPointOf) (k : WideningPointOf) (path : List Entry) (e : Entry) (p : List ℤ) (stop : HullStop) → IsAmong k widening_points → IsWideningPoint t es k → length e.point ≡ k.hull.columns → IsEnd path e
    → positions k ≡ entry_positions e → p ≡ e.point → HandsBack (k.hull.members ++ p ∷ []) stop (¬ CanMeet k p) → StopsAt t widening_points path stop
stops_meeting t es widening_points k path e p (Overflow ps) among right width end there same h = record {
  widening_point = k;
  among = among;
  members = k.hull.members;
  are = inr refl;
  entry = e;
  on_path = end_on path e end;
  there = sym there;
  points_are = h.1 ∙ ap (λ (x : List ℤ). k.hull.members ++ x ∷ []) same;
  large = λ can. h.0 (subst (CanMeet k) (sym same) (can_test (template_rows (length e.point) t.thresholds t.moduli) k.rows e.point (template_among t es k (length e.point) right width) can.tests, λ _. can.combines));
  ends = inl end;
}
stops_meeting t es widening_points k path e p (Memory want) among right width end there same h = tt

pub stops_growing : (t : Template) (widening_points : List WideningPointOf) (k : WideningPointOf) (path : List Entry) (e : Entry) (p : List ℤ) (stop : HullStop) → IsAmong k widening_points → length e.point ≡ k.hull.columns → IsEnd path e → positions k ≡ entry_positions e → p ≡ e.point
    → IsTooLarge k p stop → StopsAt t widening_points path stop
stops_growing t widening_points k path e p (Overflow ps) among width end there same (inl h) = record {
  widening_point = k;
  among = among;
  members = k.hull.members;
  are = inr refl;
  entry = e;
  on_path = end_on path e end;
  there = sym there;
  points_are = h.1 ∙ ap (λ (x : List ℤ). k.hull.members ++ x ∷ []) same;
  large = λ can. h.0 (subst (CanAdd k.hull.columns k.hull.members) (sym same) (subst (λ (n : ℕ). CanAdd n k.hull.members e.point) width can.adds));
  ends = inl end;
}
stops_growing t widening_points k path e p (Overflow ps) among width end there same (inr h) = record {
  widening_point = k;
  among = among;
  members = k.members;
  are = inl refl;
  entry = e;
  on_path = end_on path e end;
  there = sym there;
  points_are = h.1 ∙ ap (λ (x : List ℤ). k.members ++ x ∷ []) same;
  large = λ can. h.0 (subst (λ (x : List ℤ). Each GapsFit (k.members ++ x ∷ [])) (sym same) can.gaps);
  ends = inl end;
}
stops_growing t widening_points k path e p (Memory want) among width end there same h = tt

-- at one of several widening points
pub stops_among : (t : Template) (widening_points : List WideningPointOf) (at : ℕ) (k : WideningPointOf) (path : List Entry) (stop : HullStop) → slice_get widening_points at ≡ Some k → StopsAt t (k ∷ []) path stop → StopsAt t widening_points path stop
stops_among t widening_points at k path (Overflow ps) is h = record {
  widening_point = h.widening_point;
  among = elim h.among [ inl e ↦ subst (λ (x : WideningPointOf). IsAmong x widening_points) (sym e) (in_get widening_points at k is) | inr i ↦ absurd i ];
  members = h.members;
  are = h.are;
  entry = h.entry;
  on_path = h.on_path;
  there = h.there;
  points_are = h.points_are;
  large = h.large;
  ends = h.ends;
}
stops_among t widening_points at k path (Memory want) is h = tt

-- ---- a growth

-- what is known behind some of the paths from the start
record IsBehind (u : Unfolding) (t : Template) (start known : Known) (paths : List (List Entry)) : Type 0 where
  pub is_known : IsKnown u.pair t known
  pub pairs : pairs_of known ≡ pairs_of start
  pub members : MembersEnd start.widening_points.items paths known.widening_points.items
  pub derivation : IsWidenedAt (setting_of u) t start → StillDerives u start.entries known.entries

members_owed : (s : Setting (Position × Position)) (order : Position × Position → Order) (t : Template) (es : List (EntryOf (Position × Position))) (k : WideningPointOf) (members : List (List ℤ)) → IsWideningPoint t es k → Each (Owed s order) es → (members ≡ k.members) ⊎ (members ≡ k.hull.members)
    → Obligations s order (positions k) members
members_owed s order t es k members right owed (inl e) = subst (Obligations s order (positions k)) (sym e) (at_owed s order es (positions k) k.places k.members owed right.1.found_stand)
members_owed s order t es k members right owed (inr e) = subst (Obligations s order (positions k)) (sym e) (at_owed s order es (positions k) k.kept k.hull.members owed right.1.members_stand)

-- where its members and the entry come from
members_come : (start known : Known) (paths : List (List Entry)) (k : WideningPointOf) (members : List (List ℤ)) → MembersEnd start.widening_points.items paths known.widening_points.items → IsAmong k known.widening_points.items → (members ≡ k.members) ⊎ (members ≡ k.hull.members) → (p : List ℤ) → IsAmong p members
    → IsMemberAt start.widening_points.items (positions k) p ⊎ IsEndAt paths (positions k) p
members_come start known paths k members ends among (inl e) p i = ends (positions k) p (k, among, refl, inl (subst (IsAmong p) e i))
members_come start known paths k members ends among (inr e) p i = ends (positions k) p (k, among, refl, inr (subst (IsAmong p) e i))

point_comes : (paths : List (List Entry)) (path : List Entry) (pair : Position × Position) (members : List (List ℤ)) (e : Entry) → IsAmong path paths → entry_positions e ≡ pair → IsEnd path e ⊎ ¬ (CanCombine members e.point) → IsEndAt paths pair e.point ⊎ ¬ (CanCombine members e.point)
point_comes paths path pair members e i there (inl end) = inl (path, i, e, end, there, refl)
point_comes paths path pair members e i there (inr none) = inr none

stops_there : (t : Template) (start known : Known) (from : Option ℕ) (paths : List (List Entry)) (path : List Entry) (stop : HullStop) → ((u : Unfolding) → ArePathsOf u t start from paths → IsBehind u t start known paths) → IsAmong path paths → StopsAt t known.widening_points.items path stop
    → StopsGrowth t start from paths stop
stops_there t start known from paths path (Overflow points) behind i h = λ u are w d.
    let s = setting_of u in
    let order = u.order in
    let es = entries_of known.entries in
    let r = behind u are in
    let k = h.widening_point in
    let right = each_in (IsWideningPoint t es) known.widening_points.items k r.is_known.widening_points h.among in
    let members = members_owed s order t es k h.members right (derived_obligation s order es (r.derivation w d)) h.are in
    let broken = all_in (IsBroken u (claims_of start)) paths path are.1 i in
    let point = path_owed u (claims_of start) path broken (first_owed u t start from path are.0 w d broken) h.entry h.on_path in
    let all = with_owed s order (positions k) h.members h.entry.point members (subst (λ (pair : Position × Position). Obligation s order pair h.entry.point) h.there point) in (
      positions k,
      subst (IsAmong (positions k)) r.pairs (among_map positions known.widening_points.items k h.among),
      record { members = h.members; point = h.entry.point; points_are = h.points_are; owed = subst (Obligations s order (positions k)) (sym h.points_are) all; large = h.large },
      record {
        members_come = members_come start known paths k h.members r.members h.among h.are;
        point_comes = point_comes paths path (positions k) h.members h.entry i h.there h.ends;
      },
    )
stops_there t start known from paths path (Memory want) behind i h = tt

-- before the first path is taken
pub begin_stops : (t : Template) (start : Known) (from : Option ℕ) (paths : List (List Entry)) (path : List Entry) (stop : HullStop) → IsAmong path paths → StopsAt t start.widening_points.items path stop → StopsGrowth t start from paths stop
begin_stops t start from paths path stop i h = stops_there t start start from paths path stop (λ u are. record { is_known = are.0.is_known; pairs = refl; members = λ pair p m. inl m; derivation = λ w d. d }) i h

-- behind some of them
ends_among : (start known : Known) (before paths : List (List Entry)) → ((p : List Entry) → IsAmong p before → IsAmong p paths) → MembersEnd start.widening_points.items before known.widening_points.items → MembersEnd start.widening_points.items paths known.widening_points.items
ends_among start known before paths within h pair p m = elim (h pair p m) [ inl o ↦ inl o | inr e ↦ inr (e.0, within e.0 e.1, e.2, e.3, e.4, e.5) ]

pub next_stops : (t : Template) (start : Known) (from : Option ℕ) (paths before : List (List Entry)) (at : ℕ) (path : List Entry) (growth : Growth) (stop : HullStop) → ((p : List Entry) → IsAmong p before → IsAmong p paths) → ((u : Unfolding) → ArePathsOf u t start from paths → IsGrowthOf u t start before growth) → slice_get paths at ≡ Some path
    → StopsNext t path growth stop → StopsGrowth t start from paths stop
next_stops t start from paths before at path (Grown known) stop within growth is next =
    stops_there t start known from paths path stop (λ u are. let r = growth u are in record { is_known = r.is_known; pairs = r.pairs; members = ends_among start known before paths within r.members; derivation = r.derivation }) (in_get paths at path is) next
next_stops t start from paths before at path (Mismatch entries) stop within growth is next = absurd next
next_stops t start from paths before at path (Nothing known) stop within growth is next =
    stops_there t start known from paths path stop (λ u are. let r = growth u are in record { is_known = r.is_known; pairs = r.pairs; members = ends_among start known before paths within r.members; derivation = r.derivation }) (in_get paths at path is) next
