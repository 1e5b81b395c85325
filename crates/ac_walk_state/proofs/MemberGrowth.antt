-- What a further member leaves as it is.
use Rattle.std.proofs.Common.{◌≡◌, ◌⊎◌, inl, inr, ℕ, zero, suc, ◌<◌, ℤ, List, [], ◌∷◌, ◌++◌, map, length, take, drop, get_or, Some, refl, sym, ap, ◌∙◌, subst, arith}
use Rattle.std.specs.Prelude.{slice_get}
use Rattle.std.specs.List.{insert, remove}
use Rattle.std.proofs.lemmas.Option.{slice_get_within}
use Rattle.ac_syntax.specs.declared.tree.Pair.{Pair}
use Rattle.ac_syntax.specs.declared.tree.Position.{Position}
use Rattle.ac_widen_programs.specs.PairSetting.{point_width}
use Rattle.ac_widen.specs.Combinations.{Each}
use Rattle.ac_widen.specs.Derivations.{EntryOf, StandsAt}
use Rattle.ac_walk_state.specs.RecurrencePairs.{WideningPointOf, IsMemberOf, positions}
use Rattle.ac_walk_state.specs.RecurrencePairInvariant.{IsWideningPoint, IsWith}
use Rattle.ac_walk_state.specs.declared.template.Template.{Template}
use Rattle.ac_walk_state.proofs.Standing.{key_stays}
use Rattle.ac_hull.specs.Hulls.{HullOf}
use Rattle.ac_forms.specs.ListMembers.{IsAmong}
use Rattle.ac_widen.specs.declared.derivation.Entry.{Entry}
use Rattle.ac_walk_state.specs.Growth.{IsEndAt, IsMemberAt, MembersEnd}
use Rattle.ac_walk_state.specs.PathEnds.{IsEnd, entry_positions}
use Rattle.ac_walk_state.specs.OrderKnowledge.{IsWide}
use Rattle.ac_walk_state.specs.MemberGrowth.{GrowsAt, HasWidthAt}
use Rattle.ac_walk_state.proofs.LastItems.{among_back, among_front, among_more, each_changed, get_middle, in_get, each_in, length_taken, map_changed, take_none}

same_columns : (k g : WideningPointOf) (p : List ℤ) (place : ℕ) → IsWith k p place g → g.hull.columns ≡ k.hull.columns
same_columns k g p place h = elim h.hull [ inl z ↦ ap (λ x. x.columns) z.0.1 | inr z ↦ ap (λ x. x.columns) z.0.1 ]

pub same_positions : (k g : WideningPointOf) (p : List ℤ) (place : ℕ) → IsWith k p place g → positions k ≡ positions g
same_positions k g p place h = λ i. (sym h.left i, sym h.right i)

-- the widening point that grows
pub grows_key : (t : Template) (old : List WideningPointOf) (at : ℕ) (p : List ℤ) (place : ℕ) (new : List WideningPointOf) (g : GrowsAt t old at p place new) (k : WideningPointOf) → slice_get old at ≡ Some k → g.widening_point ≡ k
grows_key t old at p place new g k is =
    let there : slice_get old at ≡ Some g.widening_point = ap (λ (xs : List WideningPointOf). slice_get xs at) g.old_is ∙ subst (λ (i : ℕ). slice_get (g.front ++ g.widening_point ∷ g.back) i ≡ Some g.widening_point) g.at_is (get_middle g.front g.widening_point g.back) in
    let same : Some g.widening_point ≡ Some k = sym there ∙ is in
    cc

pub grown_keys : (t : Template) (old : List WideningPointOf) (at : ℕ) (p : List ℤ) (place : ℕ) (new : List WideningPointOf) (es more : List (EntryOf (Position × Position))) (g : GrowsAt t old at p place new) → Each (IsWideningPoint t es) old → StandsAt (es ++ more) place (positions g.widening_point) p
    → Each (IsWideningPoint t (es ++ more)) new
grown_keys t old at p place new es more g h stands =
    let all = subst (Each (IsWideningPoint t es)) g.old_is h in
    let own = each_in (IsWideningPoint t es) (g.front ++ g.widening_point ∷ g.back) g.widening_point all (in_get (g.front ++ g.widening_point ∷ g.back) (length g.front) g.widening_point (get_middle g.front g.widening_point g.back)) in
    subst (Each (IsWideningPoint t (es ++ more))) (sym g.new_is)
    (each_changed (IsWideningPoint t es) (IsWideningPoint t (es ++ more)) g.front g.widening_point g.grown g.back (λ k x. key_stays t es more k x) (g.right (es ++ more) (key_stays t es more g.widening_point own) stands) all)

pub grown_widths : (pair : Pair) (t : Template) (old : List WideningPointOf) (at : ℕ) (p : List ℤ) (place : ℕ) (new : List WideningPointOf) (g : GrowsAt t old at p place new) → Each (IsWide pair) old → Each (IsWide pair) new
grown_widths pair t old at p place new g h =
    let all = subst (Each (IsWide pair)) g.old_is h in
    let own = each_in (IsWide pair) (g.front ++ g.widening_point ∷ g.back) g.widening_point all (in_get (g.front ++ g.widening_point ∷ g.back) (length g.front) g.widening_point (get_middle g.front g.widening_point g.back)) in
    let wide : IsWide pair g.grown = same_columns g.widening_point g.grown p place g.member ∙ own ∙ ap (point_width pair) (same_positions g.widening_point g.grown p place g.member) in
    subst (Each (IsWide pair)) (sym g.new_is) (each_changed (IsWide pair) (IsWide pair) g.front g.widening_point g.grown g.back (λ k x. x) wide all)

pub grown_pairs : (t : Template) (old : List WideningPointOf) (at : ℕ) (p : List ℤ) (place : ℕ) (new : List WideningPointOf) (g : GrowsAt t old at p place new) → map positions new ≡ map positions old
grown_pairs t old at p place new g =
    ap (map positions) g.new_is ∙ sym (map_changed positions g.front g.widening_point g.grown g.back (same_positions g.widening_point g.grown p place g.member)) ∙ ap (map positions) (sym g.old_is)

-- ---- where members come from

among_middle : {A : Type 0} (front : List A) (x : A) (back : List A) (y : A) → IsAmong y (front ++ x ∷ back) → (y ≡ x) ⊎ (IsAmong y front ⊎ IsAmong y back)
among_middle [] x back y (inl e) = inl e
among_middle [] x back y (inr k) = inr (inr k)
among_middle (z ∷ front) x back y (inl e) = inr (inl (inl e))
among_middle (z ∷ front) x back y (inr k) = elim (among_middle front x back y k) [ inl e ↦ inl e | inr s ↦ inr (elim s [ inl f ↦ inl (inr f) | inr b ↦ inr b ]) ]

-- those of the grown widening point, which are the old ones and the new point
with_member : (old new : WideningPointOf) (p : List ℤ) (place : ℕ) → IsWith old p place new → (q : List ℤ) → IsMemberOf new q → IsMemberOf old q ⊎ (q ≡ p)
with_member old new p place w q (inl m) = elim (among_more q p old.members (subst (IsAmong q) w.members m)) [ inl n ↦ inl (inl n) | inr e ↦ inr e ]
with_member old new p place w q (inr m) = elim w.hull [
  | inl g ↦ elim (among_more q p old.hull.members (subst (λ (h : HullOf). IsAmong q h.members) g.0.1 m)) [ inl n ↦ inl (inr n) | inr e ↦ inr e ]
  | inr g ↦ inl (inr (subst (λ (h : HullOf). IsAmong q h.members) g.0.1 m))
]

pub grown_members : (t : Template) (old : List WideningPointOf) (at : ℕ) (p : List ℤ) (place : ℕ) (new : List WideningPointOf) (g : GrowsAt t old at p place new) (path : List Entry) (e : Entry) → IsEnd path e → entry_positions e ≡ positions g.widening_point → e.point ≡ p → MembersEnd old (path ∷ []) new
grown_members t old at p place new g path e end there point pair q (k, among, here, member) = by (among_middle g.front g.grown g.back k (subst (IsAmong k) g.new_is among))
  where
    stays : IsAmong k (g.front ++ g.widening_point ∷ g.back) → IsMemberAt old pair q
    stays i = (k, subst (IsAmong k) (sym g.old_is) i, here, member)

    pair_is : k ≡ g.grown → positions g.widening_point ≡ pair
    pair_is same = same_positions g.widening_point g.grown p place g.member ∙ ap positions (sym same) ∙ here

    grows : (same : k ≡ g.grown) → IsMemberOf g.widening_point q ⊎ (q ≡ p) → IsMemberAt old pair q ⊎ IsEndAt (path ∷ []) pair q
    grows same (inl m) = inl (g.widening_point, subst (IsAmong g.widening_point) (sym g.old_is) (among_back g.front (g.widening_point ∷ g.back) g.widening_point (inl refl)), pair_is same, m)
    grows same (inr is) = inr (path, inl refl, e, end, there ∙ pair_is same, point ∙ sym is)

    by : (k ≡ g.grown) ⊎ (IsAmong k g.front ⊎ IsAmong k g.back) → IsMemberAt old pair q ⊎ IsEndAt (path ∷ []) pair q
    by (inl same) = grows same (with_member g.widening_point g.grown p place g.member q (subst (λ (x : WideningPointOf). IsMemberOf x q) same member))
    by (inr (inl f)) = inl (stays (among_front g.front (g.widening_point ∷ g.back) k f))
    by (inr (inr b)) = inl (stays (among_back g.front (g.widening_point ∷ g.back) k (inr b)))

-- ---- one widening point taken out and put back

drop_none : {A : Type 0} (xs : List A) → drop 0 xs ≡ xs
drop_none [] = refl
drop_none (x ∷ xs) = refl

put_back : {A : Type 0} (xs : List A) (at : ℕ) (x : A) → at < length xs → insert (remove xs at) at x ≡ take at xs ++ x ∷ drop (suc at) xs
put_back [] at x l = absurd (omega (arith, l))
put_back (y ∷ xs) zero x l = λ i. take_none (drop 0 xs) i ++ x ∷ drop_none (drop 0 xs) i
put_back (y ∷ xs) (suc at) x l = ap (λ zs. y ∷ zs) (put_back xs at x (omega (arith, l)))

cut_at : {A : Type 0} (xs : List A) (at : ℕ) (x : A) → at < length xs → x ≡ get_or xs at x → xs ≡ take at xs ++ x ∷ drop (suc at) xs
cut_at [] at x l e = absurd (omega (arith, l))
cut_at (y ∷ xs) zero x l e = λ i. sym e i ∷ sym (drop_none xs) i
cut_at (y ∷ xs) (suc at) x l e = ap (λ zs. y ∷ zs) (cut_at xs at x (omega (arith, l)) e)

pub grows_at : (t : Template) (old : List WideningPointOf) (at : ℕ) (p : List ℤ) (place : ℕ) (widening_point grown : WideningPointOf) (rest new : List WideningPointOf) → at < length old → widening_point ≡ get_or old at widening_point → rest ≡ remove old at → new ≡ insert rest at grown → IsWith widening_point p place grown
    → ((es : List (EntryOf (Position × Position))) → IsWideningPoint t es widening_point → StandsAt es place (positions widening_point) p → IsWideningPoint t es grown) → GrowsAt t old at p place new
grows_at t old at p place widening_point grown rest new l is e f member right = record {
  front = take at old;
  widening_point = widening_point;
  back = drop (suc at) old;
  grown = grown;
  old_is = cut_at old at widening_point l is;
  at_is = length_taken old at l;
  new_is = f ∙ ap (λ (xs : List WideningPointOf). insert xs at grown) e ∙ put_back old at grown l;
  member = member;
  right = right;
}

pub read_is : {A : Type 0} (xs : List A) (at : ℕ) (x y : A) → slice_get xs at ≡ Some y → x ≡ get_or xs at x → x ≡ y
read_is [] at x y e is = absurd cc
read_is (z ∷ xs) zero x y e is = let same : z ≡ y = cc in is ∙ same
read_is (z ∷ xs) (suc at) x y e is = read_is xs at x y e is

pub width_within : (widening_points : List WideningPointOf) (at : ℕ) (p : List ℤ) → HasWidthAt widening_points at p → at < length widening_points
width_within widening_points at p h = slice_get_within widening_points at h.0 h.1

pub width_read : (widening_points : List WideningPointOf) (at : ℕ) (p : List ℤ) (widening_point : WideningPointOf) → HasWidthAt widening_points at p → widening_point ≡ get_or widening_points at widening_point → length p ≡ widening_point.hull.columns
width_read widening_points at p widening_point h is = h.2 ∙ ap (λ (k : WideningPointOf). k.hull.columns) (sym (read_is widening_points at widening_point h.0 h.1 is))
