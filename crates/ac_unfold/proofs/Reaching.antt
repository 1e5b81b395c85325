-- Ends that are reached: the numbers of the positions along a path, the paths that are kept, and when there are too many.
use Rattle.std.proofs.Common.{◌≡◌, ◌<◌, ◌≤◌, inl, inr, ℕ, ℤ, List, [], ◌∷◌, ◌++◌, length, map, refl, sym, ap, ◌∙◌, subst, arith, append_assoc, append-nil, length-append}
use Rattle.std.proofs.lemmas.List.{map-append}
use Rattle.std.specs.Prelude.{Result, Ok, Err, OnErr, OnOk}
use Rattle.std.specs.Cmp.Lexicographic.{slice_cmp}
use Rattle.std.specs.List.{AllByRecursion}
use Rattle.std.specs.Ordering.{nat_cmp}
use Rattle.std.specs.declared.cmp.Ordering.TheVariants.{Less}
use Rattle.ac_forms.specs.Rows.{Meets}
use Rattle.ac_forms.specs.declared.conj.Conj.{Conj}
use Rattle.ac_forms.specs.declared.row.Row.{Row}
use Rattle.ac_syntax.specs.declared.tree.Position.{Position}
use Rattle.ac_omega.specs.declared.pieces.Stop.{Stop}
use Rattle.ac_omega.specs.declared.pieces.Stop.TheVariants as decision
use Rattle.ac_claims_paths.specs.declared.path.Seat.{Seat}
use Rattle.ac_widen.specs.declared.derivation.Entry.{Entry}
use Rattle.ac_widen_programs.specs.PairPathEnds.{entries_at}
use Rattle.ac_unfold.specs.UnfoldCauses.{stop_of}
use Rattle.ac_unfold.specs.UnfoldEnds.{places_along, place_of, AreIncreasing}
use Rattle.ac_unfold.specs.EndResults.{nothing_found, EndsMore, FullBy, IncreaseTo, IsCounted, IsFull, IsNeverFull}
use Rattle.ac_unfold.specs.UnfoldPaths.{BrokenPathsOf, IsPath}
use Rattle.ac_unfold.specs.BrokenPathResults.{IsNone, IsPathAt}
use Rattle.ac_unfold.specs.UnfoldStops.{HandsBack, StopsAsking, StopsStanding}
use Rattle.ac_unfold.specs.declared.types.UnfoldStop.{UnfoldStop}
use Rattle.ac_unfold.specs.declared.types.UnfoldStop.TheVariants.{Overflow, Spent, Paths, Memory}
use Rattle.ac_unfold.proofs.PathSteps.{paths_more}

-- ---- results

-- what holds in any case
pub ok_always : {T E : Type 0} (res : Result T E) (P : Type 0) → P → OnOk res P
ok_always (Ok x) P h = h
ok_always (Err e) P h = tt

-- ---- the numbers along a path

-- three numbers, one after the other
pub pushed_place : (old a b c place : List ℕ) (k i j : ℕ) → a ≡ old ++ k ∷ [] → b ≡ a ++ i ∷ [] → c ≡ b ++ j ∷ [] → place ≡ k ∷ i ∷ j ∷ [] → c ≡ old ++ place
pushed_place old a b c place k i j e f g p =
    g ∙ ap (λ (xs : List ℕ). xs ++ j ∷ []) (f ∙ ap (λ (xs : List ℕ). xs ++ i ∷ []) e ∙ append_assoc old (k ∷ []) (i ∷ [])) ∙ append_assoc old (k ∷ i ∷ []) (j ∷ []) ∙ ap (λ (xs : List ℕ). old ++ xs) (sym p)

-- lists that are put together otherwise
in_front : (a b c x : List ℕ) → a ++ (b ++ (c ++ x)) ≡ (a ++ (b ++ c)) ++ x
in_front a b c x = ap (λ (xs : List ℕ). a ++ xs) (sym (append_assoc b c x)) ∙ sym (append_assoc a (b ++ c) x)

-- the entry at the end
places_last : (es : List Entry) (e : Entry) → places_along (es ++ e ∷ []) ≡ (places_along es ++ place_of e.left) ++ place_of e.right
places_last [] e = ap (λ (xs : List ℕ). place_of e.left ++ xs) (append-nil (place_of e.right))
places_last (x ∷ es) e =
    let a = place_of x.left in
    let b = place_of x.right in
    let c = places_along es in
    let l = place_of e.left in
    let r = place_of e.right in
    ap (λ (xs : List ℕ). a ++ (b ++ xs)) (places_last es e) ∙ in_front a b (c ++ l) r ∙ ap (λ (xs : List ℕ). xs ++ r) (in_front a b c l)

-- those of one entry more
pub places_more : (path more : List Entry) (e : Entry) (now a b : List ℕ) (l r : Position) → now ≡ places_along path → a ≡ now ++ place_of l → b ≡ a ++ place_of r → more ≡ path ++ e ∷ [] → l ≡ e.left → r ≡ e.right → b ≡ places_along more
places_more path more e now a b l r h f g m le re =
    g ∙ ap (λ (xs : List ℕ). xs ++ place_of r) (f ∙ ap (λ (xs : List ℕ). xs ++ place_of l) h)
    ∙ ap (λ (x : Position). (places_along path ++ place_of l) ++ place_of x) re
    ∙ ap (λ (x : Position). (places_along path ++ place_of x) ++ place_of e.right) le
    ∙ sym (places_last path e)
    ∙ ap places_along (sym m)

pub ruleset places_steps = (pushed_place, places_more)

-- ---- the paths that are kept

-- a later one at the end
increase_more : (xs : List (List ℕ)) (last next : List ℕ) → IncreaseTo xs last → slice_cmp nat_cmp last next ≡ Less → IncreaseTo (xs ++ next ∷ []) next
increase_more [] last next h l = refl
increase_more (x ∷ []) last next h l = (subst (λ (y : List ℕ). slice_cmp nat_cmp y next ≡ Less) (sym h) l, refl)
increase_more (x ∷ y ∷ ys) last next h l = (h.0, increase_more (y ∷ ys) last next h.1 l)

-- without the last one
increasing : (xs : List (List ℕ)) (last : List ℕ) → IncreaseTo xs last → AreIncreasing xs
increasing [] last h = tt
increasing (x ∷ []) last h = tt
increasing (x ∷ y ∷ ys) last h = (h.0, increasing (y ∷ ys) last h.1)

-- the numbers along one path more
all_places_more : (before after : List (List Entry)) (es : List Entry) (last places : List ℕ) → IncreaseTo (map places_along before) last → slice_cmp nat_cmp last places ≡ Less → places ≡ places_along es → after ≡ before ++ es ∷ [] → IncreaseTo (map places_along after) places
all_places_more before after es last places h l c e =
    let more = increase_more (map places_along before) last places h l in
    let same : map places_along after ≡ map places_along before ++ places ∷ [] = ap (map places_along) e ∙ map-append places_along before (es ∷ []) ∙ ap (λ (x : List ℕ). map places_along before ++ x ∷ []) (sym c) in
    subst (λ (xs : List (List ℕ)). IncreaseTo xs places) (sym same) more

-- what is kept of the paths, the ends, and the numbers along the last one
abbrev pub AreKeptSo : List (List Entry) → List (List Entry) → List ℕ → Type 0
AreKeptSo paths ended last = AllByRecursion IsPath paths × IncreaseTo (map places_along ended) last × (length ended ≤ 20000)

-- where nothing is found
pub nothing_kept : (paths ended : List (List Entry)) (last : List ℕ) → paths ≡ [] → ended ≡ [] → AreKeptSo paths ended last
nothing_kept paths ended last e f = subst (λ (xs : List (List Entry)). AreKeptSo xs ended last) (sym e) (subst (λ (ys : List (List Entry)). AreKeptSo [] ys last) (sym f) (tt, tt, omega arith))

-- that is nothing
pub nothing_is : (found : BrokenPathsOf) → found.paths ≡ [] → found.ended ≡ [] → found ≡ nothing_found
nothing_is found e f = λ i. record { paths = e i; ended = f i }

-- one broken path more, if there was memory
pub paths_kept : {T E : Type 0} (res : Result T E) (before after ended : List (List Entry)) (last : List ℕ) (es : List Entry) → OnOk res (after ≡ before ++ es ∷ []) → OnErr res (after ≡ before) → IsPath es → AreKeptSo before ended last → AreKeptSo after ended last
paths_kept (Ok x) before after ended last es e f p h = (subst (AllByRecursion IsPath) (sym e) (paths_more before es h.0 p), h.1, h.2)
paths_kept (Err x) before after ended last es e f p h = (subst (AllByRecursion IsPath) (sym f) h.0, h.1, h.2)

-- the same ends as before
pub ends_kept : (paths before after : List (List Entry)) (last : List ℕ) → after ≡ before → AreKeptSo paths before last → AreKeptSo paths after last
ends_kept paths before after last e h = subst (λ (xs : List (List Entry)). AreKeptSo paths xs last) (sym e) h

-- one more, if there are not too many
pub end_kept : (paths before after : List (List Entry)) (es : List Entry) (last places : List ℕ) → AreKeptSo paths before last → slice_cmp nat_cmp last places ≡ Less → places ≡ places_along es → after ≡ before ++ es ∷ [] → length after ≤ 20000 → AreKeptSo paths after places
end_kept paths before after es last places h l c e few = (h.0, all_places_more before after es last places h.1 l c e, few)

-- none, where all of them are handed out
pub no_ends_kept : (paths before after : List (List Entry)) (last next : List ℕ) → after ≡ [] → AreKeptSo paths before last → AreKeptSo paths after next
no_ends_kept paths before after last next e h = subst (λ (xs : List (List Entry)). AreKeptSo paths xs next) (sym e) (h.0, tt, omega arith)

-- no end more
pub ends_same : (Kind : List Entry → Type 0) (before after : List (List Entry)) → after ≡ before → EndsMore Kind before after
ends_same Kind before after e = inl e

-- the path to an end, at a point of its question
pub reached_at : (params : ℕ) (pair_path : List (Seat × Seat)) (c : Conj) (p : List ℤ) (es : List Entry) → (length p ≡ c.columns) × Meets c.rows p → es ≡ entries_at params p pair_path → IsPathAt params pair_path c es
reached_at params pair_path c p es there e = record { point = p; there = record { long = there.0; meets = there.1 }; are = e }

-- one end more
pub end_more : (Kind : List Entry → Type 0) (before now after : List (List Entry)) (es : List Entry) → Kind es → now ≡ before → after ≡ now ++ es ∷ [] → EndsMore Kind before after
end_more Kind before now after es k e f = inr (es, k, f ∙ ap (λ (xs : List (List Entry)). xs ++ es ∷ []) e)

-- more than the most
pub too_many : (Kind : List Entry → Type 0) (before now after found : List (List Entry)) (es : List Entry) (last places : List ℕ) → IncreaseTo (map places_along now) last → length now ≤ 20000 → slice_cmp nat_cmp last places ≡ Less → places ≡ places_along es → Kind es → now ≡ before
    → after ≡ now ++ es ∷ [] → found ≡ after → 20000 < length after → IsFull Kind before found
too_many Kind before now after found es last places h few l c k e f g many =
    let long = ap length f ∙ length-append now (es ∷ []) in
    let same : length found ≡ length after = ap length g in
    record {
      last = es;
      kind = k;
      is = g ∙ f ∙ ap (λ (xs : List (List Entry)). xs ++ es ∷ []) e;
      differ = subst (λ (xs : List (List Entry)). AreIncreasing (map places_along xs)) (sym g) (increasing (map places_along after) places (all_places_more now after es last places h l c f));
      count = omega (arith, few, many, long, same);
    }

pub ruleset keep_steps = (nothing_kept, nothing_is, paths_kept, ends_kept, no_ends_kept, ends_same)

-- ---- stops

-- the stop of a question
pub never_full : (stop : Stop) → IsNeverFull (stop_of stop)
never_full (decision.Overflow c) = tt
never_full (decision.Spent c k) = tt
never_full (decision.Memory want) = tt

-- a stop of no paths
pub never_by : (Kind : List Entry → Type 0) (before : List (List Entry)) (stop : UnfoldStop) → IsNeverFull stop → FullBy Kind before stop
never_by Kind before (Overflow q) h = tt
never_by Kind before (Spent q cost) h = tt
never_by Kind before (Paths found) h = absurd h
never_by Kind before (Memory want) h = tt

-- where the question is handed back
pub hands_by : (Kind : List Entry → Type 0) (before : List (List Entry)) (c : Conj) (Why : Type 0) (stop : UnfoldStop) → HandsBack c Why stop → FullBy Kind before stop
hands_by Kind before c Why (Overflow q) h = tt
hands_by Kind before c Why (Spent q cost) h = tt
hands_by Kind before c Why (Paths found) h = absurd h
hands_by Kind before c Why (Memory want) h = tt

-- where no end is reached
pub none_by : (Kind : List Entry → Type 0) (before now : List (List Entry)) (stop : UnfoldStop) → FullBy IsNone now stop → FullBy Kind before stop
none_by Kind before now (Overflow q) h = tt
none_by Kind before now (Spent q cost) h = tt
none_by Kind before now (Paths found) h = absurd h.kind
none_by Kind before now (Memory want) h = tt

-- too many paths are no question
pub counted_asking : (budget : ℕ) (c : Conj) (stop : UnfoldStop) → IsCounted stop → StopsAsking budget c stop
counted_asking budget c (Overflow q) h = absurd h
counted_asking budget c (Spent q cost) h = absurd h
counted_asking budget c (Paths found) h = tt
counted_asking budget c (Memory want) h = tt

-- nor one where rows have to stand
pub counted_standing : (budget : ℕ) (c : Conj) (rows : List Row) (stop : UnfoldStop) → IsCounted stop → StopsStanding budget c rows stop
counted_standing budget c rows (Overflow q) h = absurd h
counted_standing budget c rows (Spent q cost) h = absurd h
counted_standing budget c rows (Paths found) h = tt
counted_standing budget c rows (Memory want) h = tt
