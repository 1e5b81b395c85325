-- A question with some of its columns first: what is left on them is the relation.
use Rattle.std.proofs.Common.{◌≡◌, ℕ, zero, suc, ◌+◌, ◌<◌, ◌≤◌, ℤ, pos, Bool, true, false, cond, List, [], ◌∷◌, ◌++◌, length, Option, Some, None, refl, sym, ap, ◌∙◌, subst, arith, length-append, append_assoc}
use Rattle.std.specs.Prelude.{◌↔◌, nat_eq, option_map, slice_get, slice_index_or, unwrap_or}
use Rattle.std.specs.List.{range_with_len}
use Rattle.std.proofs.lemmas.Bool.{eqb-true}
use Rattle.ac_forms.specs.Renaming.{picked, AreColumns, AreDistinct, IsApartFrom}
use Rattle.ac_forms.specs.Rows.{Meets}
use Rattle.ac_forms.specs.declared.conj.Conj.{Conj}
use Rattle.ac_forms.specs.declared.row.Row.{Row}
use Rattle.ac_omega_steps.specs.IntegerPoints.{IsPoint}
use Rattle.ac_unfold_table.specs.ColumnProjection.{IsLeftOn}
use Rattle.ac_unfold_table.specs.QuestionRelations.{next_place, place_of, places_from, places_of}
use Rattle.ac_unfold_table.proofs.Lists.{get_below}
use Rattle.ac_unfold_table.proofs.Places.{is_eq, no_eq}

-- ---- lists

get_picked : (ks : List ℕ) (p ys : List ℤ) (i k : ℕ) → slice_get ks i ≡ Some k → slice_index_or (picked ks p ++ ys) i (pos 0) ≡ slice_index_or p k (pos 0)
get_picked [] p ys i k e = absurd cc
get_picked (j ∷ ks) p ys zero k e = let x : j ≡ k = cc in ap (λ z. slice_index_or p z (pos 0)) x
get_picked (j ∷ ks) p ys (suc i) k e = get_picked ks p ys i k e

get_only : (ks : List ℕ) (p : List ℤ) (i k : ℕ) → slice_get ks i ≡ Some k → slice_index_or (picked ks p) i (pos 0) ≡ slice_index_or p k (pos 0)
get_only [] p i k e = absurd cc
get_only (j ∷ ks) p zero k e = let x : j ≡ k = cc in ap (λ z. slice_index_or p z (pos 0)) x
get_only (j ∷ ks) p (suc i) k e = get_only ks p i k e

get_first : (x ys : List ℤ) (i : ℕ) → i < length x → slice_index_or (x ++ ys) i (pos 0) ≡ slice_index_or x i (pos 0)
get_first [] ys i l = absurd (omega (arith, l))
get_first (z ∷ x) ys zero l = refl
get_first (z ∷ x) ys (suc i) l = get_first x ys i (omega (arith, l))

get_behind : (xs ys : List ℤ) (z : ℤ) (zs : List ℤ) (n : ℕ) → n ≡ length xs + length ys → slice_index_or (xs ++ (ys ++ z ∷ zs)) n (pos 0) ≡ z
get_behind [] [] z zs zero e = refl
get_behind [] [] z zs (suc n) e = absurd (omega (arith, e))
get_behind [] (y ∷ ys) z zs zero e = absurd (omega (arith, e))
get_behind [] (y ∷ ys) z zs (suc n) e = get_behind [] ys z zs n (omega (arith, e))
get_behind (x ∷ xs) ys z zs zero e = absurd (omega (arith, e))
get_behind (x ∷ xs) ys z zs (suc n) e = get_behind xs ys z zs n (omega (arith, e))

count_picked : (ks : List ℕ) (p : List ℤ) → length (picked ks p) ≡ length ks
count_picked [] p = refl
count_picked (k ∷ ks) p = ap suc (count_picked ks p)

picked_both : (ks js : List ℕ) (p : List ℤ) → picked (ks ++ js) p ≡ picked ks p ++ picked js p
picked_both [] js p = refl
picked_both (k ∷ ks) js p = ap (λ zs. slice_index_or p k (pos 0) ∷ zs) (picked_both ks js p)

get_range : (n a k : ℕ) → k < n → slice_get (range_with_len a n) k ≡ Some (a + k)
get_range zero a k l = absurd (omega (arith, l))
get_range (suc n) a zero l = ap Some (omega arith)
get_range (suc n) a (suc k) l = let e : a + 1 + k ≡ a + suc k = omega arith in get_range n (a + 1) k (omega (arith, l)) ∙ ap Some e

range_at : (n a i k : ℕ) → slice_get (range_with_len a n) i ≡ Some k → k ≡ a + i
range_at zero a i k e = absurd cc
range_at (suc n) a zero k e = let x : a ≡ k = cc in omega (arith, x)
range_at (suc n) a (suc i) k e = let x = range_at n (a + 1) i k e in omega (arith, x)

count_range : (n a : ℕ) → length (range_with_len a n) ≡ n
count_range zero a = refl
count_range (suc n) a = ap suc (count_range n (a + 1))

-- a list is told by its numbers
told : (ks : List ℕ) (p x : List ℤ) → length x ≡ length ks → ((i k : ℕ) → slice_get ks i ≡ Some k → slice_index_or p k (pos 0) ≡ slice_index_or x i (pos 0)) → picked ks p ≡ x
told [] p [] e h = refl
told [] p (y ∷ x) e h = absurd (omega (arith, e))
told (k ∷ ks) p [] e h = absurd (omega (arith, e))
told (k ∷ ks) p (y ∷ x) e h =
    let tail : picked ks p ≡ x = told ks p x (omega (arith, e)) (λ i j g. h (suc i) j g) in
    let head : slice_index_or p k (pos 0) ≡ y = h 0 k refl in
    ap (λ z. z ∷ picked ks p) head ∙ ap (λ zs. y ∷ zs) tail

-- ---- places

place_is : (own : List ℕ) (c at : ℕ) → place_of own c ≡ Some at → slice_get own at ≡ Some c
place_is [] c at e = absurd cc
place_is (k ∷ ks) c at e = by (nat_eq k c) refl (λ j f. place_is ks c j f) e
  where
    behind : (o : Option ℕ) → place_of ks c ≡ o → ((j : ℕ) → place_of ks c ≡ Some j → slice_get ks j ≡ Some c) → option_map suc o ≡ Some at → slice_get (k ∷ ks) at ≡ Some c
    behind None f next g = absurd cc
    behind (Some j) f next g = let i : suc j ≡ at = cc in subst (λ z. slice_get (k ∷ ks) z ≡ Some c) i (next j f)

    by : (b : Bool) → nat_eq k c ≡ b → ((j : ℕ) → place_of ks c ≡ Some j → slice_get ks j ≡ Some c) → cond b (Some 0) (option_map suc (place_of ks c)) ≡ Some at → slice_get (k ∷ ks) at ≡ Some c
    by true f next g = let i : 0 ≡ at = cc in subst (λ z. slice_get (k ∷ ks) z ≡ Some c) i (ap Some (eqb-true k c f))
    by false f next g = behind (place_of ks c) refl next g

apart_from : (k c i : ℕ) (ks : List ℕ) → IsApartFrom k ks → slice_get ks i ≡ Some c → ¬ (k ≡ c)
apart_from k c i [] h e = absurd cc
apart_from k c zero (j ∷ ks) h e = λ x. h.0 (let y : j ≡ c = cc in x ∙ sym y)
apart_from k c (suc i) (j ∷ ks) h e = apart_from k c i ks h.1 e

place_at : (own : List ℕ) (c i : ℕ) → AreDistinct own → slice_get own i ≡ Some c → place_of own c ≡ Some i
place_at [] c i h e = absurd cc
place_at (k ∷ ks) c zero h e =
    let x : k ≡ c = cc in
    rw (is_eq k c x) refl
place_at (k ∷ ks) c (suc i) h e = rw (no_eq k c (apart_from k c i ks h.0 e), place_at ks c i h.1 e) refl

place_none : (ks : List ℕ) (k : ℕ) → IsApartFrom k ks → place_of ks k ≡ None
place_none [] k h = refl
place_none (j ∷ ks) k h = rw (no_eq j k (λ e. h.0 (sym e)), place_none ks k h.1) refl

-- ---- the other columns

abbrev pub others_by : Option ℕ → ℕ → List ℕ → List ℕ
others_by (Some at) c cs = cs
others_by None c cs = c ∷ cs

abbrev pub others : List ℕ → List ℕ → List ℕ
others own [] = []
others own (c ∷ cs) = others_by (place_of own c) c (others own cs)

-- with the numbers of the first columns before those of the others each column finds its own again
picks_back : (own : List ℕ) (p : List ℤ) (before cs : List ℕ) → picked (places_from own (length own + length before) cs) (picked own p ++ (picked before p ++ picked (others own cs) p)) ≡ picked cs p
picks_back own p before [] = refl
picks_back own p before (c ∷ cs) = by (place_of own c) refl (picks_back own p before cs) (picks_back own p (before ++ c ∷ []) cs)
  where
    by : (o : Option ℕ) → place_of own c ≡ o → picked (places_from own (length own + length before) cs) (picked own p ++ (picked before p ++ picked (others own cs) p)) ≡ picked cs p
        → picked (places_from own (length own + length (before ++ c ∷ [])) cs) (picked own p ++ (picked (before ++ c ∷ []) p ++ picked (others own cs) p)) ≡ picked cs p → picked (unwrap_or o (length own + length before) ∷ places_from own (next_place o (length own + length before)) cs) (picked own p ++ (picked before p ++ picked (others_by o c (others own cs)) p)) ≡ picked (c ∷ cs) p
    by (Some at) e rest next =
        let head = get_picked own p (picked before p ++ picked (others own cs) p) at c (place_is own c at e) in
        ap (λ z. z ∷ picked (places_from own (length own + length before) cs) (picked own p ++ (picked before p ++ picked (others own cs) p))) head ∙ ap (λ zs. slice_index_or p c (pos 0) ∷ zs) rest
    by None e skip next =
        let n = length own + length before in
        let tail = picked (others own cs) p in
        let whole = picked own p ++ (picked before p ++ slice_index_or p c (pos 0) ∷ tail) in
        let long : n ≡ length (picked own p) + length (picked before p) = rw (count_picked own p, count_picked before p) refl in
        let head : slice_index_or whole n (pos 0) ≡ slice_index_or p c (pos 0) = get_behind (picked own p) (picked before p) (slice_index_or p c (pos 0)) tail n long in
        let more : length own + length (before ++ c ∷ []) ≡ n + 1 = (let l = length-append before (c ∷ []) in omega (arith, l)) in
        let same : picked own p ++ (picked (before ++ c ∷ []) p ++ tail) ≡ whole = ap (λ zs. picked own p ++ zs) (ap (λ zs. zs ++ tail) (picked_both before (c ∷ []) p) ∙ append_assoc (picked before p) (slice_index_or p c (pos 0) ∷ []) tail) in
        let rest : picked (places_from own (n + 1) cs) whole ≡ picked cs p =
        subst (λ zs. picked (places_from own (n + 1) cs) zs ≡ picked cs p) same (subst (λ m. picked (places_from own m cs) (picked own p ++ (picked (before ++ c ∷ []) p ++ tail)) ≡ picked cs p) more next) in
        ap (λ z. z ∷ picked (places_from own (n + 1) cs) whole) head ∙ ap (λ zs. slice_index_or p c (pos 0) ∷ zs) rest

-- ---- how many they are

some_same : (k a : ℕ) (ks : List ℕ) → ¬ (k ≡ a) → place_of (k ∷ ks) a ≡ option_map suc (place_of ks a)
some_same k a ks h = rw (no_eq k a h) refl

by_map : (o : Option ℕ) (a : ℕ) (xs ys : List ℕ) (d : ℕ) → length xs + d ≡ length ys → length (others_by (option_map suc o) a xs) + d ≡ length (others_by o a ys)
by_map None a xs ys d e = omega (arith, e)
by_map (Some at) a xs ys d e = e

-- a column before a range takes none of it away
takes_none : (k : ℕ) (ks : List ℕ) (n a : ℕ) → k < a → length (others (k ∷ ks) (range_with_len a n)) + 0 ≡ length (others ks (range_with_len a n))
takes_none k ks zero a l = refl
takes_none k ks (suc n) a l =
    let differs : ¬ (k ≡ a) = λ e. omega (arith, e, l) in
    let r = range_with_len (a + 1) n in
    let next = takes_none k ks n (a + 1) (omega (arith, l)) in
    subst (λ o. length (others_by o a (others (k ∷ ks) r)) + 0 ≡ length (others_by (place_of ks a) a (others ks r))) (sym (some_same k a ks differs)) (by_map (place_of ks a) a (others (k ∷ ks) r) (others ks r) 0 next)

-- one of it takes itself away
takes_one : (k : ℕ) (ks : List ℕ) (n a : ℕ) → IsApartFrom k ks → a ≤ k → k < a + n → length (others (k ∷ ks) (range_with_len a n)) + 1 ≡ length (others ks (range_with_len a n))
takes_one k ks zero a h l m = absurd (omega (arith, l, m))
takes_one k ks (suc n) a h l m = by (nat_eq k a) refl (λ up. takes_one k ks n (a + 1) h up (omega (arith, m)))
  where
    here : k ≡ a → length (others (k ∷ ks) (range_with_len a (suc n))) + 1 ≡ length (others ks (range_with_len a (suc n)))
    here e =
        let r = range_with_len (a + 1) n in
        let first : place_of (k ∷ ks) a ≡ Some 0 = rw (is_eq k a e) refl in
        let none : place_of ks a ≡ None = subst (λ z. place_of ks z ≡ None) e (place_none ks k h) in
        let next = takes_none k ks n (a + 1) (omega (arith, e)) in
        subst (λ o. length (others_by o a (others (k ∷ ks) r)) + 1 ≡ length (others_by (place_of ks a) a (others ks r))) (sym first)
        (subst (λ o. length (others (k ∷ ks) r) + 1 ≡ length (others_by o a (others ks r))) (sym none) (omega (arith, next)))

    by : (b : Bool) → nat_eq k a ≡ b → (a + 1 ≤ k → length (others (k ∷ ks) (range_with_len (a + 1) n)) + 1 ≡ length (others ks (range_with_len (a + 1) n))) → length (others (k ∷ ks) (range_with_len a (suc n))) + 1 ≡ length (others ks (range_with_len a (suc n)))
    by true e more = here (eqb-true k a e)
    by false e more =
        let differs : ¬ (k ≡ a) = λ x. (let z : true ≡ false = sym (is_eq k a x) ∙ e in absurd cc) in
        let r = range_with_len (a + 1) n in
        let next = more (omega (arith, l, differs)) in
        subst (λ o. length (others_by o a (others (k ∷ ks) r)) + 1 ≡ length (others_by (place_of ks a) a (others ks r))) (sym (some_same k a ks differs)) (by_map (place_of ks a) a (others (k ∷ ks) r) (others ks r) 1 next)

others_none : (cs : List ℕ) → others [] cs ≡ cs
others_none [] = refl
others_none (c ∷ cs) = ap (λ zs. c ∷ zs) (others_none cs)

pub counted : (own : List ℕ) (n : ℕ) → AreColumns n own → AreDistinct own → length own + length (others own (range_with_len 0 n)) ≡ n
counted [] n h d = let e : length (others [] (range_with_len 0 n)) ≡ n = ap length (others_none (range_with_len 0 n)) ∙ count_range n 0 in omega (arith, e)
counted (k ∷ ks) n h d =
    let next = counted ks n h.1 d.1 in
    let one = takes_one k ks n 0 d.0 (omega arith) (omega (arith, h.0)) in
    omega (arith, next, one)

pub fits_first : (own : List ℕ) (n : ℕ) → AreColumns n own → AreDistinct own → length own ≤ n
fits_first own n h d = let e = counted own n h d in omega (arith, e)

-- ---- there and back

places_count : (own : List ℕ) (f : ℕ) (cs : List ℕ) → length (places_from own f cs) ≡ length cs
places_count own f [] = refl
places_count own f (c ∷ cs) = ap suc (places_count own (next_place (place_of own c) f) cs)

places_get : (own : List ℕ) (f : ℕ) (cs : List ℕ) (j c i : ℕ) → slice_get cs j ≡ Some c → place_of own c ≡ Some i → slice_get (places_from own f cs) j ≡ Some i
places_get own f [] j c i e h = absurd cc
places_get own f (a ∷ cs) zero c i e h =
    let x : c ≡ a = cc in
    let g : place_of own a ≡ Some i = subst (λ z. place_of own z ≡ Some i) x h in
    ap (λ o. Some (unwrap_or o f)) g
places_get own f (a ∷ cs) (suc j) c i e h = places_get own (next_place (place_of own a) f) cs j c i e h

column_in : (own : List ℕ) (n i k : ℕ) → AreColumns n own → slice_get own i ≡ Some k → k < n
column_in [] n i k h e = absurd cc
column_in (a ∷ own) n zero k h e = let x : a ≡ k = cc in subst (λ z. z < n) x h.0
column_in (a ∷ own) n (suc i) k h e = column_in own n i k h.1 e

-- a point, with the first columns' numbers and then the others'
abbrev pub spread : List ℕ → ℕ → List ℤ → List ℤ
spread own n p = picked (others own (range_with_len 0 n)) p

whole_range : (n : ℕ) (p : List ℤ) → length p ≡ n → picked (range_with_len 0 n) p ≡ p
whole_range n p e = told (range_with_len 0 n) p p (e ∙ sym (count_range n 0)) (λ i k g. ap (λ z. slice_index_or p z (pos 0)) (let x = range_at n 0 i k g in omega (arith, x)))

pub spreads : (own : List ℕ) (n : ℕ) (p : List ℤ) → length p ≡ n → picked (places_of own n) (picked own p ++ spread own n p) ≡ p
spreads own n p e =
    let back = picks_back own p [] (range_with_len 0 n) in
    let z : length own + 0 ≡ length own = omega arith in
    subst (λ m. picked (places_from own m (range_with_len 0 n)) (picked own p ++ picked (others own (range_with_len 0 n)) p) ≡ picked (range_with_len 0 n) p) z back ∙ whole_range n p e

pub spread_long : (own : List ℕ) (n : ℕ) (p : List ℤ) → AreColumns n own → AreDistinct own → length (picked own p ++ spread own n p) ≡ n
spread_long own n p h d = length-append (picked own p) (picked (others own (range_with_len 0 n)) p) ∙ (let a = count_picked own p in let b = count_picked (others own (range_with_len 0 n)) p in let c = counted own n h d in omega (arith, a, b, c))

pub gathers : (own : List ℕ) (n : ℕ) (x more : List ℤ) → AreColumns n own → AreDistinct own → length x ≡ length own → picked own (picked (places_of own n) (x ++ more)) ≡ x
gathers own n x more h d e = told own (picked (places_of own n) (x ++ more)) x e (λ i k g.
    let there = column_in own n i k h g in
    let at : slice_get (places_of own n) k ≡ Some i = places_get own (length own) (range_with_len 0 n) k k i (get_range n 0 k there ∙ ap Some (omega arith)) (place_at own k i d g) in
    get_only (places_of own n) (x ++ more) k i at ∙ get_first x more i (let b = get_below own i k g in omega (arith, b, e)))

pub gathered_long : (own : List ℕ) (n : ℕ) (e : List ℤ) → length (picked (places_of own n) e) ≡ n
gathered_long own n e = count_picked (places_of own n) e ∙ places_count own (length own) (range_with_len 0 n) ∙ count_range n 0

-- ---- relations

-- a point of the question meets what is left on its first columns
pub left_each : (own : List ℕ) (c d : Conj) (rows : List Row) → AreColumns c.columns own → AreDistinct own → d.columns ≡ c.columns → ((p : List ℤ) → Meets d.rows p ↔ Meets c.rows (picked (places_of own c.columns) p)) → IsLeftOn (length own) d rows
    → (p : List ℤ) → IsPoint c p → Meets rows (picked own p)
left_each own c d rows there distinct same moved left p at =
    let more = spread own c.columns p in
    let whole = picked own p ++ more in
    let back : picked (places_of own c.columns) whole ≡ p = spreads own c.columns p at.long in
    let meets : Meets d.rows whole = (moved whole).1 (subst (Meets c.rows) (sym back) at.meets) in
    (left.points (picked own p) (count_picked own p)).0 (more, spread_long own c.columns p there distinct ∙ sym same, meets)

-- and each point that meets it is so from one of the question
pub left_only : (own : List ℕ) (c d : Conj) (rows : List Row) → AreColumns c.columns own → AreDistinct own → d.columns ≡ c.columns → ((p : List ℤ) → Meets d.rows p ↔ Meets c.rows (picked (places_of own c.columns) p)) → IsLeftOn (length own) d rows
    → (x : List ℤ) → length x ≡ length own → Meets rows x → (p : List ℤ) × IsPoint c p × (picked own p ≡ x)
left_only own c d rows there distinct same moved left x long meets =
    let h = (left.points x long).1 meets in
    let whole = x ++ h.0 in
    (picked (places_of own c.columns) whole, record { long = gathered_long own c.columns whole; meets = (moved whole).0 h.2 }, gathers own c.columns x h.0 there distinct long)
