-- The loops by which a conjunction is cut.
use Rattle.std.proofs.Common.{◌≡◌, ◌⊎◌, inl, inr, ℕ, zero, suc, ◌+◌, ◌<◌, ◌≤◌, List, [], ◌∷◌, ◌++◌, append_assoc, append-nil, length, map, take, drop, drop_of_length-le, get_or, Bool, true, false, cond, refl, sym, ap, ◌∙◌, subst, arith}
use Rattle.std.specs.List.{Contains}
use Rattle.std.proofs.lemmas.List.{drop_more, length-append, take_more, take-append-drop}
use Rattle.std.proofs.lemmas.List.Elements.{Contains-append_left, Contains-append_right}
use Rattle.ac_forms.specs.Negation.{negation}
use Rattle.ac_forms.specs.Rows.{IsRowOver, AreRowsOver, IsWellMade}
use Rattle.ac_forms.specs.declared.conj.Conj.{Conj}
use Rattle.ac_forms.specs.declared.row.Row.{Row}
use Rattle.ac_forms.specs.declared.row.Row.TheVariants.{Eq, Div, Ge}
use Rattle.ac_omega_steps.proofs.Keeping.{made-push}
use Rattle.ac_forms.specs.Standing.{is_among}
use Rattle.ac_sets.specs.Unions.{ArePieces}
use Rattle.ac_sets.proofs.Commons.{Over-more}
use Rattle.ac_sets.proofs.Outsides.{outside-made, row-at}
use Rattle.ac_flow.specs.CutStops.{IsTooWide, CostsTooMuch, LacksNegation, RowStops, OutsideStops}
use Rattle.ac_flow.specs.declared.cut.CutStop.{CutStop}
use Rattle.ac_flow.specs.declared.cut.CutStop.TheVariants.{Overflow, Spent, Full, Memory}
use Rattle.ac_flow.specs.Cuts.{with_new, with_all_new, inside, extended, row_parts, after_row, parts_outside, HasPoint, Sieved, AreKept, ArePartlyKept, Cuts, AreCut, IsPartlyCut, CutsAll, AreAllCut, ArePartlyCut, AllHavePoints}

pub take_whole : {A : Type 0} (xs : List A) (i : ℕ) → length xs ≤ i → take i xs ≡ xs
take_whole [] zero l = refl
take_whole [] (suc i) l = refl
take_whole (x ∷ xs) zero l = absurd (omega (arith, l))
take_whole (x ∷ xs) (suc i) l = ap (λ ys. x ∷ ys) (take_whole xs i (omega (arith, l)))

-- ---- rows added where they do not stand

pub record NewHalfway (old now more : List Row) (i : ℕ) : Type 0 where
  pub made : with_all_new now (drop i more) ≡ with_all_new old more

pub new_start : (old now more : List Row) → now ≡ old → NewHalfway old now more 0
new_start old now more e = record { made = ap (λ (rs : List Row). with_all_new rs more) e }

pub new_step : (old now next more : List Row) (i : ℕ) (r : Row) → NewHalfway old now more i → i < length more → r ≡ get_or more i r → next ≡ with_new now r → NewHalfway old next more (i + 1)
new_step old now next more i r h m e put =
    record { made = ap (λ (rs : List Row). with_all_new rs (drop (i + 1) more)) put ∙ ap (with_all_new now) (sym (row-at more i r m e)) ∙ h.made }

pub new_end : (old now more : List Row) (i : ℕ) → NewHalfway old now more i → length more ≤ i → now ≡ with_all_new old more
new_end old now more i h l = sym (ap (with_all_new now) (drop_of_length-le more l)) ∙ h.made

pub ruleset new_steps = (new_start, new_step, new_end)

-- ---- parts that are kept

sieved-append : (xs ys ks ls : List Conj) → Sieved xs ks → Sieved ys ls → Sieved (xs ++ ys) (ks ++ ls)
sieved-append [] ys ks ls a b = subst (λ (zs : List Conj). Sieved ys (zs ++ ls)) (sym a) b
sieved-append (x ∷ xs) ys ks ls (inl (empty, a)) b = inl (empty, sieved-append xs ys ks ls a b)
sieved-append (x ∷ xs) ys ks ls (inr (rest, e, has, a)) b = inr (rest ++ ls, ap (λ (zs : List Conj). zs ++ ls) e, has, sieved-append xs ys rest ls a b)

pub kept-append : (xs ys old mid new : List Conj) → AreKept xs old mid → AreKept ys mid new → AreKept (xs ++ ys) old new
kept-append xs ys old mid new a b = record {
  more = a.more ++ b.more;
  is = b.is ∙ ap (λ (zs : List Conj). zs ++ b.more) a.is ∙ append_assoc old a.more b.more;
  sieved = sieved-append xs ys a.more b.more a.sieved b.sieved;
}

pub kept-none : (old new : List Conj) → new ≡ old → AreKept [] old new
kept-none old new e = record { more = []; is = e ∙ sym (append-nil old); sieved = refl }

pub have-push : (old new : List Conj) (part : Conj) → new ≡ old ++ part ∷ [] → HasPoint part → AllHavePoints old → AllHavePoints new
have-push old new part e h a = subst AllHavePoints (sym e) (by old a)
  where
    by : (cs : List Conj) → AllHavePoints cs → AllHavePoints (cs ++ part ∷ [])
    by [] b = (h, tt)
    by (c ∷ cs) b = (b.0, by cs b.1)

pub have-same : (old new : List Conj) → new ≡ old → AllHavePoints old → AllHavePoints new
have-same old new e a = subst AllHavePoints (sym e) a

pub one-more : (old new : List Conj) (part : Conj) (room : ℕ) → new ≡ old ++ part ∷ [] → length old ≤ room → room < length new → length new ≡ room + 1
one-more old new part room e l m = omega (arith, l, m, ap (λ (x : List Conj). length x) e, length-append old (part ∷ []))

pub ruleset push_steps = (have-push, have-same, one-more)

pub kept-one : (part : Conj) (old new : List Conj) → HasPoint part → new ≡ old ++ part ∷ [] → AreKept (part ∷ []) old new
kept-one part old new h e = record { more = part ∷ []; is = e; sieved = inr ([], refl, h, refl) }

pub kept-empty : (part : Conj) (old new : List Conj) → (HasPoint part → ⊥) → new ≡ old → AreKept (part ∷ []) old new
kept-empty part old new empty e = record { more = []; is = e ∙ sym (append-nil old); sieved = inl (empty, refl) }

pub ruleset keep_steps = (kept-one, kept-empty, have-push, have-same)

-- some parts kept, and then some of the next ones
pub partly-behind : (xs ys zs old mid new : List Conj) → AreKept xs old mid → ArePartlyKept ys mid new → ArePartlyKept (xs ++ (ys ++ zs)) old new
partly-behind xs ys zs old mid new a b = record {
  done = xs ++ b.done;
  rest = b.rest ++ zs;
  split = append_assoc xs b.done (b.rest ++ zs) ∙ ap (λ (r : List Conj). xs ++ r) (sym (append_assoc b.done b.rest zs) ∙ ap (λ (r : List Conj). r ++ zs) b.split);
  kept = kept-append xs b.done old mid new a b.kept;
}

pub partly-whole : (ys mid new : List Conj) → AreKept ys mid new → ArePartlyKept ys mid new
partly-whole ys mid new k = record { done = ys; rest = []; split = append-nil ys; kept = k }

-- ---- well made

pub over-new : (n : ℕ) (rows : List Row) (r : Row) → AreRowsOver n rows → IsRowOver n r → AreRowsOver n (with_new rows r)
over-new n rows r w v = by (is_among r rows)
  where
    by : (b : Bool) → AreRowsOver n (cond b rows (rows ++ r ∷ []))
    by true = w
    by false = made-push n rows r w v

pub over-all-new : (n : ℕ) (rows more : List Row) → AreRowsOver n rows → AreRowsOver n more → AreRowsOver n (with_all_new rows more)
over-all-new n rows [] w v = w
over-all-new n rows (r ∷ rs) w v = over-all-new n (with_new rows r) rs (over-new n rows r w v.0) v.1

pub negation-made : (n : ℕ) (r : Row) → IsRowOver n r → ArePieces n (negation n r)
negation-made n (Eq f) w = outside-made (record { columns = n; rows = [] }) (Eq f ∷ []) tt (w, tt)
negation-made n (Div m f) w = outside-made (record { columns = n; rows = [] }) (Div m f ∷ []) tt (w, tt)
negation-made n (Ge f) w = outside-made (record { columns = n; rows = [] }) (Ge f ∷ []) tt (w, tt)

pieces-at : (n : ℕ) (cs : List Conj) (i : ℕ) (c : Conj) → ArePieces n cs → i < length cs → c ≡ get_or cs i c → (n ≤ c.columns) × IsWellMade c
pieces-at n [] i c w m e = absurd (omega (arith, m))
pieces-at n (d ∷ cs) zero c w m e = rw e (w.0, w.1)
pieces-at n (d ∷ cs) (suc i) c w m e = pieces-at n cs i c w.2 (omega (arith, m)) e

-- a part of a negation behind a conjunction's rows
pub part-made : (c : Conj) (r : Row) (parts : List Conj) (i : ℕ) (d part : Conj) → IsWellMade c → IsRowOver c.columns r → parts ≡ negation c.columns r → i < length parts → d ≡ get_or parts i d
    → part ≡ record { columns = d.columns; rows = with_all_new c.rows d.rows } → IsWellMade part
part-made c r parts i d part w v all m e is =
    let made = pieces-at c.columns parts i d (subst (ArePieces c.columns) (sym all) (negation-made c.columns r v)) m e in
    subst IsWellMade (sym is) (over-all-new d.columns c.rows d.rows (Over-more c.columns d.columns c.rows made.0 w) made.1)

-- ---- the parts of a row's negation

pub record FailingHalfway (c : Conj) (parts : List Conj) (room : ℕ) (old kept : List Conj) (i : ℕ) : Type 0 where
  pub done : AreKept (map (extended c) (take i parts)) old kept
  pub within : length old ≤ room → length kept ≤ room

pub same-fits : (room : ℕ) (old kept : List Conj) → kept ≡ old → length old ≤ room → length kept ≤ room
same-fits room old kept e l = subst (λ (x : List Conj). length x ≤ room) (sym e) l

pub none-fits : (room : ℕ) (kept : List Conj) → kept ≡ [] → length kept ≤ room
none-fits room kept e = same-fits room [] kept e (omega arith)

pub failing_start : (c : Conj) (parts : List Conj) (room : ℕ) (old kept : List Conj) → kept ≡ old → FailingHalfway c parts room old kept 0
failing_start c parts room old kept e = record { done = kept-none old kept e; within = same-fits room old kept e }

map-append : {A B : Type 0} (f : A → B) (xs ys : List A) → map f (xs ++ ys) ≡ map f xs ++ map f ys
map-append f [] ys = refl
map-append f (x ∷ xs) ys = ap (λ zs. f x ∷ zs) (map-append f xs ys)

failing-more : (c : Conj) (parts : List Conj) (room : ℕ) (old kept new : List Conj) (i : ℕ) (d part : Conj) → FailingHalfway c parts room old kept i → i < length parts → d ≡ get_or parts i d → part ≡ record { columns = d.columns; rows = with_all_new c.rows d.rows }
    → AreKept (part ∷ []) kept new → AreKept (map (extended c) (take (i + 1) parts)) old new
failing-more c parts room old kept new i d part h m e is k =
    let next : take (i + 1) parts ≡ take i parts ++ d ∷ [] = rw e (take_more parts i d m) in
    let mapped : map (extended c) (take i parts) ++ part ∷ [] ≡ map (extended c) (take (i + 1) parts) =
    ap (λ (x : Conj). map (extended c) (take i parts) ++ x ∷ []) is ∙ sym (map-append (extended c) (take i parts) (d ∷ [])) ∙ ap (map (extended c)) (sym next) in
    subst (λ (xs : List Conj). AreKept xs old new) mapped (kept-append (map (extended c) (take i parts)) (part ∷ []) old kept new h.done k)

pub failing_step : (c : Conj) (parts : List Conj) (room : ℕ) (old kept new : List Conj) (i : ℕ) (d part : Conj) → FailingHalfway c parts room old kept i → i < length parts → d ≡ get_or parts i d → part ≡ record { columns = d.columns; rows = with_all_new c.rows d.rows }
    → AreKept (part ∷ []) kept new → (length kept ≤ room → length new ≤ room) → FailingHalfway c parts room old new (i + 1)
failing_step c parts room old kept new i d part h m e is k w = record { done = failing-more c parts room old kept new i d part h m e is k; within = λ l. w (h.within l) }

pub failing_full : (c : Conj) (parts : List Conj) (room : ℕ) (old kept new : List Conj) (i : ℕ) (d part : Conj) (r : Row) → FailingHalfway c parts room old kept i → i < length parts → d ≡ get_or parts i d → part ≡ record { columns = d.columns; rows = with_all_new c.rows d.rows }
    → AreKept (part ∷ []) kept new → parts ≡ negation c.columns r → ArePartlyKept (map (extended c) (negation c.columns r)) old new
failing_full c parts room old kept new i d part r h m e is k all =
    subst (λ (xs : List Conj). ArePartlyKept (map (extended c) xs) old new) all (record {
      done = map (extended c) (take (i + 1) parts);
      rest = map (extended c) (drop (i + 1) parts);
      split = sym (map-append (extended c) (take (i + 1) parts) (drop (i + 1) parts)) ∙ ap (map (extended c)) (take-append-drop (i + 1) parts);
      kept = failing-more c parts room old kept new i d part h m e is k;
    })

pub failing_end : (c : Conj) (parts : List Conj) (room : ℕ) (old kept : List Conj) (r : Row) (i : ℕ) → FailingHalfway c parts room old kept i → length parts ≤ i → parts ≡ negation c.columns r → AreKept (map (extended c) (negation c.columns r)) old kept
failing_end c parts room old kept r i h l e =
    subst (λ (xs : List Conj). AreKept (map (extended c) xs) old kept) (take_whole parts i l ∙ e) h.done

pub ruleset failing_steps = (failing_start, failing_step, failing_end, part-made)

-- ---- one row

pub row_among : (c : Conj) (r : Row) (old new : List Conj) → is_among r c.rows ≡ true → new ≡ old → AreKept (row_parts c r) old new
row_among c r old new e same = subst (λ (b : Bool). AreKept (cond b [] (map (extended c) (negation c.columns r))) old new) (sym e) (kept-none old new same)

pub row_new : (c : Conj) (r : Row) (old new : List Conj) → is_among r c.rows ≡ false → AreKept (map (extended c) (negation c.columns r)) old new → AreKept (row_parts c r) old new
row_new c r old new e k = subst (λ (b : Bool). AreKept (cond b [] (map (extended c) (negation c.columns r))) old new) (sym e) k

pub row_partly : (c : Conj) (r : Row) (old new : List Conj) → is_among r c.rows ≡ false → ArePartlyKept (map (extended c) (negation c.columns r)) old new → ArePartlyKept (row_parts c r) old new
row_partly c r old new e k = subst (λ (b : Bool). ArePartlyKept (cond b [] (map (extended c) (negation c.columns r))) old new) (sym e) k

pub after_among : (c : Conj) (r : Row) → is_among r c.rows ≡ true → c ≡ after_row c r
after_among c r e = λ i. record { columns = c.columns; rows = cond (sym e i) c.rows (c.rows ++ r ∷ []) }

pub after_new : (c : Conj) (r : Row) (n : ℕ) (rows : List Row) → is_among r c.rows ≡ false → n ≡ c.columns → rows ≡ c.rows ++ r ∷ [] → record { columns = n; rows = rows } ≡ after_row c r
after_new c r n rows e l k = λ i. record { columns = l i; rows = (k ∙ (λ j. cond (sym e j) c.rows (c.rows ++ r ∷ []))) i }

pub ruleset row_steps = (row_among, row_new, row_partly, after_among, after_new)

-- ---- all rows

pub record OutsideHalfway (c : Conj) (rs : List Row) (room : ℕ) (here : Conj) (old kept : List Conj) (i : ℕ) : Type 0 where
  pub parts : List Conj
  pub split : parts ++ parts_outside here (drop i rs) ≡ parts_outside c rs
  pub done : AreKept parts old kept
  pub columns : here.columns ≡ c.columns
  pub made : IsWellMade here
  pub within : length old ≤ room → length kept ≤ room
  pub whole : here ≡ inside c (take i rs)

pub outside_start : (c : Conj) (rs : List Row) (room : ℕ) (here : Conj) (old kept : List Conj) → IsWellMade c → here ≡ c → kept ≡ old → OutsideHalfway c rs room here old kept 0
outside_start c rs room here old kept w e k = record {
  parts = [];
  split = ap (λ (d : Conj). parts_outside d rs) e;
  done = kept-none old kept k;
  columns = ap (λ (d : Conj). d.columns) e;
  made = subst IsWellMade (sym e) w;
  within = same-fits room old kept k;
  whole = e;
}

new-snoc : (rows rs : List Row) (r : Row) → with_new (with_all_new rows rs) r ≡ with_all_new rows (rs ++ r ∷ [])
new-snoc rows [] r = refl
new-snoc rows (s ∷ rs) r = new-snoc (with_new rows s) rs r

-- with one row of a kill piece more
inside-snoc : (c : Conj) (rs : List Row) (here next : Conj) (i : ℕ) (r : Row) → here ≡ inside c (take i rs) → i < length rs → r ≡ get_or rs i r → next ≡ after_row here r → next ≡ inside c (take (i + 1) rs)
inside-snoc c rs here next i r h m e after =
    let more : take (i + 1) rs ≡ take i rs ++ r ∷ [] = rw e (take_more rs i r m) in
    after ∙ ap (λ (d : Conj). after_row d r) h ∙ ap (λ (xs : List Row). record { columns = c.columns; rows = xs }) (new-snoc c.rows (take i rs) r) ∙ ap (inside c) (sym more)

pub row-over : (n : ℕ) (rs : List Row) (i : ℕ) (r : Row) → AreRowsOver n rs → i < length rs → r ≡ get_or rs i r → IsRowOver n r
row-over n [] i r w m e = absurd (omega (arith, m))
row-over n (s ∷ rs) zero r w m e = rw e w.0
row-over n (s ∷ rs) (suc i) r w m e = row-over n rs i r w.1 (omega (arith, m)) e

pub outside_step : (c : Conj) (rs : List Row) (room : ℕ) (here next : Conj) (old kept new : List Conj) (i : ℕ) (r : Row) → OutsideHalfway c rs room here old kept i → AreRowsOver c.columns rs → i < length rs → r ≡ get_or rs i r
    → next ≡ after_row here r → AreKept (row_parts here r) kept new → (length kept ≤ room → length new ≤ room) → OutsideHalfway c rs room next old new (i + 1)
outside_step c rs room here next old kept new i r h w m e after k fits = record {
  within = λ l. fits (h.within l);
  parts = h.parts ++ row_parts here r;
  split = append_assoc h.parts (row_parts here r) (parts_outside next (drop (i + 1) rs))
      ∙ ap (λ (d : Conj). h.parts ++ (row_parts here r ++ parts_outside d (drop (i + 1) rs))) after
      ∙ ap (λ (xs : List Row). h.parts ++ parts_outside here xs) (sym (row-at rs i r m e))
      ∙ h.split;
  done = kept-append h.parts (row_parts here r) old kept new h.done k;
  columns = ap (λ (d : Conj). d.columns) after ∙ h.columns;
  made = subst IsWellMade (sym after) (over-new here.columns here.rows r h.made (subst (λ (n : ℕ). IsRowOver n r) (sym h.columns) (row-over c.columns rs i r w m e)));
  whole = inside-snoc c rs here next i r h.whole m e after;
}

pub outside_full : (c : Conj) (rs : List Row) (room : ℕ) (here : Conj) (old kept new : List Conj) (i : ℕ) (r : Row) → OutsideHalfway c rs room here old kept i → i < length rs → r ≡ get_or rs i r → ArePartlyKept (row_parts here r) kept new → ArePartlyKept (parts_outside c rs) old new
outside_full c rs room here old kept new i r h m e k =
    let more = parts_outside (after_row here r) (drop (i + 1) rs) in
    let whole : h.parts ++ (row_parts here r ++ more) ≡ parts_outside c rs = ap (λ (xs : List Row). h.parts ++ parts_outside here xs) (sym (row-at rs i r m e)) ∙ h.split in
    subst (λ (xs : List Conj). ArePartlyKept xs old new) whole (partly-behind h.parts (row_parts here r) more old kept new h.done k)

outside-part : (c : Conj) (rs : List Row) (room : ℕ) (here : Conj) (old kept : List Conj) (i : ℕ) (r : Row) (q : Conj) → OutsideHalfway c rs room here old kept i → i < length rs → r ≡ get_or rs i r → Contains (row_parts here r) q → Contains (parts_outside c rs) q
outside-part c rs room here old kept i r q h m e k =
    let more = parts_outside (after_row here r) (drop (i + 1) rs) in
    let whole : h.parts ++ (row_parts here r ++ more) ≡ parts_outside c rs = ap (λ (xs : List Row). h.parts ++ parts_outside here xs) (sym (row-at rs i r m e)) ∙ h.split in
    subst (λ (xs : List Conj). Contains xs q) whole (Contains-append_right h.parts (row_parts here r ++ more) q (Contains-append_left (row_parts here r) more q k))

pub outside_stops : (budget : ℕ) (c : Conj) (rs : List Row) (room : ℕ) (here : Conj) (old kept : List Conj) (i : ℕ) (r : Row) (e : CutStop) → OutsideHalfway c rs room here old kept i → i < length rs → r ≡ get_or rs i r → RowStops budget here r e → OutsideStops budget c rs e
outside_stops budget c rs room here old kept i r (Overflow q) h m e (inl s) = inl (outside-part c rs room here old kept i r q h m e s.0, s.1)
outside_stops budget c rs room here old kept i r (Overflow q) h m e (inr s) = inr (record {
  before = take i rs;
  row = r;
  behind = drop (i + 1) rs;
  split = ap (λ (xs : List Row). take i rs ++ xs) (sym (row-at rs i r m e)) ∙ take-append-drop i rs;
  is = s.0 ∙ h.whole;
  lacks = subst (λ (d : Conj). LacksNegation d r) (sym s.0) s.1;
})
outside_stops budget c rs room here old kept i r (Spent q k) h m e s = (outside-part c rs room here old kept i r q h m e s.0, s.1)
outside_stops budget c rs room here old kept i r Full h m e s = tt
outside_stops budget c rs room here old kept i r (Memory x) h m e s = tt

pub outside_end : (c : Conj) (rs : List Row) (room : ℕ) (here : Conj) (old kept : List Conj) (i : ℕ) → OutsideHalfway c rs room here old kept i → length rs ≤ i → AreKept (parts_outside c rs) old kept
outside_end c rs room here old kept i h l =
    let e : h.parts ≡ parts_outside c rs = sym (append-nil h.parts) ∙ ap (λ (xs : List Row). h.parts ++ parts_outside here xs) (sym (drop_of_length-le rs l)) ∙ h.split in
    subst (λ (xs : List Conj). AreKept xs old kept) e h.done

pub outside_row : (c : Conj) (rs : List Row) (room : ℕ) (here : Conj) (old kept : List Conj) (i : ℕ) (r : Row) → OutsideHalfway c rs room here old kept i → AreRowsOver c.columns rs → i < length rs → r ≡ get_or rs i r → IsRowOver here.columns r
outside_row c rs room here old kept i r h w m e = subst (λ (n : ℕ). IsRowOver n r) (sym h.columns) (row-over c.columns rs i r w m e)

pub ruleset outside_steps = (outside_start, outside_step, outside_end, outside_row)

-- ---- one conjunction, and several

pub cut_whole : (c given copy : Conj) (kill : List Row) (old new : List Conj) → given ≡ record { columns = c.columns; rows = with_all_new c.rows kill } → (HasPoint given → ⊥) → copy ≡ c → new ≡ old ++ copy ∷ [] → AreCut c kill old new
cut_whole c given copy kill old new e empty same put = record {
  more = c ∷ [];
  is = put ∙ ap (λ (d : Conj). old ++ d ∷ []) same;
  cut = inl (subst (λ (d : Conj). HasPoint d → ⊥) e empty, refl);
}

pub cut_parts : (c given : Conj) (kill : List Row) (old new : List Conj) → given ≡ record { columns = c.columns; rows = with_all_new c.rows kill } → HasPoint given → AreKept (parts_outside c kill) old new → AreCut c kill old new
cut_parts c given kill old new e has k = record { more = k.more; is = k.is; cut = inr (subst HasPoint e has, k.sieved) }

pub inside-made : (c given : Conj) (kill : List Row) → IsWellMade c → AreRowsOver c.columns kill → given ≡ record { columns = c.columns; rows = with_all_new c.rows kill } → IsWellMade given
inside-made c given kill w v e = subst IsWellMade (sym e) (over-all-new c.columns c.rows kill w v)

pub ruleset cut_steps = (cut_whole, cut_parts, inside-made)

pub record AllHalfway (pieces : List Conj) (kill : List Row) (room : ℕ) (old kept : List Conj) (i : ℕ) : Type 0 where
  pub done : AreAllCut (take i pieces) kill old kept
  pub have : AllHavePoints pieces → AllHavePoints old → AllHavePoints kept
  pub within : length old ≤ room → length kept ≤ room

pub all_start : (pieces : List Conj) (kill : List Row) (room : ℕ) (old kept : List Conj) → kept ≡ old → AllHalfway pieces kill room old kept 0
all_start pieces kill room old kept e = record { done = record { more = []; is = e ∙ sym (append-nil old); cut = refl }; have = λ a b. subst AllHavePoints (sym e) b; within = same-fits room old kept e }

cuts-append : (xs : List Conj) (c : Conj) (kill : List Row) (ks ls : List Conj) → CutsAll xs kill ks → Cuts c kill ls → CutsAll (xs ++ c ∷ []) kill (ks ++ ls)
cuts-append [] c kill ks ls a b = (ls, [], ap (λ (zs : List Conj). zs ++ ls) a ∙ sym (append-nil ls), b, refl)
cuts-append (x ∷ xs) c kill ks ls (first, rest, e, f, a) b = (first, rest ++ ls, ap (λ (zs : List Conj). zs ++ ls) e ∙ append_assoc first rest ls, f, cuts-append xs c kill rest ls a b)

pub point-at : (cs : List Conj) (i : ℕ) (c : Conj) → AllHavePoints cs → i < length cs → c ≡ get_or cs i c → HasPoint c
point-at [] i c w m e = absurd (omega (arith, m))
point-at (d ∷ cs) zero c w m e = rw e w.0
point-at (d ∷ cs) (suc i) c w m e = point-at cs i c w.1 (omega (arith, m)) e

pub all_step : (pieces : List Conj) (kill : List Row) (room : ℕ) (old kept new : List Conj) (i : ℕ) (c : Conj) → AllHalfway pieces kill room old kept i → i < length pieces → c ≡ get_or pieces i c → AreCut c kill kept new
    → (HasPoint c → AllHavePoints kept → AllHavePoints new) → (length kept ≤ room → length new ≤ room) → AllHalfway pieces kill room old new (i + 1)
all_step pieces kill room old kept new i c h m e k more fits =
    let next : take (i + 1) pieces ≡ take i pieces ++ c ∷ [] = rw e (take_more pieces i c m) in
    record {
      done = subst (λ (xs : List Conj). AreAllCut xs kill old new) (sym next) (record {
        more = h.done.more ++ k.more;
        is = k.is ∙ ap (λ (zs : List Conj). zs ++ k.more) h.done.is ∙ append_assoc old h.done.more k.more;
        cut = cuts-append (take i pieces) c kill h.done.more k.more h.done.cut k.cut;
      });
      have = λ a b. more (point-at pieces i c a m e) (h.have a b);
      within = λ l. fits (h.within l);
    }

pub all_full : (pieces : List Conj) (kill : List Row) (room : ℕ) (old kept new : List Conj) (i : ℕ) (c : Conj) → AllHalfway pieces kill room old kept i → i < length pieces → c ≡ get_or pieces i c → IsPartlyCut c kill kept new → ArePartlyCut pieces kill old new
all_full pieces kill room old kept new i c h m e k = record {
  before = take i pieces;
  at = c;
  behind = drop (i + 1) pieces;
  split = ap (λ (xs : List Conj). take i pieces ++ xs) (sym (conj-at pieces i c m e)) ∙ take-append-drop i pieces;
  mid = kept;
  all = h.done;
  last = k;
}
  where
    conj-at : (cs : List Conj) (i : ℕ) (c : Conj) → i < length cs → c ≡ get_or cs i c → drop i cs ≡ c ∷ drop (i + 1) cs
    conj-at cs i c m e = rw e (drop_more cs i c m)

pub all_end : (pieces : List Conj) (kill : List Row) (room : ℕ) (old kept : List Conj) (i : ℕ) → AllHalfway pieces kill room old kept i → length pieces ≤ i → AreAllCut pieces kill old kept
all_end pieces kill room old kept i h l = subst (λ (xs : List Conj). AreAllCut xs kill old kept) (take_whole pieces i l) h.done

pub all_made : (n : ℕ) (pieces : List Conj) (i : ℕ) (c : Conj) → ArePieces n pieces → i < length pieces → c ≡ get_or pieces i c → IsWellMade c
all_made n pieces i c w m e = (pieces-at n pieces i c w m e).1

pub all_kill : (n : ℕ) (pieces : List Conj) (kill : List Row) (i : ℕ) (c : Conj) → ArePieces n pieces → AreRowsOver n kill → i < length pieces → c ≡ get_or pieces i c → AreRowsOver c.columns kill
all_kill n pieces kill i c w v m e = Over-more n c.columns kill (pieces-at n pieces i c w m e).0 v

pub ruleset all_steps = (all_start, all_step, all_end, all_made, all_kill)
