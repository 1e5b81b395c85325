-- Claims at a point, and members by their points.
use Rattle.std.proofs.Common.{◌≡◌, ◌↔◌, inl, inr, ℕ, zero, suc, ◌+◌, ◌<◌, ◌≤◌, ℤ, pos, negsuc, ◌≤ℤ◌, List, [], ◌∷◌, ◌++◌, length, map, zip, drop, get_or, Bool, true, false, not, refl, sym, ◌∙◌, arith}
use Rattle.std.specs.Prelude.{IsTrue}
use Rattle.std.proofs.lemmas.Int.{ints}
use Rattle.std.proofs.lemmas.List.{drop_more, drop_all}
use Rattle.ac_forms.specs.Affine.{Affine, value_at}
use Rattle.ac_forms.specs.ListMembers.{IsAmong}
use Rattle.ac_forms.specs.Rows.{AreRowsOver, CanTest, Meets}
use Rattle.ac_forms.specs.declared.row.Row.{Row}
use Rattle.ac_forms.specs.declared.row.Row.TheVariants.{Eq}
use Rattle.ac_hull.specs.EliminationRange.{CanCombine}
use Rattle.ac_hull.specs.Hulls.{HullOf, IsFound, Vanish, equalities_of}
use Rattle.ac_hull.specs.HullStops.{HandsBack}
use Rattle.ac_hull.specs.declared.combination.Combination.{Combination}
use Rattle.ac_hull.specs.declared.stop.HullStop.{HullStop}
use Rattle.ac_hull.specs.declared.stop.HullStop.TheVariants.{Overflow, Memory}
use Rattle.ac_widen.specs.Derivations.{EntryOf, StandsAt}
use Rattle.ac_widen.specs.DerivationPaths.{AreAt}
use Rattle.ac_widen.specs.Walks.{rows_with}
use Rattle.ac_walk_state.specs.RecurrencePairs.{WideningPointOf, claim_of}
use Rattle.ac_widen.specs.declared.derivation.Reason.{Reason}
use Rattle.ac_widen.specs.declared.derivation.Reason.TheVariants.{Hull as ByHull}
use Rattle.ac_walk_state.specs.RecurrencePairInvariant.{CanMeet, IsReasonAt}
use Rattle.ac_walk_state.proofs.Among.{over_absurd, over_append, equalities_over}

-- ---- members by their points

-- the number that stands beside a member is that of its entry
pub at_place : {K : Type 0} (es : List (EntryOf K)) (k : K) (ns : List ℕ) (ps : List (List ℤ)) (i n : ℕ) (p : List ℤ) → AreAt es k ns ps → i < length ns → n ≡ get_or ns i 0 → p ≡ get_or ps i p → StandsAt es n k p
at_place es k [] ps i n p a l e f = absurd (omega arith)
at_place es k (m ∷ ns) [] i n p a l e f = absurd a
at_place es k (m ∷ ns) (q ∷ ps) zero n p a l e f = rw (e, f) a.0
at_place es k (m ∷ ns) (q ∷ ps) (suc i) n p a l e f = at_place es k ns ps i n p a.1 (omega arith) e f

-- before member i: none of those before it is the point
pub record SearchHalfway (p : List ℤ) (ms : List (List ℤ)) (i : ℕ) : Type 0 where
  pub onward : IsAmong p ms → IsAmong p (drop i ms)

pub search_start : (p : List ℤ) (ms : List (List ℤ)) → SearchHalfway p ms 0
search_start p ms = record { onward = λ a. a }

pub search_step : (p : List ℤ) (ms : List (List ℤ)) (i : ℕ) (m : List ℤ) → SearchHalfway p ms i → i < length ms → m ≡ get_or ms i m → ¬ (m ≡ p) → SearchHalfway p ms (i + 1)
search_step p ms i m h l e n =
    let d : drop i ms ≡ m ∷ drop (i + 1) ms = rw e (drop_more ms i m l) in
    record { onward = λ a. elim (rw d at (h.onward a)) [ inl x ↦ absurd (n (sym x)) | inr x ↦ x ] }

pub search_end : (p : List ℤ) (ms : List (List ℤ)) (i : ℕ) → SearchHalfway p ms i → length ms ≤ i → ¬ (IsAmong p ms)
search_end p ms i h l a = rw (drop_all i ms l) at (h.onward a)

pub ruleset search_steps = (search_start, search_step, search_end)

-- ---- claims at a point

parts_meet : (es : List Affine) (rows : List Row) (q : List ℤ) → Meets (map Eq es ++ rows) q → Vanish es q × Meets rows q
parts_meet [] rows q m = (tt, m)
parts_meet (f ∷ es) rows q m = let r = parts_meet es rows q m.1 in ((m.0, r.0), r.1)

meet_parts : (es : List Affine) (rows : List Row) (q : List ℤ) → Vanish es q → Meets rows q → Meets (map Eq es ++ rows) q
meet_parts [] rows q h m = m
meet_parts (f ∷ es) rows q h m = (h.0, meet_parts es rows q h.1 m)

never : (q : List ℤ) → ¬ (pos 0 ≤ℤ value_at (record { konst = negsuc 0; coefs = [] }) q)
never q h = absurd (omega (arith, ints, h))

-- a claim without members holds at no point
pub none_meets : (columns : ℕ) (members : List (List ℤ)) (rows : List Row) (q : List ℤ) → members ≡ [] → ¬ (Meets (rows_with members (map Eq (equalities_of columns members) ++ rows)) q)
none_meets columns [] rows q e m = never q m.0
none_meets columns (p ∷ ps) rows q e m = absurd cc

-- and with members where the equalities and the rows do
pub some_meets : (columns : ℕ) (members : List (List ℤ)) (rows : List Row) (q : List ℤ) → ¬ (members ≡ [])
    → Meets (rows_with members (map Eq (equalities_of columns members) ++ rows)) q ↔ (Vanish (equalities_of columns members) q × Meets rows q)
some_meets columns [] rows q n = absurd (n refl)
some_meets columns (p ∷ ps) rows q n = ((λ m. parts_meet (equalities_of columns (p ∷ ps)) rows q m), (λ m. meet_parts (equalities_of columns (p ∷ ps)) rows q m.0 m.1))

-- a row that does not hold breaks the claim
pub broken_row : (columns : ℕ) (members : List (List ℤ)) (rows : List Row) (q : List ℤ) → ¬ (Meets rows q) → ¬ (Meets (rows_with members (map Eq (equalities_of columns members) ++ rows)) q)
broken_row columns [] rows q n m = never q m.0
broken_row columns (p ∷ ps) rows q n m = n (parts_meet (equalities_of columns (p ∷ ps)) rows q m).1

-- the rows of a claim are over the columns
pub rows_with-over : (columns : ℕ) (members : List (List ℤ)) (rows : List Row) → AreRowsOver columns rows → AreRowsOver columns (rows_with members (map Eq (equalities_of columns members) ++ rows))
rows_with-over columns [] rows h = over_absurd columns
rows_with-over columns (p ∷ ps) rows h = over_append columns (map Eq (equalities_of columns (p ∷ ps))) rows (equalities_over columns (p ∷ ps)) h

-- a stop that hands back points tells whatever holds
pub hands_back : (points : List (List ℤ)) (stop : HullStop) (P Q : Type 0) → (P → Q) → HandsBack points stop P → HandsBack points stop Q
hands_back points (Overflow ps) P Q f h = (f h.0, h.1)
hands_back points (Memory want) P Q f h = tt

-- ---- what breaks a claim

-- a row that does not hold
pub breaks_row : (k : WideningPointOf) (p : List ℤ) → CanTest k.rows p → ¬ (Meets k.rows p) → CanMeet k p × (IsTrue true ↔ (¬ Meets (claim_of k).rows p))
breaks_row k p can n = ((can, λ m. absurd (n m)), ((λ _. broken_row k.hull.columns k.hull.members k.rows p n), (λ _. refl)))

-- where there are no members
pub breaks_none : (k : WideningPointOf) (p : List ℤ) → CanTest k.rows p → k.hull.members ≡ [] → CanMeet k p × (IsTrue true ↔ (¬ Meets (claim_of k).rows p))
breaks_none k p can e = ((can, λ m. rw e tt), ((λ _. none_meets k.hull.columns k.hull.members k.rows p e), (λ _. refl)))

-- where the rows hold, the equalities decide
breaks_both : (k : WideningPointOf) (p : List ℤ) (inside : Bool) → Meets k.rows p → ¬ (k.hull.members ≡ []) → IsTrue inside ↔ Vanish (equalities_of k.hull.columns k.hull.members) p → IsTrue (not inside) ↔ (¬ Meets (claim_of k).rows p)
breaks_both k p true m n h = ((λ e. absurd cc), (λ x. absurd (x ((some_meets k.hull.columns k.hull.members k.rows p n).1 (h.0 refl, m)))))
breaks_both k p false m n h = ((λ _ x. let v = h.1 ((some_meets k.hull.columns k.hull.members k.rows p n).0 x).0 in absurd cc), (λ _. refl))

pub breaks_inside : (k : WideningPointOf) (p : List ℤ) (inside : Bool) → CanTest k.rows p → Meets k.rows p → ¬ (k.hull.members ≡ []) → CanCombine k.hull.members p × (IsTrue inside ↔ Vanish (equalities_of k.hull.columns k.hull.members) p)
    → CanMeet k p × (IsTrue (not inside) ↔ (¬ Meets (claim_of k).rows p))
breaks_inside k p inside can m n h = ((can, λ _. h.0), breaks_both k p inside m n h.1)

-- where it can't be decided
pub breaks_wide : (k : WideningPointOf) (p : List ℤ) (stop : HullStop) → ¬ (CanTest k.rows p) → HandsBack (k.hull.members ++ p ∷ []) stop (Unit {0}) → HandsBack (k.hull.members ++ p ∷ []) stop (¬ CanMeet k p)
breaks_wide k p stop n h = hands_back (k.hull.members ++ p ∷ []) stop (Unit {0}) (¬ CanMeet k p) (λ _ can. n can.0) h

pub breaks_stop : (k : WideningPointOf) (p : List ℤ) (stop : HullStop) → Meets k.rows p → HandsBack (k.hull.members ++ p ∷ []) stop (¬ CanCombine k.hull.members p) → HandsBack (k.hull.members ++ p ∷ []) stop (¬ CanMeet k p)
breaks_stop k p stop m h = hands_back (k.hull.members ++ p ∷ []) stop (¬ CanCombine k.hull.members p) (¬ CanMeet k p) (λ n can. n (can.1 m)) h

-- ---- reasons

pub reason_at : (k : WideningPointOf) (p : List ℤ) (c : Combination) (r : Reason) → IsFound k.hull.members p c → r ≡ ByHull c.m (zip k.kept c.weights) → IsReasonAt k p r
reason_at k p c r found e = (c.m, c.weights, e, found.combines)

pub weights_length : (hull : HullOf) (kept : List ℕ) (p : List ℤ) (c : Combination) → IsFound hull.members p c → length kept ≡ length hull.members → length kept ≡ length c.weights
weights_length hull kept p c found e = e ∙ sym found.combines.lengths
