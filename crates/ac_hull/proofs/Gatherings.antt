-- Rows gathered pair by pair, and thinned at the end.
use Rattle.std.proofs.Common.{◌≡◌, ◌↔◌, inl, inr, ℕ, ◌+◌, ℤ, List, [], ◌++◌, arith}
use Rattle.std.specs.Prelude.{Result, Ok, Err, IfOk}
use Rattle.std.specs.declared.alloc.AllocError.{AllocError}
use Rattle.std.proofs.lemmas.Bool.{cases_lt}
use Rattle.ac_forms.specs.ListMembers.{IsAmong}
use Rattle.ac_widen.specs.Combinations.{Each}
use Rattle.ac_hull.specs.ColumnDifferences.{AllMeetRow, IsMetRow, IsThin, RestsOn, own}
use Rattle.ac_hull.specs.HullInternals.Gathering.{Gathers, OfPair, OfFirst, OfFirsts}
use Rattle.ac_hull.specs.declared.difference.Difference.{Difference}
use Rattle.ac_hull.proofs.Among.{among_front, among_back, among_parts}
use Rattle.ac_hull.proofs.Comparing.{each_from}
use Rattle.ac_hull.proofs.Thinnings.{rests_through}

rests_more : (points : List (List ℤ)) (old new : List Difference) → ((d : Difference) → IsAmong d old → IsAmong d new) → (d : Difference) → RestsOn points old d → RestsOn points new d
rests_more points old new f d r = rests_through points old new (λ e a. own e (f e a)) d r

pub pair_gathered : (points : List (List ℤ)) (thresholds moduli : List ℤ) (s t : ℕ) (old rows kept new : List Difference) → ((d : Difference) → IsAmong d rows ↔ OfPair thresholds moduli points s t d)
    → IsThin points (λ d. IsAmong d rows) kept → new ≡ old ++ kept → Gathers points (OfPair thresholds moduli points s t) old new
pair_gathered points thresholds moduli s t old rows kept new f h e = rw e (record {
  stay = λ d a. among_front d old kept a;
  among = λ d a. elim (among_parts d old kept a) [ inl b ↦ inl b | inr b ↦ inr ((f d).0 (h.among d b)) ];
  rests = λ d p. rests_more points kept (old ++ kept) (λ e a. among_back e old kept a) d (h.rests d ((f d).1 p));
})

pub first_start : (points : List (List ℤ)) (thresholds moduli : List ℤ) (s : ℕ) (old : List Difference) → Gathers points (OfFirst thresholds moduli points s 0) old old
first_start points thresholds moduli s old = record { stay = λ d a. a; among = λ d a. inl a; rests = λ d p. (let l = p.1 in absurd (omega arith)) }

pub first_step : (points : List (List ℤ)) (thresholds moduli : List ℤ) (s n : ℕ) (old made new : List Difference) → Gathers points (OfFirst thresholds moduli points s n) old made → Gathers points (OfPair thresholds moduli points s n) made new
    → Gathers points (OfFirst thresholds moduli points s (n + 1)) old new
first_step points thresholds moduli s n old made new h g = record {
  stay = λ d a. g.stay d (h.stay d a);
  among = λ d a. elim (g.among d a) [
    | inl b ↦ elim (h.among d b) [ inl o ↦ inl o | inr p ↦ (let l = p.1 in inr (p.0, omega arith, p.2)) ]
    | inr p ↦ inr (n, omega arith, p)
  ];
  rests = λ d p. elim (cases_lt p.0 n) [
    | inl l ↦ rests_more points made new g.stay d (h.rests d (p.0, l, p.2))
    | inr l ↦ (let k = p.1 in let e : p.0 ≡ n = omega arith in g.rests d (rw e at p.2))
  ];
}

pub firsts_start : (points : List (List ℤ)) (thresholds moduli : List ℤ) (n : ℕ) → Gathers points (OfFirsts thresholds moduli points n 0) [] []
firsts_start points thresholds moduli n = record { stay = λ d a. a; among = λ d a. inl a; rests = λ d p. (let l = p.1 in absurd (omega arith)) }

pub firsts_step : (points : List (List ℤ)) (thresholds moduli : List ℤ) (n k : ℕ) (made new : List Difference) → Gathers points (OfFirsts thresholds moduli points n k) [] made → Gathers points (OfFirst thresholds moduli points k n) made new
    → Gathers points (OfFirsts thresholds moduli points n (k + 1)) [] new
firsts_step points thresholds moduli n k made new h g = record {
  stay = λ d a. absurd a;
  among = λ d a. elim (g.among d a) [
    | inl b ↦ elim (h.among d b) [ inl o ↦ inl o | inr p ↦ (let l = p.1 in inr (p.0, omega arith, p.2)) ]
    | inr p ↦ inr (k, omega arith, p)
  ];
  rests = λ d p. elim (cases_lt p.0 k) [
    | inl l ↦ rests_more points made new g.stay d (h.rests d (p.0, l, p.2))
    | inr l ↦ (let m = p.1 in let e : p.0 ≡ k = omega arith in g.rests d (rw e at p.2))
  ];
}

pub gathered_met : (points : List (List ℤ)) (thresholds moduli : List ℤ) (n k : ℕ) (rows : List Difference) → Gathers points (OfFirsts thresholds moduli points n k) [] rows → Each (AllMeetRow points) rows
gathered_met points thresholds moduli n k rows h = each_from (AllMeetRow points) rows (λ d a. elim (h.among d a) [ inl z ↦ absurd z | inr p ↦ p.2.2.1 ])

pub thin_gathered : (points : List (List ℤ)) (columns : ℕ) (thresholds moduli : List ℤ) (rows kept : List Difference) → Gathers points (OfFirsts thresholds moduli points (columns + 1) (columns + 1)) [] rows
    → IsThin points (λ d. IsAmong d rows) kept → IsThin points (IsMetRow columns thresholds moduli points) kept
thin_gathered points columns thresholds moduli rows kept h t = record {
  among = λ d a. elim (h.among d (t.among d a)) [
    | inl z ↦ absurd z
    | inr p ↦ (let l = p.1 in let k = p.2.1 in ((p.0, p.2.0, omega arith, omega arith, p.2.2.0), p.2.2.1))
  ];
  rests = λ d m. rests_through points rows kept t.rests d (h.rests d (let l = m.0.2 in let k = m.0.3 in (m.0.0, omega arith, (m.0.1, omega arith, (m.0.4, m.1)))));
  varying = t.varying;
  apart = t.apart;
  whole = t.whole;
}

pub ok_map : {T : Type 0} (r : Result T AllocError) (P Q : T → Type 0) → ((x : T) → P x → Q x) → IfOk r P → IfOk r Q
ok_map (Ok x) P Q f h = f x h
ok_map (Err e) P Q f h = h
