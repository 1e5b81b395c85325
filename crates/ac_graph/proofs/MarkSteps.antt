-- How marks are set along the nodes that are found.
use Rattle.std.proofs.Common.{◌≡◌, ◌⊎◌, inl, inr, ℕ, zero, suc, ◌+◌, ◌<◌, ◌≤◌, List, [], ◌∷◌, ◌++◌, length, take, drop, set, get_or, replicate, refl, sym, ap, subst, arith, Some, Bool, true, false, ◌∙◌, append_assoc, append-nil}
use Rattle.std.specs.List.{slice_get}
use Rattle.std.proofs.lemmas.Option.{slice_get-get_or, slice_get_within, slice_get_read}
use Rattle.std.proofs.lemmas.List.{take_all, take_at, length-replicate}
use Rattle.ac_forms.specs.ListMembers.{IsAmong}
use Rattle.ac_graph.specs.Ways.{Leads, one, more, Edge, IsGraph, IsMarked, AreMarks}
use Rattle.ac_graph.specs.NodeMarks.{AreBelow, AreMatched, AreAdded}
use Rattle.ac_graph.proofs.FoundNodes.{IsSpreading}
use Rattle.ac_graph.proofs.Members.{in_left, in_right, in_last, in_at, at_in, get_before, in_more, in_grown}
use borrow.Author.Count.{below_more}

pub below_at : (n : ℕ) (ks : List ℕ) (i d : ℕ) → AreBelow n ks → i < length ks → get_or ks i d < n
below_at n [] i d b l = omega arith
below_at n (k ∷ ks) zero d b l = b.0
below_at n (k ∷ ks) (suc i) d b l = below_at n ks i d b.1 (omega arith)

pub below_all : (n : ℕ) (ks : List ℕ) → ((k : ℕ) → IsAmong k ks → k < n) → AreBelow n ks
below_all n [] h = tt
below_all n (k ∷ ks) h = (h k (inl refl), below_all n ks (λ j i. h j (inr i)))

marked_set : (marks : List Bool) (x v : ℕ) → IsMarked (set marks x true) v → (v ≡ x) ⊎ IsMarked marks v
marked_set [] x v h = inr h
marked_set (m ∷ ms) zero zero h = inl refl
marked_set (m ∷ ms) zero (suc v) h = inr h
marked_set (m ∷ ms) (suc x) zero h = inr h
marked_set (m ∷ ms) (suc x) (suc v) h = elim (marked_set ms x v h) [ inl e ↦ inl (ap suc e) | inr k ↦ inr k ]

set_marked : (marks : List Bool) (x : ℕ) → x < length marks → IsMarked (set marks x true) x
set_marked [] x l = absurd (omega arith)
set_marked (m ∷ ms) zero l = refl
set_marked (m ∷ ms) (suc x) l = set_marked ms x (omega arith)

kept_marked : (marks : List Bool) (x v : ℕ) → IsMarked marks v → IsMarked (set marks x true) v
kept_marked [] x v h = h
kept_marked (m ∷ ms) zero zero h = refl
kept_marked (m ∷ ms) zero (suc v) h = h
kept_marked (m ∷ ms) (suc x) zero h = h
kept_marked (m ∷ ms) (suc x) (suc v) h = kept_marked ms x v h

pub added_start : (nodes found : List ℕ) (marks : List Bool) → AreMatched marks found → AreAdded (take 0 nodes) found found marks
added_start nodes found marks h = record { more = []; is = sym (append-nil found); has = λ v i. inl i; keeps = λ v i. absurd i; matched = h }

pub added_new : (nodes old new : List ℕ) (marks : List Bool) (i : ℕ) (grown : List ℕ) (set_marks : List Bool) → AreAdded (take i nodes) old new marks → i < length nodes → get_or nodes i 0 < length marks
    → grown ≡ new ++ get_or nodes i 0 ∷ [] → set_marks ≡ set marks (get_or nodes i 0) true → AreAdded (take (i + 1) nodes) old grown set_marks
added_new nodes old new marks i grown set_marks h l w grown_is marks_is =
    let x = get_or nodes i 0 in
    rw (grown_is, marks_is)
    record {
      more = h.more ++ x ∷ [];
      is = ap (λ t. t ++ x ∷ []) h.is ∙ append_assoc old h.more (x ∷ []);
      has = λ v n. elim (in_last v x new n) [ inl a ↦ elim (h.has v a) [ inl o ↦ inl o | inr b ↦ inr (in_grown v 0 nodes i l (inl b)) ] | inr e ↦ inr (in_grown v 0 nodes i l (inr e)) ];
      keeps = λ v n. elim (in_more v 0 nodes i l n) [ inl a ↦ in_left v new (x ∷ []) (h.keeps v a) | inr e ↦ in_right v new (x ∷ []) (inl e) ];
      matched = λ v. (
        (λ m. elim (marked_set marks x v m) [ inl e ↦ in_right v new (x ∷ []) (inl e) | inr k ↦ in_left v new (x ∷ []) ((h.matched v).0 k) ]),
        (λ n. elim (in_last v x new n) [ inl a ↦ kept_marked marks x v ((h.matched v).1 a) | inr e ↦ subst (λ (u : ℕ). IsMarked (set marks x true) u) (sym e) (set_marked marks x w) ]),
      );
    }

pub added_known : (nodes old new : List ℕ) (marks : List Bool) (i : ℕ) → AreAdded (take i nodes) old new marks → i < length nodes → get_or nodes i 0 < length marks → get_or marks (get_or nodes i 0) false ≡ true
    → AreAdded (take (i + 1) nodes) old new marks
added_known nodes old new marks i h l w m =
    let x = get_or nodes i 0 in
    let is_marked : IsMarked marks x = slice_get-get_or marks x false w ∙ ap Some m in
    record {
      more = h.more;
      is = h.is;
      has = λ v n. elim (h.has v n) [ inl o ↦ inl o | inr b ↦ inr (in_grown v 0 nodes i l (inl b)) ];
      keeps = λ v n. elim (in_more v 0 nodes i l n) [ inl a ↦ h.keeps v a | inr e ↦ subst (λ (u : ℕ). IsAmong u new) (sym e) ((h.matched x).0 is_marked) ];
      matched = h.matched;
    }

pub added_end : (nodes old new : List ℕ) (marks : List Bool) (i : ℕ) → AreAdded (take i nodes) old new marks → length nodes ≤ i → AreAdded nodes old new marks
added_end nodes old new marks i h l = subst (λ (ns : List ℕ). AreAdded ns old new marks) (take_all i nodes l) h

pub below_of : (n : ℕ) (nodes : List ℕ) (marks : List Bool) (i : ℕ) → AreBelow n nodes → i < length nodes → length marks ≡ n → get_or nodes i 0 < length marks
below_of n nodes marks i b l e = let g = below_at n nodes i 0 b l in omega arith

pub nodes_within : (next : List (List ℕ)) (u n : ℕ) (nodes slice : List ℕ) → ((i j : ℕ) → Edge next i j → j < length next) → u < length next → nodes ≡ get_or next u nodes → slice ≡ nodes → n ≡ length next → AreBelow n slice
nodes_within next u n nodes slice g l e s w = rw (s, w) (below_all (length next) nodes (λ k i. g u k (nodes, slice_get_read next (length next) u nodes refl l e, i)))

pub written : (len : ℕ) (items now new : List Bool) → length new ≡ length now → length now ≡ len → take len (new ++ drop (length new) items) ≡ new
written len items now new e f = take_at new (drop (length new) items) len (e ∙ f)

-- from a node on
edge_below : (next : List (List ℕ)) (from v : ℕ) → IsGraph next → Leads (Edge next) from v → v < length next
edge_below next from v g (one p q e) = g.within from v e
edge_below next from v g (more p q s w e) = g.within q v e

pub found_below : (next : List (List ℕ)) (from at : ℕ) (marks : List Bool) (found : List ℕ) (u j : ℕ) → IsGraph next → IsSpreading next from at marks found → slice_get found j ≡ Some u → u < length next
found_below next from at marks found u j g h e = edge_below next from u g (h.sound u (in_at u found j e))

pub nodes_below : (next : List (List ℕ)) (u : ℕ) (nodes : List ℕ) → IsGraph next → slice_get next u ≡ Some nodes → AreBelow (length next) nodes
nodes_below next u nodes g e = below_all (length next) nodes (λ k i. g.within u k (nodes, e, i))

same_item : (m u : ℕ) (xs : List ℕ) (k : ℕ) → slice_get xs k ≡ Some m → slice_get xs k ≡ Some u → m ≡ u
same_item m u xs k e f = cc

edge_in : (next : List (List ℕ)) (u v : ℕ) (nodes : List ℕ) → slice_get next u ≡ Some nodes → Edge next u v → IsAmong v nodes
edge_in next u v nodes e (other, is, h) = let same : other ≡ nodes = cc in subst (IsAmong v) same h

none_marked : (n v : ℕ) → ¬ IsMarked (replicate n false) v
none_marked zero v h = cc
none_marked (suc n) zero h = let e : false ≡ true = cc in cc
none_marked (suc n) (suc v) h = none_marked n v h

pub unmarked_matched : (n : ℕ) (marks : List Bool) → marks ≡ replicate n false → AreMatched marks []
unmarked_matched n marks e v = ((λ m. none_marked n v (rw e at m)), (λ h. absurd h))

pub spreading_start : (next : List (List ℕ)) (from : ℕ) (nodes new : List ℕ) (marks : List Bool) → slice_get next from ≡ Some nodes → length marks ≡ length next → AreAdded nodes [] new marks → IsSpreading next from 0 marks new
spreading_start next from nodes new marks e w h = record {
  wide = w;
  matched = h.matched;
  sound = λ v i. elim (h.has v i) [ inl n ↦ absurd n | inr k ↦ one from v (nodes, e, k) ];
  first = λ v d. h.keeps v (edge_in next from v nodes e d);
  closed = λ j u v l g d. absurd (omega arith);
}

pub spreading_step : (next : List (List ℕ)) (from at u : ℕ) (nodes old new : List ℕ) (before marks : List Bool) → IsSpreading next from at before old → slice_get old at ≡ Some u → slice_get next u ≡ Some nodes → length marks ≡ length next
    → AreAdded nodes old new marks → IsSpreading next from (at + 1) marks new
spreading_step next from at u nodes old new before marks h a e w s =
    let grows : (v : ℕ) → IsAmong v old → IsAmong v new = λ v i. subst (IsAmong v) (sym s.is) (in_left v old s.more i) in
    let Follows : ℕ → Type 0 = λ j. (k v : ℕ) → slice_get new j ≡ Some k → Edge next k v → IsAmong v new in
    let within : at < length old = slice_get_within old at u a in
    let get : (j k : ℕ) → j < length old → slice_get new j ≡ Some k → slice_get old j ≡ Some k = λ j k l g. get_before k old s.more j l (rw s.is at g) in
    record {
      wide = w;
      matched = s.matched;
      sound = λ v i. elim (s.has v i) [ inl o ↦ h.sound v o | inr k ↦ more from u v (h.sound u (in_at u old at a)) (nodes, e, k) ];
      first = λ v d. grows v (h.first v d);
      closed = λ j k v l g d. below_more Follows at
          (λ i b m n f t. grows n (h.closed i m n b (get i m (omega arith) f) t))
          (λ m n f t. s.keeps n (edge_in next u n nodes e (subst (λ (x : ℕ). Edge next x n) (same_item m u old at (get at m within f) a) t)))
          j l k v g d;
    }

reach : (next : List (List ℕ)) (from at : ℕ) (marks : List Bool) (found : List ℕ) → IsSpreading next from at marks found → length found ≤ at → (v : ℕ) → Leads (Edge next) from v → IsAmong v found
reach next from at marks found h l v (one p q e) = h.first v e
reach next from at marks found h l v (more p q s w e) =
    let i = at_in q found (reach next from at marks found h l q w) in
    h.closed i.0 q v (let b = slice_get_within found i.0 q i.1 in omega arith) i.1 e

pub spreading_end : (next : List (List ℕ)) (from at : ℕ) (marks : List Bool) (found : List ℕ) → IsSpreading next from at marks found → length found ≤ at → AreMarks next from marks
spreading_end next from at marks found h l = record {
  wide = h.wide;
  marked = λ v. ((λ m. h.sound v ((h.matched v).0 m)), (λ w. (h.matched v).1 (reach next from at marks found h l v w)));
}

nodes_at : (next : List (List ℕ)) (u n : ℕ) (nodes : List ℕ) → IsGraph next → slice_get next u ≡ Some nodes → n ≡ length next → AreBelow n nodes
nodes_at next u n nodes g e w = rw w (nodes_below next u nodes g e)

pub nodes_fit : (next : List (List ℕ)) (u : ℕ) (nodes : List ℕ) (items now : List Bool) → IsGraph next → slice_get next u ≡ Some nodes → now ≡ items → length items ≡ length next → AreBelow (length now) nodes
nodes_fit next u nodes items now g e i w = nodes_at next u (length now) nodes g e (ap length i ∙ w)

pub length_unmarked : (n : ℕ) (marks : List Bool) → marks ≡ replicate n false → length marks ≡ n
length_unmarked n marks e = ap length e ∙ length-replicate n false

pub spreading_begin : (next : List (List ℕ)) (from len : ℕ) (nodes old new : List ℕ) (items now marks : List Bool) → slice_get next from ≡ Some nodes → old ≡ [] → now ≡ items → items ≡ replicate (length next) false → length now ≡ len → length marks ≡ length now
    → AreAdded nodes old new marks → IsSpreading next from 0 (take len (marks ++ drop (length marks) items)) new
spreading_begin next from len nodes old new items now marks e o i r l m h =
    let h2 : AreAdded nodes [] new marks = subst (λ (xs : List ℕ). AreAdded nodes xs new marks) o h in
    let w : length marks ≡ length next = m ∙ ap length i ∙ length_unmarked (length next) items r in
    subst (λ (ms : List Bool). IsSpreading next from 0 ms new) (sym (written len items now marks m l)) (spreading_start next from nodes new marks e w h2)

pub item_at : (list old : List ℕ) (at u : ℕ) → list ≡ old → at < length list → u ≡ get_or list at u → slice_get old at ≡ Some u
item_at list old at u i l e = subst (λ (xs : List ℕ). slice_get xs at ≡ Some u) i (slice_get_read list (length list) at u refl l e)

pub spreading_next : (next : List (List ℕ)) (from at len u : ℕ) (nodes old new : List ℕ) (items now marks : List Bool) → IsSpreading next from at items old → slice_get old at ≡ Some u → slice_get next u ≡ Some nodes → now ≡ items → length now ≡ len → length marks ≡ length now
    → AreAdded nodes old new marks → IsSpreading next from (at + 1) (take len (marks ++ drop (length marks) items)) new
spreading_next next from at len u nodes old new items now marks s a e i l m h =
    let w : length marks ≡ length next = m ∙ ap length i ∙ s.wide in
    subst (λ (ms : List Bool). IsSpreading next from (at + 1) ms new) (sym (written len items now marks m l)) (spreading_step next from at u nodes old new items marks s a e w h)
