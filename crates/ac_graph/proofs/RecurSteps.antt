-- How the marks of the pairs that recur are set, and what they mean.
use Rattle.std.proofs.Common.{◌≡◌, ◌↔◌, ◌⊎◌, inl, inr, ℕ, zero, suc, ◌+◌, ◌<◌, ◌≤◌, List, [], ◌∷◌, ◌++◌, length, take, get_or, refl, sym, ap, subst, ◌∙◌, arith, Some, Bool, true, false, cond, ◌&&◌, ◌||◌, length-append}
use Rattle.std.specs.Prelude.{not}
use Rattle.std.specs.List.{slice_get}
use Rattle.std.proofs.lemmas.Bool.{eqb-true, eq-eqb}
use Rattle.std.proofs.lemmas.List.{take_all, map_more}
use Rattle.std.proofs.lemmas.Option.{slice_get_within, slice_get-get_or}
use borrow.Author.Count.{below_more}
use Rattle.ac_syntax.specs.declared.tree.Position.{Position}
use Rattle.ac_syntax.specs.declared.tree.Position.TheVariants.{Output, Node, InitialOutput, InitialNode}
use Rattle.ac_forms.specs.ListMembers.{IsAmong}
use Rattle.ac_graph.specs.NodeMarks.{is_marked, mark_of}
use Rattle.ac_graph.specs.PairMoves.{IsRoot}
use Rattle.ac_graph.specs.Recurrence.{has_reader, readers, is_root, recurs, ReadingEdge, AreRecurring, PlainEdge, AreFallingOutside, HasMark, AreMarkedBy}
use Rattle.ac_graph.specs.Ways.{Leads, one, more, Edge, IsGraph, IsMarked, AreCyclic, IsWithin, IsOutside, AreFalling}
use Rattle.ac_graph.specs.declared.programs.Both.{Both}
use Rattle.ac_graph.proofs.CycleSteps.{marked_is}
use Rattle.ac_graph.proofs.Members.{in_left, in_right, in_last, in_split, get_last}

-- the readers so far
pub readers_start : (b : Both) (pairs : List (Position × Position)) (made : List Bool) → made ≡ [] → made ≡ readers b (take 0 pairs)
readers_start b pairs made e = e

pub readers_step : (b : Both) (pairs : List (Position × Position)) (i : ℕ) (d : Position × Position) (made new : List Bool) (r : Bool) → made ≡ readers b (take i pairs) → i < length pairs → r ≡ has_reader b (get_or pairs i d) → new ≡ made ++ r ∷ [] → new ≡ readers b (take (i + 1) pairs)
readers_step b pairs i d made new r h l e n = n ∙ (λ k. h k ++ e k ∷ []) ∙ sym (map_more (has_reader b) pairs i d l)

pub readers_end : (b : Both) (pairs : List (Position × Position)) (i : ℕ) (made : List Bool) → made ≡ readers b (take i pairs) → length pairs ≤ i → made ≡ readers b pairs
readers_end b pairs i made h l = h ∙ ap (readers b) (take_all i pairs l)

-- marks so far
pub record MarkedUpTo (pairs : List (Position × Position)) (on_cycles rs on_reading made : List Bool) (at : ℕ) : Type 0 where
  pub wide : length made ≡ at
  pub marked : (i : ℕ) → i < at → (p : Position × Position) → slice_get pairs i ≡ Some p → is_marked made i ≡ recurs p (is_marked on_cycles i) (is_marked rs i) (is_marked on_reading i)

pub marked_start : (pairs : List (Position × Position)) (on_cycles rs on_reading made : List Bool) → made ≡ [] → MarkedUpTo pairs on_cycles rs on_reading made 0
marked_start pairs on_cycles rs on_reading made e = record { wide = ap length e; marked = λ i l p g. absurd (omega arith) }

mark_kept : (made : List Bool) (b : Bool) (i : ℕ) → i < length made → is_marked (made ++ b ∷ []) i ≡ is_marked made i
mark_kept [] b i l = absurd (omega arith)
mark_kept (m ∷ ms) b zero l = refl
mark_kept (m ∷ ms) b (suc i) l = mark_kept ms b i (omega arith)

mark_new : (made : List Bool) (b : Bool) → is_marked (made ++ b ∷ []) (length made) ≡ b
mark_new made b = ap mark_of (get_last b made)

pair_is : (x y : Position × Position) → Some x ≡ Some y → x ≡ y
pair_is x y e = cc

pub marked_step : (pairs : List (Position × Position)) (on_cycles rs on_reading made new : List Bool) (at : ℕ) (d : Position × Position) (b x y z : Bool) → MarkedUpTo pairs on_cycles rs on_reading made at → at < length pairs → x ≡ is_marked on_cycles at → y ≡ is_marked rs at → z ≡ is_marked on_reading at
    → b ≡ recurs (get_or pairs at d) x y z → new ≡ made ++ b ∷ [] → MarkedUpTo pairs on_cycles rs on_reading new (at + 1)
marked_step pairs on_cycles rs on_reading made new at d b x y z h l ex ey ez eb e = rw e (record {
  wide = length-append made (b ∷ []) ∙ ap (λ n. n + 1) h.wide;
  marked = below_more (λ i. (p : Position × Position) → slice_get pairs i ≡ Some p → is_marked (made ++ b ∷ []) i ≡ recurs p (is_marked on_cycles i) (is_marked rs i) (is_marked on_reading i)) at
      (λ i k p g. mark_kept made b i (let w = h.wide in omega arith) ∙ h.marked i k p g)
      (λ p g. let q : get_or pairs at d ≡ p = pair_is (get_or pairs at d) p (sym (slice_get-get_or pairs at d l) ∙ g) in
      ap (is_marked (made ++ b ∷ [])) (sym h.wide) ∙ mark_new made b ∙ eb ∙ (λ k. recurs (q k) (ex k) (ey k) (ez k)));
})

pub marked_end : (pairs : List (Position × Position)) (on_cycles rs on_reading made : List Bool) (at : ℕ) → MarkedUpTo pairs on_cycles rs on_reading made at → at ≡ length pairs → AreMarkedBy pairs on_cycles rs on_reading made
marked_end pairs on_cycles rs on_reading made at h e = record { wide = h.wide ∙ e; marked = λ i p g. h.marked i (let l = slice_get_within pairs i p g in omega arith) p g }

-- tests
and_is : (a b : Bool) → ((a && b) ≡ true) ↔ ((a ≡ true) × (b ≡ true))
and_is true b = ((λ e. (refl, e)), (λ h. h.1))
and_is false b = ((λ e. absurd cc), (λ h. let e = h.0 in absurd cc))

pub or_is : (a b : Bool) → ((a || b) ≡ true) ↔ ((a ≡ true) ⊎ (b ≡ true))
or_is true b = ((λ e. inl refl), (λ h. refl))
or_is false b = ((λ e. inr e), (λ h. elim h [ inl e ↦ absurd cc | inr e ↦ e ]))

not_is : (a : Bool) → (not a ≡ true) ↔ (¬ (a ≡ true))
not_is true = ((λ e. absurd cc), (λ n. absurd (n refl)))
not_is false = ((λ e f. absurd cc), (λ n. refl))

root_is : (p : Position) → (is_root p ≡ true) ↔ IsRoot p
root_is (Output o) = ((λ e. absurd cc), (λ h. absurd h))
root_is (Node s k) = (eqb-true k 0, eq-eqb k 0)
root_is (InitialOutput o) = ((λ e. absurd cc), (λ h. absurd h))
root_is (InitialNode s k) = ((λ e. absurd cc), (λ h. absurd h))

pub leads_map : {A : Type 0} (R S : A → A → Type 0) → ((p q : A) → R p q → S p q) → (p q : A) → Leads R p q → Leads S p q
leads_map R S f p q (one p' q' e) = one p' q' (f p' q' e)
leads_map R S f p q (more p' q' s w e) = more p' q' s (leads_map R S f p' q' w) (f q' s e)

recurs_is : (p : Position × Position) (c r g : Bool) → (recurs p c r g ≡ true) ↔ ((c ≡ true) × (IsRoot p.0 ⊎ IsRoot p.1) × (¬ (r ≡ true) ⊎ (g ≡ true)))
recurs_is p c r g = (
  (λ e.
      let a = (and_is (c && (is_root p.0 || is_root p.1)) (not r || g)).0 e in
      let b = (and_is c (is_root p.0 || is_root p.1)).0 a.0 in (
        b.0,
        elim ((or_is (is_root p.0) (is_root p.1)).0 b.1) [ inl x ↦ inl ((root_is p.0).0 x) | inr x ↦ inr ((root_is p.1).0 x) ],
        elim ((or_is (not r) g).0 a.1) [ inl x ↦ inl ((not_is r).0 x) | inr x ↦ inr x ],
      )),
  (λ h.
      (and_is (c && (is_root p.0 || is_root p.1)) (not r || g)).1 (
        (and_is c (is_root p.0 || is_root p.1)).1 (h.0, (or_is (is_root p.0) (is_root p.1)).1 (elim h.1 [ inl x ↦ inl ((root_is p.0).1 x) | inr x ↦ inr ((root_is p.1).1 x) ])),
        (or_is (not r) g).1 (elim h.2 [ inl x ↦ inl ((not_is r).1 x) | inr x ↦ inr x ]),
      )),
)

pub recurring_are : (b : Both) (pairs : List (Position × Position)) (next reading : List (List ℕ)) (on_cycles rs on_reading marks : List Bool) → rs ≡ readers b pairs → AreCyclic next on_cycles → IsWithin next rs reading → AreCyclic reading on_reading
    → AreMarkedBy pairs on_cycles rs on_reading marks → AreRecurring b pairs next marks
recurring_are b pairs next reading on_cycles rs on_reading marks e c w g m = record {
  wide = m.wide;
  marked = λ i p a.
      let there : (i j : ℕ) → Edge reading i j → ReadingEdge b pairs next i j = λ i j x. let y = (w.edges i j).0 x in (y.0, subst (λ (ms : List Bool). IsMarked ms i) e y.1, subst (λ (ms : List Bool). IsMarked ms j) e y.2) in
      let back : (i j : ℕ) → ReadingEdge b pairs next i j → Edge reading i j = λ i j y. (w.edges i j).1 (y.0, subst (λ (ms : List Bool). IsMarked ms i) (sym e) y.1, subst (λ (ms : List Bool). IsMarked ms j) (sym e) y.2) in
      let k = recurs_is p (is_marked on_cycles i) (is_marked rs i) (is_marked on_reading i) in (
        (λ x. let y = k.0 (sym (m.marked i p a) ∙ (marked_is marks i).1 x) in (
          (c.marked i).0 ((marked_is on_cycles i).0 y.0),
          y.1,
          elim y.2 [
            | inl n ↦ inl (λ z. n ((marked_is rs i).1 (subst (λ (ms : List Bool). IsMarked ms i) (sym e) z)))
            | inr n ↦ inr (leads_map (Edge reading) (ReadingEdge b pairs next) there i i ((g.marked i).0 ((marked_is on_reading i).0 n)))
          ],
        )),
        (λ y. (marked_is marks i).0 (m.marked i p a ∙ k.1 (
          (marked_is on_cycles i).1 ((c.marked i).1 y.0),
          y.1,
          elim y.2 [
            | inl n ↦ inl (λ z. n (subst (λ (ms : List Bool). IsMarked ms i) e ((marked_is rs i).0 z)))
            | inr n ↦ inr ((marked_is on_reading i).1 ((g.marked i).1 (leads_map (ReadingEdge b pairs next) (Edge reading) back i i n)))
          ],
        ))),
      );
}

pub graph_within : (next reading : List (List ℕ)) (marks : List Bool) → IsGraph next → IsWithin next marks reading → IsGraph reading
graph_within next reading marks g w = record { within = λ i j x. subst (λ (n : ℕ). j < n) (sym w.wide) (g.within i j ((w.edges i j).0 x).0) }

pub graph_outside : (next rest : List (List ℕ)) (marks : List Bool) → IsGraph next → IsOutside next marks rest → IsGraph rest
graph_outside next rest marks g w = record { within = λ i j x. subst (λ (n : ℕ). j < n) (sym w.wide) (g.within i j ((w.edges i j).0 x).0) }

pub falling_outside : (next rest : List (List ℕ)) (marks : List Bool) (ranks : List ℕ) → IsOutside next marks rest → AreFalling rest ranks → AreFallingOutside next marks ranks
falling_outside next rest marks ranks w f = record {
  wide = f.wide ∙ w.wide;
  falls = λ i j r s e n a b. f.falls i j r s ((w.edges i j).1 e) (λ x. n (leads_map (Edge rest) (PlainEdge next marks) (λ p q y. (w.edges p q).0 y) j j x)) a b;
}

-- the pairs that are marked
if_in : (p q : Position × Position) (made : List (Position × Position)) (b : Bool) → IsAmong p (made ++ cond b (q ∷ []) []) ↔ (IsAmong p made ⊎ ((p ≡ q) × (b ≡ true)))
if_in p q made true = (
  (λ i. elim (in_last p q made i) [ inl a ↦ inl a | inr e ↦ inr (e, refl) ]),
  (λ i. elim i [ inl a ↦ in_left p made (q ∷ []) a | inr e ↦ in_right p made (q ∷ []) (inl e.0) ]),
)
if_in p q made false = (
  (λ i. elim (in_split p made [] i) [ inl a ↦ inl a | inr e ↦ absurd e ]),
  (λ i. elim i [ inl a ↦ in_left p made [] a | inr e ↦ absurd (let f = e.1 in cc) ]),
)

pub picked_start : (pairs : List (Position × Position)) (marks : List Bool) (made : List (Position × Position)) → made ≡ [] → (p : Position × Position) → IsAmong p made ↔ HasMark pairs marks 0 p
picked_start pairs marks made e p = ((λ i. absurd (subst (IsAmong p) e i)), (λ h. let l = h.within in absurd (omega arith)))

pub picked_step : (pairs : List (Position × Position)) (marks : List Bool) (at : ℕ) (d : Position × Position) (old new : List (Position × Position)) (b : Bool) → ((p : Position × Position) → IsAmong p old ↔ HasMark pairs marks at p) → at < length pairs → b ≡ is_marked marks at
    → new ≡ old ++ cond b (get_or pairs at d ∷ []) [] → (p : Position × Position) → IsAmong p new ↔ HasMark pairs marks (at + 1) p
picked_step pairs marks at d old new b h l i e p = rw e (
  (λ n. elim ((if_in p (get_or pairs at d) old b).0 n) [
    | inl a ↦ let m = (h p).0 a in record { place = m.place; within = (let w = m.within in omega arith); is = m.is; marked = m.marked }
    | inr m ↦ record { place = at; within = omega arith; is = slice_get-get_or pairs at d l ∙ ap Some (sym m.0); marked = (marked_is marks at).0 (sym i ∙ m.1) }
  ]),
  (λ m. (if_in p (get_or pairs at d) old b).1
      (below_more (λ k. slice_get pairs k ≡ Some p → IsMarked marks k → IsAmong p old ⊎ ((p ≡ get_or pairs at d) × (b ≡ true))) at
      (λ k w g x. inl ((h p).1 (record { place = k; within = w; is = g; marked = x })))
      (λ g x. inr (pair_is p (get_or pairs at d) (sym g ∙ slice_get-get_or pairs at d l), i ∙ (marked_is marks at).1 x))
      m.place m.within m.is m.marked)),
)
