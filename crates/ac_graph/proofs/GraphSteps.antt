-- From the pairs' numbers to the pairs: edges are moves, and marks and numbers mean what they are to.
use Rattle.std.proofs.Common.{◌≡◌, ◌↔◌, ◌⊎◌, inl, inr, ℕ, zero, suc, ◌<◌, List, [], ◌∷◌, length, refl, sym, ap, subst, ◌∙◌, arith, Some, option_map, Bool, true, false}
use Rattle.std.specs.List.{slice_get}
use Rattle.std.proofs.lemmas.Option.{slice_get_within, slice_get-map}
use Rattle.ac_syntax.specs.declared.tree.Position.{Position}
use Rattle.ac_forms.specs.ListMembers.{IsAmong}
use Rattle.ac_graph.specs.NodeMarks.{is_marked}
use Rattle.ac_graph.specs.PairMoves.{Dependences, Moves, AreDistinct, AreReached, HasReader, ReadingMove, IsRecurrent, AreRecurrent, AreRanks}
use Rattle.ac_graph.specs.ProgramOutlines.{AreOutlinesOf, reads_at}
use Rattle.ac_graph.specs.Recurrence.{has_reader, readers, ReadingEdge, AreRecurring, PlainEdge, AreFallingOutside, HasMark}
use Rattle.ac_graph.specs.Reachability.{AreAllReached}
use Rattle.ac_graph.specs.Ways.{Leads, one, more, Edge, IsGraph, IsMarked}
use Rattle.ac_graph.specs.declared.programs.Both.{Both}
use Rattle.ac_graph.proofs.CycleSteps.{marked_is}
use Rattle.ac_graph.proofs.LawSteps.{Away, CallsDescend, EdgesLead, no_cycle}
use Rattle.ac_graph.proofs.Linking.{reader_linked}
use Rattle.ac_graph.proofs.Members.{at_in, in_at}
use Rattle.ac_graph.proofs.RecurSteps.{or_is}
use Rattle.ac_graph.proofs.SiteSteps.{reaches_as}

item_of : {A : Type 0} (xs : List A) (i : ℕ) → i < length xs → (x : A) × (slice_get xs i ≡ Some x)
item_of [] i l = absurd (omega arith)
item_of (x ∷ xs) zero l = (x, refl)
item_of (x ∷ xs) (suc i) l = item_of xs i (omega arith)

one_item : {A : Type 0} (x y : A) (xs : List A) (k : ℕ) → slice_get xs k ≡ Some x → slice_get xs k ≡ Some y → x ≡ y
one_item x y xs k e f = cc

pub graph_of : (d : Dependences) (starts pairs : List (Position × Position)) (next : List (List ℕ)) → AreAllReached d starts pairs next → IsGraph next
graph_of d starts pairs next h = record {
  within = λ i j e.
      let l = slice_get_within next i e.0 e.1 in
      let w = h.each in
      let b : i < length pairs = omega arith in
      let p = item_of pairs i b in
      let s = (h.follows i e.0 p.0 e.1 p.1).sound j e.2 in
      let k = slice_get_within pairs j s.0 s.2 in omega arith;
}

-- ---- what stands for pairs

-- steps of numbers are steps of the pairs with these numbers
record Mirrors (pairs : List (Position × Position)) (E : ℕ → ℕ → Type 0) (R : Position × Position → Position × Position → Type 0) : Type 0 where
  down : (i j : ℕ) (p : Position × Position) → slice_get pairs i ≡ Some p → E i j → (q : Position × Position) × (slice_get pairs j ≡ Some q) × R p q
  up : (i : ℕ) (p q : Position × Position) → slice_get pairs i ≡ Some p → R p q → (j : ℕ) × (slice_get pairs j ≡ Some q) × E i j

leads_down : (pairs : List (Position × Position)) (E : ℕ → ℕ → Type 0) (R : Position × Position → Position × Position → Type 0) → Mirrors pairs E R → (i j : ℕ) → Leads E i j → (p : Position × Position) → slice_get pairs i ≡ Some p
    → (q : Position × Position) × (slice_get pairs j ≡ Some q) × Leads R p q
leads_down pairs E R m i j (one i' j' e) p g = let a = m.down i' j' p g e in (a.0, a.1, one p a.0 a.2)
leads_down pairs E R m i j (more i' k j' w e) p g = let a = leads_down pairs E R m i' k w p g in let b = m.down k j' a.0 a.1 e in (b.0, b.1, more p a.0 b.0 a.2 b.2)

leads_up : (pairs : List (Position × Position)) (E : ℕ → ℕ → Type 0) (R : Position × Position → Position × Position → Type 0) → Mirrors pairs E R → (p q : Position × Position) → Leads R p q → (i : ℕ) → slice_get pairs i ≡ Some p
    → (j : ℕ) × (slice_get pairs j ≡ Some q) × Leads E i j
leads_up pairs E R m p q (one p' q' e) i g = let a = m.up i p' q' g e in (a.0, a.1, one i a.0 a.2)
leads_up pairs E R m p q (more p' r q' w e) i g = let a = leads_up pairs E R m p' r w i g in let b = m.up a.0 r q' a.1 e in (b.0, b.1, more i a.0 b.0 a.2 b.2)

cycle_is : (pairs : List (Position × Position)) (E : ℕ → ℕ → Type 0) (R : Position × Position → Position × Position → Type 0) → AreDistinct pairs → Mirrors pairs E R → (i : ℕ) (p : Position × Position) → slice_get pairs i ≡ Some p → Leads E i i ↔ Leads R p p
cycle_is pairs E R dis m i p g = (
  (λ w. let a = leads_down pairs E R m i i w p g in subst (λ (q : Position × Position). Leads R p q) (one_item a.0 p pairs i a.1 g) a.2),
  (λ w. let a = leads_up pairs E R m p p w i g in subst (λ (j : ℕ). Leads E i j) (dis a.0 i p a.1 g) a.2),
)

moves_mirror : (d : Dependences) (starts pairs : List (Position × Position)) (next : List (List ℕ)) → AreAllReached d starts pairs next → Mirrors pairs (Edge next) (Moves d)
moves_mirror d starts pairs next h = record {
  down = λ i j p g e. let s = (h.follows i e.0 p e.1 g).sound j e.2 in (s.0, s.2, s.1);
  up = λ i p q g m.
      let l = slice_get_within pairs i p g in let w = h.each in
      let n = item_of next i (omega arith) in
      let s = (h.follows i n.0 p n.1 g).whole q m in (s.0, s.2, (n.0, n.1, s.1));
}

some_true : (b : Bool) → Some b ≡ Some true → b ≡ true
some_true b e = cc

reads_or : (d : Dependences) (b : Both) (p : Position × Position) → AreOutlinesOf d.programs b → (has_reader b p ≡ true) ↔ HasReader d p
reads_or d b p o =
    let k = or_is (reads_at b.left p.0) (reads_at b.right p.1) in
    let l = reader_linked d.programs.left b.left o.left p.0 in
    let r = reader_linked d.programs.right b.right o.right p.1 in (
      (λ e. elim (k.0 e) [ inl x ↦ inl (l.0 x) | inr x ↦ inr (r.0 x) ]),
      (λ h. k.1 (elim h [ inl x ↦ inl (l.1 x) | inr x ↦ inr (r.1 x) ])),
    )

reader_is : (d : Dependences) (b : Both) (pairs : List (Position × Position)) → AreOutlinesOf d.programs b → (i : ℕ) (p : Position × Position) → slice_get pairs i ≡ Some p → IsMarked (readers b pairs) i ↔ HasReader d p
reader_is d b pairs o i p g =
    let e : slice_get (readers b pairs) i ≡ Some (has_reader b p) = slice_get-map (has_reader b) pairs i ∙ ap (option_map (has_reader b)) g in
    let k = reads_or d b p o in (
      (λ m. k.0 (some_true (has_reader b p) (sym e ∙ m))),
      (λ h. e ∙ ap Some (k.1 h)),
    )

reading_mirror : (d : Dependences) (b : Both) (starts pairs : List (Position × Position)) (next : List (List ℕ)) → AreOutlinesOf d.programs b → AreAllReached d starts pairs next → Mirrors pairs (ReadingEdge b pairs next) (ReadingMove d)
reading_mirror d b starts pairs next o h =
    let m = moves_mirror d starts pairs next h in
    record {
      down = λ i j p g e. let a = m.down i j p g e.0 in (a.0, a.1, record { moves = a.2; from = (reader_is d b pairs o i p g).0 e.1; to = (reader_is d b pairs o j a.0 a.1).0 e.2 });
      up = λ i p q g r. let a = m.up i p q g r.moves in (a.0, a.1, (a.2, (reader_is d b pairs o i p g).1 r.from, (reader_is d b pairs o a.0 q a.1).1 r.to));
    }

recurs_is : (d : Dependences) (b : Both) (starts pairs : List (Position × Position)) (next : List (List ℕ)) (marks : List Bool) → AreOutlinesOf d.programs b → AreAllReached d starts pairs next → AreRecurring b pairs next marks
    → (i : ℕ) (p : Position × Position) → slice_get pairs i ≡ Some p → IsMarked marks i ↔ IsRecurrent d p
recurs_is d b starts pairs next marks o h r i p g =
    let c = cycle_is pairs (Edge next) (Moves d) h.distinct (moves_mirror d starts pairs next h) i p g in
    let k = cycle_is pairs (ReadingEdge b pairs next) (ReadingMove d) h.distinct (reading_mirror d b starts pairs next o h) i p g in
    let n = reader_is d b pairs o i p g in
    let m = r.marked i p g in (
      (λ x. let y = m.0 x in record { cycle = c.0 y.0; root = y.1; reading = elim y.2 [ inl z ↦ inl (λ t. z (n.1 t)) | inr z ↦ inr (k.0 z) ] }),
      (λ x. m.1 (c.1 x.cycle, x.root, elim x.reading [ inl z ↦ inl (λ t. z (n.0 t)) | inr z ↦ inr (k.1 z) ])),
    )

away_mirror : (d : Dependences) (b : Both) (starts pairs : List (Position × Position)) (next : List (List ℕ)) (marks : List Bool) → AreOutlinesOf d.programs b → AreAllReached d starts pairs next → AreRecurring b pairs next marks → Mirrors pairs (PlainEdge next marks) (Away d)
away_mirror d b starts pairs next marks o h r =
    let m = moves_mirror d starts pairs next h in
    let k = recurs_is d b starts pairs next marks o h r in
    record {
      down = λ i j p g e. let a = m.down i j p g e.0 in (a.0, a.1, record { moves = a.2; away = λ x. e.1 ((k j a.0 a.1).1 x) });
      up = λ i p q g x. let a = m.up i p q g x.moves in (a.0, a.1, (a.2, λ y. x.away ((k a.0 q a.1).0 y)));
    }

pub recurrent_are : (d : Dependences) (b : Both) (starts pairs recurrent : List (Position × Position)) (next : List (List ℕ)) (marks : List Bool) → AreOutlinesOf d.programs b → AreAllReached d starts pairs next → AreRecurring b pairs next marks
    → ((p : Position × Position) → IsAmong p recurrent ↔ HasMark pairs marks (length pairs) p) → AreRecurrent d pairs recurrent
recurrent_are d b starts pairs recurrent next marks o h r f p =
    let k = recurs_is d b starts pairs next marks o h r in (
      (λ i. let m = (f p).0 i in (in_at p pairs m.place m.is, (k m.place p m.is).0 m.marked)),
      (λ x. let i = at_in p pairs x.0 in (f p).1 (record { place = i.0; within = slice_get_within pairs i.0 p i.1; is = i.1; marked = (k i.0 p i.1).1 x.1 })),
    )

true_or : (b : Bool) → (b ≡ true) ⊎ (b ≡ false)
true_or true = inl refl
true_or false = inr refl

marked_or_not : (marks : List Bool) (j : ℕ) → IsMarked marks j ⊎ ¬ (IsMarked marks j)
marked_or_not marks j = let k = marked_is marks j in elim (true_or (is_marked marks j)) [ inl t ↦ inl (k.0 t) | inr f ↦ inr (λ m. let t = k.1 m in let e : false ≡ true = sym f ∙ t in absurd cc) ]

pub ranks_are : (d : Dependences) (b : Both) (starts pairs recurrent : List (Position × Position)) (next : List (List ℕ)) (marks : List Bool) (ranks : List ℕ) → AreOutlinesOf d.programs b → AreAllReached d starts pairs next → AreRecurring b pairs next marks → AreRecurrent d pairs recurrent
    → AreFallingOutside next marks ranks → CallsDescend d.programs.left → EdgesLead d.left → EdgesLead d.right → AreRanks d pairs recurrent ranks
ranks_are d b starts pairs recurrent next marks ranks o h r f x c el er = record {
  each = x.wide ∙ h.each;
  falls = λ i rank p q g a m.
      let s = (moves_mirror d starts pairs next h).up i p q g m in
      elim (marked_or_not marks s.0) [
        | inl t ↦ inl ((f q).1 (in_at q pairs s.0 s.1, (recurs_is d b starts pairs next marks o h r s.0 q s.1).0 t))
        | inr t ↦
            let l = slice_get_within pairs s.0 q s.1 in let w = h.each in let v = x.wide in
            let own = item_of ranks s.0 (omega arith) in
            inr (record {
              place = s.0;
              is = s.1;
              own = own.0;
              own_is = own.1;
              less = x.falls i s.0 rank own.0 (s.2, t)
                  (λ y. no_cycle d c el er q ((cycle_is pairs (PlainEdge next marks) (Away d) h.distinct (away_mirror d b starts pairs next marks o h r) s.0 q s.1).0 y)) a own.1;
            })
      ];
}

pub recurring_at : (b : Both) (pairs seen : List (Position × Position)) (next nodes : List (List ℕ)) (marks : List Bool) → seen ≡ pairs → nodes ≡ next → AreRecurring b seen nodes marks → AreRecurring b pairs next marks
recurring_at b pairs seen next nodes marks e f h = subst (λ (ns : List (List ℕ)). AreRecurring b pairs ns marks) f (subst (λ (ps : List (Position × Position)). AreRecurring b ps nodes marks) e h)

pub marked_at : (pairs seen recurrent : List (Position × Position)) (marks shown : List Bool) → seen ≡ pairs → shown ≡ marks → ((p : Position × Position) → IsAmong p recurrent ↔ HasMark seen shown (length seen) p) → (p : Position × Position) → IsAmong p recurrent ↔ HasMark pairs marks (length pairs) p
marked_at pairs seen recurrent marks shown e f h =
    subst (λ (ms : List Bool). (p : Position × Position) → IsAmong p recurrent ↔ HasMark pairs ms (length pairs) p) f
    (subst (λ (ps : List (Position × Position)). (p : Position × Position) → IsAmong p recurrent ↔ HasMark ps shown (length ps) p) e h)

pub falling_at : (next nodes : List (List ℕ)) (marks shown : List Bool) (ranks : List ℕ) → nodes ≡ next → shown ≡ marks → AreFallingOutside nodes shown ranks → AreFallingOutside next marks ranks
falling_at next nodes marks shown ranks e f h = subst (λ (ms : List Bool). AreFallingOutside next ms ranks) f (subst (λ (ns : List (List ℕ)). AreFallingOutside ns shown ranks) e h)

pub reached_from : (d : Dependences) (starts others pairs : List (Position × Position)) (next : List (List ℕ)) → AreAllReached d starts pairs next → ((p : Position × Position) → IsAmong p starts ↔ IsAmong p others) → AreReached d others pairs
reached_from d starts others pairs next h f p = (
  (λ i. reaches_as d starts others (λ q. (f q).0) p ((h.reached p).0 i)),
  (λ r. (h.reached p).1 (reaches_as d others starts (λ q. (f q).1) p r)),
)
