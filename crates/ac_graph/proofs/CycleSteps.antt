-- Cycles and edges of graphs, node by node.
use Rattle.std.proofs.Common.{◌≡◌, ◌↔◌, ◌⊎◌, inl, inr, ℕ, zero, suc, ◌+◌, ◌<◌, ◌≤◌, List, [], ◌∷◌, ◌++◌, length, take, get_or, refl, sym, ap, subst, ◌∙◌, arith, Option, Some, None, Bool, true, false, cond, length-append}
use Rattle.std.specs.Prelude.{not, count_by}
use Rattle.std.specs.List.{slice_get}
use Rattle.std.proofs.lemmas.List.{take_all}
use Rattle.std.proofs.lemmas.List.Sums.{sum_by-cons}
use Rattle.std.proofs.lemmas.Option.{slice_get_within}
use borrow.Author.Count.{below_more}
use Rattle.ac_forms.specs.ListMembers.{IsAmong}
use Rattle.ac_graph.specs.Ways.{Leads, one, more, Edge, IsMarked, AreMarks, AreCyclic, IsWithin, IsOutside, AreFalling}
use Rattle.ac_graph.specs.NodeMarks.{is_marked, mark_of}
use Rattle.ac_graph.proofs.Members.{in_left, in_right, in_last, in_split, in_more, in_grown, get_left, get_before, get_last, get_split}

mark_some : (x : Option Bool) → mark_of x ≡ true → x ≡ Some true
mark_some None e = absurd cc
mark_some (Some mark) e = ap Some e

pub marked_is : (marks : List Bool) (v : ℕ) → (is_marked marks v ≡ true) ↔ IsMarked marks v
marked_is marks v = (mark_some (slice_get marks v), (λ m. ap mark_of m))

true_or_not : (b : Bool) → (b ≡ true) ⊎ (b ≡ false)
true_or_not true = inl refl
true_or_not false = inr refl

-- an edge starts at a node
edge_from : (next : List (List ℕ)) (u v : ℕ) → Edge next u v → u < length next
edge_from next u v e = slice_get_within next u e.0 e.1

leads_from : (next : List (List ℕ)) (u v : ℕ) → Leads (Edge next) u v → u < length next
leads_from next u v (one p q e) = edge_from next p q e
leads_from next u v (more p q s w e) = leads_from next u q w

-- marks of the nodes so far
pub record CyclesUpTo (next : List (List ℕ)) (made : List Bool) (node : ℕ) : Type 0 where
  pub wide : length made ≡ node
  pub marked : (v : ℕ) → v < node → IsMarked made v ↔ Leads (Edge next) v v

pub cycles_start : (next : List (List ℕ)) (made : List Bool) → made ≡ [] → CyclesUpTo next made 0
cycles_start next made e = record { wide = ap length e; marked = λ v l. absurd (omega arith) }

mark_before : (made : List Bool) (b : Bool) (v : ℕ) → v < length made → IsMarked (made ++ b ∷ []) v ↔ IsMarked made v
mark_before made b v l = (get_before true made (b ∷ []) v l, get_left true made (b ∷ []) v)

some_is : (a b : Bool) → Some a ≡ Some b → a ≡ b
some_is a b e = cc

mark_last : (made : List Bool) (b : Bool) (v : ℕ) → v ≡ length made → IsMarked (made ++ b ∷ []) v ↔ (b ≡ true)
mark_last made b v e = rw e ((λ m. some_is b true (sym (get_last b made) ∙ m)), (λ t. get_last b made ∙ ap Some t))

pub cycles_step : (next : List (List ℕ)) (made new : List Bool) (node : ℕ) (marks : List Bool) (b : Bool) → CyclesUpTo next made node → AreMarks next node marks → b ≡ is_marked marks node → new ≡ made ++ b ∷ [] → CyclesUpTo next new (node + 1)
cycles_step next made new node marks b h m i e = rw e (record {
  wide = length-append made (b ∷ []) ∙ ap (λ n. n + 1) h.wide;
  marked = below_more (λ v. IsMarked (made ++ b ∷ []) v ↔ Leads (Edge next) v v) node
      (λ v l. let k = mark_before made b v (let w = h.wide in omega arith) in ((λ x. (h.marked v l).0 (k.0 x)), (λ x. k.1 ((h.marked v l).1 x))))
      (let k = mark_last made b node (sym h.wide) in
      ((λ x. (m.marked node).0 ((marked_is marks node).0 (sym i ∙ k.0 x))), (λ x. k.1 (i ∙ (marked_is marks node).1 ((m.marked node).1 x)))));
})

pub cycles_end : (next : List (List ℕ)) (made : List Bool) (node : ℕ) → CyclesUpTo next made node → node ≡ length next → AreCyclic next made
cycles_end next made node h e = record {
  wide = h.wide ∙ e;
  marked = λ v. (
    (λ m. let l = slice_get_within made v true m in let w = h.wide in (h.marked v (omega arith)).0 m),
    (λ w. let l = leads_from next v v w in (h.marked v (omega arith)).1 w),
  );
}

-- nodes that are chosen
if_in : (j n : ℕ) (made : List ℕ) (b : Bool) → IsAmong j (made ++ cond b (n ∷ []) []) ↔ (IsAmong j made ⊎ ((j ≡ n) × (b ≡ true)))
if_in j n made true = (
  (λ i. elim (in_last j n made i) [ inl a ↦ inl a | inr e ↦ inr (e, refl) ]),
  (λ i. elim i [ inl a ↦ in_left j made (n ∷ []) a | inr e ↦ in_right j made (n ∷ []) (inl e.0) ]),
)
if_in j n made false = (
  (λ i. elim (in_split j made [] i) [ inl a ↦ inl a | inr e ↦ absurd e ]),
  (λ i. elim i [ inl a ↦ in_left j made [] a | inr e ↦ absurd (let f = e.1 in cc) ]),
)

pub chosen_start : (P : ℕ → Type 0) (nodes made : List ℕ) → made ≡ [] → (j : ℕ) → IsAmong j made ↔ (IsAmong j (take 0 nodes) × P j)
chosen_start P nodes made e j = ((λ i. absurd (subst (IsAmong j) e i)), (λ i. absurd i.0))

pub chosen_step : (P : ℕ → Type 0) (nodes : List ℕ) (i : ℕ) (old new : List ℕ) (b : Bool) → ((j : ℕ) → IsAmong j old ↔ (IsAmong j (take i nodes) × P j)) → i < length nodes → (b ≡ true) ↔ P (get_or nodes i 0)
    → new ≡ old ++ cond b (get_or nodes i 0 ∷ []) [] → (j : ℕ) → IsAmong j new ↔ (IsAmong j (take (i + 1) nodes) × P j)
chosen_step P nodes i old new b h l t e j = rw e (
  (λ n. elim ((if_in j (get_or nodes i 0) old b).0 n) [
    | inl a ↦ let m = (h j).0 a in (in_grown j 0 nodes i l (inl m.0), m.1)
    | inr m ↦ (in_grown j 0 nodes i l (inr m.0), subst P (sym m.0) (t.0 m.1))
  ]),
  (λ n. (if_in j (get_or nodes i 0) old b).1 (elim (in_more j 0 nodes i l n.0) [ inl a ↦ inl ((h j).1 (a, n.1)) | inr m ↦ inr (m, t.1 (subst P m n.1)) ])),
)

pub chosen_end : (P : ℕ → Type 0) (nodes : List ℕ) (i : ℕ) (made : List ℕ) → ((j : ℕ) → IsAmong j made ↔ (IsAmong j (take i nodes) × P j)) → length nodes ≤ i → (j : ℕ) → IsAmong j made ↔ (IsAmong j nodes × P j)
chosen_end P nodes i made h l = subst (λ (ns : List ℕ). (j : ℕ) → IsAmong j made ↔ (IsAmong j ns × P j)) (take_all i nodes l) h

pub unmarked_is : (marks : List Bool) (v : ℕ) (b : Bool) → b ≡ not (is_marked marks v) → (b ≡ true) ↔ (¬ (IsMarked marks v))
unmarked_is marks v b e = elim (true_or_not (is_marked marks v)) [
  | inl t ↦ ((λ f. let g : not true ≡ true = ap not (sym t) ∙ sym e ∙ f in absurd cc), (λ n. absurd (n ((marked_is marks v).0 t))))
  | inr f ↦ ((λ t m. let g : false ≡ true = sym f ∙ (marked_is marks v).1 m in absurd cc), (λ n. e ∙ ap not f))
]

pub nothing_behind : (marks : List Bool) (v : ℕ) (nodes made : List ℕ) (b : Bool) → b ≡ is_marked marks v → b ≡ false → made ≡ [] → (j : ℕ) → IsAmong j made ↔ (IsAmong j nodes × IsMarked marks v × IsMarked marks j)
nothing_behind marks v nodes made b i f e j = ((λ n. absurd (subst (IsAmong j) e n)), (λ n. let g : false ≡ true = sym f ∙ i ∙ (marked_is marks v).1 n.1 in absurd cc))

pub all_behind : (marks : List Bool) (v : ℕ) (nodes made : List ℕ) (b : Bool) → b ≡ is_marked marks v → b ≡ true → ((j : ℕ) → IsAmong j made ↔ (IsAmong j nodes × IsMarked marks j)) → (j : ℕ) → IsAmong j made ↔ (IsAmong j nodes × IsMarked marks v × IsMarked marks j)
all_behind marks v nodes made b i t h j = ((λ n. let m = (h j).0 n in (m.0, (marked_is marks v).0 (sym i ∙ t), m.1)), (λ n. (h j).1 (n.0, n.2)))

-- the edges of a graph that is made node by node
pub record EdgesUpTo (P : ℕ → ℕ → Type 0) (made : List (List ℕ)) (node : ℕ) : Type 0 where
  pub wide : length made ≡ node
  pub edges : (i : ℕ) → i < node → (j : ℕ) → Edge made i j ↔ P i j

pub edges_start : (P : ℕ → ℕ → Type 0) (made : List (List ℕ)) → made ≡ [] → EdgesUpTo P made 0
edges_start P made e = record { wide = ap length e; edges = λ i l j. absurd (omega arith) }

list_is : (a b : List ℕ) → Some a ≡ Some b → a ≡ b
list_is a b e = cc

pub edges_step : (P : ℕ → ℕ → Type 0) (made new : List (List ℕ)) (node : ℕ) (nodes : List ℕ) → EdgesUpTo P made node → ((j : ℕ) → IsAmong j nodes ↔ P node j) → new ≡ made ++ nodes ∷ [] → EdgesUpTo P new (node + 1)
edges_step P made new node nodes h f e = rw e (record {
  wide = length-append made (nodes ∷ []) ∙ ap (λ n. n + 1) h.wide;
  edges = below_more (λ i. (j : ℕ) → Edge (made ++ nodes ∷ []) i j ↔ P i j) node
      (λ i l j. let b : i < length made = (let w = h.wide in omega arith) in (
        (λ x. (h.edges i l j).0 (x.0, get_before x.0 made (nodes ∷ []) i b x.1, x.2)),
        (λ p. let x = (h.edges i l j).1 p in (x.0, get_left x.0 made (nodes ∷ []) i x.1, x.2)),
      ))
      (λ j. let g : slice_get (made ++ nodes ∷ []) node ≡ Some nodes = subst (λ (k : ℕ). slice_get (made ++ nodes ∷ []) k ≡ Some nodes) h.wide (get_last nodes made) in (
        (λ x. (f j).0 (subst (IsAmong j) (list_is x.0 nodes (sym x.1 ∙ g)) x.2)),
        (λ p. (nodes, g, (f j).1 p)),
      ));
})

pub within_end : (next : List (List ℕ)) (marks : List Bool) (made : List (List ℕ)) (node : ℕ) → EdgesUpTo (λ i j. Edge next i j × IsMarked marks i × IsMarked marks j) made node → node ≡ length next → IsWithin next marks made
within_end next marks made node h e = record {
  wide = h.wide ∙ e;
  edges = λ i j. ((λ x. let l = edge_from made i j x in let w = h.wide in (h.edges i (omega arith) j).0 x), (λ p. let l = edge_from next i j p.0 in (h.edges i (omega arith) j).1 p));
}

pub outside_end : (next : List (List ℕ)) (marks : List Bool) (made : List (List ℕ)) (node : ℕ) → EdgesUpTo (λ i j. Edge next i j × (¬ (IsMarked marks j))) made node → node ≡ length next → IsOutside next marks made
outside_end next marks made node h e = record {
  wide = h.wide ∙ e;
  edges = λ i j. ((λ x. let l = edge_from made i j x in let w = h.wide in (h.edges i (omega arith) j).0 x), (λ p. let l = edge_from next i j p.0 in (h.edges i (omega arith) j).1 p));
}

pub edges_in : (next : List (List ℕ)) (node : ℕ) (nodes : List ℕ) (j : ℕ) → slice_get next node ≡ Some nodes → IsAmong j nodes ↔ Edge next node j
edges_in next node nodes j e = ((λ i. (nodes, e, i)), (λ x. subst (IsAmong j) (list_is x.0 nodes (sym x.1 ∙ e)) x.2))

pub within_at : (next : List (List ℕ)) (marks : List Bool) (node : ℕ) (nodes made : List ℕ) → slice_get next node ≡ Some nodes → ((j : ℕ) → IsAmong j made ↔ (IsAmong j nodes × IsMarked marks node × IsMarked marks j)) → (j : ℕ) → IsAmong j made ↔ (Edge next node j × IsMarked marks node × IsMarked marks j)
within_at next marks node nodes made e h j = ((λ i. let m = (h j).0 i in ((edges_in next node nodes j e).0 m.0, m.1, m.2)), (λ p. (h j).1 ((edges_in next node nodes j e).1 p.0, p.1, p.2)))

pub outside_at : (next : List (List ℕ)) (marks : List Bool) (node : ℕ) (nodes made : List ℕ) → slice_get next node ≡ Some nodes → ((j : ℕ) → IsAmong j made ↔ (IsAmong j nodes × (¬ (IsMarked marks j)))) → (j : ℕ) → IsAmong j made ↔ (Edge next node j × (¬ (IsMarked marks j)))
outside_at next marks node nodes made e h j = ((λ i. let m = (h j).0 i in ((edges_in next node nodes j e).0 m.0, m.1)), (λ p. (h j).1 ((edges_in next node nodes j e).1 p.0, p.1)))

-- counts
count_cons : (m : Bool) (ms : List Bool) → count_by (λ mark. mark) (m ∷ ms) ≡ cond m 1 0 + count_by (λ mark. mark) ms
count_cons m ms = sum_by-cons (λ x. cond x 1 0) m ms

weight : (m n : Bool) → (m ≡ true → n ≡ true) → cond {A = ℕ} m 1 0 ≤ cond n 1 0
weight true true f = omega arith
weight true false f = let e = f refl in absurd cc
weight false true f = omega arith
weight false false f = omega arith

count_le : (ms ns : List Bool) → length ms ≡ length ns → ((v : ℕ) → IsMarked ms v → IsMarked ns v) → count_by (λ mark. mark) ms ≤ count_by (λ mark. mark) ns
count_le [] ns l f = omega arith
count_le (m ∷ ms) [] l f = absurd (omega arith)
count_le (m ∷ ms) (n ∷ ns) l f =
    let r = count_le ms ns (omega arith) (λ v x. f (suc v) x) in
    let w = weight m n (λ e. some_is n true (f 0 (ap Some e))) in
    let a = count_cons m ms in let b = count_cons n ns in omega arith

count_less : (ms ns : List Bool) (j : ℕ) → length ms ≡ length ns → ((v : ℕ) → IsMarked ms v → IsMarked ns v) → IsMarked ns j → ¬ (IsMarked ms j) → count_by (λ mark. mark) ms < count_by (λ mark. mark) ns
count_less [] ns j l f x y = absurd (let w = slice_get_within ns j true x in omega arith)
count_less (m ∷ ms) [] j l f x y = absurd (omega arith)
count_less (m ∷ ms) (n ∷ ns) zero l f x y =
    let r = count_le ms ns (omega arith) (λ v z. f (suc v) z) in
    let a = count_cons m ms in let b = count_cons n ns in
    let u : n ≡ true = some_is n true x in
    let p : cond {A = ℕ} n 1 0 ≡ 1 = ap (λ b. cond {A = ℕ} b 1 0) u in
    let q : cond {A = ℕ} m 1 0 ≡ 0 = elim (true_or_not m) [ inl t ↦ absurd (y (ap Some t)) | inr t ↦ ap (λ b. cond {A = ℕ} b 1 0) t ] in
    omega arith
count_less (m ∷ ms) (n ∷ ns) (suc j) l f x y =
    let r = count_less ms ns j (omega arith) (λ v z. f (suc v) z) x y in
    let w = weight m n (λ e. some_is n true (f 0 (ap Some e))) in
    let a = count_cons m ms in let b = count_cons n ns in omega arith

pub leads_then : {A : Type 0} (R : A → A → Type 0) (p q s : A) → R p q → Leads R q s → Leads R p s
leads_then R p q s r (one q' s' e) = more p q' s' (one p q' r) e
leads_then R p q s r (more q' t s' w e) = more p t s' (leads_then R p q' t r w) e

-- the ranks of the nodes so far
pub record RankOf (next : List (List ℕ)) (v rank : ℕ) : Type 0 where
  pub marks : List Bool
  pub are : AreMarks next v marks
  pub is : rank ≡ count_by (λ mark. mark) marks

pub record RanksUpTo (next : List (List ℕ)) (made : List ℕ) (node : ℕ) : Type 0 where
  pub wide : length made ≡ node
  pub ranks : (v rank : ℕ) → slice_get made v ≡ Some rank → RankOf next v rank

pub ranks_start : (next : List (List ℕ)) (made : List ℕ) → made ≡ [] → RanksUpTo next made 0
ranks_start next made e = rw e (record { wide = refl; ranks = λ v rank g. absurd cc })

pub ranks_step : (next : List (List ℕ)) (made new : List ℕ) (node : ℕ) (marks : List Bool) (rank : ℕ) → RanksUpTo next made node → AreMarks next node marks → rank ≡ count_by (λ mark. mark) marks → new ≡ made ++ rank ∷ [] → RanksUpTo next new (node + 1)
ranks_step next made new node marks rank h m i e = rw e (record {
  wide = length-append made (rank ∷ []) ∙ ap (λ n. n + 1) h.wide;
  ranks = λ v r g. elim (get_split r rank made v g) [
    | inl x ↦ h.ranks v r x
    | inr x ↦ subst (λ (k : ℕ). RankOf next k r) (sym (x.0 ∙ h.wide)) (record { marks = marks; are = m; is = x.1 ∙ i })
  ];
})

pub ranks_end : (next : List (List ℕ)) (made : List ℕ) (node : ℕ) → RanksUpTo next made node → node ≡ length next → AreFalling next made
ranks_end next made node h e = record {
  wide = h.wide ∙ e;
  falls = λ i j r s edge n a b.
      let x = h.ranks i r a in let y = h.ranks j s b in
      let c = count_less y.marks x.marks j (y.are.wide ∙ sym x.are.wide) (λ v m. (x.are.marked v).1 (leads_then (Edge next) i j v edge ((y.are.marked v).0 m))) ((x.are.marked j).1 (one i j edge)) (λ m. n ((y.are.marked j).0 m)) in
      let p = x.is in let q = y.is in omega arith;
}
