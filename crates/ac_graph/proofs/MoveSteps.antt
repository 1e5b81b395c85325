-- How lists of pairs grow by the edges and the arguments of pairs.
use Rattle.std.proofs.Common.{◌≡◌, ◌↔◌, ◌⊎◌, inl, inr, ℕ, zero, suc, ◌+◌, ◌<◌, ◌≤◌, List, [], ◌∷◌, ◌++◌, length, map, take, get_or, refl, sym, ap, subst, ◌∙◌, arith, Option, Some, None, option_map, option_and_then, Bool, true, false, ◌&&◌}
use Rattle.std.specs.Prelude.{nat_eq}
use Rattle.std.proofs.lemmas.Bool.{eqb-true, eq-eqb}
use Rattle.ac_syntax.specs.declared.tree.Position.{Position}
use Rattle.ac_syntax.specs.declared.tree.Position.TheVariants.{Output, Node, InitialOutput, InitialNode}
use Rattle.ac_forms.specs.ListMembers.{IsAmong}
use Rattle.std.specs.List.{slice_get}
use Rattle.std.proofs.lemmas.List.{take_all}
use Rattle.std.proofs.lemmas.Option.{slice_get_within, slice_get-map}
use borrow.Author.Count.{below_more}
use Rattle.ac_syntax.specs.declared.tree.Order.{Order}
use Rattle.ac_syntax.specs.declared.tree.Order.TheVariants.{Keep, Swap}
use Rattle.ac_syntax.specs.declared.tree.Symbol.{Symbol}
use Rattle.ac_poly.specs.declared.types.Model.{Model}
use Rattle.ac_poly.specs.declared.types.NodeModel.{NodeModel}
use Rattle.ac_poly.specs.declared.types.NodeModel.TheVariants as node
use Rattle.ac_claims_paths.specs.ModelPositions.{CallAt, call_at, call_of, read_of, node_at}
use Rattle.ac_claims_paths.specs.declared.places.CellForms.{CellForms}
use Rattle.ac_claims_paths.specs.Pairs.{ArgumentsMeet}
use Rattle.ac_graph.specs.PairMoves.{Dependences, IsReader, ArgumentMove, Moves}
use Rattle.ac_claims.specs.ProofEnds.{same_position, same_pair}
use Rattle.ac_graph.specs.Reachability.{IsMore, IsLeftOf, IsRightOf, IsArgumentOf, IsKeptOf, IsMetOf, IsArgumentMoveOf}
use Rattle.ac_graph.proofs.Members.{in_left, in_right, in_last, in_more, in_grown}
use Rattle.ac_claims.proofs.Plans.{position_is}

both_true : (a b : Bool) → (a && b) ≡ true → (a ≡ true) × (b ≡ true)
both_true true b e = (refl, e)
both_true false b e = cc

pub true_both : (a b : Bool) → a ≡ true → b ≡ true → (a && b) ≡ true
true_both a b e f = rw (e, f) refl

pub same_self : (p : Position) → same_position p p ≡ true
same_self (Output o) = eq-eqb o o refl
same_self (Node s k) = true_both (nat_eq s s) (nat_eq k k) (eq-eqb s s refl) (eq-eqb k k refl)
same_self (InitialOutput o) = eq-eqb o o refl
same_self (InitialNode s k) = true_both (nat_eq s s) (nat_eq k k) (eq-eqb s s refl) (eq-eqb k k refl)

pub position_not : (p q : Position) → same_position p q ≡ false → ¬ (p ≡ q)
position_not p q f e = let t : same_position p q ≡ true = subst (λ x. same_position p x ≡ true) e (same_self p) in let c : false ≡ true = sym f ∙ t in cc

pub pair_is : (p q : Position × Position) → same_pair p q ≡ true → p ≡ q
pair_is p q e = let b = both_true (same_position p.0 q.0) (same_position p.1 q.1) e in let x = position_is p.0 q.0 b.0 in let y = position_is p.1 q.1 b.1 in λ i. (x i, y i)

pub pair_not : (p q : Position × Position) → same_pair p q ≡ false → ¬ (p ≡ q)
pair_not p q f e = let t : same_pair p q ≡ true = subst (λ (x : Position × Position). same_pair p x ≡ true) e (true_both (same_position p.0 p.0) (same_position p.1 p.1) (same_self p.0) (same_self p.1)) in let c : false ≡ true = sym f ∙ t in cc

-- growing lists
pub more_none : (P : Position × Position → Type 0) (old : List (Position × Position)) → ((q : Position × Position) → ¬ (P q)) → IsMore P old old
more_none P old n q = ((λ h. inl h), (λ h. elim h [ inl a ↦ a | inr b ↦ absurd (n q b) ]))

pub more_push : (P : Position × Position → Type 0) (old new : List (Position × Position)) (x : Position × Position) → new ≡ old ++ x ∷ [] → ((q : Position × Position) → P q ↔ (q ≡ x)) → IsMore P old new
more_push P old new x e h q = (
  (λ m. elim (in_last q x old (subst (IsAmong q) e m)) [ inl a ↦ inl a | inr b ↦ inr ((h q).1 b) ]),
  (λ m. subst (IsAmong q) (sym e) (elim m [ inl a ↦ in_left q old (x ∷ []) a | inr b ↦ in_right q old (x ∷ []) (inl ((h q).0 b)) ])),
)

pub more_known : (P : Position × Position → Type 0) (old : List (Position × Position)) → ((q : Position × Position) → P q → IsAmong q old) → IsMore P old old
more_known P old h q = ((λ m. inl m), (λ m. elim m [ inl a ↦ a | inr b ↦ h q b ]))

pub more_then : (P Q R : Position × Position → Type 0) (old mid new : List (Position × Position)) → IsMore P old mid → IsMore Q mid new → ((q : Position × Position) → R q ↔ (P q ⊎ Q q)) → IsMore R old new
more_then P Q R old mid new f g h q = (
  (λ m. elim ((g q).0 m) [ inl a ↦ elim ((f q).0 a) [ inl b ↦ inl b | inr b ↦ inr ((h q).1 (inl b)) ] | inr a ↦ inr ((h q).1 (inr a)) ]),
  (λ m. (g q).1 (elim m [ inl a ↦ inl ((f q).1 (inl a)) | inr a ↦ elim ((h q).0 a) [ inl b ↦ inl ((f q).1 (inr b)) | inr b ↦ inr b ] ])),
)

pub more_same : (P Q : Position × Position → Type 0) (old new : List (Position × Position)) → IsMore P old new → ((q : Position × Position) → Q q ↔ P q) → IsMore Q old new
more_same P Q old new f h q = (
  (λ m. elim ((f q).0 m) [ inl a ↦ inl a | inr b ↦ inr ((h q).1 b) ]),
  (λ m. (f q).1 (elim m [ inl a ↦ inl a | inr b ↦ inr ((h q).0 b) ])),
)

-- along the edges, one after another
pub left_step : (edges : List (Position × Position)) (p : Position × Position) (i : ℕ) (d : Position × Position) (old mid new : List (Position × Position)) → IsMore (IsLeftOf (take i edges) p) old mid → i < length edges
    → IsMore (λ q. (get_or edges i d ≡ (p.0, q.0)) × (q.1 ≡ p.1)) mid new → IsMore (IsLeftOf (take (i + 1) edges) p) old new
left_step edges p i d old mid new f l g =
    more_then (IsLeftOf (take i edges) p) (λ q. (get_or edges i d ≡ (p.0, q.0)) × (q.1 ≡ p.1)) (IsLeftOf (take (i + 1) edges) p) old mid new f g
    (λ q. (
      (λ h. elim (in_more (p.0, q.0) d edges i l h.0) [ inl a ↦ inl (a, h.1) | inr b ↦ inr (sym b, h.1) ]),
      (λ h. elim h [ inl a ↦ (in_grown (p.0, q.0) d edges i l (inl a.0), a.1) | inr b ↦ (in_grown (p.0, q.0) d edges i l (inr (sym b.0)), b.1) ]),
    ))

pub left_start : (edges : List (Position × Position)) (p : Position × Position) (old : List (Position × Position)) → IsMore (IsLeftOf (take 0 edges) p) old old
left_start edges p old = more_none (IsLeftOf (take 0 edges) p) old (λ q h. h.0)

pub left_end : (edges : List (Position × Position)) (p : Position × Position) (i : ℕ) (old new : List (Position × Position)) → IsMore (IsLeftOf (take i edges) p) old new → length edges ≤ i → IsMore (IsLeftOf edges p) old new
left_end edges p i old new f l = subst (λ (es : List (Position × Position)). IsMore (IsLeftOf es p) old new) (take_all i edges l) f

pub right_step : (edges : List (Position × Position)) (p : Position × Position) (i : ℕ) (d : Position × Position) (old mid new : List (Position × Position)) → IsMore (IsRightOf (take i edges) p) old mid → i < length edges
    → IsMore (λ q. (get_or edges i d ≡ (p.1, q.1)) × (q.0 ≡ p.0)) mid new → IsMore (IsRightOf (take (i + 1) edges) p) old new
right_step edges p i d old mid new f l g =
    more_then (IsRightOf (take i edges) p) (λ q. (get_or edges i d ≡ (p.1, q.1)) × (q.0 ≡ p.0)) (IsRightOf (take (i + 1) edges) p) old mid new f g
    (λ q. (
      (λ h. elim (in_more (p.1, q.1) d edges i l h.0) [ inl a ↦ inl (a, h.1) | inr b ↦ inr (sym b, h.1) ]),
      (λ h. elim h [ inl a ↦ (in_grown (p.1, q.1) d edges i l (inl a.0), a.1) | inr b ↦ (in_grown (p.1, q.1) d edges i l (inr (sym b.0)), b.1) ]),
    ))

pub right_start : (edges : List (Position × Position)) (p : Position × Position) (old : List (Position × Position)) → IsMore (IsRightOf (take 0 edges) p) old old
right_start edges p old = more_none (IsRightOf (take 0 edges) p) old (λ q h. h.0)

pub right_end : (edges : List (Position × Position)) (p : Position × Position) (i : ℕ) (old new : List (Position × Position)) → IsMore (IsRightOf (take i edges) p) old new → length edges ≤ i → IsMore (IsRightOf edges p) old new
right_end edges p i old new f l = subst (λ (es : List (Position × Position)). IsMore (IsRightOf es p) old new) (take_all i edges l) f

pub left_edge : (e p : Position × Position) (old new : List (Position × Position)) → same_position e.0 p.0 ≡ true → new ≡ old ++ (e.1, p.1) ∷ [] → IsMore (λ q. (e ≡ (p.0, q.0)) × (q.1 ≡ p.1)) old new
left_edge e p old new t n =
    more_push (λ q. (e ≡ (p.0, q.0)) × (q.1 ≡ p.1)) old new (e.1, p.1) n
    (λ q. (
      (λ h. let x = ap (λ (r : Position × Position). r.1) h.0 in λ i. (sym x i, h.1 i)),
      (λ h. let x = position_is e.0 p.0 t in let y = ap (λ (r : Position × Position). r.0) h in let z = ap (λ (r : Position × Position). r.1) h in ((λ i. (x i, sym y i)), z)),
    ))

pub not_left_edge : (e p : Position × Position) (old : List (Position × Position)) → same_position e.0 p.0 ≡ false → IsMore (λ q. (e ≡ (p.0, q.0)) × (q.1 ≡ p.1)) old old
not_left_edge e p old f = more_none (λ q. (e ≡ (p.0, q.0)) × (q.1 ≡ p.1)) old (λ q h. position_not e.0 p.0 f (ap (λ (r : Position × Position). r.0) h.0))

pub right_edge : (e p : Position × Position) (old new : List (Position × Position)) → same_position e.0 p.1 ≡ true → new ≡ old ++ (p.0, e.1) ∷ [] → IsMore (λ q. (e ≡ (p.1, q.1)) × (q.0 ≡ p.0)) old new
right_edge e p old new t n =
    more_push (λ q. (e ≡ (p.1, q.1)) × (q.0 ≡ p.0)) old new (p.0, e.1) n
    (λ q. (
      (λ h. let x = ap (λ (r : Position × Position). r.1) h.0 in λ i. (h.1 i, sym x i)),
      (λ h. let x = position_is e.0 p.1 t in let y = ap (λ (r : Position × Position). r.0) h in let z = ap (λ (r : Position × Position). r.1) h in ((λ i. (x i, sym z i)), y)),
    ))

pub not_right_edge : (e p : Position × Position) (old : List (Position × Position)) → same_position e.0 p.1 ≡ false → IsMore (λ q. (e ≡ (p.1, q.1)) × (q.0 ≡ p.0)) old old
not_right_edge e p old f = more_none (λ q. (e ≡ (p.1, q.1)) × (q.0 ≡ p.0)) old (λ q h. position_not e.0 p.1 f (ap (λ (r : Position × Position). r.0) h.0))

-- arguments
pub kept_start : (left right : CallAt) (old : List (Position × Position)) → IsMore (IsKeptOf left right 0) old old
kept_start left right old = more_none (IsKeptOf left right 0) old (λ q h. let l = h.1 in absurd (omega arith))

pub kept_step : (left right : CallAt) (k : ℕ) (old mid new : List (Position × Position)) → IsMore (IsKeptOf left right k) old mid → IsMore (IsArgumentOf left k right k) mid new → IsMore (IsKeptOf left right (k + 1)) old new
kept_step left right k old mid new f g =
    more_then (IsKeptOf left right k) (IsArgumentOf left k right k) (IsKeptOf left right (k + 1)) old mid new f g
    (λ q. (
      (λ h. below_more (λ j. IsArgumentOf left j right j q → IsKeptOf left right k q ⊎ IsArgumentOf left k right k q) k (λ j b a. inl (j, omega (arith, b), a)) (λ a. inr a) h.0 (let b = h.1 in omega arith) h.2),
      (λ h. elim h [ inl a ↦ (a.0, (let b = a.1 in omega arith), a.2) | inr a ↦ (k, omega arith, a) ]),
    ))

same_some : {A : Type 0} (x y : A) → Some x ≡ Some y → x ≡ y
same_some x y e = cc

argument_got : (s i k : ℕ) (xs : List ℕ) → slice_get xs i ≡ Some k → slice_get (map (Node s) xs) i ≡ Some (Node s k)
argument_got s i k xs e = slice_get-map (Node s) xs i ∙ ap (option_map (Node s)) e

argument_not : (s i : ℕ) (xs : List ℕ) (p : Position) → slice_get xs i ≡ None → slice_get (map (Node s) xs) i ≡ Some p → ⊥
argument_not s i xs p e f = let g : slice_get (map (Node s) xs) i ≡ None = slice_get-map (Node s) xs i ∙ ap (option_map (Node s)) e in let h : None ≡ Some p = sym g ∙ f in absurd cc

pub argument_pushed : (s t : ℕ) (xs ys : List ℕ) (f g : Symbol) (i j k l : ℕ) (old new : List (Position × Position)) → slice_get xs i ≡ Some k → slice_get ys j ≡ Some l → new ≡ old ++ (Node s k, Node t l) ∷ []
    → IsMore (IsArgumentOf (record { symbol = f; args = map (Node s) xs }) i (record { symbol = g; args = map (Node t) ys }) j) old new
argument_pushed s t xs ys f g i j k l old new a b e =
    more_push (IsArgumentOf (record { symbol = f; args = map (Node s) xs }) i (record { symbol = g; args = map (Node t) ys }) j) old new (Node s k, Node t l) e
    (λ q. (
      (λ h. let x = same_some q.0 (Node s k) (sym h.0 ∙ argument_got s i k xs a) in let y = same_some q.1 (Node t l) (sym h.1 ∙ argument_got t j l ys b) in λ n. (x n, y n)),
      (λ h. (argument_got s i k xs a ∙ ap (λ (r : Position × Position). Some r.0) (sym h), argument_got t j l ys b ∙ ap (λ (r : Position × Position). Some r.1) (sym h))),
    ))

pub not_argument : (s t : ℕ) (xs ys : List ℕ) (f g : Symbol) (i j : ℕ) (old : List (Position × Position)) → (slice_get xs i ≡ None) ⊎ (slice_get ys j ≡ None)
    → IsMore (IsArgumentOf (record { symbol = f; args = map (Node s) xs }) i (record { symbol = g; args = map (Node t) ys }) j) old old
not_argument s t xs ys f g i j old n =
    more_none (IsArgumentOf (record { symbol = f; args = map (Node s) xs }) i (record { symbol = g; args = map (Node t) ys }) j) old
    (λ q h. elim n [ inl e ↦ argument_not s i xs q.0 e h.0 | inr e ↦ argument_not t j ys q.1 e h.1 ])

argument_below : (left : CallAt) (i : ℕ) (p : Position) → slice_get left.args i ≡ Some p → i < length left.args
argument_below left i p e = slice_get_within left.args i p e

kept_of : (swaps : Symbol → Bool) (left right : CallAt) (q : Position × Position) (o : Order) (i j : ℕ) → ArgumentsMeet swaps o left.symbol i j → IsArgumentOf left i right j q
    → IsKeptOf left right (length left.args) q ⊎ ((swaps left.symbol ≡ true) × (i + j ≡ 1))
kept_of swaps left right q Keep i j m a = inl (i, omega (arith, argument_below left i q.0 a.0), subst (λ (k : ℕ). IsArgumentOf left i right k q) (sym m) a)
kept_of swaps left right q Swap i j m a = inr m

-- those that meet where nothing may be swapped
pub met_kept : (swaps : Symbol → Bool) (left right : CallAt) (old new : List (Position × Position)) → IsMore (IsKeptOf left right (length left.args)) old new → swaps left.symbol ≡ false → IsMore (IsMetOf swaps left right) old new
met_kept swaps left right old new f s =
    more_same (IsKeptOf left right (length left.args)) (IsMetOf swaps left right) old new f
    (λ q. (
      (λ h. elim (kept_of swaps left right q h.0 h.1 h.2 h.3 h.4) [ inl a ↦ a | inr b ↦ let c : false ≡ true = sym s ∙ b.0 in absurd cc ]),
      (λ h. (Keep, h.0, h.0, refl, h.2)),
    ))

one_of : (i j : ℕ) → i + j ≡ 1 → ((i ≡ 0) × (j ≡ 1)) ⊎ ((i ≡ 1) × (j ≡ 0))
one_of zero j e = inl (refl, omega arith)
one_of (suc i) j e = inr (omega arith, omega arith)

-- and where the two arguments may be swapped
pub met_swapped : (swaps : Symbol → Bool) (left right : CallAt) (old kept mid new : List (Position × Position)) → IsMore (IsKeptOf left right (length left.args)) old kept → IsMore (IsArgumentOf left 0 right 1) kept mid → IsMore (IsArgumentOf left 1 right 0) mid new
    → swaps left.symbol ≡ true → IsMore (IsMetOf swaps left right) old new
met_swapped swaps left right old kept mid new f g h s =
    let Crossed : Position × Position → Type 0 = λ q. IsArgumentOf left 0 right 1 q ⊎ IsArgumentOf left 1 right 0 q in
    more_then (IsKeptOf left right (length left.args)) Crossed (IsMetOf swaps left right) old kept new f
    (more_then (IsArgumentOf left 0 right 1) (IsArgumentOf left 1 right 0) Crossed kept mid new g h (λ q. ((λ x. x), (λ x. x))))
    (λ q. (
      (λ m. elim (kept_of swaps left right q m.0 m.1 m.2 m.3 m.4) [
        | inl a ↦ inl a
        | inr b ↦ elim (one_of m.1 m.2 b.1) [
          | inl c ↦ inr (inl (subst (λ (i : ℕ). IsArgumentOf left i right 1 q) c.0 (subst (λ (j : ℕ). IsArgumentOf left m.1 right j q) c.1 m.4)))
          | inr c ↦ inr (inr (subst (λ (i : ℕ). IsArgumentOf left i right 0 q) c.0 (subst (λ (j : ℕ). IsArgumentOf left m.1 right j q) c.1 m.4)))
        ]
      ]),
      (λ m. elim m [ inl a ↦ (Keep, a.0, a.0, refl, a.2) | inr b ↦ elim b [ inl c ↦ (Swap, 0, 1, (s, refl), c) | inr c ↦ (Swap, 1, 0, (s, refl), c) ] ]),
    ))

-- the moves of two calls
pub calls_of_one : (swaps : Symbol → Bool) (left right : CallAt) (old new : List (Position × Position)) → left.symbol ≡ right.symbol → old ≡ [] → IsMore (IsMetOf swaps left right) old new → IsMore (IsArgumentMoveOf swaps left right) [] new
calls_of_one swaps left right old new s e h =
    more_same (IsMetOf swaps left right) (IsArgumentMoveOf swaps left right) [] new (subst (λ (o : List (Position × Position)). IsMore (IsMetOf swaps left right) o new) e h) (λ q. ((λ m. m.1), (λ m. (s, m))))

met_as : (swaps other : Symbol → Bool) → ((s : Symbol) → swaps s ≡ other s) → (f g : Symbol) → f ≡ g → (order : Order) (i j : ℕ) → ArgumentsMeet swaps order f i j → ArgumentsMeet other order g i j
met_as swaps other same f g e Keep i j m = m
met_as swaps other same f g e Swap i j m = (ap other (sym e) ∙ sym (same f) ∙ m.0, m.1)

pub argument_move : (d : Dependences) (swaps : Symbol → Bool) (p : Position × Position) (left right : CallAt) (made : List (Position × Position)) → ((s : Symbol) → d.programs.swaps s ≡ swaps s) → call_at d.programs.left p.0 ≡ Some left → call_at d.programs.right p.1 ≡ Some right
    → IsMore (IsArgumentMoveOf swaps left right) [] made → IsMore (ArgumentMove d p) [] made
argument_move d swaps p left right made same a b h =
    more_same (IsArgumentMoveOf swaps left right) (ArgumentMove d p) [] made h
    (λ q. (
      (λ m. let x = same_some m.left left (sym m.left_is ∙ a) in let y = same_some m.right right (sym m.right_is ∙ b) in (
        ap (λ (c : CallAt). c.symbol) (sym x) ∙ m.one_symbol ∙ ap (λ (c : CallAt). c.symbol) y,
        (
          m.order,
          m.left_number,
          m.right_number,
          met_as d.programs.swaps swaps same m.left.symbol left.symbol (ap (λ (c : CallAt). c.symbol) x) m.order m.left_number m.right_number m.meet,
          (ap (λ (c : CallAt). slice_get c.args m.left_number) (sym x) ∙ m.left_argument, ap (λ (c : CallAt). slice_get c.args m.right_number) (sym y) ∙ m.right_argument),
        ),
      )),
      (λ m. record {
        left = left;
        right = right;
        left_is = a;
        right_is = b;
        one_symbol = m.0;
        order = m.1.0;
        left_number = m.1.1;
        right_number = m.1.2;
        meet = met_as swaps d.programs.swaps (λ s. sym (same s)) left.symbol left.symbol refl m.1.0 m.1.1 m.1.2 m.1.3;
        left_argument = m.1.4.0;
        right_argument = m.1.4.1;
      }),
    ))

no_call : (d : Dependences) (p : Position × Position) → (call_at d.programs.left p.0 ≡ None) ⊎ (call_at d.programs.right p.1 ≡ None) → (q : Position × Position) → ArgumentMove d p q → ⊥
no_call d p n q m = elim n [ inl e ↦ let f : None ≡ Some m.left = sym e ∙ m.left_is in absurd cc | inr e ↦ let f : None ≡ Some m.right = sym e ∙ m.right_is in absurd cc ]

pub no_arguments : (d : Dependences) (p : Position × Position) (made : List (Position × Position)) → (call_at d.programs.left p.0 ≡ None) ⊎ (call_at d.programs.right p.1 ≡ None) → made ≡ [] → IsMore (ArgumentMove d p) [] made
no_arguments d p made n e = subst (λ (o : List (Position × Position)). IsMore (ArgumentMove d p) [] o) (sym e) (more_none (ArgumentMove d p) [] (no_call d p n))

-- a call is no read
read_or_call : (s : ℕ) (x : Option NodeModel) (call : CallAt) (cell : CellForms) → option_and_then (call_of s) x ≡ Some call → option_and_then read_of x ≡ Some cell → ⊥
read_or_call s None call cell e f = absurd cc
read_or_call s (Some (node.Number form)) call cell e f = absurd cc
read_or_call s (Some (node.Read array subs)) call cell e f = absurd cc
read_or_call s (Some (node.Call symbol args)) call cell e f = absurd cc

pub not_both : (m : Model) (p : Position) (call : CallAt) → call_at m p ≡ Some call → ¬ (IsReader m p)
not_both m (Output o) call e r = absurd cc
not_both m (Node s k) call e r = read_or_call s (node_at m s k) call r.0 e r.1
not_both m (InitialOutput o) call e r = absurd cc
not_both m (InitialNode s k) call e r = absurd cc

-- the moves of a pair by what stands there
pub left_alone : (d : Dependences) (p : Position × Position) (edges made : List (Position × Position)) → edges ≡ d.left → IsReader d.programs.left p.0 → IsMore (IsLeftOf edges p) [] made → IsMore (Moves d p) [] made
left_alone d p edges made e r h =
    more_same (IsLeftOf edges p) (Moves d p) [] made h
    (λ q. (
      (λ m. elim m [ inl a ↦ (subst (IsAmong (p.0, q.0)) (sym e) a.edge, a.stays) | inr b ↦ elim b [ inl a ↦ absurd (a.no_reader r) | inr a ↦ absurd (not_both d.programs.left p.0 a.left a.left_is r) ] ]),
      (λ m. inl (record { reader = r; edge = subst (IsAmong (p.0, q.0)) e m.0; stays = m.1 })),
    ))

pub right_alone : (d : Dependences) (p : Position × Position) (edges made : List (Position × Position)) → edges ≡ d.right → ¬ (IsReader d.programs.left p.0) → IsReader d.programs.right p.1 → IsMore (IsRightOf edges p) [] made → IsMore (Moves d p) [] made
right_alone d p edges made e n r h =
    more_same (IsRightOf edges p) (Moves d p) [] made h
    (λ q. (
      (λ m. elim m [ inl a ↦ absurd (n a.reader) | inr b ↦ elim b [ inl a ↦ (subst (IsAmong (p.1, q.1)) (sym e) a.edge, a.stays) | inr a ↦ absurd (not_both d.programs.right p.1 a.right a.right_is r) ] ]),
      (λ m. inr (inl (record { no_reader = n; reader = r; edge = subst (IsAmong (p.1, q.1)) e m.0; stays = m.1 }))),
    ))

pub calls_alone : (d : Dependences) (p : Position × Position) (made : List (Position × Position)) → ¬ (IsReader d.programs.left p.0) → ¬ (IsReader d.programs.right p.1) → IsMore (ArgumentMove d p) [] made → IsMore (Moves d p) [] made
calls_alone d p made n r h =
    more_same (ArgumentMove d p) (Moves d p) [] made h
    (λ q. ((λ m. elim m [ inl a ↦ absurd (n a.reader) | inr b ↦ elim b [ inl a ↦ absurd (r a.reader) | inr a ↦ a ] ]), (λ m. inr (inr m))))
