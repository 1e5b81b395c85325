-- The pairs that must agree, at one valuation: each is matched, or steps lead to others.
use Rattle.std.proofs.Common.{◌≡◌, ◌⊎◌, inl, inr, ℕ, zero, suc, ◌+◌, ℤ, List, [], ◌∷◌, ◌++◌, length, map, Bool, true, false, cond, Some, refl, sym, ap, ◌∙◌, subst, arith}
use Rattle.std.specs.Prelude.{slice_get, ◌==◌, nat_eq}
use Rattle.std.specs.Ordering.{int_eq}
use Rattle.std.specs.List.{list_any}
use Rattle.std.specs.Cmp.Lexicographic.{pointwise}
use Rattle.std.proofs.lemmas.Bool.Decides.{Decides-int_eq, Decides-eqb}
use Rattle.ac_forms.specs.declared.row.Row.{Row}
use Rattle.ac_forms.proofs.Joining.{both_of}
use Rattle.ac_syntax.specs.Algebra.{Cell, same_cell}
use Rattle.ac_syntax.specs.Index.{index_value}
use Rattle.ac_syntax.specs.Outputs.{input_at, swaps_of}
use Rattle.ac_syntax.specs.Sameness.{left_leaf, right_leaf}
use Rattle.ac_syntax.specs.Source.{Writer, Stands, source}
use Rattle.ac_syntax.specs.Spot.{Spot, AtNode, AtStart, resolved, value_at}
use Rattle.ac_syntax.specs.Term.{Term, free, Apply, Num}
use Rattle.ac_syntax.specs.Trace.{Entry, trace_of}
use Rattle.ac_syntax.specs.declared.tree.Order.{Order}
use Rattle.ac_syntax.specs.declared.tree.Order.TheVariants.{Keep, Swap}
use Rattle.ac_syntax.specs.declared.tree.Pair.{Pair}
use Rattle.ac_syntax.specs.declared.tree.Place.{Place}
use Rattle.ac_syntax.specs.declared.tree.Position.{Position}
use Rattle.ac_syntax.specs.declared.tree.Position.TheVariants.{Output, Node, InitialOutput, InitialNode}
use Rattle.ac_syntax.specs.declared.tree.Symbol.{Symbol}
use Rattle.ac_syntax.specs.declared.tree.Value.{Value}
use Rattle.ac_syntax.specs.declared.tree.Value.TheVariants.{Number, Call}
use Rattle.ac_syntax.proofs.Cells.{same_cell_is, same_cell_refl}
use Rattle.ac_poly.specs.Model.{model_of}
use Rattle.ac_poly.specs.declared.types.Model.{Model}
use Rattle.ac_claims_paths.specs.Executions.{Execution, At}
use Rattle.ac_claims_paths.specs.PathSteps.{Pairing, same_symbol}
use Rattle.ac_claims_paths.specs.OnPaths.{Compared}
use Rattle.ac_claims_paths.specs.Pairs.{Placed, IsReader, CallPlace, ArgumentPlace, ArgumentsMeet, IsMatch, StepsTo}
use Rattle.ac_claims_paths.specs.ModelPositions.{CallAt, call_at}
use Rattle.ac_claims_paths.proofs.CallSteps.{Each, CallHere, call_here, symbol_is}
use Rattle.ac_claims.proofs.Covered.{Runs, Covered, AllCovered, numbers, one_input, hit, go_left, go_right, go_keep, go_swap, no_more, one_more}
use Rattle.ac_graph.specs.PairMoves.{pairing_of}
use Rattle.ac_graph.specs.GraphMeaning.{IsCompared, comparison, LeftPlaced, RightPlaced}
use Rattle.ac_graph.proofs.Standing.{call_there, call_of_place}
use Rattle.ac_widen.specs.Obligations.{Obligation, HasMismatch, step}
use Rattle.ac_graph.proofs.SiteSteps.{symbol_self}
use Rattle.ac_widen_programs.specs.PairSetting.{IsPlaced, is_site_pair, may_swap, order_at, setting}
use Rattle.ac_syntax.specs.ExecutedCalls.{HaveArities}
use Rattle.ac_widen_programs.proofs.ReadTargets.{reader_kind, resolve, left_reads, right_reads}
use Rattle.ac_widen_programs.proofs.Shapes.{Shape, is_number, is_call, is_start, left_state, right_state, shape, head_of_match, heads, one_leaf}
use Rattle.ac_widen_programs.proofs.Terms.{SameHead}
use Rattle.ac_claims_paths.proofs.Stepping.{of_map}
use Rattle.ac_widen_programs.proofs.Lawful.{Positions}

-- two programs with what is searched of them, at a valuation
pub record Search : Type 0 where
  pub pair : Pair
  pub outputs : List ℕ
  pub recurrent : Positions → Bool
  pub template : Positions → List Row
  pub order : Positions → Order
  pub params : List ℤ
  pub compared : IsCompared pair params
  pub left_arities : HaveArities pair.left.body
  pub right_arities : HaveArities pair.right.body

abbrev pub on : Search → Compared
on w = comparison w.pair w.params w.compared

abbrev pub runs : Search → Runs
runs w = record { is_input = input_at w.pair.left.arrays; swaps = swaps_of w.pair.commutative; left = trace_of w.pair.left.body w.params; right = trace_of w.pair.right.body w.params }

abbrev pub Must : Search → Positions → List ℤ → Type 0
Must w key p = Obligation (setting w.pair w.outputs w.recurrent w.template) w.order key p

abbrev pub NoMismatch : Search → Type 0
NoMismatch w = ¬ (HasMismatch (setting w.pair w.outputs w.recurrent w.template) w.order)

-- two spots of a pair that must agree
pub record Met (w : Search) (s t : Spot) : Type 0 where
  pub key : Positions
  pub point : List ℤ
  pub must : Must w key point
  pub a : LeftPlaced w.pair w.params
  pub b : RightPlaced w.pair w.params
  pub placed : IsPlaced w.pair key point w.params a b
  pub left_is : a.spot ≡ s
  pub right_is : b.spot ≡ t

-- a pair at its positions
pub record There (w : Search) (a : LeftPlaced w.pair w.params) (b : RightPlaced w.pair w.params) : Type 0 where
  pub key : Positions
  pub point : List ℤ
  pub must : Must w key point
  pub placed : IsPlaced w.pair key point w.params a b

abbrev order_of : (w : Search) → Positions → Order
order_of w key = order_at w.pair key (w.order key)

step_met : (w : Search) (a : LeftPlaced w.pair w.params) (b : RightPlaced w.pair w.params) (h : There w a b) (a' : LeftPlaced w.pair w.params) (b' : RightPlaced w.pair w.params) → StepsTo (on w) (order_of w h.key) a b a' b' → (s t : Spot) → a'.spot ≡ s → b'.spot ≡ t → Met w s t
step_met w a b h a' b' st s t e i = record {
  key = (a'.position, b'.position);
  point = w.params ++ (a'.at ++ b'.at);
  must = step h.key h.point (a'.position, b'.position) (w.params ++ (a'.at ++ b'.at)) h.must (record {
    params = w.params;
    compared = w.compared;
    a = a;
    b = b;
    a' = a';
    b' = b';
    from = h.placed;
    to = record { left_is = refl; right_is = refl; point_is = refl };
    steps = st;
  });
  a = a';
  b = b';
  placed = record { left_is = refl; right_is = refl; point_is = refl };
  left_is = e;
  right_is = i;
}

-- a pair that must agree is no mismatch
matched_there : (w : Search) → NoMismatch w → (a : LeftPlaced w.pair w.params) (b : RightPlaced w.pair w.params) → There w a b → ¬ (IsReader (on w).left a) → ¬ (IsReader (on w).right b) → ¬ (¬ (IsMatch (on w) a b))
matched_there w none a b h l r apart =
    none (h.key, h.point, h.must, record { there = record { params = w.params; compared = w.compared; a = a; b = b; placed = h.placed }; mismatch = record { left = l; right = r; apart = apart } })

-- ---- arguments

arith_first : (j : ℕ) → j ≡ 0 + j
arith_first j = omega arith

arith_next : (k j : ℕ) → k + suc j ≡ suc k + j
arith_next k j = omega arith

-- the argument of a placed call that stands at a position
argument_there : (x : Execution) (a : Placed x) (c : CallPlace x a) (k : ℕ) (P : Position) → slice_get (map (Node c.stmt) c.arguments) k ≡ Some P → (s : Spot) → At x P a.at s → (b : Placed x) × ArgumentPlace x a c k b × (b.spot ≡ s)
argument_there x a c k P e s h =
    let m = of_map (Node c.stmt) c.arguments k P e in
    (record { position = P; at = a.at; spot = s; here = h }, record { root = m.0; root_is = m.1; position_is = m.2; at_is = refl }, refl)

-- calls at a pair, with their arguments at positions
record Calls (w : Search) (a : LeftPlaced w.pair w.params) (b : RightPlaced w.pair w.params) (h : There w a b) : Type 0 where
  pub left : CallPlace (on w).left a
  pub right : CallPlace (on w).right b
  pub one : left.symbol ≡ right.symbol
  pub left_here : CallHere (on w).left (call_of_place (on w).left a left) a.at a.spot
  pub right_here : CallHere (on w).right (call_of_place (on w).right b right) b.at b.spot

call_met : (w : Search) (a : LeftPlaced w.pair w.params) (b : RightPlaced w.pair w.params) (h : There w a b) (c : Calls w a b h) (k l : ℕ) → ArgumentsMeet (on w).pairing.swaps (order_of w h.key) c.left.symbol k l
    → (P Q : Position) → slice_get (map (Node c.left.stmt) c.left.arguments) k ≡ Some P → slice_get (map (Node c.right.stmt) c.right.arguments) l ≡ Some Q → (s t : Spot) → At (on w).left P a.at s → At (on w).right Q b.at t → Met w s t
call_met w a b h c k l meet P Q e i s t hs ht =
    let x = argument_there (on w).left a c.left k P e s hs in
    let y = argument_there (on w).right b c.right l Q i t ht in
    step_met w a b h x.0 y.0 (inr (inr (record { left = c.left; right = c.right; one = c.one; left_number = k; right_number = l; meet = meet; left_argument = x.1; right_argument = y.1 }))) s t x.2 y.2

-- kept in their order
kept_met : (w : Search) (a : LeftPlaced w.pair w.params) (b : RightPlaced w.pair w.params) (h : There w a b) (c : Calls w a b h) → ((k : ℕ) → ArgumentsMeet (on w).pairing.swaps (order_of w h.key) c.left.symbol k k)
    → (k : ℕ) (Ps Qs : List Position) → ((j : ℕ) → slice_get Ps j ≡ slice_get (map (Node c.left.stmt) c.left.arguments) (k + j)) → ((j : ℕ) → slice_get Qs j ≡ slice_get (map (Node c.right.stmt) c.right.arguments) (k + j))
    → (u v : Writer) (xs ys : List Value) → length xs ≡ length ys → Each (on w).left a.at u Ps xs → Each (on w).right b.at v Qs ys → AllCovered (runs w) (Met w) u v xs ys
kept_met w a b h c meet k [] [] f g u v [] [] n i j = no_more u v
kept_met w a b h c meet k [] Qs f g u v (x ∷ xs) ys n i j = absurd i
kept_met w a b h c meet k [] Qs f g u v [] (y ∷ ys) n i j = absurd cc
kept_met w a b h c meet k [] (Q ∷ Qs) f g u v [] [] n i j = absurd j
kept_met w a b h c meet k (P ∷ Ps) Qs f g u v [] ys n i j = absurd i
kept_met w a b h c meet k (P ∷ Ps) [] f g u v (x ∷ xs) [] n i j = absurd cc
kept_met w a b h c meet k (P ∷ Ps) [] f g u v (x ∷ xs) (y ∷ ys) n i j = absurd j
kept_met w a b h c meet k (P ∷ Ps) (Q ∷ Qs) f g u v (x ∷ xs) [] n i j = absurd cc
kept_met w a b h c meet k (P ∷ Ps) (Q ∷ Qs) f g u v (x ∷ xs) (y ∷ ys) n i j =
    let z : k + 0 ≡ k = omega arith in
    let e : slice_get (map (Node c.left.stmt) c.left.arguments) k ≡ Some P = ap (slice_get (map (Node c.left.stmt) c.left.arguments)) (sym z) ∙ sym (f 0) in
    let e' : slice_get (map (Node c.right.stmt) c.right.arguments) k ≡ Some Q = ap (slice_get (map (Node c.right.stmt) c.right.arguments)) (sym z) ∙ sym (g 0) in
    let m : length xs ≡ length ys = cc in
    one_more u v x y xs ys (hit (AtNode u x) (AtNode v y) (call_met w a b h c k k (meet k) P Q e e' (AtNode u x) (AtNode v y) i.0 j.0))
    (kept_met w a b h c meet (suc k) Ps Qs (λ q. f (suc q) ∙ ap (slice_get (map (Node c.left.stmt) c.left.arguments)) (arith_next k q)) (λ q. g (suc q) ∙ ap (slice_get (map (Node c.right.stmt) c.right.arguments)) (arith_next k q)) u v xs ys m i.1 j.1)

-- or exchanged
swapped_met : (w : Search) (a : LeftPlaced w.pair w.params) (b : RightPlaced w.pair w.params) (h : There w a b) (c : Calls w a b h) → order_of w h.key ≡ Swap → (on w).pairing.swaps c.left.symbol ≡ true
    → (Ps Qs : List Position) → Ps ≡ map (Node c.left.stmt) c.left.arguments → Qs ≡ map (Node c.right.stmt) c.right.arguments → (u v : Writer) (xs ys : List Value) → length xs ≡ 2 → length ys ≡ 2 → Each (on w).left a.at u Ps xs → Each (on w).right b.at v Qs ys
    → (p q : Place) → Covered (runs w) (Met w) false (AtNode u (Call c.left.symbol xs p)) (AtNode v (Call c.left.symbol ys q))
swapped_met w a b h c o sw (P ∷ P' ∷ []) (Q ∷ Q' ∷ []) f g u v (x ∷ x' ∷ []) (y ∷ y' ∷ []) n m i j p q =
    let there : (k l : ℕ) → k + l ≡ 1 → ArgumentsMeet (on w).pairing.swaps (order_of w h.key) c.left.symbol k l = λ k l e. subst (λ (z : Order). ArgumentsMeet (on w).pairing.swaps z c.left.symbol k l) (sym o) (sw, e) in
    go_swap false u v c.left.symbol x x' y y' p q sw
    (hit (AtNode u x) (AtNode v y') (call_met w a b h c 0 1 (there 0 1 refl) P Q' (ap (λ Rs. slice_get Rs 0) (sym f)) (ap (λ Rs. slice_get Rs 1) (sym g)) (AtNode u x) (AtNode v y') i.0 j.1.0))
    (hit (AtNode u x') (AtNode v y) (call_met w a b h c 1 0 (there 1 0 refl) P' Q (ap (λ Rs. slice_get Rs 1) (sym f)) (ap (λ Rs. slice_get Rs 0) (sym g)) (AtNode u x') (AtNode v y) i.1.0 j.0))
swapped_met w a b h c o sw Ps Qs f g u v [] ys n m i j p q = absurd cc
swapped_met w a b h c o sw Ps Qs f g u v (x ∷ []) ys n m i j p q = absurd cc
swapped_met w a b h c o sw Ps Qs f g u v (x ∷ x' ∷ x'' ∷ xs) ys n m i j p q = absurd cc
swapped_met w a b h c o sw Ps Qs f g u v (x ∷ x' ∷ []) [] n m i j p q = absurd cc
swapped_met w a b h c o sw Ps Qs f g u v (x ∷ x' ∷ []) (y ∷ []) n m i j p q = absurd cc
swapped_met w a b h c o sw Ps Qs f g u v (x ∷ x' ∷ []) (y ∷ y' ∷ y'' ∷ ys) n m i j p q = absurd cc
swapped_met w a b h c o sw [] Qs f g u v (x ∷ x' ∷ []) (y ∷ y' ∷ []) n m i j p q = absurd i
swapped_met w a b h c o sw (P ∷ []) Qs f g u v (x ∷ x' ∷ []) (y ∷ y' ∷ []) n m i j p q = absurd i.1
swapped_met w a b h c o sw (P ∷ P' ∷ P'' ∷ Ps) Qs f g u v (x ∷ x' ∷ []) (y ∷ y' ∷ []) n m i j p q = absurd i.1.1
swapped_met w a b h c o sw (P ∷ P' ∷ []) [] f g u v (x ∷ x' ∷ []) (y ∷ y' ∷ []) n m i j p q = absurd j
swapped_met w a b h c o sw (P ∷ P' ∷ []) (Q ∷ []) f g u v (x ∷ x' ∷ []) (y ∷ y' ∷ []) n m i j p q = absurd j.1
swapped_met w a b h c o sw (P ∷ P' ∷ []) (Q ∷ Q' ∷ Q'' ∷ Qs) f g u v (x ∷ x' ∷ []) (y ∷ y' ∷ []) n m i j p q = absurd j.1.1

-- how many arguments a placed call has
arity_of : (body : List _) → HaveArities body → (m : Model) (params : List ℤ) (x : Execution) → x.trace ≡ trace_of body params → (P : Position) (at : List ℤ) (s : Spot) → At x P at s → (w : Writer) (f : Symbol) (args : List Value) (place : Place) → s ≡ AtNode w (Call f args place) → length args ≡ f.arity
unfolding At
arity_of body h m params x t (Output o) at s i w f args place e = let q : s ≡ _ = i.1 in absurd cc
arity_of body h m params x t (Node k j) at s (u, i, v, n, is) w f args place e =
    let q : AtNode u v ≡ AtNode w (Call f args place) = sym is ∙ e in
    let value : v ≡ Call f args place = cc in
    h params u (subst (λ (es : List Entry). Stands es u) t i.stands) j f args place (n ∙ ap (λ (z : Value). Some z) value)
arity_of body h m params x t (InitialOutput o) at s i w f args place e = let q : s ≡ _ = i.1 in absurd cc
arity_of body h m params x t (InitialNode k j) at s (u, i, array, subs, p, n, is) w f args place e = absurd cc

-- whose arguments may be exchanged has two
swap_arity : (names : List (List ℕ)) (f : Symbol) → swaps_of names f ≡ true → f.arity ≡ 2
swap_arity names f h = (Decides-eqb f.arity 2).0 (both_of (f.arity == 2) (list_any (pointwise nat_eq f.name) names) h).0

site_swaps : (g : Pairing) (c d : CallAt) → may_swap g (Some c) (Some d) ≡ true → g.swaps c.symbol ≡ true
site_swaps g c d h = (both_of (same_symbol c.symbol d.symbol) (g.swaps c.symbol) h).1

swap_site : (b : Bool) (o : Order) → cond b o Keep ≡ Swap → b ≡ true
swap_site true o h = refl
swap_site false o h = absurd cc

-- the arguments of two calls of one symbol
calls_covered : (w : Search) (a : LeftPlaced w.pair w.params) (b : RightPlaced w.pair w.params) (h : There w a b) (c : Calls w a b h)
    → call_at (model_of w.pair.left w.pair.context) h.key.0 ≡ Some (call_of_place (on w).left a c.left) → call_at (model_of w.pair.right w.pair.context) h.key.1 ≡ Some (call_of_place (on w).right b c.right) → Covered (runs w) (Met w) false a.spot b.spot
calls_covered w a b h c e i =
    subst (λ (s : Spot). Covered (runs w) (Met w) false s b.spot) (sym l.is) (subst (λ (s : Spot). Covered (runs w) (Met w) false (AtNode l.writer (Call c.left.symbol l.args l.place)) s) (sym r_is) (by (order_of w h.key) refl))
  where
    l : CallHere (on w).left (call_of_place (on w).left a c.left) a.at a.spot
    l = c.left_here

    r : CallHere (on w).right (call_of_place (on w).right b c.right) b.at b.spot
    r = c.right_here

    r_is : b.spot ≡ AtNode r.writer (Call c.left.symbol r.args r.place)
    r_is = r.is ∙ ap (λ (f : Symbol). AtNode r.writer (Call f r.args r.place)) (sym c.one)

    left_count : length l.args ≡ c.left.symbol.arity
    left_count = arity_of w.pair.left.body w.left_arities (model_of w.pair.left w.pair.context) w.params (on w).left refl a.position a.at a.spot a.here l.writer c.left.symbol l.args l.place l.is

    right_count : length r.args ≡ c.left.symbol.arity
    right_count = arity_of w.pair.right.body w.right_arities (model_of w.pair.right w.pair.context) w.params (on w).right refl b.position b.at b.spot b.here r.writer c.left.symbol r.args r.place r_is

    by : (o : Order) → order_of w h.key ≡ o → Covered (runs w) (Met w) false (AtNode l.writer (Call c.left.symbol l.args l.place)) (AtNode r.writer (Call c.left.symbol r.args r.place))
    by Keep o =
        go_keep false l.writer r.writer c.left.symbol l.args r.args l.place r.place
        (kept_met w a b h c (λ k. subst (λ (z : Order). ArgumentsMeet (on w).pairing.swaps z c.left.symbol k k) (sym o) refl) 0 (map (Node c.left.stmt) c.left.arguments) (map (Node c.right.stmt) c.right.arguments) (λ j. ap (slice_get (map (Node c.left.stmt) c.left.arguments)) (arith_first j)) (λ j. ap (slice_get (map (Node c.right.stmt) c.right.arguments)) (arith_first j)) l.writer r.writer l.args r.args (left_count ∙ sym right_count) l.each r.each)
    by Swap o =
        let site : is_site_pair w.pair h.key ≡ true = swap_site (is_site_pair w.pair h.key) (w.order h.key) o in
        let may : may_swap (pairing_of w.pair) (Some (call_of_place (on w).left a c.left)) (Some (call_of_place (on w).right b c.right)) ≡ true = (λ z. may_swap (pairing_of w.pair) (sym e z) (sym i z)) ∙ site in
        let sw : (on w).pairing.swaps c.left.symbol ≡ true = site_swaps (pairing_of w.pair) (call_of_place (on w).left a c.left) (call_of_place (on w).right b c.right) may in
        let two : c.left.symbol.arity ≡ 2 = swap_arity w.pair.commutative c.left.symbol sw in
        swapped_met w a b h c o sw (map (Node c.left.stmt) c.left.arguments) (map (Node c.right.stmt) c.right.arguments) refl refl l.writer r.writer l.args r.args (left_count ∙ two) (right_count ∙ two) l.each r.each l.place r.place

-- ---- pairs without reads

symbols_same : (f k : Symbol) → (f ≡ k) ⊎ ¬ (f ≡ k)
symbols_same f k = by (same_symbol f k) refl
  where
    by : (t : Bool) → same_symbol f k ≡ t → (f ≡ k) ⊎ ¬ (f ≡ k)
    by true e = inl (symbol_is f k e)
    by false e = inr (λ s. let h : true ≡ false = sym (symbol_self k) ∙ ap (λ (z : Symbol). same_symbol z k) (sym s) ∙ e in absurd cc)

integers_same : (a b : ℤ) → (a ≡ b) ⊎ ¬ (a ≡ b)
integers_same a b = by (int_eq a b) refl
  where
    by : (t : Bool) → int_eq a b ≡ t → (a ≡ b) ⊎ ¬ (a ≡ b)
    by true e = inl ((Decides-int_eq a b).0 e)
    by false e = inr (λ s. let h : true ≡ false = sym ((Decides-int_eq a b).1 s) ∙ e in absurd cc)

-- the initial contents of two cells are one leaf, or they aren't
leaves_same : (input : ℕ → Bool) (c d : Cell) → ((input c.array ≡ true) × (c ≡ d)) ⊎ ¬ (left_leaf input c ≡ right_leaf input d)
leaves_same input c d = by (input c.array) (same_cell c d) refl refl
  where
    by : (t u : Bool) → input c.array ≡ t → same_cell c d ≡ u → ((input c.array ≡ true) × (c ≡ d)) ⊎ ¬ (left_leaf input c ≡ right_leaf input d)
    by true true e i = inl (e, same_cell_is c d i)
    by true false e i = inr (λ h. let o = one_leaf input c d h in let q : true ≡ false = sym (same_cell_refl d) ∙ ap (λ (z : Cell). same_cell z d) (sym o.1) ∙ i in absurd cc)
    by false u e i = inr (λ h. let o = one_leaf input c d h in let q : true ≡ false = sym o.0 ∙ e in absurd cc)

abbrev left_value : (w : Search) → Spot → Term
left_value w s = value_at free (on w).left.trace (left_state (on w).input) s

abbrev right_value : (w : Search) → Spot → Term
right_value w s = value_at free (on w).right.trace (right_state (on w).input) s

-- terms of other heads are a mismatch
other_heads : (w : Search) → NoMismatch w → (a : LeftPlaced w.pair w.params) (b : RightPlaced w.pair w.params) → There w a b → ¬ (IsReader (on w).left a) → ¬ (IsReader (on w).right b)
    → (t u : Term) → left_value w a.spot ≡ t → right_value w b.spot ≡ u → ¬ (SameHead t u) → ⊥
other_heads w none a b h l r t u e i never = matched_there w none a b h l r (λ m. never (heads (left_value w a.spot) (right_value w b.spot) t u e i (head_of_match (on w) a b m)))

spots_covered : (w : Search) (s s' t t' : Spot) → s ≡ s' → t ≡ t' → Covered (runs w) (Met w) false s' t' → Covered (runs w) (Met w) false s t
spots_covered w s s' t t' e i h = subst (λ (z : Spot). Covered (runs w) (Met w) false z t) (sym e) (subst (λ (z : Spot). Covered (runs w) (Met w) false s' z) (sym i) h)

call_pair : (w : Search) (a : LeftPlaced w.pair w.params) (b : RightPlaced w.pair w.params) (h : There w a b) (c : CallPlace (on w).left a) (d : CallPlace (on w).right b) → c.symbol ≡ d.symbol → Covered (runs w) (Met w) false a.spot b.spot
call_pair w a b h c d one =
    let m = model_of w.pair.left w.pair.context in
    let n = model_of w.pair.right w.pair.context in
    let x = call_there m w.params (on w).left w.compared.left a c in
    let y = call_there n w.params (on w).right w.compared.right b d in
    calls_covered w a b h
    (record {
      left = c;
      right = d;
      one = one;
      left_here = call_here m w.params (on w).left w.compared.left a.position a.at (call_of_place (on w).left a c) a.spot x a.here;
      right_here = call_here n w.params (on w).right w.compared.right b.position b.at (call_of_place (on w).right b d) b.spot y b.here;
    })
    (ap (call_at m) (sym h.placed.left_is) ∙ x) (ap (call_at n) (sym h.placed.right_is) ∙ y)

ends_covered : (w : Search) → NoMismatch w → (a : LeftPlaced w.pair w.params) (b : RightPlaced w.pair w.params) → There w a b → ¬ (IsReader (on w).left a) → ¬ (IsReader (on w).right b)
    → Shape (on w).left (left_state (on w).input) a → Shape (on w).right (right_state (on w).input) b → Covered (runs w) (Met w) false a.spot b.spot
ends_covered w none a b h l r (is_number x e s t) (is_number y f s' t') = elim (integers_same (index_value x.entry.point e) (index_value y.entry.point f)) [
  | inl one ↦ spots_covered w a.spot (AtNode x (Number e)) b.spot (AtNode y (Number f)) s s' (numbers false x y e f one)
  | inr other ↦ absurd (other_heads w none a b h l r (Num (index_value x.entry.point e)) (Num (index_value y.entry.point f)) t t' other)
]
ends_covered w none a b h l r (is_number x e s t) (is_call d us t') = absurd (other_heads w none a b h l r (Num (index_value x.entry.point e)) (Apply d.symbol us) t t' (λ z. z))
ends_covered w none a b h l r (is_number x e s t) (is_start d s' t') = absurd (other_heads w none a b h l r (Num (index_value x.entry.point e)) (right_state (on w).input d) t t' (λ z. z))
ends_covered w none a b h l r (is_call c ts t) (is_number y f s' t') = absurd (other_heads w none a b h l r (Apply c.symbol ts) (Num (index_value y.entry.point f)) t t' (λ z. z))
ends_covered w none a b h l r (is_call c ts t) (is_call d us t') = elim (symbols_same c.symbol d.symbol) [
  | inl one ↦ call_pair w a b h c d one
  | inr other ↦ absurd (other_heads w none a b h l r (Apply c.symbol ts) (Apply d.symbol us) t t' other)
]
ends_covered w none a b h l r (is_call c ts t) (is_start d s' t') = absurd (other_heads w none a b h l r (Apply c.symbol ts) (right_state (on w).input d) t t' (λ z. z))
ends_covered w none a b h l r (is_start c s t) (is_number y f s' t') = absurd (other_heads w none a b h l r (left_state (on w).input c) (Num (index_value y.entry.point f)) t t' (λ z. z))
ends_covered w none a b h l r (is_start c s t) (is_call d us t') = absurd (other_heads w none a b h l r (left_state (on w).input c) (Apply d.symbol us) t t' (λ z. z))
ends_covered w none a b h l r (is_start c s t) (is_start d s' t') = elim (leaves_same (on w).input c d) [
  | inl one ↦ spots_covered w a.spot (AtStart c) b.spot (AtStart c) s (s' ∙ ap AtStart (sym one.1)) (one_input false c one.0)
  | inr other ↦ absurd (other_heads w none a b h l r (left_state (on w).input c) (right_state (on w).input d) t t' other)
]

-- ---- all pairs

pair_covered : (w : Search) → NoMismatch w → (a : LeftPlaced w.pair w.params) (b : RightPlaced w.pair w.params) → There w a b → Covered (runs w) (Met w) false a.spot b.spot
pair_covered w none a b h = by (reader_kind (on w).left a) (reader_kind (on w).right b)
  where
    left_read : IsReader (on w).left a → Covered (runs w) (Met w) false a.spot b.spot
    left_read (c, before, r) =
        let to = resolve (on w).left a c before r in
        let keep = left_reads w.pair w.params (on w).left w.compared.left h.key a h.placed.left_is (c, before, r) (w.order h.key) in
        let s = resolved c (source c before) in
        go_left false a.spot b.spot c before r (hit s b.spot (step_met w a b h to.to b (inl (keep, ((c, before, r), to.goes), record { position_is = refl; at_is = refl; spot_is = refl })) s b.spot to.spot refl))

    right_read : ¬ (IsReader (on w).left a) → IsReader (on w).right b → Covered (runs w) (Met w) false a.spot b.spot
    right_read never (c, before, r) =
        let to = resolve (on w).right b c before r in
        let keep = right_reads w.pair w.params (on w).right w.compared.right h.key b h.placed.right_is (c, before, r) (w.order h.key) in
        let s = resolved c (source c before) in
        go_right false a.spot b.spot c before r (hit a.spot s (step_met w a b h a to.to (inr (inl (keep, never, ((c, before, r), to.goes), record { position_is = refl; at_is = refl; spot_is = refl }))) a.spot s refl to.spot))

    by : IsReader (on w).left a ⊎ ¬ (IsReader (on w).left a) → IsReader (on w).right b ⊎ ¬ (IsReader (on w).right b) → Covered (runs w) (Met w) false a.spot b.spot
    by (inl r) k = left_read r
    by (inr never) (inl r) = right_read never r
    by (inr never) (inr no') = ends_covered w none a b h never no' (shape (on w).left (left_state (on w).input) a never) (shape (on w).right (right_state (on w).input) b no')

pub met_covered : (w : Search) → NoMismatch w → (s t : Spot) → Met w s t → Covered (runs w) (Met w) false s t
met_covered w none s t m = spots_covered w s m.a.spot t m.b.spot (sym m.left_is) (sym m.right_is) (pair_covered w none m.a m.b (record { key = m.key; point = m.point; must = m.must; placed = m.placed }))
