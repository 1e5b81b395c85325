-- What stands at a spot that reads nothing, and that two of them whose terms match are matched.
use Rattle.std.proofs.Common.{◌≡◌, inl, inr, ℕ, ◌+◌, Bool, true, false, refl, sym, ap, ◌∙◌, subst}
use Rattle.std.specs.Prelude.{if◌then◌else◌}
use Rattle.ac_syntax.specs.Algebra.{Cell, run, value_of}
use Rattle.ac_syntax.specs.Index.{index_value}
use Rattle.ac_syntax.specs.Sameness.{left_leaf, right_leaf}
use Rattle.ac_syntax.specs.Source.{Writer}
use Rattle.ac_syntax.specs.Spot.{Spot, AtEnd, AtNode, AtStart, Reads, an_output, an_access, cell_at, value_at}
use Rattle.ac_syntax.specs.Term.{Term, Terms, Input, LeftLocal, RightLocal, free, Num, Initial, Apply}
use Rattle.ac_syntax.specs.declared.tree.IndexExpr.{IndexExpr}
use Rattle.ac_syntax.specs.declared.tree.Position.{Position}
use Rattle.ac_syntax.specs.declared.tree.Position.TheVariants.{Output, Node, InitialOutput, InitialNode}
use Rattle.ac_syntax.specs.declared.tree.Symbol.{Symbol}
use Rattle.ac_syntax.specs.declared.tree.Value.{Value}
use Rattle.ac_syntax.specs.declared.tree.Value.TheVariants.{Number, Access, Call'}
use Rattle.ac_poly.specs.ModelNodes.{roots}
use Rattle.ac_claims_paths.specs.Executions.{Execution, At}
use Rattle.ac_claims_paths.specs.OnPaths.{Compared}
use Rattle.ac_claims_paths.specs.Pairs.{Placed, IsReader, CallPlace, IsCallOf, IsMatch}
use Rattle.ac_widen_programs.proofs.Terms.{SameHead}

-- a placed position that reads nothing is a number, a call or an initial cell, with its term
pub data Shape (x : Execution) (state : Cell → Term) (a : Placed x) : Type 0 where
  is_number : (w : Writer) (e : IndexExpr) → a.spot ≡ AtNode w (Number e) → value_at free x.trace state a.spot ≡ Num (index_value w.entry.point e) → Shape x state a
  is_call : (c : CallPlace x a) (ts : Terms) → value_at free x.trace state a.spot ≡ Apply c.symbol ts → Shape x state a
  is_start : (cell : Cell) → a.spot ≡ AtStart cell → value_at free x.trace state a.spot ≡ state cell → Shape x state a

reads_end : (x : Execution) (a : Placed x) (c : Cell) → a.spot ≡ AtEnd c → IsReader x a
reads_end x a c e = (c, x.trace, subst (λ (s : Spot). Reads x.trace s c x.trace) (sym e) (an_output c))

value_number : (w : Writer) (state : Cell → Term) (e : IndexExpr) → value_of free w.entry.point state (Number e) ≡ Num (index_value w.entry.point e)
unfolding value_of
value_number w state e = refl

value_call : (w : Writer) (state : Cell → Term) (f : _) (n : _) (args : _) (place : _) → (ts : Terms) × (value_of free w.entry.point state (Call' f n args place) ≡ Apply f ts)
unfolding value_of
value_call w state f n args place = (_, refl)

node_shape : (x : Execution) (state : Cell → Term) (a : Placed x) (stmt node : ℕ) (w : Writer) (v : Value) → a.position ≡ Node stmt node → a.spot ≡ AtNode w v → ¬ (IsReader x a) → Shape x state a
node_shape x state a stmt node w (Number e) p s never = is_number w e s (ap (value_at free x.trace state) s ∙ value_number w (run free w.earlier state) e)
node_shape x state a stmt node w (Access array subs place) p s never =
    absurd (never (cell_at w array subs, w.earlier, subst (λ (z : Spot). Reads x.trace z (cell_at w array subs) w.earlier) (sym s) (an_access w array subs place)))
node_shape x state a stmt node w (Call' f n args place) p s never =
    let t = value_call w (run free w.earlier state) f n args place in
    is_call (record { stmt = stmt; node = node; writer = w; value = Call' f n args place; symbol = f; arguments = roots args (node + 1); position_is = p; spot_is = s; is_call = (refl, refl) }) t.0 (ap (value_at free x.trace state) s ∙ t.1)

start_shape : (x : Execution) (state : Cell → Term) (a : Placed x) (c : Cell) → a.spot ≡ AtStart c → Shape x state a
start_shape x state a c s = is_start c s (ap (value_at free x.trace state) s)

shape_at : (x : Execution) (state : Cell → Term) (a : Placed x) (P : Position) → a.position ≡ P → At x P a.at a.spot → ¬ (IsReader x a) → Shape x state a
unfolding At
shape_at x state a (Output o) p h never = absurd (never (reads_end x a _ h.1))
shape_at x state a (Node stmt node) p (w, i, v, n, is) never = node_shape x state a stmt node w v p is never
shape_at x state a (InitialOutput o) p h never = start_shape x state a _ h.1
shape_at x state a (InitialNode stmt node) p (w, i, array, subs, place, n, is) never = start_shape x state a _ is

pub shape : (x : Execution) (state : Cell → Term) (a : Placed x) → ¬ (IsReader x a) → Shape x state a
shape x state a never = shape_at x state a a.position refl a.here never

-- ---- leaves

pub one_leaf : (input : ℕ → Bool) (c d : Cell) → left_leaf input c ≡ right_leaf input d → (input c.array ≡ true) × (c ≡ d)
one_leaf input c d e = by (input c.array) (input d.array) refl refl e
  where
    by : (i j : Bool) → input c.array ≡ i → input d.array ≡ j → (if i then Input c else LeftLocal c) ≡ (if j then Input d else RightLocal d) → (input c.array ≡ true) × (c ≡ d)
    by true true f g h = let s : c ≡ d = cc in (f, s)
    by true false f g h = absurd cc
    by false true f g h = absurd cc
    by false false f g h = absurd cc

-- ---- pairs

abbrev pub left_state : (ℕ → Bool) → Cell → Term
left_state input c = Initial (left_leaf input c)

abbrev pub right_state : (ℕ → Bool) → Cell → Term
right_state input c = Initial (right_leaf input c)

pub heads : (t u t' u' : Term) → t ≡ t' → u ≡ u' → SameHead t u → SameHead t' u'
heads t u t' u' e i h = subst (λ (z : Term). SameHead t' z) i (subst (λ (z : Term). SameHead z u) e h)

pub matched : (g : Compared) (a : Placed g.left) (b : Placed g.right) → SameHead (value_at free g.left.trace (left_state g.input) a.spot) (value_at free g.right.trace (right_state g.input) b.spot)
    → Shape g.left (left_state g.input) a → Shape g.right (right_state g.input) b → IsMatch g a b
matched g a b h (is_number w e s t) (is_number u f r v) = inr (inl (record { left = w; right = u; left_form = e; right_form = f; left_is = s; right_is = r; equal = heads _ _ _ _ t v h }))
matched g a b h (is_number w e s t) (is_call c ts v) = absurd (heads _ _ _ _ t v h)
matched g a b h (is_number w e s t) (is_start c r v) = absurd (heads _ _ _ _ t v h)
matched g a b h (is_call c ts t) (is_number u f r v) = absurd (heads _ _ _ _ t v h)
matched g a b h (is_call c ts t) (is_call d us v) = inl (c, d, heads _ _ _ _ t v h)
matched g a b h (is_call c ts t) (is_start d r v) = absurd (heads _ _ _ _ t v h)
matched g a b h (is_start c s t) (is_number u f r v) = absurd (heads _ _ _ _ t v h)
matched g a b h (is_start c s t) (is_call d us v) = absurd (heads _ _ _ _ t v h)
matched g a b h (is_start c s t) (is_start d r v) =
    let l = one_leaf g.input c d (heads _ _ _ _ t v h) in
    inr (inr (c, l.0, s, r ∙ ap AtStart (sym l.1)))

-- ---- the other way: matched terms have one head

call_head : (x : Execution) (state : Cell → Term) (a : Placed x) (c : CallPlace x a) (v : Value) → c.value ≡ v → (ts : Terms) × (value_at free x.trace state a.spot ≡ Apply c.symbol ts)
call_head x state a c (Number e) h = absurd (subst (λ (z : Value). IsCallOf z c.node c.symbol c.arguments) h c.is_call)
call_head x state a c (Access array subs place) h = absurd (subst (λ (z : Value). IsCallOf z c.node c.symbol c.arguments) h c.is_call)
call_head x state a c (Call' f n args place) h =
    let i = subst (λ (z : Value). IsCallOf z c.node c.symbol c.arguments) h c.is_call in
    let t = value_call c.writer (run free c.writer.earlier state) f n args place in
    (t.0, ap (value_at free x.trace state) (c.spot_is ∙ ap (AtNode c.writer) h) ∙ t.1 ∙ ap (λ (z : Symbol). Apply z t.0) (sym i.0))

abbrev Heads : Compared → Spot → Spot → Type 0
Heads g s t = SameHead (value_at free g.left.trace (left_state g.input) s) (value_at free g.right.trace (right_state g.input) t)

same_leaf : (input : ℕ → Bool) (c : Cell) → input c.array ≡ true → left_leaf input c ≡ right_leaf input c
same_leaf input c e = rw e refl

pub head_of_match : (g : Compared) (a : Placed g.left) (b : Placed g.right) → IsMatch g a b → Heads g a.spot b.spot
head_of_match g a b (inl (c, d, e)) =
    let l = call_head g.left (left_state g.input) a c c.value refl in
    let r = call_head g.right (right_state g.input) b d d.value refl in
    heads _ _ _ _ (sym l.1) (sym r.1) e
head_of_match g a b (inr (inl n)) =
    let l = ap (value_at free g.left.trace (left_state g.input)) n.left_is ∙ value_number n.left (run free n.left.earlier (left_state g.input)) n.left_form in
    let r = ap (value_at free g.right.trace (right_state g.input)) n.right_is ∙ value_number n.right (run free n.right.earlier (right_state g.input)) n.right_form in
    heads _ _ _ _ (sym l) (sym r) n.equal
head_of_match g a b (inr (inr (c, input, s, t))) =
    heads _ _ _ _ (sym (ap (value_at free g.left.trace (left_state g.input)) s)) (sym (ap (value_at free g.right.trace (right_state g.input)) t)) (same_leaf g.input c input)
