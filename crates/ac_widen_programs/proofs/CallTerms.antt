-- The term of a call, and the terms of its arguments.
use Rattle.std.proofs.Common.{◌≡◌, ℕ, zero, suc, ◌+◌, ◌-◌, ◌<◌, ◌≤◌, ℤ, List, true, false, cond, Option, Some, refl, sym, ap, ◌∙◌, subst, arith}
use Rattle.std.specs.Prelude.{nat_lt, slice_get}
use Rattle.std.proofs.lemmas.Bool.Decides.{nat_tests}
use Rattle.ac_syntax.specs.Algebra.{Cell, run, value_of, values_of}
use Rattle.ac_syntax.specs.Index.{Point}
use Rattle.ac_syntax.specs.ValueNodes.{node_of, node_in, size, size_in}
use Rattle.ac_syntax.specs.Source.{Writer}
use Rattle.ac_syntax.specs.Spot.{Spot, AtNode, value_at}
use Rattle.ac_syntax.specs.Term.{Term, free, Apply, terms}
use Rattle.ac_syntax.specs.declared.tree.Position.{Position}
use Rattle.ac_syntax.specs.declared.tree.Position.TheVariants.{Node}
use Rattle.ac_syntax.specs.declared.tree.Symbol.{Symbol}
use Rattle.ac_syntax.specs.declared.tree.Value.{Value, Row_of-Value, end_of-Value, more_of-Value}
use Rattle.ac_syntax.specs.declared.tree.Value.TheVariants.{Number, Access, Call'}
use Rattle.ac_syntax.proofs.NodeLemmas.{node_root, node_sub, size_positive}
use Rattle.ac_base.proofs.Options.{some-is}
use Rattle.ac_poly.specs.ModelNodes.{roots}
use Rattle.ac_poly.specs.declared.types.Model.{Model}
use Rattle.ac_claims_paths.specs.Executions.{Execution, At, Describes}
use Rattle.ac_claims_paths.specs.Pairs.{Placed, IsCallOf, CallPlace, ArgumentPlace}

-- ---- arguments one after another, of which the first has the number `at`

record ArgumentIs {m : _} (args : Row_of-Value m) (at k root : ℕ) : Type 0 where
  pub offset : ℕ
  pub root_is : root ≡ at + offset
  pub value : Value
  pub node : node_in args offset ≡ Some value
  pub within : offset < size_in args
  pub term : (p : Point) (state : Cell → Term) → slice_get (values_of free p state args) k ≡ Some (value_of free p state value)

test_true : (k n : ℕ) → k < n → nat_lt k n ≡ true
test_true k n h = grind (arith, nat_tests)

test_false : (k n : ℕ) → n ≤ k → nat_lt k n ≡ false
test_false k n h = grind (arith, nat_tests)

first_node : (v : Value) (o : Option Value) → cond (nat_lt 0 (size v)) (node_of v 0) o ≡ Some v
first_node v o = rw (test_true 0 (size v) (size_positive v)) (node_root v)

further_node : (v : Value) (off : ℕ) (f : ℕ → Option Value) (g : Option Value) → cond (nat_lt (size v + off) (size v)) g (f (size v + off - size v)) ≡ f off
further_node v off f g = let e : size v + off - size v ≡ off = omega arith in rw (test_false (size v + off) (size v) (omega arith), e) refl

argument_is : {m : _} (args : Row_of-Value m) (at k root : ℕ) → slice_get (roots args at) k ≡ Some root → ArgumentIs args at k root
unfolding roots node_of size value_of
argument_is end_of-Value at k root e = absurd cc
argument_is (more_of-Value v rest) at zero root e =
    let r : at ≡ root = some-is at root e in
    record { offset = 0; root_is = omega (arith, r); value = v; node = first_node v (node_in rest (0 - size v)); within = omega (arith, size_positive v); term = λ p state. refl }
argument_is (more_of-Value v rest) at (suc k) root e =
    let b = argument_is rest (at + size v) k root e in
    record {
      offset = size v + b.offset;
      root_is = omega (arith, b.root_is);
      value = b.value;
      node = further_node v b.offset (node_in rest) (node_of v (size v + b.offset)) ∙ b.node;
      within = omega (arith, b.within);
      term = b.term;
    }

-- ---- placed calls

-- the term of a placed call, with that of one of its arguments
pub record CallTerm (x : Execution) (state : Cell → Term) (f : Symbol) (s t : Spot) (k : ℕ) : Type 0 where
  pub arguments : List Term
  pub call : value_at free x.trace state s ≡ Apply f (terms arguments)
  pub argument : slice_get arguments k ≡ Some (value_at free x.trace state t)

same_node : (w u : Writer) (v z : Value) → AtNode w v ≡ AtNode u z → (w ≡ u) × (v ≡ z)
same_node w u v z e = let a : w ≡ u = cc in let b : v ≡ z = cc in (a, b)

node_call' : (f : Symbol) (n : _) (args : Row_of-Value _) (place : _) (k : ℕ) → node_of (Call' f n args place) (suc k) ≡ node_in args k
unfolding node_of
node_call' f n args place k = refl

size_call' : (f : Symbol) (n : _) (args : Row_of-Value _) (place : _) → size (Call' f n args place) ≡ size_in args + 1
unfolding size
size_call' f n args place = refl

term_call' : (p : Point) (state : Cell → Term) (f : Symbol) (n : _) (args : Row_of-Value _) (place : _) → value_of free p state (Call' f n args place) ≡ Apply f (terms (values_of free p state args))
unfolding value_of
term_call' p state f n args place = refl

call_by : (x : Execution) (state : Cell → Term) (w : Writer) (value : Value) (node k root : ℕ) (symbol : Symbol) (arguments : List ℕ) (s t : Spot) (v : Value) → IsCallOf value node symbol arguments → node_of w.entry.value node ≡ Some value → s ≡ AtNode w value
    → slice_get arguments k ≡ Some root → node_of w.entry.value root ≡ Some v → t ≡ AtNode w v → CallTerm x state symbol s t k
call_by x state w (Number e) node k root symbol arguments s t v h n is r m at = absurd h
call_by x state w (Access array subs place) node k root symbol arguments s t v h n is r m at = absurd h
call_by x state w (Call' g count args place) node k root symbol arguments s t v h n is r m at =
    let a = argument_is args (node + 1) k root (ap (λ (ks : List ℕ). slice_get ks k) (sym h.1) ∙ r) in
    let inner : node_of w.entry.value (node + suc a.offset) ≡ node_of (Call' g count args place) (suc a.offset) = node_sub w.entry.value node (Call' g count args place) n (suc a.offset) (omega (arith, a.within, size_call' g count args place)) in
    let root_is : root ≡ node + suc a.offset = omega (arith, a.root_is) in
    let same : v ≡ a.value = some-is v a.value (sym m ∙ ap (node_of w.entry.value) root_is ∙ inner ∙ node_call' g count args place a.offset ∙ a.node) in
    record {
      arguments = values_of free w.entry.point (run free w.earlier state) args;
      call = ap (value_at free x.trace state) is ∙ term_call' w.entry.point (run free w.earlier state) g count args place ∙ ap (λ (f : Symbol). Apply f (terms (values_of free w.entry.point (run free w.earlier state) args))) (sym h.0);
      argument = a.term w.entry.point (run free w.earlier state) ∙ ap (λ (z : Value). Some (value_of free w.entry.point (run free w.earlier state) z)) (sym same) ∙ ap (λ (z : Spot). Some (value_at free x.trace state z)) (sym at);
    }

pub call_term : (m : Model) (params : List ℤ) (x : Execution) → Describes m params x → (state : Cell → Term) (a b : Placed x) (c : CallPlace x a) (k : ℕ) → ArgumentPlace x a c k b → CallTerm x state c.symbol a.spot b.spot k
unfolding At
call_term m params x d state a b c k r =
    let there : At x (Node c.stmt c.node) a.at a.spot = subst (λ (z : Position). At x z a.at a.spot) c.position_is a.here in
    let here : At x (Node c.stmt r.root) b.at b.spot = subst (λ (z : Position). At x z b.at b.spot) r.position_is b.here in
    by there here
  where
    by : At x (Node c.stmt c.node) a.at a.spot → At x (Node c.stmt r.root) b.at b.spot → CallTerm x state c.symbol a.spot b.spot k
    by (w, i, v, n, is) (w', i', v', n', is') =
        let e = same_node w c.writer v c.value (sym is ∙ c.spot_is) in
        let one : w' ≡ w = d.once w' w i'.stands i.stands (i'.stmt ∙ sym i.stmt) (i'.coords ∙ r.at_is ∙ sym i.coords) in
        call_by x state w c.value c.node k r.root c.symbol c.arguments a.spot b.spot v' c.is_call (n ∙ ap (λ (z : Value). Some z) e.1) (is ∙ ap (AtNode w) e.1) r.root_is
        (ap (λ (z : Writer). node_of z.entry.value r.root) (sym one) ∙ n') (is' ∙ ap (λ (z : Writer). AtNode z v') one)
