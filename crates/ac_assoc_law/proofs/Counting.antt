-- Calls with as many arguments as their symbols say: by recursion over a value, and by its nodes.
use Rattle.std.proofs.Common.{◌≡◌, ℕ, zero, suc, ◌+◌, ◌-◌, ◌<◌, ◌≤◌, List, length, Bool, true, false, cond, Option, Some, refl, sym, ap, ◌∙◌, subst, rules, arith}
use Rattle.std.specs.Prelude.{nat_lt}
use Rattle.std.specs.List.{AllByRecursion}
use Rattle.std.proofs.lemmas.Bool.Decides.{nat_tests}
use Rattle.ac_base.proofs.Options.{some-is}
use Rattle.ac_syntax.specs.ValueNodes.{size, node_of, node_in}
use Rattle.ac_syntax.specs.declared.tree.Place.{Place}
use Rattle.ac_syntax.specs.declared.tree.Symbol.{Symbol}
use Rattle.ac_syntax.specs.declared.tree.Value.{Value, Row_of-Value, end_of-Value, more_of-Value, items-the_row-Value, the_lemmas}
use Rattle.ac_syntax.specs.declared.tree.Value.TheVariants.{Number, Access, Call, Call'}
use Rattle.ac_syntax.proofs.NodeLemmas.{size_positive, node_root, node_bound}
use Rattle.ac_syntax.proofs.ValueCases.{value_cases}
use Rattle.ac_assoc_law.specs.ArrangedPairs.{CallsHaveArities}

unfoldable pub count : {m : _} → Row_of-Value m → ℕ
count end_of-Value = 0
count (more_of-Value v rest) = suc (count rest)

unfoldable mutual
  pub HasCounts : Value → Type 0
  HasCounts (Number e) = Unit {0}
  HasCounts (Access array subs place) = Unit {0}
  HasCounts (Call' symbol n args place) = (count args ≡ symbol.arity) × EachHasCounts args

  pub EachHasCounts : {m : _} → Row_of-Value m → Type 0
  EachHasCounts end_of-Value = Unit {0}
  EachHasCounts (more_of-Value v rest) = HasCounts v × EachHasCounts rest

pub count_row : (m : _) (k : Row_of-Value m) → count k ≡ length (items-the_row-Value m k)
unfolding count
count_row m end_of-Value = refl
count_row m (more_of-Value {n = n} v rest) = ap (λ c. suc c) (count_row n rest)

of_row : (m : _) (k : Row_of-Value m) → AllByRecursion HasCounts (items-the_row-Value m k) → EachHasCounts k
unfolding HasCounts
of_row m end_of-Value h = tt
of_row m (more_of-Value {n = n} v rest) h = (h.0, of_row n rest h.1)

call_row : (s : Symbol) (n : _) (args : Row_of-Value _) (place : Place) → length (items-the_row-Value _ args) ≡ s.arity → AllByRecursion HasCounts (items-the_row-Value _ args) → HasCounts (Call' s n args place)
unfolding HasCounts
call_row s n args place e h = (count_row _ args ∙ e, of_row _ args h)

pub call_counts : (s : Symbol) (args : List Value) (place : Place) → length args ≡ s.arity → AllByRecursion HasCounts args → HasCounts (Call s args place)
call_counts s args place e h = search (rules, the_lemmas, call_row, e, h)

-- ---- from the nodes

unfoldable RootCounts : Value → Type 0
RootCounts (Number e) = Unit {0}
RootCounts (Access array subs place) = Unit {0}
RootCounts (Call' symbol n args place) = count args ≡ symbol.arity

root_row : (s : Symbol) (n : _) (args : Row_of-Value _) (place : Place) → length (items-the_row-Value _ args) ≡ s.arity → RootCounts (Call' s n args place)
unfolding RootCounts
root_row s n args place e = count_row _ args ∙ e

root_counts : (s : Symbol) (args : List Value) (place : Place) → length args ≡ s.arity → RootCounts (Call s args place)
root_counts s args place e = search (rules, the_lemmas, root_row, e)

root_of_nodes : (v : Value) → CallsHaveArities v → RootCounts v
unfolding RootCounts
root_of_nodes = value_cases (λ (v : Value). CallsHaveArities v → RootCounts v) (λ e h. tt) (λ array subs place h. tt) (λ f xs place h. root_counts f xs place (h 0 f xs place (node_root (Call f xs place))))

lt_true : (k n : ℕ) → k < n → nat_lt k n ≡ true
lt_true k n h = grind (arith, nat_tests)

lt_false : (k n : ℕ) → n ≤ k → nat_lt k n ≡ false
lt_false k n h = grind (arith, nat_tests)

in_first : (v u : Value) (k : ℕ) (o : Option Value) → node_of v k ≡ Some u → cond (nat_lt k (size v)) (node_of v k) o ≡ Some u
in_first v u k o e =
    let b : k + size u ≤ size v = node_bound v k u e in
    let p : 1 ≤ size u = size_positive u in
    ap (λ b. cond b (node_of v k) o) (lt_true k (size v) (omega arith)) ∙ e

in_rest : (n k : ℕ) (v u : Value) (f : ℕ → Option Value) → f k ≡ Some u → cond (nat_lt (n + k) n) (node_of v (n + k)) (f (n + k - n)) ≡ Some u
in_rest n k v u f e =
    let d : n + k - n ≡ k = omega arith in
    ap (λ b. cond b (node_of v (n + k)) (f (n + k - n))) (lt_false (n + k) n (omega arith)) ∙ ap f d ∙ e

mutual
  unfolding node_of HasCounts RootCounts

  pub counts_of_nodes : (v : Value) → CallsHaveArities v → HasCounts v
  counts_of_nodes (Number e) h = tt
  counts_of_nodes (Access array subs place) h = tt
  counts_of_nodes (Call' symbol n args place) h = (root_of_nodes (Call' symbol n args place) h, counts_of_args args (λ k f xs p e. h (suc k) f xs p e))

  counts_of_args : {m : _} (args : Row_of-Value m) → ((k : ℕ) (f : Symbol) (xs : List Value) (p : Place) → node_in args k ≡ Some (Call f xs p) → length xs ≡ f.arity) → EachHasCounts args
  counts_of_args end_of-Value h = tt
  counts_of_args (more_of-Value v rest) h = (
    counts_of_nodes v (λ k f xs p e. h k f xs p (in_first v (Call f xs p) k (node_in rest (k - size v)) e)),
    counts_of_args rest (λ k f xs p e. h (size v + k) f xs p (in_rest (size v) k v (Call f xs p) (node_in rest) e)),
  )

-- ---- to the nodes

node_test : (b : Bool) (o p : Option Value) (u : Value) → cond b o p ≡ Some u → (o ≡ Some u → HasCounts u) → (p ≡ Some u → HasCounts u) → HasCounts u
node_test true o p u e f g = f e
node_test false o p u e f g = g e

mutual
  unfolding node_of HasCounts

  in_value : (v : Value) (k : ℕ) (u : Value) → HasCounts v → node_of v k ≡ Some u → HasCounts u
  in_value (Number f) zero u h e = subst HasCounts (some-is (Number f) u e) tt
  in_value (Number f) (suc k) u h e = absurd cc
  in_value (Access array subs place) zero u h e = subst HasCounts (some-is (Access array subs place) u e) tt
  in_value (Access array subs place) (suc k) u h e = absurd cc
  in_value (Call' symbol n args place) zero u h e = subst HasCounts (some-is (Call' symbol n args place) u e) h
  in_value (Call' symbol n args place) (suc k) u h e = in_values args k u h.1 e

  in_values : {m : _} (vs : Row_of-Value m) (k : ℕ) (u : Value) → EachHasCounts vs → node_in vs k ≡ Some u → HasCounts u
  in_values end_of-Value k u h e = absurd cc
  in_values (more_of-Value v rest) k u h e = node_test (nat_lt k (size v)) (node_of v k) (node_in rest (k - size v)) u e (in_value v k u h.0) (in_values rest (k - size v) u h.1)

arity_row : (f : Symbol) (m : _) (args : Row_of-Value _) (place : Place) → HasCounts (Call' f m args place) → length (items-the_row-Value _ args) ≡ f.arity
unfolding HasCounts
arity_row f m args place h = sym (count_row _ args) ∙ h.0

call_arity : (f : Symbol) (args : List Value) (place : Place) → HasCounts (Call f args place) → length args ≡ f.arity
call_arity f args place h = search (rules, the_lemmas, arity_row, h)

pub nodes_of_counts : (v : Value) → HasCounts v → CallsHaveArities v
nodes_of_counts v h k f args place e = call_arity f args place (in_value v k (Call f args place) h e)
