-- The nodes below a node follow it.
use Rattle.std.proofs.Common.{◌≡◌, ℕ, zero, suc, ◌+◌, ◌-◌, ◌<◌, ◌≤◌, List, [], ◌∷◌, ◌++◌, Bool, true, false, cond, refl, ap, ◌∙◌, arith, Option, Some, rules, sum_by}
use Rattle.std.specs.Prelude.{nat_lt}
use Rattle.std.proofs.lemmas.List.Sums.{sum_by-cons}
use Rattle.std.proofs.lemmas.Bool.Decides.{nat_tests}
use Rattle.ac_syntax.specs.ValueNodes.{size, size_in, node_of, node_in}
use Rattle.ac_syntax.proofs.NodeLists.{node_among}
use Rattle.ac_syntax.specs.declared.tree.Place.{Place}
use Rattle.ac_syntax.specs.declared.tree.Symbol.{Symbol}
use Rattle.ac_syntax.specs.declared.tree.Value.{Value, Row_of-Value, end_of-Value, more_of-Value, items-the_row-Value, the_lemmas}
use Rattle.ac_syntax.specs.declared.tree.Value.TheVariants.{Number, Access, Call', Call}

-- either the number is below the size of the first, or beyond it
pub in_first : (k n : ℕ) → (b : Bool) → nat_lt k n ≡ b → cond b (k < n) (n ≤ k)
in_first k n true h = grind (arith, nat_tests)
in_first k n false h = grind (arith, nat_tests)

pub size_positive : (v : Value) → 1 ≤ size v
unfolding size
size_positive (Number e) = omega arith
size_positive (Access array subs place) = omega arith
size_positive (Call' symbol n args place) = omega arith

pub node_root : (v : Value) → node_of v 0 ≡ Some v
unfolding node_of
node_root (Number e) = refl
node_root (Access array subs place) = refl
node_root (Call' symbol n args place) = refl

bound_cases : (v : Value) (k : ℕ) (u : Value) (n : ℕ) (b : Bool) → nat_lt k (size v) ≡ b → (o : Option Value) → cond b (node_of v k) o ≡ Some u
    → (node_of v k ≡ Some u → k + size u ≤ size v) → (o ≡ Some u → (k - size v) + size u ≤ n) → k + size u ≤ size v + n
bound_cases v k u n true i o h f g = let e : k + size u ≤ size v = f h in omega arith
bound_cases v k u n false i o h f g = let e : (k - size v) + size u ≤ n = g h in let j : size v ≤ k = in_first k (size v) false i in omega arith

mutual
  unfolding node_of size

  -- a node's subtree ends within
  pub node_bound : (v : Value) (k : ℕ) (u : Value) → node_of v k ≡ Some u → k + size u ≤ size v
  node_bound (Number e) zero u h = let i : Number e ≡ u = cc in rw (← i) (omega arith)
  node_bound (Number e) (suc k) u h = absurd cc
  node_bound (Access array subs place) zero u h = let i : Access array subs place ≡ u = cc in rw (← i) (omega arith)
  node_bound (Access array subs place) (suc k) u h = absurd cc
  node_bound (Call' symbol n args place) zero u h = let i : Call' symbol n args place ≡ u = cc in rw (← i) (omega arith)
  node_bound (Call' symbol n args place) (suc k) u h = let e = node_in_bound args k u h in omega arith

  pub node_in_bound : {m : _} (vs : Row_of-Value m) (k : ℕ) (u : Value) → node_in vs k ≡ Some u → k + size u ≤ size_in vs
  node_in_bound end_of-Value k u h = absurd cc
  node_in_bound (more_of-Value v rest) k u h = bound_cases v k u (size_in rest) (nat_lt k (size v)) refl (node_in rest (k - size v)) h (node_bound v k u) (node_in_bound rest (k - size v) u)

zero_add : (j : ℕ) → 0 + j ≡ j
zero_add j = omega arith

suc_add : (k j : ℕ) → suc k + j ≡ suc (k + j)
suc_add k j = omega arith

sub_cases : (v u : Value) (k j : ℕ) (n : ℕ) → (b : Bool) → nat_lt k (size v) ≡ b → (c : Bool) → nat_lt (k + j) (size v) ≡ c → (f : ℕ → Option Value) → cond b (node_of v k) (f (k - size v)) ≡ Some u → j < size u
    → (node_of v k ≡ Some u → node_of v (k + j) ≡ node_of u j) → (f (k - size v) ≡ Some u → f ((k - size v) + j) ≡ node_of u j) → cond c (node_of v (k + j)) (f (k + j - size v)) ≡ node_of u j
sub_cases v u k j n true i true i' f h l a b = a h
sub_cases v u k j n true i false i' f h l a b =
    let e : k + size u ≤ size v = node_bound v k u h in let g : size v ≤ k + j = in_first (k + j) (size v) false i' in absurd (omega arith)
sub_cases v u k j n false i true i' f h l a b = let g : size v ≤ k = in_first k (size v) false i in let g' : k + j < size v = in_first (k + j) (size v) true i' in absurd (omega arith)
sub_cases v u k j n false i false i' f h l a b = let g : size v ≤ k = in_first k (size v) false i in let e : k + j - size v ≡ (k - size v) + j = omega arith in rw e (b h)

mutual
  unfolding node_of

  -- the subtree of a node stands from it on
  pub node_sub : (v : Value) (k : ℕ) (u : Value) → node_of v k ≡ Some u → (j : ℕ) → j < size u → node_of v (k + j) ≡ node_of u j
  node_sub (Number e) zero u h j l = let i : Number e ≡ u = cc in rw (← i, zero_add j) refl
  node_sub (Number e) (suc k) u h j l = absurd cc
  node_sub (Access array subs place) zero u h j l = let i : Access array subs place ≡ u = cc in rw (← i, zero_add j) refl
  node_sub (Access array subs place) (suc k) u h j l = absurd cc
  node_sub (Call' symbol n args place) zero u h j l = let i : Call' symbol n args place ≡ u = cc in rw (← i, zero_add j) refl
  node_sub (Call' symbol n args place) (suc k) u h j l = rw (suc_add k j) (node_in_sub args k u h j l)

  pub node_in_sub : {m : _} (vs : Row_of-Value m) (k : ℕ) (u : Value) → node_in vs k ≡ Some u → (j : ℕ) → j < size u → node_in vs (k + j) ≡ node_of u j
  node_in_sub end_of-Value k u h j l = absurd cc
  node_in_sub (more_of-Value v rest) k u h j l =
      sub_cases v u k j 0 (nat_lt k (size v)) refl (nat_lt (k + j) (size v)) refl (node_in rest) h l (λ e. node_sub v k u e j l) (λ e. node_in_sub rest (k - size v) u e j l)

-- at lists
row : (m : _) (vs : Row_of-Value m) (k : ℕ) → node_in vs k ≡ node_among (items-the_row-Value m vs) k
unfolding node_of
row m end_of-Value k = refl
row m (more_of-Value {n = n} v rest) k = ap (λ o. cond (nat_lt k (size v)) (node_of v k) o) (row n rest (k - size v))

pub node_call : (f : Symbol) (xs : List Value) (p : Place) (k : ℕ) → node_of (Call f xs p) (suc k) ≡ node_among xs k
unfolding node_of
node_call f xs p k = search (rules, the_lemmas, row)

lt_true : (k n : ℕ) → k < n → nat_lt k n ≡ true
lt_true k n h = grind (arith, nat_tests)

lt_false : (k n : ℕ) → n ≤ k → nat_lt k n ≡ false
lt_false k n h = grind (arith, nat_tests)

-- the node of an argument
pub node_argument : (ws : List Value) (x : Value) (bs : List Value) → node_among (ws ++ x ∷ bs) (sum_by size ws) ≡ Some x
node_argument [] x bs = rw (lt_true 0 (size x) (size_positive x)) (node_root x)
node_argument (w ∷ ws) x bs =
    let e : sum_by size (w ∷ ws) - size w ≡ sum_by size ws = omega (arith, sum_by-cons size w ws) in
    rw (lt_false (sum_by size (w ∷ ws)) (size w) (omega (arith, sum_by-cons size w ws)), e) (node_argument ws x bs)

pub argument_node : (root : Value) (k : ℕ) (f : Symbol) (ws : List Value) (x : Value) (bs : List Value) (p : Place) → node_of root k ≡ Some (Call f (ws ++ x ∷ bs) p) → node_of root (k + suc (sum_by size ws)) ≡ Some x
argument_node root k f ws x bs p h =
    let e : node_of (Call f (ws ++ x ∷ bs) p) (suc (sum_by size ws)) ≡ Some x = node_call f (ws ++ x ∷ bs) p (sum_by size ws) ∙ node_argument ws x bs in
    let b : suc (sum_by size ws) + size x ≤ size (Call f (ws ++ x ∷ bs) p) = node_bound _ _ x e in
    let i : 1 ≤ size x = size_positive x in
    node_sub root k (Call f (ws ++ x ∷ bs) p) h (suc (sum_by size ws)) (omega arith) ∙ e
