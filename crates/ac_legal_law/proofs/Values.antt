-- The value of a node depends only on the cells that its accesses read.
use Rattle.std.proofs.Common.{◌≡◌, ℕ, suc, ◌+◌, ◌-◌, ◌<◌, ◌≤◌, List, ◌∷◌, true, false, cond, refl, ap, ◌∙◌, arith, Some}
use Rattle.std.specs.Prelude.{nat_lt}
use Rattle.std.proofs.lemmas.Bool.Decides.{nat_tests}
use Rattle.ac_syntax.specs.Algebra.{Algebra, Cell, value_of, values_of}
use Rattle.ac_syntax.specs.ValueNodes.{size, node_of, node_in}
use Rattle.ac_syntax.specs.Spot.{cell_at}
use Rattle.ac_syntax.specs.Trace.{Entry}
use Rattle.ac_syntax.specs.declared.tree.IndexExpr.{IndexExpr}
use Rattle.ac_syntax.specs.declared.tree.Place.{Place}
use Rattle.ac_syntax.specs.declared.tree.Value.{Value, Row_of-Value, end_of-Value, more_of-Value}
use Rattle.ac_syntax.specs.declared.tree.Value.TheVariants.{Number, Access, Call'}
use Rattle.ac_syntax.proofs.NodeLemmas.{node_bound, size_positive}
use Rattle.ac_legal_law.specs.Conflicts.{alone}

lt_true : (k n : ℕ) → k < n → nat_lt k n ≡ true
lt_true k n h = grind (arith, nat_tests)

lt_false : (k n : ℕ) → nat_lt (n + k) n ≡ false
lt_false k n = let h : n ≤ n + k = omega arith in grind (arith, nat_tests)

ap_cons : {A : Type 0} {x y : A} {xs ys : List A} → x ≡ y → xs ≡ ys → x ∷ xs ≡ y ∷ ys
ap_cons p q = λ i. p i ∷ q i

first_node : {m : _} (v : Value) (rest : Row_of-Value m) (k : ℕ) (u : Value) → node_of v k ≡ Some u → node_in (more_of-Value v rest) k ≡ Some u
unfolding node_of
first_node v rest k u h =
    let b : k < size v = (let n = node_bound v k u h in let p = size_positive u in omega arith) in
    ap (λ t. cond t (node_of v k) (node_in rest (k - size v))) (lt_true k (size v) b) ∙ h

later_node : {m : _} (v : Value) (rest : Row_of-Value m) (k : ℕ) (u : Value) → node_in rest k ≡ Some u → node_in (more_of-Value v rest) (size v + k) ≡ Some u
unfolding node_of
later_node v rest k u h =
    let e : size v + k - size v ≡ k = omega arith in
    ap (λ t. cond t (node_of v (size v + k)) (node_in rest (size v + k - size v))) (lt_false k (size v)) ∙ ap (node_in rest) e ∙ h

mutual
  unfolding value_of node_of

  -- two states that agree in each cell that is read give one value
  pub value_same : (a : Algebra) (e : Entry) (s t : Cell → a.Carrier) (v : Value)
      → ((k : ℕ) (array : ℕ) (subs : List IndexExpr) (place : Place) → node_of v k ≡ Some (Access array subs place) → s (cell_at (alone e) array subs) ≡ t (cell_at (alone e) array subs))
      → value_of a e.point s v ≡ value_of a e.point t v
  value_same a e s t (Number n) h = refl
  value_same a e s t (Access array subs place) h = h 0 array subs place refl
  value_same a e s t (Call' symbol n args place) h = ap (a.call symbol) (values_same a e s t args (λ k array subs place g. h (suc k) array subs place g))

  values_same : (a : Algebra) (e : Entry) (s t : Cell → a.Carrier) → {m : _} → (vs : Row_of-Value m)
      → ((k : ℕ) (array : ℕ) (subs : List IndexExpr) (place : Place) → node_in vs k ≡ Some (Access array subs place) → s (cell_at (alone e) array subs) ≡ t (cell_at (alone e) array subs))
      → values_of a e.point s vs ≡ values_of a e.point t vs
  values_same a e s t end_of-Value h = refl
  values_same a e s t (more_of-Value v rest) h =
      ap_cons
      (value_same a e s t v (λ k array subs place g. h k array subs place (first_node v rest k _ g)))
      (values_same a e s t rest (λ k array subs place g. h (size v + k) array subs place (later_node v rest k _ g)))
