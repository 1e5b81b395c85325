-- The nodes of operands are theirs.
use Rattle.std.proofs.Common.{◌≡◌, ℕ, suc, ◌+◌, ◌-◌, ◌<◌, ◌≤◌, List, [], ◌∷◌, ◌++◌, map, Bool, true, false, cond, Some, refl, sym, ap, ◌∙◌, arith}
use Rattle.std.specs.Prelude.{nat_lt}
use Rattle.std.proofs.lemmas.List.{map-append}
use Rattle.std.proofs.lemmas.Bool.Decides.{nat_tests}
use Rattle.ac_syntax.specs.ValueNodes.{size, size_in, node_of, node_in}
use Rattle.ac_syntax.specs.declared.tree.Value.{Value, Row_of-Value, end_of-Value, more_of-Value}
use Rattle.ac_syntax.specs.declared.tree.Value.TheVariants.{Number, Access, Call'}
use Rattle.ac_syntax.proofs.NodeLemmas.{size_positive, node_root, node_sub}
use Rattle.ac_assoc_law.specs.OperandChains.{is_binary, operands, operands_in}
use Rattle.ac_assoc.specs.ProgramChains.{operand_nodes, operand_nodes_in, OperandsStandAtTheirNodes}

appended : {A : Type 0} {xs ys zs ws : List A} → xs ≡ zs → ys ≡ ws → xs ++ ys ≡ zs ++ ws
appended p q = λ i. p i ++ q i

lt_true : (k n : ℕ) → k < n → nat_lt k n ≡ true
lt_true k n h = grind (arith, nat_tests)

lt_false : (k n : ℕ) → n ≤ k → nat_lt k n ≡ false
lt_false k n h = grind (arith, nat_tests)

module _ (root : Value) (f : List ℕ) where
  itself : (k : ℕ) (v : Value) → ((j : ℕ) → j < size v → node_of root (k + j) ≡ node_of v j) → node_of root k ≡ Some v
  itself k v h = let e : k + 0 ≡ k = omega arith in ap (node_of root) (sym e) ∙ h 0 (size_positive v) ∙ node_root v

  either : (b : Bool) (xs : List ℕ) (ys : List Value) (k : ℕ) (v : Value) → map (node_of root) xs ≡ map (λ u. Some u) ys → node_of root k ≡ Some v
      → map (node_of root) (cond b xs (k ∷ [])) ≡ map (λ u. Some u) (cond b ys (v ∷ []))
  either true xs ys k v h e = h
  either false xs ys k v h e = ap (λ o. o ∷ []) e

  mutual
    unfolding node_of size operands operand_nodes

    at_value : (k : ℕ) (v : Value) → ((j : ℕ) → j < size v → node_of root (k + j) ≡ node_of v j) → map (node_of root) (operand_nodes f k v) ≡ map (λ u. Some u) (operands f v)
    at_value k (Number e) h = ap (λ o. o ∷ []) (itself k (Number e) h)
    at_value k (Access array subs place) h = ap (λ o. o ∷ []) (itself k (Access array subs place) h)
    at_value k (Call' symbol n args place) h =
        either (is_binary f symbol) (operand_nodes_in f (suc k) args) (operands_in f args) k (Call' symbol n args place)
        (at_values (suc k) args (λ j l. let e : suc k + j ≡ k + suc j = omega arith in ap (node_of root) e ∙ h (suc j) (omega arith))) (itself k (Call' symbol n args place) h)

    at_values : (k : ℕ) {m : _} (args : Row_of-Value m) → ((j : ℕ) → j < size_in args → node_of root (k + j) ≡ node_in args j) → map (node_of root) (operand_nodes_in f k args) ≡ map (λ u. Some u) (operands_in f args)
    at_values k end_of-Value h = refl
    at_values k (more_of-Value v rest) h =
        map-append (node_of root) (operand_nodes f k v) (operand_nodes_in f (k + size v) rest)
        ∙ appended
        (at_value k v (λ j l. h j (omega arith) ∙ ap (λ b. cond b (node_of v j) (node_in rest (j - size v))) (lt_true j (size v) l)))
        (at_values (k + size v) rest (λ j l.
        let e : k + size v + j ≡ k + (size v + j) = omega arith in
        let d : size v + j - size v ≡ j = omega arith in
        let g : size v ≤ size v + j = omega arith in
        ap (node_of root) e ∙ h (size v + j) (omega arith) ∙ ap (λ b. cond b (node_of v (size v + j)) (node_in rest (size v + j - size v))) (lt_false (size v + j) (size v) g) ∙ ap (node_in rest) d))
        ∙ sym (map-append (λ u. Some u) (operands f v) (operands_in f rest))

pub operands_stand : OperandsStandAtTheirNodes
operands_stand f root k v h = at_value root f k v (node_sub root k v h)
