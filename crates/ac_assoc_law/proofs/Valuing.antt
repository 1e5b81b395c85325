-- The value of an arranged value is that of the old one's chains.
use Rattle.std.proofs.Common.{◌≡◌, ℕ, suc, ◌+◌, ◌≤◌, List, [], ◌∷◌, ◌++◌, length, map, true, false, cond, refl, ap, ◌∙◌, arith, rules, ℤ}
use Rattle.std.proofs.lemmas.List.{map-append}
use Rattle.ac_syntax.specs.Index.{Point}
use Rattle.ac_syntax.specs.ValueNodes.{size}
use Rattle.ac_syntax.specs.Algebra.{Algebra, Cell, integers, value_of, values_of}
use Rattle.ac_syntax.specs.Outputs.{swaps_of}
use Rattle.ac_syntax.specs.declared.tree.Place.{Place}
use Rattle.ac_syntax.specs.declared.tree.Symbol.{Symbol}
use Rattle.ac_syntax.specs.declared.tree.Value.{Value, Row_of-Value, end_of-Value, more_of-Value, items-the_row-Value, the_lemmas}
use Rattle.ac_syntax.specs.declared.tree.Value.TheVariants.{Number, Access, Call, Call'}
use Rattle.ac_assoc_law.specs.Rising.{rising}
use Rattle.ac_assoc_law.specs.OperandChains.{binary, is_binary, operands_in, Tables, call_value, chain_value, chain_values, operand_values, operand_values_in}
use Rattle.ac_assoc_law.specs.ArrangedPairs.{is_misused, CanArrange, EachCanArrange, permuted, one_call, arranged, arranged_args, arranged_operands, arranged_operands_in}
use Rattle.ac_assoc_law.specs.ArrangedTables.{arranged_table}
use Rattle.ac_assoc_law.proofs.Permuting.{permuted_rises}
use Rattle.ac_assoc_law.proofs.Testing.{cond_law, chain_holds, call_kept, swaps_arity}
use Rattle.ac_assoc_law.proofs.Counting.{count, HasCounts, EachHasCounts}
use Rattle.ac_assoc_law.proofs.Operands.{as_many_operands, operands_in_arranged}

row : (a : Algebra) (p : Point) (state : Cell → a.Carrier) (m : _) (k : Row_of-Value m) → values_of a p state k ≡ map (value_of a p state) (items-the_row-Value m k)
unfolding value_of
row a p state m end_of-Value = refl
row a p state m (more_of-Value {n = n} v rest) = ap (λ xs. value_of a p state v ∷ xs) (row a p state n rest)

value_call : (a : Algebra) (p : Point) (state : Cell → a.Carrier) (s : Symbol) (args : List Value) (place : Place) → value_of a p state (Call s args place) ≡ a.call s (map (value_of a p state) args)
unfolding value_of
value_call a p state s args place = search (rules, the_lemmas, row)

appended : {A : Type 0} {xs ys zs ws : List A} → xs ≡ zs → ys ≡ ws → xs ++ ys ≡ zs ++ ws
appended p q = λ i. p i ++ q i

consed : {A : Type 0} {x y : A} {xs ys : List A} → x ≡ y → xs ≡ ys → x ∷ xs ≡ y ∷ ys
consed p q = λ i. p i ∷ q i

module _ (names : List (List ℕ)) (t : Tables) (p : Point) (state : Cell → ℤ) where
  abbrev table : Symbol → List ℤ → ℤ
  table = arranged_table names t

  abbrev value : Value → ℤ
  value = value_of (integers table) p state

  -- one call of the operands
  one_call_law : (symbol : Symbol) (number : ℕ) (xs : List Value) (place : Place) → swaps_of names symbol ≡ true → 2 ≤ length xs → length xs ≤ 6
      → value (one_call symbol number xs place) ≡ t.chains (binary symbol.name) (rising (map value xs))
  one_call_law symbol number xs place h l g =
      value_call (integers table) p state (record { name = symbol.name; arity = length xs }) (permuted (length xs) number xs) place
      ∙ ap (λ b. cond b (t.chains (binary symbol.name) (rising (map value (permuted (length xs) number xs)))) (t.calls (record { name = symbol.name; arity = length xs }) (map value (permuted (length xs) number xs)))) (chain_holds names symbol (length xs) h l g)
      ∙ ap (t.chains (binary symbol.name)) (permuted_rises value (length xs) number xs)

  kept_law : (symbol : Symbol) (ys zs : List ℤ) → swaps_of names symbol ≡ false → is_misused names symbol ≡ false → ys ≡ zs → table symbol ys ≡ t.calls symbol zs
  kept_law symbol ys zs h g e = ap (λ b. cond b (t.chains (binary symbol.name) (rising ys)) (t.calls symbol ys)) (call_kept names symbol h g) ∙ ap (t.calls symbol) e

  module _ (choice : ℕ → ℕ) where
    call_law : (k : ℕ) (symbol : Symbol) (n : _) (args : Row_of-Value _) (place : Place) → CanArrange names (Call' symbol n args place) → HasCounts (Call' symbol n args place)
        → map value (arranged_operands_in names choice symbol.name (suc k) args) ≡ operand_values_in names t p state symbol.name args
        → map value (arranged_args names choice (suc k) args) ≡ chain_values names t p state args
        → value (cond (swaps_of names symbol) (one_call symbol (choice k) (arranged_operands_in names choice symbol.name (suc k) args) place) (Call symbol (arranged_args names choice (suc k) args) place))
        ≡ call_value names t symbol (operand_values_in names t p state symbol.name args) (chain_values names t p state args)
    unfolding value_of CanArrange HasCounts
    call_law k symbol n args place h c sums vals =
        cond_law value (swaps_of names symbol)
        (λ s.
        let m : length (arranged_operands_in names choice symbol.name (suc k) args) ≡ length (operands_in symbol.name args) = operands_in_arranged names choice symbol.name (suc k) args in
        let few : length (operands_in symbol.name args) ≤ 6 = h.1 s in
        let many : count args ≤ length (operands_in symbol.name args) = as_many_operands symbol.name args c.1 in
        let two : symbol.arity ≡ 2 = swaps_arity names symbol s in
        one_call_law symbol (choice k) (arranged_operands_in names choice symbol.name (suc k) args) place s (omega (arith, c.0)) (omega arith)
        ∙ ap (λ ys. t.chains (binary symbol.name) (rising ys)) sums)
        (λ s. value_call (integers table) p state symbol (arranged_args names choice (suc k) args) place ∙ kept_law symbol _ _ s h.0 vals)

    mutual
      unfolding value_of chain_value arranged CanArrange HasCounts

      pub value_law : (k : ℕ) (v : Value) → CanArrange names v → HasCounts v → value (arranged names choice k v) ≡ chain_value names t p state v
      value_law k (Number e) h c = refl
      value_law k (Access array subs place) h c = refl
      value_law k (Call' symbol n args place) h c = call_law k symbol n args place h c (operands_in_law symbol.name (suc k) args h.2 c.1) (values_law (suc k) args h.2 c.1)

      values_law : (k : ℕ) {m : _} (args : Row_of-Value m) → EachCanArrange names args → EachHasCounts args → map value (arranged_args names choice k args) ≡ chain_values names t p state args
      values_law k end_of-Value h c = refl
      values_law k (more_of-Value v rest) h c = consed (value_law k v h.0 c.0) (values_law (k + size v) rest h.1 c.1)

      operands_law : (f : List ℕ) (k : ℕ) (v : Value) → CanArrange names v → HasCounts v → map value (arranged_operands names choice f k v) ≡ operand_values names t p state f v
      operands_law f k (Number e) h c = refl
      operands_law f k (Access array subs place) h c = refl
      operands_law f k (Call' symbol n args place) h c =
          cond_law (map value) (is_binary f symbol) (λ b. operands_in_law f (suc k) args h.2 c.1)
          (λ b. ap (λ x. x ∷ []) (call_law k symbol n args place h c (operands_in_law symbol.name (suc k) args h.2 c.1) (values_law (suc k) args h.2 c.1)))

      operands_in_law : (f : List ℕ) (k : ℕ) {m : _} (args : Row_of-Value m) → EachCanArrange names args → EachHasCounts args → map value (arranged_operands_in names choice f k args) ≡ operand_values_in names t p state f args
      operands_in_law f k end_of-Value h c = refl
      operands_in_law f k (more_of-Value v rest) h c =
          map-append value (arranged_operands names choice f k v) (arranged_operands_in names choice f (k + size v) rest)
          ∙ appended (operands_law f k v h.0 c.0) (operands_in_law f (k + size v) rest h.1 c.1)
