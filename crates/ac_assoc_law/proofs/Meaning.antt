-- The operands and the values of chains, with the arguments of a call as a list.
use Rattle.std.proofs.Common.{◌≡◌, ℕ, List, [], ◌∷◌, ◌++◌, map, true, cond, refl, sym, ap, ◌∙◌, rules, ℤ}
use Rattle.std.proofs.lemmas.List.{map-append}
use Rattle.std.specs.Prelude.{◌&&◌, nat_eq}
use Rattle.std.specs.Cmp.Lexicographic.{pointwise}
use Rattle.std.proofs.lemmas.Cmp.{nat_list_eq_equiv}
use Rattle.std.specs.List.{flat_map}
use Rattle.ac_syntax.specs.Index.{Point}
use Rattle.ac_syntax.specs.Algebra.{Cell}
use Rattle.ac_syntax.specs.Outputs.{swaps_of}
use Rattle.ac_syntax.specs.declared.tree.Place.{Place}
use Rattle.ac_syntax.specs.declared.tree.Symbol.{Symbol}
use Rattle.ac_syntax.specs.declared.tree.Value.{Value, Row_of-Value, end_of-Value, more_of-Value, items-the_row-Value, the_lemmas}
use Rattle.ac_syntax.specs.declared.tree.Value.TheVariants.{Number, Access, Call, Call'}
use Rattle.ac_assoc_law.specs.Rising.{rising}
use Rattle.ac_assoc_law.specs.OperandChains.{binary, is_binary, operands, operands_in, Tables, call_value, chain_value, chain_values, operand_values, operand_values_in}
use Rattle.ac_assoc_law.specs.LawsOfChains.{CallsBringTheirOperands, OthersBringThemselves, LeavesBringThemselves, ChainsHaveOneValue, OthersHaveTheirValue, LeavesHaveTheirValue}
use Rattle.ac_assoc_law.proofs.Testing.{first_true, cond_law}

operands_row : (f : List ℕ) (m : _) (k : Row_of-Value m) → operands_in f k ≡ flat_map (operands f) (items-the_row-Value m k)
unfolding operands
operands_row f m end_of-Value = refl
operands_row f m (more_of-Value {n = n} v rest) = ap (λ xs. operands f v ++ xs) (operands_row f n rest)

operands_call_row : (f : List ℕ) (s : Symbol) (n : _) (args : Row_of-Value _) (place : Place) → operands f (Call' s n args place) ≡ cond (is_binary f s) (flat_map (operands f) (items-the_row-Value _ args)) (Call' s n args place ∷ [])
unfolding operands
operands_call_row f s n args place = ap (λ xs. cond (is_binary f s) xs (Call' s n args place ∷ [])) (operands_row f _ args)

operands_call : (f : List ℕ) (s : Symbol) (args : List Value) (place : Place) → operands f (Call s args place) ≡ cond (is_binary f s) (flat_map (operands f) args) (Call s args place ∷ [])
operands_call f s args place = search (rules, the_lemmas, operands_call_row)

pub calls_bring : CallsBringTheirOperands
calls_bring f s args place h = operands_call f s args place ∙ ap (λ b. cond b (flat_map (operands f) args) (Call s args place ∷ [])) h

pub others_bring : OthersBringThemselves
others_bring f s args place h = operands_call f s args place ∙ ap (λ b. cond b (flat_map (operands f) args) (Call s args place ∷ [])) h

pub leaves_bring : LeavesBringThemselves
unfolding operands
leaves_bring f e array subs place = (refl, refl)

pub own_binary : (names : List (List ℕ)) (s : Symbol) → swaps_of names s ≡ true → is_binary s.name s ≡ true
own_binary names s h = ap (λ b. b && pointwise nat_eq s.name s.name) (first_true _ _ h) ∙ nat_list_eq_equiv.refl s.name

appended : {A : Type 0} {xs ys zs ws : List A} → xs ≡ zs → ys ≡ ws → xs ++ ys ≡ zs ++ ws
appended p q = λ i. p i ++ q i

module _ (names : List (List ℕ)) (t : Tables) (p : Point) (state : Cell → ℤ) where
  abbrev value : Value → ℤ
  value = chain_value names t p state

  mutual
    unfolding operands chain_value

    values_of_operands : (f : List ℕ) (v : Value) → map value (operands f v) ≡ operand_values names t p state f v
    values_of_operands f (Number e) = refl
    values_of_operands f (Access array subs place) = refl
    values_of_operands f (Call' symbol n args place) = cond_law (map value) (is_binary f symbol) (λ b. values_of_operands_in f args) (λ b. refl)

    values_of_operands_in : (f : List ℕ) {m : _} (args : Row_of-Value m) → map value (operands_in f args) ≡ operand_values_in names t p state f args
    values_of_operands_in f end_of-Value = refl
    values_of_operands_in f (more_of-Value v rest) =
        map-append value (operands f v) (operands_in f rest) ∙ appended (values_of_operands f v) (values_of_operands_in f rest)

  values_row : (m : _) (k : Row_of-Value m) → chain_values names t p state k ≡ map value (items-the_row-Value m k)
  unfolding chain_value
  values_row m end_of-Value = refl
  values_row m (more_of-Value {n = n} v rest) = ap (λ xs. value v ∷ xs) (values_row n rest)

  call_row : (s : Symbol) (n : _) (args : Row_of-Value _) (place : Place)
      → value (Call' s n args place) ≡ call_value names t s (map value (flat_map (operands s.name) (items-the_row-Value _ args))) (map value (items-the_row-Value _ args))
  unfolding chain_value
  call_row s n args place =
      ap (λ xs. call_value names t s xs (chain_values names t p state args)) (sym (values_of_operands_in s.name args))
      ∙ ap (λ xs. call_value names t s (map value xs) (chain_values names t p state args)) (operands_row s.name _ args)
      ∙ ap (λ xs. call_value names t s (map value (flat_map (operands s.name) (items-the_row-Value _ args))) xs) (values_row _ args)

  call_is : (s : Symbol) (args : List Value) (place : Place) → value (Call s args place) ≡ call_value names t s (map value (flat_map (operands s.name) args)) (map value args)
  call_is s args place = search (rules, the_lemmas, call_row)

pub chains_have_one_value : ChainsHaveOneValue
chains_have_one_value names t p state s args place h =
    call_is names t p state s args place
    ∙ ap (λ b. cond b (t.chains (binary s.name) (rising (map (chain_value names t p state) (flat_map (operands s.name) args)))) (t.calls s (map (chain_value names t p state) args))) h
    ∙ ap (λ xs. t.chains (binary s.name) (rising (map (chain_value names t p state) xs))) (sym (calls_bring s.name s args place (own_binary names s h)))

pub others_have_their_value : OthersHaveTheirValue
others_have_their_value names t p state s args place h =
    call_is names t p state s args place
    ∙ ap (λ b. cond b (t.chains (binary s.name) (rising (map (chain_value names t p state) (flat_map (operands s.name) args)))) (t.calls s (map (chain_value names t p state) args))) h

pub leaves_have_their_value : LeavesHaveTheirValue
unfolding chain_value
leaves_have_their_value names t p state e array subs place = (refl, refl)
