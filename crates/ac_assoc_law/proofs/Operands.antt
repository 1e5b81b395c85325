-- How many operands a chain has.
use Rattle.std.proofs.Common.{◌≡◌, ℕ, suc, ◌+◌, ◌≤◌, List, [], ◌∷◌, length, Bool, true, false, cond, refl, arith, length-append}
use Rattle.ac_syntax.specs.ValueNodes.{size}
use Rattle.ac_syntax.specs.declared.tree.Value.{Value, Row_of-Value, end_of-Value, more_of-Value}
use Rattle.ac_syntax.specs.declared.tree.Value.TheVariants.{Number, Access, Call'}
use Rattle.ac_assoc_law.specs.OperandChains.{is_binary, operands, operands_in}
use Rattle.ac_assoc_law.specs.ArrangedPairs.{arranged, arranged_operands, arranged_operands_in}
use Rattle.ac_assoc_law.proofs.Testing.{binary_arity}
use Rattle.ac_assoc_law.proofs.Counting.{count, HasCounts, EachHasCounts}

some : (b : Bool) (xs : List Value) (v : Value) → (b ≡ true → 1 ≤ length xs) → 1 ≤ length (cond b xs (v ∷ []))
some true xs v h = h refl
some false xs v h = omega arith

mutual
  unfolding operands HasCounts count

  pub some_operands : (f : List ℕ) (v : Value) → HasCounts v → 1 ≤ length (operands f v)
  some_operands f (Number e) h = omega arith
  some_operands f (Access array subs place) h = omega arith
  some_operands f (Call' symbol n args place) h =
      let m : count args ≤ length (operands_in f args) = as_many_operands f args h.1 in
      some (is_binary f symbol) (operands_in f args) _ (λ b. let two : symbol.arity ≡ 2 = binary_arity f symbol b in omega (arith, h.0))

  pub as_many_operands : (f : List ℕ) {m : _} (args : Row_of-Value m) → EachHasCounts args → count args ≤ length (operands_in f args)
  as_many_operands f end_of-Value h = omega arith
  as_many_operands f (more_of-Value v rest) h =
      let a : 1 ≤ length (operands f v) = some_operands f v h.0 in
      let b : count rest ≤ length (operands_in f rest) = as_many_operands f rest h.1 in
      omega (arith, length-append (operands f v) (operands_in f rest))

as_long : (b : Bool) (xs ys : List Value) (v w : Value) → length xs ≡ length ys → length (cond b xs (v ∷ [])) ≡ length (cond b ys (w ∷ []))
as_long true xs ys v w h = h
as_long false xs ys v w h = refl

mutual
  unfolding operands arranged

  pub operands_arranged : (names : List (List ℕ)) (choice : ℕ → ℕ) (f : List ℕ) (k : ℕ) (v : Value) → length (arranged_operands names choice f k v) ≡ length (operands f v)
  operands_arranged names choice f k (Number e) = refl
  operands_arranged names choice f k (Access array subs place) = refl
  operands_arranged names choice f k (Call' symbol n args place) = as_long (is_binary f symbol) _ _ _ _ (operands_in_arranged names choice f (suc k) args)

  pub operands_in_arranged : (names : List (List ℕ)) (choice : ℕ → ℕ) (f : List ℕ) (k : ℕ) {m : _} (args : Row_of-Value m) → length (arranged_operands_in names choice f k args) ≡ length (operands_in f args)
  operands_in_arranged names choice f k end_of-Value = refl
  operands_in_arranged names choice f k (more_of-Value v rest) =
      let a : length (arranged_operands names choice f k v) ≡ length (operands f v) = operands_arranged names choice f k v in
      let b : length (arranged_operands_in names choice f (k + size v) rest) ≡ length (operands_in f rest) = operands_in_arranged names choice f (k + size v) rest in
      omega (arith, length-append (arranged_operands names choice f k v) (arranged_operands_in names choice f (k + size v) rest), length-append (operands f v) (operands_in f rest))
