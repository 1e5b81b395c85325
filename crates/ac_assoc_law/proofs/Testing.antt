-- What the tests of symbols say of one another.
use Rattle.std.proofs.Common.{◌≡◌, ℕ, ◌≤◌, Bool, true, false, cond, refl, arith, List}
use Rattle.std.specs.Prelude.{◌&&◌, ◌==◌, nat_le}
use Rattle.std.proofs.lemmas.Bool.Decides.{nat_tests}
use Rattle.ac_syntax.specs.Outputs.{swaps_of}
use Rattle.ac_syntax.specs.declared.tree.Symbol.{Symbol}
use Rattle.ac_assoc_law.specs.OperandChains.{is_binary}
use Rattle.ac_assoc_law.specs.ArrangedPairs.{is_listed, is_misused}
use Rattle.ac_assoc_law.specs.ArrangedTables.{is_chain}

pub first_true : (a b : Bool) → (a && b) ≡ true → a ≡ true
first_true true b h = refl
first_true false b h = h

pub second_true : (a b : Bool) → (a && b) ≡ true → b ≡ true
second_true true b h = h
second_true false b h = absurd cc

pub binary_arity : (f : List ℕ) (s : Symbol) → is_binary f s ≡ true → s.arity ≡ 2
binary_arity f s h = let e : (s.arity == 2) ≡ true = first_true _ _ h in grind (arith, nat_tests)

pub swaps_arity : (names : List (List ℕ)) (s : Symbol) → swaps_of names s ≡ true → s.arity ≡ 2
swaps_arity names s h = let e : (s.arity == 2) ≡ true = first_true _ _ h in grind (arith, nat_tests)

pub swaps_listed : (names : List (List ℕ)) (s : Symbol) → swaps_of names s ≡ true → is_listed names s ≡ true
swaps_listed names s h = second_true (s.arity == 2) (is_listed names s) h

-- a chain of two to six operands is one in the new table
pub chain_holds : (names : List (List ℕ)) (s : Symbol) (n : ℕ) → swaps_of names s ≡ true → 2 ≤ n → n ≤ 6 → is_chain names (record { name = s.name; arity = n }) ≡ true
chain_holds names s n h l g =
    let e : is_listed names s ≡ true = swaps_listed names s h in
    let i : nat_le 2 n ≡ true = grind (arith, nat_tests) in
    let j : nat_le n 6 ≡ true = grind (arith, nat_tests) in
    rw (e, i, j) refl

outside : (n : ℕ) → (n == 2) ≡ false → (nat_le 3 n && nat_le n 6) ≡ false → (nat_le 2 n && nat_le n 6) ≡ false
outside n h g = grind (arith, nat_tests)

outside_listed : (l : Bool) (n : ℕ) → ((n == 2) && l) ≡ false → (l && (nat_le 3 n && nat_le n 6)) ≡ false → (l && (nat_le 2 n && nat_le n 6)) ≡ false
outside_listed true n h g = outside n (by (n == 2) h) g
  where
    by : (b : Bool) → (b && true) ≡ false → b ≡ false
    by true h = h
    by false h = h
outside_listed false n h g = refl

-- all other calls keep their values
pub call_kept : (names : List (List ℕ)) (s : Symbol) → swaps_of names s ≡ false → is_misused names s ≡ false → is_chain names s ≡ false
call_kept names s h g = outside_listed (is_listed names s) s.arity h g

-- a choice on both sides
pub cond_law : {A B : Type 0} (f : A → B) (b : Bool) {x y : A} {u v : B} → (b ≡ true → f x ≡ u) → (b ≡ false → f y ≡ v) → f (cond b x y) ≡ cond b u v
cond_law f true h g = h refl
cond_law f false h g = g refl
