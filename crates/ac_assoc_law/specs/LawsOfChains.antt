-- Chains and their values in the words of the language: with the arguments of a call as a list.
use Rattle.std.specs.Prelude.{ℕ, ◌≡◌, List, [], ◌∷◌, map, true, false, ℤ, zero, suc, ◌<◌, length, slice_get, Some}
use Rattle.std.specs.List.{flat_map}
use Rattle.std.specs.List.Sorted.{IsPermutation, IsSorted}
use Rattle.std.specs.Ordering.{int_cmp}
use Rattle.ac_syntax.specs.Index.{Point, index_value}
use Rattle.ac_syntax.specs.Algebra.{Cell}
use Rattle.ac_syntax.specs.Outputs.{swaps_of}
use Rattle.ac_syntax.specs.declared.tree.IndexExpr.{IndexExpr}
use Rattle.ac_syntax.specs.declared.tree.Place.{Place}
use Rattle.ac_syntax.specs.declared.tree.Symbol.{Symbol}
use Rattle.ac_syntax.specs.declared.tree.Value.{Value}
use Rattle.ac_syntax.specs.declared.tree.Value.TheVariants.{Number, Access, Call}
use Rattle.ac_assoc_law.specs.Rising.{rising}
use Rattle.ac_assoc_law.specs.OperandChains.{binary, is_binary, operands, Tables, chain_value}
use Rattle.ac_assoc_law.specs.ArrangedPairs.{factorial, picks, permuted}

-- a call of f with two arguments brings to a chain of f the operands of its arguments, from left to right
abbrev pub CallsBringTheirOperands : Type 0
CallsBringTheirOperands =
    (f : List ℕ) (s : Symbol) (args : List Value) (place : Place) → is_binary f s ≡ true → operands f (Call s args place) ≡ flat_map (operands f) args

-- any other call brings itself, and so do numbers and accesses
abbrev pub OthersBringThemselves : Type 0
OthersBringThemselves =
    (f : List ℕ) (s : Symbol) (args : List Value) (place : Place) → is_binary f s ≡ false → operands f (Call s args place) ≡ Call s args place ∷ []

abbrev pub LeavesBringThemselves : Type 0
LeavesBringThemselves =
    (f : List ℕ) (e : IndexExpr) (array : ℕ) (subs : List IndexExpr) (place : Place)
    → (operands f (Number e) ≡ Number e ∷ []) × (operands f (Access array subs place) ≡ Access array subs place ∷ [])

-- the value of a chain is that of the values of its operands in rising order
abbrev pub ChainsHaveOneValue : Type 0
ChainsHaveOneValue =
    (names : List (List ℕ)) (t : Tables) (p : Point) (state : Cell → ℤ) (s : Symbol) (args : List Value) (place : Place) → swaps_of names s ≡ true
    → chain_value names t p state (Call s args place) ≡ t.chains (binary s.name) (rising (map (chain_value names t p state) (operands s.name (Call s args place))))

-- all else has its value as ever
abbrev pub OthersHaveTheirValue : Type 0
OthersHaveTheirValue =
    (names : List (List ℕ)) (t : Tables) (p : Point) (state : Cell → ℤ) (s : Symbol) (args : List Value) (place : Place) → swaps_of names s ≡ false
    → chain_value names t p state (Call s args place) ≡ t.calls s (map (chain_value names t p state) args)

abbrev pub LeavesHaveTheirValue : Type 0
LeavesHaveTheirValue =
    (names : List (List ℕ)) (t : Tables) (p : Point) (state : Cell → ℤ) (e : IndexExpr) (array : ℕ) (subs : List IndexExpr) (place : Place)
    → (chain_value names t p state (Number e) ≡ index_value p e)
    × (chain_value names t p state (Access array subs place) ≡ state (record { array = array; at = map (index_value p) subs }))

-- integers in rising order are the same integers, and none is less than the one before it
pub record Rises (xs ys : List ℤ) : Type 0 where
  pub same : IsPermutation xs ys
  pub sorted : IsSorted int_cmp ys

abbrev pub RisingRises : Type 0
RisingRises = (xs : List ℤ) → Rises xs (rising xs)

-- each order of choice has the same elements
abbrev pub PermutedAreTheSame : Type 0
PermutedAreTheSame = (n number : ℕ) (xs : List Value) → IsPermutation xs (permuted n number xs)

-- all orders of the first n elements to be picked, in lexicographic order of the places picked
unfoldable pub orders : {X : Type 0} → ℕ → List X → List (List X)
orders zero xs = xs ∷ []
orders (suc n) xs = flat_map (λ q. map (λ r. q.0 ∷ r) (orders n q.1)) (picks xs)

-- the order with a number is the one with this number among all
abbrev pub PermutedStandInOrder : Type 0
PermutedStandInOrder = (n number : ℕ) (xs : List Value) → length xs ≡ n → number < factorial n → slice_get (orders n xs) number ≡ Some (permuted n number xs)

-- the first order is that of the list
abbrev pub FirstOrderIsTheirs : Type 0
FirstOrderIsTheirs = (n : ℕ) (xs : List Value) → permuted n 0 xs ≡ xs
