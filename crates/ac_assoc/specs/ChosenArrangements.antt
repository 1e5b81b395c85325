-- Which orders the arrangements choose.
use Rattle.std.specs.Prelude.{ℕ, ◌≡◌, ◌<◌, List, true}
use Rattle.std.specs.List.{AllByRecursion}
use Rattle.ac_assoc.specs.ChosenOrders.{chosen, is_right, number_at, product, ways}
use Rattle.ac_assoc.specs.declared.types.Chain.{Chain}

-- the choice of each right chain is the number of one of its orders
abbrev pub AreOrders : (ℕ → ℕ → ℕ) → List Chain → Type 0
AreOrders choice = AllByRecursion (λ (c : Chain). is_right c.side ≡ true → choice c.stmt c.node < ways c)

-- both choose the same orders of right chains
abbrev pub ChooseTheSame : (choice other : ℕ → ℕ → ℕ) → List Chain → Type 0
ChooseTheSame choice other = AllByRecursion (λ (c : Chain). is_right c.side ≡ true → other c.stmt c.node ≡ choice c.stmt c.node)

-- each choice of orders is that of the arrangement with some number below their product
abbrev pub ArrangementsAreAllChoices : Type 0
ArrangementsAreAllChoices =
    (chains : List Chain) (choice : ℕ → ℕ → ℕ) → AreOrders choice chains → (number : ℕ) × (number < product chains) × ChooseTheSame choice (number_at (chosen chains number)) chains
