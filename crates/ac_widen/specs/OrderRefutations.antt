-- Partial orders of the sites, and their refutation by a derivation that ends in a mismatch.
use Rattle.std.specs.Prelude.{◌≡◌, ℕ, List, [], ◌∷◌, ◌++◌, Some, Bool, true, false, slice_get}
use Rattle.ac_syntax.specs.declared.tree.Order.{Order}
use Rattle.ac_forms.specs.declared.row.Row.{Row}
use Rattle.ac_widen.specs.Claims.{Stand}
use Rattle.ac_forms.specs.ListMembers.{IsAmong}
use Rattle.ac_widen.specs.Combinations.{Each}
use Rattle.ac_widen.specs.Derivations.{EntryOf, IsDerivation}
use Rattle.ac_widen.specs.declared.derivation.Reason.TheVariants.{Step}
use Rattle.ac_widen.specs.Setting.{Setting}

-- the derivation steps from an entry at these positions
abbrev pub StepsFrom : {K : Type 0} → List (EntryOf K) → K → Type 0
StepsFrom {K} es k = (e : EntryOf K) × IsAmong e es × (i : ℕ) × (e.reason ≡ Step i) × (from : EntryOf K) × (slice_get es i ≡ Some from) × (from.positions ≡ k)

-- the order has the orders of the partial order
abbrev pub Extends : {K : Type 0} → (K → Order) → List (K × Order) → Type 0
Extends order partial = Each (λ c. order c.0 ≡ c.1) partial

-- the partial order gives the orders of an order at exactly the sites through which the derivation steps
pub record IsPartOf {K : Type 0} (s : Setting K) (order : K → Order) (es : List (EntryOf K)) (partial : List (K × Order)) : Type 0 where
  pub extends : Extends order partial
  pub whole : (k : K) → s.is_site k ≡ true → StepsFrom es k → IsAmong (k, order k) partial
  pub exact : (c : K × Order) → IsAmong c partial → (s.is_site c.0 ≡ true) × StepsFrom es c.0

-- the partial order is refuted: under each order that extends it the list is a derivation that ends in a mismatch
pub record IsRefuted {K : Type 0} (s : Setting K) (partial : List (K × Order)) (es : List (EntryOf K)) : Type 0 where
  pub derivation : (order : K → Order) → Extends order partial → IsDerivation s order es
  pub mismatch : (front : List (EntryOf K)) × (last : EntryOf K) × (es ≡ front ++ last ∷ []) × s.Mismatch last.positions last.point

-- what the search over orders ends with: claims that stand under some order, or refuted partial orders one of which each order extends
pub data Decided {K : Type 0} (s : Setting K) : Type 0 where
  Equal : (order : K → Order) (claim : K → List Row) → Stand s order claim → Decided s
  Unmatched : (list : List (List (K × Order) × List (EntryOf K))) → Each (λ c. IsRefuted s c.0 c.1) list
      → ((order : K → Order) → (c : List (K × Order) × List (EntryOf K)) × IsAmong c list × Extends order c.0) → Decided s

abbrev pub is_equal : {K : Type 0} {s : Setting K} → Decided s → Bool
is_equal (Equal order claim h) = true
is_equal (Unmatched list h g) = false
