-- The search over orders, with sites by their numbers: what is assigned, and how partial orders stand to it.
use Rattle.std.specs.Prelude.{◌≡◌, ◌⊎◌, ℕ, suc, List, [], ◌∷◌, length, Option, Some, None, slice_get, map, unwrap_or}
use Rattle.ac_widen.specs.Combinations.{Each}
use Rattle.ac_syntax.specs.declared.tree.Order.{Order}
use Rattle.ac_syntax.specs.declared.tree.Order.TheVariants.{Keep}
use Rattle.ac_match.specs.declared.look.Choice.{Choice}
use Rattle.ac_match.specs.declared.look.Look.{Look}
use Rattle.ac_match.specs.declared.look.Look.TheVariants.{Contradicted, Extended, Open}

-- one of the items
abbrev pub Any : {A : Type 0} → (A → Type 0) → List A → Type 0
Any P [] = ⊥
Any P (x ∷ xs) = P x ⊎ Any P xs

-- the order of the sites has the choices of a partial one
abbrev pub Extends : List Order → List Choice → Type 0
Extends os partial = Each (λ c. slice_get os c.site ≡ Some c.order) partial

-- it has what is assigned, and an order for each site
abbrev pub Has : List Order → List (Option Order) → Type 0
Has os assigned = (length os ≡ length assigned) × ((i : ℕ) (o : Order) → slice_get assigned i ≡ Some (Some o) → slice_get os i ≡ Some o)

abbrev pub SomeExtended : List Order → List (List Choice) → Type 0
SomeExtended os refuted = Any (Extends os) refuted

abbrev pub NoneExtended : List Order → List (List Choice) → Type 0
NoneExtended os refuted = Each (λ p. ¬ (Extends os p)) refuted

-- how a partial order stands to what is assigned
abbrev pub IsLooked : List Choice → List (Option Order) → Look → Type 0
IsLooked partial assigned Contradicted = (os : List Order) → Has os assigned → ¬ (Extends os partial)
IsLooked partial assigned Extended = (os : List Order) → Has os assigned → Extends os partial
IsLooked partial assigned (Open site) = slice_get assigned site ≡ Some None

-- how all refuted ones stand to it: none, or one, is extended by each order with what is assigned, or a site is open
abbrev pub IsScanned : List (List Choice) → List (Option Order) → Look → Type 0
IsScanned refuted assigned Contradicted = (os : List Order) → Has os assigned → NoneExtended os refuted
IsScanned refuted assigned Extended = (os : List Order) → Has os assigned → SomeExtended os refuted
IsScanned refuted assigned (Open site) = slice_get assigned site ≡ Some None

-- how many are not assigned
abbrev pub open_count : List (Option Order) → ℕ
open_count [] = 0
open_count (None ∷ os) = suc (open_count os)
open_count (Some o ∷ os) = open_count os

-- each site's order, `Keep` where none is assigned
abbrev pub filled : List (Option Order) → List Order
filled assigned = map (λ o. unwrap_or o Keep) assigned
