-- Orders of the sites and refuted partial orders, and what may be answered of them.
use Rattle.std.specs.Prelude.{◌≡◌, ◌⊎◌, ◌<◌, ◌≤◌, List, [], ◌∷◌, length, map}
use Rattle.ac_widen.specs.Combinations.{Each}
use Rattle.ac_syntax.specs.declared.tree.Order.{Order}
use Rattle.ac_syntax.specs.declared.tree.Site.{Site}
use Rattle.ac_match.specs.declared.orders.Next.{Next}
use Rattle.ac_match.specs.declared.orders.Next.TheVariants.{Order as Chosen, Done, Spent}
use Rattle.ac_match.specs.declared.orders.Refuted.{Refuted}

-- sites and refuted orders, as callers see them
pub record OrdersOf : Type 0 where
  pub sites : List Site
  pub refuted : List Refuted

-- an order of the sites: a choice for each of them, in order
abbrev pub IsOrderOf : List Site → List (Site × Order) → Type 0
IsOrderOf sites chosen = map (λ c. c.0) chosen ≡ sites

-- the order of a site, which is that of the first choice at this site
abbrev pub HasOrder : List (Site × Order) → Site → Order → Type 0
HasOrder [] s o = ⊥
HasOrder (c ∷ cs) s o = ((c.0 ≡ s) × (c.1 ≡ o)) ⊎ ((¬ (c.0 ≡ s)) × HasOrder cs s o)

-- the order extends a partial one: it has each of its choices
abbrev pub Extends : List (Site × Order) → List (Site × Order) → Type 0
Extends chosen partial = Each (λ c. HasOrder chosen c.0 c.1) partial

-- it extends one of the refuted orders
abbrev pub ExtendsRefuted : List (Site × Order) → List Refuted → Type 0
ExtendsRefuted chosen [] = ⊥
ExtendsRefuted chosen (r ∷ rs) = Extends chosen r.partial ⊎ ExtendsRefuted chosen rs

-- there are more sites and refuted orders than the search goes on with
abbrev pub AreTooMany : OrdersOf → Type 0
AreTooMany o = (10 < length o.sites) × (1024 ≤ length o.refuted)

-- an order that extends no refuted one; that each order extends one; or that there are too many, though some order extends none
abbrev pub IsNext : OrdersOf → Next → Type 0
IsNext o (Chosen chosen) = IsOrderOf o.sites chosen × ¬ (ExtendsRefuted chosen o.refuted) × ¬ (AreTooMany o)
IsNext o Done = (chosen : List (Site × Order)) → IsOrderOf o.sites chosen → ExtendsRefuted chosen o.refuted
IsNext o Spent = AreTooMany o × ((chosen : List (Site × Order)) × IsOrderOf o.sites chosen × ¬ (ExtendsRefuted chosen o.refuted))
