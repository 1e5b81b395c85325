-- Sites by their numbers: the place of each in the list of sites.
use Rattle.std.specs.Prelude.{◌≡◌, ℕ, zero, suc, List, [], ◌∷◌}
use Rattle.ac_syntax.specs.declared.tree.Order.{Order}
use Rattle.ac_syntax.specs.declared.tree.Site.{Site}
use Rattle.ac_match.specs.declared.look.Choice.{Choice}
use Rattle.ac_match.specs.declared.orders.Refuted.{Refuted}

-- the number is that of the first place at which the site stands, or of no place
abbrev pub IsPlace : List Site → Site → ℕ → Type 0
IsPlace [] s n = Unit {0}
IsPlace (x ∷ xs) s zero = x ≡ s
IsPlace (x ∷ xs) s (suc n) = (¬ (x ≡ s)) × IsPlace xs s n

-- the choices of a partial order by the numbers of their sites
abbrev pub AreNumbered : List Site → List (Site × Order) → List Choice → Type 0
AreNumbered sites [] [] = Unit {0}
AreNumbered sites [] (n ∷ ns) = ⊥
AreNumbered sites (c ∷ cs) [] = ⊥
AreNumbered sites (c ∷ cs) (n ∷ ns) = IsPlace sites c.0 n.site × (n.order ≡ c.1) × AreNumbered sites cs ns

-- those of all refuted ones
abbrev pub AllNumbered : List Site → List Refuted → List (List Choice) → Type 0
AllNumbered sites [] [] = Unit {0}
AllNumbered sites [] (n ∷ ns) = ⊥
AllNumbered sites (r ∷ rs) [] = ⊥
AllNumbered sites (r ∷ rs) (n ∷ ns) = AreNumbered sites r.partial n × AllNumbered sites rs ns
