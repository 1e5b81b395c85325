-- What it means that the orders of an output's sites are refuted one after another, and that the output is unmatched.
use Rattle.std.specs.Prelude.{ℕ, ◌≡◌, ◌↔◌, List, [], ◌∷◌, ◌++◌, map}
use Rattle.ac_syntax.specs.declared.tree.Order.{Order}
use Rattle.ac_syntax.specs.declared.tree.Pair.{Pair}
use Rattle.ac_syntax.specs.declared.tree.Position.{Position}
use Rattle.ac_syntax.specs.declared.tree.Site.{Site}
use Rattle.ac_forms.specs.ListMembers.{IsAmong}
use Rattle.ac_graph.specs.PairMoves.{AreDistinct, IsSite, Reaches, dependences, pairing_of, start_of}
use Rattle.ac_graph.specs.GraphMeaning.{AreSources}
use Rattle.ac_match.specs.SiteOrders.{OrdersOf, IsOrderOf, ExtendsRefuted, IsNext}
use Rattle.ac_match.specs.declared.orders.Next.{Next}
use Rattle.ac_match.specs.declared.orders.Next.TheVariants.{Done}
use Rattle.ac_match.specs.declared.orders.Refuted.{Refuted}
use Rattle.ac_unfold_plans.specs.ArgumentOrders.{order_of}
use Rattle.ac_widen.specs.OrderRefutations.{IsPartOf, IsRefuted}
use Rattle.ac_widen.specs.Setting.{Setting}
use Rattle.ac_widen_programs.specs.PairPoints.{choices_of}
use Rattle.ac_widen_programs.specs.DerivationEntries.{entries_of}
use Rattle.ac_walk_state.specs.SearchSetting.{Widening, IsWideningOf, searched}

-- the pair of positions of a site
abbrev pub pair_at : Site → Position × Position
pair_at site = (site.left, site.right)

-- the sites that moves along the sources of both programs reach from the output, each once
pub record AreSitesOf (pair : Pair) (output : ℕ) (sites : List Site) : Type 0 where
  pub left_edges : List (Position × Position)
  pub right_edges : List (Position × Position)
  pub left_sources : AreSources pair.left pair.context left_edges
  pub right_sources : AreSources pair.right pair.context right_edges
  pub sites_are : (site : Site) → IsAmong site sites ↔ (Reaches (dependences pair left_edges right_edges) (start_of output ∷ []) (pair_at site) × IsSite (pairing_of pair) (pair_at site))
  pub once : AreDistinct (map pair_at sites)

-- behind earlier ones a partial order is refuted: it is the part of an order of the sites, which extends no earlier one, at exactly the sites through
-- which its derivation steps; and under each order that extends it the derivation is one, and ends in a mismatch
pub record IsRefutedAfter (s : Setting (Position × Position)) (sites : List Site) (earlier : List Refuted) (r : Refuted) : Type 0 where
  pub order : List (Site × Order)
  pub whole : IsOrderOf sites order
  pub apart : ¬ (ExtendsRefuted order earlier)
  pub part : IsPartOf s (order_of order) (entries_of r.why.entries) (choices_of r.partial)
  pub refuted : IsRefuted s (choices_of r.partial) (entries_of r.why.entries)

-- so each of the list is, behind the earlier ones and those before it
abbrev pub AreRefutedInTurn : Setting (Position × Position) → List Site → List Refuted → List Refuted → Type 0
AreRefutedInTurn s sites earlier [] = Unit {0}
AreRefutedInTurn s sites earlier (r ∷ list) = IsRefutedAfter s sites earlier r × AreRefutedInTurn s sites (earlier ++ r ∷ []) list

-- in the setting of the search on the output the partial orders are refuted in turn, and that comes next
pub record AreRefutedUpTo (pair : Pair) (output : ℕ) (list : List Refuted) (next : Next) : Type 0 where
  pub sites : List Site
  pub sites_are : AreSitesOf pair output sites
  pub widening : (w : Widening) × IsWideningOf pair output w
  pub refuted : (w : Widening) → IsWideningOf pair output w → AreRefutedInTurn (searched pair output w) sites [] list
  pub comes : IsNext (record { sites = sites; refuted = list }) next

-- unmatched: each order of the sites extends one of them
abbrev pub IsUnmatched : Pair → ℕ → List Refuted → Type 0
IsUnmatched pair output list = AreRefutedUpTo pair output list Done
