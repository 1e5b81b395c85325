-- The part of an order that a derivation needs.
use Rattle.std.specs.Prelude.{◌≡◌, ◌↔◌, List, ℕ, Some, map, slice_get}
use Rattle.ac_syntax.specs.declared.tree.Order.{Order}
use Rattle.ac_syntax.specs.declared.tree.Position.{Position}
use Rattle.ac_syntax.specs.declared.tree.Site.{Site}
use Rattle.ac_forms.specs.ListMembers.{IsAmong}
use Rattle.ac_widen.specs.declared.derivation.Entry.{Entry}
use Rattle.ac_widen.specs.declared.derivation.Reason.TheVariants.{Step}
use Rattle.ac_widen.specs.OrderRefutations.{StepsFrom}
use Rattle.ac_widen_programs.specs.DerivationEntries.{entries_of}
use Rattle.ac_unfold_plans.specs.ArgumentOrders.{order_of}
use Rattle.ac_graph.specs.PairMoves.{AreDistinct}
use Rattle.ac_walk_state.specs.PathEnds.{entry_positions}
use Rattle.ac_walk_state.specs.UnmatchedOutputs.{pair_at}

-- ---- sites

-- the same sites, each once
abbrev pub AreOnce : List Site → List Site → Type 0
AreOnce sites made = ((site : Site) → IsAmong site made ↔ IsAmong site sites) × AreDistinct (map pair_at made)

-- ---- choices

-- a site with the choice of an order there
abbrev pub choice_of : List (Site × Order) → Site → Site × Order
choice_of order site = (site, order_of order (site.left, site.right))

-- one of the choices is at the site
abbrev pub HasSite : List (Site × Order) → Site → Type 0
HasSite choices site = IsAmong site (map (λ c. c.0) choices)

-- each is the choice of the order at one of the sites
abbrev pub AreChoices : List (Site × Order) → List Site → List (Site × Order) → Type 0
AreChoices order sites choices = (c : Site × Order) → IsAmong c choices → IsAmong c.0 sites × (c ≡ choice_of order c.0)

-- ---- sources

-- the entry is a step from an entry at the pair
abbrev pub IsSource : List Entry → Entry → Position × Position → Type 0
IsSource es e widening_point = (i : ℕ) × (e.reason ≡ Step i) × (from : Entry) × (slice_get es i ≡ Some from) × (entry_positions from ≡ widening_point)

-- the pairs from which some of the entries step
abbrev pub AreSourcesOf : List Entry → List Entry → List (Position × Position) → Type 0
AreSourcesOf es some pairs = (positions : Position × Position) → IsAmong positions pairs ↔ ((e : Entry) × IsAmong e some × IsSource es e positions)

-- the pairs from which the entries step
abbrev pub AreSteppedFrom : List Entry → List (Position × Position) → Type 0
AreSteppedFrom es pairs = (positions : Position × Position) → IsAmong positions pairs ↔ StepsFrom (entries_of es) positions
