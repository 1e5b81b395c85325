-- What a search on an output knows, what is known under an order, and what the search finds.
use Rattle.std.specs.Prelude.{ℕ, ◌≡◌, ◌↔◌, List, [], ◌∷◌, length, true}
use Rattle.ac_forms.specs.ListMembers.{IsAmong}
use Rattle.ac_syntax.specs.declared.tree.Order.{Order}
use Rattle.ac_syntax.specs.declared.tree.Pair.{Pair}
use Rattle.ac_syntax.specs.declared.tree.Position.{Position}
use Rattle.ac_syntax.specs.declared.tree.Site.{Site}
use Rattle.ac_claims.specs.declared.types.Claim.{Claim}
use Rattle.ac_widen.specs.Derivations.{IsDerivation}
use Rattle.ac_widen.specs.declared.derivation.Entry.{Entry}
use Rattle.ac_graph.specs.GraphMeaning.{HaveFlows}
use Rattle.ac_syntax.specs.ExecutedCalls.{HaveArities}
use Rattle.ac_walk_state.specs.SearchSetting.{Widening, IsWideningOf, searched}
use Rattle.ac_walk_state.specs.GraphWidenings.{AreNumbersOf}
use Rattle.ac_unfold_plans.specs.PlanStops.{programs_of}
use Rattle.ac_widen_programs.specs.DerivationEntries.{entries_of}
use Rattle.ac_unfold_plans.specs.ArgumentOrders.{AreAll, order_of}
use Rattle.ac_walk_state.specs.RecurrencePairInvariant.{HasModuli}
use Rattle.ac_walk_state.specs.OrderKnowledge.{IsKnown, pairs_of}
use Rattle.ac_walk_state.specs.Growth.{EndsInMismatch}
use Rattle.ac_walk_state.specs.declared.known.Known.{Known}
use Rattle.ac_walk_state.specs.Elements.{AreProgramsOf}
use Rattle.ac_walk_state.specs.ProofParts.{IsPartFor, in_part}
use Rattle.ac_walk_state.specs.PartStops.{IsPartStopping}
use Rattle.ac_walk_state.specs.declared.types.Part.{Part}
use Rattle.ac_walk.specs.FoundMembers.{AreFound, rows_at}
use Rattle.ac_walk.specs.declared.search_types.Search.{Search}

-- ---- what is given

-- a search on an output of the pair: its programs and flows, whose calls have as many arguments as their symbols say, and the numbers of
-- its template rows; it goes up to each recurrence pair, wherever it goes further
pub record IsSearch (s : Search) : Type 0 where
  pub programs : AreProgramsOf s.pair.now s.program_flows.now.programs
  pub commutative : s.program_flows.now.programs.commutative.now ≡ s.pair.now.commutative
  pub flows : HaveFlows s.pair.now s.program_flows.now.left_flow.now s.program_flows.now.right_flow.now
  pub arities : HaveArities s.pair.now.left.body × HaveArities s.pair.now.right.body
  pub numbers : AreNumbersOf s.pair.now s.template.now.thresholds s.template.now.moduli
  pub moduli : HasModuli s.template.now
  pub output : IsAmong s.array s.pair.now.outputs
  pub stops : (w : Widening) → IsWideningOf s.pair.now s.array w → AreAll s.stops.now w.recurrent

-- ---- what is known under an order

-- each of the pairs is taken for a recurrence pair
abbrev pub AreTaken : List (Position × Position) → Widening → Type 0
AreTaken pairs w = (positions : Position × Position) → IsAmong positions pairs → w.recurrent positions ≡ true

-- where it goes no further than the recurrence pairs, the entries are a derivation in the setting of the search
abbrev pub AreDerived : Search → List (Site × Order) → List Entry → Type 0
AreDerived s order es = (w : Widening) → IsWideningOf s.pair.now s.array w → AreTaken s.stops.now w → IsDerivation (searched s.pair.now s.array w) (order_of order) (entries_of es)

-- and the last one is a mismatch
abbrev pub ShowMismatch : Search → List (Site × Order) → List Entry → Type 0
ShowMismatch s order es =
    (w : Widening) → IsWideningOf s.pair.now s.array w → AreTaken s.stops.now w → IsDerivation (searched s.pair.now s.array w) (order_of order) (entries_of es) × EndsInMismatch (searched s.pair.now s.array w) es

-- and each member is found
abbrev pub AreFoundUnder : Search → List (Site × Order) → Known → Type 0
AreFoundUnder s order known =
    (w : Widening) → IsWideningOf s.pair.now s.array w → AreTaken s.stops.now w → AreFound s.pair.now s.array w (order_of order) s.program_flows.now.left_flow.now s.program_flows.now.right_flow.now known.widening_points.items

-- there is a widening point for each of the pairs up to which it goes; what is known there is right for the entries, which are derived, and found
pub record IsKnownUnder (s : Search) (order : List (Site × Order)) (known : Known) : Type 0 where
  pub right : IsKnown s.pair.now s.template.now known
  pub pairs : (positions : Position × Position) → IsAmong positions (pairs_of known) ↔ IsAmong positions s.stops.now
  pub derived : AreDerived s order known.entries
  pub found : AreFoundUnder s order known

-- ---- what is found

-- a part for the output behind so many claims, which stops at the recurrence pairs under an order
pub record IsFound (pair : Pair) (order : Position × Position → Order) (array first : ℕ) (part : Part) : Type 0 where
  pub is_part : (before : List Claim) → length before ≡ first → IsPartFor (programs_of pair) pair.outputs array before part
  pub stops : (before : List Claim) → length before ≡ first → (w : Widening) → IsWideningOf pair array w → IsPartStopping pair order w.recurrent (rows_at pair w) (in_part first (length part.claims.items)) before part
