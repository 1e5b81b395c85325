-- The programs of a search are those of its pair, and its settings are lawful.
use Rattle.std.proofs.Common.{◌≡◌, [], ◌∷◌, sym}
use Rattle.ac_forms.specs.ListMembers.{IsAmong}
use Rattle.ac_syntax.specs.Outputs.{swaps_of}
use Rattle.ac_syntax.specs.declared.tree.Position.{Position}
use Rattle.ac_claims_paths.specs.ModelCalls.{pairing}
use Rattle.ac_graph.specs.PairMoves.{pairing_of}
use Rattle.ac_hull.specs.Templates.{template_rows}
use Rattle.ac_hull.specs.Thresholds.{threshold_candidates, modulus_candidates}
use Rattle.ac_widen_programs.specs.PairSetting.{point_width}
use Rattle.ac_widen_programs.specs.LawfulPairs.{AreRecurring}
use Rattle.ac_widen_programs.proofs.Lawful.{pairs_are_a_setting}
use Rattle.ac_walk_state.specs.SearchSetting.{Widening, IsWideningOf, searched}
use Rattle.ac_walk_state.proofs.Firsts.{first_is_one}
use Rattle.ac_walk_state.proofs.Widening.{widenings_recur}
use Rattle.ac_unfold_plans.specs.PlanStops.{programs_of}
use Rattle.ac_widen.specs.Setting.{IsLawful}
use Rattle.ac_walk_state.specs.RecurrencePairInvariant.{IsTemplateAt}
use Rattle.ac_walk.specs.OutputSearch.{IsSearch}
use Rattle.ac_walk.specs.declared.search_types.Search.{Search}

pub programs_are : (s : Search) → IsSearch s → programs_of s.pair.now ≡ pairing s.program_flows.now.programs
programs_are s h = λ i. record {
  params = (sym h.programs.left i).params;
  left = sym h.programs.left i;
  right = sym h.programs.right i;
  swaps = swaps_of (sym h.commutative i);
}

pub pairing_is : (s : Search) → IsSearch s → pairing_of s.pair.now ≡ pairing s.program_flows.now.programs
pairing_is s h = programs_are s h

pub recurring : (s : Search) (w : Widening) → IsSearch s → IsWideningOf s.pair.now s.array w → AreRecurring s.pair.now w.recurrent
recurring s w h is = widenings_recur s.pair.now s.array s.program_flows.now.left_flow.now s.program_flows.now.right_flow.now w h.flows is

pub lawful : (s : Search) (w : Widening) → IsSearch s → IsWideningOf s.pair.now s.array w → IsLawful (searched s.pair.now s.array w)
lawful s w h is = pairs_are_a_setting s.pair.now (s.array ∷ []) w.recurrent (λ widening_point. template_rows (point_width s.pair.now widening_point) w.thresholds w.moduli) (recurring s w h is)

-- the thresholds and moduli with which it widens are those of the template
pub numbers_are : (s : Search) (w : Widening) → IsSearch s → IsWideningOf s.pair.now s.array w → (w.thresholds ≡ s.template.now.thresholds) × (w.moduli ≡ s.template.now.moduli)
numbers_are s w h is = (
  first_is_one 64 (λ x. IsAmong x (threshold_candidates s.pair.now)) w.thresholds s.template.now.thresholds is.thresholds_are h.numbers.thresholds_are,
  first_is_one 8 (λ m. IsAmong m (modulus_candidates s.pair.now)) w.moduli s.template.now.moduli is.moduli_are h.numbers.moduli_are,
)

-- and the template rows
pub template_is : (s : Search) (w : Widening) → IsSearch s → IsWideningOf s.pair.now s.array w → (widening_point : Position × Position) → IsTemplateAt (searched s.pair.now s.array w) widening_point s.template.now
template_is s w h is widening_point = let e = numbers_are s w h is in λ i. template_rows (point_width s.pair.now widening_point) (e.0 i) (e.1 i)
