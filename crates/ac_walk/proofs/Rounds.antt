-- What a growth leaves of what is known under an order.
use Rattle.std.proofs.Common.{◌≡◌, ◌↔◌, List, [], ℕ, Option, subst, sym}
use Rattle.ac_forms.specs.ListMembers.{IsAmong}
use Rattle.ac_syntax.specs.declared.tree.Order.{Order}
use Rattle.ac_syntax.specs.declared.tree.Pair.{Pair}
use Rattle.ac_syntax.specs.declared.tree.Position.{Position}
use Rattle.ac_syntax.specs.declared.tree.Site.{Site}
use Rattle.ac_claims_paths.specs.ModelCalls.{pairing}
use Rattle.ac_graph.specs.PairMoves.{pairing_of}
use Rattle.ac_walk_state.specs.SearchSetting.{searched}
use Rattle.ac_widen_programs.specs.DerivationEntries.{entries_of}
use Rattle.ac_unfold_plans.specs.ArgumentOrders.{order_of}
use Rattle.ac_walk_state.specs.declared.template.Template.{Template}
use Rattle.ac_widen.specs.Derivations.{IsDerivation}
use Rattle.ac_widen_programs.specs.PairPaths.{Unfolding}
use Rattle.ac_widen.specs.declared.derivation.Entry.{Entry}
use Rattle.ac_walk_state.specs.OrderKnowledge.{IsKnown, pairs_of}
use Rattle.ac_walk_state.specs.Growth.{ArePathsOf, IfKnown, IfMismatch, IsGrowthOf}
use Rattle.ac_walk_state.specs.declared.known.Known.{Known}
use Rattle.ac_walk_state.specs.declared.growth.Growth.{Growth}
use Rattle.ac_walk_state.specs.declared.growth.Growth.TheVariants.{Grown, Mismatch, Nothing}
use Rattle.ac_walk.specs.OutputSearch.{IsKnownUnder, IsSearch, ShowMismatch}
use Rattle.ac_walk.specs.StartPaths.{AreBrokenFrom}
use Rattle.ac_walk.specs.declared.search_types.Search.{Search}
use Rattle.ac_walk.proofs.Members.{found_after, none_known}
use Rattle.ac_walk.proofs.Programs.{pairing_is}
use Rattle.ac_walk.proofs.Unfolded.{are_paths, plain_unfolding, unfolding_at, widened}

-- what comes of the paths, whatever the setting
abbrev pub IsGrowthFor : Search → Known → Option ℕ → List (List Entry) → Growth → Type 0
IsGrowthFor s known from paths growth = (u : Unfolding) → ArePathsOf u s.template.now known from paths → IsGrowthOf u s.template.now known paths growth

pub known_after : (s : Search) (order : List (Site × Order)) (known : Known) (from : Option ℕ) (paths : List (List Entry)) (growth : Growth) → IsSearch s → IsKnownUnder s order known → AreBrokenFrom s order known from paths → IsGrowthFor s known from paths growth
    → IfKnown (IsKnownUnder s order) growth
known_after s order known from paths (Grown next) is k b h = record {
  right = (h (plain_unfolding s order b.claim) (are_paths s order is known from paths k b _ _)).is_known;
  pairs = subst (λ (ps : List (Position × Position)). (positions : Position × Position) → IsAmong positions ps ↔ IsAmong positions s.stops.now) (sym (h (plain_unfolding s order b.claim) (are_paths s order is known from paths k b _ _)).pairs) k.pairs;
  derived = λ w v taken. (h (unfolding_at s order b.claim w) (are_paths s order is known from paths k b _ _)).derivation (widened s order is known b.claim w k v taken) (k.derived w v taken);
  found = λ w v taken. found_after s order is w v taken known from paths k b next (h (plain_unfolding s order b.claim) (are_paths s order is known from paths k b _ _)).members;
}
known_after s order known from paths (Mismatch entries) is k b h = tt
known_after s order known from paths (Nothing next) is k b h = record {
  right = (h (plain_unfolding s order b.claim) (are_paths s order is known from paths k b _ _)).is_known;
  pairs = subst (λ (ps : List (Position × Position)). (positions : Position × Position) → IsAmong positions ps ↔ IsAmong positions s.stops.now) (sym (h (plain_unfolding s order b.claim) (are_paths s order is known from paths k b _ _)).pairs) k.pairs;
  derived = λ w v taken. (h (unfolding_at s order b.claim w) (are_paths s order is known from paths k b _ _)).derivation (widened s order is known b.claim w k v taken) (k.derived w v taken);
  found = λ w v taken. found_after s order is w v taken known from paths k b next (h (plain_unfolding s order b.claim) (are_paths s order is known from paths k b _ _)).members;
}

pub mismatch_after : (s : Search) (order : List (Site × Order)) (known : Known) (from : Option ℕ) (paths : List (List Entry)) (growth : Growth) → IsSearch s → IsKnownUnder s order known → AreBrokenFrom s order known from paths → IsGrowthFor s known from paths growth
    → IfMismatch (ShowMismatch s order) growth
mismatch_after s order known from paths (Grown next) is k b h = tt
mismatch_after s order known from paths (Mismatch entries) is k b h = λ w v taken.
    let of = h (unfolding_at s order b.claim w) (are_paths s order is known from paths k b _ _) in
    (of.derivation (widened s order is known b.claim w k v taken) (k.derived w v taken), of.mismatch)
mismatch_after s order known from paths (Nothing next) is k b h = tt

-- what is known before the first growth
pub first_known : (s : Search) (order : List (Site × Order)) (known : Known) → IsSearch s → known.entries ≡ [] → ((positions : Position × Position) → IsAmong positions (pairs_of known) ↔ IsAmong positions s.stops.now)
    → ((pair : Pair) (t : Template) → pairing_of pair ≡ pairing s.program_flows.now.programs → IsKnown pair t known) → IsKnownUnder s order known
first_known s order known is none pairs right = record {
  right = right s.pair.now s.template.now (pairing_is s is);
  pairs = pairs;
  derived = λ w v taken. subst (λ (es : List Entry). IsDerivation (searched s.pair.now s.array w) (order_of order) (entries_of es)) (sym none) tt;
  found = λ w v taken k p among m. absurd (none_known s.pair.now s.template.now known k p none (right s.pair.now s.template.now (pairing_is s is)) among m);
}
