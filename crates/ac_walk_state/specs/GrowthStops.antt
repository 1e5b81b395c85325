-- Where a growth stops.
use Rattle.std.specs.Prelude.{◌≡◌, ◌⊎◌, ℕ, ℤ, List, [], ◌∷◌, ◌++◌, Option}
use Rattle.ac_syntax.specs.declared.tree.Position.{Position}
use Rattle.ac_forms.specs.ListMembers.{IsAmong}
use Rattle.ac_hull.specs.EliminationRange.{CanCombine}
use Rattle.ac_hull.specs.declared.stop.HullStop.{HullStop}
use Rattle.ac_hull.specs.declared.stop.HullStop.TheVariants.{Overflow, Memory}
use Rattle.ac_widen.specs.Derivations.{IsDerivation}
use Rattle.ac_widen.specs.declared.derivation.Entry.{Entry}
use Rattle.ac_widen_programs.specs.DerivationEntries.{entries_of}
use Rattle.ac_widen_programs.specs.PairPaths.{Unfolding, setting_of}
use Rattle.ac_walk_state.specs.RecurrencePairs.{WideningPointOf, positions}
use Rattle.ac_walk_state.specs.RecurrencePairStops.{AreTooLarge, CanTake}
use Rattle.ac_walk_state.specs.declared.template.Template.{Template}
use Rattle.ac_walk_state.specs.PathEnds.{IsEnd, entry_positions}
use Rattle.ac_walk_state.specs.OrderKnowledge.{IsWidenedAt, pairs_of}
use Rattle.ac_walk_state.specs.Growth.{ArePathsOf, IsEndAt, IsMemberAt}
use Rattle.ac_walk_state.specs.declared.known.Known.{Known}
use Rattle.ac_walk_state.specs.declared.growth.Growth.{Growth}
use Rattle.ac_walk_state.specs.declared.growth.Growth.TheVariants.{Grown, Mismatch, Nothing}

-- ---- one path

-- a number is too large as an entry of the path is taken beside the members of a widening point of its pair, or beside those of its hull; or as an
-- entry that is not the end is combined from them
pub record IsTooLargeOn (t : Template) (widening_points : List WideningPointOf) (path : List Entry) (points : List (List ℤ)) : Type 0 where
  pub widening_point : WideningPointOf
  pub among : IsAmong widening_point widening_points
  pub members : List (List ℤ)
  pub are : (members ≡ widening_point.members) ⊎ (members ≡ widening_point.hull.members)
  pub entry : Entry
  pub on_path : IsAmong entry path
  pub there : entry_positions entry ≡ positions widening_point
  pub points_are : points ≡ members ++ entry.point ∷ []
  pub large : ¬ (CanTake t.thresholds t.moduli members entry.point)
  pub ends : IsEnd path entry ⊎ ¬ (CanCombine members entry.point)

abbrev pub StopsAt : Template → List WideningPointOf → List Entry → HullStop → Type 0
StopsAt t widening_points path (Overflow points) = IsTooLargeOn t widening_points path points
StopsAt t widening_points path (Memory want) = Unit {0}

-- the path is taken with what is known behind a growth; none is behind a mismatch
abbrev pub StopsNext : Template → List Entry → Growth → HullStop → Type 0
StopsNext t path (Grown known) stop = StopsAt t known.widening_points.items path stop
StopsNext t path (Mismatch entries) stop = ⊥
StopsNext t path (Nothing known) stop = StopsAt t known.widening_points.items path stop

-- ---- a growth

-- each of the members was one before, or is the end of one of the paths; so is the point, or it cannot be combined from them
pub record Come (start : Known) (paths : List (List Entry)) (pair : Position × Position) (members : List (List ℤ)) (point : List ℤ) : Type 0 where
  pub members_come : (p : List ℤ) → IsAmong p members → IsMemberAt start.widening_points.items pair p ⊎ IsEndAt paths pair p
  pub point_comes : IsEndAt paths pair point ⊎ ¬ (CanCombine members point)

-- obligations at one of the pairs of the start are too large, wherever the setting widens there and the entries are a derivation
abbrev pub StopsGrowth : Template → Known → Option ℕ → List (List Entry) → HullStop → Type 0
StopsGrowth t start from paths (Overflow points) =
    (u : Unfolding) → ArePathsOf u t start from paths → IsWidenedAt (setting_of u) t start → IsDerivation (setting_of u) u.order (entries_of start.entries)
    → (pair : Position × Position) × IsAmong pair (pairs_of start) × (large : AreTooLarge (setting_of u) u.order t.thresholds t.moduli pair points) × Come start paths pair large.members large.point
StopsGrowth t start from paths (Memory want) = Unit {0}
