-- Where a broken path begins.
use Rattle.std.specs.Prelude.{◌≡◌, ℕ, ℤ, List, [], ◌∷◌, length, Option, Some, slice_get}
use Rattle.ac_syntax.specs.declared.tree.Position.{Position}
use Rattle.ac_forms.specs.Rows.{Meets}
use Rattle.ac_widen.specs.Derivations.{EntryOf, StandsAt}
use Rattle.ac_widen.specs.DerivationPaths.{AreAt}
use Rattle.ac_widen.specs.declared.derivation.Entry.{Entry}
use Rattle.ac_widen_programs.specs.BrokenPaths.{IsBroken}
use Rattle.ac_widen_programs.specs.PairPaths.{Unfolding, setting_of}
use Rattle.ac_walk_state.specs.RecurrencePairs.{WideningPointOf, claim_of, positions}
use Rattle.ac_walk_state.specs.RecurrencePairInvariant.{IsReasonAt}
use Rattle.ac_walk_state.specs.declared.template.Template.{Template}
use Rattle.ac_walk_state.specs.PathEnds.{entry_positions}
use Rattle.ac_walk_state.specs.PathEntries.{Begins, GoesOn}
use Rattle.ac_walk_state.specs.OrderKnowledge.{IsWidenedAt, claims_of}
use Rattle.ac_walk_state.specs.Growth.{StartsFrom}
use Rattle.ac_walk_state.specs.declared.begins.Begin.{Begin}
use Rattle.ac_walk_state.specs.declared.begins.Begin.TheVariants.{At, Further}
use Rattle.ac_walk_state.specs.declared.known.Known.{Known}

-- ---- by a widening point

-- the path begins at the widening point's pair, at a point of its claim
pub record IsInside (k : WideningPointOf) (path : List Entry) : Type 0 where
  pub first : Entry
  pub rest : List Entry
  pub path_is : path ≡ first ∷ rest
  pub there : entry_positions first ≡ positions k
  pub width : length first.point ≡ k.hull.columns
  pub meets : Meets (claim_of k).rows first.point

-- the point is a member, and the number is that of its entry; or the reason is a combination of members
abbrev pub BeginsByWideningPoint : WideningPointOf → List ℤ → Begin → Type 0
BeginsByWideningPoint k p (At place) = (es : List (EntryOf (Position × Position))) → AreAt es (positions k) k.places k.members → StandsAt es place (positions k) p
BeginsByWideningPoint k p (Further reason) = IsReasonAt k p reason

abbrev pub BeginsInside : WideningPointOf → List Entry → Begin → Type 0
BeginsInside k [] begin = ⊥
BeginsInside k (e ∷ path) begin = BeginsByWideningPoint k e.point begin

-- ---- by a start

-- from an entry the path has a step; and wherever the setting widens at the widening points, its first pair is that entry, or stands for the reason
abbrev pub BeginsOf : Known → Option ℕ → List Entry → Begin → Type 0
BeginsOf known from path begin =
    GoesOn path begin × ((u : Unfolding) (t : Template) → StartsFrom u t known from → IsWidenedAt (setting_of u) t known → IsBroken u (claims_of known) path → Begins (setting_of u) u.order known.entries path begin)

-- each path with what is said of it at the same number
abbrev pub AtEach : (List Entry → Begin → Type 0) → List (List Entry) → List Begin → Type 0
AtEach P paths begins = (k : ℕ) (path : List Entry) (begin : Begin) → slice_get paths k ≡ Some path → slice_get begins k ≡ Some begin → P path begin
