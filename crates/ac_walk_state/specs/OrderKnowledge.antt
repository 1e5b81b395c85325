-- What is known under one order: the widening points, each by what the entries show there.
use Rattle.std.specs.Prelude.{◌≡◌, List, map, true}
use Rattle.ac_syntax.specs.declared.tree.Pair.{Pair}
use Rattle.ac_syntax.specs.declared.tree.Position.{Position}
use Rattle.ac_claims.specs.declared.types.Claim.{Claim}
use Rattle.ac_graph.specs.PairMoves.{AreDistinct}
use Rattle.ac_widen_programs.specs.PairSetting.{point_width}
use Rattle.ac_widen.specs.Combinations.{Each}
use Rattle.ac_widen.specs.Setting.{Setting, IsLawful}
use Rattle.ac_widen_programs.specs.DerivationEntries.{entries_of}
use Rattle.ac_walk_state.specs.RecurrencePairs.{WideningPointOf, positions, claim_of}
use Rattle.ac_walk_state.specs.RecurrencePairInvariant.{IsWideningPoint, IsTemplateAt}
use Rattle.ac_walk_state.specs.declared.template.Template.{Template}
use Rattle.ac_walk_state.specs.declared.known.Known.{Known}

-- the pairs of positions of the widening points, in order, and their claims
abbrev pub pairs_of : Known → List (Position × Position)
pairs_of known = map positions known.widening_points.items

abbrev pub claims_of : Known → List Claim
claims_of known = map claim_of known.widening_points.items

-- a point at the widening point has as many numbers as one at its pair of positions
abbrev pub IsWide : Pair → WideningPointOf → Type 0
IsWide pair k = k.hull.columns ≡ point_width pair (positions k)

-- what is known at each widening point is right by the template, for the entries; and no two widening points are of one pair of positions
pub record IsKnown (pair : Pair) (t : Template) (known : Known) : Type 0 where
  pub widening_points : Each (IsWideningPoint t (entries_of known.entries)) known.widening_points.items
  pub widths : Each (IsWide pair) known.widening_points.items
  pub distinct : AreDistinct (pairs_of known)

-- the laws of widening hold in the setting, and each widening point is a recurrence pair of it, with the template rows of the template
pub record IsWidenedAt (s : Setting (Position × Position)) (t : Template) (known : Known) : Type 0 where
  pub lawful : IsLawful s
  pub templates : Each (λ widening_point. IsTemplateAt s widening_point t) (pairs_of known)
  pub recur : Each (λ widening_point. s.recurrent widening_point ≡ true) (pairs_of known)
