-- Broken paths from one start, and what growth comes of them.
use Rattle.std.specs.Prelude.{ℕ, ℤ, ◌≡◌, ◌⊎◌, ◌++◌, List, [], ◌∷◌, Option, Some, None, slice_get}
use Rattle.std.specs.List.{AllByRecursion}
use Rattle.ac_syntax.specs.declared.tree.Position.{Position}
use Rattle.ac_widen_programs.specs.PairSetting.{IsOutputPair}
use Rattle.ac_forms.specs.ListMembers.{IsAmong}
use Rattle.ac_widen.specs.Derivations.{EntryOf, IsDerivation}
use Rattle.ac_widen.specs.Setting.{Setting}
use Rattle.ac_widen.specs.declared.derivation.Entry.{Entry}
use Rattle.ac_widen_programs.specs.DerivationEntries.{entries_of}
use Rattle.ac_widen_programs.specs.BrokenPaths.{IsBroken}
use Rattle.ac_widen_programs.specs.PairPathEnds.{HaveBothArities}
use Rattle.ac_widen_programs.specs.PairPaths.{Unfolding, IsOfClaim, setting_of}
use Rattle.ac_walk_state.specs.RecurrencePairs.{WideningPointOf, IsMemberOf, claim_of, positions}
use Rattle.ac_walk_state.specs.declared.template.Template.{Template}
use Rattle.ac_walk_state.specs.OrderKnowledge.{IsKnown, IsWidenedAt, claims_of, pairs_of}
use Rattle.ac_walk_state.specs.MemberGrowth.{ClaimsGrow}
use Rattle.ac_walk_state.specs.PathEnds.{IsEnd, entry_positions}
use Rattle.ac_walk_state.specs.declared.known.Known.{Known}
use Rattle.ac_walk_state.specs.declared.growth.Growth.{Growth}
use Rattle.ac_walk_state.specs.declared.growth.Growth.TheVariants.{Grown, Mismatch, Nothing}

-- ---- paths

-- the claim from which all begins is that of the widening point with the number; without a number its pairs are output pairs
abbrev pub IsStart : Unfolding → Known → Option ℕ → Type 0
IsStart u known (Some at) = (widening_point : WideningPointOf) × (slice_get known.widening_points.items at ≡ Some widening_point) × (u.claim ≡ claim_of widening_point)
IsStart u known None = (positions : Position × Position) (p : List ℤ) → IsOfClaim u positions p → IsOutputPair u.pair u.outputs positions p

-- the unfolding begins there, with what is known
pub record StartsFrom (u : Unfolding) (t : Template) (known : Known) (from : Option ℕ) : Type 0 where
  pub arities : HaveBothArities u
  pub is_known : IsKnown u.pair t known
  pub start : IsStart u known from

-- paths of it that are broken for the claims of the widening points
abbrev pub ArePathsOf : Unfolding → Template → Known → Option ℕ → List (List Entry) → Type 0
ArePathsOf u t known from paths = StartsFrom u t known from × AllByRecursion (IsBroken u (claims_of known)) paths

-- ---- growths

-- what is known behind a growth that came to no mismatch
abbrev pub IfKnown : (Known → Type 0) → Growth → Type 0
IfKnown P (Grown known) = P known
IfKnown P (Mismatch entries) = Unit {0}
IfKnown P (Nothing known) = P known

-- and where claims grew
abbrev pub IfGrown : (Known → Type 0) → Growth → Type 0
IfGrown P (Grown known) = P known
IfGrown P (Mismatch entries) = Unit {0}
IfGrown P (Nothing known) = Unit {0}

-- the entries of one that came to a mismatch
abbrev pub IfMismatch : (List Entry → Type 0) → Growth → Type 0
IfMismatch P (Grown known) = Unit {0}
IfMismatch P (Mismatch entries) = P entries
IfMismatch P (Nothing known) = Unit {0}

-- no claim grew, and it came to no mismatch
abbrev pub IfNothing : (Known → Type 0) → Growth → Type 0
IfNothing P (Grown known) = Unit {0}
IfNothing P (Mismatch entries) = Unit {0}
IfNothing P (Nothing known) = P known

abbrev pub entries_behind : Growth → List Entry
entries_behind (Grown known) = known.entries
entries_behind (Mismatch entries) = entries
entries_behind (Nothing known) = known.entries

-- the last entry is a mismatch
abbrev pub EndsInMismatch : Setting (Position × Position) → List Entry → Type 0
EndsInMismatch s es = (front : List (EntryOf (Position × Position))) × (last : EntryOf (Position × Position)) × (entries_of es ≡ front ++ last ∷ []) × s.Mismatch last.positions last.point

-- entries that are a derivation stay one
abbrev pub StillDerives : Unfolding → List Entry → List Entry → Type 0
StillDerives u old new = IsDerivation (setting_of u) u.order (entries_of old) → IsDerivation (setting_of u) u.order (entries_of new)

-- ---- members

-- the point is a member of one of the widening points, at this pair
abbrev pub IsMemberAt : List WideningPointOf → Position × Position → List ℤ → Type 0
IsMemberAt widening_points pair p = (k : WideningPointOf) × IsAmong k widening_points × (positions k ≡ pair) × IsMemberOf k p

-- one of the paths ends there
abbrev pub IsEndAt : List (List Entry) → Position × Position → List ℤ → Type 0
IsEndAt paths pair p = (path : List Entry) × IsAmong path paths × (e : Entry) × IsEnd path e × (entry_positions e ≡ pair) × (e.point ≡ p)

-- each member was one before, or is the end of one of the paths
abbrev pub MembersEnd : List WideningPointOf → List (List Entry) → List WideningPointOf → Type 0
MembersEnd old paths new = (pair : Position × Position) (p : List ℤ) → IsMemberAt new pair p → IsMemberAt old pair p ⊎ IsEndAt paths pair p

-- ---- what comes of paths

-- what comes of the paths: all is known as before, with further entries, and members that broke their claims; or the last entry is a mismatch; or nothing, without paths
pub record IsGrowthOf (u : Unfolding) (t : Template) (start : Known) (paths : List (List Entry)) (growth : Growth) : Type 0 where
  pub is_known : IfKnown (IsKnown u.pair t) growth
  pub pairs : IfKnown (λ k. pairs_of k ≡ pairs_of start) growth
  pub members : IfKnown (λ k. MembersEnd start.widening_points.items paths k.widening_points.items) growth
  pub more : (es : List Entry) × (entries_behind growth ≡ start.entries ++ es)
  pub grown : IfGrown (λ k. ClaimsGrow t start.widening_points.items k.widening_points.items) growth
  pub mismatch : IfMismatch (EndsInMismatch (setting_of u)) growth
  pub nothing : IfNothing (λ k. (paths ≡ []) × (k ≡ start)) growth
  pub derivation : IsWidenedAt (setting_of u) t start → StillDerives u start.entries (entries_behind growth)
