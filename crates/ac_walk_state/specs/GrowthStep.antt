-- One path of a growth.
use Rattle.std.specs.Prelude.{◌≡◌, ◌++◌, List, [], ◌∷◌, map}
use Rattle.ac_syntax.specs.declared.tree.Position.{Position}
use Rattle.ac_claims.specs.declared.types.Claim.{Claim}
use Rattle.ac_widen.specs.declared.derivation.Entry.{Entry}
use Rattle.ac_widen_programs.specs.BrokenPaths.{IsBroken}
use Rattle.ac_widen_programs.specs.PairPathEnds.{HaveBothArities}
use Rattle.ac_widen_programs.specs.PairPaths.{Unfolding, setting_of}
use Rattle.ac_walk_state.specs.declared.template.Template.{Template}
use Rattle.ac_walk_state.specs.PathEntries.{Begins}
use Rattle.ac_walk_state.specs.OrderKnowledge.{IsKnown, IsWidenedAt, claims_of, pairs_of}
use Rattle.ac_walk_state.specs.MemberGrowth.{ClaimGrows}
use Rattle.ac_walk_state.specs.Growth.{EndsInMismatch, IfGrown, IfKnown, IfMismatch, IfNothing, MembersEnd, StillDerives, entries_behind}
use Rattle.ac_walk_state.specs.declared.begins.Begin.{Begin}
use Rattle.ac_walk_state.specs.declared.known.Known.{Known}
use Rattle.ac_walk_state.specs.declared.growth.Growth.{Growth}
use Rattle.ac_walk_state.specs.declared.growth.Growth.TheVariants.{Grown, Mismatch, Nothing}

-- the pair of positions of a claim
abbrev pub pair_of : Claim → Position × Position
pair_of c = (c.left, c.right)

-- a path that is broken for claims at the pairs of the widening points
pub record IsPathFor (u : Unfolding) (t : Template) (claims : List Claim) (known : Known) (path : List Entry) : Type 0 where
  pub arities : HaveBothArities u
  pub is_known : IsKnown u.pair t known
  pub pairs : map pair_of claims ≡ pairs_of known
  pub broken : IsBroken u claims path

-- where the setting widens at the widening points, the path begins there
abbrev pub BeginsIf : Unfolding → Template → Known → List Entry → Begin → Type 0
BeginsIf u t known path begin = IsWidenedAt (setting_of u) t known → Begins (setting_of u) u.order known.entries path begin

-- what comes of it: nothing only where the claims of the widening points are others by now
pub record Takes (u : Unfolding) (t : Template) (claims : List Claim) (known : Known) (begin : Begin) (path : List Entry) (growth : Growth) : Type 0 where
  pub is_known : IfKnown (IsKnown u.pair t) growth
  pub pairs : IfKnown (λ k. pairs_of k ≡ pairs_of known) growth
  pub members : IfKnown (λ k. MembersEnd known.widening_points.items (path ∷ []) k.widening_points.items) growth
  pub more : (es : List Entry) × (entries_behind growth ≡ known.entries ++ es)
  pub grown : IfGrown (λ k. ClaimGrows t known.widening_points.items k.widening_points.items) growth
  pub mismatch : IfMismatch (EndsInMismatch (setting_of u)) growth
  pub nothing : IfNothing (λ k. (k ≡ known) × (¬ (claims ≡ claims_of known))) growth
  pub derivation : Begins (setting_of u) u.order known.entries path begin → StillDerives u known.entries (entries_behind growth)

-- the same behind claims that grew
abbrev pub as_grown : Growth → Growth
as_grown (Grown known) = Grown known
as_grown (Mismatch entries) = Mismatch entries
as_grown (Nothing known) = Grown known
