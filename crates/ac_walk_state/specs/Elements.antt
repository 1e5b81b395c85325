-- The rows by which both elements of an output are one.
use Rattle.std.specs.Prelude.{◌≡◌, ◌↔◌, ℕ, ◌-◌, ℤ, pos, negsuc, List, [], ◌∷◌, ◌++◌, length, map, replicate, slice_get}
use Rattle.std.specs.List.{range_with_len}
use Rattle.ac_forms.specs.Affine.{Affine}
use Rattle.ac_forms.specs.ListMembers.{IsAmong}
use Rattle.ac_forms.specs.Rows.{AreRowsOver, Meets}
use Rattle.ac_forms.specs.declared.row.Row.{Row}
use Rattle.ac_forms.specs.declared.row.Row.TheVariants.{Eq}
use Rattle.ac_syntax.specs.declared.tree.Pair.{Pair}
use Rattle.ac_syntax.specs.declared.tree.Position.TheVariants.{Output}
use Rattle.ac_poly.specs.Model.{model_of}
use Rattle.ac_claims_paths.specs.declared.path.Programs.{Programs}
use Rattle.ac_claims.specs.Soundness.{ArePaired}
use Rattle.ac_claims.specs.declared.types.Claim.{Claim}
use Rattle.ac_widen_programs.specs.PairSetting.{IsOutputPair, PairAt, extent_count, point_width}
use Rattle.ac_unfold_plans.specs.PlanStops.{claim_positions, programs_of}
use Rattle.ac_walk_state.specs.ProofParts.{IsOutputClaim}

-- one column less the one so many columns behind it
abbrev pub column_less : ℕ → ℕ → Affine
column_less column distance = record { konst = pos 0; coefs = replicate column (pos 0) ++ pos 1 ∷ (replicate (distance - 1) (pos 0) ++ negsuc 0 ∷ []) }

-- each of so many columns is equal to the one as many columns behind it
abbrev pub equal_columns : ℕ → ℕ → List Row
equal_columns first count = map (λ k. Eq (column_less k count)) (range_with_len first count)

-- the programs are those of the pair, under its context
pub record AreProgramsOf (pair : Pair) (programs : Programs) : Type 0 where
  pub paired : ArePaired pair
  pub left : programs.left.now ≡ model_of pair.left pair.context
  pub right : programs.right.now ≡ model_of pair.right pair.context

-- the claim of an output of the pair: its rows say of each subscript that it is equal in both elements; so they hold exactly where both elements are one
pub record IsElementClaim (pair : Pair) (array : ℕ) (claim : Claim) : Type 0 where
  pub left_is : claim.left ≡ Output array
  pub right_is : claim.right ≡ Output array
  pub rows_are : claim.rows ≡ equal_columns (length pair.left.params) (extent_count (slice_get (model_of pair.left pair.context).extents array))
  pub output : IsOutputClaim (programs_of pair) array claim
  pub over : AreRowsOver (point_width pair (claim_positions claim)) claim.rows
  pub exact : (outputs : List ℕ) → IsAmong array outputs → (p : List ℤ) → PairAt pair (claim_positions claim) p → Meets claim.rows p ↔ IsOutputPair pair outputs (claim_positions claim) p
