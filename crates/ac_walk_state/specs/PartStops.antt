-- Parts of proofs that stop at the recurrence pairs.
use Rattle.std.specs.Prelude.{◌≡◌, ℕ, List, ◌++◌, Bool, true, false, Some, slice_get}
use Rattle.std.specs.List.{AllByRecursion}
use Rattle.ac_forms.specs.ListMembers.{IsAmong}
use Rattle.ac_forms.specs.declared.row.Row.{Row}
use Rattle.ac_syntax.specs.declared.tree.Order.{Order}
use Rattle.ac_syntax.specs.declared.tree.Pair.{Pair}
use Rattle.ac_syntax.specs.declared.tree.Position.{Position}
use Rattle.ac_claims_paths.specs.declared.path.Path.{Path}
use Rattle.ac_claims.specs.declared.types.Claim.{Claim}
use Rattle.ac_claims.specs.declared.types.ClaimTree.{ClaimTree}
use Rattle.ac_claims.specs.declared.types.Plan.{Plan}
use Rattle.ac_widen.specs.Claims.{IsClaimRow}
use Rattle.ac_widen.specs.Combinations.{Each}
use Rattle.ac_unfold_plans.specs.PlanStops.{positions_at, claim_positions, PlanStops}
use Rattle.ac_walk_state.specs.declared.types.Part.{Part}

-- the plan stops on each path of the pair on which no step was taken yet
abbrev pub StopsFrom : Pair → (Position × Position → Order) → (Position × Position → Bool) → (ℕ → Bool) → Position × Position → Plan → Type 0
StopsFrom pair order recurrent part positions t = (h : Path) → positions_at h ≡ positions → h.gone ≡ false → PlanStops pair order recurrent part t h

-- from the pair of the claim with its number on
abbrev pub TreeStops : Pair → (Position × Position → Order) → (Position × Position → Bool) → (ℕ → Bool) → List Claim → ClaimTree → Type 0
TreeStops pair order recurrent part cs t = (c : Claim) → slice_get cs t.claim ≡ Some c → StopsFrom pair order recurrent part (claim_positions c) t.tree

-- the plans stop, and a recurrence pair has one claim at most, of claim rows
pub record IsPartStopping (pair : Pair) (order : Position × Position → Order) (recurrent : Position × Position → Bool) (template : Position × Position → List Row) (part : ℕ → Bool) (before : List Claim) (own : Part) : Type 0 where
  pub trees : AllByRecursion (TreeStops pair order recurrent part (before ++ own.claims.items)) own.trees.items
  pub alone : (c d : Claim) → IsAmong c own.claims.items → IsAmong d own.claims.items → recurrent (claim_positions c) ≡ true → claim_positions c ≡ claim_positions d → c ≡ d
  pub rows : (c : Claim) → IsAmong c own.claims.items → recurrent (claim_positions c) ≡ true → Each (IsClaimRow (template (claim_positions c))) c.rows
