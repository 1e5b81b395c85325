-- The plans that are still to come, by the numbers of the next one.
use Rattle.std.specs.Prelude.{ℕ, ◌+◌, ◌<◌, ◌≡◌, List, [], ◌++◌, map, drop, length, Option, Some, None, option_and_then, cond, nat_eq, nat_le, nat_lt, slice_get}
use Rattle.std.specs.List.{flat_map}
use Rattle.ac_forms.specs.declared.row.Row.{Row}
use Rattle.ac_claims_paths.specs.PathSteps.{Pairing}
use Rattle.ac_claims_paths.specs.declared.path.Path.{Path}
use Rattle.ac_claims.specs.Domains.{of_width, piece_by}
use Rattle.ac_claims.specs.ProofFaults.{Domain, domain, start, DuePlan, numbered, due_from}
use Rattle.ac_claims.specs.declared.domains.Piece.{Piece}
use Rattle.ac_claims.specs.declared.types.Claim.{Claim}
use Rattle.ac_claims.specs.declared.upcoming.Upcoming.{Upcoming}

abbrev pub start_of : Pairing → Claim → Piece → Piece → Option Path
start_of g c l r = start g c (of_width l.width) (of_width r.width) l.rows r.rows

abbrev pub start_beside : Pairing → Claim → Piece → Option Piece → Option Path
start_beside g c l o = option_and_then (start_of g c l) o

-- where the plan for two pieces starts
abbrev pub start_at : Pairing → Claim → ℕ → ℕ → Option Path
start_at g c i k = option_and_then (λ (l : Piece). start_beside g c l (piece_by k (domain g.right c.right))) (piece_by i (domain g.left c.left))

-- the plan for two pieces with their numbers
abbrev pub plan_for : Pairing → ℕ → Claim → Domain → Domain → ℕ × List Row → ℕ × List Row → DuePlan
plan_for g i c a b l r = record { claim = i; left_piece = l.0; right_piece = r.0; path = start g c a b l.1 r.1 }

-- those of a left piece with some right ones
abbrev pub plans_beside : Pairing → ℕ → Claim → Domain → Domain → List (ℕ × List Row) → Option (ℕ × List Row) → List DuePlan
plans_beside g i c a b rs None = []
plans_beside g i c a b rs (Some l) = map (plan_for g i c a b l) rs

-- those of a claim from two pieces on
abbrev pub plans_from : Pairing → ℕ → Claim → Option Domain → Option Domain → ℕ → ℕ → List DuePlan
plans_from g i c (Some a) (Some b) left right =
    plans_beside g i c a b (drop right (numbered 0 b.pieces)) (slice_get (numbered 0 a.pieces) left) ++ flat_map (λ l. map (plan_for g i c a b l) (numbered 0 b.pieces)) (drop (left + 1) (numbered 0 a.pieces))
plans_from g i c None b left right = []
plans_from g i c (Some a) None left right = []

abbrev pub remaining_by : Pairing → List Claim → Upcoming → Option Claim → List DuePlan
remaining_by g cs u None = []
remaining_by g cs u (Some c) = plans_from g u.claim c (domain g.left c.left) (domain g.right c.right) u.left_piece u.right_piece ++ due_from g (u.claim + 1) (drop (u.claim + 1) cs)

-- the plans from the next one on
abbrev pub remaining : Pairing → List Claim → Upcoming → List DuePlan
remaining g cs u = remaining_by g cs u (slice_get cs u.claim)

-- how many pieces a position has
abbrev pub count_by : Option Domain → ℕ
count_by None = 0
count_by (Some a) = length a.pieces

abbrev pub IsThereBy : Pairing → Upcoming → Option Claim → Type 0
IsThereBy g u None = Unit {0}
IsThereBy g u (Some c) = (u.left_piece < count_by (domain g.left c.left)) × (u.right_piece < count_by (domain g.right c.right))

-- the pieces are there, if the claim is
abbrev pub IsThere : Pairing → List Claim → Upcoming → Type 0
IsThere g cs u = IsThereBy g u (slice_get cs u.claim)

-- the same plans are to come, and the pieces of the next one are there
pub record Settled (g : Pairing) (cs : List Claim) (plans : List DuePlan) (u : Upcoming) : Type 0 where
  pub same : remaining g cs u ≡ plans
  pub there : IsThere g cs u

-- the next plan of the same claim, of which there are so many left and right pieces, from two pieces on
abbrev pub next_in : ℕ → ℕ → Upcoming → Option Upcoming
next_in left right u =
    cond (nat_le left u.left_piece) None (cond (nat_eq right 0) None (cond (nat_lt u.right_piece right) (Some u) (cond (nat_lt (u.left_piece + 1) left) (Some (record { claim = u.claim; left_piece = u.left_piece + 1; right_piece = 0 })) None)))

-- the next plan, if it is one of the same claim; else those of the claims behind it are to come
abbrev pub AtClaim : Pairing → List Claim → Upcoming → Option Upcoming → Type 0
AtClaim g cs u (Some v) = Settled g cs (remaining g cs u) v
AtClaim g cs u None = remaining g cs u ≡ due_from g (u.claim + 1) (drop (u.claim + 1) cs)
