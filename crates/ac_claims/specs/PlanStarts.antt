-- Plans that start.
use Rattle.std.specs.Prelude.{◌≡◌, ◌+◌, ◌&&◌, Bool, true, List, [], ◌∷◌, Option, Some, None, cond, nat_eq, option_and_then, slice_get}
use Rattle.ac_claims_paths.specs.WellFormedPaths.{IsFormed}
use Rattle.ac_claims_paths.specs.PathSteps.{Pairing}
use Rattle.ac_claims_paths.specs.declared.path.Path.{Path}
use Rattle.ac_claims.specs.ProofFaults.{DuePlan, is_due_at}
use Rattle.ac_claims.specs.RemainingPlans.{start_at, remaining}
use Rattle.ac_claims.specs.declared.lines.Start.{Start}
use Rattle.ac_claims.specs.declared.types.Claim.{Claim}
use Rattle.ac_claims.specs.declared.upcoming.Upcoming.{Upcoming}

-- the numbers are those of the next plan
abbrev pub is_it : Upcoming → Upcoming → Bool
is_it u v = nat_eq u.claim v.claim && (nat_eq u.left_piece v.left_piece && nat_eq u.right_piece v.right_piece)

abbrev pub after_one : Upcoming → Upcoming
after_one u = record { claim = u.claim; left_piece = u.left_piece; right_piece = u.right_piece + 1 }

abbrev pub start_in : Pairing → Upcoming → Option Claim → Option Path
start_in g u o = option_and_then (λ (c : Claim). start_at g c u.left_piece u.right_piece) o

-- where the plan with these numbers starts, and the numbers behind it
abbrev pub IsStartOf : Pairing → List Claim → Upcoming → Option Start → Type 0
IsStartOf g cs u None = start_in g u (slice_get cs u.claim) ≡ None
IsStartOf g cs u (Some s) = (start_in g u (slice_get cs u.claim) ≡ Some s.path) × (s.behind ≡ after_one u) × IsFormed g.params s.path

-- where the next plan starts, if it is the one with these numbers
abbrev pub path_due : Upcoming → List DuePlan → Option Path
path_due u [] = None
path_due u (d ∷ ds) = cond (is_due_at u.claim u.left_piece u.right_piece d) d.path None

-- the plans to come begin with one that starts, which has these numbers; or there is none
abbrev pub StartsNext : Pairing → List Claim → List DuePlan → Upcoming → Option Start → Type 0
StartsNext g cs plans u None = path_due u plans ≡ None
StartsNext g cs plans u (Some s) =
    (d : DuePlan) × (plans ≡ d ∷ remaining g cs s.behind) × (is_due_at u.claim u.left_piece u.right_piece d ≡ true) × (d.path ≡ Some s.path) × IsFormed g.params s.path
