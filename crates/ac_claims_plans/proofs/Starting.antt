-- A question follows itself.
use Rattle.std.proofs.Common.{◌≡◌, ℕ, zero, suc, ◌+◌, ◌<◌, ◌≤◌, Option, Some, None, slice_get, refl, ap, ◌∙◌, arith}
use Rattle.std.specs.List.{range_with_len}
use Rattle.ac_claims_paths.specs.WellFormedPaths.{SeatIn, SourceIn, LastIn}
use Rattle.ac_claims_paths.specs.declared.path.Assumed.{Assumed}
use Rattle.ac_claims_paths.specs.declared.path.Seat.{Seat}
use Rattle.ac_claims_plans.proofs.Selves.{stands-itself}
use Rattle.ac_claims_plans.specs.QuestionPaths.{ArePlaced, SeatOn, SourceOn, AssumedOn}
use Rattle.ac_claims_plans.specs.QuestionStarts.{QuestionsFollowThemselves, PlansAreAcceptedAtStarts}
use Rattle.ac_claims_plans.proofs.Placed.{range-rising}

get-range : (first n k : ℕ) → k < n → slice_get (range_with_len first n) k ≡ Some (first + k)
get-range first zero k l = absurd (omega (arith, l))
get-range first (suc n) zero l = ap (λ (x : ℕ). Some x) (omega arith)
get-range first (suc n) (suc k) l = get-range (first + 1) n k (omega (arith, l)) ∙ ap (λ (x : ℕ). Some x) (omega arith)

placed-range : (n first count : ℕ) → first + count ≤ n → ArePlaced (range_with_len 0 n) (range_with_len first count) (range_with_len first count)
placed-range n first zero l = tt
placed-range n first (suc count) l = (get-range 0 n first (omega (arith, l)) ∙ ap (λ (x : ℕ). Some x) (omega arith), placed-range n (first + 1) count (omega (arith, l)))

seat-itself : (n : ℕ) (a : Seat) → SeatIn a n → SeatOn (range_with_len 0 n) a a
seat-itself n a l = record { position = refl; width = refl; coordinates = placed-range n a.first a.width l }

source-itself : (n : ℕ) (a : Option Seat) → SourceIn a n → SourceOn (range_with_len 0 n) a a
source-itself n None l = tt
source-itself n (Some a) l = seat-itself n a l

last-itself : (n : ℕ) (a : Option Assumed) → LastIn a n → AssumedOn (range_with_len 0 n) a a
last-itself n None l = tt
last-itself n (Some a) l = (refl, seat-itself n a.reader l.0, source-itself n a.source l.1)

pub follow_themselves : QuestionsFollowThemselves
follow_themselves params q i =
    let n = q.conj.columns in
    record {
      stands = stands-itself q.conj i.made;
      rising = range-rising 0 n;
      parameters = placed-range n 0 params (omega (arith, i.base_in));
      left = seat-itself n q.left i.left_in;
      right = seat-itself n q.right i.right_in;
      gone = refl;
      last = last-itself n q.last i.last_in;
    }

pub accepted_at_starts : PlansAreAcceptedAtStarts
accepted_at_starts g cs q t i plan = plan q (follow_themselves g.params q i) i
