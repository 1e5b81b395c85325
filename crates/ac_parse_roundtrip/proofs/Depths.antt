-- What holds where enough constructs may open.
use Rattle.std.proofs.Common.{ℕ, zero, suc, ◌+◌, ◌≤◌, arith}

pub record Deep (P : ℕ → Type 0) : Type 0 where
  pub depth : ℕ
  pub holds : (room : ℕ) → depth ≤ room → P room

pub always : (P : ℕ → Type 0) → ((room : ℕ) → P room) → Deep P
always P f = record { depth = 0; holds = λ room enough. f room }

pub same_depth : (P Q : ℕ → Type 0) → ((room : ℕ) → P room → Q room) → Deep P → Deep Q
same_depth P Q f d = record { depth = d.depth; holds = λ room enough. f room (d.holds room enough) }

-- inside one more construct
pub deeper : (P Q : ℕ → Type 0) → ((room : ℕ) → P room → Q (suc room)) → Deep P → Deep Q
deeper P Q f d = record { depth = suc d.depth; holds = by_room }
  where
    by_room : (room : ℕ) → suc d.depth ≤ room → Q room
    by_room zero enough = absurd (omega arith)
    by_room (suc room) enough = f room (d.holds room (omega arith))

pub both_deep : (P Q : ℕ → Type 0) → Deep P → Deep Q → Deep (λ room. P room × Q room)
both_deep P Q d e = record { depth = d.depth + e.depth; holds = λ room enough. (d.holds room (omega arith), e.holds room (omega arith)) }

-- where one construct more may open
pub above_one : (P : ℕ → Type 0) → Deep (λ room. P (suc room)) → Deep P
above_one P d = deeper (λ room. P (suc room)) P (λ room p. p) d

pub above_two : (P : ℕ → Type 0) → Deep (λ room. P (suc (suc room))) → Deep P
above_two P d = above_one P (above_one (λ room. P (suc room)) d)
