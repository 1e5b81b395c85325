-- Which lines of a proof may come next.
use Rattle.std.specs.Prelude.{◌≡◌, ℕ, zero, suc, ◌-◌, Bool, true, false, cond, nat_lt, nat_le, List, [], ◌∷◌, Option, Some, None, option_map, option_and_then, unsigned_abs}
use Rattle.ac_claims.specs.declared.item.Item.{Item}
use Rattle.ac_claims.specs.declared.item.Item.TheVariants as item
use Rattle.ac_prooftext.specs.declared.stages.Stage.{Stage}
use Rattle.ac_prooftext.specs.declared.stages.Stage.TheVariants as stage

-- where a proof stands between two lines: the stage, and for each branch that is open on the path its children that are not
-- yet complete, the innermost branch first
pub record Place : Type 0 where
  pub stage : Stage
  pub open_counts : List ℕ

-- with so many claims to come
abbrev pub claims_left : ℕ → Stage
claims_left zero = stage.Output None
claims_left (suc n) = stage.Claim (suc n)

-- with so many rows of a claim to come, and claims behind it
abbrev pub rows_left : ℕ → ℕ → Stage
rows_left claims zero = claims_left claims
rows_left claims (suc n) = stage.Row claims (suc n)

-- the arrays of outputs rise
abbrev pub is_above : Option ℕ → ℕ → Bool
is_above None o = true
is_above (Some last) o = nat_lt last o

-- behind a line outside of plans
abbrev pub head_next : Stage → Item → Option Stage
head_next (stage.Point shapes) (item.Point v) = Some (cond shapes stage.Left stage.Claims)
head_next stage.Left (item.Left v) = Some stage.Right
head_next stage.Right (item.Right v) = Some stage.Claims
head_next stage.Claims (item.Claims n) = Some (claims_left n)
head_next (stage.Claim n) (item.Claim P Q rows) = Some (rows_left (n - 1) rows)
head_next (stage.Row n rows) (item.Row r) = Some (rows_left n (rows - 1))
head_next (stage.Output last) (item.Output o c) = cond (is_above last o) (Some (stage.Output (Some o))) None
head_next (stage.Output last) (item.Tree c a b) = Some stage.Plan
head_next (stage.Output last) item.End = Some stage.Done
head_next stage.Tree (item.Tree c a b) = Some stage.Plan
head_next stage.Tree item.End = Some stage.Done
head_next _ _ = None

-- behind a plan: at the next child of the innermost branch that has one, or outside of plans
abbrev pub closed : List ℕ → Place
closed [] = record { stage = stage.Tree; open_counts = [] }
closed (n ∷ ns) = cond (nat_le n 1) (closed ns) (record { stage = stage.Plan; open_counts = (n - 1) ∷ ns })

-- behind a branch with so many children
abbrev pub opened : ℕ → List ℕ → Place
opened zero ns = closed ns
opened (suc n) ns = record { stage = stage.Plan; open_counts = suc n ∷ ns }

-- with so many choices of a copy to come
abbrev pub choices_left : ℕ → List ℕ → Place
choices_left zero ns = closed ns
choices_left (suc n) ns = record { stage = stage.Choice (suc n); open_counts = ns }

-- behind a line of a plan
abbrev pub plan_next : List ℕ → Item → Option Place
plan_next ns (item.Step s) = Some (record { stage = stage.Plan; open_counts = ns })
plan_next ns (item.Split f) = Some (opened 2 ns)
plan_next ns (item.Residue m f) = Some (opened (unsigned_abs m) ns)
plan_next ns (item.Go o n) = Some (opened n ns)
plan_next ns (item.Absurd r) = Some (closed ns)
plan_next ns (item.Hit c) = Some (closed ns)
plan_next ns item.Number = Some (closed ns)
plan_next ns item.Initial = Some (closed ns)
plan_next ns (item.Killed s d l m n) = Some (choices_left n ns)
plan_next ns _ = None

-- behind a choice
abbrev pub choice_next : ℕ → List ℕ → Item → Option Place
choice_next n ns (item.Choice c) = Some (choices_left (n - 1) ns)
choice_next n ns _ = None

abbrev pub next_by : Stage → List ℕ → Item → Option Place
next_by stage.Plan ns x = plan_next ns x
next_by (stage.Choice n) ns x = choice_next n ns x
next_by s ns x = option_map (λ t. record { stage = t; open_counts = ns }) (head_next s x)

-- behind the next line, where it may come
abbrev pub next : Place → Item → Option Place
next p x = next_by p.stage p.open_counts x

-- behind several lines
abbrev pub next_all : Place → List Item → Option Place
next_all p [] = Some p
next_all p (x ∷ xs) = option_and_then (λ q. next_all q xs) (next p x)

-- before the first line; with the shapes of the programs at the head or without
abbrev pub start : Bool → Place
start shapes = record { stage = stage.Point shapes; open_counts = [] }

-- behind the last line
abbrev pub done : Place
done = record { stage = stage.Done; open_counts = [] }

-- how many branches a line opens
abbrev pub opens : Item → ℕ
opens (item.Split f) = 1
opens (item.Residue m f) = 1
opens (item.Go o n) = 1
opens _ = 0

-- what a call that takes a line answers: whether it may come; where it may not, nothing changes
abbrev pub Takes : Option Place → Place → Place → Bool → Type 0
Takes to before now true = to ≡ Some now
Takes to before now false = (to ≡ None) × (now ≡ before)
