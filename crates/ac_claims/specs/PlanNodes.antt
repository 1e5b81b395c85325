-- The nodes of a plan: the plan itself, and the plans behind its branches.
use Rattle.std.specs.Prelude.{ℕ, ◌+◌, ◌*◌, List, [], ◌∷◌, ◌++◌, length, reverse}
use Rattle.std.specs.List.{flat_map}
use Rattle.ac_claims.specs.CheckFeed.{of_step, of_choice}
use Rattle.ac_claims.specs.PlanFaults.{count_of}
use Rattle.ac_claims.specs.declared.item.Item.{Item}
use Rattle.ac_claims.specs.declared.item.Item.TheVariants as item
use Rattle.ac_claims.specs.declared.types.Plan.{Plan}
use Rattle.ac_claims.specs.declared.types.PlanNext.{PlanNext, Split', Residue', Go', Row_of-Plan, end_of-Plan, more_of-Plan}
use Rattle.ac_claims.specs.declared.types.PlanNext.TheVariants.{Absurd, Killed, Hit, SameNumber, SameInitial}

abbrev mutual
  -- the plans behind a branch, each before those behind it; none behind an end
  pub nodes_behind : PlanNext → List Plan
  nodes_behind (Split' f p s l q t r) = (record { steps = s; next = l } ∷ nodes_behind l) ++ (record { steps = t; next = r } ∷ nodes_behind r)
  nodes_behind (Residue' m f shape all) = nodes_of_row all
  nodes_behind (Go' order shape all) = nodes_of_row all
  nodes_behind (Absurd i) = []
  nodes_behind (Killed kill) = []
  nodes_behind (Hit c) = []
  nodes_behind SameNumber = []
  nodes_behind SameInitial = []

  pub nodes_of_row : {m : _} → Row_of-Plan m → List Plan
  nodes_of_row end_of-Plan = []
  nodes_of_row (more_of-Plan s t more) = (record { steps = s; next = t } ∷ nodes_behind t) ++ nodes_of_row more

-- a plan, and those behind its branches
abbrev pub nodes_of : Plan → List Plan
nodes_of t = t ∷ nodes_behind t.next

-- the nodes of plans on a stack, the last one on top
abbrev pub nodes_on : List Plan → List Plan
nodes_on left = flat_map nodes_of (reverse left)

-- how many nodes plans have
abbrev pub node_count : List Plan → ℕ
node_count ts = length (flat_map nodes_of ts)

abbrev mutual
  -- a plan is taken apart from its branch on, and behind that is a rest: branches whose plans wait but for one, in the place of which the next rest stands.
  -- Two for each node that waits, and one for each branch
  pub waiting : PlanNext → ℕ
  waiting (Split' f p s l q t r) = 1 + 2 * (1 + length (nodes_behind l)) + waiting r
  waiting (Residue' m f shape all) = waiting_in all
  waiting (Go' order shape all) = waiting_in all
  waiting (Absurd i) = 0
  waiting (Killed kill) = 0
  waiting (Hit c) = 0
  waiting SameNumber = 0
  waiting SameInitial = 0

  pub waiting_in : {m : _} → Row_of-Plan m → ℕ
  waiting_in end_of-Plan = 0
  waiting_in (more_of-Plan s t more) = 1 + 2 * length (nodes_of_row more) + waiting t

abbrev pub waiting_of : List Plan → ℕ
waiting_of [] = 0
waiting_of (t ∷ ts) = 1 + 2 * node_count ts + waiting t.next

-- what is left to be taken apart of a branch and a rest
abbrev pub left_over : PlanNext → PlanNext → ℕ
left_over at rest = 2 * (1 + length (nodes_behind at)) + waiting rest

-- the line of a branch, without those of its plans, or the lines of an end
abbrev pub own_items : PlanNext → List Item
own_items (Split' f p s l q t r) = item.Split f ∷ []
own_items (Residue' m f shape all) = item.Residue m f ∷ []
own_items (Go' order shape all) = item.Go order (count_of all) ∷ []
own_items (Absurd i) = item.Absurd i ∷ []
own_items (Killed kill) = item.Killed kill.stmt kill.piece kill.after kill.before (length kill.choices) ∷ flat_map of_choice kill.choices
own_items (Hit c) = item.Hit c ∷ []
own_items SameNumber = item.Number ∷ []
own_items SameInitial = item.Initial ∷ []

-- the lines of a node, without those of the plans behind it
abbrev pub node_items : Plan → List Item
node_items t = flat_map of_step t.steps ++ own_items t.next
