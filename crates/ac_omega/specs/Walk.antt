-- A depth first walk over conjunctions by choices, with a running cost and a running state, and when it is given up.
use Rattle.std.specs.Prelude.{◌≡◌, ◌⊎◌, ℕ, zero, suc, ◌+◌, ◌≤◌, ℤ, List, [], ◌∷◌, Option, Some, None, nat_lt, if◌then◌else◌}

-- what a walk comes to: no point, with the running cost and the state; a point; the first cost above the budget; a number that is too wide
pub data Walked (S : Type 0) : Type 0 where
  Empty : ℕ → S → Walked S
  Found : List ℤ → Walked S
  Spent : ℕ → Walked S
  Wide : Walked S

-- what stands at a conjunction: nothing is left to do, with a point; it is absurd; or choices in order, where none is a number too wide
pub data Node (H : Type 0) : Type 0 where
  Done : List ℤ → Node H
  Absurd : Node H
  Open : List (Option H) → Node H

-- a method of elimination over conjunctions C by choices H: what a conjunction costs, what stands at it, what a choice leaves, how a point goes back, and what a state S keeps of conjunctions and choices
pub record Method (C H S : Type 0) : Type 0 where
  pub size : C → ℕ
  pub look : C → Node H
  pub step : C → H → Option C
  pub lift : C → H → List ℤ → Option (List ℤ)
  pub note : C → S → S
  pub mark : H → S → S

abbrev pub lifted : {S : Type 0} → Option (List ℤ) → Walked S
lifted None = Wide
lifted (Some p) = Found p

-- behind the first choice's walk: its point, lifted; or the further choices
abbrev pub behind : {S : Type 0} → Walked S → (List ℤ → Option (List ℤ)) → (ℕ → S → Walked S) → Walked S
behind (Empty k s) lift rest = rest k s
behind (Found p) lift rest = lifted (lift p)
behind (Spent k) lift rest = Spent k
behind Wide lift rest = Wide

abbrev pub entered : {C S : Type 0} → Option C → (C → Walked S) → Walked S
entered None go = Wide
entered (Some d) go = go d

-- the choices in order, where `go` walks what a choice leaves
abbrev pub tries : {C H S : Type 0} → Method C H S → (C → ℕ → S → Walked S) → C → List (Option H) → ℕ → S → Walked S
tries m go c [] k s = Empty k s
tries m go c (None ∷ hs) k s = Wide
tries m go c (Some h ∷ hs) k s = behind (entered (m.step c h) (λ d. go d k (m.mark h s))) (m.lift c h) (tries m go c hs)

abbrev pub looked : {C H S : Type 0} → Method C H S → (C → ℕ → S → Walked S) → C → ℕ → S → Node H → Walked S
looked m go c k s (Done p) = Found p
looked m go c k s Absurd = Empty k s
looked m go c k s (Open hs) = tries m go c hs k s

-- the walk, where at most so many conjunctions stand on one path
unfoldable pub walk : {C H S : Type 0} → Method C H S → ℕ → ℕ → C → ℕ → S → Walked S
walk m zero budget c k s = Spent k
walk m (suc n) budget c k s =
    if nat_lt budget (k + m.size c) then Spent (k + m.size c) else looked m (λ d j t. walk m n budget d j t) c (k + m.size c) (m.note c s) (m.look c)

-- each conjunction has a row, but for one that is done
abbrev pub HasRows : {H : Type 0} → Node H → ℕ → Type 0
HasRows (Done p) n = Unit {0}
HasRows Absurd n = 1 ≤ n
HasRows (Open hs) n = 1 ≤ n

-- the choice stands among those that are tried
abbrev pub IsTried : {H : Type 0} → H → List (Option H) → Type 0
IsTried h [] = ⊥
IsTried h (x ∷ xs) = (x ≡ Some h) ⊎ IsTried h xs
