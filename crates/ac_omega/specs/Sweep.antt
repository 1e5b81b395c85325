-- The whole walk: the conjunctions that are done, each with the choices that led to it.
use Rattle.std.specs.Prelude.{ℕ, zero, suc, ◌+◌, List, [], ◌∷◌, ◌++◌, Option, Some, None, nat_lt, if◌then◌else◌}
use Rattle.ac_omega.specs.Walk.{Node, Done, Absurd, Open, Method}

-- what a whole walk comes to: pieces, with the running cost; the first cost above the budget; a number that is too wide
pub data Projected (C H : Type 0) : Type 0 where
  Pieces : List (List H × C) → ℕ → Projected C H
  Spent : ℕ → Projected C H
  Wide : Projected C H

-- pieces from before, in front
abbrev pub joined : {C H : Type 0} → List (List H × C) → Projected C H → Projected C H
joined xs (Pieces ys k) = Pieces (xs ++ ys) k
joined xs (Spent k) = Spent k
joined xs Wide = Wide

-- the walk goes on at the running cost
abbrev pub onward : {C H : Type 0} → Projected C H → (ℕ → Projected C H) → Projected C H
onward (Pieces xs k) rest = joined xs (rest k)
onward (Spent k) rest = Spent k
onward Wide rest = Wide

abbrev pub into : {C H : Type 0} → Option C → (C → Projected C H) → Projected C H
into None go = Wide
into (Some d) go = go d

-- the choices in order, where `go` walks what a choice leaves
abbrev pub sweeps : {C H S : Type 0} → Method C H S → (List H → C → ℕ → Projected C H) → List H → C → List (Option H) → ℕ → Projected C H
sweeps m go path c [] k = Pieces [] k
sweeps m go path c (None ∷ hs) k = Wide
sweeps m go path c (Some h ∷ hs) k = onward (into (m.step c h) (λ d. go (path ++ h ∷ []) d k)) (sweeps m go path c hs)

abbrev pub swept : {C H S : Type 0} → Method C H S → (List H → C → ℕ → Projected C H) → List H → C → ℕ → Node H → Projected C H
swept m go path c k (Done p) = Pieces ((path, c) ∷ []) k
swept m go path c k Absurd = Pieces [] k
swept m go path c k (Open hs) = sweeps m go path c hs k

-- the whole walk behind a path of choices, where at most so many conjunctions stand on one path
unfoldable pub sweep : {C H S : Type 0} → Method C H S → ℕ → ℕ → List H → C → ℕ → Projected C H
sweep m zero budget path c k = Spent k
sweep m (suc n) budget path c k =
    if nat_lt budget (k + m.size c) then Spent (k + m.size c) else swept m (λ q d j. sweep m n budget q d j) path c (k + m.size c) (m.look c)
