-- Lists of rows that stand: one row more, and parts of them.
use Rattle.std.proofs.Common.{◌≡◌, ℕ, zero, suc, List, [], ◌∷◌, ◌++◌, take, drop, get_or, slice_get, Some}
use Rattle.ac_forms.specs.declared.conj.Conj.{Conj}
use Rattle.ac_forms.specs.declared.row.Row.{Row}
use Rattle.ac_omega_certify.specs.TreePathRows.{StandsAt, Stand}

pub stand-push : (names : List ℕ) (path : Conj) (rs : List Row) (places : List ℕ) (r : Row) (i : ℕ) → Stand names path rs places → StandsAt names path i r → Stand names path (rs ++ r ∷ []) (places ++ i ∷ [])
stand-push names path [] [] r i h s = (s, tt)
stand-push names path [] (p ∷ places) r i h s = absurd h
stand-push names path (x ∷ rs) [] r i h s = absurd h
stand-push names path (x ∷ rs) (p ∷ places) r i h s = (h.0, stand-push names path rs places r i h.1 s)

pub stand-take : (names : List ℕ) (path : Conj) (rs : List Row) (places : List ℕ) (n : ℕ) → Stand names path rs places → Stand names path (take n rs) (take n places)
stand-take names path [] [] n h = by n
  where
    by : (n : ℕ) → Stand names path (take n []) (take n [])
    by zero = tt
    by (suc n) = tt
stand-take names path [] (p ∷ places) n h = absurd h
stand-take names path (x ∷ rs) [] n h = absurd h
stand-take names path (x ∷ rs) (p ∷ places) zero h = tt
stand-take names path (x ∷ rs) (p ∷ places) (suc n) h = (h.0, stand-take names path rs places n h.1)

pub stand-drop : (names : List ℕ) (path : Conj) (rs : List Row) (places : List ℕ) (n : ℕ) → Stand names path rs places → Stand names path (drop n rs) (drop n places)
stand-drop names path [] [] zero h = tt
stand-drop names path [] [] (suc n) h = tt
stand-drop names path [] (p ∷ places) n h = absurd h
stand-drop names path (x ∷ rs) [] n h = absurd h
stand-drop names path (x ∷ rs) (p ∷ places) zero h = h
stand-drop names path (x ∷ rs) (p ∷ places) (suc n) h = stand-drop names path rs places n h.1

-- one row stands
pub stand-at : (names : List ℕ) (path : Conj) (rs : List Row) (places : List ℕ) (i : ℕ) (r : Row) → Stand names path rs places → slice_get rs i ≡ Some r → StandsAt names path (get_or places i 0) r
stand-at names path [] [] i r h e = absurd cc
stand-at names path [] (p ∷ places) i r h e = absurd h
stand-at names path (x ∷ rs) [] i r h e = absurd h
stand-at names path (x ∷ rs) (p ∷ places) zero r h e = let s : x ≡ r = cc in rw (← s) h.0
stand-at names path (x ∷ rs) (p ∷ places) (suc i) r h e = stand-at names path rs places i r h.1 e
