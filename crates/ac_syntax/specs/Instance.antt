-- The instances of assignments, as a relation by cases on the text: what the pieces of a later model are compared with.
use Rattle.std.specs.Prelude.{ℕ, ℤ, pos, ◌+◌, ◌<◌, ◌≡◌, List, [], ◌∷◌, ◌++◌, true, false, ◌⊎◌}
use Rattle.ac_syntax.specs.Index.{Point, index_value, holds}
use Rattle.ac_syntax.specs.Turns.{turns, inside, iterator_at}
use Rattle.ac_syntax.specs.Trace.{Entry, assignments, assignments_in}
use Rattle.ac_syntax.specs.declared.tree.Stmt.{Stmt, Row_of-Stmt, end_of-Stmt, more_of-Stmt}
use Rattle.ac_syntax.specs.declared.tree.Stmt.TheVariants.{For', If', Assign}

unfoldable mutual
  pub IsInstance : Stmt → ℕ → Point → List ℤ → Entry → Type 0
  IsInstance (For' iter start cond step n body place) first p counters e =
      (k : ℕ) × (k < turns p start cond step) × IsInstanceIn body first (inside p (iterator_at (index_value p start) step k)) (counters ++ pos k ∷ []) e
  IsInstance (If' cond n taken m other place) first p counters e =
      ((holds p cond ≡ true) × IsInstanceIn taken first p counters e) ⊎ ((holds p cond ≡ false) × IsInstanceIn other (first + assignments_in taken) p counters e)
  IsInstance (Assign array subs value place) first p counters e =
      e ≡ record { stmt = first; counters = counters; point = p; array = array; subs = subs; value = value }

  pub IsInstanceIn : {m : _} → Row_of-Stmt m → ℕ → Point → List ℤ → Entry → Type 0
  IsInstanceIn end_of-Stmt first p counters e = ⊥
  IsInstanceIn (more_of-Stmt s rest) first p counters e = IsInstance s first p counters e ⊎ IsInstanceIn rest (first + assignments s) p counters e

-- an entry of some statement of a body
abbrev pub IsInstanceAmong : List Stmt → ℕ → Point → List ℤ → Entry → Type 0
IsInstanceAmong [] first p counters e = ⊥
IsInstanceAmong (s ∷ ss) first p counters e = IsInstance s first p counters e ⊎ IsInstanceAmong ss (first + assignments s) p counters e
