-- What a step keeps of the integer points of a conjunction.
use Rattle.std.specs.Prelude.{◌≡◌, ℤ, List, ◌++◌}
use Rattle.ac_forms.specs.Rows.{IsWellMade}
use Rattle.ac_forms.specs.declared.conj.Conj.{Conj}
use Rattle.ac_omega_steps.specs.IntegerPoints.{IsPoint}

-- the second point is the first one with numbers for further columns
abbrev pub Extends : List ℤ → List ℤ → Type 0
Extends p q = (more : List ℤ) × (q ≡ p ++ more)

-- the second conjunction is well made, and each point of the first one extends to a point of it
pub record Keeps (c d : Conj) : Type 0 where
  pub made : IsWellMade d
  pub goes_on : (p : List ℤ) → IsPoint c p → (q : List ℤ) × Extends p q × IsPoint d q
