-- Integer points of a conjunction.
use Rattle.std.specs.Prelude.{◌≡◌, ℤ, List, length}
use Rattle.ac_forms.specs.Rows.{Meets}
use Rattle.ac_forms.specs.declared.conj.Conj.{Conj}

-- a number for each column, at which all rows hold
pub record IsPoint (c : Conj) (p : List ℤ) : Type 0 where
  pub long : length p ≡ c.columns
  pub meets : Meets c.rows p
