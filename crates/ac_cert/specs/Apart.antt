-- What stands behind the steps of a tree that is accepted, and what the rows of a branch say.
use Rattle.std.specs.Prelude.{◌≡◌, ◌≤◌, ℕ, List, ◌++◌, Some, None}
use Rattle.ac_forms.specs.declared.conj.Conj.{Conj}
use Rattle.ac_forms.specs.declared.row.Row.{Row}
use Rattle.ac_cert.specs.CertificateFaults.{Refusal, fault_of}
use Rattle.ac_cert.specs.declared.types.Next.{Next}

-- no node of a branch or an end fails, at whatever number
abbrev pub AcceptsNext : {E : Type 0} → Next E → Refusal E → Conj → Type 0
AcceptsNext x refusal c = (k : ℕ) → fault_of x refusal c k ≡ None

-- the second conjunction has the rows of the first one, and then others, over as many columns or more
pub record IsOnto (c d : Conj) : Type 0 where
  pub more : List Row
  pub rows : d.rows ≡ c.rows ++ more
  pub columns : c.columns ≤ d.columns
