-- What the tests of a tree and of a point show.
use Rattle.std.specs.Prelude.{◌≡◌, ℤ, List, None, length}
use Rattle.ac_forms.specs.Rows.{Meets}
use Rattle.ac_forms.specs.declared.conj.Conj.{Conj}
use Rattle.ac_omega_steps.specs.IntegerPoints.{IsPoint}
use Rattle.ac_cert.specs.declared.types.Tree.{Tree}
use Rattle.ac_cert.specs.AcceptedTrees.{Accepts}
use Rattle.ac_cert.specs.CertificateFaults.{Refusal, tree_fault}
use Rattle.ac_cert.proofs.EveryNumber.{tree-at}

-- a tree that is accepted with its first node at 0 is accepted wherever its numbers begin
pub accepted_anywhere : {E : Type 0} (t : Tree E) (R : Refusal E) (c : Conj) → tree_fault t R c 0 ≡ None → Accepts t R c
accepted_anywhere t R c none = tree-at t R c 0 none

-- a list of the right length at which the rows hold is a point
pub point_of : (c : Conj) (p : List ℤ) → length p ≡ c.columns → Meets c.rows p → IsPoint c p
point_of c p long meets = record { long = long; meets = meets }
