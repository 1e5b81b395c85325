-- A tree that is accepted with its first node at 0 is accepted wherever its numbers begin, and has no point.
use Rattle.std.specs.Prelude.{◌≡◌, None}
use Rattle.ac_forms.specs.declared.conj.Conj.{Conj}
use Rattle.ac_cert.specs.declared.types.Tree.{Tree}
use Rattle.ac_cert.specs.AcceptedTrees.{Accepts}
use Rattle.ac_cert.specs.CertificateFaults.{Refusal, tree_fault}
use Rattle.ac_cert.proofs.EveryNumber.{tree-at}

pub accepted_anywhere : {E : Type 0} (t : Tree E) (R : Refusal E) (c : Conj) → tree_fault t R c 0 ≡ None → Accepts t R c
accepted_anywhere t R c none = tree-at t R c 0 none
