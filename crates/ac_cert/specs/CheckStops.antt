-- What a refusal tells. Want of memory may come at any time, and tells nothing.
use Rattle.std.specs.Prelude.{◌≡◌, ℕ, Option, Some, None, Result, Ok, Err}
use Rattle.ac_forms.specs.declared.conj.Conj.{Conj}
use Rattle.ac_cert.specs.declared.types.Rule.{Rule}
use Rattle.ac_cert.specs.declared.types.EndStop.{EndStop}
use Rattle.ac_cert.specs.declared.types.TreeFault.{TreeFault}
use Rattle.ac_cert.specs.declared.types.TreeFault.TheVariants as tree
use Rattle.ac_cert.specs.CertificateFaults.{Fault}
use Rattle.ac_cert.specs.declared.types.EndStop.TheVariants.{Refused, Memory}

-- Ok exactly where there is no refusal; else its rule
abbrev pub RefusedBy : {A : Type 0} → Option Rule → Result A EndStop → Type 0
RefusedBy refusal (Ok _) = refusal ≡ None
RefusedBy refusal (Err (Refused r)) = refusal ≡ Some r
RefusedBy refusal (Err (Memory _)) = Unit {0}

-- refused by the rule
abbrev pub Refuses : Rule → EndStop → Type 0 → Type 0
Refuses r (Refused s) P = P × (s ≡ r)
Refuses r (Memory _) P = Unit {0}

-- the stop, at a node
abbrev pub at_node : EndStop → ℕ → TreeFault
at_node (Refused r) k = tree.Refused k r
at_node (Memory e) k = tree.Memory e

-- the fault that the check of a tree names
abbrev pub Fails : Fault → TreeFault → Type 0
Fails f (tree.Refused node r) = f ≡ Some (node, r)
Fails f (tree.Memory _) = Unit {0}

-- Ok, with the same conjunction and the number behind the nodes, exactly where there is no fault
abbrev pub Checked : Fault → Conj → ℕ → Result (Conj × ℕ) TreeFault → Type 0
Checked f c n (Ok r) = (f ≡ None) × (r.0 ≡ c) × (r.1 ≡ n)
Checked f c n (Err e) = Fails f e
