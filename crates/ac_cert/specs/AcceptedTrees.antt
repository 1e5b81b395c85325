-- Trees that are accepted, whatever number their first node has.
use Rattle.std.specs.Prelude.{◌≡◌, ℕ, ◌+◌, ℤ, pos, List, [], ◌∷◌, Option, Some, None, option_and_then, Box}
use Rattle.std.specs.declared.alloc.Global.{Global}
use Rattle.ac_forms.specs.Affine.{Affine}
use Rattle.ac_forms.specs.declared.conj.Conj.{Conj}
use Rattle.ac_cert.specs.declared.types.Step.{Step}
use Rattle.ac_cert.specs.declared.types.Next.{Next, Split}
use Rattle.ac_cert.specs.declared.types.Tree.{Tree}
use Rattle.ac_cert.specs.declared.ends.Absurd.{Absurd}
use Rattle.ac_cert.specs.AbsurdEnd.{absurd_refusal}
use Rattle.ac_cert.specs.CertificateFaults.{Refusal, tree_fault}
use Rattle.ac_cert.specs.Rules.{after_step, class}

-- no node fails, at whatever number
abbrev pub Accepts : {E : Type 0} → Tree E → Refusal E → Conj → Type 0
Accepts t refusal c = (k : ℕ) → tree_fault t refusal c k ≡ None

-- what ends at absurd rows refuse
abbrev pub absurd_refusals : Refusal Absurd
absurd_refusals e c = absurd_refusal e.row c

-- the children from child i on are accepted, each at its class
abbrev pub AcceptsEach : {E : Type 0} → List (Tree E) → Refusal E → ℤ → Affine → ℕ → Conj → Type 0
AcceptsEach [] refusal m f i c = Unit {0}
AcceptsEach (t ∷ ts) refusal m f i c = Accepts t refusal (class m f (pos i) c) × AcceptsEach ts refusal m f (i + 1) c

-- the conjunction after some steps
abbrev pub after_steps : List Step → Conj → Option Conj
after_steps [] c = Some c
after_steps (s ∷ steps) c = option_and_then (after_steps steps) (after_step s c)

-- a split by the form into these two trees, each in a box
abbrev pub IsSplit : {E : Type 0} → Next E → Affine → Tree E → Tree E → Type 0
IsSplit {E} x e left right = (l : Box (Tree E) Global) × (r : Box (Tree E) Global) × (x ≡ Split e l r) × (l.value ≡ left) × (r.value ≡ right)
