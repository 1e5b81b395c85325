-- A tree in which no node fails, whatever number its first node has.
use Rattle.std.proofs.Common.{◌≡◌, ℕ, ◌+◌, ℤ, pos, List, [], ◌∷◌, length, Option, Some, None, refl}
use Rattle.ac_forms.specs.Affine.{Affine}
use Rattle.ac_forms.specs.declared.conj.Conj.{Conj}
use Rattle.ac_cert.specs.declared.types.Rule.{Rule}
use Rattle.ac_cert.specs.declared.types.Rule.TheVariants as rule
use Rattle.ac_cert.specs.declared.types.Step.{Step}
use Rattle.ac_cert.specs.declared.types.Next.{Next, End, Split', Residue', Row_of-Tree, end_of-Tree, more_of-Tree}
use Rattle.ac_cert.specs.declared.types.Tree.{Tree}
use Rattle.ac_cert.specs.AcceptedTrees.{Accepts}
use Rattle.ac_cert.specs.CertificateFaults.{Fault, Refusal, Onward, later, first_fault_of, step_fault, path_fault, split_fault, child_count, node_count, fault_of, row_fault, tree_fault}
use Rattle.ac_cert.specs.Rules.{after_step, rule_of, both_sides, class, is_partition}
use Rattle.ac_cert.proofs.Soundness.{first-none, no-refusal, if-none}

both-none : (a b : Fault) → a ≡ None → b ≡ None → first_fault_of a b ≡ None
both-none a b e f = rw (e, f) refl

step-at : (o : Option Conj) (r : Rule) (k j : ℕ) (go on : Conj → Fault) → step_fault o r k go ≡ None → ((d : Conj) → go d ≡ None → on d ≡ None) → step_fault o r j on ≡ None
step-at None r k j go on e h = absurd cc
step-at (Some d) r k j go on e h = h d e

path-at : (steps : List Step) (go : Onward) (c : Conj) (k j : ℕ) → path_fault steps go c k ≡ None → ((d : Conj) (a b : ℕ) → go d a ≡ None → go d b ≡ None) → path_fault steps go c j ≡ None
path-at [] go c k j e h = h c k j e
path-at (s ∷ steps) go c k j e h =
    step-at (after_step s c) (rule_of s) k j (λ d. path_fault steps go d (later k 1)) (λ d. path_fault steps go d (later j 1)) e (λ d f. path-at steps go d (later k 1) (later j 1) f h)

split-at : (o : Option (Conj × Conj)) (k j : ℕ) (left right left2 right2 : Conj → Fault) → split_fault o k left right ≡ None → ((a : Conj) → left a ≡ None → left2 a ≡ None) → ((b : Conj) → right b ≡ None → right2 b ≡ None) → split_fault o j left2 right2 ≡ None
split-at None k j left right left2 right2 e l r = absurd cc
split-at (Some s) k j left right left2 right2 e l r =
    let f = first-none (left s.0) (right s.1) e in
    both-none (left2 s.0) (right2 s.1) (l s.0 f.0) (r s.1 f.1)

mutual
  next-at : {E : Type 0} (x : Next E) (R : Refusal E) (c : Conj) (k j : ℕ) → fault_of x R c k ≡ None → fault_of x R c j ≡ None
  next-at (End e) R c k j f = rw (no-refusal (R e c) k f) refl
  next-at (Split' g a s l b t r) R c k j f =
      split-at (both_sides g c) k j _ _ _ _ f
      (λ x e. path-at s (fault_of l R) x (later k 1) (later j 1) e (λ d m n h. next-at l R d m n h))
      (λ x e. path-at t (fault_of r R) x (later (later k 1) (length s + node_count l)) (later (later j 1) (length s + node_count l)) e (λ d m n h. next-at r R d m n h))
  next-at (Residue' m g shape all) R c k j f =
      let both = if-none (is_partition m g c.columns (child_count all)) (row_fault all R m g 0 c (later k 1)) (k, rule.Residue) f in
      rw both.0 (row-at all R m g 0 c (later k 1) (later j 1) both.1)

  row-at : {E : Type 0} {z : _} (all : Row_of-Tree E z) (R : Refusal E) (m : ℤ) (g : Affine) (i : ℕ) (c : Conj) (k j : ℕ) → row_fault all R m g i c k ≡ None → row_fault all R m g i c j ≡ None
  row-at end_of-Tree R m g i c k j f = refl
  row-at (more_of-Tree s t rest) R m g i c k j f =
      let both = first-none (path_fault s (fault_of t R) (class m g (pos i) c) k) (row_fault rest R m g (i + 1) c (later k (length s + node_count t))) f in
      both-none _ _
      (path-at s (fault_of t R) (class m g (pos i) c) k j both.0 (λ d m n h. next-at t R d m n h))
      (row-at rest R m g (i + 1) c (later k (length s + node_count t)) (later j (length s + node_count t)) both.1)

pub tree-at : {E : Type 0} (t : Tree E) (R : Refusal E) (c : Conj) (k : ℕ) → tree_fault t R c k ≡ None → Accepts t R c
tree-at t R c k f j = path-at t.steps (fault_of t.next R) c k j f (λ d m n h. next-at t.next R d m n h)
