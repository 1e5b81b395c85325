-- A tree is accepted exactly where its nodes stand, and has as many.
use Rattle.std.proofs.Common.{◌≡◌, ℕ, suc, ◌+◌, ℤ, pos, List, [], ◌∷◌, length, Option, Some, None, true, refl, sym, ap, ◌∙◌, arith}
use Rattle.ac_forms.specs.Affine.{Affine}
use Rattle.ac_forms.specs.declared.conj.Conj.{Conj}
use Rattle.ac_cert.specs.declared.types.Rule.TheVariants as rule
use Rattle.ac_cert.specs.declared.types.Step.{Step}
use Rattle.ac_cert.specs.declared.types.Next.{Next, End, Split', Residue', Row_of-Tree, end_of-Tree, more_of-Tree}
use Rattle.ac_cert.specs.declared.types.Tree.{Tree}
use Rattle.ac_cert.specs.declared.ends.Absurd.{Absurd}
use Rattle.ac_cert.specs.AcceptedTrees.{Accepts, absurd_refusals}
use Rattle.ac_cert.specs.AbsurdEnd.{absurd_refusal}
use Rattle.ac_cert.specs.CertificateFaults.{Fault, Onward, later, first_fault_of, step_fault, path_fault, split_fault, child_count, node_count, row_node_count, fault_of, row_fault, size_of}
use Rattle.ac_cert.specs.Rules.{after_step, rule_of, both_sides, class, is_partition}
use Rattle.ac_cert.proofs.Soundness.{first-none, no-refusal, if-none}
use Rattle.ac_cert_short.specs.CertificateNodes.{Nodes, along, nodes_behind, nodes_of_kids, nodes_of}
use Rattle.ac_cert_short.specs.CertificateNodes.Nodes.{split}
use Rattle.ac_cert_short.specs.Drafts.{kid_count, node_size, Stands, KidsStand}

along-stands : (steps : List Step) (p : Nodes) (go : Onward) (c : Conj) (k : ℕ) → path_fault steps go c k ≡ None → ((d : Conj) (j : ℕ) → go d j ≡ None → Stands p d) → Stands (along steps p) c
along-stands [] p go c k e h = h c k e
along-stands (s ∷ steps) p go c k e h = by (after_step s c) refl e (λ d f. along-stands steps p go d (later k 1) f h)
  where
    by : (o : Option Conj) → after_step s c ≡ o → step_fault o (rule_of s) k (λ d. path_fault steps go d (later k 1)) ≡ None → ((d : Conj) → path_fault steps go d (later k 1) ≡ None → Stands (along steps p) d) → (d : Conj) × (after_step s c ≡ Some d) × Stands (along steps p) d
    by None b f on = absurd cc
    by (Some d) b f on = (d, b, on d f)

split-stands : (g : Affine) (p q : Nodes) (c : Conj) (k : ℕ) (left right : Conj → Fault) → split_fault (both_sides g c) k left right ≡ None → ((a : Conj) → left a ≡ None → Stands p a) → ((b : Conj) → right b ≡ None → Stands q b) → Stands (split g p q) c
split-stands g p q c k left right e l r = by (both_sides g c) refl e
  where
    by : (o : Option (Conj × Conj)) → both_sides g c ≡ o → split_fault o k left right ≡ None → (a : Conj) × (b : Conj) × (both_sides g c ≡ Some (a, b)) × Stands p a × Stands q b
    by None is f = absurd cc
    by (Some s) is f = let b = first-none (left s.0) (right s.1) f in (s.0, s.1, is, l s.0 b.0, r s.1 b.1)

kids-counted : {w : _} (all : Row_of-Tree Absurd w) → kid_count (nodes_of_kids all) ≡ child_count all
kids-counted end_of-Tree = refl
kids-counted (more_of-Tree s t rest) = ap suc (kids-counted rest)

mutual
  next-stands : (x : Next Absurd) (c : Conj) (k : ℕ) → fault_of x absurd_refusals c k ≡ None → Stands (nodes_behind x) c
  next-stands (End e) c k f = no-refusal (absurd_refusal e.row c) k f
  next-stands (Split' g a s l b t r) c k f =
      split-stands g (along s (nodes_behind l)) (along t (nodes_behind r)) c k _ _ f
      (λ x e. along-stands s (nodes_behind l) (fault_of l absurd_refusals) x (later k 1) e (λ d j h. next-stands l d j h))
      (λ x e. along-stands t (nodes_behind r) (fault_of r absurd_refusals) x (later (later k 1) (length s + node_count l)) e (λ d j h. next-stands r d j h))
  next-stands (Residue' m g shape all) c k f =
      let both = if-none (is_partition m g c.columns (child_count all)) (row_fault all absurd_refusals m g 0 c (later k 1)) (k, rule.Residue) f in
      (ap (λ n. is_partition m g c.columns n) (kids-counted all) ∙ both.0, row-stands all m g 0 c (later k 1) both.1)

  row-stands : {w : _} (all : Row_of-Tree Absurd w) (m : ℤ) (g : Affine) (i : ℕ) (c : Conj) (k : ℕ) → row_fault all absurd_refusals m g i c k ≡ None → KidsStand (nodes_of_kids all) m g i c
  row-stands end_of-Tree m g i c k f = tt
  row-stands (more_of-Tree s t rest) m g i c k f =
      let both = first-none (path_fault s (fault_of t absurd_refusals) (class m g (pos i) c) k) (row_fault rest absurd_refusals m g (i + 1) c (later k (length s + node_count t))) f in
      (along-stands s (nodes_behind t) (fault_of t absurd_refusals) (class m g (pos i) c) k both.0 (λ d j h. next-stands t d j h), row-stands rest m g (i + 1) c (later k (length s + node_count t)) both.1)

pub tree-stands : (t : Tree Absurd) (c : Conj) → Accepts t absurd_refusals c → Stands (nodes_of t) c
tree-stands t c h = along-stands t.steps (nodes_behind t.next) (fault_of t.next absurd_refusals) c 0 (h 0) (λ d j e. next-stands t.next d j e)

-- ---- and back

stands-along : (steps : List Step) (p : Nodes) (go : Onward) (c : Conj) (k : ℕ) → Stands (along steps p) c → ((d : Conj) (j : ℕ) → Stands p d → go d j ≡ None) → path_fault steps go c k ≡ None
stands-along [] p go c k h on = on c k h
stands-along (s ∷ steps) p go c k h on = rw h.1 (stands-along steps p go h.0 (later k 1) h.2 on)

both-none : (a b : Fault) → a ≡ None → b ≡ None → first_fault_of a b ≡ None
both-none a b e f = rw (e, f) refl

mutual
  stands-next : (x : Next Absurd) (c : Conj) (k : ℕ) → Stands (nodes_behind x) c → fault_of x absurd_refusals c k ≡ None
  stands-next (End e) c k h = rw h refl
  stands-next (Split' g a s l b t r) c k h =
      rw h.2
      (both-none _ _
      (stands-along s (nodes_behind l) (fault_of l absurd_refusals) h.0 (later k 1) h.3 (λ d j e. stands-next l d j e))
      (stands-along t (nodes_behind r) (fault_of r absurd_refusals) h.1 (later (later k 1) (length s + node_count l)) h.4 (λ d j e. stands-next r d j e)))
  stands-next (Residue' m g shape all) c k h =
      let is : is_partition m g c.columns (child_count all) ≡ true = ap (λ n. is_partition m g c.columns n) (sym (kids-counted all)) ∙ h.0 in
      rw is (stands-row all m g 0 c (later k 1) h.1)

  stands-row : {w : _} (all : Row_of-Tree Absurd w) (m : ℤ) (g : Affine) (i : ℕ) (c : Conj) (k : ℕ) → KidsStand (nodes_of_kids all) m g i c → row_fault all absurd_refusals m g i c k ≡ None
  stands-row end_of-Tree m g i c k h = refl
  stands-row (more_of-Tree s t rest) m g i c k h =
      both-none _ _
      (stands-along s (nodes_behind t) (fault_of t absurd_refusals) (class m g (pos i) c) k h.0 (λ d j e. stands-next t d j e))
      (stands-row rest m g (i + 1) c (later k (length s + node_count t)) h.1)

pub stands-tree : (t : Tree Absurd) (c : Conj) → Stands (nodes_of t) c → Accepts t absurd_refusals c
stands-tree t c h k = stands-along t.steps (nodes_behind t.next) (fault_of t.next absurd_refusals) c k h (λ d j e. stands-next t.next d j e)

-- ---- how many nodes

size-along : (steps : List Step) (p : Nodes) → node_size (along steps p) ≡ length steps + node_size p
size-along [] p = omega arith
size-along (s ∷ steps) p = let e = size-along steps p in omega (arith, e)

mutual
  size-next : (x : Next Absurd) → node_size (nodes_behind x) ≡ node_count x
  size-next (End e) = refl
  size-next (Split' g a s l b t r) =
      let x = size-along s (nodes_behind l) in
      let y = size-along t (nodes_behind r) in
      let u = size-next l in
      let v = size-next r in
      omega (arith, x, y, u, v)
  size-next (Residue' m g shape all) = let e = size-row all in omega (arith, e)

  size-row : {w : _} (all : Row_of-Tree Absurd w) → node_size (nodes_of_kids all) ≡ row_node_count all
  size-row end_of-Tree = refl
  size-row (more_of-Tree s t rest) =
      let x = size-along s (nodes_behind t) in
      let u = size-next t in
      let v = size-row rest in
      omega (arith, x, u, v)

pub size-tree : (t : Tree Absurd) → node_size (nodes_of t) ≡ size_of t
size-tree t =
    let x = size-along t.steps (nodes_behind t.next) in
    let u = size-next t.next in
    omega (arith, x, u)
