-- The first node of a tree that fails. Nodes are steps, branches and ends, numbered in preorder from 0.
use Rattle.std.specs.Prelude.{ℕ, suc, ◌+◌, ◌-◌, ◌^◌, min, ℤ, pos, List, [], ◌∷◌, length, Option, Some, None, option_map, cond}
use Rattle.ac_forms.specs.Affine.{Affine}
use Rattle.ac_forms.specs.declared.conj.Conj.{Conj}
use Rattle.ac_cert.specs.declared.types.Rule.{Rule}
use Rattle.ac_cert.specs.declared.types.Rule.TheVariants as rule
use Rattle.ac_cert.specs.declared.types.Step.{Step}
use Rattle.ac_cert.specs.declared.types.Next.{Next, End, Split', Residue', Row_of-Tree, end_of-Tree, more_of-Tree}
use Rattle.ac_cert.specs.declared.types.Tree.{Tree}
use Rattle.ac_cert.specs.Rules.{after_step, rule_of, both_sides, class, is_partition}

-- a node's number and its rule
abbrev pub Fault : Type 0
Fault = Option (ℕ × Rule)

-- what goes on from a conjunction and a number
abbrev pub Onward : Type 0
Onward = Conj → ℕ → Fault

-- what an end of a conjunction refuses
abbrev pub Refusal : Type 0 → Type 0
Refusal E = E → Conj → Option Rule

-- the number that is j nodes later; it stands still at the last number of `u64`
abbrev pub later : ℕ → ℕ → ℕ
later k j = min (k + j) (2 ^ 64 - 1)

abbrev pub first_fault_of : Fault → Fault → Fault
first_fault_of None b = b
first_fault_of (Some a) b = Some a

-- the fault of one step, or what goes on behind it
abbrev pub step_fault : Option Conj → Rule → ℕ → (Conj → Fault) → Fault
step_fault None r k go = Some (k, r)
step_fault (Some d) r k go = go d

-- the first fault of a path of steps and of what comes behind it
abbrev pub path_fault : List Step → Onward → Onward
path_fault [] go c k = go c k
path_fault (s ∷ steps) go c k = step_fault (after_step s c) (rule_of s) k (λ d. path_fault steps go d (later k 1))

abbrev pub split_fault : Option (Conj × Conj) → ℕ → (Conj → Fault) → (Conj → Fault) → Fault
split_fault None k left right = Some (k, rule.Split)
split_fault (Some s) k left right = first_fault_of (left s.0) (right s.1)

abbrev mutual
  -- the nodes behind a path
  pub node_count : {E : Type 0} → Next E → ℕ
  node_count (End e) = 1
  node_count (Split' f p s l q t r) = 1 + (length s + node_count l) + (length t + node_count r)
  node_count (Residue' m f shape all) = 1 + row_node_count all

  pub row_node_count : {E : Type 0} {m : _} → Row_of-Tree E m → ℕ
  row_node_count end_of-Tree = 0
  row_node_count (more_of-Tree s t rest) = (length s + node_count t) + row_node_count rest

abbrev pub child_count : {E : Type 0} {m : _} → Row_of-Tree E m → ℕ
child_count end_of-Tree = 0
child_count (more_of-Tree s t rest) = suc (child_count rest)

abbrev mutual
  -- the first fault behind a path, where `refusal` says what an end refuses
  pub fault_of : {E : Type 0} → Next E → Refusal E → Onward
  fault_of (End e) refusal c k = option_map (λ r. (k, r)) (refusal e c)
  fault_of (Split' f p s l q t r) refusal c k =
      split_fault (both_sides f c) k (λ a. path_fault s (fault_of l refusal) a (later k 1)) (λ b. path_fault t (fault_of r refusal) b (later (later k 1) (length s + node_count l)))
  fault_of (Residue' m f shape all) refusal c k =
      cond (is_partition m f c.columns (child_count all)) (row_fault all refusal m f 0 c (later k 1)) (Some (k, rule.Residue))

  -- the first fault of the children from child i on
  pub row_fault : {E : Type 0} {w : _} → Row_of-Tree E w → Refusal E → ℤ → Affine → ℕ → Onward
  row_fault end_of-Tree refusal m f i c k = None
  row_fault (more_of-Tree s t rest) refusal m f i c k =
      first_fault_of (path_fault s (fault_of t refusal) (class m f (pos i) c) k) (row_fault rest refusal m f (i + 1) c (later k (length s + node_count t)))

-- the first fault of a tree
abbrev pub tree_fault : {E : Type 0} → Tree E → Refusal E → Onward
tree_fault t refusal = path_fault t.steps (fault_of t.next refusal)

-- the nodes of a tree
abbrev pub size_of : {E : Type 0} → Tree E → ℕ
size_of t = length t.steps + node_count t.next

-- the first fault of the children from child i on, as a list
abbrev pub kids_fault : {E : Type 0} → List (Tree E) → Refusal E → ℤ → Affine → ℕ → Onward
kids_fault [] refusal m f i c k = None
kids_fault (t ∷ ts) refusal m f i c k =
    first_fault_of (tree_fault t refusal (class m f (pos i) c) k) (kids_fault ts refusal m f (i + 1) c (later k (size_of t)))

abbrev pub kids_size : {E : Type 0} → List (Tree E) → ℕ
kids_size [] = 0
kids_size (t ∷ ts) = size_of t + kids_size ts
