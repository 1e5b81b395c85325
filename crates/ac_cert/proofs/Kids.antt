-- What the check of a tree says at each kind of node, with the children as the code has them.
use Rattle.std.proofs.Common.{◌≡◌, ℕ, suc, ◌+◌, ℤ, pos, List, length, Some, cond, refl, ap, ◌∙◌}
use Rattle.std.specs.Prelude.{Box, Vec}
use Rattle.std.specs.declared.alloc.Global.{Global}
use Rattle.ac_forms.specs.Affine.{Affine}
use Rattle.ac_forms.specs.declared.conj.Conj.{Conj}
use Rattle.ac_cert.specs.declared.types.Rule.TheVariants as rule
use Rattle.ac_cert.specs.declared.types.Next.{Next, Split, Residue, Row_of-Tree, end_of-Tree, more_of-Tree, items-the_row-Tree, items_hidden-the_row-Tree-0}
use Rattle.ac_cert.specs.declared.types.Next.TheBlock.{hidden-the_row-Tree-0}
use Rattle.ac_cert.specs.declared.types.Tree.{Tree}
use Rattle.ac_cert.specs.Rules.{class, both_sides, is_partition}
use Rattle.ac_cert.specs.CertificateFaults.{Fault, Refusal, later, first_fault_of, split_fault, path_fault, child_count, node_count, row_node_count, fault_of, row_fault, tree_fault, kids_fault, kids_size, size_of}

pub fault-kids : {E : Type 0} {w : _} (all : Row_of-Tree E w) (refusal : Refusal E) (m : ℤ) (f : Affine) (i : ℕ) (c : Conj) (k : ℕ) → row_fault all refusal m f i c k ≡ kids_fault (items-the_row-Tree E w all) refusal m f i c k
fault-kids end_of-Tree refusal m f i c k = refl
fault-kids (more_of-Tree s t rest) refusal m f i c k = ap (λ (x : Fault). first_fault_of (path_fault s (fault_of t refusal) (class m f (pos i) c) k) x) (fault-kids rest refusal m f (i + 1) c (later k (length s + node_count t)))

pub fault-at-split : {E : Type 0} (x : Next E) (refusal : Refusal E) (c : Conj) (k : ℕ) (e : Affine) (left right : Box (Tree E) Global) → x ≡ Split e left right → fault_of x refusal c k ≡ split_fault (both_sides e c) k (λ a. tree_fault left.value refusal a (later k 1)) (λ b. tree_fault right.value refusal b (later (later k 1) (size_of left.value)))
fault-at-split x refusal c k e left right is = ap (λ y. fault_of y refusal c k) is

pub child-count : {E : Type 0} {w : _} (all : Row_of-Tree E w) → child_count all ≡ length (items-the_row-Tree E w all)
child-count end_of-Tree = refl
child-count (more_of-Tree s t rest) = ap (λ (x : ℕ). suc x) (child-count rest)

pub node-kids : {E : Type 0} {w : _} (all : Row_of-Tree E w) → row_node_count all ≡ kids_size (items-the_row-Tree E w all)
node-kids end_of-Tree = refl
node-kids (more_of-Tree s t rest) = ap (λ (x : ℕ). (length s + node_count t) + x) (node-kids rest)

branch-at-row : {E : Type 0} {w : _} (all : Row_of-Tree E w) (ts : List (Tree E)) (refusal : Refusal E) (c : Conj) (k : ℕ) (m : ℤ) (e : Affine) → items-the_row-Tree E w all ≡ ts → cond (is_partition m e c.columns (child_count all)) (row_fault all refusal m e 0 c (later k 1)) (Some (k, rule.Residue)) ≡ cond (is_partition m e c.columns (length ts)) (kids_fault ts refusal m e 0 c (later k 1)) (Some (k, rule.Residue))
branch-at-row all ts refusal c k m e is =
    let a = child-count all ∙ ap length is in
    let b = fault-kids all refusal m e 0 c (later k 1) ∙ ap (λ x. kids_fault x refusal m e 0 c (later k 1)) is in
    rw (a, b) refl

pub fault-at-residue : {E : Type 0} (x : Next E) (refusal : Refusal E) (c : Conj) (k : ℕ) (m : ℤ) (e : Affine) (kids : Vec (Tree E) Global) → x ≡ Residue m e kids → fault_of x refusal c k ≡ cond (is_partition m e c.columns (length kids.items)) (kids_fault kids.items refusal m e 0 c (later k 1)) (Some (k, rule.Residue))
fault-at-residue {E = E} x refusal c k m e kids is =
    ap (λ y. fault_of y refusal c k) is ∙ branch-at-row (hidden-the_row-Tree-0 E kids) kids.items refusal c k m e (items_hidden-the_row-Tree-0 E kids)

pub count-at-residue : {E : Type 0} (x : Next E) (m : ℤ) (e : Affine) (kids : Vec (Tree E) Global) → x ≡ Residue m e kids → node_count x ≡ 1 + kids_size kids.items
count-at-residue {E = E} x m e kids is = ap node_count is ∙ ap (λ (x : ℕ). 1 + x) (node-kids (hidden-the_row-Tree-0 E kids) ∙ ap kids_size (items_hidden-the_row-Tree-0 E kids))

pub count-at-split : {E : Type 0} (x : Next E) (e : Affine) (left right : Box (Tree E) Global) → x ≡ Split e left right → node_count x ≡ 1 + size_of left.value + size_of right.value
count-at-split x e left right is = ap node_count is
