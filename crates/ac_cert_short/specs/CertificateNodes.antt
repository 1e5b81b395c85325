-- A certificate as data: its steps, branches and ends, each before what comes behind it; and which rows are used behind a node.
use Rattle.std.specs.Prelude.{◌≡◌, ◌⊎◌, ◌<◌, ℕ, ◌+◌, ℤ, Bool, true, false, List, [], ◌∷◌, cond, nat_eq}
use Rattle.ac_forms.specs.Affine.{Affine}
use Rattle.ac_cert.specs.declared.ends.Absurd.{Absurd}
use Rattle.ac_cert.specs.declared.types.Step.{Step}
use Rattle.ac_cert.specs.declared.types.Step.TheVariants.{Add, Cut, DivScale, DivAdd, DivMod, DivEq, Quot, Floor, EqCut}
use Rattle.ac_cert.specs.declared.types.Next.{Next, End, Split', Residue', Row_of-Tree, end_of-Tree, more_of-Tree}
use Rattle.ac_cert.specs.declared.types.Tree.{Tree}

-- a node and what comes behind it; a gap has a place on the path, as a step that adds one row, and nothing stands there.
-- `none` and `child` are the children of a residue branch, one after the other
pub data Nodes : Type 0 where
  absurdity : ℕ → Nodes
  split : Affine → Nodes → Nodes → Nodes
  residue : ℤ → Affine → Nodes → Nodes
  none : Nodes
  child : Nodes → Nodes → Nodes
  step : Step → Nodes → Nodes
  gap : Nodes → Nodes

-- steps, and what comes behind them
abbrev pub along : List Step → Nodes → Nodes
along [] p = p
along (s ∷ steps) p = step s (along steps p)

abbrev mutual
  pub nodes_behind : Next Absurd → Nodes
  nodes_behind (End e) = absurdity e.row
  nodes_behind (Split' f _ s l _ t r) = split f (along s (nodes_behind l)) (along t (nodes_behind r))
  nodes_behind (Residue' m f shape all) = residue m f (nodes_of_kids all)

  pub nodes_of_kids : {w : _} → Row_of-Tree Absurd w → Nodes
  nodes_of_kids end_of-Tree = none
  nodes_of_kids (more_of-Tree s t rest) = child (along s (nodes_behind t)) (nodes_of_kids rest)

abbrev pub nodes_of : Tree Absurd → Nodes
nodes_of t = along t.steps (nodes_behind t.next)

-- the children of a residue branch, as a list
abbrev pub list_kids : List (Tree Absurd) → Nodes
list_kids [] = none
list_kids (t ∷ ts) = child (nodes_of t) (list_kids ts)

-- 1 for the same place
abbrev pub once : ℕ → ℕ → ℕ
once i j = cond (nat_eq i j) 1 0

abbrev pub term_uses : ℕ → List (ℕ × ℤ) → ℕ
term_uses i [] = 0
term_uses i (t ∷ ts) = once i t.0 + term_uses i ts

-- how often a step uses the row at place i
abbrev pub step_uses : ℕ → Step → ℕ
step_uses i (Add ts) = term_uses i ts
step_uses i (Cut j g) = once i j
step_uses i (DivScale j k) = once i j
step_uses i (DivAdd j k h l) = once i j + once i h
step_uses i (DivMod j g n f) = once i j
step_uses i (DivEq j n) = once i j
step_uses i (Quot j) = once i j
step_uses i (Floor m f) = 0
step_uses i (EqCut j h) = once i j + once i h

-- how often the nodes use the row at place i
abbrev pub uses : ℕ → Nodes → ℕ
uses i (absurdity j) = once i j
uses i (split f p q) = uses i p + uses i q
uses i (residue m f ks) = uses i ks
uses i none = 0
uses i (child p ks) = uses i p + uses i ks
uses i (step s p) = step_uses i s + uses i p
uses i (gap p) = uses i p

abbrev pub makes_column : Step → Bool
makes_column (Quot j) = true
makes_column (Floor m f) = true
makes_column _ = false

-- how many rows a step adds
abbrev pub rows_of : Step → ℕ
rows_of (Floor m f) = 2
rows_of _ = 1

abbrev pub rows_along : List Step → ℕ
rows_along [] = 0
rows_along (s ∷ steps) = rows_of s + rows_along steps

-- at a path with so many rows: the row of each step is used behind it, but for steps that make a column; the row of each
-- child of a branch is used in the child; and no gap is used
abbrev pub IsNeeded : ℕ → Nodes → Type 0
IsNeeded k (absurdity j) = Unit {0}
IsNeeded k (split f p q) = (0 < uses k p) × (0 < uses k q) × IsNeeded (k + 1) p × IsNeeded (k + 1) q
IsNeeded k (residue m f ks) = IsNeeded k ks
IsNeeded k none = Unit {0}
IsNeeded k (child p ks) = (0 < uses k p) × IsNeeded (k + 1) p × IsNeeded k ks
IsNeeded k (step s p) = ((makes_column s ≡ true) ⊎ (0 < uses k p)) × IsNeeded (k + rows_of s) p
IsNeeded k (gap p) = (uses k p ≡ 0) × IsNeeded (k + 1) p
