-- What a draft has of a tree, and what a tree has of a draft.
use Rattle.std.specs.Prelude.{◌≡◌, ◌<◌, ◌≤◌, ℕ, zero, suc, ◌+◌, ◌-◌, ◌++◌, ℤ, Bool, true, false, List, [], ◌∷◌, length, get_or, map, slice_get}
use Rattle.ac_forms.specs.Affine.{Affine}
use Rattle.ac_forms.specs.declared.conj.Conj.{Conj}
use Rattle.ac_cert.specs.declared.types.Step.{Step}
use Rattle.ac_cert.specs.declared.types.Step.TheVariants.{Add, Cut, DivScale, DivAdd, DivMod, DivEq, Quot, Floor, EqCut}
use Rattle.ac_cert_short.specs.declared.draft.Mark.{Mark}
use Rattle.ac_cert_short.specs.CertificateNodes.{Nodes, along, uses, IsNeeded}
use Rattle.ac_cert_short.specs.Drafts.{Stands, KidsStand, back_along, kid_count, marked, node_size}

-- the count of a place
abbrev pub at : List ℕ → ℕ → ℕ
at counts i = get_or counts i 0

-- the counts with further uses; the new ones are as many as the path has rows
abbrev pub AreCounted : List ℕ → List ℕ → (ℕ → ℕ) → Type 0
AreCounted old new further = (i : ℕ) → i < length new → at new i ≡ at old i + further i

-- the nodes of a draft stand where those of the tree do, and no step of it is idle
pub record IsDraft (k : ℕ) (tree draft : Nodes) : Type 0 where
  pub stands : (c : Conj) → Stands tree c → Stands draft c
  pub needed : IsNeeded k draft
  pub size : node_size draft ≤ node_size tree

-- the draft, and its uses counted
pub record Drafted (old new : List ℕ) (tree draft : Nodes) : Type 0 where
  pub counted : AreCounted old new (λ i. uses i draft)
  pub kept : IsDraft (length new) tree draft

-- the uses are taken from the counts again
abbrev pub AreForgotten : List ℕ → List ℕ → (ℕ → ℕ) → Type 0
AreForgotten old new further = (i : ℕ) → i < length new → at new i ≡ at old i - further i

-- the draft of a branch's child, and whether it uses its row
pub record ChildDrafted (old new : List ℕ) (tree draft : Nodes) (busy : Bool) : Type 0 where
  pub long : length new ≡ length old
  pub counted : AreCounted old new (λ i. uses i draft)
  pub kept : IsDraft (length old + 1) tree draft
  pub idle : busy ≡ false → uses (length old) draft ≡ 0
  pub used : busy ≡ true → 0 < uses (length old) draft

-- the drafts of children, each of which uses its row
pub record KidsDrafted (old new : List ℕ) (trees drafts : Nodes) : Type 0 where
  pub long : length new ≡ length old
  pub counted : AreCounted old new (λ i. uses i drafts)
  pub stands : (m : ℤ) (f : Affine) (i : ℕ) (c : Conj) → KidsStand trees m f i c → KidsStand drafts m f i c
  pub count : kid_count drafts ≡ kid_count trees
  pub needed : IsNeeded (length old) drafts
  pub size : node_size drafts ≤ node_size trees

-- the new place of a row, which is as before where there is none
abbrev pub place : List ℕ → ℕ → ℕ
place places i = get_or places i i

abbrev pub moved_terms : List ℕ → List (ℕ × ℤ) → List (ℕ × ℤ)
moved_terms places ts = map (λ t. (place places t.0, t.1)) ts

-- the step, with the rows at their new places
abbrev pub moved : List ℕ → Step → Step
moved ps (Add ts) = Add (moved_terms ps ts)
moved ps (Cut i g) = Cut (place ps i) g
moved ps (DivScale i k) = DivScale (place ps i) k
moved ps (DivAdd i k j l) = DivAdd (place ps i) k (place ps j) l
moved ps (DivMod i g n f) = DivMod (place ps i) g n f
moved ps (DivEq i n) = DivEq (place ps i) n
moved ps (Quot i) = Quot (place ps i)
moved ps (Floor m f) = Floor m f
moved ps (EqCut i j) = EqCut (place ps i) (place ps j)

-- the rows of a path that are used have their places in a shorter one, over the same columns
pub record AgreeOn (ps : List ℕ) (used : ℕ → ℕ) (c d : Conj) : Type 0 where
  pub columns : d.columns ≡ c.columns
  pub long : length c.rows ≡ length ps
  pub short : length d.rows ≤ length ps
  pub rows : (i : ℕ) → 0 < used i → slice_get d.rows (place ps i) ≡ slice_get c.rows i

-- the second nodes are the first ones without gaps, on a path of n rows
pub record IsPlaced (ps : List ℕ) (n : ℕ) (draft tree : Nodes) : Type 0 where
  pub stands : IsNeeded (length ps) draft → (c d : Conj) → AgreeOn ps (λ i. uses i draft) c d → length d.rows ≡ n → Stands draft c → Stands tree d
  pub needed : IsNeeded (length ps) draft → IsNeeded n tree
  pub used : (i : ℕ) → i < length ps → 0 < uses i draft → 0 < uses (place ps i) tree
  pub size : node_size tree ≡ node_size draft

-- the same of the children of a residue branch
pub record KidsPlaced (ps : List ℕ) (n : ℕ) (drafts trees : Nodes) : Type 0 where
  pub stands : IsNeeded (length ps) drafts → (m : ℤ) (f : Affine) (i : ℕ) (c d : Conj) → AgreeOn ps (λ i. uses i drafts) c d → length d.rows ≡ n → KidsStand drafts m f i c → KidsStand trees m f i d
  pub count : kid_count trees ≡ kid_count drafts
  pub needed : IsNeeded (length ps) drafts → IsNeeded n trees
  pub used : (i : ℕ) → i < length ps → 0 < uses i drafts → 0 < uses (place ps i) trees
  pub size : node_size trees ≡ node_size drafts

-- numbers one after the other
abbrev pub further : ℕ → ℕ → List ℕ
further n zero = []
further n (suc k) = n ∷ further (n + 1) k

-- a mark's step and the places of its rows are added
pub record MarkPlaced (ps : List ℕ) (n : ℕ) (before : List Step) (mark : Mark) (qs : List ℕ) (k : ℕ) (after : List Step) : Type 0 where
  pub more : List ℕ
  pub longer : qs ≡ ps ++ more
  pub within : k ≤ length qs
  pub added : List Step
  pub is : after ≡ before ++ added
  pub placed : (K T : Nodes) → IsPlaced qs k K T → IsPlaced ps n (marked mark K) (along added T)

-- the marks but those that are left are placed
pub record MarksPlaced (marks left : List Mark) (ps : List ℕ) (n : ℕ) (qs : List ℕ) (k : ℕ) (steps : List Step) : Type 0 where
  pub more : List ℕ
  pub longer : qs ≡ ps ++ more
  pub within : k ≤ length qs
  pub placed : (K T : Nodes) → IsPlaced qs k (back_along left K) T → IsPlaced ps n (back_along marks K) (along steps T)
