-- Branches: where the trees of the choices for a column begin on the path.
use Rattle.std.specs.Prelude.{◌≡◌, ℕ, zero, suc, ◌+◌, ◌<◌, ◌≤◌, ℤ, pos, ◌≤ℤ◌, ◌<ℤ◌, ◌-ℤ◌, List, [], ◌∷◌, ◌++◌, take, drop, length, cond, nat_eq, true, slice_get, Some}
use Rattle.ac_forms.specs.Affine.{Affine, coef, column_form}
use Rattle.ac_forms.specs.Fits.{Fits}
use Rattle.ac_forms.specs.Rows.{AreRowsOver, form_of}
use Rattle.ac_forms.specs.declared.conj.Conj.{Conj}
use Rattle.ac_forms.specs.declared.row.Row.{Row}
use Rattle.ac_forms.specs.declared.row.Row.TheVariants.{Eq, Ge}
use Rattle.ac_omega_steps.specs.declared.choose.Choice.{Choice}
use Rattle.ac_omega_steps.specs.declared.choose.Choice.TheVariants as choice
use Rattle.ac_cert.specs.declared.ends.Absurd.{Absurd}
use Rattle.ac_cert.specs.declared.types.Tree.{Tree}
use Rattle.ac_cert.specs.AcceptedTrees.{Accepts, absurd_refusals}
use Rattle.ac_omega_steps.specs.Bounds.{is_low, only_bounds}
use Rattle.ac_omega_steps.specs.ChoiceFits.{after_choice}
use Rattle.ac_omega_steps.specs.Choices.{is_equality_of, is_lower_row, left_by}
use Rattle.ac_cert.specs.AbsurdEnd.{is_absurd}
use Rattle.ac_cert.specs.Rules.{class}
use Rattle.ac_omega_certify.specs.Descents.{StandOn, AreRowsUpTo2To122, Carries}
use Rattle.ac_omega_certify.specs.Leaves.{less}
use Rattle.ac_omega_certify.specs.Refutations.{conj_of, Refutes, IsWithin2To120}
use Rattle.ac_omega_certify.specs.ShadowRows.{StandFor}
use Rattle.ac_forms.specs.Renaming.{with_form}
use Rattle.ac_omega_certify.specs.TreePathRows.{Renames}
use Rattle.ac_omega_certify.specs.SplinterCounts.{Suffice}
use Rattle.ac_omega_certify.specs.declared.branch.Branch.{Branch}
use Rattle.ac_omega_certify.specs.declared.descent.Base.{Base}
use Rattle.ac_omega_certify.specs.declared.descent.Below.{Below}
use Rattle.ac_omega_certify.specs.declared.descent.Below.TheVariants as below
use Rattle.ac_omega_certify.specs.declared.refutation.Refutation.{Refutation}
use Rattle.ac_omega_certify.specs.declared.stage.Stage as code

-- how many of the choices are splinters of row i
abbrev pub count_of : ℕ → List Choice → ℕ
count_of i [] = 0
count_of i (choice.Splinter z j k ∷ hs) = cond (nat_eq j i) (count_of i hs + 1) (count_of i hs)
count_of i (choice.Drop z ∷ hs) = count_of i hs
count_of i (choice.Equal z j ∷ hs) = count_of i hs
count_of i (choice.Residue z m r ∷ hs) = count_of i hs
count_of i (choice.Shadow z ∷ hs) = count_of i hs

-- of each of so many rows from row i on
abbrev pub counts_from : ℕ → ℕ → List Choice → List ℕ
counts_from i zero hs = []
counts_from i (suc n) hs = count_of i hs ∷ counts_from (suc i) n hs

-- how many numbers are not 0
abbrev pub lift_count : List ℕ → ℕ
lift_count [] = 0
lift_count (zero ∷ ns) = lift_count ns
lift_count (suc n ∷ ns) = suc (lift_count ns)

-- the rows whose number is not 0, each less its number
abbrev pub lifts : List Row → List ℕ → List Row
lifts [] ns = []
lifts (r ∷ rs) [] = []
lifts (r ∷ rs) (zero ∷ ns) = lifts rs ns
lifts (r ∷ rs) (suc n ∷ ns) = Ge (less (form_of r) (suc n)) ∷ lifts rs ns

-- where a row raised by a number stands: at its own place where that is 0, else at the next one
abbrev pub raised_place : ℕ → ℕ → ℕ → ℕ
raised_place zero p next = p
raised_place (suc n) p next = next

abbrev pub place_after : ℕ → ℕ → ℕ
place_after zero next = next
place_after (suc n) next = next + 1

-- the places of the lower rows of the column, each raised by its number
abbrev pub raised_places : ℕ → List Row → List ℕ → List ℕ → ℕ → List ℕ
raised_places z (r ∷ rs) (n ∷ ns) (p ∷ ps) next = cond (is_lower_row z (Some r)) (raised_place n p next ∷ raised_places z rs ns ps (place_after n next)) (raised_places z rs ns ps (place_after n next))
raised_places z _ _ _ next = []

-- the second row is the first one on the path
pub record IsAlong (ns : List ℕ) (r s : Row) : Type 0 where
  pub form : Affine
  pub is : s ≡ with_form r form
  pub renames : Renames ns (form_of r) form

-- in turn
abbrev pub AreAlong : List ℕ → List Row → List Row → Type 0
AreAlong ns [] [] = Unit {0}
AreAlong ns (r ∷ rs) (s ∷ ss) = IsAlong ns r s × AreAlong ns rs ss
AreAlong ns _ _ = ⊥

-- the path with further rows
abbrev pub with_rows : Conj → List Row → Conj
with_rows c more = record { columns = c.columns; rows = c.rows ++ more }

-- rows that stand on paths, how many splinters each of them has, and how many rows there are before the last one of a splinter's path
pub record Stage : Type 0 where
  pub base : Base
  pub names : List ℕ
  pub places : List ℕ
  pub rows : List Row
  pub counts : List ℕ
  pub depth : ℕ

abbrev pub stage : Base → List ℕ → List ℕ → List Row → List ℕ → ℕ → Stage
stage b ns ps rs counts depth = record { base = b; names = ns; places = ps; rows = rs; counts = counts; depth = depth }

-- as the code has it
abbrev pub seen : code.Stage → Stage
seen s = stage s.base s.names.now s.places.now s.rows.now s.counts.now s.depth

-- the conjunction of the rows
abbrev pub conj_on : Stage → Conj
conj_on s = record { columns = length s.names; rows = s.rows }

-- the rows stand on the path
abbrev pub IsOn : Stage → Conj → Type 0
IsOn s c = StandOn s.base s.names s.rows s.places c

-- behind the path, m divides column z less r
pub record IsClass (ns : List ℕ) (z : ℕ) (m r : ℤ) (c d : Conj) : Type 0 where
  pub form : Affine
  pub renames : Renames ns (column_form (length ns) z) form
  pub is : d ≡ class m form r c

-- behind the path, each of the first rows that has splinters stands beyond the last of them
pub record IsRaised (ns : List ℕ) (rs : List Row) (counts : List ℕ) (c d : Conj) : Type 0 where
  pub more : List Row
  pub along : AreAlong ns (lifts rs counts) more
  pub is : d ≡ with_rows c more

-- the row at a place, less k, is 0
abbrev pub worth : ℤ → Affine → Affine
worth k f = record { konst = f.konst -ℤ k; coefs = f.coefs }

-- behind the path, so are the rows before row i raised, and at the end row i is worth k
pub record IsSplintered (s : Stage) (i : ℕ) (k : ℤ) (c d : Conj) : Type 0 where
  pub raised : List Row
  pub between : List Row
  pub form : Affine
  pub along : AreAlong s.names (lifts (take i s.rows) s.counts) raised
  pub long : length between ≡ s.depth + 1
  pub renames : (f : Affine) → slice_get s.rows i ≡ Some (Ge f) → Renames s.names (worth k f) form
  pub is : d ≡ with_rows c (raised ++ (between ++ Eq form ∷ []))

-- the second path is one on which the tree of the choice begins behind the first one
abbrev pub Begins : Stage → Choice → Conj → Conj → Type 0
Begins s (choice.Drop z) c d = d ≡ c
Begins s (choice.Equal z i) c d = d ≡ c
Begins s (choice.Residue z m r) c d = IsClass s.names z m r c d
Begins s (choice.Shadow z) c d = IsRaised s.names s.rows s.counts c d
Begins s (choice.Splinter z i k) c d = IsSplintered s i k c d

-- the rows that a choice leaves stand where its tree begins, or others in their place
pub record IsBranch (s : Stage) (h : Choice) (b : Branch) : Type 0 where
  pub names : length b.names.items ≡ length s.names
  pub long : length b.standing.places.items ≡ length b.standing.rows.items
  pub rows : StandFor (length s.names) b.standing.rows.items (left_by h s.rows)
  pub up_to_2_to_122 : AreRowsUpTo2To122 b.standing.rows.items
  pub carries : (c d : Conj) → IsOn s c → Begins s h c d → Carries b.tree_path d b.names.items b.standing.rows.items b.standing.places.items

-- the tree is accepted wherever the choice's tree begins
abbrev pub IsRefutedBy : Stage → Choice → Tree Absurd → Type 0
IsRefutedBy s h t = (c d : Conj) → IsOn s c → Begins s h c d → Accepts t absurd_refusals d

-- in turn, for the first choices
abbrev pub AreRefutedBy : Stage → List Choice → List (Tree Absurd) → Type 0
AreRefutedBy s hs [] = Unit {0}
AreRefutedBy s [] (t ∷ ts) = ⊥
AreRefutedBy s (h ∷ hs) (t ∷ ts) = IsRefutedBy s h t × AreRefutedBy s hs ts

-- the row is a lower one of the column, and k a number that may be one of its splinters
pub record IsSplinterOf (z i : ℕ) (k : ℤ) (rs : List Row) : Type 0 where
  pub form : Affine
  pub at : slice_get rs i ≡ Some (Ge form)
  pub low : is_low z form ≡ true
  pub from : pos 0 ≤ℤ k
  pub to : k ≤ℤ coef z form

-- the rows allow the choice
abbrev pub Allows : ℕ → List Row → List ℕ → Choice → Type 0
Allows n rs counts (choice.Drop z) = Unit {0}
Allows n rs counts (choice.Equal z i) = is_equality_of z (slice_get rs i) ≡ true
Allows n rs counts (choice.Residue z m r) = (z < n) × (pos 1 ≤ℤ m) × (pos 0 ≤ℤ r) × (r <ℤ m)
Allows n rs counts (choice.Shadow z) = (only_bounds z rs ≡ true) × Suffice z rs rs counts
Allows n rs counts (choice.Splinter z i k) = IsSplinterOf z i k rs

-- and what it leaves is well made over the columns
pub record IsTry (n : ℕ) (rs : List Row) (counts : List ℕ) (h : Choice) : Type 0 where
  pub made : AreRowsOver n (left_by h rs)
  pub allowed : Allows n rs counts h

abbrev pub AreAlternatives : ℕ → List Row → List ℕ → List Choice → Type 0
AreAlternatives n rs counts [] = Unit {0}
AreAlternatives n rs counts (h ∷ hs) = IsTry n rs counts h × AreAlternatives n rs counts hs

-- so many residues from r on
abbrev pub residue_choices : ℕ → ℕ → ℤ → ℕ → List Choice
residue_choices zero z m r = []
residue_choices (suc n) z m r = choice.Residue z m (pos r) ∷ residue_choices n z m (suc r)

-- so many splinters of row i from k on
abbrev pub splinter_choices : ℕ → ℕ → ℕ → ℕ → List Choice
splinter_choices zero z i k = []
splinter_choices (suc n) z i k = choice.Splinter z i (pos k) ∷ splinter_choices n z i (suc k)

-- as many splinters of each row as the numbers say, from row i on
abbrev pub leaf_choices : ℕ → ℕ → List ℕ → List Choice
leaf_choices z i [] = []
leaf_choices z i (n ∷ ns) = splinter_choices n z i 0 ++ leaf_choices z (suc i) ns

-- the trees of the splinters of all rows from row i on, in order
pub record ServeLeaves (s : Stage) (i : ℕ) (ts : List (Tree Absurd)) : Type 0 where
  pub column : ℕ
  pub served : AreRefutedBy s (leaf_choices column i (drop i s.counts)) ts
  pub long : length ts ≡ length (leaf_choices column i (drop i s.counts))

-- the residues of a column
pub record AreResidues (n z : ℕ) (m : ℤ) (hs : List Choice) : Type 0 where
  pub size : ℕ
  pub within : z < n
  pub is : m ≡ pos size
  pub some : 1 ≤ size
  pub fits : Fits m
  pub all : hs ≡ residue_choices size z m 0

-- these are all choices for a column of so many
abbrev pub AreAll : ℕ → List Row → List ℕ → List Choice → Type 0
AreAll n rs counts [] = ⊥
AreAll n rs counts (choice.Drop z ∷ hs) = hs ≡ []
AreAll n rs counts (choice.Equal z i ∷ hs) = hs ≡ []
AreAll n rs counts (choice.Residue z m r ∷ hs) = AreResidues n z m (choice.Residue z m r ∷ hs)
AreAll n rs counts (choice.Shadow z ∷ hs) = (hs ≡ leaf_choices z 0 counts) × Suffice z rs rs counts
AreAll n rs counts (choice.Splinter z i k ∷ hs) = ⊥

-- each choice leaves the conjunction of its refutation
abbrev pub RefuteAll : Conj → List Choice → List Refutation → Type 0
RefuteAll c [] [] = Unit {0}
RefuteAll c (h ∷ hs) (r ∷ rs) = (after_choice h c ≡ Some (conj_of r)) × Refutes r × RefuteAll c hs rs
RefuteAll c _ _ = ⊥

abbrev pub EachIsWithin2To120 : List Refutation → Type 0
EachIsWithin2To120 [] = Unit {0}
EachIsWithin2To120 (r ∷ rs) = IsWithin2To120 r × EachIsWithin2To120 rs

-- there are as many places as rows
abbrev pub HasPlaces : Below → List Row → Type 0
HasPlaces (below.Absurd i) rs = Unit {0}
HasPlaces (below.Rows places) rs = length places.items ≡ length rs

-- the rows stand on the path, or an absurd row does
abbrev pub IsSettled : Base → List ℕ → Below → List Row → Conj → Type 0
IsSettled b ns (below.Absurd i) rs path = is_absurd (slice_get path.rows i) ≡ true
IsSettled b ns (below.Rows places) rs path = StandOn b ns rs places.items path

-- so many numbers from i on
abbrev pub numbers_from : ℕ → ℕ → List ℕ
numbers_from i zero = []
numbers_from i (suc n) = i ∷ numbers_from (suc i) n

-- the rows of the question stand where its tree begins
pub record IsFirst (question : Conj) (b : Branch) : Type 0 where
  pub names : length b.names.items ≡ question.columns
  pub long : length b.standing.places.items ≡ length b.standing.rows.items
  pub rows : b.standing.rows.items ≡ question.rows
  pub up_to_2_to_122 : AreRowsUpTo2To122 b.standing.rows.items
  pub carries : Carries b.tree_path question b.names.items b.standing.rows.items b.standing.places.items
