-- What a plan shows on a path, by a rule for each of its lines. The path has rows and a pair of positions. A plan that meets the rules shows
-- that the pair has equal values at each point of the rows, if the claims are taken as given.
use Rattle.std.specs.Prelude.{ℕ, ◌+◌, ◌≡◌, ◌++◌, ℤ, pos, List, [], ◌∷◌, Option, Some, true, slice_get}
use Rattle.ac_forms.specs.Affine.{Affine}
use Rattle.ac_forms.specs.Negation.{below}
use Rattle.ac_forms.specs.Renaming.{rows_renaming}
use Rattle.ac_forms.specs.Rows.{form_of}
use Rattle.ac_forms.specs.declared.conj.Conj.{Conj}
use Rattle.ac_forms.specs.declared.row.Row.{Row}
use Rattle.ac_forms.specs.declared.row.Row.TheVariants.{Ge}
use Rattle.ac_omega_steps.specs.declared.choose.Choice.{Choice}
use Rattle.ac_cert.specs.AbsurdEnd.{is_false}
use Rattle.ac_cert.specs.Rules.{all_zero, class, with_row}
use Rattle.ac_cert.specs.declared.types.Step.{Step}
use Rattle.ac_poly.specs.Model.{is_input}
use Rattle.ac_claims_paths.specs.CopyKills.{case_width, chosen, copy_of, is_killed}
use Rattle.ac_claims_paths.specs.ModelPositions.{initial_cell, number_at}
use Rattle.ac_claims_paths.specs.PathColumns.{base, columns_of, equal_forms}
use Rattle.ac_claims_paths.specs.PathRows.{made_and_stand}
use Rattle.ac_claims_paths.specs.PathSteps.{Pairing, at_rows, branches}
use Rattle.ac_claims_paths.specs.declared.path.Assumed.{Assumed}
use Rattle.ac_claims_paths.specs.declared.path.Path.{Path}
use Rattle.ac_claims_paths.specs.declared.places.CellForms.{CellForms}
use Rattle.ac_claims.specs.PlanFaults.{count_of}
use Rattle.ac_claims.specs.declared.types.Claim.{Claim}
use Rattle.ac_claims.specs.declared.types.Kill.{Kill}
use Rattle.ac_claims.specs.declared.types.Plan.{Plan}
use Rattle.ac_claims.specs.declared.types.PlanNext.{PlanNext, Split', Residue', Go', Row_of-Plan, end_of-Plan, more_of-Plan}
use Rattle.ac_claims.specs.declared.types.PlanNext.TheVariants.{Absurd, Killed, Hit, SameNumber, SameInitial}
use Rattle.ac_claims_valid.specs.StepRules.{Adds, CanSplit, IsPartition}

-- ---- steps

-- each step adds what its rule says, and this holds of the rows then
abbrev pub AfterSteps : List Step → (Conj → Type 0) → Conj → Type 0
AfterSteps [] Then c = Then c
AfterSteps (s ∷ steps) Then c = (d : Conj) × Adds c s d × AfterSteps steps Then d

-- ---- ends

-- absurd: the row is there, has no coefficients and is false
pub record IsAbsurdRow (o : Option Row) : Type 0 where
  pub row : Row
  pub is : o ≡ Some row
  pub constant : all_zero (form_of row).coefs ≡ true
  pub wrong : is_false row ≡ true

-- hit: below a step of the pair, at the positions of the claim; and its rows, over their coordinates, stand
pub record IsHitOn (g : Pairing) (h : Path) (c : Claim) : Type 0 where
  pub below : h.gone ≡ true
  pub left : h.left.position ≡ c.left
  pub right : h.right.position ≡ c.right
  pub rows : made_and_stand h.conj.rows (rows_renaming (base g.params ++ (columns_of h.left ++ columns_of h.right)) c.rows) ≡ true

-- number: both positions are numbers, and the equality of their forms stands
pub record AreEqualNumbers (g : Pairing) (h : Path) : Type 0 where
  pub left : Affine
  pub right : Affine
  pub left_is : number_at g.left h.left.position ≡ Some left
  pub right_is : number_at g.right h.right.position ≡ Some right
  pub equal : made_and_stand h.conj.rows (equal_forms (base g.params ++ columns_of h.left) (left ∷ []) (base g.params ++ columns_of h.right) (right ∷ [])) ≡ true

-- initial: both are initial positions of one input array, and the equality of each subscript stands
pub record AreOneCell (g : Pairing) (h : Path) : Type 0 where
  pub left : CellForms
  pub right : CellForms
  pub left_is : initial_cell g.left h.left.position ≡ Some left
  pub right_is : initial_cell g.right h.right.position ≡ Some right
  pub array : left.array ≡ right.array
  pub input : is_input (slice_get g.left.kinds left.array) ≡ true
  pub equal : made_and_stand h.conj.rows (equal_forms (base g.params ++ columns_of h.left) left.subs (base g.params ++ columns_of h.right) right.subs) ≡ true

-- each choice is legal and names a column of the copy, and this holds of the rows then; the path has so many columns, and the case so many of its own
abbrev pub AfterChoices : ℕ → ℕ → List Choice → (Conj → Type 0) → Conj → Type 0
AfterChoices columns own [] Then c = Then c
AfterChoices columns own (x ∷ xs) Then c = (d : Conj) × (chosen columns own x c ≡ Some d) × AfterChoices columns own xs Then d

-- killed: the last step was that of a read or an output. The copy can be formed, and its choices leave none of its columns and only rows that stand
pub record IsKilledBy (g : Pairing) (h : Path) (kill : Kill) : Type 0 where
  pub assumed : Assumed
  pub last : h.last ≡ Some assumed
  pub copy : Conj
  pub copy_is : copy_of g assumed kill.stmt kill.piece kill.after kill.before ≡ Some copy
  pub rest : AfterChoices h.conj.columns (case_width g.params assumed) kill.choices (λ left. is_killed g.params h.conj.rows assumed left ≡ true) copy

-- ---- plans

abbrev mutual
  -- what stands behind the steps of a plan
  pub NextShows : Pairing → List Claim → PlanNext → Path → Type 0
  -- split: one child with the form at least 0, one with it at most -1
  NextShows g cs (Split' f p s l q t r) h =
      CanSplit f h.conj × AfterSteps s (λ c. NextShows g cs l (at_rows h c)) (with_row h.conj (Ge f)) × AfterSteps t (λ c. NextShows g cs r (at_rows h c)) (with_row h.conj (Ge (below f)))
  -- residue: as many children as the modulus says, each with its remainder
  NextShows g cs (Residue' m f shape all) h = IsPartition m f h.conj (count_of all) × ClassesShow g cs all m f 0 h
  -- go: a step of the pair, with a child for each case
  NextShows g cs (Go' order shape all) h = (cases : List Path) × (branches g order h ≡ Some cases) × CasesShow g cs all cases
  -- the ends
  NextShows g cs (Absurd r) h = IsAbsurdRow (slice_get h.conj.rows r)
  NextShows g cs (Killed kill) h = IsKilledBy g h kill
  NextShows g cs (Hit c) h = (claim : Claim) × (slice_get cs c ≡ Some claim) × IsHitOn g h claim
  NextShows g cs SameNumber h = AreEqualNumbers g h
  NextShows g cs SameInitial h = AreOneCell g h

  -- the children of a residue, from child i on: the modulus divides the form less i
  pub ClassesShow : Pairing → List Claim → {w : _} → Row_of-Plan w → ℤ → Affine → ℕ → Path → Type 0
  ClassesShow g cs end_of-Plan m f i h = Unit {0}
  ClassesShow g cs (more_of-Plan s t rest) m f i h = AfterSteps s (λ c. NextShows g cs t (at_rows h c)) (class m f (pos i) h.conj) × ClassesShow g cs rest m f (i + 1) h

  -- the children of a step of the pair: one for each case, in order
  pub CasesShow : Pairing → List Claim → {w : _} → Row_of-Plan w → List Path → Type 0
  CasesShow g cs end_of-Plan [] = Unit {0}
  CasesShow g cs end_of-Plan (h ∷ hs) = ⊥
  CasesShow g cs (more_of-Plan s t rest) [] = ⊥
  CasesShow g cs (more_of-Plan s t rest) (h ∷ hs) = AfterSteps s (λ c. NextShows g cs t (at_rows h c)) h.conj × CasesShow g cs rest hs

-- the plan meets its rules on the path
abbrev pub PlanShows : Pairing → List Claim → Plan → Path → Type 0
PlanShows g cs t h = AfterSteps t.steps (λ c. NextShows g cs t.next (at_rows h c)) h.conj
