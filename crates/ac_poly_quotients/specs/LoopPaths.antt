-- The way to one assignment: into loops and branches, from the outside in.
use Rattle.std.specs.Prelude.{◌≡◌, ℕ, suc, ◌+◌, ℤ, pos, ◌+ℤ◌, ◌*ℤ◌, ◌≤ℤ◌, List, [], ◌∷◌, true, false}
use Rattle.std.specs.List.{AllByRecursion}
use Rattle.ac_syntax.specs.Index.{Point, index_value, holds}
use Rattle.ac_syntax.specs.Quotients.{noted_quots, noted_form, noted_parts}
use Rattle.ac_syntax.specs.Turns.{inside, IsSteady}
use Rattle.ac_syntax.specs.declared.tree.Cond.{Cond}
use Rattle.ac_syntax.specs.declared.tree.IndexExpr.{IndexExpr}
use Rattle.ac_syntax.specs.declared.tree.Quot.{Quot}
use Rattle.ac_syntax.specs.FittingForms.{FitsQuot, FitsForm, FitTests}
use Rattle.ac_poly_quotients.specs.QuotientScopes.{with_quots, in_loop, where_holds, where_fails}
use Rattle.ac_poly_quotients.specs.declared.types.Scope.{Scope}

-- into the loop with a number, its start, condition and step; into a branch where the condition holds; into one where it fails
pub data Step : Type 0 where
  Enters : ℕ → IndexExpr → Cond → ℤ → Step
  Taken : Cond → Step
  Other : Cond → Step

-- how many loops
abbrev pub depth_of : List Step → ℕ
depth_of [] = 0
depth_of (Enters number start cond step ∷ ss) = suc (depth_of ss)
depth_of (Taken cond ∷ ss) = depth_of ss
depth_of (Other cond ∷ ss) = depth_of ss

-- the scope at the end, where the assignment has these quotients itself
abbrev pub scope_at : Scope → List Step → List Quot → Scope
scope_at sc [] qs = with_quots sc qs
scope_at sc (Enters number start cond step ∷ ss) qs = scope_at (in_loop sc number start cond step) ss qs
scope_at sc (Taken cond ∷ ss) qs = scope_at (where_holds sc cond) ss qs
scope_at sc (Other cond ∷ ss) qs = scope_at (where_fails sc cond) ss qs

-- the quotients on the way and of the assignment, noted behind others
abbrev pub noted_path : List Quot → List Step → List Quot → List Quot
noted_path seen [] qs = noted_quots seen qs
noted_path seen (Enters number start cond step ∷ ss) qs = noted_path (noted_parts (noted_form seen start) cond.parts) ss qs
noted_path seen (Taken cond ∷ ss) qs = noted_path (noted_parts seen cond.parts) ss qs
noted_path seen (Other cond ∷ ss) qs = noted_path (noted_parts seen cond.parts) ss qs

-- the iterators at the end, by the counters of the loops on the way, 0 where they have ended
abbrev pub point_at : Point → List Step → List ℤ → Point
point_at p [] rest = p
point_at p (Enters number start cond step ∷ ss) [] = point_at (inside p (index_value p start +ℤ (step *ℤ pos 0))) ss []
point_at p (Enters number start cond step ∷ ss) (z ∷ rest) = point_at (inside p (index_value p start +ℤ (step *ℤ z))) ss rest
point_at p (Taken cond ∷ ss) rest = point_at p ss rest
point_at p (Other cond ∷ ss) rest = point_at p ss rest

-- the end is reached with these counters: each is not negative, the condition of its loop holds in turn 0 and in its turn, and
-- each branch is taken
abbrev pub Reaches : Point → List Step → List ℤ → Type 0
Reaches p [] [] = Unit {0}
Reaches p [] (z ∷ rest) = ⊥
Reaches p (Enters number start cond step ∷ ss) [] = ⊥
Reaches p (Enters number start cond step ∷ ss) (z ∷ rest) =
    (pos 0 ≤ℤ z) × (holds (inside p (index_value p start)) cond ≡ true) × (holds (inside p (index_value p start +ℤ (step *ℤ z))) cond ≡ true)
    × Reaches (inside p (index_value p start +ℤ (step *ℤ z))) ss rest
Reaches p (Taken cond ∷ ss) rest = (holds p cond ≡ true) × Reaches p ss rest
Reaches p (Other cond ∷ ss) rest = (holds p cond ≡ false) × Reaches p ss rest

-- what stands on the way fits so many parameters and iterators, and nothing that a loop's condition rounds changes with its iterator
abbrev pub FitsPath : ℕ → ℕ → List Step → List Quot → Type 0
FitsPath ps xs [] qs = AllByRecursion (FitsQuot ps xs) qs
FitsPath ps xs (Enters number start cond step ∷ ss) qs = FitsForm ps xs start × FitTests ps (xs + 1) cond.parts × AllByRecursion (IsSteady xs) cond.parts × FitsPath ps (xs + 1) ss qs
FitsPath ps xs (Taken cond ∷ ss) qs = FitTests ps xs cond.parts × FitsPath ps xs ss qs
FitsPath ps xs (Other cond ∷ ss) qs = FitTests ps xs cond.parts × FitsPath ps xs ss qs
