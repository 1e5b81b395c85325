-- What the functions of an unfolding promise of the ends that they reach, and of stops where there are too many.
use Rattle.std.specs.Prelude.{◌≡◌, ◌⊎◌, ◌++◌, ℕ, List, [], ◌∷◌, length, map}
use Rattle.std.specs.Cmp.Lexicographic.{slice_cmp}
use Rattle.std.specs.Ordering.{nat_cmp}
use Rattle.std.specs.declared.cmp.Ordering.TheVariants.{Less}
use Rattle.ac_claims_paths.specs.declared.path.Path.{Path}
use Rattle.ac_widen.specs.declared.derivation.Entry.{Entry}
use Rattle.ac_widen_programs.specs.PairPaths.{Unfolding}
use Rattle.ac_unfold.specs.UnfoldEnds.{places_along, AreIncreasing, AreTooMany}
use Rattle.ac_unfold.specs.PlanResults.{judge_of}
use Rattle.ac_unfold.specs.UnfoldPaths.{BrokenPathsOf}
use Rattle.ac_unfold.specs.BrokenPathResults.{IsLeaf, IsOf, IsSound}
use Rattle.ac_unfold.specs.declared.ends.Search.{Search}
use Rattle.ac_unfold.specs.declared.kinds.Next.{Next}
use Rattle.ac_unfold.specs.declared.kinds.Next.TheVariants as next
use Rattle.ac_unfold.specs.declared.types.UnfoldStop.{UnfoldStop}
use Rattle.ac_unfold.specs.declared.types.UnfoldStop.TheVariants.{Overflow, Spent, Paths, Memory}

-- ---- what is found

abbrev pub nothing_found : BrokenPathsOf
nothing_found = record { paths = []; ended = [] }

-- each list comes before the next one, and the last one is this
abbrev pub IncreaseTo : List (List ℕ) → List ℕ → Type 0
IncreaseTo [] last = Unit {0}
IncreaseTo (x ∷ []) last = x ≡ last
IncreaseTo (x ∷ y ∷ ys) last = (slice_cmp nat_cmp x y ≡ Less) × IncreaseTo (y ∷ ys) last

-- the second list is the first one, or has one path of this kind more
abbrev pub EndsMore : (List Entry → Type 0) → List (List Entry) → List (List Entry) → Type 0
EndsMore Kind before after = (after ≡ before) ⊎ ((es : List Entry) × Kind es × (after ≡ before ++ es ∷ []))

-- ---- too many

-- one path of this kind more, and there are too many
pub record IsFull (Kind : List Entry → Type 0) (before found : List (List Entry)) : Type 0 where
  pub last : List Entry
  pub kind : Kind last
  pub is : found ≡ before ++ last ∷ []
  pub differ : AreIncreasing (map places_along found)
  pub count : length found ≡ 20001

abbrev pub FullBy : (List Entry → Type 0) → List (List Entry) → UnfoldStop → Type 0
FullBy Kind before (Overflow q) = Unit {0}
FullBy Kind before (Spent q cost) = Unit {0}
FullBy Kind before (Paths found) = IsFull Kind before found
FullBy Kind before (Memory want) = Unit {0}

-- no paths are counted
abbrev pub IsNeverFull : UnfoldStop → Type 0
IsNeverFull (Overflow q) = Unit {0}
IsNeverFull (Spent q cost) = Unit {0}
IsNeverFull (Paths found) = ⊥
IsNeverFull (Memory want) = Unit {0}

-- only paths are too many, or there is no memory
abbrev pub IsCounted : UnfoldStop → Type 0
IsCounted (Overflow q) = ⊥
IsCounted (Spent q cost) = ⊥
IsCounted (Paths found) = Unit {0}
IsCounted (Memory want) = Unit {0}

-- in each unfolding of the search that is at this place there are too many, where what was found before is sound
abbrev pub FullUnder : Search → (Unfolding → Type 0) → BrokenPathsOf → UnfoldStop → Type 0
FullUnder search At before (Overflow q) = Unit {0}
FullUnder search At before (Spent q cost) = Unit {0}
FullUnder search At before (Paths found) = (u : Unfolding) → IsOf search u → At u → IsSound search u before → AreTooMany u search.claims.now found
FullUnder search At before (Memory want) = Unit {0}

-- ---- ends

-- no step is left where rows have to stand, nor at a mismatch
abbrev pub IsEndOfSteps : Search → Path → Next → Type 0
IsEndOfSteps search q (next.Read side) = Unit {0}
IsEndOfSteps search q (next.Calls order) = Unit {0}
IsEndOfSteps search q (next.Match rows end) = IsLeaf (judge_of search) q
IsEndOfSteps search q next.Mismatch = IsLeaf (judge_of search) q
