-- A tree covers a point if the point, extended step by step, meets all rows on the path to some end, and the end's meaning holds there.
use Rattle.std.specs.Prelude.{ℕ, ◌+◌, ℤ, pos, List, [], ◌∷◌, Option, Some, None, ◌⊎◌}
use Rattle.ac_forms.specs.Affine.{Affine}
use Rattle.ac_forms.specs.declared.conj.Conj.{Conj}
use Rattle.ac_omega_steps.specs.IntegerPoints.{IsPoint}
use Rattle.ac_cert.specs.declared.types.Step.{Step}
use Rattle.ac_cert.specs.declared.types.Next.{Next, End, Split', Residue', Row_of-Tree, end_of-Tree, more_of-Tree}
use Rattle.ac_cert.specs.declared.types.Tree.{Tree}
use Rattle.ac_cert.specs.PointExtension.{Extends}
use Rattle.ac_cert.specs.Rules.{after_step, both_sides, class}

-- a fact of a conjunction and a point of it
abbrev pub Fact : Type 1
Fact = Conj → List ℤ → Type 0

-- the fact holds of what the step makes, at the point with some numbers for new columns
abbrev pub AtStep : Option Conj → Fact → List ℤ → Type 0
AtStep None P p = ⊥
AtStep (Some d) P p = (q : List ℤ) × Extends p q × P d q

-- the point, extended step by step, meets all rows of the path, and the fact holds behind it
abbrev pub Along : List Step → Fact → Fact
Along [] P c p = IsPoint c p × P c p
Along (s ∷ steps) P c p = IsPoint c p × AtStep (after_step s c) (Along steps P) p

abbrev pub AtSides : Option (Conj × Conj) → (Conj → Type 0) → (Conj → Type 0) → Type 0
AtSides None L R = ⊥
AtSides (Some s) L R = L s.0 ⊎ R s.1

abbrev mutual
  pub Covers : {E : Type 0} → Next E → (E → List ℤ → Type 0) → Fact
  Covers (End e) Means c p = Means e p
  Covers (Split' f _ s l _ t r) Means c p =
      AtSides (both_sides f c) (λ a. Along s (Covers l Means) a p) (λ b. Along t (Covers r Means) b p)
  Covers (Residue' m f shape all) Means c p = SomeCovers all Means m f 0 c p

  -- one of the children from child i on covers the point
  pub SomeCovers : {E : Type 0} {w : _} → Row_of-Tree E w → (E → List ℤ → Type 0) → ℤ → Affine → ℕ → Fact
  SomeCovers end_of-Tree Means m f i c p = ⊥
  SomeCovers (more_of-Tree s t rest) Means m f i c p =
      Along s (Covers t Means) (class m f (pos i) c) p ⊎ SomeCovers rest Means m f (i + 1) c p

-- the tree covers the point, where the ends have this meaning
abbrev pub IsCovered : {E : Type 0} → Tree E → (E → List ℤ → Type 0) → Fact
IsCovered t Means = Along t.steps (Covers t.next Means)

-- at the point, with numbers for further columns, an end's meaning holds
abbrev pub AtSomeEnd : {E : Type 0} → (E → List ℤ → Type 0) → List ℤ → Type 0
AtSomeEnd {E} Means p = (e : E) × (q : List ℤ) × Extends p q × Means e q
