-- What an attempt finds.
use Rattle.std.specs.Prelude.{ℤ, List}
use Rattle.ac_cert.specs.declared.ends.Absurd.{Absurd}
use Rattle.ac_cert.specs.declared.types.Tree.{Tree}
use Rattle.ac_simplex.specs.declared.attempts.Found.{Found}
use Rattle.ac_simplex.specs.declared.attempts.Found.TheVariants.{Empty, Point}

-- where a tree says that there is no point
abbrev pub IfEmpty : Found → (Tree Absurd → Type 0) → Type 0
IfEmpty (Empty t) P = P t
IfEmpty (Point p) P = Unit {0}

-- where a point is found
abbrev pub IfPoint : Found → (List ℤ → Type 0) → Type 0
IfPoint (Empty t) P = Unit {0}
IfPoint (Point p) P = P p.items
