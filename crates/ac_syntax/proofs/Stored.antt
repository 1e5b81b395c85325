-- A run leaves in a cell what the cell's source stored.
use Rattle.std.proofs.Common.{◌≡◌, List, [], ◌∷◌, Bool, true, false, cond, refl, ◌∙◌, Option, Some, None}
use Rattle.ac_syntax.specs.Trace.{Entry}
use Rattle.ac_syntax.specs.Algebra.{Algebra, Cell, same_cell, target, run, store, value_of}
use Rattle.ac_syntax.specs.Source.{Writer, source, after}
use Rattle.ac_syntax.specs.Spot.{value_at, resolved}

abbrev pub stored : (a : Algebra) → (Cell → a.Carrier) → Cell → Option Writer → a.Carrier
stored a state c None = state c
stored a state c (Some w) = value_of a w.entry.point (run a w.earlier state) w.entry.value

pub run_source : (a : Algebra) (es : List Entry) (state : Cell → a.Carrier) (c : Cell) → run a es state c ≡ stored a state c (source c es)
run_source a [] state c = refl
run_source a (e ∷ es) state c =
    run_source a es (store (target e) (value_of a e.point state e.value) state) c ∙ step (source c es) (same_cell c (target e)) refl
  where
    step : (o : Option Writer) (b : Bool) → same_cell c (target e) ≡ b → stored a (store (target e) (value_of a e.point state e.value) state) c o ≡ stored a state c (after e o (cond b (Some (record { earlier = []; entry = e })) None))
    step (Some w) b i = refl
    step None true i = rw i refl
    step None false i = rw i refl

-- the same, at the spot that the source names
pub run_resolved : (a : Algebra) (es : List Entry) (state : Cell → a.Carrier) (c : Cell) → run a es state c ≡ value_at a es state (resolved c (source c es))
run_resolved a es state c = run_source a es state c ∙ by (source c es)
  where
    by : (o : Option Writer) → stored a state c o ≡ value_at a es state (resolved c o)
    by None = refl
    by (Some w) = refl
