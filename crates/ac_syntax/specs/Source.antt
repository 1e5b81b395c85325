-- Where the value that a read finds comes from.
use Rattle.std.specs.Prelude.{◌≡◌, List, [], ◌∷◌, ◌++◌, Option, Some, None, if◌then◌else◌}
use Rattle.ac_syntax.specs.Trace.{Entry}
use Rattle.ac_syntax.specs.Algebra.{Cell, same_cell, target}

-- an entry of a list, with the entries before it
pub record Writer : Type 0 where
  pub earlier : List Entry
  pub entry : Entry

-- the entry stands in the list, with these entries before it
pub record Stands (es : List Entry) (w : Writer) : Type 0 where
  pub later : List Entry
  pub splits : es ≡ w.earlier ++ w.entry ∷ later

abbrev pub after : Entry → Option Writer → Option Writer → Option Writer
after e (Some w) first = Some (record { earlier = e ∷ w.earlier; entry = w.entry })
after e None first = first

-- the last entry that writes the cell, or none where no entry does
abbrev pub source : Cell → List Entry → Option Writer
source c [] = None
source c (e ∷ es) = after e (source c es) (if same_cell c (target e) then Some (record { earlier = []; entry = e }) else None)
