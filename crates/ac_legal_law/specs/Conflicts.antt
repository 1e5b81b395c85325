-- Which entries of a list conflict.
use Rattle.std.specs.Prelude.{ℕ, ◌≡◌, ◌<◌, ◌⊎◌, List, [], length, Some}
use Rattle.ac_syntax.specs.Algebra.{Cell, target}
use Rattle.ac_syntax.specs.ValueNodes.{node_of}
use Rattle.ac_syntax.specs.Source.{Writer, Stands}
use Rattle.ac_syntax.specs.Spot.{cell_at}
use Rattle.ac_syntax.specs.Trace.{Entry}
use Rattle.ac_syntax.specs.declared.tree.IndexExpr.{IndexExpr}
use Rattle.ac_syntax.specs.declared.tree.Place.{Place}
use Rattle.ac_syntax.specs.declared.tree.Value.TheVariants.{Access}

-- an entry by itself
abbrev pub alone : Entry → Writer
alone e = record { earlier = []; entry = e }

-- an access of the entry's value reads the cell
pub record ReadsCell (e : Entry) (c : Cell) : Type 0 where
  pub node : ℕ
  pub array : ℕ
  pub subs : List IndexExpr
  pub place : Place
  pub access : node_of e.value node ≡ Some (Access array subs place)
  pub cell : cell_at (alone e) array subs ≡ c

abbrev pub WritesCell : Entry → Cell → Type 0
WritesCell e c = target e ≡ c

abbrev pub Uses : Entry → Cell → Type 0
Uses e c = WritesCell e c ⊎ ReadsCell e c

-- some cell is written by one of the entries, and read or written by the other
pub record Clash (e f : Entry) : Type 0 where
  pub cell : Cell
  pub used : (WritesCell e cell × Uses f cell) ⊎ (Uses e cell × WritesCell f cell)

-- two entries of a list conflict, of which the first stands before the second
pub record Conflict (es : List Entry) (w u : Writer) : Type 0 where
  pub first : Stands es w
  pub second : Stands es u
  pub earlier : length w.earlier < length u.earlier
  pub clash : Clash w.entry u.entry
