-- The entries of derivations of two programs.
use Rattle.std.specs.Prelude.{List, map}
use Rattle.ac_syntax.specs.declared.tree.Position.{Position}
use Rattle.ac_widen.specs.Derivations.{EntryOf, entry_of}
use Rattle.ac_widen.specs.declared.derivation.Entry.{Entry}

-- the entries, with both positions as one pair
abbrev pub entries_of : List Entry → List (EntryOf (Position × Position))
entries_of es = map entry_of es
