-- What holds of all lines.
use Rattle.std.specs.Prelude.{◌≡◌}
use Rattle.ac_claims.specs.declared.item.Item.{Item}
use Rattle.ac_prooftext_lines.specs.Spellable.{IsSpellable}
use Rattle.ac_prooftext_lines.specs.Spelling.{spelled}
use Rattle.ac_prooftext_lines.specs.LineWords.{IsFree}

-- no line is that of two items
abbrev pub SpellsOneItem : Type 0
SpellsOneItem = (x y : Item) → IsSpellable x → IsSpellable y → spelled x ≡ spelled y → x ≡ y

-- a line has no LF in it
abbrev pub HasNoFeed : Type 0
HasNoFeed = (x : Item) → IsSpellable x → IsFree 10 (spelled x)
