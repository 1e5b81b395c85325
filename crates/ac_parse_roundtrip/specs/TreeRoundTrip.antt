-- The tree of the tokens of the canonical text.
use Rattle.std.specs.Prelude.{ℕ}
use Rattle.ac_syntax.specs.declared.tree.Program.{Program}
use Rattle.ac_parse_grammar.specs.declared.tree.File.{File}
use Rattle.ac_parse_grammar.specs.FileGrammar.{IsFile}
use Rattle.ac_parse_roundtrip.specs.Items.{lexemes, program}
use Rattle.ac_parse_roundtrip.specs.CanonicalTrees.{IsFileTree}
use Rattle.ac_parse_roundtrip.specs.GrammarPrograms.{HasNames}

-- they have a tree, and it is one of the program
abbrev pub HaveTrees : Type 0
HaveTrees = (p : Program) → HasNames p → (room : ℕ) × (file : File) × IsFile room (lexemes 0 (program p)) file × IsFileTree p file

-- and no other, however deep constructs may nest
abbrev pub HaveNoOtherTrees : Type 0
HaveNoOtherTrees = (p : Program) → HasNames p → (room : ℕ) (file : File) → IsFile room (lexemes 0 (program p)) file → IsFileTree p file
