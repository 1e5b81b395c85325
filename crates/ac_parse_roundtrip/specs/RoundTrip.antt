-- That canonical texts are read back.
use Rattle.std.specs.Prelude.{ℕ, List}
use Rattle.ac_syntax.specs.Text.{program_text}
use Rattle.ac_syntax.specs.declared.tree.Program.{Program}
use Rattle.ac_parse_grammar.specs.declared.tree.File.{File}
use Rattle.ac_parse.specs.Program.{IsProgramOf, IsText}
use Rattle.ac_parse_roundtrip.specs.PlaceErasure.{IsSameButPlaces}

-- where its canonical text has few enough bytes, and its constructs nest no deeper than those of a text may, it is a text of the same program
-- but for places
abbrev pub CanonicalTextsAreReadBack : Type 0
CanonicalTextsAreReadBack =
    (bytes : List ℕ) (program : Program) → IsProgramOf bytes program → (file : File) → IsText (program_text program) file
    → (again : Program) × IsProgramOf (program_text program) again × IsSameButPlaces program again
