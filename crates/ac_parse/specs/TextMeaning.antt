-- What the bytes of a text determine.
use Rattle.std.specs.Prelude.{◌≡◌, ℕ, List, false}
use Rattle.ac_syntax.specs.ReadyPrograms.{ReadyProgram}
use Rattle.ac_syntax.specs.Small.{IsSmallProgram}
use Rattle.ac_syntax.specs.declared.tree.Program.{Program}
use Rattle.ac_parse_rules.specs.Files.{names_of}
use Rattle.ac_parse_rules.specs.LawsOfNames.{UsesDeclared}
use Rattle.ac_parse_rules.specs.LawsOfPrograms.{DoesAs}
use Rattle.ac_parse.specs.ParseAnswers.{HasSourceFault, is_memory}
use Rattle.ac_parse.specs.Program.{IsProgramOf}
use Rattle.ac_parse.specs.declared.faults.SourceFault.{SourceFault}

-- a text has one fault at most, of one kind and at one place
abbrev pub HasOneSourceFault : Type 0
HasOneSourceFault = (bytes : List ℕ) (fault other : SourceFault) → is_memory fault ≡ false → is_memory other ≡ false → HasSourceFault bytes fault → HasSourceFault bytes other → fault ≡ other

-- and none if it has a program
abbrev pub HasNotBoth : Type 0
HasNotBoth = (bytes : List ℕ) (program : Program) (fault : SourceFault) → is_memory fault ≡ false → IsProgramOf bytes program → HasSourceFault bytes fault → ⊥

-- they have one program at most
abbrev pub HasOneProgram : Type 0
HasOneProgram = (bytes : List ℕ) (p q : Program) → IsProgramOf bytes p → IsProgramOf bytes q → p ≡ q

-- the program of a text has a coefficient for each column, its loops end, and its branches have conditions
abbrev pub ProgramsAreReady : Type 0
ProgramsAreReady = (bytes : List ℕ) (program : Program) → IsProgramOf bytes program → ReadyProgram program

-- and its numbers are at most 2^31 in absolute value
abbrev pub ProgramsAreSmall : Type 0
ProgramsAreSmall = (bytes : List ℕ) (program : Program) → IsProgramOf bytes program → IsSmallProgram program

-- it does what the file of the text says, and that file uses no name that it does not declare
abbrev pub ProgramsDoAsTexts : Type 0
ProgramsDoAsTexts = (bytes : List ℕ) (program : Program) → (is : IsProgramOf bytes program) → DoesAs is.file program × UsesDeclared (names_of is.file) is.file
