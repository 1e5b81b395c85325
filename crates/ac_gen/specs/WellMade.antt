-- Programs as the language has them.
use Rattle.ac_syntax.specs.Dimensions.{HasDimensions}
use Rattle.ac_syntax.specs.PlainPrograms.{PlainProgram}
use Rattle.ac_syntax.specs.ReadyPrograms.{ReadyProgram}
use Rattle.ac_syntax.specs.Small.{IsSmallProgram}
use Rattle.ac_syntax.specs.declared.tree.Program.{Program}

-- each index expression has a coefficient for each parameter and iterator and no quotient, and each loop ends; each cell has an index expression for
-- each dimension of an array that is there; and numbers have an absolute value of at most 2^31
pub record IsWellMade (p : Program) : Type 0 where
  pub ready : ReadyProgram p
  pub plain : PlainProgram p
  pub cells : HasDimensions p
  pub small : IsSmallProgram p
