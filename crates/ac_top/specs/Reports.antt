-- What is reported of a run.
use Rattle.std.specs.Prelude.{ℕ, List, Option, None}
use Rattle.ac_top.specs.declared.status.Status.{Status}

-- a file to be written: its name, and the bytes that it is to hold
pub record ProofFile : Type 0 where
  pub name : List ℕ
  pub bytes : List ℕ

-- a status, the text that is put, and the file for a proof, if there is one
pub record Report : Type 0 where
  pub status : Status
  pub text : List ℕ
  pub proof : Option ProofFile

-- a status and a text
abbrev pub report : Status → List ℕ → Report
report s t = record { status = s; text = t; proof = None }
