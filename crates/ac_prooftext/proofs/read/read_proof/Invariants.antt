use Rattle.std.proofs.Common.{◌≡◌, ◌++◌, List, ℕ, length}
use Rattle.std.specs.List.{AllByRecursion}
use Rattle.ac_prooftext_lines.specs.LineWords.{IsFree}
use Rattle.ac_prooftext.specs.ProofAssembly.{IsReading}
use Rattle.ac_prooftext.specs.ProofTexts.{lines_text}
use Rattle.ac_prooftext.proofs.read.read_proof.Given as goal

abbrev pub invariant-loop-line : goal.invariant-loop-line
invariant-loop-line l = (ls : List (List ℕ)) × ((l.bytes ≡ lines_text ls ++ l.rest) × AllByRecursion (IsFree 10) ls × IsReading l.alloc ls l.reader l.proof)

abbrev pub decreases-loop-line : goal.decreases-loop-line
decreases-loop-line l = length l.rest
