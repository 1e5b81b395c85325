-- The lines of a spelled proof may follow each other.
use Rattle.std.specs.Prelude.{◌≡◌, ℕ, true, List, [], ◌∷◌, Option, Some, None, is_some}
use Rattle.ac_claims.specs.ProofMachine.{lines_of, AreSpelledTrees}
use Rattle.ac_claims.specs.declared.types.Proof.{Proof}
use Rattle.ac_prooftext.specs.LineOrder.{next_all, start, done, is_above}

-- outputs of rising arrays, all above the one before them
abbrev pub AreRising : Option ℕ → List (ℕ × ℕ) → Type 0
AreRising last [] = Unit {0}
AreRising last (o ∷ os) = (is_above last o.0 ≡ true) × AreRising (Some o.0) os

-- the lines of each proof whose residue branches have as many children as their moduli say, and whose outputs rise, are
-- those of a complete proof
abbrev pub TakesProofs : Type 0
TakesProofs = (p : Proof) → AreSpelledTrees p.trees.items → AreRising None p.outputs → next_all (start (is_some p.heads)) (lines_of p) ≡ Some done
