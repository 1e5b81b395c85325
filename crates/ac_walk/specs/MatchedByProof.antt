-- The law on proofs that stop.
use Rattle.std.specs.Prelude.{ℕ, [], ◌∷◌, Bool}
use Rattle.ac_syntax.specs.declared.tree.Order.{Order}
use Rattle.ac_syntax.specs.declared.tree.Pair.{Pair}
use Rattle.ac_syntax.specs.declared.tree.Position.{Position}
use Rattle.ac_claims.specs.declared.types.Proof.{Proof}
use Rattle.ac_hull.specs.Templates.{template_rows}
use Rattle.ac_widen_programs.specs.PairSetting.{point_width}
use Rattle.ac_unfold_plans.specs.ProofDecisions.{AreNamed, IsStoppedProof}
use Rattle.ac_walk_state.specs.SearchSetting.{Widening, IsWideningOf}
use Rattle.ac_walk.specs.MatchedOutputs.{IsMatched}

-- an output is matched where a valid proof names it with a claim of a part that stops at the recurrence pairs of the pair's widening,
-- under some order
abbrev pub StoppedProofsMatch : Type 0
StoppedProofsMatch =
    (pair : Pair) (w : Widening) (order : Position × Position → Order) (part : ℕ → Bool) (proof : Proof) (output : ℕ) → IsWideningOf pair output w
    → IsStoppedProof pair order w.recurrent (λ positions. template_rows (point_width pair positions) w.thresholds w.moduli) part proof → AreNamed proof part (output ∷ []) → IsMatched pair output
