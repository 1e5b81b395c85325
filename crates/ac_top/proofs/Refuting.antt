-- A run in which an element of the one output of a pair differs.
use Rattle.std.proofs.Common.{◌≡◌, ℕ, ℤ, List, [], ◌∷◌, length, Some, Ok, refl, ap, subst, ◌∙◌}
use Rattle.std.specs.Prelude.{slice_get}
use Rattle.ac_syntax.specs.declared.tree.Pair.{Pair}
use Rattle.ac_claims.specs.Soundness.{ArePaired}
use Rattle.ac_instance.specs.ComparisonAnswers.{AreOutcomes, IsAnswer, IsReadyAt, compared}
use Rattle.ac_instance.specs.Least.{Looked}
use Rattle.ac_instance.specs.declared.halt.Outcome.{Outcome}
use Rattle.ac_instance.specs.declared.halt.Outcome.TheVariants.{Equal, Different}
use Rattle.ac_instance.specs.declared.halt.Ran.{Ran}
use Rattle.ac_walk.proofs.Elements.{differs as element_differs, ready_at}
use Rattle.ac_top.specs.ArrangementReports.{IsApart, differs}
use Rattle.ac_top.specs.InstanceReports.{status_of}
use Rattle.ac_top.specs.declared.status.Status.TheVariants as status

one_different : (looked : ℕ → Looked) (o : ℕ) (rs : List Outcome) → AreOutcomes looked (o ∷ []) rs → status.Different ≡ status_of rs → (e : List ℤ) × (slice_get rs 0 ≡ Some (Different e))
one_different looked o [] h said = absurd h
one_different looked o (Equal ∷ []) h said = absurd cc
one_different looked o (Equal ∷ r ∷ rest) h said = absurd h.1
one_different looked o (Different e ∷ rest) h said = (e, refl)

pub ran_apart : (pair : Pair) (params : List ℤ) (output : ℕ) (ran : Ran) (outcomes : List Outcome) → outcomes ≡ ran.outcomes → pair.outputs ≡ output ∷ [] → ArePaired pair → length params ≡ length pair.left.params
    → (IsReadyAt pair params → IsAnswer pair params 1000000 (Ok ran)) → status.Different ≡ status_of outcomes → IsApart pair output
ran_apart pair params output ran outcomes same is paired count answer said =
    let h = answer (ready_at pair params paired count) in
    let are = subst (λ (os : List ℕ). AreOutcomes (compared pair params) os ran.outcomes) is h.1 in
    let first = one_different (compared pair params) output ran.outcomes are (said ∙ ap status_of same) in
    differs params first.0 (element_differs pair params 1000000 0 ran first.0 count h first.1 output (ap (λ (os : List ℕ). slice_get os 0) is))
