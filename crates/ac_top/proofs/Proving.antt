-- What is true where `prove` is done, and where it tells of a difference.
use Rattle.std.proofs.Common.{◌≡◌, ◌≢◌, ◌∙◌, ℕ, ℤ, zero, suc, List, [], ◌∷◌, Contains, Bool, true, false, if◌then◌else◌, Option, Some, None, refl, subst, arith}
use Rattle.std.specs.List.{list_any}
use Rattle.ac_syntax.specs.Outputs.{SameOutput}
use Rattle.ac_syntax.specs.declared.tree.Pair.{Pair}
use Rattle.ac_report.specs.declared.types.Verdict.{Verdict}
use Rattle.ac_report.specs.declared.types.Verdict.TheVariants.{Equal, Different, Unknown}
use Rattle.ac_claims.specs.declared.types.Proof.{Proof}
use Rattle.ac_report.specs.declared.types.Cause.{Cause}
use Rattle.ac_walk.specs.UnknownCauses.{AreUnknown, HasValuation, IsAnswered, context_stopped, left_stopped, right_stopped, searched, context_cause_of, left_model}
use Rattle.ac_walk.specs.Verdicts.{AreVerdicts, IsAccepted, IsDifferentAt, equal_outputs, named}
use Rattle.ac_top.specs.ProgramAnswers.{IsTheSame}
use Rattle.ac_top.specs.ProveReports.{ProveReports, empty_context, compared, HasDifference}
use Rattle.ac_top.specs.Reports.{Report}
use Rattle.ac_top.specs.Statuses.{is_different, is_unknown, status_of}
use Rattle.ac_top.specs.declared.status.Status.TheVariants as status

-- where all is done no verdict is different and none unknown
quiet : (vs : List Verdict) → status_of vs ≡ status.Done → (list_any is_different vs ≡ false) × (list_any is_unknown vs ≡ false)
quiet vs h = by (list_any is_different vs) (list_any is_unknown vs) h
  where
    by : (b d : Bool) → (if b then status.Different else if d then status.Unknown else status.Done) ≡ status.Done → (b ≡ false) × (d ≡ false)
    by true d k = absurd cc
    by false true k = absurd cc
    by false false k = (refl, refl)

all_same : (pair : Pair) (os : List ℕ) (vs : List Verdict) → AreVerdicts pair os vs → list_any is_different vs ≡ false → list_any is_unknown vs ≡ false → (o : ℕ) → Contains os o → SameOutput pair o
all_same pair [] vs h none sure o (k, within, is) = absurd (omega (arith, within))
all_same pair (p ∷ os) [] h none sure o at = absurd h
all_same pair (p ∷ os) (Different params e ∷ vs) h none sure o at = absurd cc
all_same pair (p ∷ os) (Unknown cause ∷ vs) h none sure o at = absurd cc
all_same pair (p ∷ os) (Equal ∷ vs) h none sure o (zero, within, is) = subst (SameOutput pair) is h.0
all_same pair (p ∷ os) (Equal ∷ vs) h none sure o (suc k, within, is) = all_same pair os vs h.1 none sure o (k, omega (arith, within), is)

pub done_prove : (pair : Pair) (budget : ℕ) (name : Option (List ℕ)) (r : Report) → ProveReports pair budget name r → r.status ≡ status.Done → IsTheSame pair
done_prove pair budget name r (empty_context stops h) done = absurd cc
done_prove pair budget name r (compared vs proof file h matched by tried is of) done = let q = quiet vs done in all_same pair pair.outputs vs h q.0 q.1

-- where a verdict is different, some output has a difference
some_different : (vs : List Verdict) → status_of vs ≡ status.Different → list_any is_different vs ≡ true
some_different vs h = by (list_any is_different vs) (list_any is_unknown vs) h
  where
    by : (b d : Bool) → (if b then status.Different else if d then status.Unknown else status.Done) ≡ status.Different → b ≡ true
    by true d k = refl
    by false true k = absurd cc
    by false false k = absurd cc

pub record Found (pair : Pair) (os : List ℕ) : Type 0 where
  pub output : ℕ
  pub among : Contains os output
  pub params : List ℤ
  pub element : List ℤ
  pub is : IsDifferentAt pair output params element

pub further : (pair : Pair) (o : ℕ) (os : List ℕ) → Found pair os → Found pair (o ∷ os)
further pair o os f = record { output = f.output; among = (suc f.among.0, omega (arith, f.among.1), f.among.2); params = f.params; element = f.element; is = f.is }

found : (pair : Pair) (os : List ℕ) (vs : List Verdict) → AreVerdicts pair os vs → list_any is_different vs ≡ true → Found pair os
found pair [] [] h some = absurd cc
found pair [] (v ∷ vs) h some = absurd h
found pair (o ∷ os) [] h some = absurd h
found pair (o ∷ os) (Different params e ∷ vs) h some = record { output = o; among = (zero, omega arith, refl); params = params; element = e; is = h.0 }
found pair (o ∷ os) (Unknown cause ∷ vs) h some = further pair o os (found pair os vs h.1 some)
found pair (o ∷ os) (Equal ∷ vs) h some = further pair o os (found pair os vs h.1 some)

pub different_prove : (pair : Pair) (budget : ℕ) (name : Option (List ℕ)) (r : Report) → ProveReports pair budget name r → r.status ≡ status.Different → HasDifference pair
different_prove pair budget name r (empty_context stops h) d = absurd cc
different_prove pair budget name r (compared vs proof file h matched by tried is of) d =
    let f = found pair pair.outputs vs h (some_different vs d) in
    record { output = f.output; among = f.among; params = f.params; element = f.element; is = f.is }

-- no output is equal where each is unknown for one cause or differs
none_equal : (why : Option Cause) (os : List ℕ) (vs : List Verdict) → AreUnknown why vs → equal_outputs os vs ≡ []
none_equal why [] vs h = refl
none_equal why (o ∷ os) [] h = refl
none_equal why (o ∷ os) (Equal ∷ vs) h = absurd h.0
none_equal why (o ∷ os) (Different params e ∷ vs) h = none_equal why os vs h.1
none_equal why (o ∷ os) (Unknown other ∷ vs) h = none_equal why os vs h.1

-- a proof that names an output is accepted, where one is unless the question of the context stops
pub accepted_named : (budget : ℕ) (pair : Pair) (vs : List Verdict) (proof : Proof) → IsAnswered budget pair vs → named proof ≡ equal_outputs pair.outputs vs → (HasValuation budget (left_model pair) → IsAccepted pair proof) → named proof ≢ [] → IsAccepted pair proof
accepted_named budget pair vs proof (context_stopped stop s u) names accepted some = absurd (some (names ∙ none_equal (context_cause_of stop) pair.outputs vs u))
accepted_named budget pair vs proof (left_stopped stop v s u) names accepted some = accepted v
accepted_named budget pair vs proof (right_stopped stop v f s u) names accepted some = accepted v
accepted_named budget pair vs proof (searched v f g a) names accepted some = accepted v
