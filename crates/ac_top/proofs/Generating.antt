-- The run of a generated pair at N=1000, and what is true where `gen` is done or tells of a difference.
use Rattle.std.proofs.Common.{◌≡◌, ◌≢◌, ℕ, ℤ, zero, List, [], ◌∷◌, length, Bool, true, false, if◌then◌else◌, Some, None, Err, codes, refl, sym, ap, subst, arith}
use Rattle.std.specs.List.{list_any}
use Rattle.ac_syntax.specs.Index.{point, holds}
use Rattle.ac_syntax.specs.Outputs.{IsValuation}
use Rattle.ac_syntax.specs.declared.tree.Cond.{Cond}
use Rattle.ac_syntax.specs.declared.tree.Pair.{Pair}
use Rattle.ac_syntax.specs.declared.tree.Program.{Program}
use Rattle.ac_instance.specs.ComparisonAnswers.{due, AreOutcomes, compared}
use Rattle.ac_instance.specs.MachineSteps.{IsDue}
use Rattle.ac_instance.specs.declared.halt.Halt.{Halt}
use Rattle.ac_instance.specs.declared.halt.Halt.TheVariants.{OutsideContext, TooLarge, Range, Wide, Memory}
use Rattle.ac_instance.specs.declared.halt.Outcome.{Outcome}
use Rattle.ac_instance.specs.declared.halt.Outcome.TheVariants.{Equal, Different}
use Rattle.ac_gen.specs.GeneratedPair.{IsGeneratedPair}
use Rattle.ac_top.specs.ProgramAnswers.{IsTheSame}
use Rattle.ac_top.specs.FlowReports.{default_budget}
use Rattle.ac_top.specs.GenReports.{at_1000, RunEnds, run_halted, run_ended, status_of_both, GenReports, of_generated}
use Rattle.ac_top.specs.ProveReports.{HasDifference}
use Rattle.ac_top.specs.Reports.{Report, ProofFile}
use Rattle.ac_top.specs.InstanceReports.{is_different, of_side, status_of, RunReports, HaltReports}
use Rattle.ac_top.specs.ConsoleLines.{too_large_line, range_line}
use Rattle.ac_top.specs.declared.status.Status.{Status}
use Rattle.ac_top.specs.declared.status.Status.TheVariants as status
use Rattle.ac_top.proofs.Instances.{of_halt}
use Rattle.ac_top.proofs.Proving.{Found, further, done_prove, different_prove}

-- a generated pair has one parameter and no context
admits_1000 : (seed stages : ℕ) (pair : Pair) → IsGeneratedPair seed stages pair → IsValuation pair at_1000
admits_1000 seed stages pair is = record { each = sym (ap (λ (p : Program). length p.params) is.programs.original); context = ap (λ (c : Cond). holds (point at_1000 []) c) is.context }

abbrev Here : Pair → Report → Type 0
Here pair = RunReports (codes "left") (codes "right") [] [] pair at_1000 1000000

-- the report of the halt that is due
pub halt_ends : (pair : Pair) (h : Halt) (r : Report) → due pair at_1000 1000000 ≢ Err OutsideContext → IsDue (due pair at_1000 1000000) h → HaltReports (codes "left") (codes "right") [] [] h r → RunEnds pair r
halt_ends pair OutsideContext r within d is = absurd (within d)
halt_ends pair (TooLarge n) r within d is =
    let here : Here pair r = of_halt (codes "left") (codes "right") [] [] pair at_1000 1000000 (TooLarge n) r d is in
    subst (RunEnds pair) (sym is) (run_halted (too_large_line n) (subst (Here pair) is here))
halt_ends pair (Range side place value) r within d is =
    let here : Here pair r = of_halt (codes "left") (codes "right") [] [] pair at_1000 1000000 (Range side place value) r d is in
    subst (RunEnds pair) (sym is) (run_halted (range_line (of_side side (codes "left") (codes "right")) (of_side side [] []) place.at value) (subst (Here pair) is here))
halt_ends pair Wide r within d is = absurd is
halt_ends pair (Memory e) r within d is = absurd is

-- where a run finds an outcome different, its output has a difference
some_differs : (rs : List Outcome) → status_of rs ≡ status.Different → list_any is_different rs ≡ true
some_differs rs h = by (list_any is_different rs) h
  where
    by : (b : Bool) → (if b then status.Different else status.Done) ≡ status.Different → b ≡ true
    by true k = refl
    by false k = absurd cc

found_at : (pair : Pair) (params : List ℤ) → IsValuation pair params → (os : List ℕ) (rs : List Outcome) → AreOutcomes (compared pair params) os rs → list_any is_different rs ≡ true → Found pair os
found_at pair params v [] [] h some = absurd cc
found_at pair params v [] (r ∷ rs) h some = absurd h
found_at pair params v (o ∷ os) [] h some = absurd h
found_at pair params v (o ∷ os) (Different e ∷ rs) h some = record { output = o; among = (zero, omega arith, refl); params = params; element = e; is = (v, h.0) }
found_at pair params v (o ∷ os) (Equal ∷ rs) h some = further pair o os (found_at pair params v os rs h.1 some)

different_run : (pair : Pair) (r : Report) → IsValuation pair at_1000 → RunEnds pair r → r.status ≡ status.Different → HasDifference pair
different_run pair r v (run_halted text h) d = absurd cc
different_run pair r v (run_ended events outcomes due all same) d =
    let f = found_at pair at_1000 v pair.outputs outcomes all (some_differs outcomes d) in
    record { output = f.output; among = f.among; params = f.params; element = f.element; is = f.is }

-- both are done only where the verdict is
both_done : (of_verdict of_run : Status) → status_of_both of_verdict of_run ≡ status.Done → of_verdict ≡ status.Done
both_done status.Done of_run h = refl
both_done status.Different of_run h = absurd cc
both_done status.Unknown of_run h = absurd cc
both_done status.Usage of_run h = absurd cc
both_done status.Refused of_run h = absurd cc
both_done status.ReadFault of_run h = absurd cc
both_done status.WriteFault of_run h = absurd cc
both_done status.Memory of_run h = absurd cc
both_done status.Halted of_run h = absurd cc
both_done status.Stopped of_run h = absurd cc

pub done_generated : (seed stages : ℕ) (r : Report) → GenReports seed stages r → r.status ≡ status.Done → (pair : Pair) × IsGeneratedPair seed stages pair × IsTheSame pair
done_generated seed stages r (of_generated pair proved ended is p e) d = (pair, is, done_prove pair default_budget None proved p (both_done proved.status ended.status d))

-- of two statuses the one is different, so the verdict is or the outcome of the run
of_both : (pair : Pair) (of_verdict of_run : Status) → (of_verdict ≡ status.Different → HasDifference pair) → (of_run ≡ status.Different → HasDifference pair)
    → status_of_both of_verdict of_run ≡ status.Different → HasDifference pair
of_both pair status.Done of_run f g h = g h
of_both pair status.Different of_run f g h = f refl
of_both pair status.Unknown of_run f g h = absurd cc
of_both pair status.Usage of_run f g h = absurd cc
of_both pair status.Refused of_run f g h = absurd cc
of_both pair status.ReadFault of_run f g h = absurd cc
of_both pair status.WriteFault of_run f g h = absurd cc
of_both pair status.Memory of_run f g h = absurd cc
of_both pair status.Halted of_run f g h = absurd cc
of_both pair status.Stopped of_run f g h = absurd cc

pub different_generated : (seed stages : ℕ) (r : Report) → GenReports seed stages r → r.status ≡ status.Different → (pair : Pair) × IsGeneratedPair seed stages pair × HasDifference pair
different_generated seed stages r (of_generated pair proved ended is p e) d =
    (pair, is, of_both pair proved.status ended.status (λ k. different_prove pair default_budget None proved p k) (λ k. different_run pair ended (admits_1000 seed stages pair is) e k) d)

-- no file is written
pub generated_none : (seed stages : ℕ) (file : ProofFile) (r : Report) → GenReports seed stages r → r.proof ≡ Some file → ⊥
generated_none seed stages file r (of_generated pair proved ended is p k) e = absurd cc
