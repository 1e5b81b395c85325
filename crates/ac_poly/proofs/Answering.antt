-- Answers that may be faults.
use Rattle.std.proofs.Common.{◌≡◌, Result, Ok, Err, ap}
use Rattle.std.specs.Result.{IsErrAnd}
use Rattle.ac_forms.specs.FormStops.{IfWide}
use Rattle.ac_forms.specs.declared.stop.FormStop.{FormStop}
use Rattle.ac_forms.specs.declared.stop.FormStop.TheVariants.{Wide as FormWide, Memory as FormMemory}
use Rattle.ac_poly.specs.LoweringFaults.{Answers}
use Rattle.ac_poly.specs.declared.types.LowerFault.{LowerFault}
use Rattle.ac_poly.specs.declared.types.LowerFault.TheVariants.{Pieces, Wide, Memory}

pub answers_map : {T : Type 0} (r : Result T LowerFault) (Q R : T → Type 0) (F G : LowerFault → Type 0) → ((x : T) → Q x → R x) → ((f : LowerFault) → F f → G f) → Answers r Q F → Answers r R G
answers_map (Ok x) Q R F G a b h = a x h
answers_map (Err (Pieces p)) Q R F G a b h = b (Pieces p) h
answers_map (Err (Wide p)) Q R F G a b h = b (Wide p) h
answers_map (Err (Memory e)) Q R F G a b h = tt

pub err_map : {T U : Type 0} (stop : LowerFault) (Q : T → Type 0) (R : U → Type 0) (F G : LowerFault → Type 0) → ((f : LowerFault) → F f → G f) → Answers (Err stop) Q F → Answers (Err stop) R G
err_map (Pieces p) Q R F G b h = b (Pieces p) h
err_map (Wide p) Q R F G b h = b (Wide p) h
err_map (Memory e) Q R F G b h = tt

pub wide_not : (stop : FormStop) (P : Type 0) → stop ≡ FormWide → IfWide stop (¬ P) → ¬ P
wide_not FormWide P e h = h
wide_not (FormMemory m) P e h = cc

pub err_is : {T : Type 0} (r : Result T LowerFault) (stop : LowerFault) → IsErrAnd r (λ e. e ≡ stop) → r ≡ Err stop
err_is (Ok x) stop h = absurd h
err_is (Err x) stop h = ap Err h
