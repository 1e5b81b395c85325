-- Further paths: the point of an answer without which a search can go on, and the rows behind one.
use Rattle.std.proofs.Common.{◌≡◌, ◌-◌, ◌++◌, ℕ, List, length, take, drop, Option, Some, sym, ap, ◌∙◌, subst, arith}
use Rattle.std.proofs.lemmas.List.{length-drop, take_all, take-append-drop}
use Rattle.std.specs.Prelude.{Result, Ok, Err, IfOk, IfSome, OnOk}
use Rattle.ac_forms.specs.declared.conj.Conj.{Conj}
use Rattle.ac_unfold.specs.BrokenPathResults.{IsPointIn}
use Rattle.ac_unfold.specs.declared.decide.Answer.{Answer}
use Rattle.ac_unfold.specs.declared.types.UnfoldStop.{UnfoldStop}
use Rattle.ac_unfold.proofs.Results.{at_some}

pub point_in : (c : Conj) (res : Result Answer UnfoldStop) (free : Option Answer) (seen : Answer) → IfOk res (IsPointIn c) → IfSome free (λ x. res ≡ Ok x) → free ≡ Some seen → IsPointIn c seen
point_in c res free seen h f is =
    let r : res ≡ Ok seen = at_some free seen (λ x. res ≡ Ok x) is f in
    subst (λ (x : Result Answer UnfoldStop). IfOk x (IsPointIn c)) r h

pub on_ok : {A E : Type 0} (res : Result A E) (P : Type 0) → P → OnOk res P
on_ok (Ok x) P h = h
on_ok (Err e) P h = tt

-- a list is its first ones and those behind them
pub behind_all : {A : Type 0} (xs : List A) (k : ℕ) → xs ≡ take k xs ++ take (length xs - k) (drop k xs)
behind_all xs k = sym (ap (λ (ys : List _). take k xs ++ ys) (take_all (length xs - k) (drop k xs) (omega (arith, length-drop k xs))) ∙ take-append-drop k xs)
