-- Where a plan is missing, a path was found.
use Rattle.std.proofs.Common.{◌≡◌, ℕ, zero, suc, ◌≤◌, true, false, List, [], ◌∷◌, length, Option, None, sym, ap, ◌∙◌, arith}
use Rattle.std.specs.Prelude.{Result, Ok, Err, IfOk, is_some, slice_get}
use Rattle.ac_claims.specs.declared.types.Plan.{Plan}
use Rattle.ac_unfold.specs.PlanGaps.{FindsElse}
use Rattle.ac_unfold.specs.UnfoldPaths.{BrokenPathsOf}
use Rattle.ac_unfold.specs.declared.ends.Search.{Search}
use Rattle.ac_unfold.specs.declared.types.UnfoldStop.{UnfoldStop}

not_none : {A : Type 0} (o : Option A) → is_some o ≡ true → ¬ (o ≡ None)
not_none o h e = let z : false ≡ true = sym (ap is_some e) ∙ h in absurd cc

-- where there is something whenever plans are made
pub finds_shown : {A : Type 0} (search : Search) (o : Option A) (before after : BrokenPathsOf) → (search.making ≡ true → is_some o ≡ true) → FindsElse search o before after
finds_shown search o before after h on e = absurd (not_none o (h on) e)

pub ended_finds : (res : Result (Option Plan) UnfoldStop) (search : Search) (o : Option Plan) (before after : BrokenPathsOf) → IfOk res (λ made. made ≡ None → o ≡ None) → (search.making ≡ true → is_some o ≡ true) → IfOk res (λ made. FindsElse search made before after)
ended_finds (Ok made) search o before after f h = λ on e. absurd (not_none o (h on) (f e))
ended_finds (Err e) search o before after f h = tt

-- the same where no path is added before
pub finds_after : {A : Type 0} (res : Result (Option A) UnfoldStop) (search : Search) (before now after : BrokenPathsOf) → now.paths ≡ before.paths → IfOk res (λ made. FindsElse search made now after) → IfOk res (λ made. FindsElse search made before after)
finds_after (Ok made) search before now after e h = λ on none. let k = h on none in let l = ap length e in omega (arith, k, l)
finds_after (Err stop) search before now after e h = tt

-- nothing stands behind the last item
pub none_behind : {A : Type 0} (xs : List A) (n : ℕ) → slice_get xs n ≡ None → length xs ≤ n
none_behind [] n e = omega arith
none_behind (x ∷ xs) zero e = absurd cc
none_behind (x ∷ xs) (suc n) e = let k = none_behind xs n e in omega (arith, k)
