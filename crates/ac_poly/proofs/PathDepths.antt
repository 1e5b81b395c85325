-- How many counters, loops and parameters the scope at the end of a way has, by the way alone.
use Rattle.std.proofs.Common.{◌≡◌, ℕ, ◌+◌, List, [], ◌∷◌, ◌++◌, length, ap, ◌∙◌, arith, ℤ, length-append}
use Rattle.std.specs.List.{flat_map}
use Rattle.ac_syntax.specs.declared.tree.Cond.{Cond}
use Rattle.ac_syntax.specs.declared.tree.IndexExpr.{IndexExpr}
use Rattle.ac_syntax.specs.declared.tree.Quot.{Quot}
use Rattle.ac_poly_quotients.specs.FilledColumns.{counters}
use Rattle.ac_poly_quotients.specs.LoopPaths.{Step, Enters, Taken, Other, depth_of, scope_at}
use Rattle.ac_poly_quotients.specs.QuotientScopes.{with_quots, part_quots, lowered_in, with_counter, in_loop, where_holds, where_fails}
use Rattle.ac_poly_quotients.specs.declared.types.Column.TheVariants.{Counter}
use Rattle.ac_poly_quotients.specs.declared.types.Scope.{Scope}
use Rattle.ac_poly_quotients.proofs.FilledColumns.{counters-append}
use Rattle.ac_poly_quotients.proofs.NotedColumns.{grown_all}

-- further quotients are no counters
same_counters : (sc : Scope) (qs : List Quot) → counters (with_quots sc qs).columns ≡ counters sc.columns
same_counters sc qs = let g = grown_all sc qs in ap counters g.columns ∙ counters-append sc.columns g.more ∙ omega (arith, g.none)

-- the scope of a loop has one counter and one loop more
pub loop_params : (sc : Scope) (number : ℕ) (start : IndexExpr) (cond : Cond) (step : ℤ) → (in_loop sc number start cond step).params ≡ sc.params
loop_params sc number start cond step =
    let a = with_quots sc start.quots in
    let b = with_counter a number (lowered_in a a.iters start) step in
    (grown_all b (flat_map part_quots cond.parts)).params ∙ (grown_all sc start.quots).params

pub loop_counters : (sc : Scope) (number : ℕ) (start : IndexExpr) (cond : Cond) (step : ℤ) → counters (in_loop sc number start cond step).columns ≡ counters sc.columns + 1
loop_counters sc number start cond step =
    let a = with_quots sc start.quots in
    let b = with_counter a number (lowered_in a a.iters start) step in
    same_counters b (flat_map part_quots cond.parts) ∙ counters-append a.columns (Counter ∷ []) ∙ ap (λ n. n + 1) (same_counters sc start.quots)

pub loop_loops : (sc : Scope) (number : ℕ) (start : IndexExpr) (cond : Cond) (step : ℤ) → (in_loop sc number start cond step).loops ≡ sc.loops ++ number ∷ []
loop_loops sc number start cond step =
    let a = with_quots sc start.quots in
    let b = with_counter a number (lowered_in a a.iters start) step in
    (grown_all b (flat_map part_quots cond.parts)).loops ∙ ap (λ (ls : List ℕ). ls ++ number ∷ []) (grown_all sc start.quots).loops

-- ---- at the end of a way

pub params_at : (sc : Scope) (ss : List Step) (qs : List Quot) → (scope_at sc ss qs).params ≡ sc.params
params_at sc [] qs = (grown_all sc qs).params
params_at sc (Enters number start cond step ∷ ss) qs = params_at (in_loop sc number start cond step) ss qs ∙ loop_params sc number start cond step
params_at sc (Taken cond ∷ ss) qs = params_at (where_holds sc cond) ss qs ∙ (grown_all sc (flat_map part_quots cond.parts)).params
params_at sc (Other cond ∷ ss) qs = params_at (where_fails sc cond) ss qs ∙ (grown_all sc (flat_map part_quots cond.parts)).params

pub counters_at : (sc : Scope) (ss : List Step) (qs : List Quot) → counters (scope_at sc ss qs).columns ≡ counters sc.columns + depth_of ss
counters_at sc [] qs = same_counters sc qs ∙ omega arith
counters_at sc (Enters number start cond step ∷ ss) qs =
    counters_at (in_loop sc number start cond step) ss qs ∙ ap (λ n. n + depth_of ss) (loop_counters sc number start cond step) ∙ omega arith
counters_at sc (Taken cond ∷ ss) qs = counters_at (where_holds sc cond) ss qs ∙ ap (λ n. n + depth_of ss) (same_counters sc (flat_map part_quots cond.parts))
counters_at sc (Other cond ∷ ss) qs = counters_at (where_fails sc cond) ss qs ∙ ap (λ n. n + depth_of ss) (same_counters sc (flat_map part_quots cond.parts))

pub loops_counted : (sc : Scope) (ss : List Step) (qs : List Quot) → length (scope_at sc ss qs).loops ≡ length sc.loops + depth_of ss
loops_counted sc [] qs = ap length (grown_all sc qs).loops ∙ omega arith
loops_counted sc (Enters number start cond step ∷ ss) qs =
    loops_counted (in_loop sc number start cond step) ss qs
    ∙ ap (λ n. n + depth_of ss) (ap length (loop_loops sc number start cond step) ∙ length-append sc.loops (number ∷ [])) ∙ omega arith
loops_counted sc (Taken cond ∷ ss) qs = loops_counted (where_holds sc cond) ss qs ∙ ap (λ (ls : List ℕ). length ls + depth_of ss) (grown_all sc (flat_map part_quots cond.parts)).loops
loops_counted sc (Other cond ∷ ss) qs = loops_counted (where_fails sc cond) ss qs ∙ ap (λ (ls : List ℕ). length ls + depth_of ss) (grown_all sc (flat_map part_quots cond.parts)).loops
