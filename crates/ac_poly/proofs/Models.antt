-- Each entry of a lowered program has a model.
use Rattle.std.proofs.Common.{◌≡◌, ℕ, zero, suc, ◌+◌, List, [], ◌∷◌, ◌++◌, length, length-append, get_or, refl, sym, ap, ◌∙◌, subst, arith, Some, ℤ}
use Rattle.std.specs.Prelude.{slice_get}
use Rattle.std.specs.List.{Contains, AllByRecursion}
use Rattle.std.proofs.lemmas.Option.{slice_get-get_or}
use Rattle.ac_syntax.specs.Index.{point}
use Rattle.ac_syntax.specs.LoopNests.{loop_count}
use Rattle.ac_syntax.specs.ReadyPrograms.{ReadyAll, ReadyProgram}
use Rattle.ac_syntax.specs.Trace.{Entry, trace_of}
use Rattle.ac_syntax.specs.declared.tree.Cond.{Cond}
use Rattle.ac_syntax.specs.declared.tree.Program.{Program}
use Rattle.ac_syntax.specs.declared.tree.Stmt.{Stmt}
use Rattle.ac_syntax.proofs.Order.{Within, assignments_all, within_trace_all}
use Rattle.ac_poly_quotients.specs.QuotientRows.{quotients_at}
use Rattle.ac_poly_quotients.specs.QuotientScopes.{outermost}
use Rattle.ac_poly_quotients.specs.declared.types.Scope.{Scope}
use Rattle.ac_poly_quotients.proofs.CounterOrder.{counters_are_the_same}
use Rattle.ac_poly_quotients.proofs.QuotientRows.{length-quotients}
use Rattle.ac_poly.specs.Coordinates.{width, coordinates, coordinates_of, coordinates_at}
use Rattle.ac_poly.specs.Lower.{lower, lower_all, lowered_body}
use Rattle.ac_poly.specs.Model.{model_of, HasModels}
use Rattle.ac_poly.specs.declared.types.StmtModel.{StmtModel}
use Rattle.ac_poly.proofs.Bodies.{counters_told}
use Rattle.ac_poly.proofs.LowerEnds.{length-lower}

length-all : (ss : List Stmt) (loop : ℕ) (sc : Scope) → length (lower_all ss loop sc) ≡ assignments_all ss
length-all [] loop sc = refl
length-all (s ∷ ss) loop sc = length-append (lower s loop sc) (lower_all ss (loop + loop_count s) sc) ∙ (λ i. length-lower s loop sc i + length-all ss (loop + loop_count s) sc i)

all-at : {A : Type 0} (P : A → Type 0) (xs : List A) (x : A) → AllByRecursion P xs → Contains xs x → P x
all-at P [] x a (k, lt, e) = absurd (omega (arith, lt))
all-at P (y ∷ ys) x a (zero, lt, e) = subst P e a.0
all-at P (y ∷ ys) x a (suc k, lt, e) = all-at P ys x a.1 (k, omega (arith, lt), e)

nothing : StmtModel
nothing = record { loops = []; quots = []; pieces = []; array = 0; subs = []; nodes = [] }

-- an instance has as many coordinates as its assignment
coordinates_wide : (l : StmtModel) (ps zs : List ℤ) → length zs ≡ length l.loops → length (coordinates_at l ps zs) ≡ width l
coordinates_wide l ps zs h = omega (arith, length-append zs (quotients_at l.quots (ps ++ zs)), length-quotients l.quots (ps ++ zs), h)

pub has_models : (p : Program) (context : Cond) → ReadyProgram p → HasModels p (model_of p context)
has_models p context ready params e long at = (model, found, ap (λ o. length (coordinates_of o params e.counters)) found ∙ coordinates_wide model params e.counters counters)
  where
    within : Within 0 (assignments_all p.body) [] e
    within = all-at (Within 0 (assignments_all p.body) []) (trace_of p.body params) e (within_trace_all p.body 0 (point params []) []) at

    model : StmtModel
    model = get_or (lowered_body (length p.params) p.body) e.stmt nothing

    found : slice_get (lowered_body (length p.params) p.body) e.stmt ≡ Some model
    found = slice_get-get_or (lowered_body (length p.params) p.body) e.stmt nothing (let h = within.high in let l = length-all p.body 0 (outermost (length p.params)) in omega (arith, h, l))

    there : slice_get (lowered_body (length params) p.body) e.stmt ≡ Some model
    there = ap (λ (n : ℕ). slice_get (lowered_body n p.body) e.stmt) long ∙ found

    counters : length e.counters ≡ length model.loops
    counters = counters_told p.body params e model (subst (λ (n : ℕ). ReadyAll n 0 p.body) (sym long) ready.body) there at

-- where coordinates are the same, so are counters
pub same_counters : (p : Program) (context : Cond) → ReadyProgram p → (params : List ℤ) (e u : Entry) → length params ≡ length p.params → Contains (trace_of p.body params) e → Contains (trace_of p.body params) u → e.stmt ≡ u.stmt
    → coordinates (model_of p context) params e ≡ coordinates (model_of p context) params u → e.counters ≡ u.counters
same_counters p context ready params e u long a b same eq =
    let h = has_models p context ready params e long a in
    let l : StmtModel = h.0 in
    let r = subst (λ (n : ℕ). ReadyAll n 0 p.body) (sym long) ready.body in
    let at : slice_get (lowered_body (length params) p.body) e.stmt ≡ Some l = ap (λ (n : ℕ). slice_get (lowered_body n p.body) e.stmt) long ∙ h.1 in
    let bt : slice_get (lowered_body (length params) p.body) u.stmt ≡ Some l = ap (slice_get (lowered_body (length params) p.body)) (sym same) ∙ at in
    let m : slice_get (lowered_body (length p.params) p.body) u.stmt ≡ Some l = ap (slice_get (lowered_body (length p.params) p.body)) (sym same) ∙ h.1 in
    let n : length e.counters ≡ length u.counters = counters_told p.body params e l r at a ∙ sym (counters_told p.body params u l r bt b) in
    let q : coordinates_at l params e.counters ≡ coordinates_at l params u.counters = ap (λ o. coordinates_of o params e.counters) (sym h.1) ∙ eq ∙ ap (λ o. coordinates_of o params u.counters) m in
    (counters_are_the_same e.counters u.counters (quotients_at l.quots (params ++ e.counters)) (quotients_at l.quots (params ++ u.counters)) n q).0
