-- The programs of a pair are as the language has them.
use Rattle.std.proofs.Common.{◌≡◌, ◌≤◌, ◌<◌, ◌+◌, ◌-◌, ◌*◌, ℕ, zero, suc, ℤ, pos, negsuc, ◌-ℤ◌, List, [], ◌∷◌, length, map, codes, slice_get, Some, refl, sym, ap, ◌∙◌, subst, arith, lit≤, lit<}
use Rattle.std.specs.List.{AllByRecursion}
use Rattle.std.proofs.lemmas.Int.{ints}
use Rattle.std.proofs.lemmas.List.Sums.{sum_by-cons}
use Rattle.ac_syntax.specs.Dimensions.{IsCellOf, UsesCells}
use Rattle.ac_syntax.specs.FittingForms.{FitsForm}
use Rattle.ac_syntax.specs.PlainPrograms.{IsPlainStmt}
use Rattle.ac_syntax.specs.ReadyPrograms.{AllFit, Ready}
use Rattle.ac_syntax.specs.Small.{IsSmall, IsSmallForm, AreSmallForms, IsSmallStmt}
use Rattle.ac_syntax.specs.declared.tree.Cond.{Cond}
use Rattle.ac_syntax.specs.declared.tree.Stmt.TheVariants as stmt
use Rattle.ac_syntax.specs.declared.tree.Value.TheVariants as value
use Rattle.ac_syntax.proofs.PlainAt.{access_plain, call_plain, for_plain, assign_plain}
use Rattle.ac_syntax.proofs.ReadyAt.{access_fits, fits_call, for_ready, assign_ready}
use Rattle.ac_syntax.specs.declared.tree.Array.{Array}
use Rattle.ac_syntax.specs.declared.tree.IndexExpr.{IndexExpr}
use Rattle.ac_syntax.specs.declared.tree.Rel.TheVariants.{NonNegative}
use Rattle.ac_syntax.specs.declared.tree.Stmt.{Stmt}
use Rattle.ac_gen.specs.Draws.{stages, state_after}
use Rattle.ac_gen.specs.PipelineLoops.{form, nowhere, function_symbol, Loop, copying, shifted, statement}
use Rattle.ac_gen.specs.Pipelines.{input, local, locals, margin, loops, pipeline, shifted_each, program}
use Rattle.ac_gen.specs.WellMade.{IsWellMade}
use Rattle.ac_gen.specs.declared.draws.Stage.{Stage}
use Rattle.ac_gen.proofs.Holding.{small_for, small_assign, small_call, small_access, cells_for, cells_assign, cells_call, cells_access}
use Rattle.ac_gen.proofs.Random.{length_stages}
use Rattle.ac_gen.proofs.Listed.{length_shifted}
use Rattle.ac_gen.proofs.Shifts.{written, shifted_is, reach}

-- ---- one loop

one_small : IsSmall (pos 1)
one_small = lit≤ tt

form_small : (k times : ℤ) (iters : List ℤ) → IsSmall k → IsSmall times → AllByRecursion IsSmall iters → length iters ≤ 6 → IsSmallForm (form k times iters)
form_small k times iters hk ht hi few = record { constant = hk; params = (ht, tt); iters = hi; few_params = lit≤ tt; few_iters = few; quots = tt; few_quots = lit≤ tt }

abbrev body_of : ℕ → ℕ → ℕ → ℤ → ℤ → Stmt
body_of number function source at from =
    stmt.Assign number (form at (pos 0) (pos 1 ∷ []) ∷ []) (value.Call (function_symbol function) (value.Access source (form from (pos 0) (pos 1 ∷ []) ∷ []) nowhere ∷ []) nowhere) nowhere

abbrev bound_of : ℤ → Cond
bound_of last = record { parts = record { form = form last (pos 1) (negsuc 0 ∷ []); rel = NonNegative } ∷ [] }

small_written : (number function source : ℕ) (a b c d : ℤ) → IsSmall a → IsSmall b → IsSmall c → IsSmall d → IsSmallStmt (written number function source a b c d)
small_written number function source a b c d ha hb hc hd =
    let none : IsSmall (pos 0) = lit≤ tt in
    let minus : IsSmall (negsuc 0) = lit≤ tt in
    let read = small_access source (form d (pos 0) (pos 1 ∷ []) ∷ []) nowhere (form_small d (pos 0) (pos 1 ∷ []) hd none (one_small, tt) (lit≤ tt), tt) in
    let call = small_call (function_symbol function) (value.Access source (form d (pos 0) (pos 1 ∷ []) ∷ []) nowhere ∷ []) nowhere (read, tt) in
    small_for (codes "i") (form a (pos 0) []) (bound_of b) (pos 1) (body_of number function source c d ∷ []) nowhere
    (form_small a (pos 0) [] ha none tt (lit≤ tt)) (record { form = form_small b (pos 1) (negsuc 0 ∷ []) hb one_small (minus, tt) (lit≤ tt); rel = tt }, tt)
    (small_assign number (form c (pos 0) (pos 1 ∷ []) ∷ []) _ nowhere (form_small c (pos 0) (pos 1 ∷ []) hc none (one_small, tt) (lit≤ tt), tt) call, tt)

ready_written : (number function source : ℕ) (a b c d : ℤ) → Ready 1 0 (written number function source a b c d)
ready_written number function source a b c d =
    let fits : (k times : ℤ) (x : ℤ) → FitsForm 1 1 (form k times (x ∷ [])) = λ k times x. record { params = refl; iters = refl; quots = tt } in
    let read = access_fits 1 1 source (form d (pos 0) (pos 1 ∷ []) ∷ []) nowhere (fits d (pos 0) (pos 1), tt) in
    let call = fits_call 1 1 (function_symbol function) (value.Access source (form d (pos 0) (pos 1 ∷ []) ∷ []) nowhere ∷ []) nowhere (read, tt) in
    for_ready 1 0 (codes "i") (form a (pos 0) []) (bound_of b) (pos 1) (body_of number function source c d ∷ []) nowhere
    (record { params = refl; iters = refl; quots = tt }) (record { form = fits b (pos 1) (negsuc 0); rel = tt }, tt) (record { quots = tt; rel = tt }, tt)
    (record { bound = record { form = form b (pos 1) (negsuc 0 ∷ []); rel = NonNegative }; stands = (0, lit< tt, refl); innermost = refl; ends = refl; steady = record { quots = tt; rel = tt } })
    (assign_ready 1 1 number (form c (pos 0) (pos 1 ∷ []) ∷ []) _ nowhere (fits c (pos 0) (pos 1), tt) call, tt)

plain_written : (number function source : ℕ) (a b c d : ℤ) → IsPlainStmt (written number function source a b c d)
plain_written number function source a b c d =
    let read = access_plain source (form d (pos 0) (pos 1 ∷ []) ∷ []) nowhere (refl, tt) in
    let call = call_plain (function_symbol function) (value.Access source (form d (pos 0) (pos 1 ∷ []) ∷ []) nowhere ∷ []) nowhere (read, tt) in
    for_plain (codes "i") (form a (pos 0) []) (bound_of b) (pos 1) (body_of number function source c d ∷ []) nowhere refl (record { form = refl; rel = tt }, tt)
    (assign_plain number (form c (pos 0) (pos 1 ∷ []) ∷ []) _ nowhere (refl, tt) call, tt)

-- an array of one dimension
abbrev IsSingle : List Array → ℕ → Type 0
IsSingle arrays k = (own : Array) × (slice_get arrays k ≡ Some own) × (length own.extents ≡ 1)

cell_of : (arrays : List Array) (k : ℕ) (e : IndexExpr) → IsSingle arrays k → IsCellOf arrays k (e ∷ [])
cell_of arrays k e h = (h.0, h.1, sym h.2)

cells_written : (arrays : List Array) (number function source : ℕ) (a b c d : ℤ) → IsSingle arrays number → IsSingle arrays source → UsesCells arrays (written number function source a b c d)
cells_written arrays number function source a b c d ht hs =
    let read = cells_access arrays source (form d (pos 0) (pos 1 ∷ []) ∷ []) nowhere (cell_of arrays source (form d (pos 0) (pos 1 ∷ [])) hs) in
    let call = cells_call arrays (function_symbol function) (value.Access source (form d (pos 0) (pos 1 ∷ []) ∷ []) nowhere ∷ []) nowhere (read, tt) in
    cells_for arrays (codes "i") (form a (pos 0) []) (bound_of b) (pos 1) (body_of number function source c d ∷ []) nowhere
    (cells_assign arrays number (form c (pos 0) (pos 1 ∷ []) ∷ []) _ nowhere (cell_of arrays number (form c (pos 0) (pos 1 ∷ [])) ht) call, tt)

abbrev Fine : List Array → Stmt → Type 0
Fine arrays s = Ready 1 0 s × IsPlainStmt s × UsesCells arrays s × IsSmallStmt s

fine_written : (arrays : List Array) (number function source : ℕ) (a b c d : ℤ) → IsSingle arrays number → IsSingle arrays source → IsSmall a → IsSmall b → IsSmall c → IsSmall d → Fine arrays (written number function source a b c d)
fine_written arrays number function source a b c d ht hs ha hb hc hd = (
  ready_written number function source a b c d,
  plain_written number function source a b c d,
  cells_written arrays number function source a b c d ht hs,
  small_written number function source a b c d ha hb hc hd,
)

small_difference : (x y : ℕ) → x ≤ 100 → y ≤ 100 → IsSmall (pos x -ℤ pos y)
small_difference x y hx hy = omega (arith, ints, hx, hy)

small_number : (x : ℕ) → x ≤ 100 → IsSmall (pos x)
small_number x h = omega (arith, h)

-- the loop of a stage, as it is and shifted
fine_loop : (arrays : List Array) (number function source r m s : ℕ) → IsSingle arrays number → IsSingle arrays source → r ≤ 2 → m ≤ 24 → s ≤ 7
    → Fine arrays (statement (copying number function source r m)) × Fine arrays (statement (shifted s (copying number function source r m)))
fine_loop arrays number function source r m s ht hs hr hm hk =
    let r_few : r ≤ 100 = omega (arith, hr) in
    let m_few : m ≤ 100 = omega (arith, hm) in
    let s_few : s ≤ 100 = omega (arith, hk) in
    let both_few : m + s ≤ 100 = omega (arith, hm, hk) in (
      fine_written arrays number function source (pos 0) (pos m -ℤ pos 1) (pos 0) (pos r) ht hs (lit≤ tt) (small_difference m 1 m_few (lit≤ tt)) (lit≤ tt) (small_number r r_few),
      subst (Fine arrays) (shifted_is number function source r m s)
          (fine_written arrays number function source (pos s -ℤ pos 0) (pos (m + s) -ℤ pos 1) (pos 0 -ℤ pos s) (pos r -ℤ pos s) ht hs
          (small_difference s 0 s_few (lit≤ tt)) (small_difference (m + s) 1 both_few (lit≤ tt)) (small_difference 0 s (lit≤ tt) s_few) (small_difference r s r_few s_few)),
    )

-- ---- all loops

abbrev IsWithin2To120 : Stage → Type 0
IsWithin2To120 t = (t.reach ≤ 2) × (t.shift ≤ 7)

modest_stages : (x n : ℕ) → AllByRecursion IsWithin2To120 (stages x n)
modest_stages x zero = tt
modest_stages x (suc n) = ((omega arith, omega arith), modest_stages (state_after (state_after (state_after x))) n)

margin_few : (ts : List Stage) → AllByRecursion IsWithin2To120 ts → margin ts ≤ 2 * length ts
margin_few [] h = lit≤ tt
margin_few (t ∷ ts) h =
    let e = sum_by-cons reach t ts in
    let more = margin_few ts h.1 in
    let own = h.0.0 in
    omega (arith, e, more, own)

abbrev Both : List Array → List Stage → List Loop → Type 0
Both arrays ts ls = AllByRecursion (Fine arrays) (map statement ls) × AllByRecursion (Fine arrays) (map statement (shifted_each ts ls))

fine_loops : (arrays : List Array) (room : ℕ) → ((k : ℕ) → k < room → IsSingle arrays k) → 1 < room → (source next : ℕ) (ts : List Stage) → AllByRecursion IsWithin2To120 ts → length ts ≤ 12
    → source < room → next + length ts ≤ suc room → Both arrays ts (loops source next ts)
fine_loops arrays room single two source next [] h few hs hn = (tt, tt)
fine_loops arrays room single two source next (t ∷ []) h few hs hn =
    let k = fine_loop arrays 1 t.function source t.reach 0 t.shift (single 1 two) (single source hs) h.0.0 (lit≤ tt) h.0.1 in
    ((k.0, tt), (k.1, tt))
fine_loops arrays room single two source next (t ∷ u ∷ us) h few hs hn =
    let local_there : next < room = omega (arith, hn) in
    let m = margin_few (u ∷ us) h.1 in
    let m_few : margin (u ∷ us) ≤ 24 = omega (arith, m, few) in
    let rest_few : length (u ∷ us) ≤ 12 = omega (arith, few) in
    let rest_there : suc next + length (u ∷ us) ≤ suc room = omega (arith, hn) in
    let k = fine_loop arrays next t.function source t.reach (margin (u ∷ us)) t.shift (single next local_there) (single source hs) h.0.0 m_few h.0.1 in
    let more = fine_loops arrays room single two next (suc next) (u ∷ us) h.1 rest_few local_there rest_there in
    ((k.0, more.0), (k.1, more.1))

-- ---- programs

locals_single : (j n k : ℕ) → k < n → IsSingle (locals j n) k
locals_single j zero k h = absurd (omega (arith, h))
locals_single j (suc n) zero h = (local j, refl, refl)
locals_single j (suc n) (suc k) h = locals_single (suc j) n k (omega (arith, h))

abbrev arrays_of : ℕ → List Array
arrays_of n = input (codes "B") ∷ input (codes "C") ∷ locals 0 n

arrays_single : (n k : ℕ) → k < 2 + n → IsSingle (arrays_of n) k
arrays_single n zero h = (input (codes "B"), refl, refl)
arrays_single n (suc zero) h = (input (codes "C"), refl, refl)
arrays_single n (suc (suc k)) h = locals_single 0 n k (omega (arith, h))

locals_all : (P : Array → Type 0) → ((j : ℕ) → P (local j)) → (j n : ℕ) → AllByRecursion P (locals j n)
locals_all P h j zero = tt
locals_all P h j (suc n) = (h j, locals_all P h (suc j) n)

each_as : {A : Type 0} (P Q : A → Type 0) → ((x : A) → P x → Q x) → (xs : List A) → AllByRecursion P xs → AllByRecursion Q xs
each_as P Q f [] h = tt
each_as P Q f (x ∷ xs) h = (f x h.0, each_as P Q f xs h.1)

well_made : (ls : List Loop) → AllByRecursion (Fine (arrays_of (length ls - 1))) (map statement ls) → IsWellMade (program ls)
well_made ls h =
    let arrays = arrays_of (length ls - 1) in
    let body = map statement ls in
    let small : (k : ℤ) → IsSmall k → IsSmallForm (form k (pos 1) []) = λ k hk. form_small k (pos 1) [] hk one_small tt (lit≤ tt) in
    record {
      ready = record {
        body = each_as (Fine arrays) (Ready 1 0) (λ s k. k.0) body h;
        context = tt;
        extents = ((record { params = refl; iters = refl; plain = refl }, tt), ((record { params = refl; iters = refl; plain = refl }, tt), locals_all (λ (a : Array). AllFit 1 0 a.extents) (λ j. (record { params = refl; iters = refl; plain = refl }, tt)) 0 (length ls - 1)));
      };
      plain = each_as (Fine arrays) IsPlainStmt (λ s k. k.1) body h;
      cells = each_as (Fine arrays) (UsesCells arrays) (λ s k. k.2) body h;
      small = record {
        body = each_as (Fine arrays) IsSmallStmt (λ s k. k.3) body h;
        context = tt;
        extents = ((small (pos 0) (lit≤ tt), tt), ((small (pos 0) (lit≤ tt), tt), locals_all (λ (a : Array). AreSmallForms a.extents) (λ j. (small (pos 24) (lit≤ tt), tt)) 0 (length ls - 1)));
      };
    }

length_pipeline : (source next : ℕ) (ts : List Stage) → length (loops source next ts) ≡ length ts
length_pipeline source next [] = refl
length_pipeline source next (t ∷ ts) = ap suc (length_pipeline next (suc next) ts)

-- both programs of a seed
pub made : (x n : ℕ) → 1 ≤ n → n ≤ 12 → IsWellMade (program (pipeline (stages x n))) × IsWellMade (program (shifted_each (stages x n) (pipeline (stages x n))))
made x n some few =
    let ts = stages x n in
    let ls = pipeline ts in
    let count : length ts ≡ n = length_stages x n in
    let here : length ls ≡ n = length_pipeline 0 2 ts ∙ count in
    let there : length (shifted_each ts ls) ≡ n = length_shifted ts ∙ count in
    let both = fine_loops (arrays_of (n - 1)) (2 + (n - 1)) (arrays_single (n - 1)) (omega arith) 0 2 ts (modest_stages x n) (omega (arith, count, few)) (omega arith) (omega (arith, count, some)) in (
      well_made ls (subst (λ k. AllByRecursion (Fine (arrays_of (k - 1))) (map statement ls)) (sym here) both.0),
      well_made (shifted_each ts ls) (subst (λ k. AllByRecursion (Fine (arrays_of (k - 1))) (map statement (shifted_each ts ls))) (sym there) both.1),
    )
