-- The numbers of a loop that is shifted.
use Rattle.std.proofs.Common.{◌≡◌, ◌+◌, ℕ, suc, ℤ, pos, negsuc, ◌+ℤ◌, ◌-ℤ◌, ◌*ℤ◌, List, [], ◌∷◌, map, codes, refl, ap, sym, ◌∙◌, arith}
use Rattle.std.proofs.lemmas.Int.{ints}
use Rattle.std.proofs.lemmas.List.Sums.{sum_by-cons}
use Rattle.ac_syntax.specs.declared.tree.Rel.TheVariants.{NonNegative}
use Rattle.ac_syntax.specs.declared.tree.Stmt.{Stmt}
use Rattle.ac_syntax.specs.declared.tree.Stmt.TheVariants as stmt
use Rattle.ac_syntax.specs.declared.tree.Value.TheVariants as value
use Rattle.ac_syntax.specs.Turns.{innermost}
use Rattle.ac_syntax.specs.declared.tree.IndexExpr.{IndexExpr}
use Rattle.ac_gen.specs.PipelineLoops.{form, nowhere, Loop, copying, behind, later, shifted, statement, function_symbol}
use Rattle.ac_gen.specs.Pipelines.{target, margin, loops, pipeline, shifted_each}
use Rattle.ac_gen.specs.Plain.{unshifted}
use Rattle.ac_gen.specs.declared.draws.Stage.{Stage}

-- a loop with these constants
abbrev pub written : ℕ → ℕ → ℕ → ℤ → ℤ → ℤ → ℤ → Stmt
written target function source start last at from =
    stmt.For (codes "i") (form start (pos 0) []) (record { parts = record { form = form last (pos 1) (negsuc 0 ∷ []); rel = NonNegative } ∷ [] }) (pos 1)
    (stmt.Assign target (form at (pos 0) (pos 1 ∷ []) ∷ [])
    (value.Call (function_symbol function) (value.Access source (form from (pos 0) (pos 1 ∷ []) ∷ []) nowhere ∷ []) nowhere) nowhere ∷ []) nowhere

start_is : (s : ℕ) → pos s -ℤ pos 0 ≡ pos 0 +ℤ pos s
start_is s = omega (arith, ints)

last_is : (m s : ℕ) → pos (m + s) -ℤ pos 1 ≡ (pos m -ℤ pos 1) -ℤ (pos s *ℤ negsuc 0)
last_is m s = omega (arith, ints)

at_is : (s : ℕ) → pos 0 -ℤ pos s ≡ pos 0 -ℤ (pos s *ℤ pos 1)
at_is s = omega (arith, ints)

from_is : (r s : ℕ) → pos r -ℤ pos s ≡ pos r -ℤ (pos s *ℤ pos 1)
from_is r s = omega (arith, ints)

pub shifted_is : (target function source reach margin s : ℕ)
    → written target function source (pos s -ℤ pos 0) (pos (margin + s) -ℤ pos 1) (pos 0 -ℤ pos s) (pos reach -ℤ pos s) ≡ statement (shifted s (copying target function source reach margin))
shifted_is target function source reach margin s = λ i. written target function source (start_is s i) (last_is margin s i) (at_is s i) (from_is reach s i)

-- shifted by 0, a loop stays as it is
behind_none : (e : IndexExpr) → behind 0 e ≡ e
behind_none e =
    let same : (k x : ℤ) → k -ℤ (pos 0 *ℤ x) ≡ k = λ k x. omega (arith, ints) in
    λ i. record { konst = same e.konst (innermost e.iters) i; params = e.params; iters = e.iters; quots = e.quots; place = e.place }

later_none : (e : IndexExpr) → later 0 e ≡ e
later_none e =
    let same : (k : ℤ) → k +ℤ pos 0 ≡ k = λ k. omega (arith, ints) in
    λ i. record { konst = same e.konst i; params = e.params; iters = e.iters; quots = e.quots; place = e.place }

shifted_none : (l : Loop) → shifted 0 l ≡ l
shifted_none l = λ i. record {
  start = later_none l.start i;
  bound = behind_none l.bound i;
  target = l.target;
  written = behind_none l.written i;
  function = l.function;
  source = l.source;
  read = behind_none l.read i;
}

abbrev pub reach : Stage → ℕ
reach t = t.reach

margin_plain : (ts : List Stage) → margin (map unshifted ts) ≡ margin ts
margin_plain [] = refl
margin_plain (t ∷ ts) =
    sum_by-cons reach (unshifted t) (map unshifted ts) ∙ ap (λ n. t.reach + n) (margin_plain ts) ∙ sym (sum_by-cons reach t ts)

target_plain : (next : ℕ) (ts : List Stage) → target next (map unshifted ts) ≡ target next ts
target_plain next [] = refl
target_plain next (t ∷ ts) = refl

loops_plain : (source next : ℕ) (ts : List Stage) → shifted_each (map unshifted ts) (loops source next (map unshifted ts)) ≡ loops source next ts
loops_plain source next [] = refl
loops_plain source next (t ∷ ts) =
    let first = copying (target next (map unshifted ts)) t.function source t.reach (margin (map unshifted ts)) in
    λ i. (shifted_none first ∙ λ j. copying (target_plain next ts j) t.function source t.reach (margin_plain ts j)) i ∷ loops_plain next (suc next) ts i

-- so where no stage is shifted, the loops are those of the pipeline
pub unshifted_is : (ts : List Stage) → shifted_each (map unshifted ts) (pipeline (map unshifted ts)) ≡ pipeline ts
unshifted_is ts = loops_plain 0 2 ts
