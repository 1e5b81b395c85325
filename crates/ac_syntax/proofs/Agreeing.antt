use Rattle.std.proofs.Common.{◌≡◌, ℕ, List, Bool, true, false, cond, refl, sym, ap, ◌∙◌, ℤ}
use Rattle.ac_syntax.specs.declared.tree.Stmt.{Stmt}
use Rattle.ac_syntax.specs.declared.tree.Symbol.{Symbol}
use Rattle.ac_syntax.specs.Algebra.{Cell, run, integers}
use Rattle.ac_syntax.specs.Term.{Leaf, Input, LeftLocal, RightLocal}
use Rattle.ac_syntax.specs.Sameness.{Same, SameTerms, AgreeOn, left_leaf, right_leaf}
use Rattle.ac_syntax.specs.Trace.{trace_of}
use Rattle.ac_syntax.proofs.Runs.{run_is_eval, agree_eval}

-- what each leaf holds
abbrev contents : (Cell → ℤ) → (Cell → ℤ) → Leaf → ℤ
contents left right (Input c) = left c
contents left right (LeftLocal c) = left c
contents left right (RightLocal c) = right c

at_left_leaf : (is_input : ℕ → Bool) (left right : Cell → ℤ) (c : Cell) → left c ≡ contents left right (left_leaf is_input c)
at_left_leaf is_input left right c = elim (is_input c.array) as (λ b. left c ≡ contents left right (cond b (Input c) (LeftLocal c))) [ true ↦ refl | false ↦ refl ]

at_right_leaf : (is_input : ℕ → Bool) (left right : Cell → ℤ) → AgreeOn is_input left right → (c : Cell) → right c ≡ contents left right (right_leaf is_input c)
at_right_leaf is_input left right h c = by (is_input c.array) refl
  where
    by : (b : Bool) → is_input c.array ≡ b → right c ≡ contents left right (cond (is_input c.array) (Input c) (RightLocal c))
    by true e = rw e (sym (h c e))
    by false e = rw e refl

-- programs whose terms agree leave the same integers
pub same_from_terms : (is_input : ℕ → Bool) (swaps : Symbol → Bool) (left right : List Stmt) (params : List ℤ) (cell : Cell) → SameTerms is_input swaps left right params cell → Same is_input swaps left right params cell
same_from_terms is_input swaps left right params cell h table at_left at_right r agree =
    let from : Leaf → ℤ = contents at_left at_right in
    ap (λ (s : Cell → ℤ). run (integers table) (trace_of left params) s cell) (λ i c. at_left_leaf is_input at_left at_right c i)
    ∙ run_is_eval (integers table) from (left_leaf is_input) (trace_of left params) cell
    ∙ agree_eval swaps (integers table) r from h
    ∙ sym (run_is_eval (integers table) from (right_leaf is_input) (trace_of right params) cell)
    ∙ ap (λ (s : Cell → ℤ). run (integers table) (trace_of right params) s cell) (λ i c. sym (at_right_leaf is_input at_left at_right agree c) i)
