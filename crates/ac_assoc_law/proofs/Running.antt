-- The run of an arranged body is the chain run of the old one.
use Rattle.std.proofs.Common.{◌≡◌, ℕ, List, [], ◌∷◌, map, refl, ap, ◌∙◌, ℤ}
use Rattle.std.specs.List.{AllByRecursion}
use Rattle.ac_syntax.specs.Index.{point}
use Rattle.ac_syntax.specs.Trace.{Entry, trace_of}
use Rattle.ac_syntax.specs.Algebra.{Cell, run, integers, store, target}
use Rattle.ac_syntax.specs.Sameness.{leaves}
use Rattle.ac_syntax.specs.declared.tree.Stmt.{Stmt}
use Rattle.ac_assoc_law.specs.OperandChains.{Tables, chain_run, chain_leaves}
use Rattle.ac_assoc_law.specs.ArrangedPairs.{ProgramCanArrange, arranged_all}
use Rattle.ac_assoc_law.specs.ArrangedTables.{arranged_table}
use Rattle.ac_syntax.specs.ExecutedCalls.{HaveArities}
use Rattle.ac_assoc_law.proofs.StayingArities.{EntryCounts, entries_count}
use Rattle.ac_assoc_law.proofs.Valuing.{value_law}
use Rattle.ac_assoc_law.proofs.Traced.{arranged_entry, traced_all, EntryCanArrange, entries_can_all}

module _ (names : List (List ℕ)) (t : Tables) (choice : ℕ → ℕ → ℕ) where
  run_law : (es : List Entry) (state : Cell → ℤ) → AllByRecursion (EntryCanArrange names) es → AllByRecursion EntryCounts es → run (integers (arranged_table names t)) (map (arranged_entry names choice) es) state ≡ chain_run names t es state
  run_law [] state h c = refl
  run_law (e ∷ es) state h c =
      run_law es _ h.1 c.1
      ∙ ap (λ v. chain_run names t es (store (target e) v state)) (value_law names t e.point state (choice e.stmt) 0 e.value h.0 c.0)

  pub runs_law : (body : List Stmt) (params : List ℤ) (contents : Cell → ℤ) (at : Cell) → ProgramCanArrange names body → HaveArities body
      → leaves (arranged_all names choice 0 body) params (arranged_table names t) contents at ≡ chain_leaves names body params t contents at
  runs_law body params contents at h a =
      ap (λ (es : List Entry). run (integers (arranged_table names t)) es contents at) (traced_all names choice body 0 (point params []) [])
      ∙ ap (λ (s : Cell → ℤ). s at) (run_law (trace_of body params) contents (entries_can_all names body 0 (point params []) [] h) (entries_count body params a))
