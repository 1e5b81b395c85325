-- The entries of a loop, turn by turn.
use Rattle.std.proofs.Common.{◌≡◌, ℕ, zero, suc, ◌+◌, List, [], ◌∷◌, ◌++◌, sym, ap, ◌∙◌, arith, ℤ, pos, append_assoc, append-nil}
use Rattle.std.specs.List.{flat_map, range_with_len}
use Rattle.ac_syntax.specs.Index.{Point, index_value}
use Rattle.ac_syntax.specs.Turns.{inside, iterator_at, turns}
use Rattle.ac_syntax.specs.Trace.{Entry, each_turn, trace_all}
use Rattle.ac_syntax.specs.declared.tree.IndexExpr.{IndexExpr}
use Rattle.ac_syntax.specs.declared.tree.Cond.{Cond}
use Rattle.ac_syntax.specs.declared.tree.Stmt.{Stmt}

-- the entries of one turn
abbrev pub in_turn_of : List Stmt → ℕ → Point → IndexExpr → ℤ → List ℤ → ℕ → List Entry
in_turn_of body first p start step counters k = trace_all body first (inside p (iterator_at (index_value p start) step k)) (counters ++ pos k ∷ [])

pub flat_map_last : {A : Type 0} (f : ℕ → List A) (a n : ℕ) → flat_map f (range_with_len a (suc n)) ≡ flat_map f (range_with_len a n) ++ f (a + n)
flat_map_last f a zero = append-nil (f a) ∙ ap f (omega arith)
flat_map_last f a (suc n) =
    ap (λ xs. f a ++ xs) (flat_map_last f (a + 1) n ∙ ap (λ k. flat_map f (range_with_len (a + 1) n) ++ f k) (omega arith)) ∙ sym (append_assoc (f a) (flat_map f (range_with_len (a + 1) n)) (f (a + suc n)))

-- all turns
pub turns_listed : (body : List Stmt) (first : ℕ) (p : Point) (start : IndexExpr) (cond : Cond) (step : ℤ) (counters : List ℤ) (n : ℕ) → n ≡ turns p start cond step
    → flat_map (in_turn_of body first p start step counters) (range_with_len 0 n) ≡ each_turn (trace_all body first) p start cond step counters
unfolding each_turn
turns_listed body first p start cond step counters n e = ap (λ k. flat_map (in_turn_of body first p start step counters) (range_with_len 0 k)) e
