-- When two programs leave the same: integers under every table, or terms that agree.
use Rattle.std.specs.Prelude.{ℕ, ◌≡◌, List, ℤ, Bool, true, if◌then◌else◌}
use Rattle.ac_syntax.specs.Trace.{trace_of}
use Rattle.ac_syntax.specs.Algebra.{Cell, run, integers}
use Rattle.ac_syntax.specs.Term.{Term, Leaf, Input, LeftLocal, RightLocal, Respects, Agree, free, Initial}
use Rattle.ac_syntax.specs.declared.tree.Stmt.{Stmt}
use Rattle.ac_syntax.specs.declared.tree.Symbol.{Symbol}

-- the integers that a run leaves, under a table of the symbols and from initial contents
abbrev pub leaves : List Stmt → List ℤ → (Symbol → List ℤ → ℤ) → (Cell → ℤ) → Cell → ℤ
leaves body params table contents = run (integers table) (trace_of body params) contents

-- two initial contents are equal on each cell of each input array; those of locals are free
abbrev pub AgreeOn : (ℕ → Bool) → (Cell → ℤ) → (Cell → ℤ) → Type 0
AgreeOn is_input left right = (c : Cell) → is_input c.array ≡ true → left c ≡ right c

-- both runs leave equal integers in a cell, for every table that respects the declarations and all contents that agree
abbrev pub Same : (ℕ → Bool) → (Symbol → Bool) → List Stmt → List Stmt → List ℤ → Cell → Type 0
Same is_input swaps left right params cell =
    (table : Symbol → List ℤ → ℤ) (at_left at_right : Cell → ℤ) → Respects swaps (integers table) → AgreeOn is_input at_left at_right
    → leaves left params table at_left cell ≡ leaves right params table at_right cell

abbrev pub left_leaf : (ℕ → Bool) → Cell → Leaf
left_leaf is_input c = if is_input c.array then Input c else LeftLocal c

abbrev pub right_leaf : (ℕ → Bool) → Cell → Leaf
right_leaf is_input c = if is_input c.array then Input c else RightLocal c

-- the term that a run leaves in a cell
abbrev pub term : List Stmt → List ℤ → (Cell → Leaf) → Cell → Term
term body params leaf = run free (trace_of body params) (λ c. Initial (leaf c))

-- the terms of both programs agree at a cell
abbrev pub SameTerms : (ℕ → Bool) → (Symbol → Bool) → List Stmt → List Stmt → List ℤ → Cell → Type 0
SameTerms is_input swaps left right params cell = Agree swaps (term left params (left_leaf is_input) cell) (term right params (right_leaf is_input) cell)
