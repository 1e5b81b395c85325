-- Pipelines of loops: the programs of a generated pair.
use Rattle.std.specs.Prelude.{ℕ, zero, suc, ◌≡◌, ◌-◌, pos, List, [], ◌∷◌, ◌++◌, map, length, codes, decimal, None, sum_by}
use Rattle.ac_syntax.specs.declared.tree.Array.{Array}
use Rattle.ac_syntax.specs.declared.tree.Kind.TheVariants.{Input, Local}
use Rattle.ac_syntax.specs.declared.tree.Slot.TheVariants as slot
use Rattle.ac_syntax.specs.declared.tree.Program.{Program}
use Rattle.ac_gen.specs.Draws.{stages}
use Rattle.ac_gen.specs.PipelineLoops.{form, Loop, copying, shifted, statement}
use Rattle.ac_gen.specs.declared.draws.Stage.{Stage}

-- ---- arrays: B is 0, C is 1, and the locals T0, T1, .. come after them

abbrev pub input : List ℕ → Array
input name = record { name = name; extents = form (pos 0) (pos 1) [] ∷ []; kind = Input }

abbrev pub local : ℕ → Array
local j = record { name = codes "T" ++ decimal j; extents = form (pos 24) (pos 1) [] ∷ []; kind = Local }

-- n of them, from the number j on
abbrev pub locals : ℕ → ℕ → List Array
locals j zero = []
locals j (suc n) = local j ∷ locals (suc j) n

-- ---- loops

-- how far ahead of N later stages read in all
abbrev pub margin : List Stage → ℕ
margin ts = sum_by (λ t. t.reach) ts

-- the last stage writes C, an earlier one the next local
abbrev pub target : ℕ → List Stage → ℕ
target next [] = 1
target next (t ∷ ts) = next

-- each stage reads what the stage before it wrote
abbrev pub loops : ℕ → ℕ → List Stage → List Loop
loops source next [] = []
loops source next (t ∷ ts) = copying (target next ts) t.function source t.reach (margin ts) ∷ loops next (suc next) ts

-- the first stage reads B
abbrev pub pipeline : List Stage → List Loop
pipeline ts = loops 0 2 ts

-- each loop shifted as its stage says
abbrev pub shifted_each : List Stage → List Loop → List Loop
shifted_each [] ls = ls
shifted_each (t ∷ ts) [] = []
shifted_each (t ∷ ts) (l ∷ ls) = shifted t.shift l ∷ shifted_each ts ls

-- ---- programs

-- `void f(int N, int B[N], int C[N])` with these loops, one for each stage
abbrev pub program : List Loop → Program
program ls = record {
  name = codes "f";
  params = codes "N" ∷ [];
  arrays = input (codes "B") ∷ input (codes "C") ∷ locals 0 (length ls - 1);
  slots = slot.Param 0 ∷ slot.Array 0 ∷ slot.Array 1 ∷ [];
  body = map statement ls;
  context = record { parts = [] };
  commutative = [];
  outputs = None;
}

-- the pair of a seed and a number of stages: the pipeline, and the same with each loop shifted
pub record IsGenerated (seed count : ℕ) (pair : Program × Program) : Type 0 where
  pub original : pair.0 ≡ program (pipeline (stages seed count))
  pub transformed : pair.1 ≡ program (shifted_each (stages seed count) (pipeline (stages seed count)))
