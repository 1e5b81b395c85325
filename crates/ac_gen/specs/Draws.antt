-- The random choices of a pipeline.
use Rattle.std.specs.Prelude.{ℕ, zero, suc, ◌+◌, ◌*◌, ◌/◌, ◌%◌, ◌^◌, List, [], ◌∷◌}
use Rattle.ac_gen.specs.declared.draws.Stage.{Stage}

-- the generator goes on
unfoldable pub state_after : ℕ → ℕ
state_after x = (6364136223846793005 * x + 1442695040888963407) % 2 ^ 64

-- the number that is drawn: the upper 31 bits of 64
abbrev pub drawn : ℕ → ℕ
drawn x = x / 2 ^ 33

-- three draws, after a state
abbrev pub stage_at : ℕ → Stage
stage_at x = record {
  function = drawn (state_after x) % 4;
  reach = drawn (state_after (state_after x)) % 3;
  shift = drawn (state_after (state_after (state_after x))) % 8;
}

-- the choices of that many stages, after a state
abbrev pub stages : ℕ → ℕ → List Stage
stages x zero = []
stages x (suc n) = stage_at x ∷ stages (state_after (state_after (state_after x))) n
