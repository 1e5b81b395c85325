-- What an answer of an elimination says of the definition. Want of memory may come at any time.
use Rattle.std.specs.Prelude.{◌≡◌, ℕ, ◌-◌, ◌^◌, min, List, [], ◌∷◌, Result, Ok, Err}
use Rattle.ac_forms.specs.declared.conj.Conj.{Conj}
use Rattle.ac_omega_steps.specs.declared.choose.Choice.{Choice}
use Rattle.ac_omega.specs.declared.halt.Halt.{Halt}
use Rattle.ac_omega.specs.declared.halt.Halt.TheVariants as halt
use Rattle.ac_omega.specs.declared.piece.Piece.{Piece}
use Rattle.ac_omega.specs.declared.pieces.Stop.{Stop}
use Rattle.ac_omega.specs.declared.pieces.Stop.TheVariants as stop
use Rattle.ac_omega.specs.Sweep as def

-- each piece as the definition has it
abbrev pub parts : List Piece → List (List Choice × Conj)
parts [] = []
parts (p ∷ ps) = (p.choices, p.rest) ∷ parts ps

-- a number of `u64` that stands still at its last one
abbrev pub saturated : ℕ → ℕ
saturated n = min n (2 ^ 64 - 1)

-- the question is handed back where the walk stopped; memory may want first
abbrev pub HandsBack : Stop → Halt → Conj → Type 0
HandsBack (stop.Overflow c) h question = (h ≡ halt.Wide) × (c ≡ question)
HandsBack (stop.Spent c k) h question = (h ≡ halt.Spent k) × (c ≡ question)
HandsBack (stop.Memory e) h question = Unit {0}

-- the pieces are those of the question; it is handed back where the definition stops
abbrev pub Eliminates : Result (List Piece) Stop → Conj → def.Projected Conj Choice → Type 0
Eliminates (Ok pieces) question w = (k : ℕ) × (w ≡ def.Pieces (parts pieces) k)
Eliminates (Err (stop.Overflow c)) question w = (w ≡ def.Wide) × (c ≡ question)
Eliminates (Err (stop.Spent c k)) question w = (c ≡ question) × (j : ℕ) × (w ≡ def.Spent j) × (k ≡ saturated j)
Eliminates (Err (stop.Memory e)) question w = Unit {0}
