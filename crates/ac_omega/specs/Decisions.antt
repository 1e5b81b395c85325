-- A decision: whether a question has an integer point.
use Rattle.std.specs.Prelude.{◌≡◌, ◌⊎◌, ℕ, ◌+◌, ◌-◌, ◌*◌, ◌<◌, ◌≤◌, ◌^◌, min, ℤ, List, Result, Ok, Err}
use Rattle.ac_forms.specs.Rows.{CanTest}
use Rattle.ac_forms.specs.declared.conj.Conj.{Conj}
use Rattle.ac_cert.specs.declared.ends.Absurd.{Absurd}
use Rattle.ac_cert.specs.declared.types.Tree.{Tree}
use Rattle.ac_omega.specs.declared.decision.Decided.{Decided}
use Rattle.ac_omega.specs.declared.decision.Decided.TheVariants as answer
use Rattle.ac_omega.specs.declared.decision.Decision.{Decision}
use Rattle.ac_omega.specs.declared.decision.Decision.TheVariants as decision
use Rattle.ac_omega.specs.declared.search.Walked.{Walked}
use Rattle.ac_omega.specs.declared.search.Walked.TheVariants as done
use Rattle.ac_omega.specs.declared.halt.Halt.{Halt}
use Rattle.ac_omega.specs.declared.halt.Halt.TheVariants as halt
use Rattle.ac_omega.specs.declared.pieces.Stop.{Stop}
use Rattle.ac_omega.specs.declared.pieces.Stop.TheVariants as stop
use Rattle.ac_omega.specs.ColumnElimination.{eliminating, normal_of}
use Rattle.ac_omega.specs.Maxima.{Maxima, nothing_met, with_rows}
use Rattle.ac_omega.specs.WalkAnswers.{columns_to}
use Rattle.ac_omega.specs.Walk as def
use Rattle.ac_omega_certify.specs.declared.strategy.Strategy.{Strategy}

-- the walk of a question: from its normal form on, over all its columns; the question's own numbers count among the greatest
abbrev pub walk_of : Strategy → ℕ → Conj → def.Walked Maxima
walk_of s budget q = def.entered (normal_of q) (λ c. def.walk (eliminating s (columns_to c.columns)) (budget + 1) budget c 0 (with_rows q.rows nothing_met))

-- the walk finds this point, at which the question can be evaluated in `i128`
abbrev pub EndsAt : List ℤ → Conj → def.Walked Maxima → Type 0
EndsAt p q w = (w ≡ def.Found p) × CanTest q.rows p

-- a number leaves `i128` on the walk, or where the question is evaluated at the walk's point
abbrev pub IsWide : Conj → def.Walked Maxima → Type 0
IsWide q w = (w ≡ def.Wide) ⊎ ((p : List ℤ) × (w ≡ def.Found p) × (CanTest q.rows p → ⊥))

-- the walk's cost is the first above the budget, or 2^64 - 1 where that is less
abbrev pub IsSpent : ℕ → def.Walked Maxima → Type 0
IsSpent c w = (j : ℕ) × (w ≡ def.Spent j) × (c ≡ min j (2 ^ 64 - 1))

-- the walk finds no point, and the product of the greatest numbers that it meets is at most 2^120
abbrev pub IsSmall : def.Walked Maxima → Type 0
IsSmall w = (k : ℕ) × (s : Maxima) × (w ≡ def.Empty k s) × (s.factor * s.number ≤ 2 ^ 120)

-- the same, where it exceeds 2^120
abbrev pub IsLarge : def.Walked Maxima → Type 0
IsLarge w = (k : ℕ) × (s : Maxima) × (w ≡ def.Empty k s) × (2 ^ 120 < s.factor * s.number)

-- the answer is the walk's; it is too wide also where the question cannot be evaluated in `i128` at the point
abbrev pub Decides : Result Walked Halt → Conj → def.Walked Maxima → Type 0
Decides (Ok (done.Empty k s r)) q w = w ≡ def.Empty k s
Decides (Ok (done.Found p)) q w = EndsAt p.items q w
Decides (Err halt.Wide) q w = IsWide q w
Decides (Err (halt.Spent c)) q w = IsSpent c w
Decides (Err (halt.Memory e)) q w = Unit {0}

-- the same, where a stop hands the question back
abbrev pub Finds : Result Decided Stop → Conj → def.Walked Maxima → Type 0
Finds (Ok (answer.Empty s)) q w = (k : ℕ) × (w ≡ def.Empty k s)
Finds (Ok (answer.Point p)) q w = EndsAt p.items q w
Finds (Err (stop.Overflow c)) q w = (c ≡ q) × IsWide q w
Finds (Err (stop.Spent c k)) q w = (c ≡ q) × IsSpent k w
Finds (Err (stop.Memory e)) q w = Unit {0}

-- the same, but for a walk without a point: there it is too wide where the greatest numbers are large
abbrev pub Settles : Result Decision Stop → Conj → def.Walked Maxima → Type 0
Settles (Ok (decision.Empty t)) q w = IsSmall w
Settles (Ok (decision.Point p)) q w = EndsAt p.items q w
Settles (Err (stop.Overflow c)) q w = (c ≡ q) × (IsWide q w ⊎ IsLarge w)
Settles (Err (stop.Spent c k)) q w = (c ≡ q) × IsSpent k w
Settles (Err (stop.Memory e)) q w = Unit {0}

abbrev pub IfEmpty : Decided → Type 0 → Type 0
IfEmpty (answer.Empty s) P = P
IfEmpty (answer.Point p) P = Unit {0}

abbrev pub IfPoint : Decided → (List ℤ → Type 0) → Type 0
IfPoint (answer.Empty s) P = Unit {0}
IfPoint (answer.Point p) P = P p.items

-- where a decision says that there is no point, by a tree
abbrev pub IfCertified : Decision → (Tree Absurd → Type 0) → Type 0
IfCertified (decision.Empty t) P = P t
IfCertified (decision.Point p) P = Unit {0}

-- where it gives a point
abbrev pub IfMet : Decision → (List ℤ → Type 0) → Type 0
IfMet (decision.Empty t) P = Unit {0}
IfMet (decision.Point p) P = P p.items
