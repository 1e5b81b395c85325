-- The questions that cutting asks, and when one of them stops it.
use Rattle.std.specs.Prelude.{◌≡◌, ◌⊎◌, ℕ, List, [], ◌∷◌, ◌++◌, false}
use Rattle.std.specs.List.{Contains}
use Rattle.ac_forms.specs.Negation.{NegationFits}
use Rattle.ac_forms.specs.declared.conj.Conj.{Conj}
use Rattle.ac_forms.specs.declared.row.Row.{Row}
use Rattle.ac_forms.specs.Standing.{is_among}
use Rattle.ac_omega_certify.specs.declared.strategy.Strategy.TheVariants.{Full as Fully, Economical}
use Rattle.ac_omega.specs.Decisions.{walk_of, IsWide, IsSpent}
use Rattle.ac_omega.specs.Either.{StopsFinding}
use Rattle.ac_flow.specs.Cuts.{HasPoint, inside, row_parts, parts_outside}
use Rattle.ac_flow.specs.declared.cut.CutStop.{CutStop}
use Rattle.ac_flow.specs.declared.cut.CutStop.TheVariants.{Overflow, Spent, Full, Memory}

-- ---- the questions

-- what cutting by the kill pieces forms of a case: the case itself, and of what meets a kill piece the parts outside it
pub data IsCutCase (case : Conj) (kills : List (List Row)) : Conj → Type 0 where
  Itself : IsCutCase case kills case
  Outside : (c d : Conj) (kill : List Row) → IsCutCase case kills c → Contains kills kill → HasPoint (inside c kill) → Contains (parts_outside c kill) d → IsCutCase case kills d

abbrev pub AreCutCases : Conj → List (List Row) → List Conj → Type 0
AreCutCases case kills [] = Unit {0}
AreCutCases case kills (c ∷ cs) = IsCutCase case kills c × AreCutCases case kills cs

-- a cut case that has a point, with the rows of a kill piece
pub record IsInsideKill (case : Conj) (kills : List (List Row)) (q : Conj) : Type 0 where
  pub cut_case : Conj
  pub cut : IsCutCase case kills cut_case
  pub point : HasPoint cut_case
  pub kill : List Row
  pub among : Contains kills kill
  pub is : q ≡ inside cut_case kill

-- whether a cut case has a point, and whether it meets a kill piece
abbrev pub IsCutQuestion : Conj → List (List Row) → Conj → Type 0
IsCutQuestion case kills q = IsCutCase case kills q ⊎ IsInsideKill case kills q

-- ---- the stops of a question

-- the economical search for a point stops, and of the full one a number leaves `i128`
abbrev pub IsTooWide : ℕ → Conj → Type 0
IsTooWide budget q = StopsFinding q (walk_of Economical budget q) × IsWide q (walk_of Fully budget q)

-- and the full one costs more than the budget, k where it is given up
abbrev pub CostsTooMuch : ℕ → ℕ → Conj → Type 0
CostsTooMuch budget k q = StopsFinding q (walk_of Economical budget q) × IsSpent k (walk_of Fully budget q)

-- a question stops cutting: it is too wide, or costs more than the budget
abbrev pub StopsOn : ℕ → Conj → CutStop → Type 0
StopsOn budget q (Overflow c) = (c ≡ q) × IsTooWide budget q
StopsOn budget q (Spent c k) = (c ≡ q) × CostsTooMuch budget k q
StopsOn budget q Full = Unit {0}
StopsOn budget q (Memory e) = Unit {0}

-- ---- the stops of one conjunction

-- the row does not stand in the conjunction, and its negation is not made in `i128`
abbrev pub LacksNegation : Conj → Row → Type 0
LacksNegation c r = (is_among r c.rows ≡ false) × ¬ NegationFits r

-- a part in which the row fails stops cutting, or is not formed: then the conjunction is shown
abbrev pub RowStops : ℕ → Conj → Row → CutStop → Type 0
RowStops budget c r (Overflow q) = (Contains (row_parts c r) q × IsTooWide budget q) ⊎ ((q ≡ c) × LacksNegation c r)
RowStops budget c r (Spent q k) = Contains (row_parts c r) q × CostsTooMuch budget k q
RowStops budget c r Full = Unit {0}
RowStops budget c r (Memory e) = Unit {0}

-- a part outside a kill piece is not formed: the conjunction is shown, with the rows of the piece before the one that fails in it
pub record LacksPart (c : Conj) (kill : List Row) (q : Conj) : Type 0 where
  pub before : List Row
  pub row : Row
  pub behind : List Row
  pub split : before ++ row ∷ behind ≡ kill
  pub is : q ≡ inside c before
  pub lacks : LacksNegation q row

-- a part outside a kill piece stops cutting, or is not formed
abbrev pub OutsideStops : ℕ → Conj → List Row → CutStop → Type 0
OutsideStops budget c kill (Overflow q) = (Contains (parts_outside c kill) q × IsTooWide budget q) ⊎ LacksPart c kill q
OutsideStops budget c kill (Spent q k) = Contains (parts_outside c kill) q × CostsTooMuch budget k q
OutsideStops budget c kill Full = Unit {0}
OutsideStops budget c kill (Memory e) = Unit {0}

-- the question whether the conjunction meets the kill piece does, or where it meets it a part outside
abbrev pub OneStops : ℕ → Conj → List Row → CutStop → Type 0
OneStops budget c kill e = StopsOn budget (inside c kill) e ⊎ (HasPoint (inside c kill) × OutsideStops budget c kill e)

-- ---- the stops of a case

-- a part of a cut case outside a kill piece that it meets is not formed
pub record LacksCut (case : Conj) (kills : List (List Row)) (q : Conj) : Type 0 where
  pub cut_case : Conj
  pub cut : IsCutCase case kills cut_case
  pub kill : List Row
  pub among : Contains kills kill
  pub meets : HasPoint (inside cut_case kill)
  pub lacks : LacksPart cut_case kill q

-- a question of the cutting does, or a part is not formed
abbrev pub CutStops : ℕ → Conj → List (List Row) → CutStop → Type 0
CutStops budget case kills (Overflow q) = (IsCutQuestion case kills q × IsTooWide budget q) ⊎ LacksCut case kills q
CutStops budget case kills (Spent q k) = IsCutQuestion case kills q × CostsTooMuch budget k q
CutStops budget case kills Full = Unit {0}
CutStops budget case kills (Memory e) = Unit {0}

-- there is no more room exactly where so many are kept
abbrev pub IfFull : CutStop → Type 0 → Type 0
IfFull (Overflow c) P = Unit {0}
IfFull (Spent c k) P = Unit {0}
IfFull Full P = P
IfFull (Memory e) P = Unit {0}
