-- The stops of cases as those of cuts, and what is kept where there is no more room.
use Rattle.std.specs.Prelude.{◌≡◌, List}
use Rattle.ac_forms.specs.declared.conj.Conj.{Conj}
use Rattle.ac_flow.specs.declared.cut.CutStop.{CutStop}
use Rattle.ac_flow.specs.declared.cut.CutStop.TheVariants as cut
use Rattle.ac_flow.specs.declared.stop.CaseStop.{CaseStop}
use Rattle.ac_flow.specs.declared.stop.CaseStop.TheVariants.{Overflow, Spent, Full, Memory}

abbrev pub plain : CaseStop → CutStop
plain (Overflow q) = cut.Overflow q
plain (Spent q k) = cut.Spent q k
plain (Full kept) = cut.Full
plain (Memory e) = cut.Memory e

-- a fact of what is kept
abbrev pub IfFilled : CaseStop → (List Conj → Type 0) → Type 0
IfFilled (Overflow q) P = Unit {0}
IfFilled (Spent q k) P = Unit {0}
IfFilled (Full kept) P = P kept
IfFilled (Memory e) P = Unit {0}

-- the stop of a cut, unless memory wants
abbrev pub IsStopOf : CutStop → CaseStop → Type 0
IsStopOf stop (Overflow q) = stop ≡ cut.Overflow q
IsStopOf stop (Spent q k) = stop ≡ cut.Spent q k
IsStopOf stop (Full kept) = stop ≡ cut.Full
IsStopOf stop (Memory e) = Unit {0}
