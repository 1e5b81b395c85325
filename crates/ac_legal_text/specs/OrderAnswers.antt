-- What is answered on the text of a schedule.
use Rattle.std.specs.Prelude.{ℕ}
use Rattle.ac_legal_text.specs.declared.types.OrderFault.{OrderFault}
use Rattle.ac_legal_text.specs.declared.types.OrderFault.TheVariants.{Line, Memory}

-- of the line that is at fault
abbrev pub IfLine : OrderFault → (ℕ → Type 0) → Type 0
IfLine (Line number) P = P number
IfLine (Memory e) P = Unit {0}
