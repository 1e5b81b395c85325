-- What a call on the machine does, where certain things happen in it.
use Rattle.std.specs.Prelude.{◌≡◌, ℕ, List, Result, Ok, Err}
use Rattle.ac_terms.specs.Table.{Keeps}
use Rattle.ac_instance.specs.declared.state.Machine.{Machine}
use Rattle.ac_instance.specs.declared.halt.Halt.{Halt}
use Rattle.ac_instance.specs.declared.halt.Halt.TheVariants.{OutsideContext, TooLarge, Range, Wide, Memory}
use Rattle.ac_instance.specs.Events.{Event, reached}

-- a halt is the one that is due; want of memory may come at any time
abbrev pub IsDue : Result ℕ Halt → Halt → Type 0
IsDue due OutsideContext = due ≡ Err OutsideContext
IsDue due (TooLarge n) = due ≡ Err (TooLarge n)
IsDue due (Range side place value) = due ≡ Err (Range side place value)
IsDue due Wide = due ≡ Err Wide
IsDue due (Memory e) = Unit {0}

-- the events are counted, and each id still stands for its term
pub record Advances (before : Machine) (happened : List Event) (now : Machine) : Type 0 where
  pub events : reached before.limit before.events happened ≡ Ok now.events
  pub limit : now.limit ≡ before.limit
  pub kept : Keeps before.table now.table
  pub names : now.table.commutative ≡ before.table.commutative

-- all of it happened, or the halt that was due came first
abbrev pub Steps : {T : Type 0} → Machine → List Event → Result T Halt → Machine → Type 0
Steps before happened (Ok x) now = Advances before happened now
Steps before happened (Err h) now = IsDue (reached before.limit before.events happened) h
