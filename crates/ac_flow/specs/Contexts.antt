-- Why there is no valuation of a context.
use Rattle.std.specs.Prelude.{ℕ, ◌≡◌, ◌⊎◌, List, ℤ, length}
use Rattle.ac_forms.specs.Rows.{Meets}
use Rattle.ac_omega_certify.specs.declared.strategy.Strategy.TheVariants.{Full as Fully}
use Rattle.ac_omega.specs.Decisions.{walk_of, IsWide, IsSpent, IsSmall, IsLarge}
use Rattle.ac_poly.specs.declared.types.Model.{Model}
use Rattle.ac_flow.specs.Writings.{over}
use Rattle.ac_flow.specs.declared.types.ContextStop.{ContextStop}
use Rattle.ac_flow.specs.declared.types.ContextStop.TheVariants.{EmptyContext, Overflow, Spent, Memory}

-- no valuation meets the context; or its question is too wide, or empty and too large for a certificate; or it costs more than
-- the budget
abbrev pub ContextStops : ℕ → Model → ContextStop → Type 0
ContextStops budget m EmptyContext = IsSmall (walk_of Fully budget (over m.params m.context)) × ((params : List ℤ) → length params ≡ m.params → Meets m.context params → ⊥)
ContextStops budget m (Overflow q) = (q ≡ over m.params m.context) × (IsWide q (walk_of Fully budget q) ⊎ IsLarge (walk_of Fully budget q))
ContextStops budget m (Spent q k) = (q ≡ over m.params m.context) × IsSpent k (walk_of Fully budget q)
ContextStops budget m (Memory e) = Unit {0}
