-- Why an unfolding stops: the stops of its questions.
use Rattle.std.proofs.Common.{◌≡◌, ◌⊎◌, inl, inr, ℕ, sym, subst}
use Rattle.std.specs.Prelude.{Err}
use Rattle.ac_forms.specs.declared.conj.Conj.{Conj}
use Rattle.ac_omega_certify.specs.declared.strategy.Strategy.TheVariants.{Full, Economical}
use Rattle.ac_omega.specs.Decisions.{walk_of, IsLarge, IsSpent, IsWide}
use Rattle.ac_omega.specs.Either.{FindsEither, SettlesEither, StopsDeciding, StopsFinding}
use Rattle.ac_omega.specs.declared.pieces.Stop.{Stop}
use Rattle.ac_omega.specs.declared.pieces.Stop.TheVariants as decision
use Rattle.ac_unfold.specs.UnfoldCauses.{stop_of, IsTooCostly, IsTooWide}
use Rattle.ac_unfold.specs.UnfoldStops.{StopsAsking}

-- a walk that finds nothing does not decide
not_decided : (q : Conj) (budget : ℕ) → StopsFinding q (walk_of Economical budget q) → StopsDeciding q (walk_of Economical budget q)
not_decided q budget (inl w) = inl (inl w)
not_decided q budget (inr s) = inr s

too_costly : (budget cost : ℕ) (q c : Conj) → c ≡ q → StopsDeciding q (walk_of Economical budget q) → IsSpent cost (walk_of Full budget q) → IsTooCostly budget cost c
unfolding IsTooCostly
too_costly budget cost q c e stops spent = subst (λ x. StopsDeciding x (walk_of Economical budget x) × IsSpent cost (walk_of Full budget x)) (sym e) (stops, spent)

too_wide : (budget : ℕ) (q c : Conj) → c ≡ q → StopsDeciding q (walk_of Economical budget q) → IsWide q (walk_of Full budget q) ⊎ IsLarge (walk_of Full budget q) → IsTooWide budget c
unfolding IsTooWide
too_wide budget q c e stops wide = subst (λ x. StopsDeciding x (walk_of Economical budget x) × (IsWide x (walk_of Full budget x) ⊎ IsLarge (walk_of Full budget x))) (sym e) (stops, wide)

-- a question that is settled
pub settle_stops : (budget : ℕ) (q : Conj) (stop : Stop) → SettlesEither (Err stop) q (walk_of Economical budget q) (walk_of Full budget q) → StopsAsking budget q (stop_of stop)
settle_stops budget q (decision.Overflow c) h = (h.1.0, too_wide budget q c h.1.0 h.0 h.1.1)
settle_stops budget q (decision.Spent c k) h = (h.1.0, too_costly budget k q c h.1.0 h.0 h.1.1)
settle_stops budget q (decision.Memory want) h = tt

-- a question of which a point is looked for
pub find_stops : (budget : ℕ) (q : Conj) (stop : Stop) → FindsEither (Err stop) q (walk_of Economical budget q) (walk_of Full budget q) → StopsAsking budget q (stop_of stop)
find_stops budget q (decision.Overflow c) h = (h.1.0, too_wide budget q c h.1.0 (not_decided q budget h.0) (inl h.1.1))
find_stops budget q (decision.Spent c k) h = (h.1.0, too_costly budget k q c h.1.0 (not_decided q budget h.0) h.1.1)
find_stops budget q (decision.Memory want) h = tt
