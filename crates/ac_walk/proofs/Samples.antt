-- The samples of a pair, by what the question of its context gives.
use Rattle.std.proofs.Common.{◌≡◌, ◌⊎◌, inl, inr, ℕ, ℤ, List, [], ◌∷◌, ◌++◌, take, length, true, cond, refl, sym, ap, subst, ◌∙◌, arith}
use Rattle.std.specs.Prelude.{filter}
use Rattle.std.proofs.lemmas.List.{take_all}
use Rattle.ac_forms.specs.ListMembers.{IsAmong}
use Rattle.ac_forms.specs.Rows.{CanTest}
use Rattle.ac_forms.specs.declared.conj.Conj.{Conj}
use Rattle.ac_omega_certify.specs.declared.strategy.Strategy.TheVariants.{Full}
use Rattle.ac_omega.specs.Decisions.{walk_of, EndsAt, IsLarge, IsSpent, IsWide}
use Rattle.ac_omega.specs.Walk as def
use Rattle.ac_syntax.specs.declared.tree.Pair.{Pair}
use Rattle.ac_poly.specs.declared.types.Model.{Model}
use Rattle.ac_flow.specs.Contexts.{ContextStops}
use Rattle.ac_flow.specs.declared.types.ContextStop.TheVariants as context
use Rattle.ac_walk.specs.UnknownCauses.{IsContextPoint, left_model}
use Rattle.ac_walk.specs.TriedValuations.{AreSamples, in_64_bits, samples_of, uniform}

among_behind : (xs ys : List (List ℤ)) (x : List ℤ) → IsAmong x ys → IsAmong x (xs ++ ys)
among_behind [] ys x h = h
among_behind (z ∷ xs) ys x h = inr (among_behind xs ys x h)

-- a point in 64 bits is kept
kept_among : (at : List ℤ) (rest : List (List ℤ)) → in_64_bits at ≡ true → IsAmong at (filter in_64_bits (at ∷ []) ++ rest)
kept_among at rest h = subst (λ b. IsAmong at (cond b (at ∷ []) [] ++ rest)) (sym h) (inl refl)

-- a walk finds one point
one_point : {S : Type 0} (w : def.Walked S) (p q : List ℤ) → w ≡ def.Found p → w ≡ def.Found q → p ≡ q
one_point w p q a b = cc

-- the question of the context gives this point
pub point_samples : (budget : ℕ) (pair : Pair) (m : Model) (p : List ℤ) → m ≡ left_model pair → IsContextPoint budget m p → length p ≡ m.params → AreSamples budget pair (samples_of pair p)
point_samples budget pair m p is found each at (inr u) = among_behind (filter in_64_bits (take (length pair.left.params) p ∷ [])) (uniform pair) at u
point_samples budget pair m p is found each at (inl (other, fits)) =
    let here : IsContextPoint budget (left_model pair) p = subst (λ (n : Model). IsContextPoint budget n p) is found in
    let same : at ≡ p = one_point _ at p other.0 here.0 in
    let params : length p ≡ length pair.left.params = each ∙ ap (λ (n : Model). n.params) is in
    let whole : take (length pair.left.params) p ≡ p = take_all (length pair.left.params) p (omega (arith, params)) in
    subst (λ z. IsAmong at (filter in_64_bits (z ∷ []) ++ uniform pair)) (same ∙ sym whole) (kept_among at (uniform pair) fits)

-- a question that stops gives none
wide_or_large : (budget : ℕ) (q : Conj) (p : List ℤ) → EndsAt p q (walk_of Full budget q) → IsWide q (walk_of Full budget q) ⊎ IsLarge (walk_of Full budget q) → ⊥
wide_or_large budget q p e (inl (inl wide)) = let found = e.0 in absurd cc
wide_or_large budget q p e (inl (inr (other, found, fails))) = fails (subst (λ z. CanTest q.rows z) (one_point _ p other e.0 found) e.1)
wide_or_large budget q p e (inr (k, s, empty, large)) = let found = e.0 in absurd cc

too_costly : (budget : ℕ) (q : Conj) (p : List ℤ) (c : ℕ) → EndsAt p q (walk_of Full budget q) → IsSpent c (walk_of Full budget q) → ⊥
too_costly budget q p c e (j, spent, is) = let found = e.0 in absurd cc

pub overflow_gives_none : (budget : ℕ) (m : Model) (q : Conj) (p : List ℤ) → ContextStops budget m (context.Overflow q) → IsContextPoint budget m p → ⊥
overflow_gives_none budget m q p stops e = wide_or_large budget q p (subst (λ (z : Conj). EndsAt p z (walk_of Full budget z)) (sym stops.0) e) stops.1

pub spent_gives_none : (budget : ℕ) (m : Model) (q : Conj) (cost : ℕ) (p : List ℤ) → ContextStops budget m (context.Spent q cost) → IsContextPoint budget m p → ⊥
spent_gives_none budget m q cost p stops e = too_costly budget q p cost (subst (λ (z : Conj). EndsAt p z (walk_of Full budget z)) (sym stops.0) e) stops.1

-- then the uniform valuations are all
pub samples_without : (budget : ℕ) (pair : Pair) (p : List ℤ) → ((q : List ℤ) → IsContextPoint budget (left_model pair) q → ⊥) → AreSamples budget pair (samples_of pair p)
samples_without budget pair p none at (inl (found, fits)) = absurd (none at found)
samples_without budget pair p none at (inr u) = among_behind (filter in_64_bits (take (length pair.left.params) p ∷ [])) (uniform pair) at u
