-- Paths of steps, and the entries that they add to a derivation.
use Rattle.std.specs.Prelude.{ℕ, suc, ℤ, List, [], ◌∷◌}
use Rattle.ac_syntax.specs.declared.tree.Order.{Order}
use Rattle.ac_widen.specs.Derivations.{EntryOf, StandsAt}
use Rattle.ac_widen.specs.declared.derivation.Reason.TheVariants.{Step}
use Rattle.ac_widen.specs.Setting.{Setting}

-- the pairs follow one another by steps, from a pair on
abbrev pub StepsOn : {K : Type 0} → Setting K → (K → Order) → K → List ℤ → List (K × List ℤ) → Type 0
StepsOn s order k p [] = Unit {0}
StepsOn s order k p (c ∷ cs) = s.Step (order k) k p c.0 c.1 × StepsOn s order c.0 c.1 cs

-- the entries of a path that goes on from entry i, which is the last
abbrev pub path_entries : {K : Type 0} → ℕ → List (K × List ℤ) → List (EntryOf K)
path_entries i [] = []
path_entries i (c ∷ cs) = record { positions = c.0; point = c.1; reason = Step i } ∷ path_entries (suc i) cs

-- the entries with these numbers have the positions and these points
abbrev pub AreAt : {K : Type 0} → List (EntryOf K) → K → List ℕ → List (List ℤ) → Type 0
AreAt es k [] [] = Unit {0}
AreAt es k [] (p ∷ ps) = ⊥
AreAt es k (n ∷ ns) [] = ⊥
AreAt es k (n ∷ ns) (p ∷ ps) = StandsAt es n k p × AreAt es k ns ps
