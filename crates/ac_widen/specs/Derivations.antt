-- Derivations: lists of entries that show members of the widened obligations.
use Rattle.std.specs.Prelude.{◌≡◌, ℕ, ℤ, List, [], ◌∷◌, ◌++◌, map, Some, true, slice_get}
use Rattle.ac_syntax.specs.declared.tree.Order.{Order}
use Rattle.ac_syntax.specs.declared.tree.Position.{Position}
use Rattle.ac_forms.specs.Rows.{Holds}
use Rattle.ac_forms.specs.declared.row.Row.{Row}
use Rattle.ac_forms.specs.ListMembers.{IsAmong}
use Rattle.ac_widen.specs.Combinations.{IsCombination}
use Rattle.ac_widen.specs.Setting.{Setting}
use Rattle.ac_widen.specs.declared.derivation.Entry.{Entry}
use Rattle.ac_widen.specs.declared.derivation.Reason.{Reason}
use Rattle.ac_widen.specs.declared.derivation.Reason.TheVariants.{Output, Step, Hull}

-- an entry: a pair of positions, a point, and why it stands
pub record EntryOf (K : Type 0) : Type 0 where
  pub positions : K
  pub point : List ℤ
  pub reason : Reason

-- what an entry of the program stands for
abbrev pub entry_of : Entry → EntryOf (Position × Position)
entry_of e = record { positions = (e.left, e.right); point = e.point; reason = e.reason }

-- entry i has these positions and that point
abbrev pub StandsAt : {K : Type 0} → List (EntryOf K) → ℕ → K → List ℤ → Type 0
StandsAt {K} es i k p = (e : EntryOf K) × (slice_get es i ≡ Some e) × (e.positions ≡ k) × (e.point ≡ p)

-- the weights stand at entries of the positions with these points
abbrev pub Weighs : {K : Type 0} → List (EntryOf K) → K → List (ℕ × ℤ) → List (List ℤ) → Type 0
Weighs es k [] [] = Unit {0}
Weighs es k [] (p ∷ ps) = ⊥
Weighs es k (w ∷ ws) [] = ⊥
Weighs es k (w ∷ ws) (p ∷ ps) = StandsAt es w.0 k p × Weighs es k ws ps

-- each template row that q breaks is broken by an earlier entry of the positions
abbrev pub BrokenEarlier : {K : Type 0} → List (EntryOf K) → K → List Row → List ℤ → Type 0
BrokenEarlier es k template q = (r : Row) → IsAmong r template → ¬ (Holds r q) → (i : ℕ) × (b : List ℤ) × StandsAt es i k b × ¬ (Holds r b)

-- a hull entry's m and weights combine earlier entries
abbrev pub IsHullOf : {K : Type 0} → Setting K → List (EntryOf K) → K → List ℤ → ℤ → List (ℕ × ℤ) → Type 0
IsHullOf s es k q m ws =
    (s.recurrent k ≡ true) × s.Instance k q × ((ps : List (List ℤ)) × Weighs es k ws ps × IsCombination q m (map (λ w. w.1) ws) ps) × BrokenEarlier es k (s.template k) q

-- the reason is good, after these entries
abbrev pub Justified : {K : Type 0} → Setting K → (K → Order) → List (EntryOf K) → K → List ℤ → Reason → Type 0
Justified s order es k q Output = s.Output k q
Justified {K} s order es k q (Step i) = (j : K) × (p : List ℤ) × StandsAt es i j p × s.Step (order j) j p k q
Justified s order es k q (Hull m ws) = IsHullOf s es k q m ws

-- each of the entries is justified by those before it
abbrev pub Derives : {K : Type 0} → Setting K → (K → Order) → List (EntryOf K) → List (EntryOf K) → Type 0
Derives s order before [] = Unit {0}
Derives s order before (e ∷ es) = Justified s order before e.positions e.point e.reason × Derives s order (before ++ e ∷ []) es

-- the list derives each of its entries
abbrev pub IsDerivation : {K : Type 0} → Setting K → (K → Order) → List (EntryOf K) → Type 0
IsDerivation s order es = Derives s order [] es
