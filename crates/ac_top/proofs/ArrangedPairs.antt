-- What is known of the pairs of arrangements, with one output.
use Rattle.std.proofs.Common.{◌≡◌, ◌<◌, ℕ, ℤ, zero, suc, List, [], ◌∷◌, ◌||◌, length, min, slice_index_or, Bool, true, false, nat_eq, Option, None, Some, MatchOption, refl, sym, ap, subst, arith}
use Rattle.std.specs.List.{list_any}
use Rattle.std.proofs.lemmas.Bool.{eq-eqb}
use Rattle.std.proofs.lemmas.Bool.Decides.{Decides-eqb}
use Rattle.ac_syntax.specs.ExecutedCalls.{HaveArities}
use Rattle.ac_syntax.specs.Outputs.{IsValuation, SameOutput}
use Rattle.ac_syntax.specs.declared.tree.Pair.{Pair}
use Rattle.ac_claims.specs.Soundness as judge
use Rattle.ac_assoc_law.specs.ArrangedPairs.{PairCanArrange, arranged_pair}
use Rattle.ac_assoc_law.specs.ChainSameness.{SameUnderChains}
use Rattle.ac_assoc_law.proofs.Sharing.{same_arranged}
use Rattle.ac_assoc_law.proofs.Staying.{pairs_are_ready}
use Rattle.ac_assoc_law.proofs.StayingArities.{pairs_have_arities}
use Rattle.ac_assoc.specs.ArrangementFaults.{IsFault, fault_of}
use Rattle.ac_assoc.specs.declared.types.AssocFault.{AssocFault}
use Rattle.ac_assoc.specs.declared.types.AssocFault.TheVariants.{Arity, Long, Memory}
use Rattle.ac_assoc.specs.ChosenOrders.{chosen, number_at, product}
use Rattle.ac_assoc.specs.ProgramChains.{chains_of_pair}
use Rattle.ac_assoc.proofs.Faultless.{without_fault}
use Rattle.ac_top.specs.ArrangementReports.{IsWithoutValuation, arrangement, arrangements_of, tried_of}
use Rattle.ac_top.specs.ArrangementLines.{fault_line}
use Rattle.ac_top.specs.ArrangementStages.{IsFinding, IsRegrouped}
use Rattle.ac_top.specs.ProgramAnswers.{AreLowered}
use Rattle.ac_top.specs.declared.arrangements.Regrouped.{Regrouped}
use Rattle.ac_top.specs.declared.findings.Finding.{Finding}
use Rattle.ac_top.proofs.ArrangedLowerings.{left_lowered, right_lowered}
use Rattle.ac_top.proofs.Lowerings.{judged}

-- ---- outputs

pub listed_at : (os : List ℕ) (i : ℕ) → i < length os → list_any (nat_eq (slice_index_or os i 0)) os ≡ true
listed_at [] i h = absurd (omega (arith, h))
listed_at (p ∷ os) zero h = ap (λ b. b || list_any (nat_eq p) os) (eq-eqb p p refl)
listed_at (p ∷ os) (suc i) h = by (nat_eq (slice_index_or os i 0) p) (listed_at os i (omega (arith, h)))
  where
    by : (b : Bool) → list_any (nat_eq (slice_index_or os i 0)) os ≡ true → (b || list_any (nat_eq (slice_index_or os i 0)) os) ≡ true
    by true e = refl
    by false e = e

only : (b : Bool) → (b || false) ≡ true → b ≡ true
only true h = refl
only false h = h

one_listed : (os : List ℕ) (output o : ℕ) → list_any (nat_eq output) os ≡ true → list_any (nat_eq o) (output ∷ []) ≡ true → list_any (nat_eq o) os ≡ true
one_listed os output o h k = let e : o ≡ output = (Decides-eqb o output).0 (only (nat_eq o output) k) in subst (λ (q : ℕ). list_any (nat_eq q) os ≡ true) (sym e) h

-- ---- the pair of an arrangement

module _ (names : List (List ℕ)) (pair : Pair) (output number : ℕ) where
  abbrev choice : ℕ → ℕ → ℕ
  choice = number_at (chosen (chains_of_pair names pair) number)

  pub one_paired : judge.ArePaired pair → list_any (nat_eq output) pair.outputs ≡ true → judge.ArePaired (arrangement names pair output number)
  one_paired h at =
      let ready = pairs_are_ready names choice pair h.left h.right in
      record { left = ready.0; right = ready.1; context = h.context; params = h.params; extents = λ o listed params. h.extents o (one_listed pair.outputs output o at listed) params }

  pub one_has_arities : HaveArities pair.left.body × HaveArities pair.right.body → HaveArities (arrangement names pair output number).left.body × HaveArities (arrangement names pair output number).right.body
  one_has_arities h = pairs_have_arities names choice pair h.0 h.1

  pub one_lowered : judge.ArePaired pair → AreLowered pair → AreLowered (arrangement names pair output number)
  one_lowered paired h = record { left = left_lowered names choice pair paired.left h.left; right = right_lowered names choice pair paired.right h.right }

  -- the context is that of the pair
  pub none_met : IsWithoutValuation (arrangement names pair output number) → IsWithoutValuation pair
  none_met h = record { stops = h.stops; none = λ params v. h.none params (record { each = v.each; context = v.context }) }

  pub same_valuation : (params : List ℤ) → IsValuation (arrangement names pair output number) params → IsValuation pair params
  same_valuation params v = record { each = v.each; context = v.context }

  same_pair : SameOutput (arrangement names pair output number) output → SameOutput (arranged_pair names choice pair) output
  same_pair h = λ params v e is. h params (record { each = v.each; context = v.context }) e is

  pub same_chains : PairCanArrange names pair → SameOutput (arrangement names pair output number) output → SameUnderChains names pair output
  same_chains can h = same_arranged names choice pair output can (same_pair h)

-- ---- a pair with its chains

pub asked_paired : (asked : Regrouped) → IsRegrouped asked → judge.ArePaired asked.pair.now
asked_paired asked h = judged asked.pair.now h.read

pub asked_can : (asked : Regrouped) → IsRegrouped asked → PairCanArrange asked.symbols.now asked.pair.now
asked_can asked h = without_fault asked.symbols.now asked.pair.now h.arities.0 h.arities.1 h.fault

tried_numbers : (p q count tried : ℕ) → p ≡ q → count ≡ min p 1025 → tried ≡ min count 1024 → (tried ≡ min q 1024) × (count ≡ min q 1025)
tried_numbers p q count tried same c t = (omega (arith, same, c, t), omega (arith, same, c))

-- how many are tried, and counted
pub tried_are : (asked : Regrouped) → IsRegrouped asked → (count tried : ℕ) → count ≡ min (product asked.chains.now) 1025 → tried ≡ min count 1024
    → (tried ≡ tried_of asked.symbols.now asked.pair.now) × (count ≡ min (arrangements_of asked.symbols.now asked.pair.now) 1025)
tried_are asked h count tried c t = tried_numbers (product asked.chains.now) (arrangements_of asked.symbols.now asked.pair.now) count tried (ap product h.chains) c t

-- what is found in the pair of an arrangement
pub found_in : (names : List (List ℕ)) (pair : Pair) (output number : ℕ) (made : Pair) (found : Option Finding) → made ≡ arrangement names pair output number → MatchOption found (IsWithoutValuation made) (IsFinding made output)
    → MatchOption found (IsWithoutValuation pair) (IsFinding (arrangement names pair output number) output)
found_in names pair output number made None same h = none_met names pair output number (subst IsWithoutValuation same h)
found_in names pair output number made (Some f) same h = subst (λ (p : Pair). IsFinding p output f) same h

-- the fault of a chain that has a line
pub fault_is : (names : List (List ℕ)) (pair : Pair) (a b first second : List ℕ) (fault : AssocFault) (text : List ℕ) → IsFault names pair fault → fault_line a b first second fault ≡ Some text → fault_of names pair ≡ Some fault
fault_is names pair a b first second (Arity side place) text is said = is
fault_is names pair a b first second (Long side place) text is said = is
fault_is names pair a b first second (Memory e) text is said = absurd cc
