-- Pairs that are handled: they stop at the claim of a recurrence pair, take another claim, or go on by steps to pairs that are handled.
use Rattle.std.proofs.Common.{◌≡◌, inl, inr, ℤ, List, Bool, true, false, refl}
use Rattle.ac_syntax.specs.declared.tree.Order.{Order}
use Rattle.ac_forms.specs.Rows.{Meets}
use Rattle.ac_forms.specs.declared.row.Row.{Row}
use Rattle.ac_widen.specs.Combinations.{Each}
use Rattle.ac_widen.specs.Setting.{Setting, IsLawful}
use Rattle.ac_widen.specs.Claims.{IsClaimRow, IsFine, IsStart, Leads, once, then, Stand}
use Rattle.ac_widen.proofs.Standing.{stand_from_trees}

-- handled behind a step (true), or where a tree begins (false); `Claimed` says of which pairs some claim is
pub data Handled {K : Type 0} (s : Setting K) (order : K → Order) (claim : K → List Row) (Claimed : K → List ℤ → Type 0) : Bool → K → List ℤ → Type 0 where
  goes : (b : Bool) (k : K) (p : List ℤ) → (b ≡ true → s.recurrent k ≡ false) → ¬ (s.Mismatch k p) → ((j : K) (q : List ℤ) → s.Step (order k) k p j q → Handled s order claim Claimed true j q) → Handled s order claim Claimed b k p
  stops : (k : K) (p : List ℤ) → s.recurrent k ≡ true → Meets (claim k) p → Handled s order claim Claimed true k p
  shares : (k : K) (p : List ℤ) → s.recurrent k ≡ false → Claimed k p → Handled s order claim Claimed true k p

pub not_both : {P : Type 0} (b : Bool) → b ≡ true → b ≡ false → P
not_both b e f = absurd cc

module _ {K : Type 0} (s : Setting K) (order : K → Order) (claim : K → List Row) (Claimed : K → List ℤ → Type 0) (valid : (k : K) (p : List ℤ) → Claimed k p → Handled s order claim Claimed false k p) where
  -- a pair where a tree begins goes on
  begun : {b : Bool} {k : K} {p : List ℤ} → Handled s order claim Claimed b k p → b ≡ false → ¬ (s.Mismatch k p) × ((j : K) (q : List ℤ) → s.Step (order k) k p j q → Handled s order claim Claimed true j q)
  begun (goes b k p f n go) e = (n, go)
  begun (stops k p t m) e = not_both true refl e
  begun (shares k p t c) e = not_both true refl e

  -- and so does one that is no recurrence pair
  onward : {b : Bool} {k : K} {p : List ℤ} → Handled s order claim Claimed b k p → s.recurrent k ≡ false → (j : K) (q : List ℤ) → s.Step (order k) k p j q → Handled s order claim Claimed true j q
  onward (goes b k p f n go) e = go
  onward (stops k p t m) e = not_both (s.recurrent k) t e
  onward (shares k p f c) e = (begun (valid k p c) refl).1

  led : (k : K) (p : List ℤ) → Claimed k p → (j : K) (q : List ℤ) → Leads s order k p j q → Handled s order claim Claimed true j q
  led k p c _ _ (once j q d) = (begun (valid k p c) refl).1 j q d
  led k p c _ _ (then i o j q l f d) = onward (led k p c i o l) f j q d

  fine : IsLawful s → {b : Bool} {k : K} {p : List ℤ} → Handled s order claim Claimed b k p → b ≡ true → IsFine s claim k p
  fine laws (goes b k p f n go) e = ((λ t. not_both (s.recurrent k) t (f e)), n)
  fine laws (stops k p t m) e = ((λ _. m), laws.moves k p t)
  fine laws (shares k p f c) e = ((λ t. not_both (s.recurrent k) t f), (begun (valid k p c) refl).0)

  -- where some claim is of each start, the claims stand
  pub claims_stand : IsLawful s → ((k : K) → s.recurrent k ≡ true → Each (IsClaimRow (s.template k)) (claim k)) → ((k : K) (p : List ℤ) → IsStart s claim k p → Claimed k p) → Stand s order claim
  claims_stand laws rows starts =
      stand_from_trees s laws order claim rows (λ k p o j q l. fine laws (led k p (starts k p (inl o)) j q l) refl) (λ k p t i m j q l. fine laws (led k p (starts k p (inr (t, i, m))) j q l) refl)
