-- What meets the claim of found members is an obligation, and so is what it leads to.
use Rattle.std.proofs.Common.{◌≡◌, inl, inr, ℕ, length, ℤ, List, true}
use Rattle.ac_syntax.specs.declared.tree.Order.{Order}
use Rattle.ac_forms.specs.Rows.{Meets}
use Rattle.ac_forms.specs.declared.row.Row.{Row}
use Rattle.ac_widen.specs.Setting.{Setting}
use Rattle.ac_widen.specs.Obligations.{Obligation, Obligations, BrokenBy, step, hull}
use Rattle.ac_widen.specs.Claims.{Leads, once, then, IsClaimOf}
use Rattle.ac_widen.proofs.Tests.{all_meet_or}

-- each template row that a point of the claim breaks is broken by a found member
pub claim_broken : (width : ℕ) (template : List Row) (kept found : List (List ℤ)) (rows : List Row) (q : List ℤ) → IsClaimOf width template kept found rows → length q ≡ width → Meets rows q → BrokenBy template found q
claim_broken width template kept found rows q c w h r a n =
    elim (all_meet_or r found) [
      | inl all ↦ absurd (n (c.narrowed r q w a all h))
      | inr b ↦ b
    ]

module _ {K : Type 0} (s : Setting K) (order : K → Order) where
  -- an instance point that meets the claim of found members is an obligation
  pub claimed_obligation : (k : K) (kept found : List (List ℤ)) (rows : List Row) (q : List ℤ) → IsClaimOf (s.width k) (s.template k) kept found rows → Obligations s order k kept → Obligations s order k found
      → s.recurrent k ≡ true → s.Instance k q → length q ≡ s.width k → Meets rows q → Obligation s order k q
  claimed_obligation k kept found rows q c h g t inst w meets =
      let x = c.hull q w meets in
      hull k q x.0 x.1 kept found t inst h g x.2 (claim_broken (s.width k) (s.template k) kept found rows q c w meets)

  -- what an obligation leads to is one
  pub led_obligation : (k : K) (p : List ℤ) (j : K) (q : List ℤ) → Obligation s order k p → Leads s order k p j q → Obligation s order j q
  led_obligation k p _ _ o (once j q d) = step k p j q o d
  led_obligation k p _ _ o (then i r j q l f d) = step i r j q (led_obligation k p i r o l) d
