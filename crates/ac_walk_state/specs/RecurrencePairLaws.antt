-- The laws on what is known at recurrence pairs.
use Rattle.std.specs.Prelude.{◌≡◌, ℤ, List, ◌++◌, length, true}
use Rattle.ac_syntax.specs.declared.tree.Order.{Order}
use Rattle.ac_syntax.specs.declared.tree.Position.{Position}
use Rattle.ac_forms.specs.Rows.{Meets}
use Rattle.ac_widen.specs.Claims.{IsClaimRow}
use Rattle.ac_widen.specs.Combinations.{Each, InHull}
use Rattle.ac_widen.specs.Derivations.{EntryOf, Justified}
use Rattle.ac_widen.specs.Setting.{Setting}
use Rattle.ac_widen.specs.declared.derivation.Reason.{Reason}
use Rattle.ac_walk_state.specs.RecurrencePairs.{WideningPointOf, positions, claim_of}
use Rattle.ac_walk_state.specs.RecurrencePairInvariant.{IsWideningPoint, IsWideningPointIn, IsReasonAt, IsTemplateAt}
use Rattle.ac_walk_state.specs.declared.template.Template.{Template}

-- what is right stays so as entries are added
abbrev pub WideningPointsStay : Type 0
WideningPointsStay = (t : Template) (es more : List (EntryOf (Position × Position))) (k : WideningPointOf) → IsWideningPoint t es k → IsWideningPoint t (es ++ more) k

-- and is right in a setting with that template
abbrev pub AreWideningPointsIn : Setting (Position × Position) → Type 0
AreWideningPointsIn s = (t : Template) (es : List (EntryOf (Position × Position))) (k : WideningPointOf) → IsWideningPoint t es k → k.hull.columns ≡ s.width (positions k) → IsTemplateAt s (positions k) t → IsWideningPointIn s es k

-- each row of a claim is an equality, a template row, or met by no point
abbrev pub HaveClaimRows : Setting (Position × Position) → Type 0
HaveClaimRows s = (es : List (EntryOf (Position × Position))) (k : WideningPointOf) → IsWideningPointIn s es k → Each (IsClaimRow (s.template (positions k))) (claim_of k).rows

-- a point that meets a claim is in the hull of its members
abbrev pub ClaimsAreInHulls : Type 0
ClaimsAreInHulls = (t : Template) (es : List (EntryOf (Position × Position))) (k : WideningPointOf) (q : List ℤ) → IsWideningPoint t es k → length q ≡ k.hull.columns → Meets (claim_of k).rows q → InHull k.hull.members q

-- a combination justifies a point of the claim
abbrev pub ReasonsJustify : Setting (Position × Position) → (Position × Position → Order) → Type 0
ReasonsJustify s order =
    (es : List (EntryOf (Position × Position))) (k : WideningPointOf) (q : List ℤ) (r : Reason) → IsWideningPointIn s es k → s.recurrent (positions k) ≡ true → s.Instance (positions k) q → length q ≡ k.hull.columns
    → Meets (claim_of k).rows q → IsReasonAt k q r → Justified s order es (positions k) q r
