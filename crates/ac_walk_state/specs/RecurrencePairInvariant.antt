-- When what is known at a recurrence pair is right, and what a further member changes.
use Rattle.std.specs.Prelude.{◌≡◌, ◌⊎◌, ℕ, ℤ, pos, ◌≤ℤ◌, List, [], ◌∷◌, ◌++◌, zip, false}
use Rattle.ac_syntax.specs.declared.tree.Position.{Position}
use Rattle.ac_forms.specs.Rows.{Meets, CanTest}
use Rattle.ac_forms.specs.declared.row.Row.{Row}
use Rattle.ac_hull.specs.ColumnDifferences.{GapsFit}
use Rattle.ac_hull.specs.EliminationRange.{CanAdd, CanCombine}
use Rattle.ac_hull.specs.Hulls.{IsGrown, IsWithin, equalities_of}
use Rattle.ac_hull.specs.Templates.{template_rows}
use Rattle.ac_hull.specs.declared.stop.HullStop.{HullStop}
use Rattle.ac_hull.specs.declared.stop.HullStop.TheVariants.{Overflow, Memory}
use Rattle.ac_widen.specs.Combinations.{Each, IsCombination}
use Rattle.ac_widen.specs.Derivations.{EntryOf}
use Rattle.ac_widen.specs.Setting.{Setting}
use Rattle.ac_widen.specs.Walks.{Kept, IsKept, narrowed_by}
use Rattle.ac_widen.specs.declared.derivation.Reason.{Reason}
use Rattle.ac_widen.specs.declared.derivation.Reason.TheVariants.{Hull}
use Rattle.ac_walk_state.specs.RecurrencePairs.{WideningPointOf, positions}
use Rattle.ac_walk_state.specs.declared.template.Template.{Template}

-- what a walk keeps at the pair, where these are its template rows
abbrev pub kept_of : List Row → WideningPointOf → Kept
kept_of template k = record {
  found = k.members;
  found_at = k.places;
  members = k.hull.members;
  members_at = k.kept;
  equalities = equalities_of k.hull.columns k.hull.members;
  left = narrowed_by template k.members;
  rows = k.rows;
}

-- what is known at the pair is right in a setting, for these entries
abbrev pub IsWideningPointIn : Setting (Position × Position) → List (EntryOf (Position × Position)) → WideningPointOf → Type 0
IsWideningPointIn s es k = (k.hull.columns ≡ s.width (positions k)) × IsKept s es (positions k) (kept_of (s.template (positions k)) k)

-- the setting's template rows at the pair are those of a template
abbrev pub IsTemplateAt : Setting (Position × Position) → Position × Position → Template → Type 0
IsTemplateAt s widening_point t = s.template widening_point ≡ template_rows (s.width widening_point) t.thresholds t.moduli

-- the moduli of a template are at least 1
abbrev pub HasModuli : Template → Type 0
HasModuli t = Each (λ m. pos 1 ≤ℤ m) t.moduli

-- ---- without a setting

-- the template rows at a pair
abbrev pub template_at : Template → WideningPointOf → List Row
template_at t k = template_rows k.hull.columns t.thresholds t.moduli

-- the setting that says how many numbers a point has, and the template rows, and knows of no pairs
abbrev pub bare : ℕ → List Row → Setting (Position × Position)
bare width template = record {
  Output = λ _ _. ⊥;
  Step = λ _ _ _ _ _. ⊥;
  Mismatch = λ _ _. ⊥;
  Instance = λ _ _. ⊥;
  recurrent = λ _. false;
  is_site = λ _. false;
  template = λ _. template;
  width = λ _. width;
}

-- what is known at the pair is right by a template, for these entries; so it is in each setting with this template
abbrev pub IsWideningPoint : Template → List (EntryOf (Position × Position)) → WideningPointOf → Type 0
IsWideningPoint t es k = IsWideningPointIn (bare k.hull.columns (template_at t k)) es k

-- ---- members

-- the point is a further member, with the number of its entry: the hull keeps it where it was outside
pub record IsWith (old : WideningPointOf) (p : List ℤ) (place : ℕ) (new : WideningPointOf) : Type 0 where
  pub left : new.left ≡ old.left
  pub right : new.right ≡ old.right
  pub members : new.members ≡ old.members ++ p ∷ []
  pub places : new.places ≡ old.places ++ place ∷ []
  pub hull : (IsGrown old.hull p new.hull × (new.kept ≡ old.kept ++ place ∷ [])) ⊎ (IsWithin old.hull p new.hull × (new.kept ≡ old.kept))

-- a number is too large: of the hull's elimination at the point, or a difference of two columns at a member
abbrev pub IsTooLarge : WideningPointOf → List ℤ → HullStop → Type 0
IsTooLarge k p (Overflow ps) =
    ((¬ CanAdd k.hull.columns k.hull.members p) × (ps ≡ k.hull.members ++ p ∷ [])) ⊎ ((¬ Each GapsFit (k.members ++ p ∷ [])) × (ps ≡ k.members ++ p ∷ []))
IsTooLarge k p (Memory want) = Unit {0}

-- the template rows can be tested at the point, and where it meets them all, it can be combined from the members of the hull
abbrev pub CanMeet : WideningPointOf → List ℤ → Type 0
CanMeet k p = CanTest k.rows p × (Meets k.rows p → CanCombine k.hull.members p)

-- the reason is a combination of the hull's members that gives the point, by the numbers of their entries
abbrev pub IsReasonAt : WideningPointOf → List ℤ → Reason → Type 0
IsReasonAt k p r = (m : ℤ) × (ws : List ℤ) × (r ≡ Hull m (zip k.kept ws)) × IsCombination p m ws k.hull.members
