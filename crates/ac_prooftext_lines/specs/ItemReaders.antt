-- What a reader of a text finds.
use Rattle.std.specs.Prelude.{◌≡◌, ◌≤◌, ◌^◌, ℤ, List, length, Option, MatchOption}
use Rattle.ac_forms.specs.Fits.{AllFit}
use Rattle.ac_forms.specs.NormalRows.{trim}
use Rattle.ac_claims.specs.declared.item.Item.{Item}
use Rattle.ac_claims.specs.declared.item.Item.TheVariants as item
use Rattle.ac_prooftext_lines.specs.Spellable.{IsSpellable}

-- the one thing that can be spelled and that this text spells; none exactly where there is no such thing
abbrev pub Reads : {A T : Type 0} → (A → Type 0) → (A → T) → T → Option A → Type 0
Reads {A} Can spell text found = MatchOption found ((x : A) → Can x → ¬ (text ≡ spell x)) (λ x. Can x × (text ≡ spell x))

-- the same of what is kept in a vector
abbrev pub ReadsList : {A T V : Type 0} → (List A → Type 0) → (List A → T) → T → Option V → (V → List A) → Type 0
ReadsList {A} Can spell text found items = MatchOption found ((xs : List A) → Can xs → ¬ (text ≡ spell xs)) (λ v. Can (items v) × (text ≡ spell (items v)))

-- the coefficients of a form that a line can spell
abbrev pub AreCoefficients : List ℤ → Type 0
AreCoefficients cs = AllFit cs × (trim cs ≡ cs) × (length cs ≤ 2 ^ 64)

-- the items outside of plans and claims
abbrev pub IsHead : Item → Type 0
IsHead (item.Point values) = Unit {0}
IsHead (item.Left shapes) = Unit {0}
IsHead (item.Right shapes) = Unit {0}
IsHead (item.Claims n) = Unit {0}
IsHead (item.Claim P Q n) = Unit {0}
IsHead (item.Output o c) = Unit {0}
IsHead (item.Tree c a b) = Unit {0}
IsHead item.End = Unit {0}
IsHead _ = ⊥

-- the branches and the ends of plans
abbrev pub IsNode : Item → Type 0
IsNode (item.Split f) = Unit {0}
IsNode (item.Residue m f) = Unit {0}
IsNode (item.Go o n) = Unit {0}
IsNode (item.Absurd r) = Unit {0}
IsNode (item.Hit c) = Unit {0}
IsNode item.Number = Unit {0}
IsNode item.Initial = Unit {0}
IsNode (item.Killed s d l m n) = Unit {0}
IsNode _ = ⊥

abbrev pub IsSpellableHead : Item → Type 0
IsSpellableHead x = IsHead x × IsSpellable x

abbrev pub IsSpellableNode : Item → Type 0
IsSpellableNode x = IsNode x × IsSpellable x
