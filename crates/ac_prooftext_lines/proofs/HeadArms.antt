-- The words behind the name of an item that spell none.
use Rattle.std.proofs.Common.{◌≡◌, ◌<◌, ◌^◌, ℕ, ℤ, List, [], ◌∷◌, map, Option, decimal, refl}
use Rattle.std.specs.Prelude.{codes}
use Rattle.std.specs.List.{AllByRecursion}
use Rattle.std.specs.Fmt.{signed_decimal}
use Rattle.ac_forms.specs.Affine.{Affine}
use Rattle.ac_forms.specs.Fits.{Fits}
use Rattle.ac_syntax.specs.declared.tree.Position.{Position}
use Rattle.ac_syntax.specs.declared.tree.Order.{Order}
use Rattle.ac_claims.specs.declared.item.Item.{Item}
use Rattle.ac_claims.specs.declared.item.Item.TheVariants as item
use Rattle.ac_prooftext_lines.specs.Spelling.{form_words, item_words, dotted_word, position_word, order_word, level_word}
use Rattle.ac_prooftext_lines.specs.Spellable.{IsModulus, IsSpellableForm, IsSpellableLevel, IsSpellablePosition, IsSpellable, IsIndex, AreIndices}
use Rattle.ac_prooftext_lines.specs.ItemReaders.{IsSpellableHead}
use Rattle.ac_prooftext_lines.proofs.Naming.{tail, differ}

pub no_point : (ws : List (List ℕ)) → ((ns : List ℤ) → AllByRecursion Fits ns → ¬ (ws ≡ map signed_decimal ns)) → (x : Item) → IsSpellableHead x → ¬ (codes "point" ∷ ws ≡ item_words x)
no_point ws none (item.Point ns) can e = none ns can.1 (tail e)
no_point ws none (item.Row r) can e = absurd can.0
no_point ws none (item.Step s) can e = absurd can.0
no_point ws none (item.Choice c) can e = absurd can.0
no_point ws none x can e = differ (codes "point") _ ws _ refl e

pub no_left : (ws : List (List ℕ)) → ((ps : List (ℕ × ℕ)) → AllByRecursion AreIndices ps → ¬ (ws ≡ map dotted_word ps)) → (x : Item) → IsSpellableHead x → ¬ (codes "left" ∷ ws ≡ item_words x)
no_left ws none (item.Left ps) can e = none ps can.1 (tail e)
no_left ws none (item.Row r) can e = absurd can.0
no_left ws none (item.Step s) can e = absurd can.0
no_left ws none (item.Choice c) can e = absurd can.0
no_left ws none x can e = differ (codes "left") _ ws _ refl e

pub no_right : (ws : List (List ℕ)) → ((ps : List (ℕ × ℕ)) → AllByRecursion AreIndices ps → ¬ (ws ≡ map dotted_word ps)) → (x : Item) → IsSpellableHead x → ¬ (codes "right" ∷ ws ≡ item_words x)
no_right ws none (item.Right ps) can e = none ps can.1 (tail e)
no_right ws none (item.Row r) can e = absurd can.0
no_right ws none (item.Step s) can e = absurd can.0
no_right ws none (item.Choice c) can e = absurd can.0
no_right ws none x can e = differ (codes "right") _ ws _ refl e

pub no_claims : (ws : List (List ℕ)) → ((n : ℕ) → IsIndex n → ¬ (ws ≡ decimal n ∷ [])) → (x : Item) → IsSpellableHead x → ¬ (codes "claims" ∷ ws ≡ item_words x)
no_claims ws none (item.Claims n) can e = none n can.1 (tail e)
no_claims ws none (item.Row r) can e = absurd can.0
no_claims ws none (item.Step s) can e = absurd can.0
no_claims ws none (item.Choice c) can e = absurd can.0
no_claims ws none x can e = differ (codes "claims") _ ws _ refl e

pub no_claim : (ws : List (List ℕ)) → ((p : Position × Position × ℕ) → IsSpellablePosition p.0 × IsSpellablePosition p.1 × IsIndex p.2 → ¬ (ws ≡ position_word p.0 ∷ position_word p.1 ∷ decimal p.2 ∷ [])) → (x : Item) → IsSpellableHead x → ¬ (codes "claim" ∷ ws ≡ item_words x)
no_claim ws none (item.Claim P Q n) can e = none (P, Q, n) can.1 (tail e)
no_claim ws none (item.Row r) can e = absurd can.0
no_claim ws none (item.Step s) can e = absurd can.0
no_claim ws none (item.Choice c) can e = absurd can.0
no_claim ws none x can e = differ (codes "claim") _ ws _ refl e

pub no_output : (ws : List (List ℕ)) → ((p : ℕ × ℕ) → AreIndices p → ¬ (ws ≡ decimal p.0 ∷ decimal p.1 ∷ [])) → (x : Item) → IsSpellableHead x → ¬ (codes "output" ∷ ws ≡ item_words x)
no_output ws none (item.Output o c) can e = none (o, c) can.1 (tail e)
no_output ws none (item.Row r) can e = absurd can.0
no_output ws none (item.Step s) can e = absurd can.0
no_output ws none (item.Choice c) can e = absurd can.0
no_output ws none x can e = differ (codes "output") _ ws _ refl e

pub no_tree : (ws : List (List ℕ)) → ((p : ℕ × ℕ × ℕ) → IsIndex p.0 × IsIndex p.1 × IsIndex p.2 → ¬ (ws ≡ decimal p.0 ∷ decimal p.1 ∷ decimal p.2 ∷ [])) → (x : Item) → IsSpellableHead x → ¬ (codes "tree" ∷ ws ≡ item_words x)
no_tree ws none (item.Tree c a b) can e = none (c, a, b) can.1 (tail e)
no_tree ws none (item.Row r) can e = absurd can.0
no_tree ws none (item.Step s) can e = absurd can.0
no_tree ws none (item.Choice c) can e = absurd can.0
no_tree ws none x can e = differ (codes "tree") _ ws _ refl e

pub no_end : (ws : List (List ℕ)) → (¬ (ws ≡ [])) → (x : Item) → IsSpellableHead x → ¬ (codes "end" ∷ ws ≡ item_words x)
no_end ws none item.End can e = none (tail e)
no_end ws none (item.Row r) can e = absurd can.0
no_end ws none (item.Step s) can e = absurd can.0
no_end ws none (item.Choice c) can e = absurd can.0
no_end ws none x can e = differ (codes "end") _ ws _ refl e
