-- The words behind the name of an item that spell none.
use Rattle.std.proofs.Common.{◌≡◌, ◌<◌, ◌^◌, ℕ, ℤ, List, [], ◌∷◌, map, Option, decimal, refl}
use Rattle.std.specs.Prelude.{codes}
use Rattle.std.specs.List.{AllByRecursion}
use Rattle.std.specs.Fmt.{signed_decimal}
use Rattle.ac_forms.specs.Affine.{Affine}
use Rattle.ac_forms.specs.Fits.{Fits}
use Rattle.ac_syntax.specs.declared.tree.Position.{Position}
use Rattle.ac_syntax.specs.declared.tree.Order.{Order}
use Rattle.ac_claims.specs.declared.item.Item.{Item}
use Rattle.ac_claims.specs.declared.item.Item.TheVariants as item
use Rattle.ac_prooftext_lines.specs.Spelling.{form_words, item_words, dotted_word, position_word, order_word, level_word}
use Rattle.ac_prooftext_lines.specs.Spellable.{IsModulus, IsSpellableForm, IsSpellableLevel, IsSpellablePosition, IsSpellable, IsIndex, AreIndices}
use Rattle.ac_prooftext_lines.specs.ItemReaders.{IsSpellableNode}
use Rattle.ac_prooftext_lines.proofs.Naming.{tail, differ}

pub no_split : (ws : List (List ℕ)) → ((f : Affine) → IsSpellableForm f → ¬ (ws ≡ form_words f)) → (x : Item) → IsSpellableNode x → ¬ (codes "split" ∷ ws ≡ item_words x)
no_split ws none (item.Split f) can e = none f can.1 (tail e)
no_split ws none (item.Row r) can e = absurd can.0
no_split ws none (item.Step s) can e = absurd can.0
no_split ws none (item.Choice c) can e = absurd can.0
no_split ws none x can e = differ (codes "split") _ ws _ refl e

pub no_residue : (ws : List (List ℕ)) → ((p : ℤ × Affine) → IsModulus p.0 × IsSpellableForm p.1 → ¬ (ws ≡ signed_decimal p.0 ∷ form_words p.1)) → (x : Item) → IsSpellableNode x → ¬ (codes "residue" ∷ ws ≡ item_words x)
no_residue ws none (item.Residue m f) can e = none (m, f) can.1 (tail e)
no_residue ws none (item.Row r) can e = absurd can.0
no_residue ws none (item.Step s) can e = absurd can.0
no_residue ws none (item.Choice c) can e = absurd can.0
no_residue ws none x can e = differ (codes "residue") _ ws _ refl e

pub no_go : (ws : List (List ℕ)) → ((p : Order × ℕ) → IsIndex p.1 → ¬ (ws ≡ order_word p.0 ∷ decimal p.1 ∷ [])) → (x : Item) → IsSpellableNode x → ¬ (codes "go" ∷ ws ≡ item_words x)
no_go ws none (item.Go o n) can e = none (o, n) can.1 (tail e)
no_go ws none (item.Row r) can e = absurd can.0
no_go ws none (item.Step s) can e = absurd can.0
no_go ws none (item.Choice c) can e = absurd can.0
no_go ws none x can e = differ (codes "go") _ ws _ refl e

pub no_absurd : (ws : List (List ℕ)) → ((n : ℕ) → IsIndex n → ¬ (ws ≡ decimal n ∷ [])) → (x : Item) → IsSpellableNode x → ¬ (codes "absurd" ∷ ws ≡ item_words x)
no_absurd ws none (item.Absurd r) can e = none r can.1 (tail e)
no_absurd ws none (item.Row r) can e = absurd can.0
no_absurd ws none (item.Step s) can e = absurd can.0
no_absurd ws none (item.Choice c) can e = absurd can.0
no_absurd ws none x can e = differ (codes "absurd") _ ws _ refl e

pub no_hit : (ws : List (List ℕ)) → ((n : ℕ) → IsIndex n → ¬ (ws ≡ decimal n ∷ [])) → (x : Item) → IsSpellableNode x → ¬ (codes "hit" ∷ ws ≡ item_words x)
no_hit ws none (item.Hit c) can e = none c can.1 (tail e)
no_hit ws none (item.Row r) can e = absurd can.0
no_hit ws none (item.Step s) can e = absurd can.0
no_hit ws none (item.Choice c) can e = absurd can.0
no_hit ws none x can e = differ (codes "hit") _ ws _ refl e

pub no_number : (ws : List (List ℕ)) → (¬ (ws ≡ [])) → (x : Item) → IsSpellableNode x → ¬ (codes "number" ∷ ws ≡ item_words x)
no_number ws none item.Number can e = none (tail e)
no_number ws none (item.Row r) can e = absurd can.0
no_number ws none (item.Step s) can e = absurd can.0
no_number ws none (item.Choice c) can e = absurd can.0
no_number ws none x can e = differ (codes "number") _ ws _ refl e

pub no_initial : (ws : List (List ℕ)) → (¬ (ws ≡ [])) → (x : Item) → IsSpellableNode x → ¬ (codes "initial" ∷ ws ≡ item_words x)
no_initial ws none item.Initial can e = none (tail e)
no_initial ws none (item.Row r) can e = absurd can.0
no_initial ws none (item.Step s) can e = absurd can.0
no_initial ws none (item.Choice c) can e = absurd can.0
no_initial ws none x can e = differ (codes "initial") _ ws _ refl e

pub no_killed : (ws : List (List ℕ)) → ((p : ℕ × ℕ × Option ℕ × ℕ × ℕ) → IsIndex p.0 × IsIndex p.1 × IsSpellableLevel p.2 × IsIndex p.3 × IsIndex p.4 → ¬ (ws ≡ decimal p.0 ∷ decimal p.1 ∷ level_word p.2 ∷ decimal p.3 ∷ decimal p.4 ∷ [])) → (x : Item) → IsSpellableNode x → ¬ (codes "killed" ∷ ws ≡ item_words x)
no_killed ws none (item.Killed s d l m n) can e = none (s, d, l, m, n) can.1 (tail e)
no_killed ws none (item.Row r) can e = absurd can.0
no_killed ws none (item.Step s) can e = absurd can.0
no_killed ws none (item.Choice c) can e = absurd can.0
no_killed ws none x can e = differ (codes "killed") _ ws _ refl e
