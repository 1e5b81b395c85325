-- Items by their kinds, and their lines by their words.
use Rattle.std.proofs.Common.{◌≡◌, ℕ, List, [], ◌∷◌, Option, None, Some, MatchOption, sym, ap, subst, ◌∙◌}
use Rattle.std.specs.List.{AllByRecursion}
use Rattle.ac_forms.specs.declared.row.Row.{Row}
use Rattle.ac_cert.specs.declared.types.Step.{Step}
use Rattle.ac_omega_steps.specs.declared.choose.Choice.{Choice}
use Rattle.ac_claims.specs.declared.item.Item.{Item}
use Rattle.ac_claims.specs.declared.item.Item.TheVariants as item
use Rattle.ac_prooftext_lines.specs.ItemReaders.{Reads, IsHead, IsNode, IsSpellableHead, IsSpellableNode}
use Rattle.ac_prooftext_lines.specs.LineWords.{IsFree, line_of, words_in}
use Rattle.ac_prooftext_lines.specs.Spelling.{row_words, step_words, choice_words, item_words, spelled}
use Rattle.ac_prooftext_lines.specs.Spellable.{IsSpellableRow, IsSpellableStep, IsSpellableChoice, IsSpellable}
use Rattle.ac_prooftext_lines.proofs.Plain.{item_plain, some_words}
use Rattle.ac_prooftext_lines.proofs.Splits.{cut_line, join_words, never_done}

-- words that spell no step, no node, no row and no choice spell an item of the head or nothing
pub by_kinds : (ws : List (List ℕ)) → ((s : Step) → IsSpellableStep s → ¬ (ws ≡ step_words s)) → ((x : Item) → IsSpellableNode x → ¬ (ws ≡ item_words x)) → ((r : Row) → IsSpellableRow r → ¬ (ws ≡ row_words r))
    → ((c : Choice) → IsSpellableChoice c → ¬ (ws ≡ choice_words c)) → (found : Option Item) → Reads IsSpellableHead item_words ws found → Reads IsSpellable item_words ws found
by_kinds ws step node row choice (Some x) h = (h.0.1, h.1)
by_kinds ws step node row choice None h = λ x can e. kinds x can e
  where
    kinds : (x : Item) → IsSpellable x → ws ≡ item_words x → ⊥
    kinds (item.Row r) can e = row r can e
    kinds (item.Step s) can e = step s can e
    kinds (item.Choice c) can e = choice c can e
    kinds (item.Split f) can e = node (item.Split f) (tt, can) e
    kinds (item.Residue m f) can e = node (item.Residue m f) (tt, can) e
    kinds (item.Go o n) can e = node (item.Go o n) (tt, can) e
    kinds (item.Absurd r) can e = node (item.Absurd r) (tt, can) e
    kinds (item.Hit c) can e = node (item.Hit c) (tt, can) e
    kinds item.Number can e = node item.Number (tt, can) e
    kinds item.Initial can e = node item.Initial (tt, can) e
    kinds (item.Killed s d l m n) can e = node (item.Killed s d l m n) (tt, can) e
    kinds x can e = h x (tt, can) e

pub line_words : (line : List ℕ) (ws : List (List ℕ)) → AllByRecursion (IsFree 32) ws → ¬ (ws ≡ []) → line ≡ line_of ws → words_in line ≡ ws
line_words line [] plain some e = absurd (some Rattle.std.proofs.Common.refl)
line_words line (w ∷ ws) plain some e = ap words_in e ∙ cut_line w ws plain

line_back : (line : List ℕ) (ws : List (List ℕ)) → words_in line ≡ ws → line ≡ line_of ws
line_back line [] e = absurd (never_done line e)
line_back line (w ∷ ws) e = join_words line w ws e

-- a line spells what its words spell
pub by_words : (line : List ℕ) (found : Option Item) → Reads IsSpellable item_words (words_in line) found → Reads IsSpellable spelled line found
by_words line (Some x) h = (h.0, line_back line (item_words x) h.1)
by_words line None h = λ x can e. h x can (line_words line (item_words x) (item_plain x can) (some_words x) e)
