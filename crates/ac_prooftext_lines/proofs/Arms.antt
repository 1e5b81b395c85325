-- The words behind a name that spell nothing.
use Rattle.std.proofs.Common.{◌≡◌, ◌<◌, ◌^◌, ℕ, ℤ, List, [], ◌∷◌, decimal, ◌<ℤ◌, pos, sym, ◌∙◌, refl, arith}
use Rattle.std.specs.Prelude.{codes}
use Rattle.std.specs.Fmt.{signed_decimal}
use Rattle.std.proofs.lemmas.Int.{ints}
use Rattle.ac_forms.specs.Affine.{Affine}
use Rattle.ac_forms.specs.Fits.{Fits}
use Rattle.ac_forms.specs.declared.row.Row.{Row}
use Rattle.ac_forms.specs.declared.row.Row.TheVariants as row
use Rattle.ac_omega_steps.specs.declared.choose.Choice.{Choice}
use Rattle.ac_omega_steps.specs.declared.choose.Choice.TheVariants as choice
use Rattle.ac_prooftext_lines.proofs.Numerals.{same_integer}
use Rattle.ac_prooftext_lines.proofs.Naming.{tail, head, differ}
use Rattle.ac_prooftext_lines.specs.Spelling.{form_words, row_words, step_words, choice_words, item_words, pair_word, dotted_word, position_word, order_word, level_word}
use Rattle.ac_prooftext_lines.specs.Spellable.{IsModulus, IsSpellableForm, IsSpellableRow, IsSpellableStep, IsSpellableChoice, IsSpellable, IsSpellablePosition, IsSpellableLevel, IsIndex, IsIndexed, AreIndices}

pub no_equal : (ws : List (List ℕ)) → ((p : ℕ × ℕ) → AreIndices p → ¬ (ws ≡ decimal p.0 ∷ decimal p.1 ∷ [])) → (x : Choice) → IsSpellableChoice x → ¬ (codes "equal" ∷ ws ≡ choice_words x)
no_equal ws none (choice.Equal z r) can e = none (z, r) can (tail e)
no_equal ws none x can e = differ (codes "equal") _ ws _ refl e

pub no_residue : (ws : List (List ℕ)) → ((p : ℕ × ℤ × ℤ) → IsIndex p.0 × Fits p.1 × Fits p.2 → ¬ (ws ≡ decimal p.0 ∷ signed_decimal p.1 ∷ signed_decimal p.2 ∷ [])) → (x : Choice) → IsSpellableChoice x → ¬ (codes "residue" ∷ ws ≡ choice_words x)
no_residue ws none (choice.Residue z m i) can e = none (z, m, i) can (tail e)
no_residue ws none x can e = differ (codes "residue") _ ws _ refl e

pub no_splinter : (ws : List (List ℕ)) → ((p : ℕ × ℕ × ℤ) → IsIndex p.0 × IsIndex p.1 × Fits p.2 → ¬ (ws ≡ decimal p.0 ∷ decimal p.1 ∷ signed_decimal p.2 ∷ [])) → (x : Choice) → IsSpellableChoice x → ¬ (codes "splinter" ∷ ws ≡ choice_words x)
no_splinter ws none (choice.Splinter z r i) can e = none (z, r, i) can (tail e)
no_splinter ws none x can e = differ (codes "splinter") _ ws _ refl e

pub no_div : (ws : List (List ℕ)) → ((p : ℤ × Affine) → IsModulus p.0 × IsSpellableForm p.1 → ¬ (ws ≡ signed_decimal p.0 ∷ form_words p.1)) → (x : Row) → IsSpellableRow x → ¬ (codes "div" ∷ ws ≡ row_words x)
no_div ws none (row.Div m f) can e = none (m, f) can (tail e)
no_div ws none x can e = differ (codes "div") _ ws _ refl e

-- a modulus below 1
pub too_small : (ws : List (List ℕ)) (m : ℤ) (f : Affine) → (Fits m × IsSpellableForm f) × (ws ≡ signed_decimal m ∷ form_words f) → m <ℤ pos 1 → (p : ℤ × Affine) → IsModulus p.0 × IsSpellableForm p.1 → ¬ (ws ≡ signed_decimal p.0 ∷ form_words p.1)
too_small ws m f read small p can e =
    let same : m ≡ p.0 = same_integer m p.0 read.0.0 can.0.0 (let whole : signed_decimal m ∷ form_words f ≡ signed_decimal p.0 ∷ form_words p.1 = sym read.1 ∙ e in head whole) in
    let least = can.0.1 in omega (arith, ints, same, small, least)
