-- The words behind the name of a step that spell none.
use Rattle.std.proofs.Common.{◌≡◌, ◌<◌, ◌^◌, ℕ, ℤ, List, [], ◌∷◌, map, length, decimal, sym, ◌∙◌, refl, arith}
use Rattle.std.specs.Prelude.{codes}
use Rattle.std.specs.List.{AllByRecursion}
use Rattle.std.specs.Fmt.{signed_decimal}
use Rattle.ac_forms.specs.Affine.{Affine}
use Rattle.ac_forms.specs.Fits.{Fits}
use Rattle.ac_cert.specs.declared.types.Step.{Step}
use Rattle.ac_cert.specs.declared.types.Step.TheVariants as step
use Rattle.ac_prooftext_lines.proofs.Naming.{tail, head, differ}
use Rattle.ac_prooftext_lines.specs.Spelling.{form_words, step_words, pair_word}
use Rattle.ac_prooftext_lines.specs.Spellable.{IsSpellableForm, IsSpellableStep, IsIndex, IsIndexed, AreIndices}

pub no_cut : (ws : List (List ℕ)) → ((p : ℕ × ℤ) → IsIndexed p → ¬ (ws ≡ decimal p.0 ∷ signed_decimal p.1 ∷ [])) → (x : Step) → IsSpellableStep x → ¬ (codes "cut" ∷ ws ≡ step_words x)
no_cut ws none (step.Cut r g) can e = none (r, g) can (tail e)
no_cut ws none x can e = differ (codes "cut") _ ws _ refl e

pub no_divscale : (ws : List (List ℕ)) → ((p : ℕ × ℤ) → IsIndexed p → ¬ (ws ≡ decimal p.0 ∷ signed_decimal p.1 ∷ [])) → (x : Step) → IsSpellableStep x → ¬ (codes "divscale" ∷ ws ≡ step_words x)
no_divscale ws none (step.DivScale r k) can e = none (r, k) can (tail e)
no_divscale ws none x can e = differ (codes "divscale") _ ws _ refl e

pub no_divadd : (ws : List (List ℕ)) → ((p : ℕ × ℤ × ℕ × ℤ) → IsIndex p.0 × Fits p.1 × IsIndex p.2 × Fits p.3 → ¬ (ws ≡ decimal p.0 ∷ signed_decimal p.1 ∷ decimal p.2 ∷ signed_decimal p.3 ∷ [])) → (x : Step) → IsSpellableStep x → ¬ (codes "divadd" ∷ ws ≡ step_words x)
no_divadd ws none (step.DivAdd r k s l) can e = none (r, k, s, l) can (tail e)
no_divadd ws none x can e = differ (codes "divadd") _ ws _ refl e

pub no_divmod : (ws : List (List ℕ)) → ((p : ℕ × ℤ × ℤ × Affine) → IsIndex p.0 × Fits p.1 × Fits p.2 × IsSpellableForm p.3 → ¬ (ws ≡ decimal p.0 ∷ signed_decimal p.1 ∷ signed_decimal p.2 ∷ form_words p.3)) → (x : Step) → IsSpellableStep x → ¬ (codes "divmod" ∷ ws ≡ step_words x)
no_divmod ws none (step.DivMod r g n f) can e = none (r, g, n, f) can (tail e)
no_divmod ws none x can e = differ (codes "divmod") _ ws _ refl e

pub no_diveq : (ws : List (List ℕ)) → ((p : ℕ × ℤ) → IsIndexed p → ¬ (ws ≡ decimal p.0 ∷ signed_decimal p.1 ∷ [])) → (x : Step) → IsSpellableStep x → ¬ (codes "diveq" ∷ ws ≡ step_words x)
no_diveq ws none (step.DivEq r n) can e = none (r, n) can (tail e)
no_diveq ws none x can e = differ (codes "diveq") _ ws _ refl e

pub no_floor : (ws : List (List ℕ)) → ((p : ℤ × Affine) → Fits p.0 × IsSpellableForm p.1 → ¬ (ws ≡ signed_decimal p.0 ∷ form_words p.1)) → (x : Step) → IsSpellableStep x → ¬ (codes "floor" ∷ ws ≡ step_words x)
no_floor ws none (step.Floor m f) can e = none (m, f) can (tail e)
no_floor ws none x can e = differ (codes "floor") _ ws _ refl e

pub no_eqcut : (ws : List (List ℕ)) → ((p : ℕ × ℕ) → AreIndices p → ¬ (ws ≡ decimal p.0 ∷ decimal p.1 ∷ [])) → (x : Step) → IsSpellableStep x → ¬ (codes "eqcut" ∷ ws ≡ step_words x)
no_eqcut ws none (step.EqCut r s) can e = none (r, s) can (tail e)
no_eqcut ws none x can e = differ (codes "eqcut") _ ws _ refl e

pub no_add : (ws : List (List ℕ)) → ((ps : List (ℕ × ℤ)) → AllByRecursion IsIndexed ps → ¬ (ws ≡ map pair_word ps)) → (x : Step) → IsSpellableStep x → ¬ (codes "add" ∷ ws ≡ step_words x)
no_add ws none (step.Add ps) can e = none ps can.1 (tail e)
no_add ws none x can e = differ (codes "add") _ ws _ refl e

no_pair : (ps : List (ℕ × ℤ)) → 0 < length ps → ¬ ([] ≡ map pair_word ps)
no_pair [] h e = omega (arith, h)
no_pair (p ∷ ps) h e = absurd cc

-- a sum of no row
pub no_sum : (ws : List (List ℕ)) → ws ≡ [] → (x : Step) → IsSpellableStep x → ¬ (codes "add" ∷ ws ≡ step_words x)
no_sum ws none (step.Add ps) can e = no_pair ps can.0 (sym none ∙ tail e)
no_sum ws none x can e = differ (codes "add") _ ws _ refl e
