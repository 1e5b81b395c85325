-- What the loops over equalities and ranges of columns keep.
use Rattle.std.proofs.Common.{◌≡◌, ◌≢◌, ℕ, zero, suc, ◌+◌, ◌<◌, ◌≤◌, List, [], ◌∷◌, ◌++◌, drop, get_or, length, Option, Some, None, refl, sym, ap, ◌∙◌, arith, append_assoc, append-nil}
use Rattle.std.specs.Prelude.{option_and_then, option_map}
use Rattle.std.specs.List.{range_with_len}
use Rattle.std.proofs.lemmas.List.{drop_all}
use Rattle.ac_forms.specs.Affine.{Affine}
use Rattle.ac_forms.specs.declared.row.Row.{Row}
use Rattle.ac_forms.specs.declared.row.Row.TheVariants.{Eq}
use Rattle.ac_omega_steps.proofs.Parts.{drop-at}
use Rattle.ac_claims_paths.specs.PathColumns.{difference, equal_forms}

pub unequal : (ks : List ℕ) (fs : List Affine) (ls : List ℕ) (gs : List Affine) → length fs ≢ length gs → equal_forms ks fs ls gs ≡ None
unequal ks [] ls [] n = absurd (n refl)
unequal ks [] ls (g ∷ gs) n = refl
unequal ks (f ∷ fs) ls [] n = refl
unequal ks (f ∷ fs) ls (g ∷ gs) n = by (difference ks f ls g) (unequal ks fs ls gs (λ e. n (omega (arith, e))))
  where
    by : (o : Option Affine) → equal_forms ks fs ls gs ≡ None → option_and_then (λ e. option_map (λ rows. Eq e ∷ rows) (equal_forms ks fs ls gs)) o ≡ None
    by None e = refl
    by (Some d) e = ap (option_map (λ rows. Eq d ∷ rows)) e

-- so far, and what is left
pub record Equated (ks : List ℕ) (fs : List Affine) (ls : List ℕ) (gs : List Affine) (i : ℕ) (made : List Row) : Type 0 where
  pub value : equal_forms ks fs ls gs ≡ option_map (λ rest. made ++ rest) (equal_forms ks (drop i fs) ls (drop i gs))

map_nil : (o : Option (List Row)) → o ≡ option_map (λ rest. [] ++ rest) o
map_nil None = refl
map_nil (Some x) = refl

pub equated_start : (ks : List ℕ) (fs : List Affine) (ls : List ℕ) (gs : List Affine) → Equated ks fs ls gs 0 []
equated_start ks fs ls gs = record { value = map_nil (equal_forms ks fs ls gs) }

map_next : (made : List Row) (e : Affine) (o : Option (List Row)) → option_map (λ rest. made ++ rest) (option_map (λ rows. Eq e ∷ rows) o) ≡ option_map (λ rest. (made ++ Eq e ∷ []) ++ rest) o
map_next made e None = refl
map_next made e (Some rows) = ap Some (sym (append_assoc made (Eq e ∷ []) rows))

pub equated_next : (ks : List ℕ) (fs : List Affine) (ls : List ℕ) (gs : List Affine) (i : ℕ) (made new : List Row) (f g e : Affine) → Equated ks fs ls gs i made → i < length fs → i < length gs → f ≡ get_or fs i f → g ≡ get_or gs i g
    → Some e ≡ difference ks f ls g → new ≡ made ++ Eq e ∷ [] → Equated ks fs ls gs (i + 1) new
equated_next ks fs ls gs i made new f g e h lf lg ef eg d n = record {
  value =
      h.value
      ∙ (λ j. option_map (λ rest. made ++ rest) (equal_forms ks (drop-at fs i f lf ef j) ls (drop-at gs i g lg eg j)))
      ∙ ap (λ o. option_map (λ rest. made ++ rest) (option_and_then (λ e. option_map (λ rows. Eq e ∷ rows) (equal_forms ks (drop (i + 1) fs) ls (drop (i + 1) gs))) o)) (sym d)
      ∙ map_next made e (equal_forms ks (drop (i + 1) fs) ls (drop (i + 1) gs))
      ∙ ap (λ (z : List Row). option_map (λ rest. z ++ rest) (equal_forms ks (drop (i + 1) fs) ls (drop (i + 1) gs))) (sym n);
}

pub equated_none : (ks : List ℕ) (fs : List Affine) (ls : List ℕ) (gs : List Affine) (i : ℕ) (made : List Row) (f g : Affine) → Equated ks fs ls gs i made → i < length fs → i < length gs → f ≡ get_or fs i f → g ≡ get_or gs i g
    → None ≡ difference ks f ls g → None ≡ equal_forms ks fs ls gs
equated_none ks fs ls gs i made f g h lf lg ef eg d = sym (
    h.value
    ∙ (λ j. option_map (λ rest. made ++ rest) (equal_forms ks (drop-at fs i f lf ef j) ls (drop-at gs i g lg eg j)))
    ∙ ap (λ o. option_map (λ rest. made ++ rest) (option_and_then (λ e. option_map (λ rows. Eq e ∷ rows) (equal_forms ks (drop (i + 1) fs) ls (drop (i + 1) gs))) o)) (sym d))

pub equated_end : (ks : List ℕ) (fs : List Affine) (ls : List ℕ) (gs : List Affine) (i : ℕ) (made : List Row) → Equated ks fs ls gs i made → length fs ≤ i → length fs ≡ length gs → Some made ≡ equal_forms ks fs ls gs
equated_end ks fs ls gs i made h l n = sym (
    h.value ∙ (λ j. option_map (λ rest. made ++ rest) (equal_forms ks (drop_all i fs l j) ls (drop_all i gs (omega (arith, l, n)) j))) ∙ ap Some (append-nil made))

pub ruleset equal_steps = (unequal, equated_start, equated_next, equated_none, equated_end)
