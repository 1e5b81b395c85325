-- Lines that are cut at their blanks.
use Rattle.std.proofs.Common.{◌≡◌, ◌==◌, ℕ, List, [], ◌∷◌, ◌++◌, refl, sym, ap, ◌∙◌, codes}
use Rattle.std.specs.List.{join_with_byte, flat_map, onto_first, AllByRecursion}
use Rattle.std.proofs.lemmas.List.{append-nil}
use Rattle.std.proofs.lemmas.List.Splits.{slice_split-cons_no, slice_split-cons_yes, join_with_byte-slice_split}
use Rattle.ac_prooftext_lines.specs.LineWords.{line_of, words_in, IsFree}

-- the first word ends at the first blank
pub first_cut : (before after : List ℕ) → IsFree 32 before → words_in (before ++ 32 ∷ after) ≡ before ∷ words_in after
first_cut [] after h = slice_split-cons_yes (λ b. b == 32) 32 after refl
first_cut (x ∷ xs) after h = slice_split-cons_no (λ b. b == 32) x (xs ++ 32 ∷ after) h.0 ∙ ap (onto_first x) (first_cut xs after h.1)

pub no_cut : (text : List ℕ) → IsFree 32 text → words_in text ≡ text ∷ []
no_cut [] h = refl
no_cut (x ∷ xs) h = slice_split-cons_no (λ b. b == 32) x xs h.0 ∙ ap (onto_first x) (no_cut xs h.1)

pub cut_word : (text before after : List ℕ) → IsFree 32 before × (text ≡ before ++ 32 ∷ after) → words_in text ≡ before ∷ words_in after
cut_word text before after h = ap words_in h.1 ∙ first_cut before after h.0

-- a line has at least one word
pub never_done : (text : List ℕ) → ¬ (words_in text ≡ [])
never_done [] e = absurd cc
never_done (x ∷ xs) e = by_first (x == 32) (words_in xs) e
  where
    onto : (rest : List (List ℕ)) → onto_first x rest ≡ [] → ⊥
    onto [] k = absurd cc
    onto (w ∷ ws) k = absurd cc

    by_first : (b : _) (rest : List (List ℕ)) → Rattle.std.proofs.Common.cond b ([] ∷ rest) (onto_first x rest) ≡ [] → ⊥
    by_first Rattle.std.proofs.Common.true rest k = absurd cc
    by_first Rattle.std.proofs.Common.false rest k = onto rest k

-- a line is cut into the words that it was made of
pub cut_line : (w : List ℕ) (ws : List (List ℕ)) → AllByRecursion (IsFree 32) (w ∷ ws) → words_in (line_of (w ∷ ws)) ≡ w ∷ ws
cut_line w [] h = ap words_in (append-nil w) ∙ no_cut w h.0
cut_line w (v ∷ vs) h = first_cut w (v ++ flat_map (λ y. codes " " ++ y) vs) h.0 ∙ ap (λ more. w ∷ more) (cut_line v vs h.1)

as_joined : (w : List ℕ) (ws : List (List ℕ)) → line_of (w ∷ ws) ≡ join_with_byte 32 (w ∷ ws)
as_joined w [] = append-nil w
as_joined w (v ∷ vs) = ap (λ t. w ++ 32 ∷ t) (as_joined v vs)

some_word : (line w : List ℕ) (ws : List (List ℕ)) → words_in line ≡ w ∷ ws → line_of (words_in line) ≡ join_with_byte 32 (words_in line)
some_word line w ws e = ap line_of e ∙ (as_joined w ws ∙ ap (join_with_byte 32) (sym e))

-- and words that it is cut into make it again
pub join_words : (line w : List ℕ) (ws : List (List ℕ)) → words_in line ≡ w ∷ ws → line ≡ line_of (w ∷ ws)
join_words line w ws e = sym (ap line_of (sym e) ∙ (some_word line w ws e ∙ join_with_byte-slice_split 32 line))
