-- A text with a fault spells no schedule: each line ends where another one would.
use Rattle.std.proofs.Common.{◌≡◌, ◌≢◌, ◌<◌, ◌≤◌, ◌+◌, ◌^◌, ◌==◌, inl, inr, Bool, true, false, ℕ, zero, suc, ℤ, pos, List, [], ◌∷◌, ◌++◌, map, drop, length, replicate, decimal, int_eq, cond, refl, sym, ap, subst, ◌∙◌, arith, append_assoc}
use Rattle.std.specs.Prelude.{codes}
use Rattle.std.specs.Fmt.{signed_decimal}
use Rattle.std.specs.List.{AllByRecursion}
use Rattle.std.proofs.lemmas.Fmt.{decimal_injective}
use Rattle.ac_forms.specs.Affine.{Affine}
use Rattle.ac_prooftext_lines.specs.LineWords.{IsFree, further}
use Rattle.ac_prooftext_lines.specs.Spelling.{pair_word, term_words, terms_from}
use Rattle.ac_prooftext_lines.proofs.Cuts.{same_cut}
use Rattle.ac_legal_text.specs.Fronts.{IsInk}
use Rattle.ac_legal_text.specs.LineKinds.{Kind, assign, time, last, BeginsWith, FailsAt, kinds_from, HasFault, no_head, wrong_line}
use Rattle.ac_legal_text.specs.OneAnswer.{FaultsSpellNothing}
use Rattle.ac_legal_text.specs.OrderTexts.{IsSmall, IsTimeOver, AreTimesOver, AreTimes, AreLevels, Spells, head_line, assign_line, time_line, end_line, assignment_lines, text_of, columns_of}
use Rattle.ac_legal_text.proofs.Lines.{head_shape}
use Rattle.ac_legal_text.proofs.Numerals.{number_ink, small_ink}
use Rattle.ac_legal_text.proofs.Texts.{same_rest, same_word}

-- ---- no newline in a line

no_feed : (b : ℕ) → 10 < b → (b == 10) ≡ false
no_feed b h = grind arith

ink_free : (w : List ℕ) → IsInk w → IsFree 10 w
ink_free [] h = tt
ink_free (b ∷ w) h = (no_feed b (let k = h.0 in omega (arith, k)), ink_free w h.1)

free_joined : (xs ys : List ℕ) → IsFree 10 xs → IsFree 10 ys → IsFree 10 (xs ++ ys)
free_joined [] ys f g = g
free_joined (x ∷ xs) ys f g = (f.0, free_joined xs ys f.1 g)

pair_free : (k : ℕ) (a : ℤ) → k < 2 ^ 64 → IsSmall a → IsFree 10 (pair_word (k, a))
pair_free k a l small = free_joined (decimal k) (codes ":" ++ signed_decimal a) (ink_free (decimal k) (number_ink k l)) (refl, ink_free (signed_decimal a) (small_ink a small))

free_parts : (xs ys : List ℕ) → IsFree 10 (xs ++ ys) → IsFree 10 xs × IsFree 10 ys
free_parts [] ys h = (tt, h)
free_parts (x ∷ xs) ys h = let k = free_parts xs ys h.1 in ((h.0, k.0), k.1)

words_free : (ws more : List (List ℕ)) → IsFree 10 (further ws) → IsFree 10 (further more) → IsFree 10 (further (ws ++ more))
words_free [] more f g = g
words_free (w ∷ ws) more f g = let k = free_parts (codes " " ++ w) (further ws) f in free_joined (codes " " ++ w) (further (ws ++ more)) k.0 (words_free ws more k.1 g)

term_free : (k : ℕ) (a : ℤ) → k < 2 ^ 64 → IsSmall a → IsFree 10 (further (term_words k a))
term_free k a l small = by (int_eq a (pos 0))
  where
    by : (b : Bool) → IsFree 10 (further (cond b [] (pair_word (k, a) ∷ [])))
    by true = tt
    by false = (refl, free_joined (pair_word (k, a)) [] (pair_free k a l small) tt)

terms_free : (k : ℕ) (cs : List ℤ) → k + length cs ≤ 2 ^ 64 → AllByRecursion IsSmall cs → IsFree 10 (further (terms_from k cs))
terms_free k [] l h = tt
terms_free k (c ∷ cs) l h = words_free (term_words k c) (terms_from (suc k) cs) (term_free k c (omega (arith, l)) h.0) (terms_free (suc k) cs (omega (arith, l)) h.1)

time_free : (n : ℕ) (f : Affine) → n < 2 ^ 64 → IsTimeOver n f → IsFree 10 (time_line f)
time_free n f l o =
    let each = o.each in
    (refl, (refl, (refl, (refl, (refl, free_joined (signed_decimal f.konst) (further (terms_from 0 f.coefs)) (ink_free (signed_decimal f.konst) (small_ink f.konst o.constant)) (terms_free 0 f.coefs (omega (arith, l, each)) o.coefficients))))))

-- ---- no line fails in the text of a schedule

no_time_fails : (n number : ℕ) → n < 2 ^ 64 → (fs : List Affine) (before : ℕ) (text rest : List ℕ) (more : List Kind) → AllByRecursion (IsTimeOver n) fs → text ≡ text_of (map time_line fs) ++ rest
    → ((b : ℕ) → FailsAt more rest b number → ⊥) → FailsAt (replicate (length fs) (time n) ++ more) text before number → ⊥
no_time_fails n number few [] before text rest more all e none h = none before (subst (λ (t : List ℕ). FailsAt more t before number) e h)
no_time_fails n number few (f ∷ fs) before text rest more all e none h =
    let tail = text_of (map time_line fs) ++ rest in
    let front : text ≡ time_line f ++ 10 ∷ tail = e ∙ append_assoc (time_line f ++ 10 ∷ []) (text_of (map time_line fs)) rest ∙ append_assoc (time_line f) (10 ∷ []) tail in
    elim h [
      | inl k ↦ k.1 tail (record { line = time_line f; is = (f, all.0, refl); joined = front })
      | inr k ↦ (let b : BeginsWith (time n) text k.0 = k.1 in
          let both = same_cut 10 (time_line f) tail (time_line b.is.0) k.0 (time_free n f few all.0) (time_free n b.is.0 few b.is.1) (sym front ∙ b.joined ∙ ap (λ (l : List ℕ). l ++ 10 ∷ k.0) b.is.2) in
          no_time_fails n number few fs (before + 1) k.0 rest more all.1 (sym both.1) none k.2)
    ]

text_append : (xs ys : List (List ℕ)) → text_of (xs ++ ys) ≡ text_of xs ++ text_of ys
text_append [] ys = refl
text_append (x ∷ xs) ys = ap (λ (t : List ℕ). (x ++ 10 ∷ []) ++ t) (text_append xs ys) ∙ sym (append_assoc (x ++ 10 ∷ []) (text_of xs) (text_of ys))

no_line_fails : (levels number : ℕ) (ns : List ℕ) → AllByRecursion (λ n. n < 2 ^ 64) ns → (k before : ℕ) (ts : List (List Affine)) (text : List ℕ) → AreTimes levels ns ts → text ≡ text_of (assignment_lines k ts ++ end_line ∷ [])
    → FailsAt (kinds_from levels k ns) text before number → ⊥
no_line_fails levels number [] few k before [] text all e h = elim h [
  | inl x ↦ x.1 [] (record { line = end_line; is = refl; joined = e })
  | inr x ↦ (let b = x.1 in x.2.1 (same_rest (codes "end\n") x.0 [] (sym (b.joined ∙ ap (λ (l : List ℕ). l ++ 10 ∷ x.0) b.is) ∙ e)))
]
no_line_fails levels number [] few k before (fs ∷ ts) text all e h = all
no_line_fails levels number (n ∷ ns) few k before [] text all e h = all
no_line_fails levels number (n ∷ ns) few k before (fs ∷ ts) text all e h =
    let over : AreTimesOver levels n fs = all.0 in
    let count : length fs ≡ levels = over.count in
    let tail = text_of ((map time_line fs ++ assignment_lines (suc k) ts) ++ end_line ∷ []) in
    let front : text ≡ assign_line k ++ 10 ∷ tail = e ∙ append_assoc (assign_line k) (10 ∷ []) tail in
    elim h [
      | inl x ↦ x.1 tail (record { line = assign_line k; is = refl; joined = front })
      | inr x ↦ (let b = x.1 in
          let same : x.0 ≡ tail = ap (drop 1) (same_rest (assign_line k) (10 ∷ x.0) (10 ∷ tail) (sym (b.joined ∙ ap (λ (l : List ℕ). l ++ 10 ∷ x.0) b.is) ∙ front)) in
          no_time_fails n number few.0 fs (before + 1) x.0 (text_of (assignment_lines (suc k) ts ++ end_line ∷ [])) (kinds_from levels (suc k) ns) over.all
          (same ∙ ap text_of (append_assoc (map time_line fs) (assignment_lines (suc k) ts) (end_line ∷ [])) ∙ text_append (map time_line fs) (assignment_lines (suc k) ts ++ end_line ∷ []))
          (λ b. no_line_fails levels number ns few.1 (suc k) b ts (text_of (assignment_lines (suc k) ts ++ end_line ∷ [])) all.1 refl)
          (subst (λ (c : ℕ). FailsAt (replicate c (time n) ++ kinds_from levels (suc k) ns) x.0 (before + 1) number) (sym count) x.2))
    ]

same_levels : (i j : ℕ) (r s : List ℕ) → AreLevels i → AreLevels j → head_line i ++ 10 ∷ r ≡ head_line j ++ 10 ∷ s → (i ≡ j) × (r ≡ s)
same_levels i j r s h k e =
    let hi = h.1 in
    let kj = k.1 in
    let words = same_rest (codes "affine-order 1 ") (decimal i ++ 10 ∷ r) (decimal j ++ 10 ∷ s) (sym (head_shape i r) ∙ e ∙ head_shape j s) in
    let both = same_word (decimal i) (10 ∷ r) (decimal j) (10 ∷ s) (number_ink i (omega (arith, hi))) (omega arith) (number_ink j (omega (arith, kj))) (omega arith) words in
    (decimal_injective i j (omega (arith, hi)) (omega (arith, kj)) both.0, ap (drop 1) both.1)

pub unspelled : FaultsSpellNothing
unspelled m text number times few (no_head none) s =
    let rest = text_of (assignment_lines 0 times ++ end_line ∷ []) in
    none s.levels rest s.within (s.spelled ∙ append_assoc (head_line s.levels) (10 ∷ []) rest)
unspelled m text number times few (wrong_line levels _ rest within e h) s =
    let tail = text_of (assignment_lines 0 times ++ end_line ∷ []) in
    let both = same_levels levels s.levels rest tail within s.within (sym e ∙ s.spelled ∙ append_assoc (head_line s.levels) (10 ∷ []) tail) in
    no_line_fails levels number (columns_of m) few 0 1 times rest (subst (λ (l : ℕ). AreTimes l (columns_of m) times) (sym both.0) s.forms) both.1 h
