-- The words of a form's coefficients, read one after the other.
use Rattle.std.proofs.Common.{rules, ◌≡◌, ◌<◌, ◌≤◌, ◌+◌, ◌-◌, ◌^◌, ◌⊎◌, inl, inr, ⊎_elim, ℕ, zero, suc, Bool, true, false, cond, ℤ, pos, negsuc, List, [], ◌∷◌, ◌++◌, length, map, replicate, take, drop, decimal, int_eq, refl, sym, ap, subst, ◌∙◌, arith, length-append, append_assoc}
use Rattle.std.specs.Fmt.{signed_decimal}
use Rattle.std.specs.List.{AllByRecursion}
use Rattle.std.proofs.lemmas.List.{append-nil}
use Rattle.std.proofs.lemmas.Int.{ints}
use Rattle.ac_forms.specs.Fits.{Fits, AllFit}
use Rattle.ac_forms.specs.NormalRows.{trim, trim_onto}
use Rattle.ac_prooftext_lines.specs.Spelling.{pair_word, term_words, terms_from}
use Rattle.ac_prooftext_lines.specs.Spellable.{IsIndexed}
use Rattle.ac_prooftext_lines.specs.ItemReaders.{AreCoefficients}
use Rattle.ac_prooftext_lines.proofs.Numerals.{same_number, same_integer, of_64}
use Rattle.ac_prooftext_lines.proofs.Cuts.{same_cut, number_free, no_colon}

is_zero : (a : ℤ) → int_eq a (pos 0) ≡ true → a ≡ pos 0
is_zero a e = grind (arith, ints)

is_other : (a : ℤ) → ¬ (a ≡ pos 0) → int_eq a (pos 0) ≡ false
is_other a h = grind (arith, ints)

not_zero : (a : ℤ) → int_eq a (pos 0) ≡ false → ¬ (a ≡ pos 0)
not_zero a e h = grind (arith, ints)

pub term_zero : (k : ℕ) (a : ℤ) → int_eq a (pos 0) ≡ true → term_words k a ≡ []
term_zero k a e = ap (λ b. cond b [] (pair_word (k, a) ∷ [])) e

pub term_other : (k : ℕ) (a : ℤ) → int_eq a (pos 0) ≡ false → term_words k a ≡ pair_word (k, a) ∷ []
term_other k a e = ap (λ b. cond b [] (pair_word (k, a) ∷ [])) e

-- a word of one of the coefficients from column k on
pub record IsTerm (low high : ℕ) (g : List ℤ) (w : List ℕ) : Type 0 where
  pub column : ℕ
  pub coef : ℤ
  pub from : low ≤ column
  pub below : column < high
  pub other : ¬ (coef ≡ pos 0)
  pub fits : AllFit g → Fits coef
  pub word : w ≡ pair_word (column, coef)

later : {low low' high high' : ℕ} {c : ℤ} {g : List ℤ} {w : List ℕ} → low' ≤ low → high ≤ high' → IsTerm low high g w → IsTerm low' high' (c ∷ g) w
later {low} {low'} {high} {high'} {c} {g} {w} l h t = record {
  column = t.column;
  coef = t.coef;
  from = let f = t.from in omega (arith, l, f);
  below = let b = t.below in omega (arith, h, b);
  other = t.other;
  fits = λ f. t.fits f.1;
  word = t.word;
}

eased : {low low' high high' : ℕ} {g : List ℤ} {w : List ℕ} → low' ≤ low → high ≤ high' → IsTerm low high g w → IsTerm low' high' g w
eased {low} {low'} {high} {high'} {g} {w} l h t = record {
  column = t.column;
  coef = t.coef;
  from = let f = t.from in omega (arith, l, f);
  below = let b = t.below in omega (arith, h, b);
  other = t.other;
  fits = t.fits;
  word = t.word;
}

pub first_term : (k : ℕ) (g : List ℤ) (w : List ℕ) (ws : List (List ℕ)) → w ∷ ws ≡ terms_from k g → IsTerm k (k + length g) g w
first_term k [] w ws e = absurd cc
first_term k (a ∷ g) w ws e = by (int_eq a (pos 0)) refl (λ h. first_term (suc k) g w ws h)
  where
    by : (b : Bool) → int_eq a (pos 0) ≡ b → (w ∷ ws ≡ terms_from (suc k) g → IsTerm (suc k) (suc k + length g) g w) → IsTerm k (k + length (a ∷ g)) (a ∷ g) w
    by true z rest = later (omega arith) (omega arith) (rest (e ∙ ap (λ l. l ++ terms_from (suc k) g) (term_zero k a z)))
    by false z rest =
        let whole : w ∷ ws ≡ pair_word (k, a) ∷ terms_from (suc k) g = e ∙ ap (λ l. l ++ terms_from (suc k) g) (term_other k a z) in
        record { column = k; coef = a; from = omega arith; below = omega arith; other = not_zero a z; fits = λ f. f.0; word = cc }

pub same_column : (k j : ℕ) (x c : ℤ) → k < 2 ^ 64 → j < 2 ^ 64 → pair_word (k, x) ≡ pair_word (j, c) → (k ≡ j) × (signed_decimal x ≡ signed_decimal c)
same_column k j x c h i e =
    let cut = same_cut 58 (decimal k) (signed_decimal x) (decimal j) (signed_decimal c) (number_free 58 k no_colon (of_64 k h)) (number_free 58 j no_colon (of_64 j i)) e in
    (same_number k j (of_64 k h) (of_64 j i) cut.0, cut.1)

some_words : {A : Type 0} (xs : List A) (y : A) (ys : List A) → ¬ (xs ++ y ∷ ys ≡ [])
some_words [] y ys e = absurd cc
some_words (x ∷ xs) y ys e = absurd cc

pub trim_tail : (x : ℤ) (xs : List ℤ) → trim (x ∷ xs) ≡ x ∷ xs → trim xs ≡ xs
trim_tail x xs e = by (trim xs) e
  where
    by : (ds : List ℤ) → trim_onto x ds ≡ x ∷ xs → ds ≡ xs
    by [] h = ends (int_eq x (pos 0)) h
      where
        ends : (b : Bool) → cond b [] (x ∷ []) ≡ x ∷ xs → [] ≡ xs
        ends true k = absurd cc
        ends false k = cc
    by (d ∷ ds) h = cc

-- a list that does not end in 0 has a word
pub some_term : (k : ℕ) (x : ℤ) (xs : List ℤ) → trim (x ∷ xs) ≡ x ∷ xs → (v : List ℕ) × (vs : List (List ℕ)) × (terms_from k (x ∷ xs) ≡ v ∷ vs)
some_term k x [] e = by (int_eq x (pos 0)) refl e
  where
    by : (b : Bool) → int_eq x (pos 0) ≡ b → cond (int_eq x (pos 0)) [] (x ∷ []) ≡ x ∷ [] → (v : List ℕ) × (vs : List (List ℕ)) × (terms_from k (x ∷ []) ≡ v ∷ vs)
    by true z h = absurd (let n : [] ≡ x ∷ [] = sym (ap (λ b. cond b [] (x ∷ [])) z) ∙ h in cc)
    by false z h = (pair_word (k, x), [], ap (λ l. l ++ []) (term_other k x z))
some_term k x (y ∷ ys) e = by (int_eq x (pos 0)) refl (some_term (suc k) y ys (trim_tail x (y ∷ ys) e))
  where
    by : (b : Bool) → int_eq x (pos 0) ≡ b → (v : List ℕ) × (vs : List (List ℕ)) × (terms_from (suc k) (y ∷ ys) ≡ v ∷ vs) → (v : List ℕ) × (vs : List (List ℕ)) × (terms_from k (x ∷ y ∷ ys) ≡ v ∷ vs)
    by true z more = (more.0, more.1, ap (λ l. l ++ terms_from (suc k) (y ∷ ys)) (term_zero k x z) ∙ more.2)
    by false z more = (pair_word (k, x), terms_from (suc k) (y ∷ ys), ap (λ l. l ++ terms_from (suc k) (y ∷ ys)) (term_other k x z))

-- behind coefficients that were read comes a word of a later column
next_term : (k : ℕ) (xs g : List ℤ) (w : List ℕ) (ws : List (List ℕ)) → trim xs ≡ xs → k + length xs ≤ 2 ^ 64 → k + length g ≤ 2 ^ 64 → terms_from k xs ++ w ∷ ws ≡ terms_from k g → IsTerm (k + length xs) (k + length g) g w
next_term k [] g w ws t a b e = eased (omega arith) (omega arith) (first_term k g w ws e)
next_term k (x ∷ xs) [] w ws t a b e = absurd (some_words (terms_from k (x ∷ xs)) w ws e)
next_term k (x ∷ xs) (c ∷ g) w ws t a b e = by (int_eq x (pos 0)) (int_eq c (pos 0)) refl refl (λ h. later (omega arith) (omega arith) (next_term (suc k) xs g w ws (trim_tail x xs t) (omega (arith, a)) (omega (arith, b)) h))
  where
    zero_front : int_eq x (pos 0) ≡ true → terms_from (suc k) xs ++ w ∷ ws ≡ terms_from k (c ∷ g)
    zero_front z = sym (ap (λ l. (l ++ terms_from (suc k) xs) ++ w ∷ ws) (term_zero k x z)) ∙ e

    other_front : int_eq x (pos 0) ≡ false → pair_word (k, x) ∷ (terms_from (suc k) xs ++ w ∷ ws) ≡ terms_from k (c ∷ g)
    other_front z = sym (ap (λ l. (l ++ terms_from (suc k) xs) ++ w ∷ ws) (term_other k x z)) ∙ e

    zero_back : int_eq c (pos 0) ≡ true → terms_from k (c ∷ g) ≡ terms_from (suc k) g
    zero_back z = ap (λ l. l ++ terms_from (suc k) g) (term_zero k c z)

    other_back : int_eq c (pos 0) ≡ false → terms_from k (c ∷ g) ≡ pair_word (k, c) ∷ terms_from (suc k) g
    other_back z = ap (λ l. l ++ terms_from (suc k) g) (term_other k c z)

    too_late : (v : ℤ) (h : List ℤ) (w' : List ℕ) → suc k + length h ≤ 2 ^ 64 → IsTerm (suc k) (suc k + length h) h w' → w' ≡ pair_word (k, v) → ⊥
    too_late v h w' room s same =
        let below = s.below in
        let from = s.from in
        let col = same_column s.column k s.coef v (omega (arith, below, room)) (omega (arith, room)) (sym s.word ∙ same) in
        omega (arith, col.0, from)

    zero_other : (ys : List ℤ) → trim (x ∷ ys) ≡ x ∷ ys → int_eq x (pos 0) ≡ true → suc k + length ys ≤ 2 ^ 64 → terms_from (suc k) ys ++ w ∷ ws ≡ pair_word (k, c) ∷ terms_from (suc k) g → ⊥
    zero_other [] tr z room eq = let n : [] ≡ x ∷ [] = sym (ap (λ b. cond b [] (x ∷ [])) z) ∙ tr in cc
    zero_other (y ∷ ys) tr z room eq =
        let more = some_term (suc k) y ys (trim_tail x (y ∷ ys) tr) in
        let head : more.0 ∷ (more.1 ++ w ∷ ws) ≡ pair_word (k, c) ∷ terms_from (suc k) g = sym (ap (λ l. l ++ w ∷ ws) more.2) ∙ eq in
        too_late c (y ∷ ys) more.0 room (first_term (suc k) (y ∷ ys) more.0 more.1 (sym more.2)) (let h : more.0 ≡ pair_word (k, c) = cc in h)

    by : (p q : Bool) → int_eq x (pos 0) ≡ p → int_eq c (pos 0) ≡ q
        → (terms_from (suc k) xs ++ w ∷ ws ≡ terms_from (suc k) g → IsTerm (k + length (x ∷ xs)) (k + length (c ∷ g)) (c ∷ g) w)
        → IsTerm (k + length (x ∷ xs)) (k + length (c ∷ g)) (c ∷ g) w
    by true true z y rest = rest (zero_front z ∙ zero_back y)
    by true false z y rest = absurd (zero_other xs t z (omega (arith, a)) (zero_front z ∙ other_back y))
    by false true z y rest =
        let whole : pair_word (k, x) ∷ (terms_from (suc k) xs ++ w ∷ ws) ≡ terms_from (suc k) g = other_front z ∙ zero_back y in
        absurd (too_late x g (pair_word (k, x)) (omega (arith, b)) (first_term (suc k) g (pair_word (k, x)) (terms_from (suc k) xs ++ w ∷ ws) whole) refl)
    by false false z y rest =
        let whole : pair_word (k, x) ∷ (terms_from (suc k) xs ++ w ∷ ws) ≡ pair_word (k, c) ∷ terms_from (suc k) g = other_front z ∙ other_back y in
        rest (let r : terms_from (suc k) xs ++ w ∷ ws ≡ terms_from (suc k) g = cc in r)

terms_append : (k : ℕ) (xs ys : List ℤ) → terms_from k (xs ++ ys) ≡ terms_from k xs ++ terms_from (k + length xs) ys
terms_append k [] ys = ap (λ n. terms_from n ys) (let e : k ≡ k + 0 = omega arith in e)
terms_append k (x ∷ xs) ys =
    ap (λ l. term_words k x ++ l) (terms_append (suc k) xs ys ∙ ap (λ n. terms_from (suc k) xs ++ terms_from n ys) (let e : suc k + length xs ≡ k + suc (length xs) = omega arith in e))
    ∙ sym (append_assoc (term_words k x) (terms_from (suc k) xs) (terms_from (k + suc (length xs)) ys))

terms_zeros : (k n : ℕ) (a : ℤ) → terms_from k (replicate n (pos 0) ++ a ∷ []) ≡ term_words (k + n) a
terms_zeros k zero a = append-nil (term_words k a) ∙ ap (λ m. term_words m a) (let e : k ≡ k + 0 = omega arith in e)
terms_zeros k (suc n) a = terms_zeros (suc k) n a ∙ ap (λ m. term_words m a) (let e : suc k + n ≡ k + suc n = omega arith in e)

trim_last : (xs : List ℤ) (a : ℤ) → int_eq a (pos 0) ≡ false → trim (xs ++ a ∷ []) ≡ xs ++ a ∷ []
trim_last [] a e = ap (λ b. cond b [] (a ∷ [])) e
trim_last (x ∷ []) a e = ap (trim_onto x) (trim_last [] a e)
trim_last (x ∷ y ∷ ys) a e = ap (trim_onto x) (trim_last (y ∷ ys) a e)

fit_append : (xs ys : List ℤ) → AllFit xs → AllFit ys → AllFit (xs ++ ys)
fit_append [] ys f g = g
fit_append (x ∷ xs) ys f g = (f.0, fit_append xs ys f.1 g)

fit_zeros : (n : ℕ) → AllFit (replicate n (pos 0))
fit_zeros zero = tt
fit_zeros (suc n) = (search rules, fit_zeros n)

-- coefficients that were read, and the words that are left
pub record IsHalfRead (all ws : List (List ℕ)) (coefs : List ℤ) : Type 0 where
  pub words : all ≡ terms_from 0 coefs ++ ws
  pub trimmed : trim coefs ≡ coefs
  pub room : length coefs ≤ 2 ^ 64
  pub fit : AllFit coefs

pub starts : (all : List (List ℕ)) → IsHalfRead all all []
starts all = record { words = refl; trimmed = refl; room = omega arith; fit = tt }

added-length : (n : ℕ) (a : ℤ) → length (replicate n (pos 0) ++ a ∷ []) ≡ suc n
added-length zero a = refl
added-length (suc n) a = ap suc (added-length n a)

pub goes : (all old ws : List (List ℕ)) (w : List ℕ) (coefs new : List ℤ) (p : ℕ × ℤ) → IsHalfRead all old coefs → old ≡ w ∷ ws → IsIndexed p × (w ≡ pair_word p) → length coefs ≤ p.0 → ¬ (p.1 ≡ pos 0)
    → new ≡ coefs ++ (replicate (p.0 - length coefs) (pos 0) ++ p.1 ∷ []) → IsHalfRead all ws new
goes all old ws w coefs new p h e is le other n =
    let gap = p.0 - length coefs in
    let more = replicate gap (pos 0) ++ p.1 ∷ [] in
    let place : length coefs + gap ≡ p.0 = omega (arith, le) in
    let terms : terms_from 0 (coefs ++ more) ≡ terms_from 0 coefs ++ w ∷ [] =
    terms_append 0 coefs more
    ∙ ap (λ l. terms_from 0 coefs ++ l) (ap (λ k. terms_from k more) (let z : 0 + length coefs ≡ length coefs = omega arith in z) ∙ terms_zeros (length coefs) gap p.1 ∙ ap (λ k. term_words k p.1) place ∙ term_other p.0 p.1 (is_other p.1 other) ∙ ap (λ v. v ∷ []) (sym is.1)) in
    record {
      words = h.words ∙ ap (λ l. terms_from 0 coefs ++ l) e ∙ sym (append_assoc (terms_from 0 coefs) (w ∷ []) ws) ∙ ap (λ l. l ++ ws) (sym terms ∙ ap (terms_from 0) (sym n));
      trimmed = ap trim (n ∙ sym (append_assoc coefs (replicate gap (pos 0)) (p.1 ∷ []))) ∙ trim_last (coefs ++ replicate gap (pos 0)) p.1 (is_other p.1 other) ∙ append_assoc coefs (replicate gap (pos 0)) (p.1 ∷ []) ∙ sym n;
      room = let l : length new ≡ length coefs + suc gap = ap length n ∙ length-append coefs more ∙ ap (λ k. length coefs + k) (added-length gap p.1) in let i = is.0.0 in omega (arith, l, place, i);
      fit = subst AllFit (sym n) (fit_append coefs more h.fit (fit_append (replicate gap (pos 0)) (p.1 ∷ []) (fit_zeros gap) (is.0.1, tt)));
    }

next_of : (all old ws : List (List ℕ)) (w : List ℕ) (coefs g : List ℤ) → IsHalfRead all old coefs → old ≡ w ∷ ws → AreCoefficients g → all ≡ terms_from 0 g → IsTerm (0 + length coefs) (0 + length g) g w
next_of all old ws w coefs g h e can s =
    let room = h.room in
    next_term 0 coefs g w ws h.trimmed (omega (arith, room)) (let l = can.2 in omega (arith, l)) (sym (h.words ∙ ap (λ l. terms_from 0 coefs ++ l) e) ∙ s)

-- a word that is no number and integer
pub stops_word : (all old ws : List (List ℕ)) (w : List ℕ) (coefs : List ℤ) → IsHalfRead all old coefs → old ≡ w ∷ ws → ((p : ℕ × ℤ) → IsIndexed p → ¬ (w ≡ pair_word p)) → (g : List ℤ) → AreCoefficients g → ¬ (all ≡ terms_from 0 g)
stops_word all old ws w coefs h e none g can s =
    let t = next_of all old ws w coefs g h e can s in
    none (t.column, t.coef) (let b = t.below in let l = can.2 in omega (arith, b, l), t.fits can.0) t.word

-- a coefficient 0, or one of an earlier column
pub stops_pair : (all old ws : List (List ℕ)) (w : List ℕ) (coefs : List ℤ) (p : ℕ × ℤ) → IsHalfRead all old coefs → old ≡ w ∷ ws → IsIndexed p × (w ≡ pair_word p) → (p.1 ≡ pos 0) ⊎ (p.0 < length coefs) → (g : List ℤ) → AreCoefficients g → ¬ (all ≡ terms_from 0 g)
stops_pair all old ws w coefs p h e is bad g can s =
    let t = next_of all old ws w coefs g h e can s in
    let b = t.below in
    let l = can.2 in
    let col = same_column p.0 t.column p.1 t.coef is.0.0 (omega (arith, b, l)) (sym is.1 ∙ t.word) in
    ⊎_elim (λ z. t.other (sym (same_integer p.1 t.coef is.0.1 (t.fits can.0) col.1) ∙ z)) (λ u. let f = t.from in omega (arith, col.0, f, u)) bad

pub ends : (all old : List (List ℕ)) (coefs : List ℤ) → IsHalfRead all old coefs → old ≡ [] → AreCoefficients coefs × (all ≡ terms_from 0 coefs)
ends all old coefs h e = ((h.fit, h.trimmed, h.room), h.words ∙ ap (λ l. terms_from 0 coefs ++ l) e ∙ append-nil (terms_from 0 coefs))
