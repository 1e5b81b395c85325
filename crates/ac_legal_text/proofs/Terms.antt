-- The coefficients of a form, column by column.
use Rattle.std.proofs.Common.{◌≡◌, ◌≢◌, ◌<◌, ◌≤◌, ◌+◌, ◌-◌, ◌^◌, ℕ, zero, suc, Bool, true, false, true≢false, ℤ, pos, negsuc, List, [], ◌∷◌, ◌++◌, take, drop, length, get_or, decimal, int_eq, cond, Option, None, Some, MatchOption, refl, sym, ap, subst, ◌∙◌, arith, append_assoc, append-nil, lit<}
use Rattle.std.specs.Prelude.{codes}
use Rattle.std.specs.Fmt.{signed_decimal}
use Rattle.std.specs.List.{AllByRecursion}
use Rattle.std.proofs.lemmas.Fmt.{decimal_injective}
use Rattle.std.proofs.lemmas.Int.{ints}
use Rattle.std.proofs.lemmas.List.{drop_more, drop_all, length-append, length-drop}
use Rattle.ac_prooftext_lines.specs.LineWords.{further}
use Rattle.ac_prooftext_lines.specs.Spelling.{pair_word, term_words, terms_from}
use Rattle.ac_prooftext_lines.proofs.Cuts.{same_cut, number_free, no_colon}
use Rattle.ac_legal_text.specs.Fronts.{IsEnd}
use Rattle.ac_legal_text.specs.OrderTexts.{IsSmall}
use Rattle.ac_legal_text.proofs.Numerals.{same_number}
use Rattle.ac_legal_text.proofs.Texts.{same_rest}

-- ---- the text of one coefficient

term_zero : (k : ℕ) (a : ℤ) → int_eq a (pos 0) ≡ true → term_words k a ≡ []
term_zero k a z = ap (λ (b : Bool). cond b [] (pair_word (k, a) ∷ [])) z

term_other : (k : ℕ) (a : ℤ) → int_eq a (pos 0) ≡ false → term_words k a ≡ pair_word (k, a) ∷ []
term_other k a z = ap (λ (b : Bool). cond b [] (pair_word (k, a) ∷ [])) z

is_zero : (a : ℤ) → int_eq a (pos 0) ≡ true → a ≡ pos 0
is_zero a z = grind (arith, ints)

not_zero : (a : ℤ) → int_eq a (pos 0) ≡ false → a ≢ pos 0
not_zero a z = λ e. true≢false (sym (ap (λ (x : ℤ). int_eq x (pos 0)) e) ∙ z)

zero_test : (a : ℤ) → a ≢ pos 0 → int_eq a (pos 0) ≡ false
zero_test a h = by (int_eq a (pos 0)) refl
  where
    by : (b : Bool) → int_eq a (pos 0) ≡ b → int_eq a (pos 0) ≡ false
    by true e = absurd (h (is_zero a e))
    by false e = e

further_append : (xs ys : List (List ℕ)) → further (xs ++ ys) ≡ further xs ++ further ys
further_append [] ys = refl
further_append (x ∷ xs) ys = ap (λ (t : List ℕ). (codes " " ++ x) ++ t) (further_append xs ys) ∙ sym (append_assoc (codes " " ++ x) (further xs) (further ys))

-- what is behind the column of a coefficient
abbrev pub behind_colon : ℕ → List ℕ → List ℕ
behind_colon k rest = codes " " ++ (decimal k ++ (codes ":" ++ rest))

shape : (k : ℕ) (a : ℤ) (F t : List ℕ) → (codes " " ++ pair_word (k, a)) ++ (F ++ t) ≡ behind_colon k (signed_decimal a ++ (F ++ t))
shape k a F t = ap (λ (l : List ℕ). codes " " ++ l) (append_assoc (decimal k) (codes ":" ++ signed_decimal a) (F ++ t))

zero_shape : (k : ℕ) (a : ℤ) (cs : List ℤ) (t : List ℕ) → int_eq a (pos 0) ≡ true → further (terms_from k (a ∷ cs)) ++ t ≡ further (terms_from (suc k) cs) ++ t
zero_shape k a cs t z = ap (λ (l : List (List ℕ)). further (l ++ terms_from (suc k) cs) ++ t) (term_zero k a z)

other_shape : (k : ℕ) (a : ℤ) (cs : List ℤ) (t : List ℕ) → int_eq a (pos 0) ≡ false → further (terms_from k (a ∷ cs)) ++ t ≡ behind_colon k (signed_decimal a ++ (further (terms_from (suc k) cs) ++ t))
other_shape k a cs t z =
    ap (λ (l : List (List ℕ)). further (l ++ terms_from (suc k) cs) ++ t) (term_other k a z)
    ∙ append_assoc (codes " " ++ pair_word (k, a)) (further (terms_from (suc k) cs)) t
    ∙ shape k a (further (terms_from (suc k) cs)) t

-- what ends a number: a further word, or the end of the line
pub end_of : (ws : List (List ℕ)) (t : List ℕ) → IsEnd (further ws ++ 10 ∷ t)
end_of [] t = omega arith
end_of (w ∷ ws) t = omega arith

-- a column does not stand behind later ones
same_column : (k j : ℕ) (r s : List ℕ) → k < 2 ^ 64 → j < 2 ^ 64 → behind_colon k r ≡ behind_colon j s → k ≡ j
same_column k j r s l m e =
    let top : 2 ^ 64 < 2 ^ 128 = lit< tt in
    let both = same_cut 58 (decimal k) r (decimal j) s (number_free 58 k no_colon (omega (arith, l, top))) (number_free 58 j no_colon (omega (arith, m, top))) (ap (drop 1) e) in
    decimal_injective k j l m both.0

no_blank : (r t : List ℕ) (k : ℕ) → behind_colon k r ≡ 10 ∷ t → ⊥
no_blank r t k e = let h : 32 ≡ 10 = ap (λ (l : List ℕ). get_or l 0 0) e in omega (arith, h)

pub later_column : (cs : List ℤ) (k j : ℕ) (r t : List ℕ) → k < j → j + length cs ≤ 2 ^ 64 → behind_colon k r ≡ further (terms_from j cs) ++ 10 ∷ t → ⊥
later_column [] k j r t l m e = no_blank r t k e
later_column (c ∷ cs) k j r t l m e = by (int_eq c (pos 0)) refl (λ z. later_column cs k (suc j) r t (omega (arith, l)) (omega (arith, m)) (e ∙ zero_shape j c cs (10 ∷ t) z))
  where
    by : (b : Bool) → int_eq c (pos 0) ≡ b → (int_eq c (pos 0) ≡ true → ⊥) → ⊥
    by true z on = on z
    by false z on = let same : k ≡ j = same_column k j r (signed_decimal c ++ (further (terms_from (suc j) cs) ++ 10 ∷ t)) (omega (arith, l, m)) (omega (arith, m)) (e ∙ other_shape j c cs (10 ∷ t) z) in omega (arith, same, l)

-- ---- what is read of one coefficient

-- the coefficient of a column and those behind it stand at the front of a text
abbrev Stands : List ℕ → ℕ → ℤ → List ℤ → List ℕ → Type 0
Stands text k a cs t = text ≡ further (terms_from k (a ∷ cs)) ++ 10 ∷ t

pub zero_read : (text : List ℕ) (k : ℕ) → IsSmall (pos 0) × (text ≡ further (term_words k (pos 0)) ++ text)
zero_read text k = (omega arith, refl)

pub number_read : (text digits rest : List ℕ) (k : ℕ) (z : ℤ) → text ≡ behind_colon k digits → IsSmall z → digits ≡ signed_decimal z ++ rest → z ≢ pos 0 → IsSmall z × (text ≡ further (term_words k z) ++ rest)
number_read text digits rest k z e small d other =
    let words : term_words k z ≡ pair_word (k, z) ∷ [] = term_other k z (zero_test z other) in (
      small,
      e
          ∙ ap (behind_colon k) d
          ∙ sym (shape k z [] rest)
          ∙ sym (append_assoc (codes " " ++ pair_word (k, z)) [] rest)
          ∙ sym (ap (λ (l : List (List ℕ)). further l ++ rest) words),
    )

-- a column that does not stand there has the coefficient 0
pub zero_stands : (text : List ℕ) (k : ℕ) → ((r : List ℕ) → ¬ (text ≡ behind_colon k r)) → (a : ℤ) (cs : List ℤ) (t : List ℕ) → Stands text k a cs t → (pos 0 ≡ a) × (text ≡ further (terms_from (suc k) cs) ++ 10 ∷ t)
zero_stands text k none a cs t e = by (int_eq a (pos 0)) refl
  where
    by : (b : Bool) → int_eq a (pos 0) ≡ b → (pos 0 ≡ a) × (text ≡ further (terms_from (suc k) cs) ++ 10 ∷ t)
    by true z = (sym (is_zero a z), e ∙ zero_shape k a cs (10 ∷ t) z)
    by false z = absurd (none (signed_decimal a ++ (further (terms_from (suc k) cs) ++ 10 ∷ t)) (e ∙ other_shape k a cs (10 ∷ t) z))

-- behind its column a coefficient that is not 0 stands
stands_behind : (text digits : List ℕ) (k : ℕ) → text ≡ behind_colon k digits → (a : ℤ) (cs : List ℤ) (t : List ℕ) → suc k + length cs ≤ 2 ^ 64 → Stands text k a cs t
    → (int_eq a (pos 0) ≡ false) × (digits ≡ signed_decimal a ++ (further (terms_from (suc k) cs) ++ 10 ∷ t))
stands_behind text digits k d a cs t room e = by (int_eq a (pos 0)) refl
  where
    by : (b : Bool) → int_eq a (pos 0) ≡ b → (int_eq a (pos 0) ≡ false) × (digits ≡ signed_decimal a ++ (further (terms_from (suc k) cs) ++ 10 ∷ t))
    by true z = absurd (later_column cs k (suc k) digits t (omega arith) room (sym d ∙ e ∙ zero_shape k a cs (10 ∷ t) z))
    by false z = (
      z,
      same_rest (codes ":") digits (signed_decimal a ++ (further (terms_from (suc k) cs) ++ 10 ∷ t))
          (same_rest (decimal k) (codes ":" ++ digits) (codes ":" ++ (signed_decimal a ++ (further (terms_from (suc k) cs) ++ 10 ∷ t)))
          (same_rest (codes " ") (decimal k ++ (codes ":" ++ digits)) (decimal k ++ (codes ":" ++ (signed_decimal a ++ (further (terms_from (suc k) cs) ++ 10 ∷ t)))) (sym d ∙ e ∙ other_shape k a cs (10 ∷ t) z))),
    )

-- so behind a column without a number, or with the number 0, none stands
pub none_stands : (text digits : List ℕ) (k : ℕ) → text ≡ behind_colon k digits → ((z : ℤ) (r : List ℕ) → IsSmall z → IsEnd r → ¬ (digits ≡ signed_decimal z ++ r))
    → (a : ℤ) (cs : List ℤ) (t : List ℕ) → IsSmall a → suc k + length cs ≤ 2 ^ 64 → Stands text k a cs t → ⊥
none_stands text digits k d none a cs t small room e = none a (further (terms_from (suc k) cs) ++ 10 ∷ t) small (end_of (terms_from (suc k) cs) t) (stands_behind text digits k d a cs t room e).1

pub null_stands : (text digits rest : List ℕ) (k : ℕ) (z : ℤ) → text ≡ behind_colon k digits → IsSmall z → IsEnd rest → digits ≡ signed_decimal z ++ rest → z ≡ pos 0
    → (a : ℤ) (cs : List ℤ) (t : List ℕ) → IsSmall a → suc k + length cs ≤ 2 ^ 64 → Stands text k a cs t → ⊥
null_stands text digits rest k z d sz ez f null a cs t small room e =
    let h = stands_behind text digits k d a cs t room e in
    let both = same_number digits z a rest (further (terms_from (suc k) cs) ++ 10 ∷ t) sz ez f small (end_of (terms_from (suc k) cs) t) h.1 in
    not_zero a h.0 (sym both.0 ∙ null)

pub number_stands : (text digits rest : List ℕ) (k : ℕ) (z : ℤ) → text ≡ behind_colon k digits → IsSmall z → IsEnd rest → digits ≡ signed_decimal z ++ rest
    → (a : ℤ) (cs : List ℤ) (t : List ℕ) → IsSmall a → suc k + length cs ≤ 2 ^ 64 → Stands text k a cs t → (z ≡ a) × (rest ≡ further (terms_from (suc k) cs) ++ 10 ∷ t)
number_stands text digits rest k z d sz ez f a cs t small room e =
    let h = stands_behind text digits k d a cs t room e in
    same_number digits z a rest (further (terms_from (suc k) cs) ++ 10 ∷ t) sz ez f small (end_of (terms_from (suc k) cs) t) h.1

-- ---- coefficients that are read up to some column

pub snoc : (k : ℕ) (cs : List ℤ) (a : ℤ) → further (terms_from k (cs ++ a ∷ [])) ≡ further (terms_from k cs) ++ further (term_words (k + length cs) a)
snoc k [] a = ap further (append-nil (term_words k a)) ∙ ap (λ (n : ℕ). further (term_words n a)) (let e : k ≡ k + 0 = omega arith in e)
snoc k (c ∷ cs) a =
    further_append (term_words k c) (terms_from (suc k) (cs ++ a ∷ []))
    ∙ ap (λ (l : List ℕ). further (term_words k c) ++ l) (snoc (suc k) cs a ∙ ap (λ (n : ℕ). further (terms_from (suc k) cs) ++ further (term_words n a)) (let e : suc k + length cs ≡ k + suc (length cs) = omega arith in e))
    ∙ sym (append_assoc (further (term_words k c)) (further (terms_from (suc k) cs)) (further (term_words (k + suc (length cs)) a)))
    ∙ ap (λ (l : List ℕ). l ++ further (term_words (k + suc (length cs)) a)) (sym (further_append (term_words k c) (terms_from (suc k) cs)))

all_more : (cs : List ℤ) (a : ℤ) → AllByRecursion IsSmall cs → IsSmall a → AllByRecursion IsSmall (cs ++ a ∷ [])
all_more [] a h k = (k, tt)
all_more (c ∷ cs) a h k = (h.0, all_more cs a h.1 k)

small_at : (n : ℕ) (cs : List ℤ) → n < length cs → AllByRecursion IsSmall cs → IsSmall (get_or cs n (pos 0))
small_at n [] l h = absurd (omega arith)
small_at zero (c ∷ cs) l h = h.0
small_at (suc n) (c ∷ cs) l h = small_at n cs (omega arith) h.1

drop_room : (columns column : ℕ) (cs : List ℤ) → column < columns → columns < 2 ^ 64 → length cs ≡ columns → suc column + length (drop (column + 1) cs) ≤ 2 ^ 64
drop_room columns column cs l top long = let d : length (drop (column + 1) cs) ≡ length cs - (column + 1) = length-drop (column + 1) cs in omega (arith, l, top, long, d)

pub record IsHalfRead (text : List ℕ) (columns column : ℕ) (coefs : List ℤ) (rest : List ℕ) : Type 0 where
  pub front : text ≡ further (terms_from 0 coefs) ++ rest
  pub small : AllByRecursion IsSmall coefs
  pub count : length coefs ≡ column
  pub onward : (cs : List ℤ) (t : List ℕ) → AllByRecursion IsSmall cs → length cs ≡ columns → text ≡ further (terms_from 0 cs) ++ 10 ∷ t → rest ≡ further (terms_from column (drop column cs)) ++ 10 ∷ t

pub half_start : (text : List ℕ) (columns : ℕ) → IsHalfRead text columns 0 [] text
half_start text columns = record { front = refl; small = tt; count = refl; onward = λ cs t h l e. e }

-- what is left begins with the coefficient of the next column
next_stands : (text : List ℕ) (columns column : ℕ) (coefs : List ℤ) (rest : List ℕ) → IsHalfRead text columns column coefs rest → column < columns
    → (cs : List ℤ) (t : List ℕ) → AllByRecursion IsSmall cs → length cs ≡ columns → text ≡ further (terms_from 0 cs) ++ 10 ∷ t → Stands rest column (get_or cs column (pos 0)) (drop (column + 1) cs) t
next_stands text columns column coefs rest h l cs t small long e =
    h.onward cs t small long e ∙ ap (λ (xs : List ℤ). further (terms_from column xs) ++ 10 ∷ t) (drop_more cs column (pos 0) (omega (arith, l, long)))

pub half_stop : (text : List ℕ) (columns column : ℕ) (coefs : List ℤ) (rest : List ℕ) → IsHalfRead text columns column coefs rest → column < columns → columns < 2 ^ 64
    → ((a : ℤ) (cs : List ℤ) (t : List ℕ) → IsSmall a → suc column + length cs ≤ 2 ^ 64 → rest ≡ further (terms_from column (a ∷ cs)) ++ 10 ∷ t → ⊥)
    → (cs : List ℤ) (t : List ℕ) → AllByRecursion IsSmall cs → length cs ≡ columns → ¬ (text ≡ further (terms_from 0 cs) ++ 10 ∷ t)
half_stop text columns column coefs rest h l top none cs t small long e =
    none (get_or cs column (pos 0)) (drop (column + 1) cs) t (small_at column cs (omega (arith, l, long)) small) (drop_room columns column cs l top long) (next_stands text columns column coefs rest h l cs t small long e)

pub half_step : (text : List ℕ) (columns column : ℕ) (coefs new : List ℤ) (rest behind : List ℕ) (number : ℤ) → IsHalfRead text columns column coefs rest → column < columns → columns < 2 ^ 64
    → IsSmall number × (rest ≡ further (term_words column number) ++ behind)
    → ((a : ℤ) (cs : List ℤ) (t : List ℕ) → IsSmall a → suc column + length cs ≤ 2 ^ 64 → rest ≡ further (terms_from column (a ∷ cs)) ++ 10 ∷ t → (number ≡ a) × (behind ≡ further (terms_from (suc column) cs) ++ 10 ∷ t))
    → new ≡ coefs ++ number ∷ [] → IsHalfRead text columns (column + 1) new behind
half_step text columns column coefs new rest behind number h l top read whole is = record {
  front =
      h.front
      ∙ ap (λ (r : List ℕ). further (terms_from 0 coefs) ++ r) read.1
      ∙ sym (append_assoc (further (terms_from 0 coefs)) (further (term_words column number)) behind)
      ∙ ap (λ (n : ℕ). (further (terms_from 0 coefs) ++ further (term_words n number)) ++ behind) (let k = h.count in let same : column ≡ 0 + length coefs = omega (arith, k) in same)
      ∙ ap (λ (r : List ℕ). r ++ behind) (sym (snoc 0 coefs number))
      ∙ ap (λ (xs : List ℤ). further (terms_from 0 xs) ++ behind) (sym is);
  small = subst (AllByRecursion IsSmall) (sym is) (all_more coefs number h.small read.0);
  count = ap length is ∙ length-append coefs (number ∷ []) ∙ ap (λ (n : ℕ). n + 1) h.count;
  onward = λ cs t small long e.
      (whole (get_or cs column (pos 0)) (drop (column + 1) cs) t (small_at column cs (omega (arith, l, long)) small) (drop_room columns column cs l top long) (next_stands text columns column coefs rest h l cs t small long e)).1
      ∙ ap (λ (n : ℕ). further (terms_from n (drop (column + 1) cs)) ++ 10 ∷ t) (let k : suc column ≡ column + 1 = omega arith in k);
}

-- where all columns are read, the line ends
pub half_open : (text : List ℕ) (columns column : ℕ) (coefs : List ℤ) (rest : List ℕ) → IsHalfRead text columns column coefs rest → columns ≤ column → ((r : List ℕ) → ¬ (rest ≡ 10 ∷ r))
    → (cs : List ℤ) (t : List ℕ) → AllByRecursion IsSmall cs → length cs ≡ columns → ¬ (text ≡ further (terms_from 0 cs) ++ 10 ∷ t)
half_open text columns column coefs rest h l none cs t small long e =
    none t (h.onward cs t small long e ∙ ap (λ (xs : List ℤ). further (terms_from column xs) ++ 10 ∷ t) (drop_all column cs (omega (arith, l, long))))

pub half_end : (text : List ℕ) (columns column : ℕ) (coefs : List ℤ) (rest r : List ℕ) → IsHalfRead text columns column coefs rest → column ≡ columns → rest ≡ 10 ∷ r
    → AllByRecursion IsSmall coefs × (length coefs ≡ columns) × (text ≡ further (terms_from 0 coefs) ++ 10 ∷ r)
half_end text columns column coefs rest r h l e = (h.small, h.count ∙ l, h.front ∙ ap (λ (t : List ℕ). further (terms_from 0 coefs) ++ t) e)

pub ended : {A : Type 0} (f : A → List ℕ) (text : List ℕ) (columns column : ℕ) (coefs : List ℤ) (rest : List ℕ) (o : Option A) → IsHalfRead text columns column coefs rest → column ≡ columns
    → MatchOption o ((r : List ℕ) → ¬ (rest ≡ codes "\n" ++ r)) (λ x. rest ≡ codes "\n" ++ f x)
    → MatchOption o ((cs : List ℤ) (t : List ℕ) → AllByRecursion IsSmall cs → length cs ≡ columns → ¬ (text ≡ further (terms_from 0 cs) ++ 10 ∷ t)) (λ x. AllByRecursion IsSmall coefs × (length coefs ≡ columns) × (text ≡ further (terms_from 0 coefs) ++ 10 ∷ f x))
ended f text columns column coefs rest None h l e = half_open text columns column coefs rest h (omega (arith, l)) e
ended f text columns column coefs rest (Some x) h l e = half_end text columns column coefs rest (f x) h l e
