-- Terms that stand behind others.
use Rattle.std.proofs.Common.{◌≡◌, ◌<◌, ◌≤◌, ℕ, ℤ, ◌+◌, List, [], ◌∷◌, ◌++◌, drop, get_or, length, refl, sym, ap, ◌∙◌, append_assoc, arith, pos, drop_of_length-le, codes, Bool, true, false}
use Rattle.std.specs.Prelude.{unsigned_abs}
use Rattle.std.specs.List.{flat_map}
use Rattle.std.specs.Fmt.{decimal}
use Rattle.std.proofs.lemmas.List.{append-nil, drop_more}
use Rattle.ac_forms.specs.Affine.{Affine}
use Rattle.ac_sets.specs.SetTexts.{Term, column_name, multiple_text, term_of, terms_from, first_text, further_text, sum_text, form_text}
use Rattle.ac_sets.specs.SumTexts.{next_text, continued, has_terms}

still : (ts : List Term) → has_terms true ts ≡ true
still [] = refl
still (t ∷ ts) = refl

continued_further : (any : Bool) (xs ys : List Term) → continued any (xs ++ ys) ≡ continued any xs ++ continued (has_terms any xs) ys
continued_further any [] ys = refl
continued_further any (x ∷ xs) ys =
    let rest = continued true xs in
    let further : continued true (xs ++ ys) ≡ rest ++ continued true ys = continued_further true xs ys ∙ ap (λ b. rest ++ continued b ys) (still xs) in
    ap (λ l. next_text any x ++ l) further ∙ sym (append_assoc (next_text any x) rest (continued true ys))

has_further : (any : Bool) (xs ys : List Term) → has_terms any (xs ++ ys) ≡ has_terms (has_terms any xs) ys
has_further any [] ys = refl
has_further any (x ∷ xs) [] = refl
has_further any (x ∷ xs) (y ∷ ys) = refl

-- the term of a column
abbrev pub column_term : List (List ℕ) → ℕ → ℤ → List Term
column_term names k c = term_of c (multiple_text (unsigned_abs c) (column_name names k))

-- the terms before column i are there, with what they make of the text so far
pub record TermsHalfway (names : List (List ℕ)) (cs : List ℤ) (old new : List ℕ) (any : Bool) (i : ℕ) : Type 0 where
  pub room : i ≤ length cs
  pub text : new ++ continued any (terms_from names i (drop i cs)) ≡ old ++ continued false (terms_from names 0 cs)
  pub some : has_terms any (terms_from names i (drop i cs)) ≡ has_terms false (terms_from names 0 cs)

pub terms_start : (names : List (List ℕ)) (cs : List ℤ) (old : List ℕ) → TermsHalfway names cs old old false 0
terms_start names cs old = record { room = omega arith; text = refl; some = refl }

pub terms_step : (names : List (List ℕ)) (cs : List ℤ) (old bytes new : List ℕ) (any now : Bool) (i : ℕ) (c : ℤ) → TermsHalfway names cs old bytes any i → i < length cs → c ≡ get_or cs i (pos 0)
    → new ≡ bytes ++ continued any (column_term names i c) → now ≡ has_terms any (column_term names i c) → TermsHalfway names cs old new now (i + 1)
terms_step names cs old bytes new any now i c h m e text some =
    let t = column_term names i c in
    let rest = terms_from names (i + 1) (drop (i + 1) cs) in
    let front : drop i cs ≡ c ∷ drop (i + 1) cs = rw e (drop_more cs i (pos 0) m) in
    let here : terms_from names i (drop i cs) ≡ t ++ rest = ap (terms_from names i) front in
    record {
      room = omega arith;
      text = ap (λ l. l ++ continued now rest) text ∙ ap (λ b. (bytes ++ continued any t) ++ continued b rest) some ∙ append_assoc bytes (continued any t) (continued (has_terms any t) rest)
          ∙ ap (λ l. bytes ++ l) (sym (continued_further any t rest)) ∙ ap (λ l. bytes ++ continued any l) (sym here) ∙ h.text;
      some = ap (λ b. has_terms b rest) some ∙ sym (has_further any t rest) ∙ ap (has_terms any) (sym here) ∙ h.some;
    }

none-left : (names : List (List ℕ)) (cs : List ℤ) (i : ℕ) → length cs ≤ i → terms_from names i (drop i cs) ≡ []
none-left names cs i over = ap (terms_from names i) (drop_of_length-le cs over)

pub terms_text : (names : List (List ℕ)) (cs : List ℤ) (old new : List ℕ) (any : Bool) (i : ℕ) → TermsHalfway names cs old new any i → length cs ≤ i → new ≡ old ++ continued false (terms_from names 0 cs)
terms_text names cs old new any i h over = sym (append-nil new) ∙ ap (λ l. new ++ continued any l) (sym (none-left names cs i over)) ∙ h.text

pub terms_any : (names : List (List ℕ)) (cs : List ℤ) (old new : List ℕ) (any : Bool) (i : ℕ) → TermsHalfway names cs old new any i → length cs ≤ i → any ≡ has_terms false (terms_from names 0 cs)
terms_any names cs old new any i h over = ap (has_terms any) (sym (none-left names cs i over)) ∙ h.some

pub ruleset terms_steps = (terms_start, terms_step, terms_text, terms_any)

shown : (ts : List Term) → continued true ts ≡ flat_map further_text ts
shown [] = refl
shown (t ∷ ts) = ap (λ l. further_text t ++ l) (shown ts)

some-text : (ts : List Term) → true ≡ has_terms false ts → continued false ts ≡ sum_text ts
some-text [] e = absurd cc
some-text (t ∷ ts) e = ap (λ l. first_text t ++ l) (shown ts)

none-text : (ts : List Term) → false ≡ has_terms false ts → continued false ts ++ 48 ∷ [] ≡ sum_text ts
none-text [] e = refl
none-text (t ∷ ts) e = absurd cc

-- a form is the terms of its columns and of its constant
pub form_whole : (names : List (List ℕ)) (f : Affine) (old one two : List ℕ) (a b : Bool)
    → one ≡ old ++ continued false (terms_from names 0 f.coefs) → a ≡ has_terms false (terms_from names 0 f.coefs)
    → two ≡ one ++ continued a (term_of f.konst (decimal (unsigned_abs f.konst))) → b ≡ has_terms a (term_of f.konst (decimal (unsigned_abs f.konst)))
    → true ≡ b → two ≡ old ++ form_text names f
form_whole names f old one two a b e g h k some =
    let xs = terms_from names 0 f.coefs in
    let ys = term_of f.konst (decimal (unsigned_abs f.konst)) in
    let all : continued false (xs ++ ys) ≡ continued false xs ++ continued a ys = continued_further false xs ys ∙ ap (λ x. continued false xs ++ continued x ys) (sym g) in
    let any : b ≡ has_terms false (xs ++ ys) = k ∙ ap (λ x. has_terms x ys) g ∙ sym (has_further false xs ys) in
    h ∙ ap (λ l. l ++ continued a ys) e ∙ append_assoc old (continued false xs) (continued a ys) ∙ ap (λ l. old ++ l) (sym all ∙ some-text (xs ++ ys) (some ∙ any))

pub form_zero : (names : List (List ℕ)) (f : Affine) (old one two three : List ℕ) (a b : Bool)
    → one ≡ old ++ continued false (terms_from names 0 f.coefs) → a ≡ has_terms false (terms_from names 0 f.coefs)
    → two ≡ one ++ continued a (term_of f.konst (decimal (unsigned_abs f.konst))) → b ≡ has_terms a (term_of f.konst (decimal (unsigned_abs f.konst)))
    → false ≡ b → three ≡ two ++ 48 ∷ [] → three ≡ old ++ form_text names f
form_zero names f old one two three a b e g h k none last =
    let xs = terms_from names 0 f.coefs in
    let ys = term_of f.konst (decimal (unsigned_abs f.konst)) in
    let all : continued false (xs ++ ys) ≡ continued false xs ++ continued a ys = continued_further false xs ys ∙ ap (λ x. continued false xs ++ continued x ys) (sym g) in
    let any : b ≡ has_terms false (xs ++ ys) = k ∙ ap (λ x. has_terms x ys) g ∙ sym (has_further false xs ys) in
    last ∙ ap (λ l. l ++ 48 ∷ []) (h ∙ ap (λ l. l ++ continued a ys) e ∙ append_assoc old (continued false xs) (continued a ys) ∙ ap (λ l. old ++ l) (sym all))
    ∙ append_assoc old (continued false (xs ++ ys)) (48 ∷ []) ∙ ap (λ l. old ++ l) (none-text (xs ++ ys) (none ∙ any))

pub ruleset form_steps = (form_whole, form_zero)
