-- Terms that stand behind others, one list of them after another.
use Rattle.std.specs.Prelude.{Bool, true, false}
use Rattle.std.proofs.Common.{◌≡◌, ◌<◌, ◌≤◌, ◌⊎◌, inl, inr, ℕ, ℤ, ◌+◌, List, [], ◌∷◌, ◌++◌, drop, get_or, length, refl, sym, ap, ◌∙◌, append_assoc, arith, pos, drop_of_length-le, codes}
use Rattle.std.proofs.lemmas.List.{drop_more}
use Rattle.std.specs.List.{flat_map}
use Rattle.std.proofs.lemmas.List.{append-nil}
use Rattle.std.specs.Prelude.{if◌then◌else◌}
use Rattle.ac_syntax.specs.Text.{Scope, term, terms, constant_term, sum_text, quot_text, quot_terms}
use Rattle.ac_syntax.specs.PrinterTerms.{plus, continued, has_terms, ended}
use Rattle.ac_syntax.specs.declared.tree.Quot.{Quot}

still : (xs : List (List ℕ)) → has_terms true xs ≡ true
still [] = refl
still (x ∷ xs) = refl

pub continued_further : (any : Bool) (xs ys : List (List ℕ)) → continued any (xs ++ ys) ≡ continued any xs ++ continued (has_terms any xs) ys
continued_further any [] ys = refl
continued_further any (x ∷ xs) ys =
    let rest = continued true xs in
    let further : continued true (xs ++ ys) ≡ rest ++ continued true ys = continued_further true xs ys ∙ ap (λ b. rest ++ continued b ys) (still xs) in
    ap (λ l. (plus any ++ x) ++ l) further ∙ sym (append_assoc (plus any ++ x) rest (continued true ys))

pub has_further : (any : Bool) (xs ys : List (List ℕ)) → has_terms any (xs ++ ys) ≡ has_terms (has_terms any xs) ys
has_further any [] ys = refl
has_further any (x ∷ xs) [] = refl
has_further any (x ∷ xs) (y ∷ ys) = refl

none : (cs : List ℤ) → terms cs [] ≡ []
none [] = refl
none (c ∷ cs) = refl

-- the terms from a place on, where one stands there
pub terms_from : (cs : List ℤ) (ns : List (List ℕ)) (i : ℕ) (d : List ℕ) → i < length cs → i < length ns
    → terms (drop i cs) (drop i ns) ≡ term (get_or cs i (pos 0)) (get_or ns i d) ++ terms (drop (i + 1) cs) (drop (i + 1) ns)
terms_from cs ns i d below within = rw (drop_more cs i (pos 0) below, drop_more ns i d within) refl

pub terms_beyond : (cs : List ℤ) (ns : List (List ℕ)) (i : ℕ) → (length cs ≤ i) ⊎ (length ns ≤ i) → terms (drop i cs) (drop i ns) ≡ []
terms_beyond cs ns i (inl over) = ap (λ l. terms l (drop i ns)) (drop_of_length-le cs over)
terms_beyond cs ns i (inr over) = ap (terms (drop i cs)) (drop_of_length-le ns over) ∙ none (drop i cs)

pub ruleset joins = (append_assoc, append-nil)

-- a turn over the terms
pub terms_step : (cs : List ℤ) (ns : List (List ℕ)) (i : ℕ) → i < length cs → i < length ns
    → (bytes new whole name d : List ℕ) (any now has : Bool)
    → new ≡ bytes ++ continued any (term (get_or cs i (pos 0)) name) → now ≡ has_terms any (term (get_or cs i (pos 0)) name) → name ≡ get_or ns i d
    → (bytes ++ continued any (terms (drop i cs) (drop i ns)) ≡ whole) × (has_terms any (terms (drop i cs) (drop i ns)) ≡ has)
    → (new ++ continued now (terms (drop (i + 1) cs) (drop (i + 1) ns)) ≡ whole) × (has_terms now (terms (drop (i + 1) cs) (drop (i + 1) ns)) ≡ has)
terms_step cs ns i below within bytes new whole name d any now has text still_any named before =
    let t = term (get_or cs i (pos 0)) name in
    let rest = terms (drop (i + 1) cs) (drop (i + 1) ns) in
    let here : terms (drop i cs) (drop i ns) ≡ t ++ rest = terms_from cs ns i d below within ∙ ap (λ n. term (get_or cs i (pos 0)) n ++ rest) (sym named) in (
      ap (λ l. l ++ continued now rest) text ∙ ap (λ b. (bytes ++ continued any t) ++ continued b rest) still_any ∙ append_assoc bytes (continued any t) (continued (has_terms any t) rest)
          ∙ ap (λ l. bytes ++ l) (sym (continued_further any t rest)) ∙ ap (λ l. bytes ++ continued any l) (sym here) ∙ before.0,
      ap (λ b. has_terms b rest) still_any ∙ sym (has_further any t rest) ∙ ap (has_terms any) (sym here) ∙ before.1,
    )

pub terms_end : (cs : List ℤ) (ns : List (List ℕ)) (i : ℕ) → (length cs ≤ i) ⊎ (length ns ≤ i) → (bytes whole : List ℕ) (any has : Bool)
    → (bytes ++ continued any (terms (drop i cs) (drop i ns)) ≡ whole) × (has_terms any (terms (drop i cs) (drop i ns)) ≡ has) → (bytes ≡ whole) × (any ≡ has)
terms_end cs ns i ends bytes whole any has before =
    let none = terms_beyond cs ns i ends in
    (sym (append-nil bytes) ∙ ap (λ l. bytes ++ continued any l) (sym none) ∙ before.0, ap (has_terms any) (sym none) ∙ before.1)

-- terms and then others
pub joined_terms : (xs ys : List (List ℕ)) (s a b : Bool) (old one two : List ℕ) → one ≡ old ++ continued s xs → a ≡ has_terms s xs → two ≡ one ++ continued a ys → b ≡ has_terms a ys
    → (two ≡ old ++ continued s (xs ++ ys)) × (b ≡ has_terms s (xs ++ ys))
joined_terms xs ys s a b old one two e f g h = (
  g ∙ ap (λ l. l ++ continued a ys) e ∙ append_assoc old (continued s xs) (continued a ys) ∙ ap (λ x. old ++ (continued s xs ++ continued x ys)) f ∙ ap (λ l. old ++ l) (sym (continued_further s xs ys)),
  h ∙ ap (λ x. has_terms x ys) f ∙ sym (has_further s xs ys),
)

shown : (ts : List (List ℕ)) → continued true ts ≡ flat_map (λ t. codes " + " ++ t) ts
shown [] = refl
shown (t ∷ ts) = ap (λ l. (codes " + " ++ t) ++ l) (shown ts)

whole_sum : (ts : List (List ℕ)) → continued false ts ++ (if has_terms false ts then [] else codes "0") ≡ sum_text ts
whole_sum [] = refl
whole_sum (t ∷ ts) = append-nil (t ++ continued true ts) ∙ ap (λ l. t ++ l) (shown ts)

-- a sum is its terms and then the constant, or 0 where it has none
pub ended_sum : (xs : List (List ℕ)) (a : Bool) (c : ℤ) (old one two : List ℕ) → one ≡ old ++ continued false xs → a ≡ has_terms false xs → two ≡ one ++ ended a c → two ≡ old ++ sum_text (xs ++ constant_term c)
ended_sum xs a c old one two e f g =
    let cs = constant_term c in
    let close : Bool → List ℕ = λ b. if b then [] else codes "0" in
    let all : continued false xs ++ ended a c ≡ sum_text (xs ++ cs) =
    ap (λ b. continued false xs ++ ended b c) f ∙ sym (append_assoc (continued false xs) (continued (has_terms false xs) cs) (close (has_terms (has_terms false xs) cs)))
    ∙ ap (λ l. l ++ close (has_terms (has_terms false xs) cs)) (sym (continued_further false xs cs)) ∙ ap (λ b. continued false (xs ++ cs) ++ close b) (sym (has_further false xs cs)) ∙ whole_sum (xs ++ cs) in
    g ∙ ap (λ l. l ++ ended a c) e ∙ append_assoc old (continued false xs) (ended a c) ∙ ap (λ l. old ++ l) all

-- a turn over quotients
pub quots_step : (scope : Scope) (qs : List Quot) (i : ℕ) (d : Quot) → i < length qs → (bytes new whole : List ℕ) (any now has : Bool) (q : Quot) → q ≡ get_or qs i d
    → new ≡ bytes ++ continued any (term q.coef (quot_text scope q)) → now ≡ has_terms any (term q.coef (quot_text scope q))
    → (bytes ++ continued any (quot_terms scope (drop i qs)) ≡ whole) × (has_terms any (quot_terms scope (drop i qs)) ≡ has)
    → (new ++ continued now (quot_terms scope (drop (i + 1) qs)) ≡ whole) × (has_terms now (quot_terms scope (drop (i + 1) qs)) ≡ has)
quots_step scope qs i d below bytes new whole any now has q is text still_any before =
    let t = term q.coef (quot_text scope q) in
    let rest = quot_terms scope (drop (i + 1) qs) in
    let here : quot_terms scope (drop i qs) ≡ t ++ rest = ap (quot_terms scope) (drop_more qs i d below) ∙ ap (λ x. term x.coef (quot_text scope x) ++ rest) (sym is) in (
      ap (λ l. l ++ continued now rest) text ∙ ap (λ b. (bytes ++ continued any t) ++ continued b rest) still_any ∙ append_assoc bytes (continued any t) (continued (has_terms any t) rest)
          ∙ ap (λ l. bytes ++ l) (sym (continued_further any t rest)) ∙ ap (λ l. bytes ++ continued any l) (sym here) ∙ before.0,
      ap (λ b. has_terms b rest) still_any ∙ sym (has_further any t rest) ∙ ap (has_terms any) (sym here) ∙ before.1,
    )
