-- The first `*/` of a text.
use Rattle.std.specs.Prelude.{Bool, true, false, cond, ◌&&◌, ◌==◌, Option, Some, None, codes}
use Rattle.std.proofs.Common.{◌≡◌, ℕ, suc, ◌+◌, ◌≤◌, List, [], ◌∷◌, ◌++◌, length, refl, sym, ◌∙◌, ap, subst, arith, length-append, append_assoc}
use Rattle.std.proofs.lemmas.Bool.Decides.{Decides-eqb}
use Rattle.ac_lex.proofs.Lists.{front_of}
use Rattle.ac_lex.specs.TextPieces.{HasClose}
use Rattle.ac_lex.specs.LexerModel.{close_end, plus}

-- where the first one ends, from where one begins
pub close_first : (before : ℕ) (x bytes after : List ℕ) → bytes ≡ x ++ (codes "*/" ++ after) → (n : ℕ) × (close_end before bytes ≡ Some n) × (n ≤ length x + 2)
close_first before x [] after e = absurd (omega (arith, ap length e, length-append x (codes "*/" ++ after)))
close_first before [] (a ∷ []) after e = absurd (omega (arith, ap length e))
close_first before [] (a ∷ b ∷ bytes) after e =
    let first : a ≡ 42 = cc in let second : b ≡ 47 = cc in
    let tested : (before == 42 && a == 47) ≡ false = subst (λ v. (before == 42 && v == 47) ≡ false) (sym first) (never (before == 42)) in
    let inner : close_end a (b ∷ bytes) ≡ Some 1 = subst (λ v. close_end v (b ∷ bytes) ≡ Some 1) (sym first) (subst (λ v. close_end 42 (v ∷ bytes) ≡ Some 1) (sym second) refl) in
    (2, subst (λ t. cond t (Some 1) (plus 1 (close_end a (b ∷ bytes))) ≡ Some 2) (sym tested) (ap (plus 1) inner), omega arith)
  where
    never : (t : Bool) → (t && false) ≡ false
    never true = refl
    never false = refl
close_first before (c ∷ x) (a ∷ bytes) after e =
    let rest : bytes ≡ x ++ (codes "*/" ++ after) = cc in
    let more = close_first a x bytes after rest in
    by_test (before == 42 && a == 47) more.0 more.1 more.2
  where
    by_test : (t : Bool) (k : ℕ) → close_end a bytes ≡ Some k → k ≤ length x + 2 → (n : ℕ) × (cond t (Some 1) (plus 1 (close_end a bytes)) ≡ Some n) × (n ≤ suc (length x) + 2)
    by_test true k is low = (1, refl, omega arith)
    by_test false k is low = (1 + k, ap (plus 1) is, omega arith)

abbrev Found : ℕ → List ℕ → ℕ → Type 0
Found a l k = (x after : List ℕ) × (a ∷ l ≡ x ++ (codes "*/" ++ after)) × (length x + 1 ≡ k)

-- where one ends that was found, with the byte before
pub close_some : (before : ℕ) (bytes : List ℕ) (n : ℕ) → close_end before bytes ≡ Some n
    → (x after : List ℕ) × (before ∷ bytes ≡ x ++ (codes "*/" ++ after)) × (length x + 1 ≡ n)
close_some before [] n e = cc
close_some before (b ∷ bytes) n e = by_tests (before == 42) (b == 47) refl refl (close_end b bytes) refl (λ k h. close_some b bytes k h) e
  where
    by_rest : (r : Option ℕ) → close_end b bytes ≡ r → ((k : ℕ) → close_end b bytes ≡ Some k → Found b bytes k) → plus 1 r ≡ Some n → Found before (b ∷ bytes) n
    by_rest None is later h = cc
    by_rest (Some k) is later h =
        let found = later k is in
        let count : 1 + k ≡ n = cc in
        (before ∷ found.0, found.1, ap (λ l. before ∷ l) found.2, omega (arith, found.3))

    by_tests : (s t : Bool) → (before == 42) ≡ s → (b == 47) ≡ t → (r : Option ℕ) → close_end b bytes ≡ r → ((k : ℕ) → close_end b bytes ≡ Some k → Found b bytes k)
        → cond (s && t) (Some 1) (plus 1 r) ≡ Some n → Found before (b ∷ bytes) n
    by_tests true true es et r is later h =
        let one : 1 ≡ n = cc in
        let star : before ≡ 42 = (Decides-eqb before 42).0 es in let slash : b ≡ 47 = (Decides-eqb b 47).0 et in
        ([], bytes, cc, one)
    by_tests true false es et r is later h = by_rest r is later h
    by_tests false t es et r is later h = by_rest r is later h

-- a comment that was found ends at the first one
pub close_found : (bytes : List ℕ) (n : ℕ) → close_end 0 bytes ≡ Some n
    → (inner after : List ℕ) × (bytes ≡ inner ++ (codes "*/" ++ after)) × (length inner + 2 ≡ n) × (HasClose (inner ++ codes "*") → ⊥)
close_found bytes n e = by_front (close_some 0 bytes n e)
  where
    by_front : (x after : List ℕ) × (0 ∷ bytes ≡ x ++ (codes "*/" ++ after)) × (length x + 1 ≡ n)
        → (inner after : List ℕ) × (bytes ≡ inner ++ (codes "*/" ++ after)) × (length inner + 2 ≡ n) × (HasClose (inner ++ codes "*") → ⊥)
    by_front ([], after, cut, count) = cc
    by_front (a ∷ inner, after, cut, count) =
        let rest : bytes ≡ inner ++ (codes "*/" ++ after) = cc in
        (inner, after, rest, omega (arith, count), λ has. earlier inner after rest (omega (arith, count)) has)
      where
        earlier : (inner after : List ℕ) → bytes ≡ inner ++ (codes "*/" ++ after) → length inner + 2 ≡ n → HasClose (inner ++ codes "*") → ⊥
        earlier inner after rest count has =
            let y = has.0 in let z = has.1 in
            let there : bytes ≡ y ++ (codes "*/" ++ (z ++ codes "/" ++ after)) =
            rest ∙ sym (append_assoc inner (codes "*") (codes "/" ++ after)) ∙ ap (λ l. l ++ (codes "/" ++ after)) has.2 ∙ append_assoc y (codes "*/" ++ z) (codes "/" ++ after)
            ∙ ap (λ l. y ++ (codes "*/" ++ l)) (sym (append_assoc z (codes "/") after)) in
            let first = close_first 0 y bytes (z ++ codes "/" ++ after) there in
            let same : n ≡ first.0 = cc (e, first.1) in
            omega (arith, first.2, same, count, ap length has.2, length-append inner (codes "*"), length-append y (codes "*/" ++ z))

-- where none was found there is none
pub close_none : (bytes : List ℕ) → close_end 0 bytes ≡ None → HasClose bytes → ⊥
close_none bytes e has = let first = close_first 0 has.0 bytes has.1 has.2 in cc (e, first.1)

-- a text that reaches past the end of the first one has it inside
pub close_inside : (bytes inner more : List ℕ) (n : ℕ) → close_end 0 bytes ≡ Some n → bytes ≡ inner ++ more → n ≤ length inner → HasClose inner
close_inside bytes inner more n e cut fits =
    let found = close_found bytes n e in
    let parts = front_of (found.0 ++ codes "*/") inner found.1 more (append_assoc found.0 (codes "*/") found.1 ∙ sym found.2 ∙ cut)
    (omega (arith, fits, found.3, length-append found.0 (codes "*/"))) in
    (found.0, parts.0, parts.1 ∙ append_assoc found.0 (codes "*/") parts.0)
