-- Fronts of texts, and words that end at a blank, a newline or the end.
use Rattle.std.proofs.Common.{◌≡◌, ◌<◌, ◌≤◌, ◌+◌, ℕ, zero, suc, List, [], ◌∷◌, ◌++◌, take, drop, length, get_or, Option, None, Some, MatchOption, refl, sym, ap, subst, ◌∙◌, arith, length-append, append_assoc}
use Rattle.std.specs.Prelude.{codes}
use Rattle.std.specs.List.{AllByRecursion}
use Rattle.std.proofs.lemmas.List.{take-append-drop}
use Rattle.ac_legal_text.specs.Fronts.{IsInk, IsEnd}

-- ---- fronts

pub front_taken : (xs ys : List ℕ) → take (length xs) (xs ++ ys) ≡ xs
front_taken [] ys = refl
front_taken (x ∷ xs) ys = ap (λ (t : List ℕ). x ∷ t) (front_taken xs ys)

pub same_rest : (xs ys zs : List ℕ) → xs ++ ys ≡ xs ++ zs → ys ≡ zs
same_rest [] ys zs e = e
same_rest (x ∷ xs) ys zs e = same_rest xs ys zs (ap (drop 1) e)

-- a text that begins with a front is at least as long
pub front_fits : (text front rest : List ℕ) → text ≡ front ++ rest → length front ≤ length text
front_fits text front rest e = let l : length text ≡ length front + length rest = ap length e ∙ length-append front rest in omega arith

-- the first bytes of it are the front
pub front_is : (text front begin : List ℕ) (n : ℕ) → n ≡ length front → begin ≡ take n text → (rest : List ℕ) → text ≡ front ++ rest → begin ≡ front
front_is text front begin n k b rest e = b ∙ (λ i. take (k i) (e i)) ∙ front_taken front rest

pub front_joined : (text front begin rest : List ℕ) (n : ℕ) → begin ≡ take n text → rest ≡ drop n text → begin ≡ front → text ≡ front ++ rest
front_joined text front begin rest n b r e = sym (take-append-drop n text) ∙ (λ i. (sym b ∙ e) i ++ sym r i)

-- ---- one front behind another

pub two_fronts : {A : Type 0} (f : A → List ℕ) (text front rest mark : List ℕ) (o : Option A) → text ≡ front ++ rest
    → MatchOption o ((t : List ℕ) → ¬ (rest ≡ mark ++ t)) (λ x. rest ≡ mark ++ f x) → MatchOption o ((t : List ℕ) → ¬ (text ≡ front ++ (mark ++ t))) (λ x. text ≡ front ++ (mark ++ f x))
two_fronts f text front rest mark None e h = λ t k. h t (same_rest front rest (mark ++ t) (sym e ∙ k))
two_fronts f text front rest mark (Some x) e h = e ∙ ap (λ (r : List ℕ). front ++ r) h

pub three_fronts : {A : Type 0} (f : A → List ℕ) (text front rest middle mark : List ℕ) (o : Option A) → text ≡ front ++ rest
    → MatchOption o ((t : List ℕ) → ¬ (rest ≡ middle ++ (mark ++ t))) (λ x. rest ≡ middle ++ (mark ++ f x))
    → MatchOption o ((t : List ℕ) → ¬ (text ≡ front ++ (middle ++ (mark ++ t)))) (λ x. text ≡ front ++ (middle ++ (mark ++ f x)))
three_fronts f text front rest middle mark None e h = λ t k. h t (same_rest front rest (middle ++ (mark ++ t)) (sym e ∙ k))
three_fronts f text front rest middle mark (Some x) e h = e ∙ ap (λ (r : List ℕ). front ++ r) h

-- ---- words

pub ink_more : (text : List ℕ) (at : ℕ) → at < length text → IsInk (take at text) → 32 < get_or text at 0 → IsInk (take (suc at) text)
ink_more [] at l h k = absurd (omega arith)
ink_more (b ∷ text) zero l h k = (k, tt)
ink_more (b ∷ text) (suc at) l h k = (h.0, ink_more text at (omega arith) h.1 k)

pub ink_step : (text : List ℕ) (at : ℕ) → at < length text → IsInk (take at text) → 32 < get_or text at 0 → IsInk (take (at + 1) text)
ink_step text at l h k = subst (λ (n : ℕ). IsInk (take n text)) (let e : suc at ≡ at + 1 = omega arith in e) (ink_more text at l h k)

pub end_at : (text : List ℕ) (at : ℕ) → at < length text → get_or text at 0 ≤ 32 → IsEnd (drop at text)
end_at [] at l k = absurd (omega arith)
end_at (b ∷ text) zero l k = k
end_at (b ∷ text) (suc at) l k = end_at text at (omega arith) k

pub end_behind : (text : List ℕ) (at : ℕ) → length text ≤ at → IsEnd (drop at text)
end_behind [] zero l = tt
end_behind [] (suc at) l = tt
end_behind (b ∷ text) zero l = absurd (omega arith)
end_behind (b ∷ text) (suc at) l = end_behind text at (omega arith)

no_ink : (b : ℕ) → 32 < b → b ≤ 32 → ⊥
no_ink b h k = omega arith

-- a text is one word and what ends it
pub same_word : (x r y s : List ℕ) → IsInk x → IsEnd r → IsInk y → IsEnd s → x ++ r ≡ y ++ s → (x ≡ y) × (r ≡ s)
same_word [] r [] s a b c d e = (refl, e)
same_word [] [] (y ∷ ys) s a b c d e = absurd cc
same_word [] (t ∷ r) (y ∷ ys) s a b c d e = absurd (no_ink y c.0 (subst (λ (n : ℕ). n ≤ 32) (let k : t ≡ y = cc in k) b))
same_word (x ∷ xs) r [] [] a b c d e = absurd cc
same_word (x ∷ xs) r [] (t ∷ s) a b c d e = absurd (no_ink x a.0 (subst (λ (n : ℕ). n ≤ 32) (let k : t ≡ x = cc in k) d))
same_word (x ∷ xs) r (y ∷ ys) s a b c d e =
    let more = same_word xs r ys s a.1 b c.1 d (let k : xs ++ r ≡ ys ++ s = cc in k) in
    (λ i. (let k : x ≡ y = cc in k) i ∷ more.0 i, more.1)
