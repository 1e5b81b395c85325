-- Lists of quotients, one after another.
use Rattle.std.proofs.Common.{◌≡◌, ◌++◌, ◌+ℤ◌, ◌*ℤ◌, ◌+◌, ◌<◌, ◌≤◌, ℕ, suc, length, drop, drop-cons, get_or, add-one, ℤ, List, [], ◌∷◌, true, false, refl, sym, ap, ◌∙◌}
use Rattle.std.specs.Prelude.{Option, Some, None}
use Rattle.std.specs.Option.{option_map}
use Rattle.std.proofs.lemmas.List.{append_assoc, drop_all}
use Rattle.ac_syntax.specs.Quotients.{same_quot}
use Rattle.ac_syntax.specs.declared.tree.Quot.{Quot}
use Rattle.ac_parse_exprs.specs.AffineForms.{with_coef, with_quot, joined_quots, scaled_quots}

-- what is behind a list that may be there
abbrev pub behind : List Quot → Option (List Quot) → Option (List Quot)
behind made rest = option_map (λ qs. made ++ qs) rest

deeper : (made : List Quot) (p : Quot) (rest : Option (List Quot)) → behind made (option_map (λ qs. p ∷ qs) rest) ≡ behind (made ++ p ∷ []) rest
deeper made p None = refl
deeper made p (Some qs) = ap Some (sym (append_assoc made (p ∷ []) qs))

-- one that differs
pub with_quot-passed : (k : ℤ) (q p : Quot) (made rest : List Quot) → same_quot q p ≡ false → behind made (with_quot k q (p ∷ rest)) ≡ behind (made ++ p ∷ []) (with_quot k q rest)
with_quot-passed k q p made rest h = rw h (deeper made p (with_quot k q rest))

-- an equal one
pub with_quot-found : (k : ℤ) (q p : Quot) (made rest : List Quot) (sum : Option Quot) → same_quot q p ≡ true → sum ≡ with_coef (p.coef +ℤ (k *ℤ q.coef)) p
    → behind made (with_quot k q (p ∷ rest)) ≡ behind made (option_map (λ r. r ∷ rest) sum)
with_quot-found k q p made rest sum h e = rw (h, e) refl

-- one scaled
pub scaled-one : (k : ℤ) (q : Quot) (made rest : List Quot) (p : Quot) → Some p ≡ with_coef (k *ℤ q.coef) q → behind made (scaled_quots k (q ∷ rest)) ≡ behind (made ++ p ∷ []) (scaled_quots k rest)
scaled-one k q made rest p e = rw (← e) (deeper made p (scaled_quots k rest))

pub scaled-none : (k : ℤ) (q : Quot) (made rest : List Quot) → None ≡ with_coef (k *ℤ q.coef) q → behind made (scaled_quots k (q ∷ rest)) ≡ None
scaled-none k q made rest e = rw (← e) refl

pub joined-one : (k : ℤ) (q : Quot) (made rest more : List Quot) → Some more ≡ with_quot k q made → joined_quots k made (q ∷ rest) ≡ joined_quots k more rest
joined-one k q made rest more e = rw (← e) refl

pub joined-none : (k : ℤ) (q : Quot) (made rest : List Quot) → None ≡ with_quot k q made → joined_quots k made (q ∷ rest) ≡ None
joined-none k q made rest e = rw (← e) refl

at-drop : (qs : List Quot) (at : ℕ) (p : Quot) → at < length qs → p ≡ get_or qs at p → drop at qs ≡ p ∷ drop (at + 1) qs
at-drop qs at p h g = rw (add-one) (drop-cons qs at p h ∙ ap (λ x. x ∷ drop (suc at) qs) (sym g))

-- going through a list: one that differs, an equal one, and the end
pub passed : (k : ℤ) (q : Quot) (qs made : List Quot) (at : ℕ) (p : Quot) (w : Option (List Quot)) → at < length qs → p ≡ get_or qs at p → same_quot q p ≡ false
    → behind made (with_quot k q (drop at qs)) ≡ w → behind (made ++ p ∷ []) (with_quot k q (drop (at + 1) qs)) ≡ w
passed k q qs made at p w h g d e = sym (ap (λ x. behind made (with_quot k q x)) (at-drop qs at p h g) ∙ with_quot-passed k q p made (drop (at + 1) qs) d) ∙ e

pub found : (k : ℤ) (q : Quot) (qs made : List Quot) (at : ℕ) (p s : Quot) (w : Option (List Quot)) → at < length qs → p ≡ get_or qs at p → same_quot q p ≡ true
    → behind made (with_quot k q (drop at qs)) ≡ w → Some s ≡ with_coef (p.coef +ℤ (k *ℤ q.coef)) p → Some ((made ++ s ∷ []) ++ drop (at + 1) qs) ≡ w
found k q qs made at p s w h g d e t =
    ap Some (append_assoc made (s ∷ []) (drop (at + 1) qs)) ∙ sym (ap (λ x. behind made (with_quot k q x)) (at-drop qs at p h g) ∙ with_quot-found k q p made (drop (at + 1) qs) (Some s) d t) ∙ e

pub ended : (k : ℤ) (q : Quot) (qs made : List Quot) (at : ℕ) (s : Quot) (w : Option (List Quot)) → length qs ≤ at
    → behind made (with_quot k q (drop at qs)) ≡ w → Some s ≡ with_coef (k *ℤ q.coef) q → Some (made ++ s ∷ []) ≡ w
ended k q qs made at s w h e t =
    let d : behind made (with_quot k q (drop at qs)) ≡ Some (made ++ s ∷ []) = rw (drop_all at qs h, ← t) refl in sym d ∙ e

pub ruleset quotients = (with_quot-passed, scaled-one, scaled-none, joined-one, joined-none)
