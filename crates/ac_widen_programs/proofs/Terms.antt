-- Terms that match from the outside in.
use Rattle.std.proofs.Common.{◌≡◌, ℕ, zero, suc, List, [], ◌∷◌, Bool, true, false, ◌&&◌, Some, refl, sym, ap, ◌∙◌, subst}
use Rattle.std.specs.Prelude.{slice_get, IsTrue, ◌==◌}
use Rattle.ac_syntax.specs.TermMatches.{Matches, MatchAll, one_number, one_leaf, kept, swapped, no_terms, more_terms}
use Rattle.ac_syntax.specs.Outputs.{swaps_of}
use Rattle.ac_syntax.specs.Term.{Term, Terms, Num, Initial, Apply, terms}
use Rattle.ac_syntax.specs.declared.tree.Symbol.{Symbol}

-- the heads of two terms are the same
abbrev pub SameHead : Term → Term → Type 0
SameHead (Num a) (Num b) = a ≡ b
SameHead (Num a) (Initial l) = ⊥
SameHead (Num a) (Apply f ts) = ⊥
SameHead (Initial l) (Num b) = ⊥
SameHead (Initial l) (Initial k) = l ≡ k
SameHead (Initial l) (Apply f ts) = ⊥
SameHead (Apply f ts) (Num b) = ⊥
SameHead (Apply f ts) (Initial k) = ⊥
SameHead (Apply f ts) (Apply g us) = f ≡ g

pub same_head : (swaps : Symbol → Bool) (t u : Term) → Matches swaps t u → SameHead t u
same_head swaps _ _ (one_number a) = refl
same_head swaps _ _ (one_leaf l) = refl
same_head swaps _ _ (kept s ts us h) = refl
same_head swaps _ _ (swapped s t t' u u' k g h) = refl

-- the arguments of two calls match one by one, where they may not be exchanged
arguments_of : (swaps : Symbol → Bool) → ((f : Symbol) → ¬ (IsTrue (swaps f))) → (t u : Term) → Matches swaps t u → (f g : Symbol) (xs ys : Terms) → t ≡ Apply f xs → u ≡ Apply g ys → MatchAll swaps xs ys
arguments_of swaps never _ _ (one_number a) f g xs ys e i = absurd cc
arguments_of swaps never _ _ (one_leaf l) f g xs ys e i = absurd cc
arguments_of swaps never _ _ (kept s ts us h) f g xs ys e i = let a : ts ≡ xs = cc in let b : us ≡ ys = cc in subst (λ z. MatchAll swaps xs z) b (subst (λ z. MatchAll swaps z us) a h)
arguments_of swaps never _ _ (swapped s t t' u u' k g h) f g' xs ys e i = absurd (never s k)

pub match_arguments : (swaps : Symbol → Bool) → ((f : Symbol) → ¬ (IsTrue (swaps f))) → (f g : Symbol) (xs ys : Terms) → Matches swaps (Apply f xs) (Apply g ys) → MatchAll swaps xs ys
match_arguments swaps never f g xs ys h = arguments_of swaps never (Apply f xs) (Apply g ys) h f g xs ys refl refl

match_place : (swaps : Symbol → Bool) (T U : Terms) → MatchAll swaps T U → (ts us : List Term) → T ≡ terms ts → U ≡ terms us → (k : ℕ) (t u : Term) → slice_get ts k ≡ Some t → slice_get us k ≡ Some u → Matches swaps t u
match_place swaps _ _ h [] us e i k t u a b = absurd cc
match_place swaps _ _ h (x ∷ ts) [] e i k t u a b = absurd cc
match_place swaps _ _ no_terms (x ∷ ts) (y ∷ us) e i k t u a b = absurd cc
match_place swaps _ _ (more_terms x' y' xs ys h hs) (x ∷ ts) (y ∷ us) e i zero t u a b =
    let p : x' ≡ t = cc in let q : y' ≡ u = cc in subst (λ z. Matches swaps t z) q (subst (λ z. Matches swaps z y') p h)
match_place swaps _ _ (more_terms x' y' xs ys h hs) (x ∷ ts) (y ∷ us) e i (suc k) t u a b =
    let p : xs ≡ terms ts = cc in let q : ys ≡ terms us = cc in match_place swaps xs ys hs ts us p q k t u a b

-- the arguments with one number match
pub match_at : (swaps : Symbol → Bool) (ts us : List Term) → MatchAll swaps (terms ts) (terms us) → (k : ℕ) (t u : Term) → slice_get ts k ≡ Some t → slice_get us k ≡ Some u → Matches swaps t u
match_at swaps ts us h k t u a b = match_place swaps (terms ts) (terms us) h ts us refl refl k t u a b

-- where no name is declared, no symbol's arguments may be exchanged
pub and_false : (b : Bool) → (b && false) ≡ true → ⊥
and_false true h = absurd cc
and_false false h = absurd cc

pub none_swap : (names : List (List ℕ)) → names ≡ [] → (f : Symbol) → swaps_of names f ≡ true → ⊥
none_swap names e f h = and_false (f.arity == 2) (ap (λ (ns : List (List ℕ)). swaps_of ns f) (sym e) ∙ h)
