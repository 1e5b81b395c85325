-- Parts of one kind that stand one behind the other.
use Rattle.std.specs.Prelude.{List, [], ◌∷◌, ◌++◌}
use Rattle.std.specs.List.{flat_map, AllByRecursion}
use Rattle.std.proofs.Common.{◌≡◌, ℕ, sym, ◌∙◌, ap, subst, append_assoc}
use Rattle.std.proofs.lemmas.List.{append-nil}
use Rattle.ac_lex.specs.Lexemes.{Lexeme}
use Rattle.ac_parse_grammar.specs.DeclarationsGrammar.{IsRun, no_item, an_item}
use Rattle.ac_parse_roundtrip.specs.Items.{Item, lexemes}
use Rattle.ac_parse_roundtrip.specs.CanonicalTrees.{Each}
use Rattle.ac_parse_roundtrip.proofs.ItemSequences.{after, lexemes-append, Reads}

-- what is made of something by more parts, in order
abbrev pub added : {X A : Type 0} → (X → A → X) → X → List A → X
added add x [] = x
added add x (y ∷ ys) = added add (add x y) ys

abbrev pub snoc : {A : Type 0} → List A → A → List A
snoc xs y = xs ++ y ∷ []

pub added_snoc : {A : Type 0} (xs ys : List A) → added snoc xs ys ≡ xs ++ ys
added_snoc xs [] = sym (append-nil xs)
added_snoc xs (y ∷ ys) = added_snoc (xs ++ y ∷ []) ys ∙ append_assoc xs (y ∷ []) ys

-- parts behind what is read already, where each makes something more of it
pub behind : {X A B : Type 0} (R : List Lexeme → X → Type 0) (One : List Lexeme → A → Type 0) (add : X → A → X)
    → ((ts us : List Lexeme) (x : X) (y : A) → R ts x → One us y → R (ts ++ us) (add x y))
    → (T : B → A → Type 0) (f : B → List Item) (bs : List B) → AllByRecursion (λ b. Reads One (T b) (f b)) bs
    → (ts : List Lexeme) (x : X) → R ts x → (at : ℕ)
    → (ys : List A) × R (ts ++ lexemes at (flat_map f bs)) (added add x ys) × Each T bs ys
behind R One add step T f [] h ts x r at = ([], subst (λ us. R us x) (sym (append-nil ts)) r, tt)
behind R One add step T f (b ∷ bs) h ts x r at =
    let one = h.0.at at in
    let us = lexemes at (f b) in
    let more = behind R One add step T f bs h.1 (ts ++ us) (add x one.0) (step ts us x one.0 r one.1) (after at (f b)) in
    let vs = lexemes (after at (f b)) (flat_map f bs) in
    let same : (ts ++ us) ++ vs ≡ ts ++ lexemes at (f b ++ flat_map f bs) = append_assoc ts us vs ∙ ap (λ ws. ts ++ ws) (sym (lexemes-append at (f b) (flat_map f bs))) in
    (one.0 ∷ more.0, subst (λ ws. R ws (added add x (one.0 ∷ more.0))) same more.1, (one.2, more.2))

pub run : {A B : Type 0} (One : List Lexeme → A → Type 0) (T : B → A → Type 0) (f : B → List Item) (bs : List B)
    → AllByRecursion (λ b. Reads One (T b) (f b)) bs → Reads (IsRun One) (Each T bs) (flat_map f bs)
run One T f [] h = record { at = λ at. ([], no_item, tt) }
run One T f (b ∷ bs) h = record {
  at = λ at.
      let one = h.0.at at in
      let more = (run One T f bs h.1).at (after at (f b)) in
      (one.0 ∷ more.0, subst (λ ts. IsRun One ts (one.0 ∷ more.0)) (sym (lexemes-append at (f b) (flat_map f bs))) (an_item one.1 more.1), (one.2, more.2));
}
