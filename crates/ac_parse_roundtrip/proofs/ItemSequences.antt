-- The tokens of items that stand behind one another, and what is read of items wherever they stand.
use Rattle.std.specs.Prelude.{List, [], ◌∷◌, ◌++◌, length}
use Rattle.std.proofs.Common.{◌≡◌, ℕ, ◌+◌, sym, ◌∙◌, ap, subst, append_assoc, length-append, arith}
use Rattle.ac_lex.specs.Lexemes.{Lexeme}
use Rattle.ac_parse_roundtrip.specs.Items.{Item, spelling, spelled, lexeme_of, lexemes}

-- the place behind items that stand at a place
pub after : ℕ → List Item → ℕ
after at is = at + length (spelled is)

after_none : (at : ℕ) → after at [] ≡ at
unfolding after
after_none at = omega arith

after_some : (at : ℕ) (i : Item) (is : List Item) → after (at + length (spelling i)) is ≡ after at (i ∷ is)
unfolding after
after_some at i is = omega (arith, length-append (spelling i) (spelled is))

pub lexemes-append : (at : ℕ) (is js : List Item) → lexemes at (is ++ js) ≡ lexemes at is ++ lexemes (after at is) js
lexemes-append at [] js = ap (λ n. lexemes n js) (sym (after_none at))
lexemes-append at (i ∷ is) js =
    ap (λ ts. lexeme_of at i ++ ts) (lexemes-append (at + length (spelling i)) is js)
    ∙ (sym (append_assoc (lexeme_of at i) (lexemes (at + length (spelling i)) is) (lexemes (after (at + length (spelling i)) is) js))
    ∙ ap (λ n. (lexeme_of at i ++ lexemes (at + length (spelling i)) is) ++ lexemes n js) (after_some at i is))

-- wherever these items stand, R reads something with T of them
pub record Reads {A : Type 0} (R : List Lexeme → A → Type 0) (T : A → Type 0) (items : List Item) : Type 0 where
  pub at : (place : ℕ) → (a : A) × R (lexemes place items) a × T a

pub weaker : {A : Type 0} {R S : List Lexeme → A → Type 0} {T U : A → Type 0} {is : List Item}
    → ((ts : List Lexeme) (a : A) → R ts a → S ts a) → ((a : A) → T a → U a) → Reads R T is → Reads S U is
weaker {is = is} f g r = record { at = λ at. let x = r.at at in (x.0, f (lexemes at is) x.0 x.1, g x.0 x.2) }

pub other_items : {A : Type 0} {R : List Lexeme → A → Type 0} {T : A → Type 0} {is js : List Item} → is ≡ js → Reads R T is → Reads R T js
other_items {R = R} {T = T} e r = subst (λ is. Reads R T is) e r
