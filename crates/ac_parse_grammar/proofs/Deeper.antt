-- Where more constructs may open, a reader answers the same, unless it stopped at the limit.
use Rattle.std.specs.Prelude.{Bool, true, false, cond, Option, Some, None, ◌⊎◌}
use Rattle.std.proofs.Common.{◌≡◌, ℕ, zero, suc, List, length, refl, ◌∙◌, ap, inl, inr}
use Rattle.ac_lex.specs.Lexemes.{Lexeme}
use Rattle.ac_parse_grammar.specs.declared.terminal.Terminal.{Terminal}
use Rattle.ac_parse_grammar.specs.ReaderCombinators.{nesting, Got, found, stopped, Reader, and_then, ◌>>=◌, peek, rest, operator, operator_at, turn, repeat_from, repeat, many_from, many}
use Rattle.ac_parse_grammar.specs.Expressions.{within}

-- two answers are one, or the first stopped at the limit
abbrev pub Agree : {A : Type 0} → Got A → Got A → Type 0
Agree r s = (r ≡ s) ⊎ ((bad : List Lexeme) × (r ≡ stopped nesting bad))

abbrev pub Deeper : {A : Type 0} → Reader A → Reader A → Type 0
Deeper p q = (ts : List Lexeme) → Agree (p ts) (q ts)

pub then_agree : {A B : Type 0} (r s : Got A) (f g : A → Reader B) → Agree r s → ((a : A) → Deeper (f a) (g a)) → Agree (and_then r f) (and_then s g)
then_agree (found a mid) s f g (inl e) d = by_second (d a mid)
  where
    by_second : Agree (f a mid) (g a mid) → Agree (f a mid) (and_then s g)
    by_second (inl h) = inl (h ∙ ap (λ r. and_then r g) e)
    by_second (inr h) = inr h
then_agree (stopped w bad) s f g (inl e) d = inl (ap (λ r. and_then r g) e)
then_agree r s f g (inr h) d = inr (h.0, ap (λ r. and_then r f) h.1)

pub then_deeper : {A B : Type 0} (p q : Reader A) (f g : A → Reader B) → Deeper p q → ((a : A) → Deeper (f a) (g a)) → Deeper (p >>= f) (q >>= g)
then_deeper p q f g d e ts = then_agree (p ts) (q ts) f g (d ts) e

pub same_deeper : {A : Type 0} (p : Reader A) → Deeper p p
same_deeper p ts = inl refl

pub choose_deeper : {A : Type 0} (v : Bool) (r s r' s' : Got A) → Agree r r' → Agree s s' → Agree (cond v r s) (cond v r' s')
choose_deeper true r s r' s' d e = d
choose_deeper false r s r' s' d e = e

repeat_from_deeper : {X B O : Type 0} (what : Terminal → Option O) (join : X → O → B → X) (p q : Reader B) → Deeper p q → (n : ℕ) (x : X) → Deeper (repeat_from what join p n x) (repeat_from what join q n x)
unfolding repeat_from operator
repeat_from_deeper what join p q d zero x ts = inl refl
repeat_from_deeper {X = X} {O = O} what join p q d (suc n) x ts = by_next (what (peek ts)) (repeat_from_deeper what join p q d n)
  where
    by_next : (w : Option O) → ((y : X) → Deeper (repeat_from what join p n y) (repeat_from what join q n y))
        → Agree (and_then (operator_at w ts) (turn join p (repeat_from what join p n) x)) (and_then (operator_at w ts) (turn join q (repeat_from what join q n) x))
    by_next None ih = inl refl
    by_next (Some o) ih = then_agree (p (rest ts)) (q (rest ts)) _ _ (d (rest ts)) (λ b. ih (join x o b))

pub repeat_deeper : {X B O : Type 0} (what : Terminal → Option O) (join : X → O → B → X) (p q : Reader B) → Deeper p q → (x : X) → Deeper (repeat what join p x) (repeat what join q x)
unfolding repeat
repeat_deeper what join p q d x ts = repeat_from_deeper what join p q d (length ts) x ts

many_from_deeper : {X B : Type 0} (begins : Terminal → Bool) (join : X → B → X) (p q : Reader B) → Deeper p q → (n : ℕ) (x : X) → Deeper (many_from begins join p n x) (many_from begins join q n x)
unfolding many_from
many_from_deeper begins join p q d zero x ts = inl refl
many_from_deeper begins join p q d (suc n) x ts =
    choose_deeper (begins (peek ts)) _ _ _ _ (then_agree (p ts) (q ts) _ _ (d ts) (λ b. many_from_deeper begins join p q d n (join x b))) (inl refl)

pub many_deeper : {X B : Type 0} (begins : Terminal → Bool) (join : X → B → X) (p q : Reader B) → Deeper p q → (x : X) → Deeper (many begins join p x) (many begins join q x)
unfolding many
many_deeper begins join p q d x ts = many_from_deeper begins join p q d (length ts) x ts

-- what may be read inside one construct, at the limit and where more may open
pub data Below {X : Type 0} (D : X → X → Type 0) : Option X → Option X → Type 0 where
  at_limit : (b : Option X) → Below D None b
  inside : (u v : X) → D u v → Below D (Some u) (Some v)

pub within_deeper : {X A : Type 0} {D : X → X → Type 0} (b c : Option X) (f : X → Reader A) (last : Terminal) → Below D b c → ((u v : X) → D u v → Deeper (f u) (f v)) → Deeper (within b f last) (within c f last)
unfolding within
within_deeper _ _ f last (at_limit b) d ts = inr (ts, refl)
within_deeper _ _ f last (inside u v e) d ts = then_agree (f u (rest ts)) (f v (rest ts)) _ _ (d u v e (rest ts)) (λ a. same_deeper _)
