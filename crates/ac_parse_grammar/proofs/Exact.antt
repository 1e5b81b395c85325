-- A reader is exact for a relation: it finds what the relation has, and stops at the first token with which nothing
-- of the relation goes on.
use Rattle.std.specs.Prelude.{Bool, true, false, ◌⊎◌}
use Rattle.std.proofs.Common.{◌≡◌, List, [], ◌∷◌, ◌++◌, refl, sym, ◌∙◌, ap, subst, inl, inr, append_assoc}
use Rattle.ac_lex.specs.Lexemes.{Lexeme}
use Rattle.ac_parse_grammar.specs.declared.terminal.Terminal.{Terminal}
use Rattle.ac_parse_grammar.specs.Terminals.{terminal}
use Rattle.ac_parse_grammar.specs.ReaderCombinators.{Why, nesting, Got, found, stopped, Reader, and_then, ◌>>=◌, peek, front}
use Rattle.ac_parse_grammar.specs.Found.{Rel, Goes, Read, CanGoOn, Stops, awaits_parenthesis, opens_construct}

-- tokens that begin something of the relation, if there are any, but for a keyword at their end whose parenthesis is still to open
pub data Live {A : Type 0} (R : Rel A) : List Lexeme → Type 0 where
  no_token : Live R []
  going : {pre : List Lexeme} → CanGoOn R pre → Live R pre
  at_keyword : (pre : List Lexeme) (k : Lexeme) → awaits_parenthesis (terminal k) ≡ true → (pre ≡ []) ⊎ CanGoOn R pre → Live R (pre ++ k ∷ [])

-- what stands before the place where reading stops, and that only a mark which opens a construct is too deep
pub record Begun {A : Type 0} (R : Rel A) (why : Why) (ts bad : List Lexeme) : Type 0 where
  pub pre : List Lexeme
  pub cut : ts ≡ pre ++ bad
  pub live : Live R pre
  pub marks : why ≡ nesting → opens_construct (peek bad) ≡ true

pub live_behind : {A B : Type 0} (R : Rel A) (S : Rel B) (used : List Lexeme) → ((pre : List Lexeme) → CanGoOn R pre → CanGoOn S (used ++ pre)) → CanGoOn S (used ++ []) → (pre : List Lexeme) → Live R pre → Live S (used ++ pre)
live_behind R S used f start _ no_token = going start
live_behind R S used f start pre (going c) = going (f pre c)
live_behind R S used f start _ (at_keyword pre k is before) = subst (λ l. Live S l) (append_assoc used pre (k ∷ [])) (at_keyword (used ++ pre) k is (inr (by before)))
  where
    by : (pre ≡ []) ⊎ CanGoOn R pre → CanGoOn S (used ++ pre)
    by (inl e) = subst (λ l. CanGoOn S (used ++ l)) (sym e) start
    by (inr c) = f pre c

pub live_same : {A B : Type 0} (R : Rel A) (S : Rel B) → ((pre : List Lexeme) → CanGoOn R pre → CanGoOn S pre) → (pre : List Lexeme) → Live R pre → Live S pre
live_same R S f _ no_token = no_token
live_same R S f pre (going c) = going (f pre c)
live_same R S f _ (at_keyword pre k is before) = at_keyword pre k is (by before)
  where
    by : (pre ≡ []) ⊎ CanGoOn R pre → (pre ≡ []) ⊎ CanGoOn S pre
    by (inl e) = inl e
    by (inr c) = inr (f pre c)

pub begun_same : {A B : Type 0} (R : Rel A) (S : Rel B) → ((pre : List Lexeme) → CanGoOn R pre → CanGoOn S pre) → (w : Why) (ts bad : List Lexeme) → Begun R w ts bad → Begun S w ts bad
begun_same R S f w ts bad b = record { pre = b.pre; cut = b.cut; live = live_same R S f b.pre b.live; marks = b.marks }

-- where reading stops at once
pub begun_none : {A : Type 0} (R : Rel A) (w : Why) (ts bad : List Lexeme) → ts ≡ bad → (w ≡ nesting → opens_construct (peek bad) ≡ true) → Begun R w ts bad
begun_none R w ts bad same marks = record { pre = []; cut = same; live = no_token; marks = marks }

-- R is the relation, and V the relation with one construct more around. Nothing is said of what is found where the first
-- terminal is one of `starts`.
pub record Exact {A : Type 0} (p : Reader A) (R V : Rel A) (starts : Terminal → Bool) (goes : Goes A) : Type 0 where
  pub sound : (ts left : List Lexeme) (a : A) → starts (peek ts) ≡ false → p ts ≡ found a left → Read R goes ts left a
  pub complete : (ts left : List Lexeme) (a : A) → R ts a → goes a (peek left) ≡ false → p (ts ++ left) ≡ found a left
  pub stops : (ts bad : List Lexeme) (w : Why) → starts (peek ts) ≡ false → p ts ≡ stopped w bad → Stops p V w ts bad
  pub up : (ts : List Lexeme) (a : A) → R ts a → V ts a
  pub alive : (ts bad : List Lexeme) (w : Why) → starts (peek ts) ≡ false → p ts ≡ stopped w bad → Begun R w ts bad

abbrev pub Some_of : {A : Type 0} → Rel A → Type 0
Some_of {A = A} R = (ts : List Lexeme) × (a : A) × R ts a

pub peek_same : (pre other bad : List Lexeme) → peek other ≡ peek bad → peek (pre ++ other) ≡ peek (pre ++ bad)
peek_same [] other bad e = e
peek_same (t ∷ ts) other bad e = refl

abbrev pub none : {A : Type 0} → Goes A
none a terminal = false

abbrev pub nowhere : Terminal → Bool
nowhere terminal = false

-- ---- two relations, one after another

pub data IsThen {A B : Type 0} (First : Rel A) (Second : A → Rel B) : List Lexeme → B → Type 0 where
  both : {ts us : List Lexeme} {a : A} {b : B} → First ts a → Second a us b → IsThen First Second (ts ++ us) b

pub then_goes_on : {A B : Type 0} (V : Rel A) (W : A → Rel B) → ((a : A) → Some_of (W a)) → (pre : List Lexeme) → CanGoOn V pre → CanGoOn (IsThen V W) pre
then_goes_on V W some pre on =
    let n = some on.1 in (on.0 ++ n.0, n.1, subst (λ l. IsThen V W l n.1) (append_assoc pre on.0 n.0) (both on.2 n.2))

pub after_goes_on : {A B : Type 0} (V : Rel A) (W : A → Rel B) (a : A) (used pre : List Lexeme) → V used a → CanGoOn (W a) pre → CanGoOn (IsThen V W) (used ++ pre)
after_goes_on V W a used pre is on = (on.0, on.1, subst (λ l. IsThen V W l on.1) (sym (append_assoc used pre on.0)) (both is on.2))

pub some_goes_on : {A : Type 0} (V : Rel A) → Some_of V → (pre : List Lexeme) → (pre ≡ []) ⊎ CanGoOn V pre → CanGoOn V pre
some_goes_on V some pre (inl empty) = (some.0, some.1, subst (λ l. V (l ++ some.0) some.1) (sym empty) some.2)
some_goes_on V some pre (inr on) = on

module _ {A B : Type 0} (p : Reader A) (f : A → Reader B) (R V : Rel A) (S W : A → Rel B) (s : Terminal → Bool) (g : Goes A) (h : Goes B)
    (first : Exact p R V s g) (second : (a : A) → Exact (f a) (S a) (W a) (g a) h) (some : (a : A) → Some_of (W a)) (here : (a : A) → Some_of (S a))
    (follows : (a : A) (ts left : List Lexeme) (b : B) → S a ts b → h b (peek left) ≡ false → g a (peek (ts ++ left)) ≡ false) where
  then_sound : (ts left : List Lexeme) (b : B) → s (peek ts) ≡ false → (r : Got A) → p ts ≡ r → and_then r f ≡ found b left → Read (IsThen R S) h ts left b
  then_sound ts left b start (found a mid) is e =
      let one = first.sound ts mid a start is in
      let two = (second a).sound mid left b one.ends e in
      record { used = one.used ++ two.used; cut = one.cut ∙ ap (λ l. one.used ++ l) two.cut ∙ sym (append_assoc one.used two.used left); is = both one.is two.is; ends = two.ends }
  then_sound ts left b start (stopped w bad) is e = cc

  then_complete : (ts left : List Lexeme) (b : B) → IsThen R S ts b → h b (peek left) ≡ false → and_then (p (ts ++ left)) f ≡ found b left
  then_complete _ left b (both {ts} {us} {a} r t) end =
      ap (λ l. and_then (p l) f) (append_assoc ts us left)
      ∙ ap (λ r. and_then r f) (first.complete ts (us ++ left) a r (follows a us left b t end))
      ∙ (second a).complete us left b t end

  then_stops : (ts bad : List Lexeme) (w : Why) → s (peek ts) ≡ false → (r : Got A) → p ts ≡ r → and_then r f ≡ stopped w bad → Stops (p >>= f) (IsThen V W) w ts bad
  then_stops ts bad w start (stopped v bad') is e =
      let one = first.stops ts bad w start (is ∙ cc) in
      record {
        pre = one.pre;
        cut = one.cut;
        viable = elim one.viable [ inl empty ↦ inl empty | inr on ↦ inr (then_goes_on V W some one.pre on) ];
        only = λ other same. ap (λ r. and_then r f) (one.only other same);
        deeper = λ deep. then_goes_on V W some (one.pre ++ front bad ∷ []) (one.deeper deep);
      }
  then_stops ts bad w start (found a mid) is e =
      let one = first.sound ts mid a start is in
      let two = (second a).stops mid bad w one.ends e in
      record {
        pre = one.used ++ two.pre;
        cut = one.cut ∙ ap (λ l. one.used ++ l) two.cut ∙ sym (append_assoc one.used two.pre bad);
        viable = inr (after_goes_on V W a one.used two.pre (first.up _ _ one.is) (some_goes_on (W a) (some a) two.pre two.viable));
        only = λ other same.
            let ends : g a (peek (two.pre ++ other)) ≡ false = ap (g a) (peek_same two.pre other bad same) ∙ ap (λ l. g a (peek l)) (sym two.cut) ∙ one.ends in
            ap (λ l. and_then (p l) f) (append_assoc one.used two.pre other)
            ∙ ap (λ r. and_then r f) (first.complete one.used (two.pre ++ other) a one.is ends)
            ∙ two.only other same;
        deeper = λ deep. subst (λ l. CanGoOn (IsThen V W) l) (sym (append_assoc one.used two.pre (front bad ∷ [])))
            (after_goes_on V W a one.used (two.pre ++ front bad ∷ []) (first.up _ _ one.is) (two.deeper deep));
      }

  then_up : (ts : List Lexeme) (b : B) → IsThen R S ts b → IsThen V W ts b
  then_up _ _ (both r t) = both (first.up _ _ r) ((second _).up _ _ t)

  then_alive : (ts bad : List Lexeme) (w : Why) → s (peek ts) ≡ false → (r : Got A) → p ts ≡ r → and_then r f ≡ stopped w bad → Begun (IsThen R S) w ts bad
  then_alive ts bad w start (stopped v bad') is e = begun_same R (IsThen R S) (then_goes_on R S here) w ts bad (first.alive ts bad w start (is ∙ cc))
  then_alive ts bad w start (found a mid) is e =
      let one = first.sound ts mid a start is in
      let two = (second a).alive mid bad w one.ends e in
      let n = here a in
      record {
        pre = one.used ++ two.pre;
        cut = one.cut ∙ ap (λ l. one.used ++ l) two.cut ∙ sym (append_assoc one.used two.pre bad);
        live = live_behind (S a) (IsThen R S) one.used (λ pre on. after_goes_on R S a one.used pre one.is on) (after_goes_on R S a one.used [] one.is (n.0, n.1, n.2)) two.pre two.live;
        marks = two.marks;
      }

  pub then_exact : Exact (p >>= f) (IsThen R S) (IsThen V W) s h
  then_exact = record {
    sound = λ ts left b start e. then_sound ts left b start (p ts) refl e;
    complete = then_complete;
    stops = λ ts bad w start e. then_stops ts bad w start (p ts) refl e;
    up = then_up;
    alive = λ ts bad w start e. then_alive ts bad w start (p ts) refl e;
  }
