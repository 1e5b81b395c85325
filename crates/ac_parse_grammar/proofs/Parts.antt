-- The other parts of a grammar: a token, a choice by the next terminal, what opens at the limit, an end, a refusal.
use Rattle.std.specs.Prelude.{Bool, true, false, cond, not, ◌⊎◌}
use Rattle.std.proofs.Common.{◌≡◌, List, [], ◌∷◌, ◌++◌, refl, sym, ◌∙◌, ap, subst, inl, inr, append_assoc}
use denote.Enum.Bare.{same_true, true_same}
use Rattle.ac_lex.specs.Lexemes.{Lexeme}
use Rattle.ac_parse_grammar.specs.contracts.terminal.Terminal.{the_type}
use Rattle.ac_parse_grammar.specs.declared.terminal.Terminal.{Terminal}
use Rattle.ac_parse_grammar.specs.declared.terminal.Terminal.TheVariants.{End, PragmaEnd}
use Rattle.ac_parse_grammar.specs.Terminals.{terminal}
use Rattle.ac_parse_grammar.specs.ReaderCombinators.{Why, syntax, nesting, Got, found, stopped, Reader, and_then, ◌>>=◌, ◌>>◌, pure, peek, front, rest, take, is, expect, refuse, ending}
use Rattle.ac_parse_grammar.specs.Found.{Rel, Goes, Read, CanGoOn, Stops, awaits_parenthesis, opens_construct}
use Rattle.ac_parse_grammar.proofs.Exact.{Exact, Some_of, peek_same, some_goes_on, then_exact, none, nowhere, IsThen, both, Live, no_token, going, at_keyword, Begun, live_behind, begun_same, begun_none}

pub is_true : (this other : Terminal) → is this other ≡ true → other ≡ this
unfolding is
is_true this other e = same_true the_type tt other this e

pub true_is : (this other : Terminal) → other ≡ this → is this other ≡ true
unfolding is
true_is this other e = true_same the_type other this e

-- ---- nothing, and a value that takes no token

pub data IsNothing {A : Type 0} : List Lexeme → A → Type 0 where

pub data IsPure {A : Type 0} (a : A) : List Lexeme → A → Type 0 where
  nothing : IsPure a [] a

pub pure_empty : {A : Type 0} {a b : A} (ts : List Lexeme) → IsPure a ts b → ts ≡ []
pure_empty _ nothing = refl

pub pure_is : {A : Type 0} {a b : A} (ts : List Lexeme) → IsPure a ts b → a ≡ b
pure_is _ nothing = refl

pub pure_exact : {A : Type 0} (a : A) (g : Goes A) → Exact (pure a) (IsPure a) (IsPure a) (g a) g
pure_exact a g = record {
  sound = λ ts left b start e. (let same : a ≡ b = cc in let empty : ts ≡ left = cc in
      record { used = []; cut = empty; is = subst (λ z. IsPure a [] z) same nothing; ends = subst (λ z. g z (peek left) ≡ false) same (subst (λ l. g a (peek l) ≡ false) empty start) });
  complete = λ ts left b r end. pure_complete ts left b r;
  stops = λ ts bad w start e. cc;
  up = λ ts b r. r;
  alive = λ ts bad w start e. cc;
}
  where
    pure_complete : (ts left : List Lexeme) (b : _) → IsPure a ts b → found a (ts ++ left) ≡ found b left
    pure_complete _ left _ nothing = refl

module _ {A : Type 0} (a : A) (s g : Terminal → Bool) where
  end_sound : (ts left : List Lexeme) (b : A) (v : Bool) → g (peek ts) ≡ v → cond v (stopped syntax ts) (found a ts) ≡ found b left → Read (IsPure a) (λ _. g) ts left b
  end_sound ts left b true is e = cc
  end_sound ts left b false is e =
      let same : a ≡ b = cc in let empty : ts ≡ left = cc in
      record { used = []; cut = empty; is = subst (λ z. IsPure a [] z) same nothing; ends = subst (λ l. g (peek l) ≡ false) empty is }

  end_complete : (ts left : List Lexeme) (b : A) → IsPure a ts b → g (peek left) ≡ false → ending g a (ts ++ left) ≡ found b left
  unfolding ending
  end_complete _ left _ nothing end = ap (λ v. cond v (stopped syntax left) (found a left)) end

  end_stops : (ts bad : List Lexeme) (w : Why) (v : Bool) → g (peek ts) ≡ v → cond v (stopped syntax ts) (found a ts) ≡ stopped w bad → Stops (ending g a) (IsPure a) w ts bad
  unfolding ending
  end_stops ts bad w false is e = cc
  end_stops ts bad w true is e =
      let same : ts ≡ bad = cc in let cause : syntax ≡ w = cc in
      record {
        pre = [];
        cut = same;
        viable = inl refl;
        only = λ other kind. ap (λ v. cond v (stopped syntax other) (found a other)) (ap g kind ∙ ap (λ l. g (peek l)) (sym same) ∙ is) ∙ ap (λ v. stopped v other) cause;
        deeper = λ deep. cc (deep, cause);
      }

  end_alive : (ts bad : List Lexeme) (w : Why) (v : Bool) → cond v (stopped syntax ts) (found a ts) ≡ stopped w bad → Begun (IsPure a) w ts bad
  end_alive ts bad w false e = cc
  end_alive ts bad w true e = let cause : syntax ≡ w = cc in begun_none (IsPure a) w ts bad (cc) (λ deep. cc (deep, cause))

  pub ending_exact : Exact (ending g a) (IsPure a) (IsPure a) s (λ _. g)
  unfolding ending
  ending_exact = record {
    sound = λ ts left b start e. end_sound ts left b (g (peek ts)) refl e;
    complete = end_complete;
    stops = λ ts bad w start e. end_stops ts bad w (g (peek ts)) refl e;
    up = λ ts b r. r;
    alive = λ ts bad w start e. end_alive ts bad w (g (peek ts)) e;
  }

pub refuse_exact : {A : Type 0} (V : Rel A) (s : Terminal → Bool) (g : Goes A) → Exact refuse IsNothing V s g
refuse_exact V s g = record {
  sound = λ ts left a start e. cc;
  complete = λ ts left a r end. elim r [ ];
  stops = λ ts bad w start e. (let same : ts ≡ bad = cc in let cause : syntax ≡ w = cc in
      record { pre = []; cut = same; viable = inl refl; only = λ other is. ap (λ v. stopped v other) cause; deeper = λ deep. cc (deep, cause) });
  up = λ ts a r. elim r [ ];
  alive = λ ts bad w start e. (let cause : syntax ≡ w = cc in begun_none IsNothing w ts bad (cc) (λ deep. cc (deep, cause)));
}

-- ---- a token, and what follows it

abbrev pub pass : {A : Type 0} → (Lexeme → Reader A) → Reader A
pass f = λ ts. f (front ts) (rest ts)

pub data IsToken {A : Type 0} (test : Terminal → Bool) (R : Lexeme → Rel A) : List Lexeme → A → Type 0 where
  token : {t : Lexeme} {ts : List Lexeme} {a : A} → test (terminal t) ≡ true → R t ts a → IsToken test R (t ∷ ts) a

pub token_heads : {A : Type 0} {test : Terminal → Bool} {R : Lexeme → Rel A} (ts left : List Lexeme) (a : A) → IsToken test R ts a → test (peek (ts ++ left)) ≡ true
token_heads _ left a (token is r) = is

not_not : (b : Bool) → not b ≡ false → b ≡ true
not_not true e = refl
not_not false e = cc

module _ {A : Type 0} (test : Terminal → Bool) (f : Lexeme → Reader A) (R V : Lexeme → Rel A) (g : Goes A)
    (last : test End ≡ false) (one : (t : Lexeme) → Exact (f t) (R t) (V t) nowhere g) (some : (t : Lexeme) → Some_of (V t)) where
  abbrev pub Alive_behind : Type 0
  Alive_behind = (t : Lexeme) (ts bad : List Lexeme) (w : Why) → test (terminal t) ≡ true → f t ts ≡ stopped w bad → Begun (IsToken test R) w (t ∷ ts) bad

  token_goes_on : (t : Lexeme) (pre : List Lexeme) → test (terminal t) ≡ true → CanGoOn (V t) pre → CanGoOn (IsToken test V) (t ∷ pre)
  token_goes_on t pre is on = (on.0, on.1, token is on.2)

  token_sound : (ts left : List Lexeme) (a : A) → test (peek ts) ≡ true → f (front ts) (rest ts) ≡ found a left → Read (IsToken test R) g ts left a
  token_sound [] left a is e = cc (is, last)
  token_sound (t ∷ ts) left a is e =
      let c = (one t).sound ts left a refl e in
      record { used = t ∷ c.used; cut = ap (λ l. t ∷ l) c.cut; is = token is c.is; ends = c.ends }

  token_complete : (ts left : List Lexeme) (a : A) → IsToken test R ts a → g a (peek left) ≡ false → pass f (ts ++ left) ≡ found a left
  token_complete _ left a (token {t} {ts} is r) end = (one t).complete ts left a r end

  token_stops : (ts bad : List Lexeme) (w : Why) → test (peek ts) ≡ true → f (front ts) (rest ts) ≡ stopped w bad → Stops (pass f) (IsToken test V) w ts bad
  token_stops [] bad w is e = cc (is, last)
  token_stops (t ∷ ts) bad w is e =
      let c = (one t).stops ts bad w refl e in
      record {
        pre = t ∷ c.pre;
        cut = ap (λ l. t ∷ l) c.cut;
        viable = inr (token_goes_on t c.pre is (some_goes_on (V t) (some t) c.pre c.viable));
        only = λ other same. c.only other same;
        deeper = λ deep. token_goes_on t (c.pre ++ front bad ∷ []) is (c.deeper deep);
      }

  token_up : (ts : List Lexeme) (a : A) → IsToken test R ts a → IsToken test V ts a
  token_up _ _ (token is r) = token is ((one _).up _ _ r)

  token_alive : Alive_behind → (ts bad : List Lexeme) (w : Why) → test (peek ts) ≡ true → f (front ts) (rest ts) ≡ stopped w bad → Begun (IsToken test R) w ts bad
  token_alive alive [] bad w is e = cc (is, last)
  token_alive alive (t ∷ ts) bad w is e = alive t ts bad w is e

  pub token_exact_by : Alive_behind → Exact (pass f) (IsToken test R) (IsToken test V) (λ k. not (test k)) g
  token_exact_by alive = record {
    sound = λ ts left a start e. token_sound ts left a (not_not _ start) e;
    complete = token_complete;
    stops = λ ts bad w start e. token_stops ts bad w (not_not _ start) e;
    up = token_up;
    alive = λ ts bad w start e. token_alive alive ts bad w (not_not _ start) e;
  }

  pub token_live : ((t : Lexeme) → Some_of (R t)) → Alive_behind
  token_live here t ts bad w is e =
      let c = (one t).alive ts bad w refl e in
      let n = here t in
      record {
        pre = t ∷ c.pre;
        cut = ap (λ l. t ∷ l) c.cut;
        live = live_behind (R t) (IsToken test R) (t ∷ []) (λ pre on. (on.0, on.1, token is on.2)) (n.0, n.1, token is n.2) c.pre c.live;
        marks = c.marks;
      }

  pub token_exact : ((t : Lexeme) → Some_of (R t)) → Exact (pass f) (IsToken test R) (IsToken test V) (λ k. not (test k)) g
  token_exact here = token_exact_by (token_live here)

-- a keyword behind which reading stops at once, since nothing may open
pub keyword_alive : {A : Type 0} (test : Terminal → Bool) → ((k : Terminal) → test k ≡ true → awaits_parenthesis k ≡ true) → (t : Lexeme) (w : Why) (ts bad : List Lexeme) → test (terminal t) ≡ true → ts ≡ bad
    → (w ≡ nesting → opens_construct (peek bad) ≡ true) → Begun (IsToken {A = A} test (λ _. IsNothing)) w (t ∷ ts) bad
keyword_alive test keyword t w ts bad is same marks =
    record { pre = t ∷ []; cut = ap (λ l. t ∷ l) same; live = at_keyword [] t (keyword (terminal t) is) (inl refl); marks = marks }

-- where one terminal opens a construct
pub marks_of : (this : Terminal) → opens_construct this ≡ true → (k : Terminal) → is this k ≡ true → opens_construct k ≡ true
marks_of this opens k e = ap opens_construct (is_true this k e) ∙ opens

-- at the limit of nesting a token that opens something is none
pub limit_exact : {A : Type 0} (test : Terminal → Bool) (V : Lexeme → Rel A) (g : Goes A) → test End ≡ false → ((k : Terminal) → test k ≡ true → opens_construct k ≡ true) → ((t : Lexeme) → Some_of (V t))
    → Exact (λ ts. stopped nesting ts) IsNothing (IsToken test V) (λ k. not (test k)) g
limit_exact {A = A} test V g last marks some = record {
  sound = λ ts left a start e. cc;
  complete = λ ts left a r end. elim r [ ];
  stops = λ ts bad w start e. (let same : ts ≡ bad = cc in let cause : nesting ≡ w = cc in
      record { pre = []; cut = same; viable = inl refl; only = λ other is. ap (λ v. stopped v other) cause; deeper = λ deep. goes_on bad (ap (λ l. test (peek l)) (sym same) ∙ not_not _ start) });
  up = λ ts a r. elim r [ ];
  alive = λ ts bad w start e. (let same : ts ≡ bad = cc in begun_none IsNothing w ts bad same (λ deep. marks (peek bad) (ap (λ l. test (peek l)) (sym same) ∙ not_not _ start)));
}
  where
    goes_on : (bad : List Lexeme) → test (peek bad) ≡ true → CanGoOn (IsToken test V) (front bad ∷ [])
    goes_on [] is = cc (is, last)
    goes_on (t ∷ ts) is = let n = some t in (n.0, n.1, token is n.2)

-- ---- one way where such a terminal comes next, and another where none does

abbrev pub choose : {A : Type 0} → (Terminal → Bool) → Reader A → Reader A → Reader A
choose test p q = λ ts. cond (test (peek ts)) (p ts) (q ts)

pub data IsEither {A : Type 0} (P Q : Rel A) : List Lexeme → A → Type 0 where
  one : {ts : List Lexeme} {a : A} → P ts a → IsEither P Q ts a
  other : {ts : List Lexeme} {a : A} → Q ts a → IsEither P Q ts a

module _ {A : Type 0} (test s s' s'' : Terminal → Bool) (p q : Reader A) (P PV Q QV : Rel A) (g : Goes A)
    (if_so : (k : Terminal) → s k ≡ false → test k ≡ true → s' k ≡ false) (if_not : (k : Terminal) → s k ≡ false → test k ≡ false → s'' k ≡ false)
    (first : Exact p P PV s' g) (second : Exact q Q QV s'' g)
    (heads : (ts left : List Lexeme) (a : A) → P ts a → test (peek (ts ++ left)) ≡ true)
    (apart : (ts left : List Lexeme) (a : A) → Q ts a → g a (peek left) ≡ false → test (peek (ts ++ left)) ≡ false) where
  choose_sound : (ts left : List Lexeme) (a : A) → s (peek ts) ≡ false → (v : Bool) → test (peek ts) ≡ v → cond v (p ts) (q ts) ≡ found a left → Read (IsEither P Q) g ts left a
  choose_sound ts left a start true is e = let c = first.sound ts left a (if_so _ start is) e in record { used = c.used; cut = c.cut; is = one c.is; ends = c.ends }
  choose_sound ts left a start false is e = let c = second.sound ts left a (if_not _ start is) e in record { used = c.used; cut = c.cut; is = other c.is; ends = c.ends }

  choose_complete : (ts left : List Lexeme) (a : A) → IsEither P Q ts a → g a (peek left) ≡ false → choose test p q (ts ++ left) ≡ found a left
  choose_complete ts left a (one r) end = ap (λ v. cond v (p (ts ++ left)) (q (ts ++ left))) (heads ts left a r) ∙ first.complete ts left a r end
  choose_complete ts left a (other r) end = ap (λ v. cond v (p (ts ++ left)) (q (ts ++ left))) (apart ts left a r end) ∙ second.complete ts left a r end

  still : (v : Bool) (pre ts bad next : List Lexeme) → ts ≡ pre ++ bad → peek next ≡ peek bad → test (peek ts) ≡ v → test (peek (pre ++ next)) ≡ v
  still v pre ts bad next cut same is = ap test (peek_same pre next bad same) ∙ ap (λ l. test (peek l)) (sym cut) ∙ is

  choose_stops : (ts bad : List Lexeme) (w : Why) → s (peek ts) ≡ false → (v : Bool) → test (peek ts) ≡ v → cond v (p ts) (q ts) ≡ stopped w bad → Stops (choose test p q) (IsEither PV QV) w ts bad
  choose_stops ts bad w start true is e =
      let c = first.stops ts bad w (if_so _ start is) e in
      record {
        pre = c.pre;
        cut = c.cut;
        viable = elim c.viable [ inl empty ↦ inl empty | inr on ↦ inr (on.0, on.1, one on.2) ];
        only = λ next same. ap (λ v. cond v (p (c.pre ++ next)) (q (c.pre ++ next))) (still true c.pre ts bad next c.cut same is) ∙ c.only next same;
        deeper = λ deep. (let on = c.deeper deep in (on.0, on.1, one on.2));
      }
  choose_stops ts bad w start false is e =
      let c = second.stops ts bad w (if_not _ start is) e in
      record {
        pre = c.pre;
        cut = c.cut;
        viable = elim c.viable [ inl empty ↦ inl empty | inr on ↦ inr (on.0, on.1, other on.2) ];
        only = λ next same. ap (λ v. cond v (p (c.pre ++ next)) (q (c.pre ++ next))) (still false c.pre ts bad next c.cut same is) ∙ c.only next same;
        deeper = λ deep. (let on = c.deeper deep in (on.0, on.1, other on.2));
      }

  choose_up : (ts : List Lexeme) (a : A) → IsEither P Q ts a → IsEither PV QV ts a
  choose_up _ _ (one r) = one (first.up _ _ r)
  choose_up _ _ (other r) = other (second.up _ _ r)

  choose_alive : (ts bad : List Lexeme) (w : Why) → s (peek ts) ≡ false → (v : Bool) → test (peek ts) ≡ v → cond v (p ts) (q ts) ≡ stopped w bad → Begun (IsEither P Q) w ts bad
  choose_alive ts bad w start true is e = begun_same P (IsEither P Q) (λ pre on. (on.0, on.1, one on.2)) w ts bad (first.alive ts bad w (if_so _ start is) e)
  choose_alive ts bad w start false is e = begun_same Q (IsEither P Q) (λ pre on. (on.0, on.1, other on.2)) w ts bad (second.alive ts bad w (if_not _ start is) e)

  pub choose_from : Exact (choose test p q) (IsEither P Q) (IsEither PV QV) s g
  choose_from = record {
    sound = λ ts left a start e. choose_sound ts left a start (test (peek ts)) refl e;
    complete = choose_complete;
    stops = λ ts bad w start e. choose_stops ts bad w start (test (peek ts)) refl e;
    up = choose_up;
    alive = λ ts bad w start e. choose_alive ts bad w start (test (peek ts)) refl e;
  }

pub choose_exact : {A : Type 0} (test : Terminal → Bool) (p q : Reader A) (P PV Q QV : Rel A) (g : Goes A)
    → Exact p P PV (λ k. not (test k)) g → Exact q Q QV test g
    → ((ts left : List Lexeme) (a : A) → P ts a → test (peek (ts ++ left)) ≡ true)
    → ((ts left : List Lexeme) (a : A) → Q ts a → g a (peek left) ≡ false → test (peek (ts ++ left)) ≡ false)
    → Exact (choose test p q) (IsEither P Q) (IsEither PV QV) nowhere g
choose_exact test p q P PV Q QV g = choose_from test nowhere (λ k. not (test k)) test p q P PV Q QV g (λ k start is. ap not is) (λ k start is. is)

-- ---- what begins with no such terminal

pub data IsNot {A : Type 0} (test : Terminal → Bool) (R : Rel A) : List Lexeme → A → Type 0 where
  aside : {t : Lexeme} {ts : List Lexeme} {a : A} → test (terminal t) ≡ false → R (t ∷ ts) a → IsNot test R (t ∷ ts) a

module _ {A : Type 0} (test : Terminal → Bool) (p : Reader A) (R V : Rel A) (g : Goes A) (last : test PragmaEnd ≡ false)
    (x : Exact p R V nowhere g) (some : (a : A) → R [] a → ⊥) where
  not_sound : (ts left : List Lexeme) (a : A) → test (peek ts) ≡ false → (used : List Lexeme) → ts ≡ used ++ left → R used a → IsNot test R used a
  not_sound ts left a off [] cut is = absurd (some a is)
  not_sound ts left a off (t ∷ used) cut is = aside (ap (λ l. test (peek l)) (sym cut) ∙ off) is

  not_complete : (ts left : List Lexeme) (a : A) → IsNot test R ts a → g a (peek left) ≡ false → p (ts ++ left) ≡ found a left
  not_complete _ left a (aside {t} {ts} off r) end = x.complete (t ∷ ts) left a r end

  not_goes_on : (t : Lexeme) (pre : List Lexeme) → test (terminal t) ≡ false → CanGoOn V (t ∷ pre) → CanGoOn (IsNot test V) (t ∷ pre)
  not_goes_on t pre off on = (on.0, on.1, aside off on.2)

  not_viable : (ts bad pre : List Lexeme) → test (peek ts) ≡ false → ts ≡ pre ++ bad → (pre ≡ []) ⊎ CanGoOn V pre → (pre ≡ []) ⊎ CanGoOn (IsNot test V) pre
  not_viable ts bad [] off cut viable = inl refl
  not_viable ts bad (t ∷ pre) off cut (inl e) = inl e
  not_viable ts bad (t ∷ pre) off cut (inr on) = inr (not_goes_on t pre (ap (λ l. test (peek l)) (sym cut) ∙ off) on)

  not_deeper : (ts bad pre : List Lexeme) → test (peek ts) ≡ false → ts ≡ pre ++ bad → CanGoOn V (pre ++ front bad ∷ []) → CanGoOn (IsNot test V) (pre ++ front bad ∷ [])
  unfolding terminal
  not_deeper ts [] [] off cut on = not_goes_on _ [] last on
  not_deeper ts (t ∷ bad) [] off cut on = not_goes_on t [] (ap (λ l. test (peek l)) (sym cut) ∙ off) on
  not_deeper ts bad (t ∷ pre) off cut on = not_goes_on t (pre ++ front bad ∷ []) (ap (λ l. test (peek l)) (sym cut) ∙ off) on

  not_up : (ts : List Lexeme) (a : A) → IsNot test R ts a → IsNot test V ts a
  not_up _ _ (aside off r) = aside off (x.up _ _ r)

  going_aside : (ts bad pre : List Lexeme) → test (peek ts) ≡ false → ts ≡ pre ++ bad → CanGoOn R pre → (pre ≡ []) ⊎ CanGoOn (IsNot test R) pre
  going_aside ts bad [] off cut on = inl refl
  going_aside ts bad (t ∷ pre) off cut on = inr (on.0, on.1, aside (ap (λ l. test (peek l)) (sym cut) ∙ off) on.2)

  live_aside : (ts bad pre : List Lexeme) → test (peek ts) ≡ false → ts ≡ pre ++ bad → Live R pre → Live (IsNot test R) pre
  live_aside ts bad _ off cut no_token = no_token
  live_aside ts bad pre off cut (going on) = by (going_aside ts bad pre off cut on)
    where
      by : (pre ≡ []) ⊎ CanGoOn (IsNot test R) pre → Live (IsNot test R) pre
      by (inl e) = subst (λ l. Live (IsNot test R) l) (sym e) no_token
      by (inr c) = going c
  live_aside ts bad _ off cut (at_keyword pre k is before) = at_keyword pre k is (by before)
    where
      by : (pre ≡ []) ⊎ CanGoOn R pre → (pre ≡ []) ⊎ CanGoOn (IsNot test R) pre
      by (inl e) = inl e
      by (inr c) = going_aside ts (k ∷ bad) pre off (cut ∙ append_assoc pre (k ∷ []) bad) c

  pub not_exact : Exact p (IsNot test R) (IsNot test V) test g
  not_exact = record {
    sound = λ ts left a off e. (let c = x.sound ts left a refl e in record { used = c.used; cut = c.cut; is = not_sound ts left a off c.used c.cut c.is; ends = c.ends });
    complete = not_complete;
    stops = λ ts bad w off e. (let c = x.stops ts bad w refl e in
        record { pre = c.pre; cut = c.cut; viable = not_viable ts bad c.pre off c.cut c.viable; only = c.only; deeper = λ deep. not_deeper ts bad c.pre off c.cut (c.deeper deep) });
    up = not_up;
    alive = λ ts bad w off e. (let c = x.alive ts bad w refl e in record { pre = c.pre; cut = c.cut; live = live_aside ts bad c.pre off c.cut c.live; marks = c.marks });
  }

-- ---- the closing token, with the value of what it closes

pub data IsClosed {A : Type 0} (close : Terminal) (a : A) : List Lexeme → A → Type 0 where
  closed : {t : Lexeme} → terminal t ≡ close → IsClosed close a (t ∷ []) a

abbrev pub closing : {A : Type 0} → Terminal → A → Reader A
closing close a = expect close >> pure a

module _ {A : Type 0} (close : Terminal) (a : A) (real : is close End ≡ false) (s : Terminal → Bool) where
  close_at : (v : Bool) → List Lexeme → Got A
  close_at v ts = cond v (found a (rest ts)) (stopped syntax ts)

  closing_at : (ts : List Lexeme) → closing close a ts ≡ close_at (is close (peek ts)) ts
  unfolding expect close_at
  closing_at ts = by_test (is close (peek ts))
    where
      by_test : (v : Bool) → and_then (cond v (take ts) (stopped syntax ts)) (λ _. pure a) ≡ cond v (found a (rest ts)) (stopped syntax ts)
      by_test true = refl
      by_test false = refl

  close_sound : (ts left : List Lexeme) (b : A) (v : Bool) → is close (peek ts) ≡ v → close_at v ts ≡ found b left → Read (IsClosed close a) none ts left b
  unfolding close_at
  close_sound ts left b false is e = cc
  close_sound [] left b true is e = cc (is, real)
  close_sound (t ∷ us) left b true is e =
      let same : a ≡ b = cc in let empty : us ≡ left = cc in
      record { used = t ∷ []; cut = ap (λ l. t ∷ l) empty; is = subst (λ z. IsClosed close a (t ∷ []) z) same (closed (is_true _ _ is)); ends = refl }

  close_complete : (ts left : List Lexeme) (b : A) → IsClosed close a ts b → closing close a (ts ++ left) ≡ found b left
  unfolding close_at
  close_complete _ left _ (closed {t} is) = closing_at (t ∷ left) ∙ ap (λ v. close_at v (t ∷ left)) (true_is _ _ is)

  close_stops : (ts bad : List Lexeme) (w : Why) (v : Bool) → is close (peek ts) ≡ v → close_at v ts ≡ stopped w bad → Stops (closing close a) (IsClosed close a) w ts bad
  unfolding close_at
  close_stops ts bad w true is e = cc
  close_stops ts bad w false at e =
      let same : ts ≡ bad = cc in let cause : syntax ≡ w = cc in
      record {
        pre = [];
        cut = same;
        viable = inl refl;
        only = λ other kind. closing_at other ∙ ap (λ v. close_at v other) (ap (is close) kind ∙ ap (λ l. is close (peek l)) (sym same) ∙ at) ∙ ap (λ v. stopped v other) cause;
        deeper = λ deep. cc (deep, cause);
      }

  close_alive : (ts bad : List Lexeme) (w : Why) (v : Bool) → close_at v ts ≡ stopped w bad → Begun (IsClosed close a) w ts bad
  unfolding close_at
  close_alive ts bad w true e = cc
  close_alive ts bad w false e = let cause : syntax ≡ w = cc in begun_none (IsClosed close a) w ts bad (cc) (λ deep. cc (deep, cause))

  pub closing_exact : Exact (closing close a) (IsClosed close a) (IsClosed close a) s none
  closing_exact = record {
    sound = λ ts left b start e. close_sound ts left b (is close (peek ts)) refl (sym (closing_at ts) ∙ e);
    complete = λ ts left b r end. close_complete ts left b r;
    stops = λ ts bad w start e. close_stops ts bad w (is close (peek ts)) refl (sym (closing_at ts) ∙ e);
    up = λ ts b r. r;
    alive = λ ts bad w start e. close_alive ts bad w (is close (peek ts)) (sym (closing_at ts) ∙ e);
  }

-- ---- what stands before its closing token, and a value made of what was read

abbrev pub IsHeld : {A : Type 0} → Rel A → Terminal → Rel A
IsHeld R close = IsThen R (λ a. IsClosed close a)

abbrev pub IsMap : {A B : Type 0} → (A → B) → Rel A → Rel B
IsMap f R = IsThen R (λ a. IsPure (f a))

closed_apart : {A : Type 0} {a b : A} (last : Terminal) (g : Terminal → Bool) → g last ≡ false → (ts left : List Lexeme) → IsClosed last a ts b → g (peek (ts ++ left)) ≡ false
closed_apart last g off _ left (closed is) = ap g is ∙ off

-- a lexeme of this terminal
abbrev pub Spelled : Terminal → Type 0
Spelled k = (t : Lexeme) × (terminal t ≡ k)

pub some_held : {A : Type 0} (V : Rel A) (last : Terminal) → Spelled last → Some_of V → Some_of (IsHeld V last)
some_held V last t some = (some.0 ++ t.0 ∷ [], some.1, both some.2 (closed t.1))

pub held_exact : {A : Type 0} (p : Reader A) (R V : Rel A) (s : Terminal → Bool) (g : Goes A) (close : Terminal) → Spelled close → Exact p R V s g → is close End ≡ false
    → ((a : A) → g a close ≡ false) → Exact (p >>= closing close) (IsHeld R close) (IsHeld V close) s none
held_exact p R V s g close t x real off = then_exact p (closing close) R V (λ a. IsClosed close a) (λ a. IsClosed close a) s g none
    x (λ a. closing_exact close a real (g a)) (λ a. (t.0 ∷ [], a, closed t.1)) (λ a. (t.0 ∷ [], a, closed t.1)) (λ a ts left b r end. closed_apart close (g a) (off a) ts left r)

-- the value, and the terminals that may not follow
pub map_exact : {A B : Type 0} (p : Reader A) (R V : Rel A) (f : A → B) (s : Terminal → Bool) (g : Goes A) (h : Goes B) → Exact p R V s g
    → ((a : A) (k : Terminal) → h (f a) k ≡ g a k) → Exact (p >>= (λ a. pure (f a))) (IsMap f R) (IsMap f V) s h
map_exact p R V f s g h x same = then_exact p (λ a. pure (f a)) R V (λ a. IsPure (f a)) (λ a. IsPure (f a)) s g h x
    (λ a. starting a (pure_exact (f a) h)) (λ a. ([], f a, nothing)) (λ a. ([], f a, nothing)) (λ a ts left b r end. before a ts left b r end)
  where
    starting : (a : _) → Exact (pure (f a)) (IsPure (f a)) (IsPure (f a)) (h (f a)) h → Exact (pure (f a)) (IsPure (f a)) (IsPure (f a)) (g a) h
    starting a y = record {
      sound = λ ts left b start e. y.sound ts left b (same a (peek ts) ∙ start) e;
      complete = y.complete;
      stops = λ ts bad w start e. y.stops ts bad w (same a (peek ts) ∙ start) e;
      up = y.up;
      alive = λ ts bad w start e. y.alive ts bad w (same a (peek ts) ∙ start) e;
    }

    before : (a : _) (ts left : List Lexeme) (b : _) → IsPure (f a) ts b → h b (peek left) ≡ false → g a (peek (ts ++ left)) ≡ false
    before a _ left _ nothing end = sym (same a (peek left)) ∙ end

pub some_map : {A B : Type 0} (V : Rel A) (f : A → B) → Some_of V → Some_of (IsMap f V)
some_map V f some = (some.0 ++ [], f some.1, both some.2 nothing)

-- the value, behind which these terminals may not stand
pub ended_exact : {A B : Type 0} (p : Reader A) (R V : Rel A) (f : A → B) (s : Terminal → Bool) (g : Goes A) (h : Terminal → Bool) → Exact p R V s g
    → ((a : A) (k : Terminal) → h k ≡ false → g a k ≡ false) → Exact (p >>= (λ a. ending h (f a))) (IsMap f R) (IsMap f V) s (λ _. h)
ended_exact p R V f s g h x wider = then_exact p (λ a. ending h (f a)) R V (λ a. IsPure (f a)) (λ a. IsPure (f a)) s g (λ _. h) x
    (λ a. ending_exact (f a) (g a) h) (λ a. ([], f a, nothing)) (λ a. ([], f a, nothing)) (λ a ts left b r end. before a ts left b r end)
  where
    before : (a : _) (ts left : List Lexeme) (b : _) → IsPure (f a) ts b → h (peek left) ≡ false → g a (peek (ts ++ left)) ≡ false
    before a _ left _ nothing end = wider a (peek left) end

-- ---- the same under another name

pub same_exact : {A : Type 0} {p : Reader A} {R V : Rel A} {s : Terminal → Bool} {g : Goes A} (q : Reader A) → ((ts : List Lexeme) → q ts ≡ p ts) → Exact p R V s g → Exact q R V s g
same_exact q same x = record {
  sound = λ ts left a start e. x.sound ts left a start (sym (same ts) ∙ e);
  complete = λ ts left a r end. same (ts ++ left) ∙ x.complete ts left a r end;
  stops = λ ts bad w start e. (let c = x.stops ts bad w start (sym (same ts) ∙ e) in
      record { pre = c.pre; cut = c.cut; viable = c.viable; only = λ other is. same (c.pre ++ other) ∙ c.only other is; deeper = c.deeper });
  up = x.up;
  alive = λ ts bad w start e. x.alive ts bad w start (sym (same ts) ∙ e);
}

pub from_anywhere : {A : Type 0} {p : Reader A} {R V : Rel A} {s : Terminal → Bool} {g : Goes A} → Exact p R V nowhere g → Exact p R V s g
from_anywhere x = record { sound = λ ts left a start e. x.sound ts left a refl e; complete = x.complete; stops = λ ts bad w start e. x.stops ts bad w refl e; up = x.up; alive = λ ts bad w start e. x.alive ts bad w refl e }

-- the terminals that go on, said in another way
pub goes_exact : {A : Type 0} {p : Reader A} {R V : Rel A} {s : Terminal → Bool} {g : Goes A} (h : Goes A) → ((ts : List Lexeme) (a : A) → R ts a → (k : Terminal) → h a k ≡ g a k) → Exact p R V s g → Exact p R V s h
goes_exact h same x = record {
  sound = λ ts left a start e. (let c = x.sound ts left a start e in record { used = c.used; cut = c.cut; is = c.is; ends = same c.used a c.is (peek left) ∙ c.ends });
  complete = λ ts left a r end. x.complete ts left a r (sym (same ts a r (peek left)) ∙ end);
  stops = x.stops;
  up = x.up;
  alive = x.alive;
}

-- relations that have the same
pub equal_exact : {A : Type 0} {p : Reader A} {R V : Rel A} {s : Terminal → Bool} {g : Goes A} (S W : Rel A)
    → ((ts : List Lexeme) (a : A) → R ts a → S ts a) → ((ts : List Lexeme) (a : A) → S ts a → R ts a) → ((ts : List Lexeme) (a : A) → V ts a → W ts a) → Exact p R V s g → Exact p S W s g
equal_exact {R = R} S W to from wider x = record {
  sound = λ ts left a start e. (let c = x.sound ts left a start e in record { used = c.used; cut = c.cut; is = to _ _ c.is; ends = c.ends });
  complete = λ ts left a r end. x.complete ts left a (from _ _ r) end;
  stops = λ ts bad w start e. (let c = x.stops ts bad w start e in
      record {
        pre = c.pre;
        cut = c.cut;
        viable = elim c.viable [ inl empty ↦ inl empty | inr on ↦ inr (on.0, on.1, wider _ _ on.2) ];
        only = c.only;
        deeper = λ deep. (let on = c.deeper deep in (on.0, on.1, wider _ _ on.2));
      });
  up = λ ts a r. wider _ _ (x.up _ _ (from _ _ r));
  alive = λ ts bad w start e. begun_same R S (λ pre on. (on.0, on.1, to _ _ on.2)) w ts bad (x.alive ts bad w start e);
}
