-- A reader with the relations for which it is exact, and how such pieces are put together.
use Rattle.std.specs.Prelude.{Bool, true, false, cond, not, Option, Some, None, ◌||◌}
use Rattle.std.proofs.Common.{◌≡◌, ℕ, zero, suc, List, [], ◌∷◌, ◌++◌, refl, sym, ◌∙◌, ap, subst, inl, inr, append_assoc}
use Rattle.std.proofs.lemmas.List.{append-nil}
use Rattle.ac_lex.specs.Lexemes.{Lexeme}
use Rattle.ac_parse_grammar.specs.declared.terminal.Terminal.{Terminal}
use Rattle.ac_parse_grammar.specs.declared.terminal.Terminal.TheVariants.{End}
use Rattle.ac_parse_grammar.specs.declared.tree.Word.{Word}
use Rattle.ac_parse_grammar.specs.Terminals.{terminal}
use Rattle.ac_parse_grammar.specs.TokenWords.{word_of}
use Rattle.ac_parse_grammar.specs.ReaderCombinators.{Why, syntax, nesting, Got, found, stopped, Reader, and_then, ◌>>=◌, pure, peek, front, rest, take, is, expect, refuse, many}
use Rattle.ac_parse_grammar.specs.Constructs.{opening}
use Rattle.ac_parse_grammar.specs.Found.{Rel, Goes, Read, CanGoOn, Stops, opens_construct}
use Rattle.ac_parse_grammar.proofs.Exact.{Exact, Some_of, some_goes_on, peek_same, then_exact, none, nowhere, IsThen, both, Begun, live_behind, begun_none}
use Rattle.ac_parse_grammar.proofs.Parts.{is_true, true_is, IsNothing, IsPure, nothing, pure_exact, refuse_exact, pass, IsToken, token, token_exact, choose, IsEither, one, other, choose_exact, Spelled, IsMap, map_exact, same_exact, equal_exact, limit_exact, marks_of}
use Rattle.ac_parse_grammar.proofs.Many.{IsMany, no_more, many_exact}
use Rattle.ac_parse_grammar.proofs.Repeats.{has}

pub record Piece (A : Type 0) (starts : Terminal → Bool) (goes : Goes A) : Type 1 where
  pub read : Reader A
  pub rel : Rel A
  pub wide : Rel A
  pub exact : Exact read rel wide starts goes
  pub some : Some_of wide
  pub here : Some_of rel
  -- the terminals with which its texts begin
  pub begins : Terminal → Bool
  pub begun : (ts left : List Lexeme) (a : A) → rel ts a → begins (peek (ts ++ left)) ≡ true

-- a piece that may have no text, where nothing may open
pub record Way (A : Type 0) (starts : Terminal → Bool) (goes : Goes A) : Type 1 where
  pub read : Reader A
  pub rel : Rel A
  pub wide : Rel A
  pub exact : Exact read rel wide starts goes
  pub some : Some_of wide
  pub begins : Terminal → Bool
  pub begun : (ts left : List Lexeme) (a : A) → rel ts a → begins (peek (ts ++ left)) ≡ true

abbrev pub way : {A : Type 0} {s : Terminal → Bool} {g : Goes A} → Piece A s g → Way A s g
way piece = record { read = piece.read; rel = piece.rel; wide = piece.wide; exact = piece.exact; some = piece.some; begins = piece.begins; begun = piece.begun }

abbrev pub anything : Terminal → Bool
anything k = true

-- what is exact wherever it starts
pub anywhere : {A : Type 0} {p : Reader A} {R V : Rel A} {g : Goes A} (s : Terminal → Bool) → Exact p R V nowhere g → Exact p R V s g
anywhere s x = record {
  sound = λ ts left a start e. x.sound ts left a refl e;
  complete = x.complete;
  stops = λ ts bad w start e. x.stops ts bad w refl e;
  up = x.up;
  alive = λ ts bad w start e. x.alive ts bad w refl e;
}

abbrev pub at_any : {A : Type 0} {g : Goes A} (s : Terminal → Bool) → Piece A nowhere g → Piece A s g
at_any s piece = record { read = piece.read; rel = piece.rel; wide = piece.wide; exact = anywhere s piece.exact; some = piece.some; here = piece.here; begins = piece.begins; begun = piece.begun }

pub then_begun : {A B : Type 0} (R : Rel A) (S : A → Rel B) (begins : Terminal → Bool) → ((ts left : List Lexeme) (a : A) → R ts a → begins (peek (ts ++ left)) ≡ true)
    → (ts left : List Lexeme) (b : B) → IsThen R S ts b → begins (peek (ts ++ left)) ≡ true
then_begun R S begins begun _ left b (both {ts} {us} {a} r t) = ap (λ l. begins (peek l)) (append_assoc ts us left) ∙ begun ts (us ++ left) a r

-- one piece and another that goes on from its value
abbrev pub behind : {A B : Type 0} {s : Terminal → Bool} {g : Goes A} {h : Goes B} (first : Piece A s g) (second : (a : A) → Piece B (g a) h)
    → ((a : A) (ts left : List Lexeme) (b : B) → (second a).rel ts b → h b (peek left) ≡ false → g a (peek (ts ++ left)) ≡ false) → Piece B s h
behind {s = s} {g = g} {h = h} first second follows = record {
  read = first.read >>= (λ a. (second a).read);
  rel = IsThen first.rel (λ a. (second a).rel);
  wide = IsThen first.wide (λ a. (second a).wide);
  exact = then_exact first.read (λ a. (second a).read) first.rel first.wide (λ a. (second a).rel) (λ a. (second a).wide) s g h first.exact (λ a. (second a).exact) (λ a. (second a).some) (λ a. (second a).here) follows;
  some = (first.some.0 ++ (second first.some.1).some.0, (second first.some.1).some.1, both first.some.2 (second first.some.1).some.2);
  here = (first.here.0 ++ (second first.here.1).here.0, (second first.here.1).here.1, both first.here.2 (second first.here.1).here.2);
  begins = first.begins;
  begun = then_begun first.rel (λ a. (second a).rel) first.begins first.begun;
}

-- where anything may follow the first
abbrev pub next : {A B : Type 0} {s : Terminal → Bool} {h : Goes B} (first : Piece A s none) (second : A → Piece B nowhere h) → Piece B s h
next first second = behind first second (λ a ts left b r end. refl)

-- where what begins the second does not go on with the first
abbrev pub apart : {A B : Type 0} {s : Terminal → Bool} {g : Goes A} {h : Goes B} (first : Piece A s g) (second : A → Piece B nowhere h)
    → ((a : A) (k : Terminal) → (second a).begins k ≡ true → g a k ≡ false) → Piece B s h
apart {g = g} first second off = behind first (λ a. at_any (g a) (second a)) (λ a ts left b r end. off a (peek (ts ++ left)) ((second a).begun ts left b r))

-- ---- values and tokens

abbrev pub value : {A : Type 0} (a : A) → Piece A nowhere none
value a = record { read = pure a; rel = IsPure a; wide = IsPure a; exact = pure_exact a none; some = ([], a, nothing); here = ([], a, nothing); begins = anything; begun = λ ts left b r. refl }

-- a value behind which some terminals may not stand
abbrev pub value_before : {A : Type 0} (g : Goes A) (a : A) → Piece A (g a) g
value_before g a = record { read = pure a; rel = IsPure a; wide = IsPure a; exact = pure_exact a g; some = ([], a, nothing); here = ([], a, nothing); begins = anything; begun = λ ts left b r. refl }

pub token_begun : {A : Type 0} (test : Terminal → Bool) (R : Lexeme → Rel A) (ts left : List Lexeme) (a : A) → IsToken test R ts a → test (peek (ts ++ left)) ≡ true
token_begun test R _ left a (token is r) = is

-- such a token, which is passed
abbrev pub passed : {A : Type 0} {g : Goes A} (test : Terminal → Bool) (last : test End ≡ false) (lexeme : (t : Lexeme) × (test (terminal t) ≡ true)) (inside : Lexeme → Piece A nowhere g)
    → Piece A (λ k. not (test k)) g
passed {g = g} test last lexeme inside = record {
  read = pass (λ t. (inside t).read);
  rel = IsToken test (λ t. (inside t).rel);
  wide = IsToken test (λ t. (inside t).wide);
  exact = token_exact test (λ t. (inside t).read) (λ t. (inside t).rel) (λ t. (inside t).wide) g last (λ t. (inside t).exact) (λ t. (inside t).some) (λ t. (inside t).here);
  some = (lexeme.0 ∷ (inside lexeme.0).some.0, (inside lexeme.0).some.1, token lexeme.1 (inside lexeme.0).some.2);
  here = (lexeme.0 ∷ (inside lexeme.0).here.0, (inside lexeme.0).here.1, token lexeme.1 (inside lexeme.0).here.2);
  begins = test;
  begun = token_begun test (λ t. (inside t).rel);
}

or_left : (a b : Bool) → a ≡ true → (a || b) ≡ true
or_left a b e = rw e refl

or_right : (a b : Bool) → b ≡ true → (a || b) ≡ true
or_right true b e = refl
or_right false b e = e

pub either_begun : {A : Type 0} (P Q : Rel A) (p q : Terminal → Bool) → ((ts left : List Lexeme) (a : A) → P ts a → p (peek (ts ++ left)) ≡ true)
    → ((ts left : List Lexeme) (a : A) → Q ts a → q (peek (ts ++ left)) ≡ true)
    → (ts left : List Lexeme) (a : A) → IsEither P Q ts a → (p (peek (ts ++ left)) || q (peek (ts ++ left))) ≡ true
either_begun P Q p q f g ts left a (one r) = or_left _ _ (f ts left a r)
either_begun P Q p q f g ts left a (other r) = or_right (p (peek (ts ++ left))) _ (g ts left a r)

-- one way where such a terminal comes next, and another where none does
abbrev pub either : {A : Type 0} {g : Goes A} (test : Terminal → Bool) (taken : Way A (λ k. not (test k)) g) (otherwise : Piece A nowhere g)
    → ((k : Terminal) → taken.begins k ≡ true → test k ≡ true)
    → ((ts left : List Lexeme) (a : A) → otherwise.rel ts a → g a (peek left) ≡ false → test (peek (ts ++ left)) ≡ false) → Piece A nowhere g
either {g = g} test taken otherwise heads off = record {
  read = choose test taken.read otherwise.read;
  rel = IsEither taken.rel otherwise.rel;
  wide = IsEither taken.wide otherwise.wide;
  exact = choose_exact test taken.read otherwise.read taken.rel taken.wide otherwise.rel otherwise.wide g taken.exact (anywhere test otherwise.exact)
      (λ ts left a r. heads (peek (ts ++ left)) (taken.begun ts left a r)) off;
  some = (taken.some.0, taken.some.1, one taken.some.2);
  here = (otherwise.here.0, otherwise.here.1, other otherwise.here.2);
  begins = λ k. taken.begins k || otherwise.begins k;
  begun = either_begun taken.rel otherwise.rel taken.begins otherwise.begins taken.begun otherwise.begun;
}

-- the same, where the second way may begin nowhere else
abbrev pub either_or : {A : Type 0} {g : Goes A} (test : Terminal → Bool) (taken : Way A (λ k. not (test k)) g) (otherwise : Piece A test g)
    → ((k : Terminal) → taken.begins k ≡ true → test k ≡ true)
    → ((ts left : List Lexeme) (a : A) → otherwise.rel ts a → g a (peek left) ≡ false → test (peek (ts ++ left)) ≡ false) → Piece A nowhere g
either_or {g = g} test taken otherwise heads off = record {
  read = choose test taken.read otherwise.read;
  rel = IsEither taken.rel otherwise.rel;
  wide = IsEither taken.wide otherwise.wide;
  exact = choose_exact test taken.read otherwise.read taken.rel taken.wide otherwise.rel otherwise.wide g taken.exact otherwise.exact
      (λ ts left a r. heads (peek (ts ++ left)) (taken.begun ts left a r)) off;
  some = (taken.some.0, taken.some.1, one taken.some.2);
  here = (otherwise.here.0, otherwise.here.1, other otherwise.here.2);
  begins = λ k. taken.begins k || otherwise.begins k;
  begun = either_begun taken.rel otherwise.rel taken.begins otherwise.begins taken.begun otherwise.begun;
}

-- ---- a mark, and what stands behind it

is_end : (k : Terminal) → is k End ≡ false → (ts : List Lexeme) → is k (peek ts) ≡ true → (t : Lexeme) × (us : List Lexeme) × (ts ≡ t ∷ us)
is_end k real [] e = cc (e, real)
is_end k real (t ∷ us) e = (t, us, refl)

expect_as : {A : Type 0} (k : Terminal) (f : Lexeme → Reader A) (ts : List Lexeme) → and_then (expect k ts) f ≡ choose (is k) (pass f) refuse ts
unfolding expect
expect_as {A = A} k f ts = by_test (is k (peek ts))
  where
    by_test : (v : Bool) → and_then (cond v (take ts) (stopped syntax ts)) f ≡ cond v (f (front ts) (rest ts)) (stopped syntax ts)
    by_test true = refl
    by_test false = refl

-- a token of this terminal, and what follows it
pub data IsMarked {A : Type 0} (k : Terminal) (R : Lexeme → Rel A) : List Lexeme → A → Type 0 where
  marked : {t : Lexeme} {ts : List Lexeme} {a : A} → terminal t ≡ k → R t ts a → IsMarked k R (t ∷ ts) a

marked_of : {A : Type 0} (k : Terminal) (R : Lexeme → Rel A) (ts : List Lexeme) (a : A) → IsEither (IsToken (is k) R) IsNothing ts a → IsMarked k R ts a
marked_of k R _ a (one (token {t} is r)) = marked (is_true k (terminal t) is) r
marked_of k R ts a (other r) = elim r [ ]

of_marked : {A : Type 0} (k : Terminal) (R : Lexeme → Rel A) (ts : List Lexeme) (a : A) → IsMarked k R ts a → IsEither (IsToken (is k) R) IsNothing ts a
of_marked k R _ a (marked {t} is r) = one (token (true_is k (terminal t) is) r)

pub marked_begun : {A : Type 0} (k : Terminal) (R : Lexeme → Rel A) (ts left : List Lexeme) (a : A) → IsMarked k R ts a → is k (peek (ts ++ left)) ≡ true
marked_begun k R _ left a (marked {t} is r) = true_is k (terminal t) is

pub expected_exact : {A : Type 0} (k : Terminal) (f : Lexeme → Reader A) (R V : Lexeme → Rel A) (g : Goes A) → is k End ≡ false
    → ((t : Lexeme) → Exact (f t) (R t) (V t) nowhere g) → ((t : Lexeme) → Some_of (V t)) → ((t : Lexeme) → Some_of (R t)) → Exact (expect k >>= f) (IsMarked k R) (IsMarked k V) nowhere g
expected_exact k f R V g real x some here = equal_exact (IsMarked k R) (IsMarked k V) (marked_of k R) (of_marked k R) (marked_of k V)
    (same_exact (expect k >>= f) (expect_as k f)
    (choose_exact (is k) (pass f) refuse (IsToken (is k) R) (IsToken (is k) V) IsNothing IsNothing g
    (token_exact (is k) f R V g real x some here) (refuse_exact IsNothing (is k) g) (λ ts left a r. token_begun (is k) R ts left a r) (λ ts left a r end. elim r [ ])))

abbrev pub expected : {A : Type 0} {g : Goes A} (k : Terminal) (real : is k End ≡ false) (t : Spelled k) (inside : Lexeme → Piece A nowhere g) → Piece A nowhere g
expected {g = g} k real t inside = record {
  read = expect k >>= (λ t. (inside t).read);
  rel = IsMarked k (λ t. (inside t).rel);
  wide = IsMarked k (λ t. (inside t).wide);
  exact = expected_exact k (λ t. (inside t).read) (λ t. (inside t).rel) (λ t. (inside t).wide) g real (λ t. (inside t).exact) (λ t. (inside t).some) (λ t. (inside t).here);
  some = (t.0 ∷ (inside t.0).some.0, (inside t.0).some.1, marked t.1 (inside t.0).some.2);
  here = (t.0 ∷ (inside t.0).here.0, (inside t.0).here.1, marked t.1 (inside t.0).here.2);
  begins = is k;
  begun = marked_begun k (λ t. (inside t).rel);
}

-- something, a mark that does not go on with it, and what stands behind the mark
abbrev pub before : {A B : Type 0} {s : Terminal → Bool} {g : Goes A} {h : Goes B} (first : Piece A s g) (k : Terminal) → is k End ≡ false → Spelled k → ((a : A) → g a k ≡ false)
    → (second : A → Piece B nowhere h) → Piece B s h
before {g = g} first k real t off second = apart first (λ a. expected k real t (λ _. second a)) (λ a k' e. ap (g a) (is_true k k' e) ∙ off a)

-- ---- names

-- a token that such a terminal is, as a word
abbrev pub worded : (Terminal → Bool) → Reader Word
worded test = λ ts. cond (test (peek ts)) (found (word_of (front ts)) (rest ts)) (stopped syntax ts)

pub data IsWorded (test : Terminal → Bool) : List Lexeme → Word → Type 0 where
  a_word : {t : Lexeme} → test (terminal t) ≡ true → IsWorded test (t ∷ []) (word_of t)

worded_of : (test : Terminal → Bool) (ts : List Lexeme) (a : Word) → IsEither (IsToken test (λ t. IsPure (word_of t))) IsNothing ts a → IsWorded test ts a
worded_of test _ _ (one (token is nothing)) = a_word is
worded_of test ts a (other r) = elim r [ ]

of_worded : (test : Terminal → Bool) (ts : List Lexeme) (a : Word) → IsWorded test ts a → IsEither (IsToken test (λ t. IsPure (word_of t))) IsNothing ts a
of_worded test _ _ (a_word is) = one (token is nothing)

pub worded_exact : (test : Terminal → Bool) → test End ≡ false → Exact (worded test) (IsWorded test) (IsWorded test) nowhere none
worded_exact test last = equal_exact (IsWorded test) (IsWorded test) (worded_of test) (of_worded test) (worded_of test)
    (choose_exact test (pass (λ t. pure (word_of t))) refuse (IsToken test (λ t. IsPure (word_of t))) (IsToken test (λ t. IsPure (word_of t))) IsNothing IsNothing none
    (token_exact test (λ t. pure (word_of t)) (λ t. IsPure (word_of t)) (λ t. IsPure (word_of t)) none last (λ t. pure_exact (word_of t) none) (λ t. ([], word_of t, nothing)) (λ t. ([], word_of t, nothing)))
    (refuse_exact IsNothing test none) (λ ts left a r. token_begun test (λ t. IsPure (word_of t)) ts left a r) (λ ts left a r end. elim r [ ]))

pub worded_begun : (test : Terminal → Bool) (ts left : List Lexeme) (a : Word) → IsWorded test ts a → test (peek (ts ++ left)) ≡ true
worded_begun test _ left _ (a_word is) = is

abbrev pub a_worded : (test : Terminal → Bool) → test End ≡ false → (t : Lexeme) × (test (terminal t) ≡ true) → Piece Word nowhere none
a_worded test last t = record { read = worded test; rel = IsWorded test; wide = IsWorded test; exact = worded_exact test last; some = (t.0 ∷ [], word_of t.0, a_word t.1); here = (t.0 ∷ [], word_of t.0, a_word t.1); begins = test; begun = worded_begun test }

-- ---- what a terminal stands for

abbrev pub valued_at : {A O : Type 0} → (O → Lexeme → Reader A) → Option O → Reader A
valued_at f None = λ ts. stopped syntax ts
valued_at f (Some o) = λ ts. f o (front ts) (rest ts)

abbrev pub valued : {A O : Type 0} → (Terminal → Option O) → (O → Lexeme → Reader A) → Reader A
valued what f = λ ts. valued_at f (what (peek ts)) ts

pub data IsValued {A O : Type 0} (what : Terminal → Option O) (R : O → Lexeme → Rel A) : List Lexeme → A → Type 0 where
  a_value : {t : Lexeme} {o : O} {ts : List Lexeme} {a : A} → what (terminal t) ≡ Some o → R o t ts a → IsValued what R (t ∷ ts) a

module _ {A O : Type 0} (what : Terminal → Option O) (f : O → Lexeme → Reader A) (R V : O → Lexeme → Rel A) (g : Goes A) (last : what End ≡ None)
    (x : (o : O) (t : Lexeme) → Exact (f o t) (R o t) (V o t) nowhere g) (some : (o : O) (t : Lexeme) → Some_of (V o t)) (here : (o : O) (t : Lexeme) → Some_of (R o t)) where
  valued_sound : (ts left : List Lexeme) (a : A) (v : Option O) → what (peek ts) ≡ v → valued_at f v ts ≡ found a left → Read (IsValued what R) g ts left a
  valued_sound ts left a None is e = cc
  valued_sound [] left a (Some o) is e = cc (is, last)
  valued_sound (t ∷ us) left a (Some o) is e =
      let c = (x o t).sound us left a refl e in
      record { used = t ∷ c.used; cut = ap (λ l. t ∷ l) c.cut; is = a_value is c.is; ends = c.ends }

  valued_complete : (ts left : List Lexeme) (a : A) → IsValued what R ts a → g a (peek left) ≡ false → valued what f (ts ++ left) ≡ found a left
  valued_complete _ left a (a_value {t} {o} {ts} is r) end = ap (λ v. valued_at f v (t ∷ ts ++ left)) is ∙ (x o t).complete ts left a r end

  valued_goes_on : (o : O) (t : Lexeme) (pre : List Lexeme) → what (terminal t) ≡ Some o → CanGoOn (V o t) pre → CanGoOn (IsValued what V) (t ∷ pre)
  valued_goes_on o t pre is on = (on.0, on.1, a_value is on.2)

  valued_stops : (ts bad : List Lexeme) (w : Why) (v : Option O) → what (peek ts) ≡ v → valued_at f v ts ≡ stopped w bad → Stops (valued what f) (IsValued what V) w ts bad
  valued_stops ts bad w None is e =
      let same : ts ≡ bad = cc in let cause : syntax ≡ w = cc in
      record {
        pre = [];
        cut = same;
        viable = inl refl;
        only = λ other kind. ap (λ v. valued_at f v other) (ap what kind ∙ ap (λ l. what (peek l)) (sym same) ∙ is) ∙ ap (λ v. stopped v other) cause;
        deeper = λ deep. cc (deep, cause);
      }
  valued_stops [] bad w (Some o) is e = cc (is, last)
  valued_stops (t ∷ us) bad w (Some o) is e =
      let c = (x o t).stops us bad w refl e in
      record {
        pre = t ∷ c.pre;
        cut = ap (λ l. t ∷ l) c.cut;
        viable = inr (valued_goes_on o t c.pre is (some_goes_on (V o t) (some o t) c.pre c.viable));
        only = λ other same. ap (λ v. valued_at f v (t ∷ c.pre ++ other)) is ∙ c.only other same;
        deeper = λ deep. valued_goes_on o t (c.pre ++ front bad ∷ []) is (c.deeper deep);
      }

  valued_alive : (ts bad : List Lexeme) (w : Why) (v : Option O) → what (peek ts) ≡ v → valued_at f v ts ≡ stopped w bad → Begun (IsValued what R) w ts bad
  valued_alive ts bad w None is e = let cause : syntax ≡ w = cc in begun_none (IsValued what R) w ts bad (cc) (λ deep. cc (deep, cause))
  valued_alive [] bad w (Some o) is e = cc (is, last)
  valued_alive (t ∷ us) bad w (Some o) is e =
      let c = (x o t).alive us bad w refl e in
      let n = here o t in
      record {
        pre = t ∷ c.pre;
        cut = ap (λ l. t ∷ l) c.cut;
        live = live_behind (R o t) (IsValued what R) (t ∷ []) (λ pre on. (on.0, on.1, a_value is on.2)) (n.0, n.1, a_value is n.2) c.pre c.live;
        marks = c.marks;
      }

  valued_up : (ts : List Lexeme) (a : A) → IsValued what R ts a → IsValued what V ts a
  valued_up _ _ (a_value is r) = a_value is ((x _ _).up _ _ r)

  pub valued_exact : Exact (valued what f) (IsValued what R) (IsValued what V) nowhere g
  valued_exact = record {
    sound = λ ts left a start e. valued_sound ts left a (what (peek ts)) refl e;
    complete = valued_complete;
    stops = λ ts bad w start e. valued_stops ts bad w (what (peek ts)) refl e;
    up = valued_up;
    alive = λ ts bad w start e. valued_alive ts bad w (what (peek ts)) refl e;
  }

pub valued_begun : {A O : Type 0} (what : Terminal → Option O) (R : O → Lexeme → Rel A) (ts left : List Lexeme) (a : A) → IsValued what R ts a → has (what (peek (ts ++ left))) ≡ true
valued_begun what R _ left a (a_value is r) = ap has is

abbrev pub by_value : {A O : Type 0} {g : Goes A} (what : Terminal → Option O) → what End ≡ None → (o : O) (t : Lexeme) → what (terminal t) ≡ Some o → (inside : O → Lexeme → Piece A nowhere g) → Piece A nowhere g
by_value {g = g} what last o t is inside = record {
  read = valued what (λ o t. (inside o t).read);
  rel = IsValued what (λ o t. (inside o t).rel);
  wide = IsValued what (λ o t. (inside o t).wide);
  exact = valued_exact what (λ o t. (inside o t).read) (λ o t. (inside o t).rel) (λ o t. (inside o t).wide) g last (λ o t. (inside o t).exact) (λ o t. (inside o t).some) (λ o t. (inside o t).here);
  some = (t ∷ (inside o t).some.0, (inside o t).some.1, a_value is (inside o t).some.2);
  here = (t ∷ (inside o t).here.0, (inside o t).here.1, a_value is (inside o t).here.2);
  begins = λ k. has (what k);
  begun = valued_begun what (λ o t. (inside o t).rel);
}

-- ---- the same piece under another name, and repetitions

abbrev pub named : {A : Type 0} {s : Terminal → Bool} {g : Goes A} (q : Reader A) (piece : Piece A s g) → ((ts : List Lexeme) → q ts ≡ piece.read ts) → Piece A s g
named q piece same = record { read = q; rel = piece.rel; wide = piece.wide; exact = same_exact q same piece.exact; some = piece.some; here = piece.here; begins = piece.begins; begun = piece.begun }

abbrev pub renamed : {A : Type 0} {s : Terminal → Bool} {g : Goes A} (S W : Rel A) (piece : Piece A s g) → ((ts : List Lexeme) (a : A) → piece.rel ts a → S ts a) → ((ts : List Lexeme) (a : A) → S ts a → piece.rel ts a)
    → ((ts : List Lexeme) (a : A) → piece.wide ts a → W ts a) → Piece A s g
renamed S W piece to from wider = record {
  read = piece.read;
  rel = S;
  wide = W;
  exact = equal_exact S W to from wider piece.exact;
  some = (piece.some.0, piece.some.1, wider _ _ piece.some.2);
  here = (piece.here.0, piece.here.1, to _ _ piece.here.2);
  begins = piece.begins;
  begun = λ ts left a r. piece.begun ts left a (from ts a r);
}

-- a value made of what was read
pub data IsImage {A B : Type 0} (f : A → B) (R : Rel A) : List Lexeme → B → Type 0 where
  image : {ts : List Lexeme} {a : A} → R ts a → IsImage f R ts (f a)

to_image : {A B : Type 0} (f : A → B) (R : Rel A) (ts : List Lexeme) (b : B) → IsMap f R ts b → IsImage f R ts b
to_image f R _ b (both {ts = ts} {a = a} r nothing) = subst (λ l. IsImage f R l (f a)) (sym (append-nil ts)) (image r)

of_image : {A B : Type 0} (f : A → B) (R : Rel A) (ts : List Lexeme) (b : B) → IsImage f R ts b → IsMap f R ts b
of_image f R ts _ (image {a = a} r) = subst (λ l. IsMap f R l (f a)) (append-nil ts) (both r nothing)

pub image_exact : {A B : Type 0} (p : Reader A) (R V : Rel A) (f : A → B) (s : Terminal → Bool) (g : Goes A) (h : Goes B) → Exact p R V s g
    → ((a : A) (k : Terminal) → h (f a) k ≡ g a k) → Exact (p >>= (λ a. pure (f a))) (IsImage f R) (IsImage f V) s h
image_exact p R V f s g h x same = equal_exact (IsImage f R) (IsImage f V) (to_image f R) (of_image f R) (to_image f V) (map_exact p R V f s g h x same)

pub image_begun : {A B : Type 0} (f : A → B) (R : Rel A) (begins : Terminal → Bool) → ((ts left : List Lexeme) (a : A) → R ts a → begins (peek (ts ++ left)) ≡ true)
    → (ts left : List Lexeme) (b : B) → IsImage f R ts b → begins (peek (ts ++ left)) ≡ true
image_begun f R begins begun ts left _ (image {a = a} r) = begun ts left a r

abbrev pub mapped : {A B : Type 0} {s : Terminal → Bool} {g : Goes A} (f : A → B) (h : Goes B) (first : Piece A s g) → ((a : A) (k : Terminal) → h (f a) k ≡ g a k) → Piece B s h
mapped {s = s} {g = g} f h first same = record {
  read = first.read >>= (λ a. pure (f a));
  rel = IsImage f first.rel;
  wide = IsImage f first.wide;
  exact = image_exact first.read first.rel first.wide f s g h first.exact same;
  some = (first.some.0, f first.some.1, image first.some.2);
  here = (first.here.0, f first.here.1, image first.here.2);
  begins = first.begins;
  begun = image_begun f first.rel first.begins first.begun;
}

-- what is exact under a name of its own
abbrev pub made : {A : Type 0} {g : Goes A} (q : Reader A) (S W : Rel A) → Exact q S W nowhere g → Some_of W → Some_of S → Piece A nowhere g
made q S W exact some here = record { read = q; rel = S; wide = W; exact = exact; some = some; here = here; begins = anything; begun = λ ts left a r. refl }

-- items as long as one begins, where anything may follow an item
abbrev pub repeated : {X B : Type 0} (begins : Terminal → Bool) (join : X → B → X) (item : Way B (λ k. not (begins k)) none) → begins End ≡ false
    → ((k : Terminal) → item.begins k ≡ true → begins k ≡ true) → (x : X) → Piece X nowhere (λ y k. begins k || none y k)
repeated begins join item last heads x = record {
  read = many begins join item.read x;
  rel = IsMany join item.rel x;
  wide = IsMany join item.wide x;
  exact = many_exact begins join item.read item.rel item.wide none none item.exact item.some last (λ ts left b i. heads (peek (ts ++ left)) (item.begun ts left b i)) (λ x b k. refl) (λ b k e. refl) x;
  some = ([], x, no_more);
  here = ([], x, no_more);
  begins = anything;
  begun = λ ts left y r. refl;
}

-- ---- where one way or the other opens a construct

-- what is exact where such a terminal begins
abbrev pub at_test : {A : Type 0} {g : Goes A} (test : Terminal → Bool) (p : Reader A) (R V : Rel A) → Exact p R V (λ k. not (test k)) g → Some_of V
    → ((ts left : List Lexeme) (a : A) → R ts a → test (peek (ts ++ left)) ≡ true) → Way A (λ k. not (test k)) g
at_test test p R V exact some begun = record { read = p; rel = R; wide = V; exact = exact; some = some; begins = test; begun = begun }

-- a mark that opens a construct where none may open
abbrev pub barred_reader : {A : Type 0} → Terminal → Reader A
barred_reader k = choose (is k) (λ ts. stopped nesting ts) refuse

barred_none : {A : Type 0} (ts : List Lexeme) (a : A) → IsEither IsNothing IsNothing ts a → IsNothing ts a
barred_none ts a (one r) = r
barred_none ts a (other r) = r

pub barred_exact : {A : Type 0} (k : Terminal) (V : Lexeme → Rel A) (g : Goes A) → is k End ≡ false → opens_construct k ≡ true → ((t : Lexeme) → Some_of (V t)) → Exact (barred_reader k) IsNothing (IsMarked k V) nowhere g
barred_exact k V g real opens some = equal_exact IsNothing (IsMarked k V) barred_none (λ ts a r. elim r [ ]) (marked_of k V)
    (choose_exact (is k) (λ ts. stopped nesting ts) refuse IsNothing (IsToken (is k) V) IsNothing IsNothing g
    (limit_exact (is k) V g real (marks_of k opens) some) (refuse_exact IsNothing (is k) g) (λ ts left a r. elim r [ ]) (λ ts left a r end. elim r [ ]))

-- where it stops, it stops at once
pub barred_stops : {A : Type 0} (k : Terminal) (ts bad : List Lexeme) (w : Why) → barred_reader {A = A} k ts ≡ stopped w bad → ts ≡ bad
barred_stops {A = A} k ts bad w e = by_test (is k (peek ts)) e
  where
    by_test : (v : Bool) → cond {A = Got A} v (stopped nesting ts) (stopped syntax ts) ≡ stopped w bad → ts ≡ bad
    by_test true e = cc
    by_test false e = cc

-- passing such a mark, with room and without
pub opening_none : {A : Type 0} (k : Terminal) (f : ℕ → Reader A) (ts : List Lexeme) → and_then (opening k zero ts) f ≡ barred_reader k ts
unfolding opening
opening_none {A = A} k f ts = by_test (is k (peek ts))
  where
    by_test : (v : Bool) → and_then (cond v (stopped nesting ts) (stopped syntax ts)) f ≡ cond v (stopped nesting ts) (stopped syntax ts)
    by_test true = refl
    by_test false = refl

pub opening_some : {A : Type 0} (k : Terminal) (room : ℕ) (f : ℕ → Reader A) (ts : List Lexeme) → and_then (opening k (suc room) ts) f ≡ and_then (expect k ts) (λ _. f room)
unfolding opening expect
opening_some {A = A} k room f ts = by_test (is k (peek ts))
  where
    by_test : (v : Bool) → and_then (cond v (found room (rest ts)) (stopped syntax ts)) f ≡ and_then (cond v (take ts) (stopped syntax ts)) (λ _. f room)
    by_test true = refl
    by_test false = refl

-- the second way, where the first does not begin
pub second_exact : {A : Type 0} (test : Terminal → Bool) (p q : Reader A) (Q V : Rel A) (g : Goes A) → Exact q Q V test g
    → ((ts left : List Lexeme) (a : A) → Q ts a → g a (peek left) ≡ false → test (peek (ts ++ left)) ≡ false) → Exact (choose test p q) Q V test g
second_exact test p q Q V g x apart = record {
  sound = λ ts left a start e. x.sound ts left a start (sym (ap (λ v. cond v (p ts) (q ts)) start) ∙ e);
  complete = λ ts left a r end. ap (λ v. cond v (p (ts ++ left)) (q (ts ++ left))) (apart ts left a r end) ∙ x.complete ts left a r end;
  stops = λ ts bad w start e. (let c = x.stops ts bad w start (sym (ap (λ v. cond v (p ts) (q ts)) start) ∙ e) in
      record {
        pre = c.pre;
        cut = c.cut;
        viable = c.viable;
        deeper = c.deeper;
        only = λ other same. ap (λ v. cond v (p (c.pre ++ other)) (q (c.pre ++ other))) (ap test (peek_same c.pre other bad same) ∙ ap (λ l. test (peek l)) (sym c.cut) ∙ start) ∙ c.only other same;
      });
  up = x.up;
  alive = λ ts bad w start e. x.alive ts bad w start (sym (ap (λ v. cond v (p ts) (q ts)) start) ∙ e);
}
