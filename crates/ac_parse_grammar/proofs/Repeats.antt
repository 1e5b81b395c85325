-- A repetition of an operator and an item is exact where its item is.
use Rattle.std.specs.Prelude.{Bool, true, false, cond, not, Option, Some, None, ◌||◌}
use Rattle.std.proofs.Common.{◌≡◌, ℕ, zero, suc, List, [], ◌∷◌, ◌++◌, length, refl, sym, ◌∙◌, ap, subst, inr}
use Rattle.ac_lex.specs.Lexemes.{Lexeme}
use Rattle.ac_parse_grammar.specs.declared.terminal.Terminal.{Terminal}
use Rattle.ac_parse_grammar.specs.declared.terminal.Terminal.TheVariants.{End}
use Rattle.ac_parse_grammar.specs.Terminals.{terminal}
use Rattle.ac_parse_grammar.specs.ReaderCombinators.{Why, syntax, Got, found, stopped, Reader, and_then, pure, peek, front, rest, operator, operator_at, turn, repeat_from, repeat, many_from, many}
use Rattle.ac_parse_grammar.specs.Found.{Rel, Goes, Read, CanGoOn, Stops}
use Rattle.ac_parse_grammar.proofs.Exact.{Exact, Some_of, some_goes_on, Begun, live_behind}
use Rattle.ac_parse_grammar.proofs.Many.{IsMany, many_exact, many_next}
use Rattle.ac_parse_grammar.proofs.Parts.{same_exact}

abbrev pub has : {O : Type 0} → Option O → Bool
has None = false
has (Some o) = true

-- an operator and an item
pub data IsLinked {O B : Type 0} (what : Terminal → Option O) (Item : Rel B) : List Lexeme → O × B → Type 0 where
  linked : {t : Lexeme} {ts : List Lexeme} {o : O} {b : B} → what (terminal t) ≡ Some o → Item ts b → IsLinked what Item (t ∷ ts) (o, b)

abbrev pub join_linked : {X O B : Type 0} → (X → O → B → X) → X → O × B → X
join_linked join x ob = join x ob.0 ob.1

-- { operator item }
abbrev pub IsRepeat : {X O B : Type 0} → (Terminal → Option O) → (X → O → B → X) → Rel B → X → Rel X
IsRepeat what join Item = IsMany (join_linked join) (IsLinked what Item)

abbrev pub pairing : {O B : Type 0} → O → B → Reader (O × B)
pairing o b = pure (o, b)

unfoldable pub linked_at : {O B : Type 0} → Reader B → Option O → Reader (O × B)
linked_at item None = λ ts. stopped syntax ts
linked_at item (Some o) = λ ts. and_then (item (rest ts)) (pairing o)

abbrev pub linking : {O B : Type 0} → (Terminal → Option O) → Reader B → Reader (O × B)
linking what item = λ ts. linked_at item (what (peek ts)) ts

-- the two ways to say the repetition
as_many : {X O B : Type 0} (what : Terminal → Option O) (join : X → O → B → X) (item : Reader B) (n : ℕ) (x : X) (ts : List Lexeme)
    → repeat_from what join item n x ts ≡ many_from (λ k. has (what k)) (join_linked join) (linking what item) n x ts
unfolding repeat_from many_from operator linked_at
as_many what join item zero x ts = refl
as_many {X = X} {O = O} {B = B} what join item (suc n) x ts = by_next (what (peek ts)) (as_many what join item n)
  where
    by_item : (o : O) (r : Got B) → ((y : X) (us : List Lexeme) → repeat_from what join item n y us ≡ many_from (λ k. has (what k)) (join_linked join) (linking what item) n y us)
        → and_then r (λ b. repeat_from what join item n (join x o b)) ≡ and_then (and_then r (pairing o)) (λ ob. many_from (λ k. has (what k)) (join_linked join) (linking what item) n (join x ob.0 ob.1))
    by_item o (found b us) ih = ih (join x o b) us
    by_item o (stopped w bad) ih = refl

    by_next : (v : Option O) → ((y : X) (us : List Lexeme) → repeat_from what join item n y us ≡ many_from (λ k. has (what k)) (join_linked join) (linking what item) n y us)
        → and_then (operator_at v ts) (turn join item (repeat_from what join item n) x)
        ≡ cond (has v) (and_then (linked_at item v ts) (λ ob. many_from (λ k. has (what k)) (join_linked join) (linking what item) n (join x ob.0 ob.1))) (found x ts)
    by_next None ih = refl
    by_next (Some o) ih = by_item o (item (rest ts)) ih

module _ {O B : Type 0} (what : Terminal → Option O) (item : Reader B) (Item V : Rel B) (g : B → Terminal → Bool)
    (one : Exact item Item V (λ _. false) g) (some : Some_of V) (here : Some_of Item) (last : what End ≡ None) where
  abbrev begins : Terminal → Bool
  begins k = has (what k)

  linked_goes_on : (t : Lexeme) (o : O) (pre : List Lexeme) → what (terminal t) ≡ Some o → CanGoOn V pre → CanGoOn (IsLinked what V) (t ∷ pre)
  linked_goes_on t o pre is on = (on.0, (o, on.1), linked is on.2)

  linked_sound : (ts left : List Lexeme) (a : O × B) (v : Option O) → what (peek ts) ≡ v → linked_at item v ts ≡ found a left → Read (IsLinked what Item) (λ a. g a.1) ts left a
  unfolding linked_at
  linked_sound ts left a None is e = cc
  linked_sound [] left a (Some o) is e = cc (is, last)
  linked_sound (t ∷ us) left a (Some o) is e = by_item (item us) refl e
    where
      by_item : (r : Got B) → item us ≡ r → and_then r (pairing o) ≡ found a left → Read (IsLinked what Item) (λ a. g a.1) (t ∷ us) left a
      by_item (found b mid) got e =
          let c = one.sound us mid b refl got in
          let same : (o, b) ≡ a = cc (e) in let empty : mid ≡ left = cc (e) in
          subst (λ a. Read (IsLinked what Item) (λ a. g a.1) (t ∷ us) left a) same
          (record { used = t ∷ c.used; cut = ap (λ l. t ∷ l) (c.cut ∙ ap (λ l. c.used ++ l) empty); is = linked is c.is; ends = ap (λ l. g b (peek l)) (sym empty) ∙ c.ends })
      by_item (stopped w bad) got e = cc (e)

  linked_complete : (ts left : List Lexeme) (a : O × B) → IsLinked what Item ts a → g a.1 (peek left) ≡ false → linking what item (ts ++ left) ≡ found a left
  unfolding linked_at
  linked_complete _ left _ (linked {t} {ts} {o} {b} is i) end =
      ap (λ v. linked_at item v (t ∷ ts ++ left)) is ∙ ap (λ r. and_then r (pairing o)) (one.complete ts left b i end)

  linked_stops : (ts bad : List Lexeme) (w : Why) (v : Option O) → has v ≡ true → what (peek ts) ≡ v → linked_at item v ts ≡ stopped w bad → Stops (linking what item) (IsLinked what V) w ts bad
  unfolding linked_at
  linked_stops ts bad w None begin is e = cc (begin)
  linked_stops [] bad w (Some o) begin is e = cc (is, last)
  linked_stops (t ∷ us) bad w (Some o) begin is e = by_item (item us) refl e
    where
      by_item : (r : Got B) → item us ≡ r → and_then r (pairing o) ≡ stopped w bad → Stops (linking what item) (IsLinked what V) w (t ∷ us) bad
      by_item (found b mid) got e = cc (e)
      by_item (stopped w' bad') got e =
          let c = one.stops us bad w refl (got ∙ cc (e)) in
          record {
            pre = t ∷ c.pre;
            cut = ap (λ l. t ∷ l) c.cut;
            viable = inr (linked_goes_on t o c.pre is (some_goes_on V some c.pre c.viable));
            only = λ other same. ap (λ v. linked_at item v (t ∷ c.pre ++ other)) is ∙ ap (λ r. and_then r (pairing o)) (c.only other same);
            deeper = λ deep. linked_goes_on t o (c.pre ++ front bad ∷ []) is (c.deeper deep);
          }

  linked_up : (ts : List Lexeme) (a : O × B) → IsLinked what Item ts a → IsLinked what V ts a
  linked_up _ _ (linked is i) = linked is (one.up _ _ i)

  linked_alive : (ts bad : List Lexeme) (w : Why) (v : Option O) → has v ≡ true → what (peek ts) ≡ v → linked_at item v ts ≡ stopped w bad → Begun (IsLinked what Item) w ts bad
  unfolding linked_at
  linked_alive ts bad w None begin is e = cc (begin)
  linked_alive [] bad w (Some o) begin is e = cc (is, last)
  linked_alive (t ∷ us) bad w (Some o) begin is e = by_item (item us) refl e
    where
      by_item : (r : Got B) → item us ≡ r → and_then r (pairing o) ≡ stopped w bad → Begun (IsLinked what Item) w (t ∷ us) bad
      by_item (found b mid) got e = cc (e)
      by_item (stopped w' bad') got e =
          let c = one.alive us bad w refl (got ∙ cc (e)) in
          record {
            pre = t ∷ c.pre;
            cut = ap (λ l. t ∷ l) c.cut;
            live = live_behind Item (IsLinked what Item) (t ∷ []) (λ pre on. (on.0, (o, on.1), linked is on.2)) (here.0, (o, here.1), linked is here.2) c.pre c.live;
            marks = c.marks;
          }

  begun : (v : Bool) → not v ≡ false → v ≡ true
  begun true e = refl
  begun false e = cc

  pub linked_exact : Exact (linking what item) (IsLinked what Item) (IsLinked what V) (λ k. not (begins k)) (λ a. g a.1)
  linked_exact = record {
    sound = λ ts left a start e. linked_sound ts left a (what (peek ts)) refl e;
    complete = linked_complete;
    stops = λ ts bad w start e. linked_stops ts bad w (what (peek ts)) (begun _ start) refl e;
    up = linked_up;
    alive = λ ts bad w start e. linked_alive ts bad w (what (peek ts)) (begun _ start) refl e;
  }

  pub linked_heads : (ts left : List Lexeme) (a : O × B) → IsLinked what Item ts a → begins (peek (ts ++ left)) ≡ true
  linked_heads _ left _ (linked is i) = ap has is

module _ {X O B : Type 0} (what : Terminal → Option O) (join : X → O → B → X) (item : Reader B) (Item V : Rel B) (g : B → Terminal → Bool) (after : Goes X)
    (one : Exact item Item V (λ _. false) g) (some : Some_of V) (here : Some_of Item) (last : what End ≡ None) (operator : Lexeme) (o : O) (is : what (terminal operator) ≡ Some o)
    (joined : (x : X) (o : O) (b : B) (k : Terminal) → after (join x o b) k ≡ g b k)
    (apart : (b : B) (k : Terminal) → has (what k) ≡ true → g b k ≡ false) where
  abbrev pub repeat_goes : Goes X
  repeat_goes x k = has (what k) || after x k

  pub repeat_exact : (x : X) → Exact (repeat what join item x) (IsRepeat what join Item x) (IsRepeat what join V x) (after x) repeat_goes
  unfolding repeat many
  repeat_exact x = same_exact (repeat what join item x) (λ ts. as_many what join item (length ts) x ts)
      (many_exact (λ k. has (what k)) (join_linked join) (linking what item) (IsLinked what Item) (IsLinked what V) (λ a. g a.1) after
      (linked_exact what item Item V g one some here last) (operator ∷ some.0, (o, some.1), linked is some.2) (ap has last)
      (linked_heads what item Item V g one some here last) (λ x a k. joined x a.0 a.1 k) (λ a k. apart a.1 k) x)

  -- what follows something before a repetition
  pub repeat_next : {x y : X} (ts left : List Lexeme) → IsRepeat what join Item x ts y → repeat_goes y (peek left) ≡ false → (before : Terminal → Bool)
      → ((k : Terminal) → after x k ≡ false → before k ≡ false) → ((k : Terminal) → has (what k) ≡ true → before k ≡ false) → before (peek (ts ++ left)) ≡ false
  repeat_next ts left r end before same off = many_next (λ k. has (what k)) (join_linked join) (linking what item) (IsLinked what Item) (IsLinked what V) (λ a. g a.1) after
      (linked_exact what item Item V g one some here last) (operator ∷ some.0, (o, some.1), linked is some.2) (ap has last)
      (linked_heads what item Item V g one some here last) (λ x a k. joined x a.0 a.1 k) (λ a k. apart a.1 k) ts left r end before same off
