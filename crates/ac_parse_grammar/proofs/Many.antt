-- A repetition that goes on as long as an item begins is exact where its item is.
use Rattle.std.specs.Prelude.{Bool, true, false, cond, not, ◌||◌}
use Rattle.std.proofs.Common.{◌≡◌, ℕ, zero, suc, ◌≤◌, ◌<◌, List, [], ◌∷◌, ◌++◌, length, refl, sym, ◌∙◌, ap, subst, inr, append_assoc, arith, length-append}
use Rattle.std.proofs.lemmas.List.{append-nil}
use Rattle.ac_lex.specs.Lexemes.{Lexeme}
use Rattle.ac_parse_grammar.specs.declared.terminal.Terminal.{Terminal}
use Rattle.ac_parse_grammar.specs.declared.terminal.Terminal.TheVariants.{End}
use Rattle.ac_parse_grammar.specs.ReaderCombinators.{Why, nesting, Got, found, stopped, Reader, and_then, peek, front, many_from, many}
use Rattle.ac_parse_grammar.specs.Found.{Rel, Goes, Read, CanGoOn}
use Rattle.ac_parse_grammar.proofs.Exact.{Exact, Some_of, peek_same, some_goes_on, Begun, live_behind, begun_same}

-- { item }: each item is joined to what stood before it
pub data IsMany {X B : Type 0} (join : X → B → X) (Item : Rel B) : X → List Lexeme → X → Type 0 where
  no_more : {x : X} → IsMany join Item x [] x
  one_more : {x y : X} {b : B} {ts us : List Lexeme} → Item ts b → IsMany join Item (join x b) us y → IsMany join Item x (ts ++ us) y

or_split : (a b : Bool) → (a || b) ≡ false → (a ≡ false) × (b ≡ false)
or_split false b e = (refl, e)
or_split true b e = cc

or_join : (a b : Bool) → a ≡ false → b ≡ false → (a || b) ≡ false
or_join a b e f = rw (e, f) refl

-- how a repetition stops, at any bound that is enough
record Halts {X B : Type 0} (begins : Terminal → Bool) (join : X → B → X) (item : Reader B) (Item : Rel B) (x : X) (w : Why) (ts bad : List Lexeme) : Type 0 where
  pre : List Lexeme
  cut : ts ≡ pre ++ bad
  viable : CanGoOn (IsMany join Item x) pre
  only : (other : List Lexeme) (n : ℕ) → length (pre ++ other) ≤ n → peek other ≡ peek bad → many_from begins join item n x (pre ++ other) ≡ stopped w other
  deeper : w ≡ nesting → CanGoOn (IsMany join Item x) (pre ++ front bad ∷ [])

module _ {X B : Type 0} (begins : Terminal → Bool) (join : X → B → X) (item : Reader B) (Item V : Rel B) (g : Goes B) (after : Goes X)
    (one : Exact item Item V (λ k. not (begins k)) g) (some : Some_of V) (last : begins End ≡ false)
    (heads : (ts left : List Lexeme) (b : B) → Item ts b → begins (peek (ts ++ left)) ≡ true)
    (joined : (x : X) (b : B) (k : Terminal) → after (join x b) k ≡ g b k)
    (apart : (b : B) (k : Terminal) → begins k ≡ true → g b k ≡ false) where
  abbrev pub goes : Goes X
  goes x k = begins k || after x k

  abbrev reads : ℕ → X → Reader X
  reads n x = many_from begins join item n x

  starting : (k : Terminal) → begins k ≡ true → not (begins k) ≡ false
  starting k e = ap not e

  -- an item takes a token at least
  takes : (ts : List Lexeme) (b : B) → Item ts b → 0 < length ts
  takes [] b i = cc (heads [] [] b i, last)
  takes (t ∷ ts) b i = omega arith

  -- what follows something before a repetition
  pub many_next : {x y : X} (ts left : List Lexeme) → IsMany join Item x ts y → goes y (peek left) ≡ false → (before : Terminal → Bool)
      → ((k : Terminal) → after x k ≡ false → before k ≡ false) → ((k : Terminal) → begins k ≡ true → before k ≡ false) → before (peek (ts ++ left)) ≡ false
  many_next _ left no_more end before same off = same _ (or_split _ _ end).1
  many_next _ left (one_more {b = c} {ts = ts} {us = us} i more) end before same off =
      off _ (ap (λ l. begins (peek l)) (append_assoc ts us left) ∙ heads ts (us ++ left) c i)

  turn_at : (n : ℕ) (x : X) (ts : List Lexeme) → begins (peek ts) ≡ true → reads (suc n) x ts ≡ and_then (item ts) (λ b. reads n (join x b))
  unfolding many_from
  turn_at n x ts is = ap (λ v. cond v (and_then (item ts) (λ b. reads n (join x b))) (found x ts)) is

  end_at : (n : ℕ) (x : X) (ts : List Lexeme) → begins (peek ts) ≡ false → reads n x ts ≡ found x ts
  unfolding many_from
  end_at zero x ts is = refl
  end_at (suc n) x ts is = ap (λ v. cond v (and_then (item ts) (λ b. reads n (join x b))) (found x ts)) is

  abbrev Sound : ℕ → Type 0
  Sound n = (x y : X) (ts left : List Lexeme) → length ts ≤ n → after x (peek ts) ≡ false → reads n x ts ≡ found y left → Read (IsMany join Item x) goes ts left y

  sound_item : (n : ℕ) → Sound n → (x y : X) (ts left : List Lexeme) → length ts ≤ suc n → begins (peek ts) ≡ true
      → (r : Got B) → item ts ≡ r → and_then r (λ b. reads n (join x b)) ≡ found y left → Read (IsMany join Item x) goes ts left y
  sound_item n ih x y ts left fits begin (found b mid) got e =
      let a = one.sound ts mid b (starting _ begin) got in
      let some : 0 < length a.used = takes a.used b a.is in
      let short : length mid ≤ n = omega (arith, length-append a.used mid, ap length a.cut) in
      let c = ih (join x b) y mid left short (joined x b (peek mid) ∙ a.ends) e in
      record {
        used = a.used ++ c.used;
        cut = a.cut ∙ ap (λ l. a.used ++ l) c.cut ∙ sym (append_assoc a.used c.used left);
        is = one_more a.is c.is;
        ends = c.ends;
      }
  sound_item n ih x y ts left fits begin (stopped w bad) got e = cc

  sound_end : (n : ℕ) (x y : X) (ts left : List Lexeme) → after x (peek ts) ≡ false → begins (peek ts) ≡ false → reads n x ts ≡ found y left → Read (IsMany join Item x) goes ts left y
  sound_end n x y ts left start is e =
      let at : found x ts ≡ found y left = sym (end_at n x ts is) ∙ e in
      let same : x ≡ y = cc (at) in let empty : ts ≡ left = cc (at) in
      record {
        used = [];
        cut = empty;
        is = subst (λ z. IsMany join Item x [] z) same no_more;
        ends = or_join _ _ (ap (λ l. begins (peek l)) (sym empty) ∙ is) (ap (λ z. after z (peek left)) (sym same) ∙ ap (λ l. after x (peek l)) (sym empty) ∙ start);
      }

  sound_next : (n : ℕ) → Sound n → (x y : X) (ts left : List Lexeme) → length ts ≤ suc n → after x (peek ts) ≡ false
      → (v : Bool) → begins (peek ts) ≡ v → reads (suc n) x ts ≡ found y left → Read (IsMany join Item x) goes ts left y
  sound_next n ih x y ts left fits start false is e = sound_end (suc n) x y ts left start is e
  sound_next n ih x y ts left fits start true is e = sound_item n ih x y ts left fits is (item ts) refl (sym (turn_at n x ts is) ∙ e)

  reads_sound : (n : ℕ) → Sound n
  reads_sound zero x y [] left fits start e = sound_end zero x y [] left start last e
  reads_sound zero x y (t ∷ us) left fits start e = absurd (omega arith)
  reads_sound (suc n) x y ts left fits start e = sound_next n (reads_sound n) x y ts left fits start (begins (peek ts)) refl e

  -- where the items begin, there is a turn
  at_turn : (n : ℕ) (x : X) (ts : List Lexeme) (r : Got X) → begins (peek ts) ≡ true → length ts ≤ n
      → ((m : ℕ) → length ts ≤ suc m → and_then (item ts) (λ b. reads m (join x b)) ≡ r) → reads n x ts ≡ r
  at_turn zero x [] r begin fits then = cc (begin, last)
  at_turn zero x (t ∷ ts) r begin fits then = absurd (omega arith)
  at_turn (suc n) x ts r begin fits then = turn_at n x ts begin ∙ then n fits

  reads_complete : {x y : X} {ts : List Lexeme} → IsMany join Item x ts y → (n : ℕ) (left : List Lexeme) → length (ts ++ left) ≤ n → goes y (peek left) ≡ false → reads n x (ts ++ left) ≡ found y left
  reads_complete no_more n left fits end = end_at n _ left (or_split _ _ end).0
  reads_complete (one_more {x} {y} {b} {ts} {us} i more) n left fits end =
      let flat = append_assoc ts us left in
      let some : 0 < length ts = takes ts b i in
      ap (reads n x) flat
      ∙ at_turn n x (ts ++ (us ++ left)) (found y left) (heads ts (us ++ left) b i) (omega (arith, ap length flat))
      (λ m fits. ap (λ r. and_then r (λ b. reads m (join x b))) (one.complete ts (us ++ left) b i (many_next us left more end (g b) (λ k e. sym (joined x b k) ∙ e) (apart b)))
      ∙ reads_complete more m left (omega (arith, length-append ts (us ++ left))) end)

  one_goes_on : (x : X) (pre : List Lexeme) → CanGoOn V pre → CanGoOn (IsMany join V x) pre
  one_goes_on x pre on = (on.0, join x on.1, subst (λ l. IsMany join V x l (join x on.1)) (append-nil (pre ++ on.0)) (one_more on.2 no_more))

  more_goes_on : (x : X) (b : B) (used pre : List Lexeme) → V used b → CanGoOn (IsMany join V (join x b)) pre → CanGoOn (IsMany join V x) (used ++ pre)
  more_goes_on x b used pre is on = (on.0, on.1, subst (λ l. IsMany join V x l on.1) (sym (append_assoc used pre on.0)) (one_more is on.2))

  abbrev Halting : ℕ → Type 0
  Halting n = (x : X) (ts bad : List Lexeme) (w : Why) → length ts ≤ n → reads n x ts ≡ stopped w bad → Halts begins join item V x w ts bad

  still : (pre ts bad other : List Lexeme) → ts ≡ pre ++ bad → peek other ≡ peek bad → begins (peek ts) ≡ true → begins (peek (pre ++ other)) ≡ true
  still pre ts bad other cut same begin = ap begins (peek_same pre other bad same) ∙ ap (λ l. begins (peek l)) (sym cut) ∙ begin

  halts_item : (n : ℕ) → Halting n → (x : X) (w : Why) (ts bad : List Lexeme) → length ts ≤ suc n → begins (peek ts) ≡ true
      → (r : Got B) → item ts ≡ r → and_then r (λ b. reads n (join x b)) ≡ stopped w bad → Halts begins join item V x w ts bad
  halts_item n ih x w ts bad fits begin (stopped v bad') got e =
      let a = one.stops ts bad w (starting _ begin) (got ∙ cc) in
      record {
        pre = a.pre;
        cut = a.cut;
        viable = one_goes_on x a.pre (some_goes_on V some a.pre a.viable);
        only = λ other m fits same. at_turn m x (a.pre ++ other) (stopped w other) (still a.pre ts bad other a.cut same begin) fits
            (λ m fits. ap (λ r. and_then r (λ b. reads m (join x b))) (a.only other same));
        deeper = λ deep. one_goes_on x (a.pre ++ front bad ∷ []) (a.deeper deep);
      }
  halts_item n ih x w ts bad fits begin (found b mid) got e =
      let a = one.sound ts mid b (starting _ begin) got in
      let takes : 0 < length a.used = takes a.used b a.is in
      let short : length mid ≤ n = omega (arith, length-append a.used mid, ap length a.cut) in
      let c = ih (join x b) mid bad w short e in
      let flat = λ (other : List Lexeme). append_assoc a.used c.pre other in
      let cut : ts ≡ (a.used ++ c.pre) ++ bad = a.cut ∙ ap (λ l. a.used ++ l) c.cut ∙ sym (flat bad) in
      record {
        pre = a.used ++ c.pre;
        cut = cut;
        viable = more_goes_on x b a.used c.pre (one.up _ _ a.is) c.viable;
        only = λ other m fits same. at_turn m x ((a.used ++ c.pre) ++ other) (stopped w other) (still (a.used ++ c.pre) ts bad other cut same begin) fits
            (λ m fits.
            let ends : g b (peek (c.pre ++ other)) ≡ false = ap (g b) (peek_same c.pre other bad same) ∙ ap (λ l. g b (peek l)) (sym c.cut) ∙ a.ends in
            ap (λ l. and_then (item l) (λ b. reads m (join x b))) (flat other)
            ∙ ap (λ r. and_then r (λ b. reads m (join x b))) (one.complete a.used (c.pre ++ other) b a.is ends)
            ∙ c.only other m (omega (arith, ap length (flat other), length-append a.used (c.pre ++ other))) same);
        deeper = λ deep. subst (λ l. CanGoOn (IsMany join V x) l) (sym (append_assoc a.used c.pre (front bad ∷ [])))
            (more_goes_on x b a.used (c.pre ++ front bad ∷ []) (one.up _ _ a.is) (c.deeper deep));
      }

  halts_next : (n : ℕ) → Halting n → (x : X) (w : Why) (ts bad : List Lexeme) → length ts ≤ suc n
      → (v : Bool) → begins (peek ts) ≡ v → reads (suc n) x ts ≡ stopped w bad → Halts begins join item V x w ts bad
  halts_next n ih x w ts bad fits false is e = let at : found x ts ≡ stopped w bad = sym (end_at (suc n) x ts is) ∙ e in cc (at)
  halts_next n ih x w ts bad fits true is e = halts_item n ih x w ts bad fits is (item ts) refl (sym (turn_at n x ts is) ∙ e)

  reads_halts : (n : ℕ) → Halting n
  unfolding many_from
  reads_halts zero x ts bad w fits e = cc
  reads_halts (suc n) x ts bad w fits e = halts_next n (reads_halts n) x w ts bad fits (begins (peek ts)) refl e

  item_goes_on : (x : X) (pre : List Lexeme) → CanGoOn Item pre → CanGoOn (IsMany join Item x) pre
  item_goes_on x pre on = (on.0, join x on.1, subst (λ l. IsMany join Item x l (join x on.1)) (append-nil (pre ++ on.0)) (one_more on.2 no_more))

  items_go_on : (x : X) (b : B) (used pre : List Lexeme) → Item used b → CanGoOn (IsMany join Item (join x b)) pre → CanGoOn (IsMany join Item x) (used ++ pre)
  items_go_on x b used pre is on = (on.0, on.1, subst (λ l. IsMany join Item x l on.1) (sym (append_assoc used pre on.0)) (one_more is on.2))

  abbrev Living : ℕ → Type 0
  Living n = (x : X) (ts bad : List Lexeme) (w : Why) → length ts ≤ n → reads n x ts ≡ stopped w bad → Begun (IsMany join Item x) w ts bad

  alive_item : (n : ℕ) → Living n → (x : X) (w : Why) (ts bad : List Lexeme) → length ts ≤ suc n → begins (peek ts) ≡ true
      → (r : Got B) → item ts ≡ r → and_then r (λ b. reads n (join x b)) ≡ stopped w bad → Begun (IsMany join Item x) w ts bad
  alive_item n ih x w ts bad fits begin (stopped v bad') got e = begun_same Item (IsMany join Item x) (item_goes_on x) w ts bad (one.alive ts bad w (starting _ begin) (got ∙ cc))
  alive_item n ih x w ts bad fits begin (found b mid) got e =
      let a = one.sound ts mid b (starting _ begin) got in
      let takes : 0 < length a.used = takes a.used b a.is in
      let short : length mid ≤ n = omega (arith, length-append a.used mid, ap length a.cut) in
      let c = ih (join x b) mid bad w short e in
      record {
        pre = a.used ++ c.pre;
        cut = a.cut ∙ ap (λ l. a.used ++ l) c.cut ∙ sym (append_assoc a.used c.pre bad);
        live = live_behind (IsMany join Item (join x b)) (IsMany join Item x) a.used (λ pre on. items_go_on x b a.used pre a.is on) (items_go_on x b a.used [] a.is ([], join x b, no_more)) c.pre c.live;
        marks = c.marks;
      }

  alive_next : (n : ℕ) → Living n → (x : X) (w : Why) (ts bad : List Lexeme) → length ts ≤ suc n
      → (v : Bool) → begins (peek ts) ≡ v → reads (suc n) x ts ≡ stopped w bad → Begun (IsMany join Item x) w ts bad
  alive_next n ih x w ts bad fits false is e = let at : found x ts ≡ stopped w bad = sym (end_at (suc n) x ts is) ∙ e in cc (at)
  alive_next n ih x w ts bad fits true is e = alive_item n ih x w ts bad fits is (item ts) refl (sym (turn_at n x ts is) ∙ e)

  reads_alive : (n : ℕ) → Living n
  unfolding many_from
  reads_alive zero x ts bad w fits e = cc
  reads_alive (suc n) x ts bad w fits e = alive_next n (reads_alive n) x w ts bad fits (begins (peek ts)) refl e

  pub many_up : {x : X} (ts : List Lexeme) (y : X) → IsMany join Item x ts y → IsMany join V x ts y
  many_up _ _ no_more = no_more
  many_up _ _ (one_more i more) = one_more (one.up _ _ i) (many_up _ _ more)

  pub many_exact : (x : X) → Exact (many begins join item x) (IsMany join Item x) (IsMany join V x) (after x) goes
  unfolding many
  many_exact x = record {
    sound = λ ts left y start e. reads_sound (length ts) x y ts left (omega arith) start e;
    complete = λ ts left y r end. reads_complete r (length (ts ++ left)) left (omega arith) end;
    stops = λ ts bad w start e. (let h = reads_halts (length ts) x ts bad w (omega arith) e in
        record { pre = h.pre; cut = h.cut; viable = inr h.viable; only = λ other same. h.only other (length (h.pre ++ other)) (omega arith) same; deeper = h.deeper });
    up = many_up;
    alive = λ ts bad w start e. reads_alive (length ts) x ts bad w (omega arith) e;
  }
