-- From exact readers at each room to what is answered.
use Rattle.std.specs.Prelude.{Result, Ok, Err, false}
use Rattle.std.proofs.Common.{◌≡◌, ℕ, zero, suc, ◌+◌, List, [], ◌∷◌, ◌++◌, length, length-append, refl, sym, ◌∙◌, ap, subst, arith}
use Rattle.std.specs.Prelude.{◌⊎◌}
use Rattle.ac_lex.specs.Lexemes.{Lexeme}
use Rattle.ac_parse_grammar.specs.declared.cursor.Stop.{Stop}
use Rattle.ac_parse_grammar.specs.declared.cursor.Stop.TheVariants.{Syntax, Nesting, Memory}
use Rattle.ac_parse_grammar.specs.declared.terminal.Terminal.TheVariants.{End}
use Rattle.ac_parse_grammar.specs.ReaderCombinators.{Why, syntax, nesting, found, stopped, Reader, peek, front, Reads}
use Rattle.ac_parse_grammar.specs.Found.{Rel, Goes, CanGoOn, Begins, begins_whole, begins_to_keyword}
use Rattle.ac_parse_grammar.specs.GrammarAnswers.{AtAnyDepth, IsAnswer, IsOnly, FindsAll}
use Rattle.ac_parse_grammar.proofs.Exact.{Exact, Some_of, nowhere, some_goes_on, Live, no_token, going, at_keyword, Begun}
use Rattle.ac_parse_grammar.proofs.Deeper.{Agree, Deeper}
use Rattle.std.proofs.Common.{inl, inr}

-- what stands before one list is the same where the whole is
same_front : (pre other bad : List Lexeme) → pre ++ bad ≡ other ++ bad → pre ≡ other
same_front [] [] bad e = refl
same_front [] (t ∷ other) bad e = absurd (let longer : length bad ≡ suc (length (other ++ bad)) = ap length e in omega (arith, longer, length-append other bad))
same_front (t ∷ pre) [] bad e = absurd (let longer : suc (length (pre ++ bad)) ≡ length bad = ap length e in omega (arith, longer, length-append pre bad))
same_front (t ∷ pre) (u ∷ other) bad e =
    let head : t ≡ u = cc in
    let tail : pre ++ bad ≡ other ++ bad = cc in
    let rest : pre ≡ other = same_front pre other bad tail in
    λ i. head i ∷ rest i

-- what stands before the fault begins something within the room
begins_of : {A : Type 0} (R : Rel A) → Some_of R → (pre : List Lexeme) → Live R pre → Begins R pre
begins_of R some _ no_token = begins_whole (some.0, some.1, some.2)
begins_of R some pre (going on) = begins_whole on
begins_of R some _ (at_keyword pre k is before) = begins_to_keyword pre k is (some_goes_on R some pre before)

alive_at : {A : Type 0} (R : Rel A) → Some_of R → (w : Why) (old new pre : List Lexeme) → old ≡ pre ++ new → Begun R w old new → Begins R pre
alive_at R some w old new pre cut b = subst (λ l. Begins R l) (same_front b.pre pre new (sym b.cut ∙ cut)) (begins_of R some b.pre b.live)

module _ {A : Type 0} (p : ℕ → Reader A) (R : ℕ → Rel A) (goes : Goes A) (exact : (room : ℕ) → Exact (p room) (R room) (R (suc room)) nowhere goes)
    (deeper : (room : ℕ) → Deeper (p room) (p (suc room))) (some : (room : ℕ) → Some_of (R room)) where
  lift : (more room : ℕ) (ts : List Lexeme) (a : A) → R room ts a → R (more + room) ts a
  lift zero room ts a r = let same : 0 + room ≡ room = omega arith in subst (λ d. R d ts a) (sym same) r
  lift (suc more) room ts a r = let same : suc more + room ≡ suc (more + room) = omega arith in subst (λ d. R d ts a) (sym same) ((exact (more + room)).up ts a (lift more room ts a r))

  -- a syntax fault is one at each greater depth
  still_syntax : (more room : ℕ) (ts bad : List Lexeme) → p room ts ≡ stopped syntax bad → p (more + room) ts ≡ stopped syntax bad
  still_syntax zero room ts bad e = let same : 0 + room ≡ room = omega arith in subst (λ d. p d ts ≡ stopped syntax bad) (sym same) e
  still_syntax (suc more) room ts bad e =
      let same : suc more + room ≡ suc (more + room) = omega arith in
      subst (λ d. p d ts ≡ stopped syntax bad) (sym same) (by_answer (deeper (more + room) ts) (still_syntax more room ts bad e))
    where
      by_answer : Agree (p (more + room) ts) (p (suc (more + room)) ts) → p (more + room) ts ≡ stopped syntax bad → p (suc (more + room)) ts ≡ stopped syntax bad
      by_answer (inl h) got = sym h ∙ got
      by_answer (inr h) got = cc (h.1, got)

  at_some_depth : (room : ℕ) (pre : List Lexeme) → CanGoOn (R room) pre → CanGoOn (AtAnyDepth R) pre
  at_some_depth room pre on = (on.0, on.1, (room, on.2))

  dead_at : (room : ℕ) (why : Why) (pre other used left : List Lexeme) (a : A) → p room (pre ++ other) ≡ stopped why other → R room used a → goes a (peek left) ≡ false → pre ++ other ≡ used ++ left → ⊥
  dead_at room why pre other used left a only is end cut =
      let e : found a left ≡ stopped why other = sym ((exact room).complete used left a is end) ∙ ap (p room) (sym cut) ∙ only in cc (e)

  viable_at : (room : ℕ) (pre : List Lexeme) → (pre ≡ []) ⊎ CanGoOn (R (suc room)) pre → CanGoOn (AtAnyDepth R) pre
  viable_at room pre viable = at_some_depth (suc room) pre (some_goes_on (R (suc room)) (some (suc room)) pre viable)

  pub answer : (room : ℕ) (old new : List Lexeme) (r : Result A Stop) → Reads (λ a. a) (p room old) r new → IsAnswer R goes room old r new
  answer room old new (Ok a) h = (exact room).sound old new a refl h
  answer room old new (Err Syntax) h =
      let s = (exact room).stops old new syntax refl h in
      record {
        before = s.pre;
        cut = s.cut;
        alive = alive_at (R room) (some room) syntax old new s.pre s.cut ((exact room).alive old new syntax refl h);
        first = record {
          viable = viable_at room s.pre s.viable;
          dead = λ other used left a same is end cut.
              let flip : room + is.0 ≡ is.0 + room = omega arith in
              dead_at (is.0 + room) syntax s.pre other used left a (still_syntax is.0 room (s.pre ++ other) other (s.only other same))
              (subst (λ d. R d used a) flip (lift room is.0 used a is.1)) end cut;
        };
      }
  answer room old new (Err Nesting) h =
      let s = (exact room).stops old new nesting refl h in
      record {
        before = s.pre;
        cut = s.cut;
        alive = alive_at (R room) (some room) nesting old new s.pre s.cut ((exact room).alive old new nesting refl h);
        opens = ((exact room).alive old new nesting refl h).marks refl;
        first = record {
          viable = viable_at room s.pre s.viable;
          dead = λ other used left a same is end cut. dead_at room nesting s.pre other used left a (s.only other same) is end cut;
        };
        deeper = at_some_depth (suc room) (s.pre ++ front new ∷ []) (s.deeper refl);
      }
  answer room old new (Err (Memory fault)) h = tt

  pub finds : (room : ℕ) (old new : List Lexeme) (r : Result A Stop) → Reads (λ a. a) (p room old) r new → FindsAll (R room) goes old r new
  finds room old new r h left a begins = by_result r h
    where
      got : p room old ≡ found a left
      got = ap (p room) begins.cut ∙ (exact room).complete begins.used left a begins.is begins.ends

      by_result : (r : Result A Stop) → Reads (λ a. a) (p room old) r new → IsOnly a left r new
      by_result (Ok b) h = (cc (got, h), cc (got, h))
      by_result (Err Syntax) h = cc (got, h)
      by_result (Err Nesting) h = cc (got, h)
      by_result (Err (Memory fault)) h = tt

  -- tokens have one value at most
  pub only_one : (ts : List Lexeme) (a b : A) → AtAnyDepth R ts a → AtAnyDepth R ts b → goes a End ≡ false → goes b End ≡ false → a ≡ b
  only_one ts a b m n e f =
      let flip : m.0 + n.0 ≡ n.0 + m.0 = omega arith in
      let got_a : p (n.0 + m.0) (ts ++ []) ≡ found a [] = (exact (n.0 + m.0)).complete ts [] a (lift n.0 m.0 ts a m.1) e in
      let got_b : p (n.0 + m.0) (ts ++ []) ≡ found b [] = (exact (n.0 + m.0)).complete ts [] b (subst (λ d. R d ts b) flip (lift m.0 n.0 ts b n.1)) f in
      cc (got_a, got_b)
