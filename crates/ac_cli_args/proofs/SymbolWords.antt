-- Symbols have as many bytes as a name may have, and a word lists symbols if its texts are some.
use Rattle.std.proofs.Common.{◌≡◌, ◌≤◌, ◌<◌, ◌&&◌, ◌||◌, ℕ, Bool, true, false, true≢false, if◌then◌else◌, List, [], ◌∷◌, length, refl, sym, ap, subst, ◌∙◌, arith}
use Rattle.std.specs.Prelude.{codes, nat_eq, nat_lt, nat_le, not}
use Rattle.std.specs.List.{AllByRecursion, list_all}
use Rattle.std.specs.Cmp.Lexicographic.{pointwise}
use Rattle.std.proofs.lemmas.Bool.Decides.{nat_tests}
use Rattle.ac_lex.specs.declared.tokens.TokenKind.TheVariants as token
use Rattle.ac_parse_grammar.specs.Terminals.{is_name, look_up, terminal_by, words}
use Rattle.ac_parse_grammar.specs.declared.terminal.Terminal.TheVariants as t
use Rattle.ac_cli_args.specs.SymbolLists.{is_word, is_free_name, is_symbol, are_different, listed_in, IsSymbolList, IsTold, FitsAName}

both : (a b : Bool) → (a && b) ≡ true → (a ≡ true) × (b ≡ true)
both true b h = (refl, h)
both false b h = absurd cc

three : (a b c : Bool) → a ≡ true → b ≡ true → c ≡ true → ((a && b) && c) ≡ true
three a b c h k m = λ i. (h i && k i) && m i

never : (a : Bool) → (a && false) ≡ true → ⊥
never true h = cc
never false h = cc

one_byte : (m : ℕ) (x : List ℕ) → pointwise nat_eq x (m ∷ []) ≡ true → FitsAName x
one_byte m [] h = absurd cc
one_byte m (b ∷ []) h = (omega arith, omega arith)
one_byte m (b ∷ c ∷ rest) h = absurd (never (nat_eq b m) h)

word_fits : (x : List ℕ) → is_name (terminal_by token.Word x) ≡ true → FitsAName x
word_fits x h = by (nat_lt 0 (length x)) (nat_le (length x) 64) refl refl h
  where
    by : (a b : Bool) → nat_lt 0 (length x) ≡ a → nat_le (length x) 64 ≡ b → is_name (if a && b then look_up words x t.Name else t.Other) ≡ true → FitsAName x
    by true true p q k = ((let l : 0 < length x = grind (arith, nat_tests, p) in l), (let l : length x ≤ 64 = grind (arith, nat_tests, q) in l))
    by true false p q k = absurd cc
    by false b p q k = absurd cc

name_fits : (x : List ℕ) → is_free_name x ≡ true → FitsAName x
name_fits x h =
    word_fits x (both (is_word x) (is_name (terminal_by token.Word x)) h).1

symbol_fits : (x : List ℕ) → is_symbol x ≡ true → FitsAName x
symbol_fits x h = by (pointwise nat_eq x (codes "+")) (pointwise nat_eq x (codes "*")) (is_free_name x) (one_byte 43 x) (one_byte 42 x) (name_fits x) h
  where
    by : (a b c : Bool) → (a ≡ true → FitsAName x) → (b ≡ true → FitsAName x) → (c ≡ true → FitsAName x) → ((a || b) || c) ≡ true → FitsAName x
    by true b c f g k h = f refl
    by false true c f g k h = g refl
    by false false c f g k h = k h

pub symbols_fit : (names : List (List ℕ)) → list_all is_symbol names ≡ true → AllByRecursion FitsAName names
symbols_fit [] h = tt
symbols_fit (x ∷ xs) h = let b = both (is_symbol x) (list_all is_symbol xs) h in (symbol_fits x b.0, symbols_fit xs b.1)

-- a word lists symbols exactly if its texts are at most 8 different ones
pub told : (word : List ℕ) (texts : List (List ℕ)) (count : ℕ) (r : Bool) → texts ≡ listed_in word → count ≡ length texts → r ≡ ((nat_le count 8 && list_all is_symbol texts) && are_different texts) → IsTold r word
told word texts count true same counted h =
    let outer = both (nat_le count 8 && list_all is_symbol texts) (are_different texts) (sym h) in
    let inner = both (nat_le count 8) (list_all is_symbol texts) outer.0 in
    let few : count ≤ 8 = grind (arith, nat_tests, inner.0) in
    subst (IsSymbolList word) same (record { listed = same; few = omega (arith, counted, few); symbols = inner.1; different = outer.1 })
told word texts count false same counted h = λ names k.
    let e : names ≡ texts = k.listed ∙ sym same in
    let lengths : length names ≡ length texts = ap length e in
    let most = k.few in
    let small : count ≤ 8 = omega (arith, counted, lengths, most) in
    let few : nat_le count 8 ≡ true = grind (arith, nat_tests, small) in
    true≢false (sym (h ∙ three (nat_le count 8) (list_all is_symbol texts) (are_different texts) few (ap (list_all is_symbol) (sym e) ∙ k.symbols) (ap are_different (sym e) ∙ k.different)))
