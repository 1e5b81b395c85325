-- The trees of pragma lines.
use Rattle.std.specs.Prelude.{List, [], ◌∷◌, ◌++◌, length, codes, true, false, if◌then◌else◌, Option, None, Some, slice_get}
use Rattle.std.specs.List.{flat_map, AllByRecursion}
use Rattle.std.proofs.Common.{◌≡◌, ℕ, suc, ◌+◌, refl, sym, ◌∙◌, ap, subst, append_assoc, inl, inr}
use Rattle.std.proofs.lemmas.List.{append-nil}
use Rattle.ac_syntax.specs.declared.tree.Comparison.{Comparison}
use Rattle.ac_syntax.specs.declared.tree.Program.{Program}
use Rattle.ac_syntax.specs.Text.{Scope, whole_scope, array_name, is_operator}
use Rattle.ac_syntax.proofs.Pairwise.{every_map}
use Rattle.ac_lex.specs.Lexemes.{Lexeme}
use Rattle.ac_lex.specs.declared.tokens.TokenKind.TheVariants as kind
use Rattle.ac_parse_grammar.specs.declared.terminal.Terminal.{Terminal}
use Rattle.ac_parse_grammar.specs.declared.terminal.Terminal.TheVariants as t
use Rattle.ac_parse_grammar.specs.declared.tree.Operator.{Operator}
use Rattle.ac_parse_grammar.specs.declared.tree.Operator.TheVariants.{Add, Subtract, Multiply, Divide, Remainder}
use Rattle.ac_parse_grammar.specs.declared.tree.Pragma.{Pragma}
use Rattle.ac_parse_grammar.specs.declared.tree.Pragma.TheVariants.{Context, Commutative, Output}
use Rattle.ac_parse_grammar.specs.Terminals.{terminal, is_name}
use Rattle.ac_parse_grammar.specs.TokenWords.{word_of}
use Rattle.ac_parse_grammar.specs.PragmasReading.{is_symbol}
use Rattle.ac_parse_grammar.specs.DeclarationsGrammar.{IsRun, no_item, an_item}
use Rattle.ac_parse_grammar.specs.FileGrammar as g
use Rattle.ac_parse_grammar.specs.FileGrammar.{IsWord, IsSymbol, IsPragma}
use Rattle.ac_parse_roundtrip.specs.Items.{Item, lexeme, lexemes, pragma_text, space, mark, word, cond, symbol, pragma_line, context_line, commutative_line, output_line, pragma_lines}
use Rattle.ac_parse_roundtrip.specs.Items as item
use Rattle.ac_parse_roundtrip.specs.CanonicalTrees.{Each, IsWordOf, sign, AreContext, AreCommutative, AreOutput, ArePragmas}
use Rattle.ac_parse_roundtrip.specs.GrammarPrograms.{IsName, NamesArray, IsSymbolName, HaveLiterals, HaveOutputs}
use Rattle.ac_parse_roundtrip.proofs.ItemSequences.{after, lexemes-append, Reads, other_items}
use Rattle.ac_parse_roundtrip.proofs.TokenTerminals.{mark_at, word_at, name_is, plus_is, minus_is, star_is, slash_is, percent_is, context_is, commutative_is, output_is, pragma_start_is, pragma_end_is}
use Rattle.ac_parse_roundtrip.proofs.PartSequences.{run}
use Rattle.ac_parse_roundtrip.proofs.FormTrees.{IsNamedScope}
use Rattle.ac_parse_roundtrip.proofs.ConditionTrees.{cond_read}

-- ---- words and symbols

word_read : (name : List ℕ) → IsName name → Reads IsWord (IsWordOf name) (space ∷ word name ∷ [])
word_read name named = record { at = λ at. let n = word_at (at + 1) name in (word_of n, g.a_name (name_is (at + 1) name named), refl) }

of_name : (k : Terminal) → is_name k ≡ true → is_symbol k ≡ true
of_name t.Name e = refl
of_name t.Context e = refl
of_name t.Commutative e = refl
of_name t.Output e = refl
of_name t.Plus e = refl
of_name t.Minus e = refl
of_name t.Star e = refl
of_name t.Slash e = refl
of_name t.Percent e = refl
of_name _ e = e

sign_symbol : (at : ℕ) (operator : Operator) → is_symbol (terminal (mark_at at (sign operator))) ≡ true
sign_symbol at Add = ap is_symbol (plus_is at)
sign_symbol at Subtract = ap is_symbol (minus_is at)
sign_symbol at Multiply = ap is_symbol (star_is at)
sign_symbol at Divide = ap is_symbol (slash_is at)
sign_symbol at Remainder = ap is_symbol (percent_is at)

sign_item : (operator : Operator) → symbol (sign operator) ≡ mark (sign operator)
sign_item Add = refl
sign_item Subtract = refl
sign_item Multiply = refl
sign_item Divide = refl
sign_item Remainder = refl

sign_read : (operator : Operator) → Reads IsSymbol (IsWordOf (sign operator)) (space ∷ symbol (sign operator) ∷ [])
sign_read operator = other_items (ap (λ i. space ∷ i ∷ []) (sym (sign_item operator)))
    (record { at = λ at. (word_of (mark_at (at + 1) (sign operator)), g.a_symbol (sign_symbol (at + 1) operator), refl) })

name_item : (name : List ℕ) → is_operator name ≡ false → symbol name ≡ word name
name_item name e = ap (λ b. if b then mark name else word name) e

symbol_read : (name : List ℕ) → IsSymbolName name → Reads IsSymbol (IsWordOf name) (space ∷ symbol name ∷ [])
symbol_read name (inl e) = subst (λ text. Reads IsSymbol (IsWordOf text) (space ∷ symbol text ∷ [])) (sym e.1) (sign_read e.0)
symbol_read name (inr n) = other_items (ap (λ i. space ∷ i ∷ []) (sym (name_item name n.0)))
    (record { at = λ at. (word_of (word_at (at + 1) name), g.a_symbol (of_name (terminal (word_at (at + 1) name)) (name_is (at + 1) name n.1)), refl) })

-- ---- lines

abbrev pub start_at : ℕ → Lexeme
start_at at = lexeme kind.PragmaStart at pragma_text

abbrev pub end_at : ℕ → Lexeme
end_at at = lexeme kind.PragmaEnd at []

abbrev pub name_place : ℕ → ℕ
name_place at = at + length pragma_text + 1

line_tokens : (at : ℕ) (name : List ℕ) (is : List Item) → lexemes at (pragma_line name is)
    ≡ start_at at ∷ word_at (name_place at) name ∷ lexemes (name_place at + length name) is ++ end_at (after (name_place at + length name) is) ∷ []
line_tokens at name is = ap (λ ts. start_at at ∷ word_at (name_place at) name ∷ ts) (lexemes-append (name_place at + length name) is (item.line_end ∷ []))

-- a line alone
abbrev Lines : ℕ → List Lexeme → List Pragma → Type 0
Lines room = IsRun (IsPragma room)

one_line : (room at : ℕ) (name : List ℕ) (is : List Item) (tree : Pragma)
    → IsPragma room (start_at at ∷ word_at (name_place at) name ∷ lexemes (name_place at + length name) is ++ end_at (after (name_place at + length name) is) ∷ []) tree
    → Lines room (lexemes at (pragma_line name is)) (tree ∷ [])
one_line room at name is tree x =
    let ts = start_at at ∷ word_at (name_place at) name ∷ lexemes (name_place at + length name) is ++ end_at (after (name_place at + length name) is) ∷ [] in
    subst (λ us. Lines room us (tree ∷ [])) (append-nil ts ∙ sym (line_tokens at name is)) (an_item x no_item)

no_line : (room : ℕ) (T : List Pragma → Type 0) → T [] → Reads (Lines room) T []
no_line room T nothing = record { at = λ at. ([], no_item, nothing) }

pub context_read : (room : ℕ) (scope : Scope) (cs : List Comparison) → IsNamedScope scope → HaveLiterals cs → Reads (Lines (suc (suc (suc room)))) (AreContext scope cs) (context_line scope cs)
context_read room scope [] named has = no_line (suc (suc (suc room))) (AreContext scope []) refl
context_read room scope (c ∷ cs) named has = record {
  at = λ at.
      let is = space ∷ cond scope (record { parts = c ∷ cs }) in
      let from = name_place at + 7 in
      let x = (cond_read room scope (record { parts = c ∷ cs }) named (record { some = tt; literals = has })).at (from + 1) in
      let end = after from is in (
        Context x.0 ∷ [],
        one_line (suc (suc (suc room))) at (codes "context") is (Context x.0) (g.context (end_at end) (pragma_start_is at) (context_is (name_place at)) x.1 (pragma_end_is end)),
        (x.0, x.2, refl),
      );
}

abbrev symbol_items : List (List ℕ) → List Item
symbol_items names = flat_map (λ n. space ∷ symbol n ∷ []) names

symbols_read : (names : List (List ℕ)) → AllByRecursion IsSymbolName names → Reads (IsRun IsSymbol) (Each IsWordOf names) (symbol_items names)
symbols_read names has =
    run IsSymbol IsWordOf (λ n. space ∷ symbol n ∷ []) names (every_map IsSymbolName (λ n. Reads IsSymbol (IsWordOf n) (space ∷ symbol n ∷ [])) symbol_read names has)

pub commutative_read : (room : ℕ) (names : List (List ℕ)) → AllByRecursion IsSymbolName names → Reads (Lines room) (AreCommutative names) (commutative_line names)
commutative_read room [] has = no_line room (AreCommutative []) refl
commutative_read room (name ∷ names) has = record {
  at = λ at.
      let is = symbol_items (name ∷ names) in
      let from = name_place at + 11 in
      let x = (symbols_read (name ∷ names) has).at from in
      let end = after from is in (
        Commutative x.0 ∷ [],
        one_line room at (codes "commutative") is (Commutative x.0) (g.commutative (end_at end) (pragma_start_is at) (commutative_is (name_place at)) x.1 (pragma_end_is end)),
        (x.0, x.2, refl),
      );
}

module _ (scope : Scope) where
  abbrev output_name : ℕ → List ℕ
  output_name k = array_name (slice_get scope.arrays k)

  abbrev output_items : List ℕ → List Item
  output_items outputs = flat_map (λ k. space ∷ word (output_name k) ∷ []) outputs

  outputs_read : (outputs : List ℕ) → AllByRecursion (NamesArray scope.arrays) outputs → Reads (IsRun IsWord) (Each (λ k w. IsWordOf (output_name k) w) outputs) (output_items outputs)
  outputs_read outputs has =
      run IsWord (λ k w. IsWordOf (output_name k) w) (λ k. space ∷ word (output_name k) ∷ []) outputs
      (every_map (NamesArray scope.arrays) (λ k. Reads IsWord (λ w. IsWordOf (output_name k) w) (space ∷ word (output_name k) ∷ [])) (λ k h. word_read (output_name k) h) outputs has)

  pub output_read : (room : ℕ) (outputs : Option (List ℕ)) → HaveOutputs scope.arrays outputs → Reads (Lines room) (AreOutput scope outputs) (output_line scope outputs)
  output_read room None has = no_line room (AreOutput scope None) refl
  output_read room (Some outputs) has = record {
    at = λ at.
        let is = output_items outputs in
        let from = name_place at + 6 in
        let x = (outputs_read outputs has).at from in
        let end = after from is in (
          Output x.0 ∷ [],
          one_line room at (codes "output") is (Output x.0) (g.output (end_at end) (pragma_start_is at) (output_is (name_place at)) x.1 (pragma_end_is end)),
          (x.0, x.2, refl),
        );
  }

-- ---- the lines of a program

run_append : {A : Type 0} {One : List Lexeme → A → Type 0} {ts us : List Lexeme} {xs ys : List A} → IsRun One ts xs → IsRun One us ys → IsRun One (ts ++ us) (xs ++ ys)
run_append no_item s = s
run_append {One = One} {us = us} {ys = ys} (an_item {ts = first} {us = rest} {first = x} {more = more} one r) s =
    subst (λ vs. IsRun One vs (x ∷ more ++ ys)) (sym (append_assoc first rest us)) (an_item one (run_append r s))

pub pragmas_read : (room : ℕ) (p : Program) → IsNamedScope (whole_scope p) → HaveLiterals p.context.parts → AllByRecursion IsSymbolName p.commutative → HaveOutputs p.arrays p.outputs
    → Reads (Lines (suc (suc (suc room)))) (ArePragmas p) (pragma_lines p)
pragmas_read room p named context commutative output = record {
  at = λ at.
      let scope = whole_scope p in
      let cs = context_line scope p.context.parts in
      let ms = commutative_line p.commutative in
      let os = output_line scope p.outputs in
      let x = (context_read room scope p.context.parts named context).at at in
      let y = (commutative_read (suc (suc (suc room))) p.commutative commutative).at (after at cs) in
      let z = (output_read scope (suc (suc (suc room))) p.outputs output).at (after (after at cs) ms) in
      let all = x.0 ++ (y.0 ++ z.0) in
      let same : lexemes at (cs ++ ms ++ os) ≡ lexemes at cs ++ (lexemes (after at cs) ms ++ lexemes (after (after at cs) ms) os)
      = ap (λ is. lexemes at is) (append_assoc cs ms os) ∙ (lexemes-append at cs (ms ++ os) ∙ ap (λ ts. lexemes at cs ++ ts) (lexemes-append (after at cs) ms os)) in
      (all, subst (λ ts. Lines (suc (suc (suc room))) ts all) (sym same) (run_append x.1 (run_append y.1 z.1)), (x.0, y.0, z.0, x.2, y.2, z.2, refl));
}
