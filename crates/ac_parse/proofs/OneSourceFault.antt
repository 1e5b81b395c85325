-- A text has one fault at most.
use Rattle.std.proofs.Common.{◌≡◌, ◌<◌, ℕ, List, length, arith, refl, sym, ap, subst, ◌∙◌, Some, None, false}
use Rattle.ac_syntax.specs.declared.tree.Place.{Place}
use Rattle.ac_lex.specs.Lexemes.{Lexeme}
use Rattle.ac_lex.specs.TextPieces.{Why}
use Rattle.ac_lex.specs.Tokens.{AreTokens, IsFault}
use Rattle.ac_lex.proofs.LawLemmas as lex
use Rattle.ac_parse_grammar.specs.declared.tree.File.{File}
use Rattle.ac_parse_grammar.specs.ReaderCombinators.{syntax, nesting}
use Rattle.ac_parse_grammar.specs.ReaderCombinators as grammar
use Rattle.ac_parse_grammar.specs.FileGrammar.{IsFile}
use Rattle.ac_parse_grammar.specs.FileLaws.{HasFault}
use Rattle.ac_parse_grammar.proofs.OneFault as grammar_laws
use Rattle.ac_parse_grammar.proofs.StatementAnswers.{one_file}
use Rattle.ac_parse_exprs.specs.declared.fault.Which.TheVariants as which
use Rattle.ac_parse_exprs.specs.declared.fault.Broken.{Broken}
use Rattle.ac_parse_rules.specs.Files.{file_broken}
use Rattle.ac_parse.specs.declared.faults.SourceFault.{SourceFault}
use Rattle.ac_parse.specs.declared.faults.SourceFault.TheVariants.{Lex, Syntax, Limit}
use Rattle.ac_parse.specs.Program.{IsShort, IsText}
use Rattle.ac_parse.specs.ParseAnswers.{lex_fault, rule_fault, HasSourceFault, too_long, no_tokens, no_file, too_deep, breaks_a_rule, no_memory, is_memory}
use Rattle.ac_parse.specs.TextMeaning.{HasOneSourceFault, HasNotBoth}
use Rattle.ac_parse.proofs.Composing.{none_is_some}

-- a fault of tokens, as a fault of their text
abbrev told : grammar.Why → Place → SourceFault
told syntax place = Syntax place
told nesting place = Limit which.Nesting place

-- what is wrong with a text: its length, its bytes, its tokens or its file
data Wrong (bytes : List ℕ) : SourceFault → Type 0 where
  long : 65536 < length bytes → Wrong bytes (Limit which.File (record { at = 0 }))
  bytes_wrong : (why : Why) (place : Place) → IsShort bytes → IsFault bytes why place.at → Wrong bytes (Lex (lex_fault why place))
  tokens_wrong : (tokens : List Lexeme) (why : grammar.Why) (place : Place) → IsShort bytes → AreTokens bytes tokens → HasFault 128 (length bytes) tokens why place → Wrong bytes (told why place)
  file_wrong : (file : File) (first : Broken) → IsText bytes file → file_broken file ≡ Some first → Wrong bytes (rule_fault first.rule first.place)

wrong : (bytes : List ℕ) (fault : SourceFault) → is_memory fault ≡ false → HasSourceFault bytes fault → Wrong bytes fault
wrong bytes _ n (too_long l) = long l
wrong bytes _ n (no_tokens why place s h) = bytes_wrong why place s h
wrong bytes _ n (no_file tokens place s cut h) = tokens_wrong tokens syntax place s cut h
wrong bytes _ n (too_deep tokens place s cut h) = tokens_wrong tokens nesting place s cut h
wrong bytes _ n (breaks_a_rule file first text is) = file_wrong file first text is
wrong bytes _ n (no_memory error) = cc (n)

not_long : {A : Type 0} (bytes : List ℕ) → 65536 < length bytes → IsShort bytes → A
not_long bytes l s = absurd (omega (arith, l, s))

-- a file of the grammar and a fault of its tokens
no_file_of : (bytes : List ℕ) (file : File) (text : IsText bytes file) (tokens : List Lexeme) (why : grammar.Why) (place : Place) → AreTokens bytes tokens → HasFault 128 (length bytes) tokens why place → ⊥
no_file_of bytes file text tokens why place cut h =
    grammar_laws.not_both_of 128 (length bytes) tokens file why place (subst (λ l. IsFile 128 l file) (lex.one_list bytes text.tokens tokens text.cut cut) text.grammar) h

same_file : (bytes : List ℕ) (file other : File) → IsText bytes file → IsText bytes other → file ≡ other
same_file bytes file other text also =
    one_file also.tokens file other (128, subst (λ l. IsFile 128 l file) (lex.one_list bytes text.tokens also.tokens text.cut also.cut) text.grammar) (128, also.grammar)

one_wrong : (bytes : List ℕ) (fault other : SourceFault) → Wrong bytes fault → Wrong bytes other → fault ≡ other
one_wrong bytes _ _ (long l) (long m) = refl
one_wrong bytes _ _ (long l) (bytes_wrong why place s h) = not_long bytes l s
one_wrong bytes _ _ (long l) (tokens_wrong tokens why place s cut h) = not_long bytes l s
one_wrong bytes _ _ (long l) (file_wrong file first text is) = not_long bytes l text.short
one_wrong bytes _ _ (bytes_wrong why place s h) (long l) = not_long bytes l s
one_wrong bytes _ _ (bytes_wrong why place s h) (bytes_wrong why' place' t k) =
    let e = lex.one_fault bytes why why' place.at place'.at h k in
    λ i. Lex (lex_fault (e.0 i) (record { at = e.1 i }))
one_wrong bytes _ _ (bytes_wrong why place s h) (tokens_wrong tokens why' place' t cut k) = absurd (lex.not_both bytes tokens why place.at cut h)
one_wrong bytes _ _ (bytes_wrong why place s h) (file_wrong file first text is) = absurd (lex.not_both bytes text.tokens why place.at text.cut h)
one_wrong bytes _ _ (tokens_wrong tokens why place s cut h) (long l) = not_long bytes l s
one_wrong bytes _ _ (tokens_wrong tokens why place s cut h) (bytes_wrong why' place' t k) = absurd (lex.not_both bytes tokens why' place'.at cut k)
one_wrong bytes _ _ (tokens_wrong tokens why place s cut h) (tokens_wrong others why' place' t also k) =
    let same : tokens ≡ others = lex.one_list bytes tokens others cut also in
    let e = grammar_laws.one_fault 128 (length bytes) others why why' place place' (subst (λ l. HasFault 128 (length bytes) l why place) same h) k in
    λ i. told (e.0 i) (e.1 i)
one_wrong bytes _ _ (tokens_wrong tokens why place s cut h) (file_wrong file first text is) = absurd (no_file_of bytes file text tokens why place cut h)
one_wrong bytes _ _ (file_wrong file first text is) (long l) = not_long bytes l text.short
one_wrong bytes _ _ (file_wrong file first text is) (bytes_wrong why place s h) = absurd (lex.not_both bytes text.tokens why place.at text.cut h)
one_wrong bytes _ _ (file_wrong file first text is) (tokens_wrong tokens why place s cut h) = absurd (no_file_of bytes file text tokens why place cut h)
one_wrong bytes _ _ (file_wrong file first text is) (file_wrong file' first' text' is') =
    let same : Some first ≡ Some first' = sym is ∙ ap file_broken (same_file bytes file file' text text') ∙ is' in
    let e : first ≡ first' = cc in
    ap (λ (b : Broken). rule_fault b.rule b.place) e

pub one_source_fault : HasOneSourceFault
one_source_fault bytes fault other n m h k = one_wrong bytes fault other (wrong bytes fault n h) (wrong bytes other m k)

-- and none if it has a program
none_wrong : (bytes : List ℕ) (fault : SourceFault) (file : File) → IsText bytes file → file_broken file ≡ None → Wrong bytes fault → ⊥
none_wrong bytes _ file text none (long l) = not_long bytes l text.short
none_wrong bytes _ file text none (bytes_wrong why place s h) = lex.not_both bytes text.tokens why place.at text.cut h
none_wrong bytes _ file text none (tokens_wrong tokens why place s cut h) = no_file_of bytes file text tokens why place cut h
none_wrong bytes _ file text none (file_wrong other first text' is) = none_is_some none (ap file_broken (same_file bytes file other text text') ∙ is)

pub not_both_of : HasNotBoth
not_both_of bytes program fault n h k = none_wrong bytes fault h.file h.text h.rules (wrong bytes fault n k)
