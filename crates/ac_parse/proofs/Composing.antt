-- From the lexer, the grammar and the rules to the answers on a text.
use Rattle.std.proofs.Common.{◌≡◌, ℕ, List, length, refl, sym, ap, subst, ◌∙◌, Option, Some, None}
use Rattle.std.specs.Prelude.{Result, Ok, Err, IfErr}
use Rattle.std.specs.Result.{IsErrAnd}
use Rattle.std.proofs.lemmas.Option.{none-some}
use Rattle.ac_syntax.specs.ReadyPrograms.{ReadyProgram}
use Rattle.ac_syntax.specs.Small.{IsSmallProgram}
use Rattle.ac_syntax.specs.declared.tree.Program.{Program}
use Rattle.ac_lex.specs.Lexemes.{Lexeme}
use Rattle.ac_lex.specs.Tokens.{AreTokens}
use Rattle.ac_lex.specs.TextPieces.{bad_byte, bad_number, long_name, open_comment_begins}
use Rattle.ac_lex.specs.LexerAnswers.{HasFault}
use Rattle.ac_lex.specs.declared.tokens.LexFault.{LexFault}
use Rattle.ac_lex.specs.declared.tokens.LexFault.TheVariants as lex
use Rattle.ac_lex.proofs.LawLemmas.{one_list}
use Rattle.ac_parse_grammar.specs.declared.tree.File.{File}
use Rattle.ac_parse_grammar.specs.declared.file.GrammarFault.{GrammarFault}
use Rattle.ac_parse_grammar.specs.declared.file.GrammarFault.TheVariants as grammar
use Rattle.ac_parse_grammar.specs.FileGrammar.{IsFile}
use Rattle.ac_parse_grammar.specs.FileAnswers.{IsFileAnswer, IsOnlyFile}
use Rattle.ac_parse_grammar.proofs.StatementAnswers.{one_file}
use Rattle.ac_parse_rules.specs.declared.fault.RuleFault.{RuleFault}
use Rattle.ac_parse_rules.specs.declared.fault.RuleFault.TheVariants as rules
use Rattle.ac_parse_rules.specs.Files.{file_broken, program_of, IsAnswer}
use Rattle.ac_parse_rules.proofs.ReadyPrograms.{ready_program}
use Rattle.ac_parse_rules.specs.LawsOfPrograms.{DoesAs}
use Rattle.ac_parse_rules.proofs.SmallPrograms.{small_program}
use Rattle.ac_parse_rules.proofs.UsedNames.{none_is_undeclared}
use Rattle.ac_parse_rules.proofs.WrittenPrograms.{programs_do_as_written}
use Rattle.ac_parse.specs.declared.faults.SourceFault.{SourceFault}
use Rattle.ac_parse.specs.Program.{IsShort, IsProgramOf}
use Rattle.ac_parse.specs.ParseAnswers.{HasSourceFault, no_tokens, no_file, too_deep, breaks_a_rule, no_memory, IsOnlyProgram}
use Rattle.ac_parse.specs.TextMeaning.{HasOneProgram, ProgramsAreReady, ProgramsAreSmall, ProgramsDoAsTexts}
use Rattle.ac_parse.proofs.Conditions.{file_conditions}
use Rattle.ac_parse.specs.TextFaults.{of_lexer, of_grammar, of_rules, IsTokensAnswer, has_program, is_no_file, is_too_deep, breaks, lacks_memory}

-- what holds of a converted fault
pub converted : {T E : Type 0} (P : Result T E → Type 0) (r : Result T E) (e : E) → IsErrAnd r (λ f. f ≡ e) → P (Err e) → P r
converted P (Ok x) e is h = absurd is
converted P (Err f) e is h = subst (λ g. P (Err g)) (sym is) h

-- a fault of the grammar
pub grammar_answer : (end : ℕ) (ts : List Lexeme) (f : GrammarFault) → IsFileAnswer 128 end ts (Err f) → IsTokensAnswer end ts (Err (of_grammar f))
grammar_answer end ts (grammar.Syntax place) h = is_no_file place h
grammar_answer end ts (grammar.Nesting place) h = is_too_deep place h
grammar_answer end ts (grammar.Memory e) h = lacks_memory e

-- a fault of the rules
pub rules_answer : (end : ℕ) (ts : List Lexeme) (file : File) (f : RuleFault) → IsFile 128 ts file → IsAnswer file (Err f) → IsTokensAnswer end ts (Err (of_rules f))
rules_answer end ts file (rules.NotAffine place) is h = breaks file _ is h
rules_answer end ts file (rules.Undeclared place) is h = breaks file _ is h
rules_answer end ts file (rules.Misused place) is h = breaks file _ is h
rules_answer end ts file (rules.Duplicate place) is h = breaks file _ is h
rules_answer end ts file (rules.Endless place) is h = breaks file _ is h
rules_answer end ts file (rules.Limit which place) is h = breaks file _ is h
rules_answer end ts file (rules.Memory e) is h = lacks_memory e

-- the program of a file without a broken rule
pub program_answer : (end : ℕ) (ts : List Lexeme) (file : File) (p : Program) → IsFile 128 ts file → IsAnswer file (Ok p) → IsTokensAnswer end ts (Ok p)
program_answer end ts file p is h = subst (λ q. IsTokensAnswer end ts (Ok q)) (sym h.1) (has_program file is h.0)

-- what the grammar and the rules answer of tokens that are a file without a broken rule
pub grammar_only : (p : Program) (file : File) (f : GrammarFault) → IsOnlyFile file (Err f) → IsOnlyProgram p (Err (of_grammar f))
grammar_only p file (grammar.Syntax place) h = h
grammar_only p file (grammar.Nesting place) h = h
grammar_only p file (grammar.Memory e) h = tt

pub none_is_some : {A : Type 0} {o : Option A} {a : A} → o ≡ None → o ≡ Some a → ⊥
none_is_some p q = none-some _ (sym p ∙ q)

pub rules_only : (p : Program) (file : File) (f : RuleFault) → file_broken file ≡ None → IsAnswer file (Err f) → IsOnlyProgram p (Err (of_rules f))
rules_only p file (rules.NotAffine place) n h = none_is_some n h
rules_only p file (rules.Undeclared place) n h = none_is_some n h
rules_only p file (rules.Misused place) n h = none_is_some n h
rules_only p file (rules.Duplicate place) n h = none_is_some n h
rules_only p file (rules.Endless place) n h = none_is_some n h
rules_only p file (rules.Limit which place) n h = none_is_some n h
rules_only p file (rules.Memory e) n h = tt

-- a fault of the lexer
pub lexer_fault : (bytes : List ℕ) (f : LexFault) → IsShort bytes → HasFault bytes f → HasSourceFault bytes (of_lexer f)
lexer_fault bytes (lex.BadByte place) s h = no_tokens bad_byte place s h
lexer_fault bytes (lex.BadNumber place) s h = no_tokens bad_number place s h
lexer_fault bytes (lex.LongName place) s h = no_tokens long_name place s h
lexer_fault bytes (lex.OpenComment place) s h = no_tokens open_comment_begins place s h
lexer_fault bytes (lex.Memory e) s h = no_memory e

-- what is answered of tokens, as an answer on the text
pub text_program : (bytes : List ℕ) (ts : List Lexeme) (p : Program) → IsShort bytes → AreTokens bytes ts → IsTokensAnswer (length bytes) ts (Ok p) → IsProgramOf bytes p
text_program bytes ts p s cut (has_program file is rules) =
    record { file = file; text = record { short = s; tokens = ts; cut = cut; grammar = is }; rules = rules; is = refl }

pub text_fault : (bytes : List ℕ) (ts : List Lexeme) (f : SourceFault) → IsShort bytes → AreTokens bytes ts → IsTokensAnswer (length bytes) ts (Err f) → HasSourceFault bytes f
text_fault bytes ts f s cut (is_no_file place h) = no_file ts place s cut h
text_fault bytes ts f s cut (is_too_deep place h) = too_deep ts place s cut h
text_fault bytes ts f s cut (breaks file first is h) = breaks_a_rule file first (record { short = s; tokens = ts; cut = cut; grammar = is }) h
text_fault bytes ts f s cut (lacks_memory e) = no_memory e

pub text_told : (bytes : List ℕ) (ts : List Lexeme) (r : Result Program SourceFault) → IsShort bytes → AreTokens bytes ts → IsTokensAnswer (length bytes) ts r
    → IfErr r (HasSourceFault bytes)
text_told bytes ts (Ok p) s cut h = tt
text_told bytes ts (Err f) s cut h = text_fault bytes ts f s cut h

-- the tokens of a text with a program are a file without a broken rule
pub text_tokens : (bytes : List ℕ) (ts : List Lexeme) (p : Program) (h : IsProgramOf bytes p) → AreTokens bytes ts → IsFile 128 ts h.file
text_tokens bytes ts p h cut = subst (λ us. IsFile 128 us h.file) (one_list bytes h.text.tokens ts h.text.cut cut) h.text.grammar

-- a text has one program at most
pub one_program : HasOneProgram
one_program bytes p q h k =
    let is : IsFile 128 k.text.tokens h.file = text_tokens bytes k.text.tokens p h k.text.cut in
    let same : h.file ≡ k.file = one_file k.text.tokens h.file k.file (128, is) (128, k.text.grammar) in
    h.is ∙ ap program_of same ∙ sym k.is

-- what holds of the program of a file holds of the program of its text
pub ready : ProgramsAreReady
ready bytes program h = subst ReadyProgram (sym h.is) (ready_program h.file h.rules (file_conditions h.text.grammar))

pub small : ProgramsAreSmall
small bytes program h = subst IsSmallProgram (sym h.is) (small_program h.file h.rules)

pub does_as_text : ProgramsDoAsTexts
does_as_text bytes program h = (subst (DoesAs h.file) (sym h.is) (programs_do_as_written h.file h.rules), none_is_undeclared h.file h.rules)
