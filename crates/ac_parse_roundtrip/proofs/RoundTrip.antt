-- The canonical text of the program of a text has the same program.
use Rattle.std.proofs.Common.{◌≡◌, List, refl, sym, subst}
use Rattle.ac_syntax.specs.Text.{program_text}
use Rattle.ac_lex.specs.Lexemes.{Lexeme}
use Rattle.ac_lex.proofs.LawLemmas.{one_list}
use Rattle.ac_parse_grammar.specs.FileGrammar.{IsFile}
use Rattle.ac_parse_rules.specs.Files.{program_of}
use Rattle.ac_parse_roundtrip.specs.Items.{program as items, lexemes}
use Rattle.ac_parse_roundtrip.specs.ProgramWords.{HasWords}
use Rattle.ac_parse_roundtrip.proofs.ProgramTokens.{program_tokens}
use Rattle.ac_parse_roundtrip.specs.GrammarPrograms.{HasNames}
use Rattle.ac_parse_roundtrip.proofs.Files.{have_no_other_trees}
use Rattle.ac_parse_roundtrip.specs.CanonicalPrograms.{IsReadableProgram}
use Rattle.ac_parse_roundtrip.proofs.ProgramRoundTrip.{programs_are_read_back}
use Rattle.ac_parse_roundtrip.proofs.NamedPrograms.{programs_have_names}
use Rattle.ac_parse_roundtrip.proofs.ReadablePrograms.{programs_are_readable}
use Rattle.ac_parse_roundtrip.specs.RoundTrip.{CanonicalTextsAreReadBack}

pub read_back : CanonicalTextsAreReadBack
read_back bytes program h file text =
    let names = programs_have_names bytes h.text.tokens 128 h.file h.text.cut h.text.grammar h.rules in
    let has_words : HasWords program = subst HasWords (sym h.is) names.0 in
    let has_names : HasNames program = subst HasNames (sym h.is) names.1 in
    let readable : IsReadableProgram program = subst IsReadableProgram (sym h.is) (programs_are_readable bytes h.text.tokens 128 h.file h.text.cut h.text.grammar h.rules) in
    let same : text.tokens ≡ lexemes 0 (items program) = one_list (program_text program) text.tokens (lexemes 0 (items program)) text.cut (program_tokens program has_words) in
    let grammar : IsFile 128 (lexemes 0 (items program)) file = subst (λ (ts : List Lexeme). IsFile 128 ts file) same text.grammar in
    let back = programs_are_read_back program readable file (have_no_other_trees program has_names 128 file grammar) in
    (program_of file, record { file = file; text = text; rules = back.0; is = refl }, back.1)
