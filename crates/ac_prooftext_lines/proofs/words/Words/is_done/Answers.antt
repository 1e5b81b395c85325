use Rattle.std.proofs.Common.{rules, ◌≡◌, ◌∙◌, sym, ap}
use Rattle.std.specs.Option.{option_copied}
use Rattle.ac_prooftext_lines.specs.LineWords.{words_in, words_left}
use Rattle.ac_prooftext_lines.proofs.Splits.{never_done}
use Rattle.ac_prooftext_lines.proofs.words.Words.is_done.Goals as goal

pub returns-in-Some : goal.returns-in-Some
returns-in-Some c =
    let seen : words_in c.in-Some.field-0.now ≡ c.args.self.now = sym (ap (λ rest. words_left (option_copied rest)) c.in-Some.is) ∙ c.self.view_is in
    (λ h. absurd (search rules), λ e. absurd (never_done c.in-Some.field-0.now (seen ∙ e)))
