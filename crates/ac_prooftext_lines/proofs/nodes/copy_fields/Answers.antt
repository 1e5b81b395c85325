use Rattle.std.proofs.Common.{◌≡◌, ◌∷◌, [], decimal, sym, ◌∙◌}
use Rattle.ac_prooftext_lines.specs.Spelling.{level_word}
use Rattle.ac_prooftext_lines.proofs.Naming.{tail}
use Rattle.ac_prooftext_lines.proofs.nodes.copy_fields.Goals as goal

pub returns-in_default-natural-2 : goal.returns-in_default-natural-2
returns-in_default-natural-2 c = λ p can e.
    let piece : c.natural.new.self ≡ decimal p.1 ∷ level_word p.2 ∷ decimal p.3 ∷ decimal p.4 ∷ [] = tail (sym c.in-Some.ensures ∙ (c.again-words.ensures ∙ e)) in
    let level : c.natural-2.new.self ≡ level_word p.2 ∷ decimal p.3 ∷ decimal p.4 ∷ [] = tail (sym c.in-Some-natural.ensures ∙ piece) in
    let rest : c.next_level.new.words ≡ decimal p.3 ∷ decimal p.4 ∷ [] = tail (sym c.in-Some-next_level.ensures.1 ∙ level) in
    c.in_default-natural-2.ensures p.3 (decimal p.4 ∷ []) can.3 rest
