use Rattle.std.proofs.Common.{rules, ◌≡◌, subst}
use Rattle.std.proofs.lemmas.Result.{IfOk-weaker}
use Rattle.ac_prooftext_lines.specs.ItemReaders.{Reads}
use Rattle.ac_prooftext_lines.specs.Spellable.{IsSpellable}
use Rattle.ac_prooftext_lines.specs.Spelling.{item_words}
use Rattle.ac_prooftext_lines.proofs.ItemArms.{by_words}
use Rattle.ac_prooftext_lines.proofs.items.read_item.Goals as goal

pub returns : goal.returns
returns c = IfOk-weaker c.read_words.result _ _ (λ found h. by_words c.args.line.now found (subst (λ ws. Reads IsSpellable item_words ws found) (search rules) h)) c.read_words.ensures
