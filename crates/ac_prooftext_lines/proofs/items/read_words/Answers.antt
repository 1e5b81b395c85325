use Rattle.std.proofs.Common.{rules}
use Rattle.std.proofs.lemmas.Result.{IfOk-weaker}
use Rattle.ac_prooftext_lines.proofs.ItemArms.{by_kinds}
use Rattle.ac_prooftext_lines.proofs.items.read_words.Goals as goal

pub returns : goal.returns
returns c = IfOk-weaker c.read_head.result _ _ (by_kinds c.args.words.now (search rules) (search rules) (search rules) (search rules)) c.read_head.ensures
