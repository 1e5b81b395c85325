use Rattle.std.proofs.Common.{ℕ, Vec, sym, subst}
use Rattle.std.specs.Global.{Global}
use Rattle.std.specs.Str.{IsUtf8}
use Rattle.ac_cli_args.proofs.Parsing.{all_at}
use Rattle.ac_cli_args.proofs.command.texts_of.Goals as goal

pub returns-in_default : goal.returns-in_default
returns-in_default c = λ all.
    let here = all_at IsUtf8 (λ (w : Vec ℕ Global). w.items) c.args.words.now c.loop-word.word-index c.word-item.result c.loop-word-test.true all in
    c.in_default.ensures (subst (λ (w : Vec ℕ Global). IsUtf8 w.items) (sym c.word-item.is) here)
