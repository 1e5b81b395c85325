use Rattle.std.proofs.Common.{◌≡◌, false, true, refl}
use Rattle.ac_top.specs.ProveReports.{none_equal}
use Rattle.ac_top.proofs.Files.{names_none, of_proof}
use Rattle.ac_top.proofs.prove.named_file.Goals as goal

pub returns-then-is_empty : goal.returns-then-is_empty
returns-then-is_empty c = none_equal c.args.name.now (names_none c.args.proof.now (c.if-is_empty.ensures.0 refl))

pub returns : goal.returns
returns c =
    of_proof c.args.proof.now c.args.name.now (record { name = c.in_ok-name.name.items; bytes = c.in_ok-bytes.bytes.items })
    (λ e. let t : false ≡ true = c.if-is_empty.ensures.1 e in absurd cc) c.in_ok-name.ensures.items c.in_ok-bytes.ensures.text
