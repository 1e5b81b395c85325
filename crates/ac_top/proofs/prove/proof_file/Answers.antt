use Rattle.std.proofs.Common.{None, IfOk, sym, subst}
use Rattle.std.specs.Option.{option_map}
use Rattle.ac_top.specs.ProveReports.{IsFileOf, no_name}
use Rattle.ac_top.specs.RunStages.{file_of}
use Rattle.ac_top.proofs.prove.proof_file.Goals as goal

pub returns-in-None : goal.returns-in-None
returns-in-None c = subst (λ n. IsFileOf c.args.proof.now (option_map (λ w. w.now) n) None) (sym c.in-None.is) no_name

pub returns-in-Some : goal.returns-in-Some
returns-in-Some c = subst (λ n. IfOk c.named_file.result (λ file. IsFileOf c.args.proof.now (option_map (λ w. w.now) n) (option_map file_of file))) (sym c.in-Some.is) c.named_file.ensures
