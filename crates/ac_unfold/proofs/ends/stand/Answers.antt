use Rattle.std.proofs.Common.{subst}
use Rattle.std.specs.Prelude.{Ok}
use Rattle.ac_unfold.specs.EndRows.{AreStood}
use Rattle.ac_unfold.specs.declared.ends.Stood.{Stood}
use Rattle.ac_unfold.proofs.Missing.{ended_finds}
use Rattle.ac_unfold.proofs.Results.{stood_made}
use Rattle.ac_unfold.proofs.ends.stand.Goals as goal

pub returns-in_ok-made-in-On-clause-made : goal.returns-in_ok-made-in-On-clause-made
returns-in_ok-made-in-On-clause-made c =
    stood_made (Ok c.in_ok-made-in-On.made) c.args.search.now c.args.node c.in-On.course c.args.rows.now c.args.end c.end_of-last.result (subst (λ (x : Stood). AreStood c.args.search.now c.args.node c.args.rows.now x) c.in-On.is c.in_ok-stood.ensures.stood) c.requires c.end_of-last.ensures.made c.in_ok-made-in-On.ensures.made

pub returns-in-Ended-clause-made : goal.returns-in-Ended-clause-made
returns-in-Ended-clause-made c = subst (λ (x : Stood). AreStood c.args.search.now c.args.node c.args.rows.now x) c.in-Ended.is c.in_ok-stood.ensures.stood

pub returns-in_ok-made-in-On-clause-missing : goal.returns-in_ok-made-in-On-clause-missing
returns-in_ok-made-in-On-clause-missing c = ended_finds (Ok c.in_ok-made-in-On.made) c.args.search.now c.end_of-last.result c.args.found_paths.now c.stand_rows.new.found_paths c.in_ok-made-in-On.ensures.missing c.end_of-last.ensures.there
