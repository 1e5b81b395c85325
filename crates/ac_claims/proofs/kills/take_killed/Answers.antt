use Rattle.ac_claims_paths.specs.ModelCalls.{pairing}
use Rattle.ac_claims.proofs.DueForms.{side_moduli}
use Rattle.ac_claims.proofs.kills.take_killed.Goals as goal

pub copy_of-requires : goal.copy_of-requires
copy_of-requires c = side_moduli (pairing c.args.line.now.programs.now) _ c.requires.line.left c.requires.line.right
