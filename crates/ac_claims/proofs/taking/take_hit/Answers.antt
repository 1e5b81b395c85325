use Rattle.std.proofs.Common.{Bool, subst}
use Rattle.ac_cert.specs.declared.types.Rule.TheVariants as rule
use Rattle.ac_claims_paths.proofs.Moduli.{conj_moduli}
use Rattle.ac_claims.specs.StackEntries.{Settles, dues}
use Rattle.ac_claims.specs.Machine.{onto_if}
use Rattle.ac_claims.proofs.taking.take_hit.Goals as goal

pub is_hit-requires-clause-path : goal.is_hit-requires-clause-path
is_hit-requires-clause-path c = conj_moduli c.args.path.conj c.requires.path

pub is_hit-requires-clause-claims : goal.is_hit-requires-clause-claims
is_hit-requires-clause-claims c = c.requires.line.claims

pub returns : goal.returns
returns c = λ due a. subst (λ (b : Bool). Settles (onto_if b c.args.line.now.number rule.Hit (dues c.args.path.conj.rows due)) due c.ends_if.result) c.in_ok-holds.ensures (c.ends_if.ensures due a)
