use Rattle.std.proofs.Common.{◌≡◌, ◌++◌, refl}
use Rattle.ac_cert.proofs.Making.{behind-accepted}
use Rattle.ac_cert.proofs.make.behind_steps.Goals as goal

pub returns-clause-accepted : goal.returns-clause-accepted
returns-clause-accepted g c =
    let all : c.from.result ≡ c.args.steps ++ c.args.tree.steps = rw (c.from.ensures, c.in_ok-append.ensures.items, c.into_vec-all.ensures, c.into_vec-further.ensures) refl in
    λ refusal b d is h. behind-accepted c.args.steps c.from.result c.args.tree.steps c.args.tree.next refusal b d all is h
