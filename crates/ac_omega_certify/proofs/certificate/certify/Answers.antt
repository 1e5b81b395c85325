use Rattle.ac_omega_certify.proofs.Certified.{Ready, first-ready, question-accepted}
use Rattle.ac_omega_certify.proofs.certificate.certify.Goals as goal

pub beneath-requires-clause-names : goal.beneath-requires-clause-names
beneath-requires-clause-names c =
    let r : Ready c.in_ok-branch.branch c.args.refutation.now = first-ready c.args.question.now c.args.refutation.now c.in_ok-branch.branch c.in_ok-branch.ensures c.requires.refuted c.requires.made in
    r.names

pub beneath-requires-clause-made : goal.beneath-requires-clause-made
beneath-requires-clause-made c =
    let r : Ready c.in_ok-branch.branch c.args.refutation.now = first-ready c.args.question.now c.args.refutation.now c.in_ok-branch.branch c.in_ok-branch.ensures c.requires.refuted c.requires.made in
    r.made

pub beneath-requires-clause-fits : goal.beneath-requires-clause-fits
beneath-requires-clause-fits c =
    let r : Ready c.in_ok-branch.branch c.args.refutation.now = first-ready c.args.question.now c.args.refutation.now c.in_ok-branch.branch c.in_ok-branch.ensures c.requires.refuted c.requires.made in
    r.fits

pub beneath-requires-clause-normal : goal.beneath-requires-clause-normal
beneath-requires-clause-normal c =
    let r : Ready c.in_ok-branch.branch c.args.refutation.now = first-ready c.args.question.now c.args.refutation.now c.in_ok-branch.branch c.in_ok-branch.ensures c.requires.refuted c.requires.made in
    r.normal

pub returns : goal.returns
returns c = record { accepted = question-accepted c.args.question.now c.in_ok-branch.branch c.beneath.result c.in_ok-branch.ensures c.beneath.ensures }
