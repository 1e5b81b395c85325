use Rattle.std.proofs.Common.{rules, ◌≡◌, ◌∙◌, ap, to_z, of_z}
use Rattle.std.specs.Int.{w128}
use Rattle.ac_cert_short.specs.declared.draft.Behind.TheVariants as behind
use Rattle.ac_cert_short.specs.CertificateNodes.Nodes.{none, residue}
use Rattle.ac_cert_short.specs.Drafts.{back_kids, draft_behind, draft_nodes}
use Rattle.ac_cert_short.proofs.Shapes.{draft_at_residue}
use Rattle.ac_cert_short.proofs.drafting.residue_of.Goals as goal

pub returns : goal.returns
returns c =
    let m = c.args.m.now in
    let again = to_z w128 (of_z w128 m) in
    let same : again ≡ m = search rules in
    let made : draft_nodes c.bare.result ≡ draft_behind (behind.Residue again c.args.form c.args.kids) = c.bare.ensures in
    made ∙ draft_at_residue again c.args.form c.args.kids ∙ ap (λ k. residue k c.args.form (back_kids c.args.kids.items none)) same
