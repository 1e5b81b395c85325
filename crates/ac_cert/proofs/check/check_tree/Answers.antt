use Rattle.std.proofs.Common.{◌≡◌, None, subst}
use Rattle.ac_forms.specs.declared.conj.Conj.{Conj}
use Rattle.ac_cert.specs.CertificateFaults.{tree_fault}
use Rattle.ac_cert.proofs.Soundness.{tree-covered, end-of_cover}
use Rattle.ac_cert.proofs.check.check_tree.Goals as goal

pub returns-clause-cover : goal.returns-clause-cover
returns-clause-cover g c =
    let none = subst (λ (x : Conj). tree_fault c.args.tree.now (λ e d. g.E.End.refusal e c.args.env.now d) x 0 ≡ None) c.in_ok-conj.ensures c.in-Ok.ensures.0 in
    tree-covered c.args.tree.now (λ e d. g.E.End.refusal e c.args.env.now d) (λ e q. g.E.End.means e c.args.env.now q) (λ e d p r w at. g.met.E.End.sound e c.args.env.now d p r w at) c.args.conj.now 0 c.requires none

pub returns-clause-holds : goal.returns-clause-holds
returns-clause-holds g c = λ p at.
    let none = subst (λ (x : Conj). tree_fault c.args.tree.now (λ e d. g.E.End.refusal e c.args.env.now d) x 0 ≡ None) c.in_ok-conj.ensures c.in-Ok.ensures.0 in
    end-of_cover c.args.tree.now (λ e q. g.E.End.means e c.args.env.now q) c.args.conj.now p
    (tree-covered c.args.tree.now (λ e d. g.E.End.refusal e c.args.env.now d) (λ e q. g.E.End.means e c.args.env.now q) (λ e d p r w at. g.met.E.End.sound e c.args.env.now d p r w at) c.args.conj.now 0 c.requires none p at)
