use Rattle.std.proofs.Common.{◌∙◌, sym}
use Rattle.ac_match.proofs.Same.{sites}
use Rattle.ac_match.proofs.numbers.is_same.Goals as goal

pub returns : goal.returns
returns c = let d = sites c.args.site.now c.args.other.now in let e = c.eq.ensures in (λ h. d.0 (sym e ∙ h), λ q. e ∙ d.1 q)
