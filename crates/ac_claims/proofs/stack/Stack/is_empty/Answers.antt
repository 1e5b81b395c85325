use Rattle.std.proofs.Common.{◌∙◌, sym}
use Rattle.ac_claims.proofs.Entering.{empty_is}
use Rattle.ac_claims.proofs.stack.Stack.is_empty.Goals as goal

pub returns : goal.returns
returns c =
    let e = empty_is c.self.inside.ongoing c.self.invariant in
    ((λ t. sym c.self.view_is ∙ e.0 (c.is_empty.ensures.0 t)), (λ n. c.is_empty.ensures.1 (e.1 (c.self.view_is ∙ n))))
