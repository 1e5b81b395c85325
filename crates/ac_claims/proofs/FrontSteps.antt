-- The claims that are known.
use Rattle.std.proofs.Common.{◌≡◌, List, [], ◌∷◌, ◌++◌, sym, ap, ◌∙◌}
use Rattle.ac_forms.specs.declared.row.Row.{Row}
use Rattle.ac_claims.specs.ProofMachine.{with_last}
use Rattle.ac_claims.specs.declared.types.Claim.{Claim}
use Rattle.ac_claims.proofs.ProofFolding.{with_rows, last_is}

pub pushed : (old new out : List Claim) (c d : Claim) (r : Row) → old ≡ new ++ c ∷ [] → d ≡ with_rows c (c.rows ++ r ∷ []) → out ≡ new ++ d ∷ [] → out ≡ with_last old r
pushed old new out c d r e f h = h ∙ ap (λ (z : Claim). new ++ z ∷ []) f ∙ sym (ap (λ (z : List Claim). with_last z r) e ∙ last_is new c r)

pub none_pushed : (old out : List Claim) (r : Row) → old ≡ [] → out ≡ [] → out ≡ with_last old r
none_pushed old out r e f = f ∙ sym (ap (λ (z : List Claim). with_last z r) e)

pub ruleset last_steps = (pushed, none_pushed)
