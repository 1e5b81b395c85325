-- The positions of a claim are there, where their pieces are counted.
use Rattle.std.proofs.Common.{◌≡◌, Option, Some, sym, ◌∙◌}
use Rattle.std.specs.Prelude.{option_map}
use Rattle.ac_base.proofs.Options.{map-some}
use Rattle.ac_claims_paths.specs.PathSteps.{Pairing}
use Rattle.ac_claims.specs.Domains.{size_of}
use Rattle.ac_claims.specs.ProofFaults.{domain}
use Rattle.ac_claims.specs.declared.domains.Size.{Size}
use Rattle.ac_claims.specs.declared.types.Claim.{Claim}
use Rattle.ac_unfold.specs.StartResults.{HasDomains}

pub have_domains : (g : Pairing) (c : Claim) (o p : Option Size) (left right : Size) → o ≡ option_map size_of (domain g.left c.left) → p ≡ option_map size_of (domain g.right c.right) → o ≡ Some left → p ≡ Some right → HasDomains g c
have_domains g c o p left right e f l r =
    let a = map-some (domain g.left c.left) size_of left (sym e ∙ l) in
    let b = map-some (domain g.right c.right) size_of right (sym f ∙ r) in
    record { left = a.0; left_is = a.1; right = b.0; right_is = b.1 }
