-- What the ends of a plan rest on.
use Rattle.std.proofs.Common.{◌≡◌, ℕ, zero, suc, ◌<◌, ◌≤◌, List, [], ◌∷◌, length, get_or, false, Some, refl, ap, sym, subst, arith}
use Rattle.std.specs.Prelude.{slice_get}
use Rattle.std.proofs.lemmas.Option.{slice_get_past, slice_get_read}
use Rattle.ac_forms.specs.Rows.{HaveModuli}
use Rattle.ac_claims_paths.specs.declared.path.Path.{Path}
use Rattle.ac_claims.specs.Dues.{RowsHaveModuli}
use Rattle.ac_claims.specs.ProofEnds.{hits}
use Rattle.ac_claims.specs.declared.types.Claim.{Claim}

pub claim_moduli : (cs : List Claim) (i : ℕ) (c : Claim) → RowsHaveModuli cs → i < length cs → c ≡ get_or cs i c → HaveModuli c.rows
claim_moduli [] i c h l e = absurd (omega (arith, l))
claim_moduli (d ∷ cs) zero c h l e = subst (λ (y : Claim). HaveModuli y.rows) (sym e) h.0
claim_moduli (d ∷ cs) (suc i) c h l e = claim_moduli cs i c h.1 (omega (arith, l)) e

pub hits_past : (params : ℕ) (h : Path) (cs : List Claim) (i : ℕ) → length cs ≤ i → hits params h (slice_get cs i) ≡ false
hits_past params h cs i l = ap (hits params h) (slice_get_past cs i l)

pub hits_at : (params : ℕ) (h : Path) (cs : List Claim) (i : ℕ) (c : Claim) → i < length cs → c ≡ get_or cs i c → hits params h (slice_get cs i) ≡ hits params h (Some c)
hits_at params h cs i c l e = ap (hits params h) (slice_get_read cs (length cs) i c refl l e)

pub ruleset claim_steps = (claim_moduli, hits_past, hits_at)
