-- Hits on tabled claims.
use Rattle.std.specs.Prelude.{◌≡◌, ℕ, false, Some, slice_get}
use Rattle.ac_forms.specs.Renaming.{AreColumns}
use Rattle.ac_forms.specs.Rows.{HaveModuli}
use Rattle.ac_claims_paths.specs.declared.path.Path.{Path}
use Rattle.ac_claims.specs.ProofEnds.{is_hit}
use Rattle.ac_claims.specs.declared.types.Claim.{Claim}
use Rattle.ac_unfold.specs.KillCuts.{columns_there}
use Rattle.ac_unfold.specs.PlanResults.{judge_of}
use Rattle.ac_unfold.specs.declared.ends.Search.{Search}

-- the tabled claim with the number is not hit on the question, where each modulus in its rows is at least 1 and the columns of both positions are there
abbrev pub IsMissed : Search → Path → ℕ → Type 0
IsMissed search q number = (claim : Claim) → slice_get search.tabled.now number ≡ Some claim → HaveModuli claim.rows → AreColumns q.conj.columns (columns_there search q) → is_hit (judge_of search) q (Some claim) ≡ false
