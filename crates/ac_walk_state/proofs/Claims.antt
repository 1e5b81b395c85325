-- Claims and outputs of a proof without fault, with further ones behind them.
use Rattle.std.proofs.Common.{◌≡◌, ℕ, ◌+◌, List, [], ◌∷◌, ◌++◌, length, true, Option, Some, None, refl, ap, ◌∙◌}
use Rattle.std.specs.Prelude.{slice_get, nat_le}
use Rattle.std.specs.List.{AllByRecursion}
use Rattle.std.proofs.lemmas.Bool.{le-leb}
use Rattle.ac_forms.specs.Rows.{AreRowsOver, HaveModuli, form_of}
use Rattle.ac_forms.specs.declared.row.Row.{Row}
use Rattle.ac_forms.proofs.Passes.{moduli_of}
use Rattle.ac_cert.specs.declared.types.Rule.TheVariants as rule
use Rattle.ac_cert.proofs.Soundness.{first-none}
use Rattle.ac_claims_paths.specs.PathSteps.{Pairing}
use Rattle.ac_claims.specs.CheckKnowledge.{IsClaimMade}
use Rattle.ac_claims.specs.PlanFaults.{fault_unless}
use Rattle.ac_claims.specs.ProofFaults.{Domain, claim_fault, claim_fault_at, claim_rows_fault, claims_fault, domain, output_stands, outputs_fault, start_columns}
use Rattle.ac_claims.specs.declared.types.Claim.{Claim}
use Rattle.ac_claims.proofs.Plans.{unless_none}
use Rattle.ac_walk_state.proofs.ListElements.{get_before}
use Rattle.ac_walk_state.proofs.Longer.{both_none, holds_none}

-- ---- claims

rows_fine : (n : ℕ) (rows : List Row) (k : ℕ) → AreRowsOver n rows → claim_rows_fault n rows k ≡ None
rows_fine n [] k h = refl
rows_fine n (r ∷ rows) k h =
    both_none (fault_unless (nat_le (length (form_of r).coefs) n) k rule.Claim) (claim_rows_fault n rows (k + 1)) (holds_none (nat_le (length (form_of r).coefs) n) k rule.Claim (le-leb (length (form_of r).coefs) n h.0.0)) (rows_fine n rows (k + 1) h.1)

rows_again : (n : ℕ) (rows : List Row) (k j : ℕ) → claim_rows_fault n rows k ≡ None → claim_rows_fault n rows j ≡ None
rows_again n [] k j e = refl
rows_again n (r ∷ rows) k j e =
    let f = first-none (fault_unless (nat_le (length (form_of r).coefs) n) k rule.Claim) (claim_rows_fault n rows (k + 1)) e in
    both_none (fault_unless (nat_le (length (form_of r).coefs) n) j rule.Claim) (claim_rows_fault n rows (j + 1)) (holds_none (nat_le (length (form_of r).coefs) n) j rule.Claim (unless_none (nat_le (length (form_of r).coefs) n) k rule.Claim f.0)) (rows_again n rows (k + 1) (j + 1) f.1)

made_fine : (g : Pairing) (c : Claim) (k : ℕ) → IsClaimMade g c → claim_fault g c k ≡ None
made_fine g c k m = (λ i. claim_fault_at g (m.left_is i) (m.right_is i) c.rows k) ∙ rows_fine (start_columns g m.left m.right) c.rows (k + 1) m.rows

claim_again : (g : Pairing) (o o' : Option Domain) (rows : List Row) (k j : ℕ) → claim_fault_at g o o' rows k ≡ None → claim_fault_at g o o' rows j ≡ None
claim_again g None o' rows k j e = absurd cc
claim_again g (Some a) None rows k j e = absurd cc
claim_again g (Some a) (Some b) rows k j e = rows_again (start_columns g a b) rows (k + 1) (j + 1) e

all_made : (g : Pairing) (cs : List Claim) (k : ℕ) → AllByRecursion (IsClaimMade g) cs → claims_fault g cs k ≡ None
all_made g [] k h = refl
all_made g (c ∷ cs) k h = both_none (claim_fault g c k) (claims_fault g cs (k + (1 + length c.rows))) (made_fine g c k h.0) (all_made g cs (k + (1 + length c.rows)) h.1)

pub claims_longer : (g : Pairing) (cs more : List Claim) (k j : ℕ) → claims_fault g cs k ≡ None → AllByRecursion (IsClaimMade g) more → claims_fault g (cs ++ more) j ≡ None
claims_longer g [] more k j e h = all_made g more j h
claims_longer g (c ∷ cs) more k j e h =
    let f = first-none (claim_fault g c k) (claims_fault g cs (k + (1 + length c.rows))) e in
    both_none (claim_fault g c j) (claims_fault g (cs ++ more) (j + (1 + length c.rows))) (claim_again g (domain g.left c.left) (domain g.right c.right) c.rows k j f.0) (claims_longer g cs more (k + (1 + length c.rows)) (j + (1 + length c.rows)) f.1 h)

pub made_moduli : (g : Pairing) (cs : List Claim) → AllByRecursion (IsClaimMade g) cs → AllByRecursion (λ (c : Claim). HaveModuli c.rows) cs
made_moduli g [] h = tt
made_moduli g (c ∷ cs) h = (moduli_of (start_columns g h.0.left h.0.right) c.rows h.0.rows, made_moduli g cs h.1)

-- ---- outputs

stands_again : (g : Pairing) (outputs : List ℕ) (cs more : List Claim) (o i : ℕ) → output_stands g outputs o (slice_get cs i) ≡ true → output_stands g outputs o (slice_get (cs ++ more) i) ≡ true
stands_again g outputs cs more o i e = by (slice_get cs i) refl e
  where
    by : (c : Option Claim) → slice_get cs i ≡ c → output_stands g outputs o c ≡ true → output_stands g outputs o (slice_get (cs ++ more) i) ≡ true
    by None q f = absurd cc
    by (Some c) q f = ap (output_stands g outputs o) (get_before cs more i c q) ∙ f

pub outputs_longer : (g : Pairing) (outputs : List ℕ) (cs more : List Claim) (os : List (ℕ × ℕ)) (last : ℕ × ℕ) (k j : ℕ) → outputs_fault g outputs cs os k ≡ None → output_stands g outputs last.0 (slice_get (cs ++ more) last.1) ≡ true
    → outputs_fault g outputs (cs ++ more) (os ++ last ∷ []) j ≡ None
outputs_longer g outputs cs more [] last k j e s = both_none (fault_unless (output_stands g outputs last.0 (slice_get (cs ++ more) last.1)) j rule.Output) None (holds_none (output_stands g outputs last.0 (slice_get (cs ++ more) last.1)) j rule.Output s) refl
outputs_longer g outputs cs more (o ∷ os) last k j e s =
    let f = first-none (fault_unless (output_stands g outputs o.0 (slice_get cs o.1)) k rule.Output) (outputs_fault g outputs cs os (k + 1)) e in
    both_none (fault_unless (output_stands g outputs o.0 (slice_get (cs ++ more) o.1)) j rule.Output) (outputs_fault g outputs (cs ++ more) (os ++ last ∷ []) (j + 1))
    (holds_none (output_stands g outputs o.0 (slice_get (cs ++ more) o.1)) j rule.Output (stands_again g outputs cs more o.0 o.1 (unless_none (output_stands g outputs o.0 (slice_get cs o.1)) k rule.Output f.0)))
    (outputs_longer g outputs cs more os last (k + 1) (j + 1) f.1 s)
