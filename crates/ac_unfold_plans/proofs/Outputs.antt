-- The claim of an output that stands is of each of its pairs.
use Rattle.std.proofs.Common.{◌≡◌, Bool, inl, inr, ℕ, ◌+◌, ◌&&◌, ℤ, List, [], ◌∷◌, ◌++◌, true, Option, Some, None, refl, sym, ap, ◌∙◌, subst, arith, length}
use Rattle.std.specs.Prelude.{slice_get, nat_eq, option_map}
use Rattle.std.specs.List.{list_any}
use Rattle.ac_forms.specs.Renaming.{picked}
use Rattle.ac_forms.specs.Rows.{Meets, HaveModuli, AreRowsOver}
use Rattle.ac_forms.specs.Standing.{all_stand}
use Rattle.ac_forms.specs.declared.row.Row.{Row}
use Rattle.ac_forms.proofs.Joining.{both_of}
use Rattle.ac_forms.proofs.Passes.{moduli_of}
use Rattle.ac_forms.proofs.Standings.{all-hold}
use Rattle.ac_syntax.specs.declared.tree.Pair.{Pair}
use Rattle.ac_syntax.specs.declared.tree.Position.{Position}
use Rattle.ac_syntax.specs.declared.tree.Position.TheVariants.{Output}
use Rattle.ac_poly.specs.ModelMeaning.{values_at}
use Rattle.ac_cert.specs.declared.types.Rule.TheVariants as rule
use Rattle.ac_omega_steps.proofs.Keeping.{Meets-append}
use Rattle.ac_base.proofs.Options.{map-some}
use Rattle.ac_cert.proofs.Soundness.{first-none}
use Rattle.ac_claims_paths.specs.PathColumns.{columns_of, equal_forms}
use Rattle.ac_claims_paths.specs.Executions.{At}
use Rattle.ac_claims_paths.specs.PathSteps.{Pairing}
use Rattle.ac_forms.specs.ListMembers.{IsAmong}
use Rattle.ac_claims_paths.specs.ModelPositions.{element_forms}
use Rattle.ac_claims_paths.proofs.Heres.{element_values}
use Rattle.ac_claims_paths.proofs.InBranches.{made-wide}
use Rattle.ac_claims_paths.proofs.Moving.{equal-values, equal-within, appended-parts, meets-both, made-both}
use Rattle.ac_claims_paths.proofs.OnPaths.{seat_columns}
use Rattle.ac_claims.specs.ProofEnds.{same_position}
use Rattle.ac_claims.specs.PlanFaults.{fault_unless}
use Rattle.ac_claims.specs.ProofFaults.{Domain, domain, left_seat, right_seat, start_columns, piece_rows, output_rows, all_stand_among, asks_by, asks_no_more, output_stands, outputs_fault}
use Rattle.ac_claims.specs.Soundness.{ArePaired}
use Rattle.ac_claims.specs.declared.types.Claim.{Claim}
use Rattle.ac_claims.proofs.Claimed.{Setting as Judged}
use Rattle.ac_claims.proofs.Plans.{position_is, unless_none}
use Rattle.ac_claims.proofs.Trees.{InDomain, domain_point, domain_moduli, start_point, pieces_meet, pieces_made}
use Rattle.ac_widen_programs.specs.PairSetting.{IsOutputPair}
use Rattle.ac_unfold_plans.specs.PlanStops.{programs_of}
use Rattle.ac_unfold_plans.proofs.Claimed.{IsClaimed}
use Rattle.ac_unfold_plans.proofs.Trees.{judged}
use Rattle.ac_claims.proofs.Headline.{stood, only, element_meets, Stood}

-- an output that stands is claimed at each element
stands_claimed : (pair : Pair) (part : ℕ → Bool) (cs : List Claim) (t : ArePaired pair) (moduli : (i : ℕ) (c : Claim) → slice_get cs i ≡ Some c → HaveModuli c.rows) (outputs : List ℕ) (key : Position × Position) (p : List ℤ) (h : IsOutputPair pair outputs key p)
    (i : ℕ) (c : Claim) → slice_get cs i ≡ Some c → part i ≡ true → c.left ≡ Output h.output → c.right ≡ Output h.output → Stood (programs_of pair) c → IsClaimed pair part cs key p
stands_claimed pair part cs t moduli outputs key p h i c ic within lo ro s =
    let params = h.there.params in
    let g = judged pair cs t moduli params h.there.compared in
    let e = h.there.a.at in
    let lk : h.there.a.position ≡ c.left = h.left_is ∙ sym lo in
    let rk : h.there.b.position ≡ c.right = h.right_is ∙ sym ro in
    let hl : At g.on.left c.left e h.there.a.spot = subst (λ (P : Position). At g.on.left P e h.there.a.spot) lk h.there.a.here in
    let hr : At g.on.right c.right e h.there.b.spot = subst (λ (z : List ℤ). At g.on.right c.right z h.there.b.spot) (sym h.one_element) (subst (λ (P : Position). At g.on.right P h.there.b.at h.there.b.spot) rk h.there.b.here) in
    let pl = domain_point g.on.pairing.left params g.on.left g.on.describes_left c.left e h.there.a.spot s.left s.left_is hl in
    let pr = domain_point g.on.pairing.right params g.on.right g.on.describes_right c.right e h.there.b.spot s.right s.right_is hr in
    let ml = domain_moduli g.on.pairing.left params g.on.left g.on.describes_left c.left s.left s.left_piece s.left_is (subst (IsAmong s.left_piece) (sym s.left_pieces) (inl refl)) in
    let mr = domain_moduli g.on.pairing.right params g.on.right g.on.describes_right c.right s.right s.right_piece s.right_is (subst (IsAmong s.right_piece) (sym s.right_pieces) (inl refl)) in
    let meets = element_meets g c s e (moduli i c ic) pl pr ml mr in
    let at : params ++ (e ++ e) ≡ p = ap (λ (z : List ℤ). params ++ (e ++ z)) h.one_element ∙ sym h.there.placed.point_is in
    let kl : c.left ≡ key.0 = sym lk ∙ h.there.placed.left_is in
    let kr : c.right ≡ key.1 = sym rk ∙ h.there.placed.right_is in
    record { number = i; claim = c; is = ic; within = within; key_is = λ n. (kl n, kr n); there = h.there; meets = subst (Meets c.rows) at meets }

-- an output that the proof names stands
named_stands : (g : Pairing) (all : List ℕ) (cs : List Claim) (os : List (ℕ × ℕ)) (k : ℕ) → outputs_fault g all cs os k ≡ None → (o i : ℕ) → IsAmong (o, i) os → output_stands g all o (slice_get cs i) ≡ true
named_stands g all cs [] k e o i n = absurd n
named_stands g all cs (x ∷ os) k e o i (inl q) =
    let f = first-none (fault_unless (output_stands g all x.0 (slice_get cs x.1)) k rule.Output) (outputs_fault g all cs os (k + 1)) e in
    subst (λ (z : ℕ × ℕ). output_stands g all z.0 (slice_get cs z.1) ≡ true) (sym q) (unless_none (output_stands g all x.0 (slice_get cs x.1)) k rule.Output f.0)
named_stands g all cs (x ∷ os) k e o i (inr n) =
    let f = first-none (fault_unless (output_stands g all x.0 (slice_get cs x.1)) k rule.Output) (outputs_fault g all cs os (k + 1)) e in
    named_stands g all cs os (k + 1) f.1 o i n

-- each output pair of an output that the proof names is claimed
pub output_claimed : (pair : Pair) (part : ℕ → Bool) (cs : List Claim) (t : ArePaired pair) (moduli : (i : ℕ) (c : Claim) → slice_get cs i ≡ Some c → HaveModuli c.rows) (os : List (ℕ × ℕ)) (k : ℕ) → outputs_fault (programs_of pair) pair.outputs cs os k ≡ None
    → (outputs : List ℕ) → ((o : ℕ) → IsAmong o outputs → (i : ℕ) × IsAmong (o, i) os × (part i ≡ true)) → (key : Position × Position) (p : List ℤ) → IsOutputPair pair outputs key p → IsClaimed pair part cs key p
output_claimed pair part cs t moduli os k e outputs named key p h =
    let n = named h.output h.among in
    by n.0 (slice_get cs n.0) n.2 refl (named_stands (programs_of pair) pair.outputs cs os k e h.output n.0 n.1)
  where
    by : (i : ℕ) (c : Option Claim) → part i ≡ true → slice_get cs i ≡ c → output_stands (programs_of pair) pair.outputs h.output c ≡ true → IsClaimed pair part cs key p
    by i None w q e = absurd cc
    by i (Some c) w q e =
        let g = programs_of pair in
        let a = both_of (list_any (nat_eq h.output) pair.outputs) (same_position c.left (Output h.output) && (same_position c.right (Output h.output) && asks_no_more g c (domain g.left c.left) (domain g.right c.right))) e in
        let b = both_of (same_position c.left (Output h.output)) (same_position c.right (Output h.output) && asks_no_more g c (domain g.left c.left) (domain g.right c.right)) a.1 in
        let d = both_of (same_position c.right (Output h.output)) (asks_no_more g c (domain g.left c.left) (domain g.right c.right)) b.1 in
        stands_claimed pair part cs t moduli outputs key p h i c q w (position_is c.left (Output h.output) b.0) (position_is c.right (Output h.output) d.0) (stood g c d.1)
