-- A judge of proofs accepts the kills of a flow.
use Rattle.std.proofs.Common.{◌≡◌, ℕ, ◌+◌, ◌&&◌, true, List, [], ◌∷◌, Option, Some, None, sym, ap, ◌∙◌, subst}
use Rattle.std.specs.List.{range_with_len}
use Rattle.ac_forms.specs.NormalForm.{RowsFit}
use Rattle.ac_forms.specs.Renaming.{rows_renaming}
use Rattle.ac_forms.specs.declared.conj.Conj.{Conj}
use Rattle.ac_forms.specs.declared.row.Row.{Row}
use Rattle.ac_forms.proofs.Twins.{rows_fit-is}
use Rattle.ac_cert.specs.CertificateFaults.{step_fault}
use Rattle.ac_omega_steps.specs.declared.choose.Choice.{Choice}
use Rattle.ac_cert.specs.declared.types.Rule.TheVariants as rule
use Rattle.ac_base.proofs.Options.{bind-some, some-is}
use Rattle.ac_claims.specs.PlanFaults.{fault_unless, choices_fault}
use Rattle.ac_claims.specs.declared.types.Kill.{Kill}
use Rattle.ac_poly.specs.declared.types.Model.{Model}
use Rattle.ac_claims_paths.specs.PathSteps.{Pairing}
use Rattle.ac_claims_paths.specs.CopyKills.{case_columns, case_width, chosen, all_chosen, ends_before, is_killed}
use Rattle.ac_claims_paths.specs.PathRows.{made_and_stand}
use Rattle.ac_claims_paths.specs.declared.path.Assumed.{Assumed}
use Rattle.ac_claims_paths.specs.declared.path.Path.{Path}
use Rattle.ac_claims_paths.proofs.Moduli.{rows_moduli}
use Rattle.ac_flow.specs.FlowCases.{Reads}
use Rattle.ac_flow.specs.KillReplay.{IsReplayed}
use Rattle.ac_flow.specs.Writings.{alone}
use Rattle.ac_flow.specs.declared.types.Case.{Case}
use Rattle.ac_flow.specs.KillAcceptance.{assumed_source, assumed_by, IsAssumedOn, on_path, IsAccepted, AcceptedKillsEndPlans, StandingKillsAreAccepted, KillsThereAreAccepted, OwnKillsAreAccepted}
use Rattle.ac_flow.proofs.KillParts.{kill_parts, own_source}
use Rattle.ac_flow.proofs.NormalRows.{left_rows_fit}
use Rattle.ac_flow.proofs.OnPaths.{width_same, copy_same, all_behind}
use Rattle.ac_flow.proofs.OwnColumns.{own_rows, own_columns}
use Rattle.ac_flow.proofs.RowsThere.{all_there, moduli_of}

-- ---- on a path

on_path_accepted : (m : Model) (r : Reads) (case : Case) (kill : Conj × Kill) → IsReplayed m (assumed_by m r case) kill → (g : Pairing) (a : Assumed) (columns : ℕ) (rows : List Row) → IsAssumedOn g a m (assumed_by m r case)
    → made_and_stand rows (rows_renaming (case_columns g.params a) kill.0.rows) ≡ true → IsAccepted g a columns rows (on_path (case_width g.params a) columns kill.1)
on_path_accepted m r case kill h g a columns rows o stand =
    let b = assumed_by m r case in
    let n = case_width g.params a in
    let w : case_width m.params b ≡ n = sym (width_same g a m b o) in
    let ends : ends_before n h.left.rows ≡ true = subst (λ k. ends_before k h.left.rows ≡ true) w h.ends in
    let made : made_and_stand rows (rows_renaming (case_columns g.params a) h.left.rows) ≡ true = ap (λ (rs : List Row). made_and_stand rows (rows_renaming (case_columns g.params a) rs)) h.rows ∙ stand in
    record {
      copy = h.copy;
      there = copy_same g a m r case o kill.1.stmt kill.1.piece kill.1.after kill.1.before ∙ h.there;
      left = h.left;
      chosen_all = all_behind n columns kill.1.choices h.copy h.left (subst (λ k. all_chosen k k kill.1.choices h.copy ≡ Some h.left) w h.chosen_all);
      killed = λ i. ends i && made i;
    }

pub standing_accepted : StandingKillsAreAccepted
standing_accepted m r case kill h g a columns rows o stand = on_path_accepted m r case kill (kill_parts m r case kill h).replayed g a columns rows o stand

pub there_accepted : KillsThereAreAccepted
there_accepted m r case kill h g a columns rows wanted o e there =
    let k = kill_parts m r case kill h in
    let moduli = rows_moduli (case_columns g.params a) kill.0.rows wanted (moduli_of (case_width m.params (assumed_by m r case)) kill.0.rows k.over) e in
    let stand = all_there rows wanted there.point there.among moduli ((rows_fit-is wanted).0 there.fit) there.meets in
    on_path_accepted m r case kill k.replayed g a columns rows o (ap (made_and_stand rows) e ∙ stand)

-- ---- over its own columns

pub own_accepted : OwnKillsAreAccepted
own_accepted m r case kill h rows w =
    let b = assumed_by m r case in
    let n = case_width m.params b in
    let k = kill_parts m r case kill h in
    let p = k.replayed in
    let ks : case_columns m.params b ≡ range_with_len 0 n = own_columns m.params r.count (assumed_source m r case) (own_source m r case) in
    let same : rows_renaming (case_columns m.params b) kill.0.rows ≡ Some kill.0.rows =
    ap (λ (cs : List ℕ). rows_renaming cs kill.0.rows) ks ∙ own_rows n kill.0.rows k.over (λ row i. w.numbers row (w.among row i)) in
    let fit : RowsFit kill.0.rows = subst RowsFit p.rows (left_rows_fit (alone m) b kill.1.stmt kill.1.piece kill.1.after kill.1.before n n kill.1.choices p.copy p.left p.there p.chosen_all) in
    let stand = all_there rows kill.0.rows w.point w.among (moduli_of n kill.0.rows k.over) fit w.meets in
    let made : made_and_stand rows (rows_renaming (case_columns m.params b) p.left.rows) ≡ true = ap (λ (rs : List Row). made_and_stand rows (rows_renaming (case_columns m.params b) rs)) p.rows ∙ ap (made_and_stand rows) same ∙ stand in
    record { copy = p.copy; there = p.there; left = p.left; chosen_all = p.chosen_all; killed = λ i. p.ends i && made i }

-- ---- an end of a plan

no_choice_fault : (params : ℕ) (h : Path) (a : Assumed) (first : ℕ) (xs : List Choice) (c left : Conj) (k : ℕ) → all_chosen h.conj.columns (case_width params a) xs c ≡ Some left → is_killed params h.conj.rows a left ≡ true → choices_fault params h a first xs c k ≡ None
no_choice_fault params h a first [] c left k e killed = ap (λ (d : Conj). fault_unless (is_killed params h.conj.rows a d) first rule.Killed) (some-is c left e) ∙ ap (λ b. fault_unless b first rule.Killed) killed
no_choice_fault params h a first (x ∷ xs) c left k e killed =
    let s = bind-some (chosen h.conj.columns (case_width params a) x c) (λ (d : Conj). all_chosen h.conj.columns (case_width params a) xs d) left e in
    ap (λ (o : Option Conj). step_fault o rule.Killed k (λ d. choices_fault params h a first xs d (k + 1))) s.1 ∙ no_choice_fault params h a first xs s.0 left (k + 1) s.2 killed

pub ends_plans : AcceptedKillsEndPlans
ends_plans g h a kill line t =
    ap (λ (o : Option Conj). step_fault o rule.Killed line (λ c. choices_fault g.params h a line kill.choices c (line + 1))) t.there ∙ no_choice_fault g.params h a line kill.choices t.copy t.left (line + 1) t.chosen_all t.killed
