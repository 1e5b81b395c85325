-- The choices of a kill, replayed on the copy that it names, leave its rows.
use Rattle.std.proofs.Common.{◌≡◌, ℕ, zero, suc, ◌+◌, ◌-◌, ◌≤◌, nat_le, Bool, true, false, cond, ◌&&◌, ◌||◌, ◌==◌, List, [], ◌∷◌, ◌++◌, map, length, Option, Some, None, refl, sym, ap, ◌∙◌, subst, arith}
use Rattle.std.specs.Prelude.{slice_get, option_and_then, option_map}
use Rattle.std.specs.List.{range_with_len}
use Rattle.ac_forms.specs.NormalForm.{normal_conj}
use Rattle.ac_forms.specs.Rows.{form_of, AreRowsOver}
use Rattle.ac_forms.specs.RangeTests.{rows_fit}
use Rattle.ac_forms.specs.declared.conj.Conj.{Conj}
use Rattle.ac_forms.specs.declared.row.Row.{Row}
use Rattle.ac_forms.proofs.Joining.{both_of}
use Rattle.ac_claims.specs.declared.types.Kill.{Kill}
use Rattle.ac_omega_steps.specs.Choices.{is_legal, column_of}
use Rattle.ac_omega_steps.specs.ChoiceFits.{after_choice}
use Rattle.ac_omega_steps.specs.declared.choose.Choice.{Choice}
use Rattle.ac_omega_steps.specs.declared.choose.Choice.TheVariants as choice
use Rattle.ac_base.proofs.Options.{bind-some, map-some, if-some}
use Rattle.ac_flow.specs.CopyProjection.{columns_from}
use Rattle.ac_flow.specs.CaseRemainder.{AllKills}
use Rattle.ac_omega.specs.Projection.{is_among}
use Rattle.ac_omega.specs.Replays.{replayed, AreReached, AreOver}
use Rattle.ac_omega.specs.declared.piece.Piece.{Piece}
use Rattle.ac_poly.specs.declared.types.Model.{Model}
use Rattle.ac_poly.specs.declared.types.StmtModel.{StmtModel}
use Rattle.ac_claims_paths.specs.PathColumns.{all_of}
use Rattle.ac_claims_paths.specs.InstanceCoordinates.{width}
use Rattle.ac_claims_paths.specs.CopyKills.{case_width, with_own_columns, normal_of, copy_by, copy_rows, by_column, taken_legally, chosen, all_chosen, ends_before}
use Rattle.ac_claims_paths.specs.declared.path.Assumed.{Assumed}
use Rattle.ac_claims_paths.specs.declared.path.CopyNumbers.{CopyNumbers}
use Rattle.ac_claims_paths.specs.declared.path.Seat.{Seat}
use Rattle.ac_claims_paths.proofs.Moving.{all-cons}
use Rattle.ac_flow.specs.FlowCases.{Reads, kill_of, kills_of}
use Rattle.ac_flow.specs.KillReplay.{AllReplayed, KillsAreReplayed}
use Rattle.ac_flow.specs.Writings.{alone, reading, rows_of, over, conj_of, writings}

-- ---- choices by their own columns

by_own : (h : Choice) → by_column (column_of h) h ≡ h
by_own (choice.Drop y) = refl
by_own (choice.Equal y i) = refl
by_own (choice.Residue y m r) = refl
by_own (choice.Shadow y) = refl
by_own (choice.Splinter y i k) = refl

among-from : (n count z : ℕ) → is_among z (range_with_len n count) ≡ true → n ≤ z
among-from n zero z e = absurd cc
among-from n (suc count) z e = by (z == n) refl e (λ f. among-from (n + 1) count z f)
  where
    by : (b : Bool) → (z == n) ≡ b → (b || is_among z (range_with_len (n + 1) count)) ≡ true → (is_among z (range_with_len (n + 1) count) ≡ true → n + 1 ≤ z) → n ≤ z
    by true i f next = grind (arith, i)
    by false i f next = let l = next f in omega (arith, l)

pub le-true : (n z : ℕ) → n ≤ z → nat_le n z ≡ true
le-true n z l = by (nat_le n z) refl
  where
    by : (b : Bool) → nat_le n z ≡ b → b ≡ true
    by true e = refl
    by false e = absurd (grind (arith, e, l))

one_chosen : (n : ℕ) (h : Choice) (c d : Conj) → is_legal h c ≡ true → n ≤ column_of h → after_choice h c ≡ Some d → chosen n n h c ≡ Some d
one_chosen n h c d legal low after =
    let z : n + (column_of h - n) ≡ column_of h = omega (arith, low) in
    let same : by_column (n + (column_of h - n)) h ≡ h = ap (λ j. by_column j h) z ∙ by_own h in
    ap (λ b. cond b (taken_legally (by_column (n + (column_of h - n)) h) c) None) (le-true n (column_of h) low) ∙ ap (λ (x : Choice). taken_legally x c) same ∙ ap (λ b. cond b (after_choice h c) None) legal ∙ after

-- what replayed choices leave, chosen choices leave
all_chosen-of : (n count : ℕ) (hs : List Choice) (c rest : Conj) → replayed (range_with_len n count) hs c ≡ Some rest → all_chosen n n hs c ≡ Some rest
unfolding replayed
all_chosen-of n count [] c rest e = e
all_chosen-of n count (h ∷ hs) c rest e =
    let t = if-some (is_legal h c && is_among (column_of h) (range_with_len n count)) (option_and_then (replayed (range_with_len n count) hs) (after_choice h c)) rest e in
    let b = both_of (is_legal h c) (is_among (column_of h) (range_with_len n count)) t.0 in
    let s = bind-some (after_choice h c) (replayed (range_with_len n count) hs) rest t.1 in
    let one = one_chosen n h c s.0 b.0 (among-from n count (column_of h) b.1) s.1 in
    ap (λ (o : Option Conj). option_and_then (λ d. all_chosen n n hs d) o) one ∙ all_chosen-of n count hs s.0 rest s.2

ends : (n : ℕ) (rows : List Row) → AreRowsOver n rows → ends_before n rows ≡ true
ends n [] w = refl
ends n (r ∷ rows) w = (λ i. le-true (length (form_of r).coefs) n w.0.0 i && ends n rows w.1 i)

-- ---- the copy of a writing

copy_there : (m : Model) (a : Assumed) (w : CopyNumbers) (c : Conj) (n : ℕ) → a ≡ with_own_columns m.params a → (slice_get m.stmts w.stmt ≡ slice_get m.stmts w.stmt) → conj_of m a w ≡ Some c → rows_fit c.rows ≡ true
    → ((stmt : StmtModel) → copy_by (alone m) a w.stmt w.piece w.after w.before stmt ≡ option_and_then (normal_of (case_width m.params a + width stmt)) (copy_rows (alone m) (with_own_columns m.params a) (case_width m.params a) w.stmt w.piece w.after w.before stmt))
    → option_and_then (copy_by (alone m) a w.stmt w.piece w.after w.before) (slice_get m.stmts w.stmt) ≡ Some (normal_conj c)
copy_there m a w c n own same e fits by =
    let k = case_width m.params a in
    let s = bind-some (slice_get m.stmts w.stmt) (λ (stmt : StmtModel). option_map (over (k + width stmt)) (rows_of m a k w stmt)) c e in
    let q = map-some (rows_of m a k w s.0) (over (k + width s.0)) c s.2 in
    let rows_are : c.rows ≡ q.0 = ap (λ (x : Conj). x.rows) q.2 in
    let made : copy_rows (alone m) (with_own_columns m.params a) k w.stmt w.piece w.after w.before s.0 ≡ Some q.0 = (λ i. copy_rows (alone m) (sym own i) k w.stmt w.piece w.after w.before s.0) ∙ q.1 in
    let fit : rows_fit q.0 ≡ true = ap rows_fit (sym rows_are) ∙ fits in
    ap (option_and_then (copy_by (alone m) a w.stmt w.piece w.after w.before)) s.1
    ∙ by s.0
    ∙ ap (option_and_then (normal_of (k + width s.0))) made
    ∙ ap (λ b. cond b (Some (normal_conj (over (k + width s.0) q.0))) None) fit
    ∙ ap (λ (x : Conj). Some (normal_conj x)) (sym q.2)

-- ---- the kills of a case

append_replayed : (m : Model) (a : Assumed) (xs ys : List (Conj × Kill)) → AllReplayed m a xs → AllReplayed m a ys → AllReplayed m a (xs ++ ys)
append_replayed m a [] ys h k = k
append_replayed m a (x ∷ xs) ys h k = (h.0, append_replayed m a xs ys h.1 k)

of_copy : (m : Model) (r : Reads) (source : Option Seat) (w : CopyNumbers) (c : Conj) (found : List Piece) → reading m r.position r.count source ≡ with_own_columns m.params (reading m r.position r.count source)
    → conj_of m (reading m r.position r.count source) w ≡ Some c → AreReached (columns_from (case_width m.params (reading m r.position r.count source)) c) c found → AreOver (case_width m.params (reading m r.position r.count source)) found
    → AllReplayed m (reading m r.position r.count source) (map (kill_of (case_width m.params (reading m r.position r.count source)) w) found)
of_copy m r source w c [] own e h o = tt
of_copy m r source w c (x ∷ xs) own e h o =
    let a = reading m r.position r.count source in
    let n = case_width m.params a in (
      record {
        copy = normal_conj c;
        there = copy_there m a w c n own refl e h.0.fits (λ stmt. refl);
        left = x.rest;
        chosen_all = all_chosen-of n (c.columns - n) x.choices (normal_conj c) x.rest h.0.left;
        rows = refl;
        ends = ends n x.rest.rows o.0;
      },
      of_copy m r source w c xs own e h.1 o.1,
    )

of_copies : (m : Model) (r : Reads) (source : Option Seat) (ws : List CopyNumbers) (all : List Conj) (found : List (List Piece)) → reading m r.position r.count source ≡ with_own_columns m.params (reading m r.position r.count source)
    → all_of (map (conj_of m (reading m r.position r.count source)) ws) ≡ Some all → AllKills (case_width m.params (reading m r.position r.count source)) all found → AllReplayed m (reading m r.position r.count source) (kills_of (case_width m.params (reading m r.position r.count source)) ws found)
of_copies m r source [] all found own e k = tt
of_copies m r source (w ∷ ws) all [] own e k = tt
of_copies m r source (w ∷ ws) all (x ∷ found) own e k =
    let a = reading m r.position r.count source in
    let n = case_width m.params a in
    let b = all-cons (conj_of m a w) (map (conj_of m a) ws) all e in
    let h : AllKills n (b.0 ∷ b.1) (x ∷ found) = subst (λ (cs : List Conj). AllKills n cs (x ∷ found)) b.4 k in
    append_replayed m a (map (kill_of n w) x) (kills_of n ws found) (of_copy m r source w b.0 x own b.2 h.0.kills h.0.over) (of_copies m r source ws b.1 found own b.3 h.1)

pub kills_are_replayed : KillsAreReplayed
kills_are_replayed m r source columns rows left kills own wide h =
    let a = reading m r.position r.count source in
    subst (AllReplayed m a) (sym (h.are ∙ ap (λ n. kills_of n (writings m r.position r.array source) h.found) wide))
    (of_copies m r source (writings m r.position r.array source) h.all h.found own h.made (subst (λ n. AllKills n h.all h.found) wide h.killed))
