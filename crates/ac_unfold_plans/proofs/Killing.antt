-- The kills of a flow on a path that follows a question.
use Rattle.std.proofs.Common.{◌≡◌, ℕ, ◌+◌, List, ◌++◌, Option, Some, None, refl, sym, ap, ◌∙◌, subst}
use Rattle.ac_forms.specs.Renaming.{rows_renaming}
use Rattle.ac_forms.specs.declared.conj.Conj.{Conj}
use Rattle.ac_forms.specs.declared.row.Row.{Row}
use Rattle.ac_poly.specs.declared.types.Model.{Model}
use Rattle.ac_claims_paths.specs.PathColumns.{base, columns_of}
use Rattle.ac_claims_paths.specs.PathSteps.{Pairing, model_of}
use Rattle.ac_claims_paths.specs.CopyKills.{case_columns, case_width, source_columns, source_width, seat_from, source_from}
use Rattle.ac_claims_paths.specs.declared.path.Assumed.{Assumed}
use Rattle.ac_claims_paths.specs.declared.path.Path.{Path}
use Rattle.ac_claims_paths.specs.declared.path.Seat.{Seat}
use Rattle.ac_claims.specs.PlanFaults.{kill_fault}
use Rattle.ac_claims.specs.declared.types.Claim.{Claim}
use Rattle.ac_claims.specs.declared.types.Kill.{Kill}
use Rattle.ac_claims.specs.declared.types.Plan.{Plan}
use Rattle.ac_claims.specs.declared.types.PlanNext.TheVariants.{Killed}
use Rattle.ac_claims_plans.specs.PlanAcceptance.{AcceptsPlan}
use Rattle.ac_claims_plans.specs.declared.embedding.Embedding.{Embedding}
use Rattle.ac_flow.specs.KillAcceptance.{IsAssumedOn, assumed_by, on_path}
use Rattle.ac_flow.proofs.Acceptance.{standing_accepted, ends_plans}
use Rattle.ac_claims_plans.specs.QuestionPaths.{ArePlaced, SeatOn, SourceOn, AssumedOn, Follows}
use Rattle.ac_unfold_plans.specs.PlanEnds.{IsEnd}
use Rattle.ac_unfold_plans.specs.KillEnds.{IsKillAt, kill_on, KillsAreAccepted, KillsArePlans}
use Rattle.ac_unfold_plans.specs.RowsAlongPaths.{RowsStandOn}
use Rattle.ac_claims_plans.proofs.Views.{embedding-names}
use Rattle.ac_claims_plans.proofs.Along.{rows-along, placed-both}
use Rattle.ac_unfold_plans.proofs.Carrying.{made-there, on-path}

-- ---- what was assumed last, on the path

source-placed : (places : List ℕ) (a b : Option Seat) → SourceOn places a b → ArePlaced places (source_columns a) (source_columns b)
source-placed places None None h = tt
source-placed places None (Some b) h = absurd h
source-placed places (Some a) None h = absurd h
source-placed places (Some a) (Some b) h = h.coordinates

source-width : (places : List ℕ) (a b : Option Seat) → SourceOn places a b → source_width b ≡ source_width a
source-width places None None h = refl
source-width places None (Some b) h = absurd h
source-width places (Some a) None h = absurd h
source-width places (Some a) (Some b) h = h.width

seat-same : (places : List ℕ) (first : ℕ) (a b : Seat) → SeatOn places a b → seat_from first b ≡ seat_from first a
seat-same places first a b h = λ i. record { position = h.position i; first = first; width = h.width i }

source-same : (places : List ℕ) (first : ℕ) (a b : Option Seat) → SourceOn places a b → source_from first b ≡ source_from first a
source-same places first None None h = refl
source-same places first None (Some b) h = absurd h
source-same places first (Some a) None h = absurd h
source-same places first (Some a) (Some b) h = ap (λ s. Some s) (seat-same places first a b h)

case-placed : (params : ℕ) (places : List ℕ) (a b : Assumed) → ArePlaced places (base params) (base params) → AssumedOn places (Some a) (Some b) → ArePlaced places (case_columns params a) (case_columns params b)
case-placed params places a b p h =
    placed-both places (base params) (base params) (columns_of a.reader ++ source_columns a.source) (columns_of b.reader ++ source_columns b.source) p
    (placed-both places (columns_of a.reader) (columns_of b.reader) (source_columns a.source) (source_columns b.source) h.1.coordinates (source-placed places a.source b.source h.2))

case-width : (params : ℕ) (places : List ℕ) (a b : Assumed) → AssumedOn places (Some a) (Some b) → case_width params b ≡ case_width params a
case-width params places a b h = λ i. params + (h.1.width i + source-width places a.source b.source h.2 i)

assumed-there : (g : Pairing) (places : List ℕ) (a b : Assumed) (m : Model) (case : Assumed) → AssumedOn places (Some a) (Some b) → IsAssumedOn g a m case → IsAssumedOn g b m case
assumed-there g places a b m case h is = record {
  model = ap (model_of g) h.0 ∙ is.model;
  params = is.params;
  reader = seat-same places m.params a.reader b.reader h.1 ∙ is.reader;
  source = ap (λ w. source_from (m.params + w) b.source) h.1.width ∙ source-same places (m.params + a.reader.width) a.source b.source h.2 ∙ is.source;
}

-- ---- kills

killed-by : (g : Pairing) (s : Embedding) (q h : Path) (a b : Assumed) (kill : Conj × Kill) (wanted : List Row) (line : ℕ) → IsKillAt g q a kill wanted → Follows g.params s q h → AssumedOn s.columns (Some a) (Some b) → RowsStandOn s.columns h.conj wanted
    → kill_fault g h (Some b) (kill_on g s a kill.1) line ≡ None
killed-by g s q h a b kill wanted line k f on r =
    let m = rows-along s.next_column s.columns (embedding-names s q.conj h.conj f.stands) (case_columns g.params a) (case_columns g.params b) (case-placed g.params s.columns a b f.parameters on) kill.0.rows wanted k.rows in
    let stand = made-there g.params s q h wanted (rows_renaming (case_columns g.params b) kill.0.rows) f m r in
    let accepted = standing_accepted k.model k.reads k.case kill k.is g b h.conj.columns h.conj.rows (assumed-there g s.columns a b k.model (assumed_by k.model k.reads k.case) on k.assumed) stand in
    let same : on_path (case_width g.params b) h.conj.columns kill.1 ≡ kill_on g s a kill.1 = λ i. on_path (case-width g.params s.columns a b on i) (f.stands.path_columns i) kill.1 in
    ap (λ x. kill_fault g h (Some b) x line) (sym same) ∙ ends_plans g h b (on_path (case_width g.params b) h.conj.columns kill.1) line accepted

pub kills_accepted : KillsAreAccepted
kills_accepted g s q h a kill wanted line k f r = by h.last refl (subst (λ (o : Option Assumed). AssumedOn s.columns o h.last) k.last f.last)
  where
    by : (o : Option Assumed) → h.last ≡ o → AssumedOn s.columns (Some a) o → kill_fault g h o (kill_on g s a kill.1) line ≡ None
    by (Some b) e on = killed-by g s q h a b kill wanted line k f on r
    by None e on = absurd on

kill-accepted : (g : Pairing) (cs : List Claim) (h : Path) (t : Plan) (kill : Kill) → IsEnd (Killed kill) t → ((line : ℕ) → kill_fault g h h.last kill line ≡ None) → AcceptsPlan g cs t h
kill-accepted g cs h t kill e i = λ k. rw (e.0, e.1) (i k)

pub kills_plans : KillsArePlans
kills_plans g cs s q a kill wanted t k stand e = λ h f _.
    kill-accepted g cs h t (kill_on g s a kill.1) e (λ line. kills_accepted g s q h a kill wanted line k f (on-path g.params s q h wanted f stand))
