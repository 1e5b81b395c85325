-- A case: its copies, its kills, and what stops it.
use Rattle.std.proofs.Common.{◌≡◌, ◌⊎◌, inl, inr, ℕ, suc, ◌+◌, ◌≤◌, List, [], ◌∷◌, ◌++◌, map, length, Option, Some, None, refl, sym, ap, ◌∙◌, subst, arith}
use Rattle.std.specs.Prelude.{slice_get, option_and_then, option_map}
use Rattle.std.specs.List.{Contains}
use Rattle.std.proofs.lemmas.List.Elements.{Contains-append_left, Contains-append_right}
use Rattle.ac_forms.specs.Rows.{AreRowsOver}
use Rattle.ac_forms.specs.declared.conj.Conj.{Conj}
use Rattle.ac_forms.specs.declared.row.Row.{Row}
use Rattle.ac_omega.specs.declared.piece.Piece.{Piece}
use Rattle.ac_poly.specs.declared.types.Model.{Model}
use Rattle.ac_poly.specs.declared.types.StmtModel.{StmtModel}
use Rattle.ac_claims.specs.declared.types.Kill.{Kill}
use Rattle.ac_flow.specs.CutStops.{IfFull}
use Rattle.ac_flow.specs.Cuts.{AllHavePoints}
use Rattle.ac_flow.specs.CaseRemainder.{AllKills, AllOver, AreKillsOf, AllKillsOf}
use Rattle.ac_flow.specs.declared.cut.CutStop.{CutStop}
use Rattle.ac_flow.specs.declared.cut.CutStop.TheVariants.{Overflow, Spent, Full, Memory}
use Rattle.ac_flow.proofs.Remains.{found-over}
use Rattle.ac_claims_paths.specs.PathColumns.{all_of}
use Rattle.ac_base.proofs.Options.{bind-some, map-some, some-is}
use Rattle.ac_claims_paths.specs.InstanceCoordinates.{width}
use Rattle.ac_claims_paths.specs.PathSteps.{root}
use Rattle.ac_claims_paths.specs.CopyKills.{case_width, with_own_columns}
use Rattle.ac_forms.specs.ListMembers.{IsAmong}
use Rattle.ac_claims_paths.specs.declared.path.Assumed.{Assumed}
use Rattle.ac_claims_paths.specs.declared.path.CopyNumbers.{CopyNumbers}
use Rattle.ac_claims_paths.specs.declared.path.Seat.{Seat}
use Rattle.ac_claims_paths.proofs.InBranches.{made-wide}
use Rattle.ac_flow.specs.FlowCases.{Reads, CanRead, ArePiecesOver, AreParts, IsFoundFor, AllFound, IsCaseOf, IsSourceCase, IsInitialCase, kills_of}
use Rattle.ac_flow.specs.FlowStops.{UnformedStops, CopyOfStops, KillsStop, AreKillPieces, PieceStops, CutCaseStops, UnlessMemory, CaseStops, SourceStops}
use Rattle.ac_flow.specs.CaseOverflow.{AreGroups, AreCutCasesOf, AreOfWriting}
use Rattle.ac_flow.specs.CaseStops.{plain, IfFilled}
use Rattle.ac_flow.specs.declared.stop.CaseStop.{CaseStop}
use Rattle.ac_flow.specs.declared.stop.CaseStop.TheVariants as case
use Rattle.ac_flow.specs.Writings.{reading, rows_of, over, conj_of, writings}
use Rattle.ac_flow.specs.declared.types.Case.{Case}
use Rattle.ac_flow.specs.declared.types.Remainder.{Remainder}
use Rattle.ac_flow.proofs.CopySteps.{conj_behind}
use Rattle.ac_flow.proofs.KillSteps.{found_length}

-- ---- the copies of a case

pub record FoundAll (m : Model) (a : Assumed) (ws : List CopyNumbers) (ks : List (List Piece)) : Type 0 where
  pub all : List Conj
  pub made : all_of (map (conj_of m a) ws) ≡ Some all
  pub killed : AllKills (case_width m.params a) all ks

cons_made : (o : Option Conj) (os : List (Option Conj)) (c : Conj) (cs : List Conj) → o ≡ Some c → all_of os ≡ Some cs → all_of (o ∷ os) ≡ Some (c ∷ cs)
cons_made o os c cs e f = (λ i. option_and_then (λ x. option_map (λ xs. x ∷ xs) (f i)) (e i))

pub found_all : (budget : ℕ) (m : Model) (a : Assumed) (ws : List CopyNumbers) (ks : List (List Piece)) → AllFound budget m a ws ks → FoundAll m a ws ks
found_all budget m a [] [] h = record { all = []; made = refl; killed = tt }
found_all budget m a [] (k ∷ ks) h = absurd h
found_all budget m a (w ∷ ws) [] h = absurd h
found_all budget m a (w ∷ ws) (k ∷ ks) h =
    let r = found_all budget m a ws ks h.1 in
    record { all = h.0.copy ∷ r.all; made = cons_made (conj_of m a w) (map (conj_of m a) ws) h.0.copy r.all h.0.made r.made; killed = (h.0.kills, r.killed) }

-- ---- kill pieces

rows_of_pieces : List Piece → List (List Row)
rows_of_pieces [] = []
rows_of_pieces (x ∷ xs) = x.rest.rows ∷ rows_of_pieces xs

pub kill_rows : List (List Piece) → List (List Row)
kill_rows [] = []
kill_rows (k ∷ ks) = rows_of_pieces k ++ kill_rows ks

own-kills : (kills : List (List Row)) (found : List Piece) → ((kill : List Row) → Contains (rows_of_pieces found) kill → Contains kills kill) → AreKillsOf kills found
unfolding rows_of_pieces
own-kills kills [] f = tt
own-kills kills (x ∷ xs) f =
    (f x.rest.rows (0, omega arith, refl), own-kills kills xs (λ kill y. f kill (suc y.0, (let lt = y.1 in omega (arith, lt)), y.2)))

all-own : (kills : List (List Row)) (ks : List (List Piece)) → ((kill : List Row) → Contains (kill_rows ks) kill → Contains kills kill) → AllKillsOf kills ks
unfolding kill_rows
all-own kills [] f = tt
all-own kills (k ∷ ks) f =
    (own-kills kills k (λ kill y. f kill (Contains-append_left (rows_of_pieces k) (kill_rows ks) kill y)), all-own kills ks (λ kill y. f kill (Contains-append_right (rows_of_pieces k) (kill_rows ks) kill y)))

pieces-of : (budget : ℕ) (m : Model) (a : Assumed) (ws : List CopyNumbers) (w : CopyNumbers) (all xs : List Piece) → IsAmong w ws → IsFoundFor budget m a w all → ((x : Piece) → Contains xs x → Contains all x) → AreKillPieces budget m a ws (rows_of_pieces xs)
unfolding rows_of_pieces
pieces-of budget m a ws w all [] k h f = tt
pieces-of budget m a ws w all (x ∷ xs) k h f = (
  record {
    writing = w;
    among = k;
    copy = h.copy;
    made = h.made;
    pieces = all;
    walk = h.walk;
    piece = x;
    found = f x (0, omega arith, refl);
    rows = refl;
  },
  pieces-of budget m a ws w all xs k h (λ y z. f y (suc z.0, (let lt = z.1 in omega (arith, lt)), z.2)),
)

kill-pieces-append : (budget : ℕ) (m : Model) (a : Assumed) (ws : List CopyNumbers) (ks ls : List (List Row)) → AreKillPieces budget m a ws ks → AreKillPieces budget m a ws ls → AreKillPieces budget m a ws (ks ++ ls)
kill-pieces-append budget m a ws [] ls x y = y
kill-pieces-append budget m a ws (k ∷ ks) ls x y = (x.0, kill-pieces-append budget m a ws ks ls x.1 y)

all-pieces : (budget : ℕ) (m : Model) (a : Assumed) (whole ws : List CopyNumbers) (ks : List (List Piece)) → ((w : CopyNumbers) → IsAmong w ws → IsAmong w whole) → AllFound budget m a ws ks → AreKillPieces budget m a whole (kill_rows ks)
unfolding kill_rows
all-pieces budget m a whole [] [] f h = tt
all-pieces budget m a whole [] (k ∷ ks) f h = absurd h
all-pieces budget m a whole (w ∷ ws) [] f h = absurd h
all-pieces budget m a whole (w ∷ ws) (k ∷ ks) f h =
    kill-pieces-append budget m a whole (rows_of_pieces k) (kill_rows ks) (pieces-of budget m a whole w k k (f w (inl refl)) h.0 (λ x y. y)) (all-pieces budget m a whole ws ks (λ v z. f v (inr z)) h.1)

-- ---- the steps of a case

pub same_length : (budget : ℕ) (m : Model) (a : Assumed) (ws us : List CopyNumbers) (ks ls : List (List Piece)) → AllFound budget m a ws ks → us ≡ ws → ls ≡ ks → length us ≡ length ls
same_length budget m a ws us ks ls h e f = ap length e ∙ found_length budget m a ws ks h ∙ ap length (sym f)

pub kills_over : (budget : ℕ) (m : Model) (a : Assumed) (ws : List CopyNumbers) (ks given : List (List Piece)) (columns : ℕ) → AllFound budget m a ws ks → given ≡ ks → columns ≡ case_width m.params a → AllOver columns given
kills_over budget m a ws ks given columns h e w =
    let r = found_all budget m a ws ks h in
    subst (AllOver columns) (sym e) (subst (λ n. AllOver n ks) (sym w) (found-over (case_width m.params a) r.all ks r.killed))

pub context_over : (m : Model) (r : Reads) (columns : ℕ) → CanRead m r → m.params + r.count ≤ columns → AreRowsOver columns m.context
context_over m r columns h l = made-wide m.context m.params columns (omega (arith, l)) h.context

pieces-wide : (n k : ℕ) (qs : List (List Row)) → n ≤ k → ArePiecesOver n qs → ArePiecesOver k qs
pieces-wide n k [] l h = tt
pieces-wide n k (q ∷ qs) l h = (made-wide q n k l h.0, pieces-wide n k qs l h.1)

pub pieces_over : (m : Model) (r : Reads) (columns : ℕ) → CanRead m r → m.params + r.count ≤ columns → ArePiecesOver columns r.pieces
pieces_over m r columns h l = pieces-wide (m.params + r.count) columns r.pieces l h.pieces

pub wide_enough : (m : Model) (r : Reads) (source : Option Seat) (columns : ℕ) → columns ≡ case_width m.params (reading m r.position r.count source) → m.params + r.count ≤ columns
wide_enough m r source columns e = omega (arith, e)

pub wide_as : (m : Model) (r : Reads) (source : Option Seat) (columns : ℕ) (a : Assumed) → a ≡ reading m r.position r.count source → columns ≡ case_width m.params (reading m r.position r.count source) → columns ≡ case_width m.params a
wide_as m r source columns a e w = w ∙ ap (case_width m.params) (sym e)

pub writings_as : (m : Model) (r : Reads) (source : Option Seat) (a : Assumed) (ws : List CopyNumbers) → a ≡ reading m r.position r.count source → ws ≡ writings m r.position r.array a.source → ws ≡ writings m r.position r.array source
writings_as m r source a ws e w = w ∙ ap (λ (b : Assumed). writings m r.position r.array b.source) e

pub case_is : (budget : ℕ) (m : Model) (r : Reads) (source : Option Seat) (columns : ℕ) (rows : List Row) (a : Assumed) (ws us vs : List CopyNumbers) (found given given' : List (List Piece)) (left : List Remainder) (kills : List (Conj × Kill))
    → a ≡ reading m r.position r.count source → columns ≡ case_width m.params (reading m r.position r.count source) → ws ≡ writings m r.position r.array source → us ≡ ws → vs ≡ ws → AllFound budget m a us found → given ≡ found → given' ≡ found
    → AreParts m columns rows given 0 r.pieces left → kills ≡ kills_of columns vs given' → IsCaseOf m r source columns rows left kills
case_is budget m r source columns rows a ws us vs found given given' left kills ea wide ew eu ev h eg eg' parts k =
    let s = reading m r.position r.count source in
    let all : AllFound budget m s (writings m r.position r.array source) found = subst (λ (x : List CopyNumbers). AllFound budget m s x found) (eu ∙ ew) (subst (λ (x : Assumed). AllFound budget m x us found) ea h) in
    let f = found_all budget m s (writings m r.position r.array source) found all in
    record {
      all = f.all;
      made = f.made;
      found = found;
      killed = subst (λ n. AllKills n f.all found) (sym wide) f.killed;
      budget = budget;
      walked = all;
      parts = subst (λ (x : List (List Piece)). AreParts m columns rows x 0 r.pieces left) eg parts;
      are = k ∙ (λ j. kills_of columns ((ev ∙ ew) j) (eg' j));
    }

pub unless_memory : (e : CutStop) (P : Type 0) → P → UnlessMemory e P
unless_memory (Overflow q) P h = h
unless_memory (Spent q k) P h = h
unless_memory Full P h = h
unless_memory (Memory x) P h = tt

pub kills_stop_case : (budget : ℕ) (m : Model) (r : Reads) (source : Option Seat) (columns : ℕ) (rows : List Row) (a : Assumed) (ws us : List CopyNumbers) (e : CutStop) → a ≡ reading m r.position r.count source → ws ≡ writings m r.position r.array source → us ≡ ws → KillsStop budget m a us e
    → CaseStops budget m r source columns rows e
kills_stop_case budget m r source columns rows a ws us e ea ew eu s =
    unless_memory e (KillsStop budget m (reading m r.position r.count source) (writings m r.position r.array source) e ⊎ CutCaseStops budget m (reading m r.position r.count source) (writings m r.position r.array source) columns rows r.pieces e) (inl (subst (λ (x : List CopyNumbers). KillsStop budget m (reading m r.position r.count source) x e) (eu ∙ ew) (subst (λ (x : Assumed). KillsStop budget m x us e) ea s)))

pub kills_stop_plain : (budget : ℕ) (m : Model) (r : Reads) (source : Option Seat) (columns : ℕ) (rows : List Row) (a : Assumed) (ws us : List CopyNumbers) (stop : CutStop) (e : CaseStop) → a ≡ reading m r.position r.count source → ws ≡ writings m r.position r.array source → us ≡ ws → KillsStop budget m a us stop
    → plain e ≡ stop → CaseStops budget m r source columns rows (plain e)
kills_stop_plain budget m r source columns rows a ws us stop e ea ew eu s p = subst (CaseStops budget m r source columns rows) (sym p) (kills_stop_case budget m r source columns rows a ws us stop ea ew eu s)

pub cut_stop_case : (budget : ℕ) (m : Model) (r : Reads) (source : Option Seat) (columns : ℕ) (rows : List Row) (a : Assumed) (ws us : List CopyNumbers) (found given : List (List Piece)) (e : CutStop) → a ≡ reading m r.position r.count source → ws ≡ writings m r.position r.array source → us ≡ ws
    → AllFound budget m a us found → given ≡ found → ((ks : List (List Row)) → AllKillsOf ks given → PieceStops budget m columns rows r.pieces ks e) → CaseStops budget m r source columns rows e
cut_stop_case budget m r source columns rows a ws us found given e ea ew eu h eg s =
    let b = reading m r.position r.count source in
    let all : AllFound budget m b (writings m r.position r.array source) found = subst (λ (x : List CopyNumbers). AllFound budget m b x found) (eu ∙ ew) (subst (λ (x : Assumed). AllFound budget m x us found) ea h) in
    unless_memory e (KillsStop budget m (reading m r.position r.count source) (writings m r.position r.array source) e ⊎ CutCaseStops budget m (reading m r.position r.count source) (writings m r.position r.array source) columns rows r.pieces e) (inr (record {
      kills = kill_rows found;
      found = all-pieces budget m b (writings m r.position r.array source) (writings m r.position r.array source) found (λ w k. k) all;
      stops = s (kill_rows found) (subst (AllKillsOf (kill_rows found)) (sym eg) (all-own (kill_rows found) found (λ kill y. y)));
    }))

-- what is kept of a case are cut cases of what is assumed
pub kept_case : (budget : ℕ) (m : Model) (r : Reads) (source : Option Seat) (columns : ℕ) (rows : List Row) (a : Assumed) (ws us : List CopyNumbers) (found given : List (List Piece)) (kept : List Conj) → a ≡ reading m r.position r.count source → ws ≡ writings m r.position r.array source → us ≡ ws
    → AllFound budget m a us found → given ≡ found → ((ks : List (List Row)) → AllKillsOf ks given → AreGroups m columns rows ks r.pieces kept) → AreCutCasesOf budget m r source columns rows kept
kept_case budget m r source columns rows a ws us found given kept ea ew eu h eg s =
    let b = reading m r.position r.count source in
    let all : AllFound budget m b (writings m r.position r.array source) found = subst (λ (x : List CopyNumbers). AllFound budget m b x found) (eu ∙ ew) (subst (λ (x : Assumed). AllFound budget m x us found) ea h) in
    record {
      kills = kill_rows found;
      found = all-pieces budget m b (writings m r.position r.array source) (writings m r.position r.array source) found (λ w k. k) all;
      groups = s (kill_rows found) (subst (AllKillsOf (kill_rows found)) (sym eg) (all-own (kill_rows found) found (λ kill y. y)));
    }

-- a fact of what is kept follows from another
pub filled_map : (e : CaseStop) (P Q : List Conj → Type 0) → ((kept : List Conj) → P kept → Q kept) → IfFilled e P → IfFilled e Q
filled_map (case.Overflow q) P Q f h = tt
filled_map (case.Spent q k) P Q f h = tt
filled_map (case.Full kept) P Q f h = f kept h
filled_map (case.Memory x) P Q f h = tt

pub filled_case : (budget : ℕ) (m : Model) (r : Reads) (source : Option Seat) (columns : ℕ) (rows : List Row) (a : Assumed) (ws us : List CopyNumbers) (found given : List (List Piece)) (room : ℕ) (e : CaseStop) → a ≡ reading m r.position r.count source → ws ≡ writings m r.position r.array source → us ≡ ws
    → AllFound budget m a us found → given ≡ found → IfFilled e (λ kept. (length kept ≡ room + 1) × AllHavePoints kept) → ((ks : List (List Row)) → AllKillsOf ks given → IfFilled e (AreGroups m columns rows ks r.pieces))
    → IfFilled e (λ kept. (length kept ≡ room + 1) × AllHavePoints kept × AreCutCasesOf budget m r source columns rows kept)
filled_case budget m r source columns rows a ws us found given room (case.Overflow q) ea ew eu h eg f s = tt
filled_case budget m r source columns rows a ws us found given room (case.Spent q k) ea ew eu h eg f s = tt
filled_case budget m r source columns rows a ws us found given room (case.Full kept) ea ew eu h eg f s = (f.0, f.1, kept_case budget m r source columns rows a ws us found given kept ea ew eu h eg s)
filled_case budget m r source columns rows a ws us found given room (case.Memory x) ea ew eu h eg f s = tt

-- elimination is never full
copy_not_full : (budget : ℕ) (m : Model) (a : Assumed) (w : CopyNumbers) (e : CutStop) (P : Type 0) → (UnformedStops m a w e ⊎ CopyOfStops budget m a w e) → IfFull e P
copy_not_full budget m a w (Overflow c) P h = tt
copy_not_full budget m a w (Spent c k) P h = tt
copy_not_full budget m a w Full P (inl h) = absurd h
copy_not_full budget m a w Full P (inr h) = absurd h.stops
copy_not_full budget m a w (Memory e) P h = tt

pub kills_not_full : (budget : ℕ) (m : Model) (a : Assumed) (ws : List CopyNumbers) (e : CutStop) (P : Type 0) → KillsStop budget m a ws e → IfFull e P
kills_not_full budget m a ws e P h = copy_not_full budget m a h.writing e P h.stops

-- ---- the case of a writing

-- its conjunction has an assignment, and is over the reader's columns and its own
pub record OwnOf (m : Model) (r : Reads) (w : CopyNumbers) (own : Conj) : Type 0 where
  pub stmt : StmtModel
  pub is : slice_get m.stmts w.stmt ≡ Some stmt
  pub wide : own.columns ≡ case_width m.params (reading m r.position r.count (Some (root (m.params + r.count) w.stmt stmt)))
  pub rows : AreRowsOver own.columns own.rows

pub own_of : (m : Model) (r : Reads) (w : CopyNumbers) (own : Conj) → CanRead m r → conj_of m (reading m r.position r.count None) w ≡ Some own → OwnOf m r w own
own_of m r w own h e =
    let a = reading m r.position r.count None in
    let n = case_width m.params a in
    let s = bind-some (slice_get m.stmts w.stmt) (λ (stmt : StmtModel). option_map (over (n + width stmt)) (rows_of m a n w stmt)) own e in
    let q = map-some (rows_of m a n w s.0) (over (n + width s.0)) own s.2 in
    let b = conj_behind m a w own h.moduli refl e in
    let c : own.columns ≡ n + width s.0 = ap (λ (x : Conj). x.columns) q.2 in
    record { stmt = s.0; is = s.1; wide = omega (arith, c); rows = b.made }

pub source_there : (m : Model) (r : Reads) (w : CopyNumbers) (own : Conj) (a : Assumed) (o : Option Conj) → CanRead m r → a ≡ reading m r.position r.count None → o ≡ conj_of m a w → o ≡ Some own → slice_get m.stmts w.stmt ≡ None → ⊥
source_there m r w own a o h ea e i n =
    let x = own_of m r w own h (ap (λ (b : Assumed). conj_of m b w) (sym ea) ∙ sym e ∙ i) in
    let j : None ≡ Some x.stmt = sym n ∙ x.is in
    cc

pub source_wide : (m : Model) (r : Reads) (w : CopyNumbers) (own : Conj) (a : Assumed) (o : Option Conj) (stmt : StmtModel) (first : ℕ) (seat : Seat) → CanRead m r → a ≡ reading m r.position r.count None → o ≡ conj_of m a w → o ≡ Some own → slice_get m.stmts w.stmt ≡ Some stmt
    → first ≡ m.params + r.count → seat ≡ root first w.stmt stmt → own.columns ≡ case_width m.params (reading m r.position r.count (Some seat))
source_wide m r w own a o stmt first seat h ea e i is f s =
    let x = own_of m r w own h (ap (λ (b : Assumed). conj_of m b w) (sym ea) ∙ sym e ∙ i) in
    let j : x.stmt ≡ stmt = some-is x.stmt stmt (sym x.is ∙ is) in
    x.wide ∙ (λ k. case_width m.params (reading m r.position r.count (Some (root (sym f k) w.stmt (j k))))) ∙ ap (λ (z : Seat). case_width m.params (reading m r.position r.count (Some z))) (sym s)

pub source_rows : (m : Model) (r : Reads) (w : CopyNumbers) (own : Conj) (a : Assumed) (o : Option Conj) (given : List Row) → CanRead m r → a ≡ reading m r.position r.count None → o ≡ conj_of m a w → o ≡ Some own → given ≡ own.rows → AreRowsOver own.columns given
source_rows m r w own a o given h ea e i g =
    let x = own_of m r w own h (ap (λ (b : Assumed). conj_of m b w) (sym ea) ∙ sym e ∙ i) in
    subst (AreRowsOver own.columns) (sym g) x.rows

pub source_own : (m : Model) (r : Reads) (u : ℕ) (stmt : StmtModel) (first : ℕ) (seat : Seat) → first ≡ m.params + r.count → seat ≡ root first u stmt → reading m r.position r.count (Some seat) ≡ with_own_columns m.params (reading m r.position r.count (Some seat))
source_own m r u stmt first seat f s =
    let e : seat ≡ root (m.params + r.count) u stmt = s ∙ ap (λ n. root n u stmt) f in
    subst (λ (z : Seat). reading m r.position r.count (Some z) ≡ with_own_columns m.params (reading m r.position r.count (Some z))) (sym e) refl

pub source_is : (m : Model) (r : Reads) (w : CopyNumbers) (own : Conj) (a : Assumed) (o : Option Conj) (stmt : StmtModel) (first : ℕ) (seat : Seat) (given : List Row) (left : List Remainder) (kills : List (Conj × Kill)) (case : Case) → a ≡ reading m r.position r.count None → o ≡ conj_of m a w → o ≡ Some own
    → slice_get m.stmts w.stmt ≡ Some stmt → first ≡ m.params + r.count → seat ≡ root first w.stmt stmt → given ≡ own.rows → IsCaseOf m r (Some seat) own.columns given left kills
    → case ≡ record { source = Some w.stmt; piece = w.piece; level = w.before; pieces = left; kills = kills } → IsSourceCase m r w case
source_is m r w own a o stmt first seat given left kills case ea e i is f s g h c =
    let j : seat ≡ root (m.params + r.count) w.stmt stmt = s ∙ ap (λ n. root n w.stmt stmt) f in
    subst (IsSourceCase m r w) (sym c) (record {
      source = refl;
      piece = refl;
      level = refl;
      stmt = stmt;
      is = is;
      own = own;
      formed = ap (λ (b : Assumed). conj_of m b w) (sym ea) ∙ sym e ∙ i;
      case_of = subst (λ (z : Seat). IsCaseOf m r (Some z) own.columns own.rows left kills) j (subst (λ (x : List Row). IsCaseOf m r (Some seat) own.columns x left kills) g h);
    })

unless_map : (e : CutStop) (P Q : Type 0) → (P → Q) → UnlessMemory e P → UnlessMemory e Q
unless_map (Overflow q) P Q f h = f h
unless_map (Spent q k) P Q f h = f h
unless_map Full P Q f h = f h
unless_map (Memory x) P Q f h = tt

pub source_stops : (budget : ℕ) (m : Model) (r : Reads) (w : CopyNumbers) (own : Conj) (a : Assumed) (o : Option Conj) (stmt : StmtModel) (first : ℕ) (seat : Seat) (given : List Row) (e : CutStop) → a ≡ reading m r.position r.count None → o ≡ conj_of m a w → o ≡ Some own
    → slice_get m.stmts w.stmt ≡ Some stmt → first ≡ m.params + r.count → seat ≡ root first w.stmt stmt → given ≡ own.rows → CaseStops budget m r (Some seat) own.columns given e → UnlessMemory e (SourceStops budget m r w e)
source_stops budget m r w own a o stmt first seat given x ea e i is f s g h =
    let j : seat ≡ root (m.params + r.count) w.stmt stmt = s ∙ ap (λ n. root n w.stmt stmt) f in
    let k : CaseStops budget m r (Some (root (m.params + r.count) w.stmt stmt)) own.columns own.rows x =
    subst (λ (z : Seat). CaseStops budget m r (Some z) own.columns own.rows x) j (subst (λ (y : List Row). CaseStops budget m r (Some seat) own.columns y x) g h) in
    unless_memory x (SourceStops budget m r w x) (inr (stmt, own, is, ap (λ (b : Assumed). conj_of m b w) (sym ea) ∙ sym e ∙ i, k))

pub source_kept : (budget : ℕ) (m : Model) (r : Reads) (w : CopyNumbers) (own : Conj) (a : Assumed) (o : Option Conj) (stmt : StmtModel) (first : ℕ) (seat : Seat) (given : List Row) (kept : List Conj) → a ≡ reading m r.position r.count None → o ≡ conj_of m a w → o ≡ Some own
    → slice_get m.stmts w.stmt ≡ Some stmt → first ≡ m.params + r.count → seat ≡ root first w.stmt stmt → given ≡ own.rows → AreCutCasesOf budget m r (Some seat) own.columns given kept → AreOfWriting budget m r w kept
source_kept budget m r w own a o stmt first seat given kept ea e i is f s g h =
    let j : seat ≡ root (m.params + r.count) w.stmt stmt = s ∙ ap (λ n. root n w.stmt stmt) f in
    let k : AreCutCasesOf budget m r (Some (root (m.params + r.count) w.stmt stmt)) own.columns own.rows kept =
    subst (λ (z : Seat). AreCutCasesOf budget m r (Some z) own.columns own.rows kept) j (subst (λ (y : List Row). AreCutCasesOf budget m r (Some seat) own.columns y kept) g h) in
    inr (stmt, own, is, ap (λ (b : Assumed). conj_of m b w) (sym ea) ∙ sym e ∙ i, k)

pub unformed_stops : (budget : ℕ) (m : Model) (r : Reads) (w : CopyNumbers) (a : Assumed) (e : CutStop) → a ≡ reading m r.position r.count None → UnformedStops m a w e → UnlessMemory e (SourceStops budget m r w e)
unformed_stops budget m r w a e ea h = unless_memory e (SourceStops budget m r w e) (inl (subst (λ (b : Assumed). UnformedStops m b w e) ea h))

pub unformed_not_full : (m : Model) (w : CopyNumbers) (a : Assumed) (e : CutStop) (P : Type 0) → UnformedStops m a w e → IfFull e P
unformed_not_full m w a (Overflow c) P h = tt
unformed_not_full m w a (Spent c k) P h = tt
unformed_not_full m w a Full P h = absurd h
unformed_not_full m w a (Memory e) P h = tt

-- ---- the case of the initial contents

pub initial_wide : (m : Model) (r : Reads) (columns : ℕ) → columns ≡ m.params + r.count → columns ≡ case_width m.params (reading m r.position r.count None)
initial_wide m r columns e = omega (arith, e)

pub initial_is : (m : Model) (r : Reads) (columns : ℕ) (rows : List Row) (left : List Remainder) (kills : List (Conj × Kill)) (case : Case) → columns ≡ m.params + r.count → rows ≡ [] → IsCaseOf m r None columns rows left kills
    → case ≡ record { source = None; piece = 0; level = 0; pieces = left; kills = kills } → IsInitialCase m r case
initial_is m r columns rows left kills case e f h c =
    let none : IsCaseOf m r None columns [] left kills = subst (λ (xs : List Row). IsCaseOf m r None columns xs left kills) f h in
    subst (IsInitialCase m r) (sym c) (record { source = refl; piece = refl; level = refl; case_of = subst (λ n. IsCaseOf m r None n [] left kills) e none })

pub initial_stops : (budget : ℕ) (m : Model) (r : Reads) (columns : ℕ) (rows : List Row) (e : CutStop) → columns ≡ m.params + r.count → rows ≡ [] → CaseStops budget m r None columns rows e → CaseStops budget m r None (m.params + r.count) [] e
initial_stops budget m r columns rows x e f h = subst (λ n. CaseStops budget m r None n [] x) e (subst (λ (xs : List Row). CaseStops budget m r None columns xs x) f h)

pub initial_filled : (budget : ℕ) (m : Model) (r : Reads) (columns : ℕ) (rows : List Row) (room : ℕ) (e : CaseStop) → columns ≡ m.params + r.count → rows ≡ [] → IfFilled e (λ kept. (length kept ≡ room + 1) × AllHavePoints kept × AreCutCasesOf budget m r None columns rows kept)
    → IfFilled e (λ kept. (length kept ≡ room + 1) × AllHavePoints kept × AreCutCasesOf budget m r None (m.params + r.count) [] kept)
initial_filled budget m r columns rows room x e f h =
    subst (λ n. IfFilled x (λ kept. (length kept ≡ room + 1) × AllHavePoints kept × AreCutCasesOf budget m r None n [] kept)) e
    (subst (λ (xs : List Row). IfFilled x (λ kept. (length kept ≡ room + 1) × AllHavePoints kept × AreCutCasesOf budget m r None columns xs kept)) f h)
