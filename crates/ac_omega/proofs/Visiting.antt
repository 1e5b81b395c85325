-- The walk of all purposes is, for a point, the walk for a point, and for pieces the walk of all pieces.
use Rattle.std.proofs.Common.{◌≡◌, ℕ, zero, suc, ◌+◌, nat_lt, ℤ, List, [], ◌∷◌, ◌++◌, append_assoc, append-nil, Option, Some, None, Result, Ok, Err, Bool, true, false, cond, refl, ◌∙◌, ap, sym, subst}
use Rattle.std.specs.Prelude.{option_map}
use Rattle.ac_forms.specs.declared.conj.Conj.{Conj}
use Rattle.ac_omega_steps.specs.ChoiceFits.{after_choice}
use Rattle.ac_omega_steps.specs.declared.choose.Choice.{Choice}
use Rattle.ac_omega.specs.declared.halt.Halt.{Halt}
use Rattle.ac_omega.specs.declared.halt.Halt.TheVariants as halt
use Rattle.ac_omega.specs.declared.piece.Piece.{Piece}
use Rattle.ac_omega.specs.declared.search.Aim.{Aim}
use Rattle.ac_omega.specs.declared.search.Aim.TheVariants.{ForPoint, ForRefutation, ForPieces}
use Rattle.ac_omega.specs.declared.search.Walked.{Walked}
use Rattle.ac_omega.specs.declared.search.Walked.TheVariants as done
use Rattle.ac_omega.specs.EliminationAnswers.{parts, saturated}
use Rattle.ac_omega.specs.ConjunctionCosts.{cost_of}
use Rattle.ac_omega.specs.ColumnElimination.{eliminating, elimination, look}
use Rattle.ac_omega.specs.Maxima.{Maxima, with_rows, with_choice}
use Rattle.ac_omega.specs.WalkAnswers.{Searches, WantsPoint, columns_to, lifted_to}
use Rattle.ac_omega.specs.Sweep as whole
use Rattle.ac_omega.specs.Sweep.{Projected, Pieces, joined, onward, into, sweeps, swept, sweep}
use Rattle.ac_omega.specs.Visits.{Seen, seen, piece_of, look_for, pieces_at, visiting, Visits}
use Rattle.ac_omega.specs.Walk as def
use Rattle.ac_omega.specs.Walk.{Node, Done, Absurd, Open, behind, entered, lifted, tries, looked, walk}
use Rattle.ac_omega_certify.specs.Alternatives.{Alternatives}
use Rattle.ac_omega_certify.specs.declared.strategy.Strategy.{Strategy}

-- For a point: the pieces stay as they are.
abbrev as_seen : List Piece → def.Walked Maxima → def.Walked Seen
as_seen ps (def.Empty k s) = def.Empty k (seen s ps)
as_seen ps (def.Found p) = def.Found p
as_seen ps (def.Spent k) = def.Spent k
as_seen ps def.Wide = def.Wide

lifted-seen : (ps : List Piece) (o : Option (List ℤ)) → lifted o ≡ as_seen ps (lifted o)
lifted-seen ps None = refl
lifted-seen ps (Some p) = refl

behind-seen : (ps : List Piece) (w : def.Walked Maxima) (l : List ℤ → Option (List ℤ)) (f : ℕ → Seen → def.Walked Seen) (g : ℕ → Maxima → def.Walked Maxima) → ((j : ℕ) (t : Maxima) → f j (seen t ps) ≡ as_seen ps (g j t)) → behind (as_seen ps w) l f ≡ as_seen ps (behind w l g)
behind-seen ps (def.Empty k s) l f g h = h k s
behind-seen ps (def.Found p) l f g h = lifted-seen ps (l p)
behind-seen ps (def.Spent k) l f g h = refl
behind-seen ps def.Wide l f g h = refl

-- what stands behind a conjunction is the same
SameSeen : List Piece → (List Choice × Conj → ℕ → Seen → def.Walked Seen) → (Conj → ℕ → Maxima → def.Walked Maxima) → Type 0
SameSeen ps go of = (q : List Choice) (d : Conj) (j : ℕ) (t : Maxima) → go (q, d) j (seen t ps) ≡ as_seen ps (of d j t)

entered-seen : (ps : List Piece) (go : List Choice × Conj → ℕ → Seen → def.Walked Seen) (of : Conj → ℕ → Maxima → def.Walked Maxima) (q : List Choice) (o : Option Conj) (k : ℕ) (s : Maxima) → SameSeen ps go of
    → entered (option_map (λ d. (q, d)) o) (λ x. go x k (seen s ps)) ≡ as_seen ps (entered o (λ d. of d k s))
unfolding SameSeen
entered-seen ps go of q None k s h = refl
entered-seen ps go of q (Some d) k s h = h q d k s

tries-seen : (strategy : Strategy) (aim : Aim) (vars : List ℕ) (ps : List Piece) (go : List Choice × Conj → ℕ → Seen → def.Walked Seen) (of : Conj → ℕ → Maxima → def.Walked Maxima) (path : List Choice) (c : Conj) (hs : Alternatives) (k : ℕ) (s : Maxima) → SameSeen ps go of
    → tries (visiting strategy aim vars) go (path, c) hs k (seen s ps) ≡ as_seen ps (tries (eliminating strategy vars) of c hs k s)
tries-seen strategy aim vars ps go of path c [] k s h = refl
tries-seen strategy aim vars ps go of path c (None ∷ hs) k s h = refl
tries-seen strategy aim vars ps go of path c (Some x ∷ hs) k s h =
    ap (λ w. behind w (λ p. lifted_to x c p) (tries (visiting strategy aim vars) go (path, c) hs)) (entered-seen ps go of (path ++ x ∷ []) (after_choice x c) k (with_choice x s) h)
    ∙ behind-seen ps (entered (after_choice x c) (λ d. of d k (with_choice x s))) (λ p. lifted_to x c p) (tries (visiting strategy aim vars) go (path, c) hs) (tries (eliminating strategy vars) of c hs) (λ j t. tries-seen strategy aim vars ps go of path c hs j t h)

-- at one conjunction
seen-at : (strategy : Strategy) (aim : Aim) (vars : List ℕ) (ps : List Piece) (go : List Choice × Conj → ℕ → Seen → def.Walked Seen) (of : Conj → ℕ → Maxima → def.Walked Maxima) (path : List Choice) (c : Conj) (k : ℕ) (s : Maxima) (l : Node Choice) → WantsPoint aim → SameSeen ps go of
    → looked (visiting strategy aim vars) go (path, c) k (seen s (pieces_at aim (piece_of path c) ps l)) (look_for aim l) ≡ as_seen ps (looked (eliminating strategy vars) of c k s l)
seen-at strategy ForPoint vars ps go of path c k s (Done p) w h = refl
seen-at strategy ForRefutation vars ps go of path c k s (Done p) w h = refl
seen-at strategy ForPieces vars ps go of path c k s (Done p) w h = absurd w
seen-at strategy aim vars ps go of path c k s Absurd w h = refl
seen-at strategy aim vars ps go of path c k s (Open hs) w h = tries-seen strategy aim vars ps go of path c hs k s h

if-seen : (ps : List Piece) (t : Bool) (j : ℕ) (v : def.Walked Seen) (w : def.Walked Maxima) → v ≡ as_seen ps w → cond t (def.Spent j) v ≡ as_seen ps (cond t (def.Spent j) w)
if-seen ps true j v w e = refl
if-seen ps false j v w e = e

walk-seen : (strategy : Strategy) (aim : Aim) (vars : List ℕ) (ps : List Piece) (n b : ℕ) → WantsPoint aim → SameSeen ps (λ x j t. walk (visiting strategy aim vars) n b x j t) (λ d j t. walk (eliminating strategy vars) n b d j t)
unfolding walk SameSeen
walk-seen strategy aim vars ps zero b w q d k s = refl
walk-seen strategy aim vars ps (suc n) b w q d k s =
    if-seen ps (nat_lt b (k + cost_of strategy vars d.rows)) (k + cost_of strategy vars d.rows) _ _
    (seen-at strategy aim vars ps (λ x j t. walk (visiting strategy aim vars) n b x j t) (λ e j t. walk (eliminating strategy vars) n b e j t) q d (k + cost_of strategy vars d.rows) (with_rows d.rows s) (look strategy vars d) w (walk-seen strategy aim vars ps n b w))

-- an answer of the walk for a point
searches-as : (r : Result Walked Halt) (ps qs : List Piece) (w : def.Walked Maxima) → Visits r qs (as_seen ps w) → Searches r w
searches-as (Ok (done.Empty k s r)) ps qs (def.Empty j t) h =
    let a : j ≡ k = cc in
    let e : seen t ps ≡ seen s qs = cc in
    let b : t ≡ s = ap (λ (x : Seen). x.maxima) e in
    rw (a, b) refl
searches-as (Ok (done.Empty k s r)) ps qs (def.Found p) h = absurd cc
searches-as (Ok (done.Empty k s r)) ps qs (def.Spent j) h = absurd cc
searches-as (Ok (done.Empty k s r)) ps qs def.Wide h = absurd cc
searches-as (Ok (done.Found p)) ps qs (def.Empty j t) h = absurd cc
searches-as (Ok (done.Found p)) ps qs (def.Found q) h = let a : q ≡ p.items = cc in rw a refl
searches-as (Ok (done.Found p)) ps qs (def.Spent j) h = absurd cc
searches-as (Ok (done.Found p)) ps qs def.Wide h = absurd cc
searches-as (Err halt.Wide) ps qs (def.Empty j t) h = absurd cc
searches-as (Err halt.Wide) ps qs (def.Found q) h = absurd cc
searches-as (Err halt.Wide) ps qs (def.Spent j) h = absurd cc
searches-as (Err halt.Wide) ps qs def.Wide h = refl
searches-as (Err (halt.Spent j)) ps qs (def.Empty i t) h = absurd (let e = h.1 in cc)
searches-as (Err (halt.Spent j)) ps qs (def.Found q) h = absurd (let e = h.1 in cc)
searches-as (Err (halt.Spent j)) ps qs (def.Spent i) h = let a : i ≡ h.0 = (let e = h.1 in cc) in (h.0, ap (λ x. def.Spent x) a, h.2)
searches-as (Err (halt.Spent j)) ps qs def.Wide h = absurd (let e = h.1 in cc)
searches-as (Err (halt.Memory e)) ps qs w h = tt

searched : (strategy : Strategy) (r : Result Walked Halt) (aim : Aim) (vars : List ℕ) (n b : ℕ) (path : List Choice) (c : Conj) (k : ℕ) (s : Maxima) (ps qs : List Piece) → WantsPoint aim → Visits r qs (walk (visiting strategy aim vars) n b (path, c) k (seen s ps)) → Searches r (walk (eliminating strategy vars) n b c k s)
unfolding SameSeen
searched strategy r aim vars n b path c k s ps qs w h = searches-as r ps qs (walk (eliminating strategy vars) n b c k s) (subst (λ (v : def.Walked Seen). Visits r qs v) (walk-seen strategy aim vars ps n b w path c k s) h)

pub searched-all : (strategy : Strategy) (r : Result Walked Halt) (aim : Aim) (vars : List ℕ) (b : ℕ) (path : List Choice) (c : Conj) (s : Maxima) (ps qs : List Piece) → WantsPoint aim → vars ≡ columns_to c.columns → Visits r qs (walk (visiting strategy aim vars) (b + 1) b (path, c) 0 (seen s ps))
    → Searches r (walk (eliminating strategy (columns_to c.columns)) (b + 1) b c 0 s)
searched-all strategy r aim vars b path c s ps qs w v h = subst (λ (zs : List ℕ). Searches r (walk (eliminating strategy zs) (b + 1) b c 0 s)) v (searched strategy r aim vars (b + 1) b path c 0 s ps qs w h)

-- For pieces: those of the walk stand behind the ones so far.
IsProjected : def.Walked Seen → List Piece → Projected Conj Choice → Type 0
IsProjected (def.Empty k t) ps v = (zs : List (List Choice × Conj)) × (v ≡ Pieces zs k) × (parts t.pieces ≡ parts ps ++ zs)
IsProjected (def.Found p) ps v = ⊥
IsProjected (def.Spent k) ps v = v ≡ whole.Spent k
IsProjected def.Wide ps v = v ≡ whole.Wide

AreProjected : (List Choice × Conj → ℕ → Seen → def.Walked Seen) → (List Choice → Conj → ℕ → Projected Conj Choice) → Type 0
AreProjected go of = (q : List Choice) (d : Conj) (j : ℕ) (t : Seen) → IsProjected (go (q, d) j t) t.pieces (of q d j)

further : (ps qs : List Piece) (zs : List (List Choice × Conj)) (w : def.Walked Seen) (v : Projected Conj Choice) → parts qs ≡ parts ps ++ zs → IsProjected w qs v → IsProjected w ps (joined zs v)
unfolding IsProjected
further ps qs zs (def.Empty k t) v e h = (zs ++ h.0, rw h.1 refl, h.2 ∙ ap (λ xs. xs ++ h.0) e ∙ append_assoc (parts ps) zs h.0)
further ps qs zs (def.Found p) v e h = h
further ps qs zs (def.Spent k) v e h = rw h refl
further ps qs zs def.Wide v e h = rw h refl

behind-swept : (ps : List Piece) (w : def.Walked Seen) (v : Projected Conj Choice) (l : List ℤ → Option (List ℤ)) (f : ℕ → Seen → def.Walked Seen) (g : ℕ → Projected Conj Choice) → IsProjected w ps v → ((j : ℕ) (t : Seen) → IsProjected (f j t) t.pieces (g j)) → IsProjected (behind w l f) ps (onward v g)
unfolding IsProjected
behind-swept ps (def.Empty k t) v l f g h more =
    subst (λ (x : Projected Conj Choice). IsProjected (f k t) ps (onward x g)) (sym h.1) (further ps t.pieces h.0 (f k t) (g k) h.2 (more k t))
behind-swept ps (def.Found p) v l f g h more = absurd h
behind-swept ps (def.Spent k) v l f g h more = rw h refl
behind-swept ps def.Wide v l f g h more = rw h refl

entered-swept : (go : List Choice × Conj → ℕ → Seen → def.Walked Seen) (of : List Choice → Conj → ℕ → Projected Conj Choice) (q : List Choice) (o : Option Conj) (k : ℕ) (t : Seen) → AreProjected go of → IsProjected (entered (option_map (λ d. (q, d)) o) (λ x. go x k t)) t.pieces (into o (λ d. of q d k))
unfolding IsProjected AreProjected
entered-swept go of q None k t h = refl
entered-swept go of q (Some d) k t h = h q d k t

tries-swept : (strategy : Strategy) (vars : List ℕ) (go : List Choice × Conj → ℕ → Seen → def.Walked Seen) (of : List Choice → Conj → ℕ → Projected Conj Choice) (path : List Choice) (c : Conj) (hs : Alternatives) (k : ℕ) (t : Seen) → AreProjected go of
    → IsProjected (tries (visiting strategy ForPieces vars) go (path, c) hs k t) t.pieces (sweeps (eliminating strategy vars) of path c hs k)
unfolding IsProjected
tries-swept strategy vars go of path c [] k t h = ([], refl, sym (append-nil (parts t.pieces)))
tries-swept strategy vars go of path c (None ∷ hs) k t h = refl
tries-swept strategy vars go of path c (Some x ∷ hs) k t h =
    behind-swept t.pieces (entered (option_map (λ d. (path ++ x ∷ [], d)) (after_choice x c)) (λ y. go y k (seen (with_choice x t.maxima) t.pieces))) (into (after_choice x c) (λ d. of (path ++ x ∷ []) d k)) (λ p. lifted_to x c p) (tries (visiting strategy ForPieces vars) go (path, c) hs) (sweeps (eliminating strategy vars) of path c hs)
    (entered-swept go of (path ++ x ∷ []) (after_choice x c) k (seen (with_choice x t.maxima) t.pieces) h) (λ j u. tries-swept strategy vars go of path c hs j u h)

parts-append : (xs ys : List Piece) → parts (xs ++ ys) ≡ parts xs ++ parts ys
parts-append [] ys = refl
parts-append (x ∷ xs) ys = ap (λ zs. (x.choices, x.rest) ∷ zs) (parts-append xs ys)

swept-at : (strategy : Strategy) (vars : List ℕ) (go : List Choice × Conj → ℕ → Seen → def.Walked Seen) (of : List Choice → Conj → ℕ → Projected Conj Choice) (path : List Choice) (c : Conj) (k : ℕ) (s : Maxima) (ps : List Piece) (l : Node Choice) → AreProjected go of
    → IsProjected (looked (visiting strategy ForPieces vars) go (path, c) k (seen s (pieces_at ForPieces (piece_of path c) ps l)) (look_for ForPieces l)) ps (swept (eliminating strategy vars) of path c k l)
unfolding IsProjected
swept-at strategy vars go of path c k s ps (Done p) h = ((path, c) ∷ [], refl, parts-append ps (piece_of path c ∷ []))
swept-at strategy vars go of path c k s ps Absurd h = ([], refl, sym (append-nil (parts ps)))
swept-at strategy vars go of path c k s ps (Open hs) h = tries-swept strategy vars go of path c hs k (seen s ps) h

if-swept : (ps : List Piece) (t : Bool) (j : ℕ) (w : def.Walked Seen) (v : Projected Conj Choice) → IsProjected w ps v → IsProjected (cond t (def.Spent j) w) ps (cond t (whole.Spent j) v)
unfolding IsProjected
if-swept ps true j w v h = refl
if-swept ps false j w v h = h

walk-swept : (strategy : Strategy) (vars : List ℕ) (n b : ℕ) → AreProjected (λ x j t. walk (visiting strategy ForPieces vars) n b x j t) (λ q d j. sweep (eliminating strategy vars) n b q d j)
unfolding walk sweep IsProjected AreProjected
walk-swept strategy vars zero b q d k t = refl
walk-swept strategy vars (suc n) b q d k t =
    if-swept t.pieces (nat_lt b (k + cost_of strategy vars d.rows)) (k + cost_of strategy vars d.rows) _ _
    (swept-at strategy vars (λ x j u. walk (visiting strategy ForPieces vars) n b x j u) (λ p e j. sweep (eliminating strategy vars) n b p e j) q d (k + cost_of strategy vars d.rows) (with_rows d.rows t.maxima) t.pieces (look strategy vars d) (walk-swept strategy vars n b))

-- an answer of the walk of all pieces
gone-swept : (k : ℕ) (s : Maxima) (ps : List Piece) (w : def.Walked Seen) (v : Projected Conj Choice) → w ≡ def.Empty k (seen s ps) → IsProjected w [] v → v ≡ Pieces (parts ps) k
unfolding IsProjected
gone-swept k s ps w v e h =
    let x = subst (λ (y : def.Walked Seen). IsProjected y [] v) e h in
    x.1 ∙ ap (λ zs. Pieces zs k) (sym x.2)

spent-swept : (k : ℕ) (w : def.Walked Seen) (v : Projected Conj Choice) → w ≡ def.Spent k → IsProjected w [] v → v ≡ whole.Spent k
unfolding IsProjected
spent-swept k w v e h = subst (λ (y : def.Walked Seen). IsProjected y [] v) e h

wide-swept : (w : def.Walked Seen) (v : Projected Conj Choice) → w ≡ def.Wide → IsProjected w [] v → v ≡ whole.Wide
unfolding IsProjected
wide-swept w v e h = subst (λ (y : def.Walked Seen). IsProjected y [] v) e h

found-swept : (p : List ℤ) (w : def.Walked Seen) (v : Projected Conj Choice) → w ≡ def.Found p → IsProjected w [] v → ⊥
unfolding IsProjected
found-swept p w v e h = subst (λ (y : def.Walked Seen). IsProjected y [] v) e h

-- what the walk's answer says of the pieces
abbrev pub SweepsTo : Result Walked Halt → List Piece → Projected Conj Choice → Type 0
SweepsTo (Ok (done.Empty k s r)) ps v = v ≡ Pieces (parts ps) k
SweepsTo (Ok (done.Found p)) ps v = ⊥
SweepsTo (Err halt.Wide) ps v = v ≡ whole.Wide
SweepsTo (Err (halt.Spent c)) ps v = (j : ℕ) × (v ≡ whole.Spent j) × (c ≡ saturated j)
SweepsTo (Err (halt.Memory e)) ps v = Unit {0}

swept-as : (r : Result Walked Halt) (ps : List Piece) (w : def.Walked Seen) (v : Projected Conj Choice) → Visits r ps w → IsProjected w [] v → SweepsTo r ps v
swept-as (Ok (done.Empty k s r)) ps w v e h = gone-swept k s ps w v e h
swept-as (Ok (done.Found p)) ps w v e h = found-swept p.items w v e h
swept-as (Err halt.Wide) ps w v e h = wide-swept w v e h
swept-as (Err (halt.Spent c)) ps w v e h = (e.0, spent-swept e.0 w v e.1 h, e.2)
swept-as (Err (halt.Memory x)) ps w v e h = tt

pub swept-to : (strategy : Strategy) (r : Result Walked Halt) (vars : List ℕ) (n b : ℕ) (path : List Choice) (c : Conj) (k : ℕ) (s : Maxima) (ps : List Piece) → Visits r ps (walk (visiting strategy ForPieces vars) n b (path, c) k (seen s [])) → SweepsTo r ps (sweep (elimination strategy vars) n b path c k)
unfolding AreProjected elimination
swept-to strategy r vars n b path c k s ps h = swept-as r ps (walk (visiting strategy ForPieces vars) n b (path, c) k (seen s [])) (sweep (eliminating strategy vars) n b path c k) h (walk-swept strategy vars n b path c k (seen s []))
