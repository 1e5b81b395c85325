-- The choices that lead to a piece are legal, name only the columns, and lead to it.
use Rattle.std.proofs.Common.{◌≡◌, ℕ, zero, suc, ◌+◌, inl, inr, List, [], ◌∷◌, ◌++◌, append_assoc, append-nil, Option, Some, None, nat_lt, Bool, true, false, cond, ◌&&◌, refl, sym, ◌∙◌, subst}
use Rattle.std.specs.Prelude.{option_and_then, Result, Ok, Err, IfOk}
use Rattle.ac_forms.specs.RowColumns.{AreTrimmed}
use Rattle.ac_forms.specs.NormalForm.{normal_conj}
use Rattle.ac_forms.specs.Rows.{IsWellMade, AreRowsOver}
use Rattle.ac_forms.specs.RangeTests.{rows_fit}
use Rattle.ac_forms.specs.declared.conj.Conj.{Conj}
use Rattle.ac_forms.proofs.Trimmed.{normal-trimmed, rows-short}
use Rattle.ac_omega_steps.specs.Choices.{is_legal, column_of}
use Rattle.ac_omega_steps.specs.ChoiceFits.{after_choice, raw}
use Rattle.ac_omega_steps.specs.declared.choose.Choice.{Choice}
use Rattle.ac_omega_steps.proofs.LeftMade.{conj_made, raw_made}
use Rattle.ac_omega.specs.EliminationAnswers.{Eliminates, parts}
use Rattle.ac_omega.specs.ColumnElimination.{elimination, look, pieces_of}
use Rattle.ac_omega.specs.Projection.{is_among, AllEmpty}
use Rattle.ac_omega.specs.Replays.{replayed, IsReached, AreReached, HaveAllFrom, AreOver}
use Rattle.ac_omega.specs.Sweep.{Projected, Pieces, into, sweeps, swept, sweep}
use Rattle.ac_omega.specs.Walk.{Node, Done, Absurd, Open, IsTried}
use Rattle.ac_omega.specs.declared.pieces.Stop.{Stop}
use Rattle.ac_omega.specs.declared.piece.Piece.{Piece}
use Rattle.ac_omega.proofs.Empties.{IsOpen, look-open, none-at}
use Rattle.ac_omega.proofs.Nexts.{next-among}
use Rattle.ac_omega.proofs.Projecting.{IsGood, projects, left-is, tried-legal, tried-column}
use Rattle.ac_omega.proofs.Sweeps.{onward-parts, into-parts, if-pieces}
use Rattle.ac_omega_certify.specs.declared.strategy.Strategy.{Strategy}

-- the choices behind the path lead from the conjunction to the piece
record Leads (vars : List ℕ) (path : List Choice) (c : Conj) (choices : List Choice) (rest : Conj) : Type 0 where
  more : List Choice
  is : choices ≡ path ++ more
  left : replayed vars more c ≡ Some rest

AllLead : List ℕ → List Choice → Conj → List (List Choice × Conj) → Type 0
AllLead vars path c [] = Unit {0}
AllLead vars path c (x ∷ xs) = Leads vars path c x.0 x.1 × AllLead vars path c xs

lead-both : (vars : List ℕ) (path : List Choice) (c : Conj) (xs ys : List (List Choice × Conj)) → AllLead vars path c xs → AllLead vars path c ys → AllLead vars path c (xs ++ ys)
unfolding AllLead
lead-both vars path c [] ys a b = b
lead-both vars path c (x ∷ xs) ys a b = (a.0, lead-both vars path c xs ys a.1 b)

-- one choice more in front
replayed-first : (vars : List ℕ) (h : Choice) (hs : List Choice) (c d rest : Conj) → is_legal h c ≡ true → is_among (column_of h) vars ≡ true → after_choice h c ≡ Some d → replayed vars hs d ≡ Some rest → replayed vars (h ∷ hs) c ≡ Some rest
unfolding replayed
replayed-first vars h hs c d rest legal among left more =
    (λ i. cond (legal i && among i) (option_and_then (replayed vars hs) (left i)) None) ∙ more

lead-first : (vars : List ℕ) (path : List Choice) (h : Choice) (c d : Conj) (xs : List (List Choice × Conj)) → is_legal h c ≡ true → is_among (column_of h) vars ≡ true → after_choice h c ≡ Some d → AllLead vars (path ++ h ∷ []) d xs → AllLead vars path c xs
unfolding AllLead
lead-first vars path h c d [] legal among left a = tt
lead-first vars path h c d (x ∷ xs) legal among left (a, more) = (
  record {
    more = h ∷ a.more;
    is = a.is ∙ append_assoc path (h ∷ []) a.more;
    left = replayed-first vars h a.more c d x.1 legal among left a.left;
  },
  lead-first vars path h c d xs legal among left more,
)

-- each choice that is tried names the next column
tried-among : (strategy : Strategy) (vars : List ℕ) (n : ℕ) (c : Conj) (hs : List (Option Choice)) (h : Choice) → IsGood n c → IsOpen strategy vars c hs → IsTried h hs → is_among (column_of h) vars ≡ true
tried-among strategy vars n c hs h g o i = subst (λ (z : ℕ). is_among z vars ≡ true) (sym (tried-column strategy vars n c hs h g o i)) (next-among strategy vars c.rows o.column o.next)

Goes : List ℕ → ℕ → (List Choice → Conj → ℕ → Projected Conj Choice) → Type 0
Goes vars n go = (path : List Choice) (d : Conj) (k j : ℕ) (zs : List (List Choice × Conj)) → IsGood n d → go path d k ≡ Pieces zs j → AllLead vars path d zs

sweeps-lead : (strategy : Strategy) (vars : List ℕ) (n : ℕ) (go : List Choice → Conj → ℕ → Projected Conj Choice) (path : List Choice) (c : Conj) (hs : List (Option Choice)) (k j : ℕ) (zs : List (List Choice × Conj)) → Goes vars n go
    → ((h : Choice) → IsTried h hs → is_legal h c ≡ true) → ((h : Choice) → IsTried h hs → is_among (column_of h) vars ≡ true) → ((h : Choice) (d : Conj) → IsTried h hs → after_choice h c ≡ Some d → IsGood n d)
    → sweeps (elimination strategy vars) go path c hs k ≡ Pieces zs j → AllLead vars path c zs
unfolding AllLead Goes elimination
sweeps-lead strategy vars n go path c [] k j zs g legal among good e = let f : [] ≡ zs = cc in subst (AllLead vars path c) f tt
sweeps-lead strategy vars n go path c (None ∷ hs) k j zs g legal among good e = absurd cc
sweeps-lead strategy vars n go path c (Some h ∷ hs) k j zs g legal among good e =
    let b = onward-parts (into (after_choice h c) (λ d. go (path ++ h ∷ []) d k)) (sweeps (elimination strategy vars) go path c hs) zs j e in
    let t = into-parts (after_choice h c) (λ d. go (path ++ h ∷ []) d k) b.0 b.1 b.3 in
    let first = lead-first vars path h c t.0 b.0 (legal h (inl refl)) (among h (inl refl)) t.1 (g (path ++ h ∷ []) t.0 k b.1 b.0 (good h t.0 (inl refl) t.1) t.2) in
    let rest = sweeps-lead strategy vars n go path c hs b.1 j b.2 g (λ x i. legal x (inr i)) (λ x i. among x (inr i)) (λ x d i s. good x d (inr i) s) b.4 in
    subst (AllLead vars path c) (sym b.5) (lead-both vars path c b.0 b.2 first rest)

swept-lead : (strategy : Strategy) (vars : List ℕ) (n : ℕ) (go : List Choice → Conj → ℕ → Projected Conj Choice) (path : List Choice) (c : Conj) (k j : ℕ) (l : Node Choice) (zs : List (List Choice × Conj)) → Goes vars n go → IsGood n c
    → look strategy vars c ≡ l → swept (elimination strategy vars) go path c k l ≡ Pieces zs j → AllLead vars path c zs
unfolding AllLead elimination replayed
swept-lead strategy vars n go path c k j (Done q) zs g good is e =
    let f : (path, c) ∷ [] ≡ zs = cc in
    subst (AllLead vars path c) f (record { more = []; is = sym (append-nil path); left = refl }, tt)
swept-lead strategy vars n go path c k j Absurd zs g good is e = let f : [] ≡ zs = cc in subst (AllLead vars path c) f tt
swept-lead strategy vars n go path c k j (Open hs) zs g good is e =
    let o = look-open strategy vars c hs is in
    sweeps-lead strategy vars n go path c hs k j zs g (λ h i. tried-legal strategy vars n c hs h good o i) (λ h i. tried-among strategy vars n c hs h good o i) (λ h d i s. (projects strategy vars n).good c hs h d good is i s) e

sweep-leads : (strategy : Strategy) (vars : List ℕ) (n m budget : ℕ) → Goes vars n (λ path c k. sweep (elimination strategy vars) m budget path c k)
unfolding sweep Goes elimination
sweep-leads strategy vars n zero budget path c k j zs good e = absurd cc
sweep-leads strategy vars n (suc m) budget path c k j zs good e =
    swept-lead strategy vars n (λ q d i. sweep (elimination strategy vars) m budget q d i) path c (k + (elimination strategy vars).size c) j (look strategy vars c) zs (sweep-leads strategy vars n m budget) good refl
    (if-pieces (nat_lt budget (k + (elimination strategy vars).size c)) (k + (elimination strategy vars).size c) _ zs j e)

-- the pieces, as the code has them
some_fit : (b : Bool) (d : Conj) (go : Conj → Projected Conj Choice) (zs : List (List Choice × Conj)) (j : ℕ) → into (cond b (Some d) None) go ≡ Pieces zs j → (b ≡ true) × (go d ≡ Pieces zs j)
some_fit true d go zs j e = (refl, e)
some_fit false d go zs j e = absurd cc

reached-of : (vars : List ℕ) (question : Conj) (ps : List Piece) → rows_fit question.rows ≡ true → AllLead vars [] (normal_conj question) (parts ps) → AllEmpty vars ps → AreReached vars question ps
unfolding AllLead
reached-of vars question [] fits a g = tt
reached-of vars question (x ∷ ps) fits (a, more) g =
    (record { fits = fits; left = subst (λ (hs : List Choice). replayed vars hs (normal_conj question) ≡ Some x.rest) (sym a.is) a.left; gone = g.0 }, reached-of vars question ps fits more g.1)

are-reached : (strategy : Strategy) (vars : List ℕ) (budget k : ℕ) (question : Conj) (ps : List Piece) → IsWellMade question → pieces_of strategy vars budget question ≡ Pieces (parts ps) k → AllEmpty vars ps → AreReached vars question ps
unfolding Goes
are-reached strategy vars budget k question ps made e gone =
    let s = some_fit (rows_fit question.rows) (normal_conj question) (λ c. sweep (elimination strategy vars) (budget + 1) budget [] c 0) (parts ps) k e in
    reached-of vars question ps s.0 (sweep-leads strategy vars question.columns (budget + 1) budget [] (normal_conj question) 0 k (parts ps) (record { made = conj_made question made; columns = refl }) s.1) gone

-- What choices leave is in normal form, over the question's columns.
record IsTidy (n : ℕ) (c : Conj) : Type 0 where
  made : IsWellMade c
  columns : c.columns ≡ n
  trimmed : AreTrimmed c.rows

normal-tidy : (c : Conj) → IsWellMade c → IsTidy c.columns (normal_conj c)
normal-tidy c w = record { made = conj_made c w; columns = refl; trimmed = normal-trimmed c.rows }

choice-tidy : (n : ℕ) (h : Choice) (c d : Conj) → is_legal h c ≡ true → after_choice h c ≡ Some d → IsTidy n c → IsTidy n d
choice-tidy n h c d legal e k =
    let made = normal-tidy (raw h c) (raw_made h c legal k.made) in
    subst (IsTidy n) (sym (left-is h c d e)) (record { made = made.made; columns = made.columns ∙ k.columns; trimmed = made.trimmed })

some-same : {A : Type 0} (x y : A) → Some x ≡ Some y → x ≡ y
some-same x y e = cc

if-true : {A : Type 0} (b : Bool) (o : Option A) (z : A) → cond b o None ≡ Some z → (b ≡ true) × (o ≡ Some z)
if-true true o z e = (refl, e)
if-true false o z e = absurd cc

then-some : {A B : Type 0} (o : Option A) (f : A → Option B) (z : B) → option_and_then f o ≡ Some z → (x : A) × (o ≡ Some x) × (f x ≡ Some z)
then-some None f z e = absurd cc
then-some (Some x) f z e = (x, refl, e)

pub first-true : (a b : Bool) → (a && b) ≡ true → a ≡ true
first-true true b e = refl
first-true false b e = absurd cc

replayed-tidy : (n : ℕ) (vars : List ℕ) (hs : List Choice) (c d : Conj) → replayed vars hs c ≡ Some d → IsTidy n c → IsTidy n d
unfolding replayed
replayed-tidy n vars [] c d e k = subst (IsTidy n) (some-same c d e) k
replayed-tidy n vars (h ∷ hs) c d e k =
    let t = if-true (is_legal h c && is_among (column_of h) vars) (option_and_then (replayed vars hs) (after_choice h c)) d e in
    let s = then-some (after_choice h c) (replayed vars hs) d t.1 in
    replayed-tidy n vars hs s.0 d s.2 (choice-tidy n h c s.0 (first-true (is_legal h c) _ t.0) s.1 k)

-- a piece that has none of the columns from the n-th on is over those before
reached-over : (n : ℕ) (vars : List ℕ) (question : Conj) (piece : Piece) → IsWellMade question → HaveAllFrom n question.columns vars → IsReached vars question piece → AreRowsOver n piece.rest.rows
reached-over n vars question piece made all r =
    let k = replayed-tidy question.columns vars piece.choices (normal_conj question) piece.rest r.left (normal-tidy question made) in
    rows-short n question.columns piece.rest.rows (subst (λ (m : ℕ). AreRowsOver m piece.rest.rows) k.columns k.made) k.trimmed
    (λ j l m. none-at vars piece.rest.rows j r.gone (all j l m))

all-over : (n : ℕ) (vars : List ℕ) (question : Conj) (ps : List Piece) → IsWellMade question → HaveAllFrom n question.columns vars → AreReached vars question ps → AreOver n ps
all-over n vars question [] made all r = tt
all-over n vars question (x ∷ ps) made all r = (reached-over n vars question x made all r.0, all-over n vars question ps made all r.1)

-- what an elimination answers
pub result-reached : (strategy : Strategy) (vars : List ℕ) (budget : ℕ) (question : Conj) (result : Result (List Piece) Stop) → IsWellMade question → Eliminates result question (pieces_of strategy vars budget question) → IfOk result (λ ps. AllEmpty vars ps)
    → IfOk result (λ ps. AreReached vars question ps)
result-reached strategy vars budget question (Ok ps) made exact gone = are-reached strategy vars budget exact.0 question ps made exact.1 gone
result-reached strategy vars budget question (Err s) made exact gone = tt

pub result-over : (strategy : Strategy) (n : ℕ) (vars : List ℕ) (budget : ℕ) (question : Conj) (result : Result (List Piece) Stop) → IsWellMade question → HaveAllFrom n question.columns vars → Eliminates result question (pieces_of strategy vars budget question)
    → IfOk result (λ ps. AllEmpty vars ps) → IfOk result (λ ps. AreOver n ps)
result-over strategy n vars budget question (Ok ps) made all exact gone = all-over n vars question ps made all (are-reached strategy vars budget exact.0 question ps made exact.1 gone)
result-over strategy n vars budget question (Err s) made all exact gone = tt
