-- What a refutation says at lists, and of each choice in turn.
use Rattle.std.proofs.Common.{◌≡◌, ℕ, zero, suc, ◌<◌, List, [], ◌∷◌, ◌++◌, length, get_or, Bool, true, false, cond, Some, None, rules, refl, arith, ap}
use Rattle.std.specs.Prelude.{◌&&◌}
use Rattle.ac_forms.specs.NormalForm.{normal_conj}
use Rattle.ac_forms.specs.Rows.{IsWellMade}
use Rattle.ac_forms.specs.RangeTests.{rows_fit}
use Rattle.ac_forms.specs.declared.conj.Conj.{Conj}
use Rattle.ac_forms.specs.declared.row.Row.{Row}
use Rattle.ac_omega_steps.specs.declared.choose.Choice.{Choice}
use Rattle.ac_omega_steps.specs.declared.choose.Choice.TheVariants as choice
use Rattle.ac_cert.specs.declared.ends.Absurd.{Absurd as End}
use Rattle.ac_cert.specs.declared.types.Tree.{Tree}
use Rattle.ac_omega_steps.specs.ChoiceFits.{choice_fits, raw, after_choice}
use Rattle.ac_omega_steps.specs.Choices.{are_absurd, left_by}
use Rattle.ac_base.proofs.Truths.{and-true}
use Rattle.ac_omega_certify.specs.ChoiceBranches.{Stage, IsRefutedBy, AreRefutedBy, IsTry, AreAlternatives, RefuteAll, EachIsWithin2To120}
use Rattle.ac_omega_certify.specs.Refutations.{conj_of, AreChoicesOf, Refutes, RefuteEach, AreModuliWithin, AreWithin2To120, IsWithin2To120, AreAllWithin2To120}
use Rattle.ac_omega_certify.specs.declared.refutation.Refutation.{Refutation, Row_of-Refutation, end_of-Refutation, more_of-Refutation, items-the_row-Refutation, the_lemmas}
use Rattle.ac_omega_certify.specs.declared.refutation.Refutation.TheVariants.{Absurd, Open, Open'}

-- ---- at lists

row : (c : Conj) (hs : List Choice) (m : _) (k : Row_of-Refutation m) → RefuteEach c hs k → RefuteAll c hs (items-the_row-Refutation m k)
unfolding Refutes
row c [] m end_of-Refutation h = tt
row c [] m (more_of-Refutation {n = n} r rest) h = absurd h
row c (x ∷ hs) m end_of-Refutation h = absurd h
row c (x ∷ hs) m (more_of-Refutation {n = n} r rest) h = (h.0, h.1, row c hs n rest h.2)

open_row : (c : Conj) (hs : List Choice) (n : _) (below : Row_of-Refutation _) → Refutes (Open' c hs n below) → IsWellMade c × AreChoicesOf c hs × RefuteAll c hs (items-the_row-Refutation _ below)
unfolding Refutes
open_row c hs n below h = (h.0, h.1, row c hs _ below h.2)

pub refutes_open : (c : Conj) (hs : List Choice) (below : List Refutation) → Refutes (Open c hs below) → IsWellMade c × AreChoicesOf c hs × RefuteAll c hs below
refutes_open c hs below h = let r : IsWellMade c × AreChoicesOf c hs × RefuteAll c hs below = search (rules, the_lemmas, open_row c hs _ _ h) in r

pub refutes_absurd : (c : Conj) → Refutes (Absurd c) → are_absurd c.rows ≡ true
unfolding Refutes
refutes_absurd c h = h.1

modest_row : (m : _) (k : Row_of-Refutation m) → AreAllWithin2To120 k → EachIsWithin2To120 (items-the_row-Refutation m k)
unfolding IsWithin2To120
modest_row m end_of-Refutation h = tt
modest_row m (more_of-Refutation {n = n} r rest) h = (h.0, modest_row n rest h.1)

open_modest_row : (c : Conj) (hs : List Choice) (n : _) (below : Row_of-Refutation _) → IsWithin2To120 (Open' c hs n below) → AreWithin2To120 c.rows hs × EachIsWithin2To120 (items-the_row-Refutation _ below)
unfolding IsWithin2To120
open_modest_row c hs n below h = (h.0, modest_row _ below h.1)

pub modest_open : (c : Conj) (hs : List Choice) (below : List Refutation) → IsWithin2To120 (Open c hs below) → AreWithin2To120 c.rows hs × EachIsWithin2To120 below
modest_open c hs below h = let r : AreWithin2To120 c.rows hs × EachIsWithin2To120 below = search (rules, the_lemmas, open_modest_row c hs _ _ h) in r

-- ---- each in turn

pub refute-lengths : (c : Conj) (hs : List Choice) (rs : List Refutation) → RefuteAll c hs rs → length hs ≡ length rs
refute-lengths c [] [] h = refl
refute-lengths c [] (r ∷ rs) h = absurd h
refute-lengths c (x ∷ hs) [] h = absurd h
refute-lengths c (x ∷ hs) (r ∷ rs) h = ap (λ (n : ℕ). suc n) (refute-lengths c hs rs h.2)

pub refuted-at : (c : Conj) (hs : List Choice) (rs : List Refutation) (j : ℕ) (h : Choice) (r : Refutation) → RefuteAll c hs rs → j < length rs → h ≡ get_or hs j h → r ≡ get_or rs j r → (after_choice h c ≡ Some (conj_of r)) × Refutes r
refuted-at c [] [] j h r a l e f = absurd (omega arith)
refuted-at c [] (s ∷ rs) j h r a l e f = absurd a
refuted-at c (x ∷ hs) [] j h r a l e f = absurd a
refuted-at c (x ∷ hs) (s ∷ rs) zero h r a l e f = rw (e, f) (a.0, a.1)
refuted-at c (x ∷ hs) (s ∷ rs) (suc j) h r a l e f = refuted-at c hs rs j h r a.2 (omega arith) e f

pub all_modest-at : (rs : List Refutation) (j : ℕ) (r : Refutation) → EachIsWithin2To120 rs → j < length rs → r ≡ get_or rs j r → IsWithin2To120 r
all_modest-at [] j r a l e = absurd (omega arith)
all_modest-at (s ∷ rs) zero r a l e = rw e a.0
all_modest-at (s ∷ rs) (suc j) r a l e = all_modest-at rs j r a.1 (omega arith) e

pub try-at : (n : ℕ) (rows : List Row) (counts : List ℕ) (hs : List Choice) (j : ℕ) (h : Choice) → AreAlternatives n rows counts hs → j < length hs → h ≡ get_or hs j h → IsTry n rows counts h
try-at n rows counts [] j h a l e = absurd (omega arith)
try-at n rows counts (x ∷ hs) zero h a l e = rw e a.0
try-at n rows counts (x ∷ hs) (suc j) h a l e = try-at n rows counts hs j h a.1 (omega arith) e

first-modulus : (b : ℕ) (h : Choice) (hs : List Choice) → AreModuliWithin b (h ∷ hs) → AreModuliWithin b (h ∷ [])
first-modulus b (choice.Residue z m r) hs a = (a.0, tt)
first-modulus b (choice.Drop z) hs a = tt
first-modulus b (choice.Equal z i) hs a = tt
first-modulus b (choice.Shadow z) hs a = tt
first-modulus b (choice.Splinter z i k) hs a = tt

later-moduli : (b : ℕ) (h : Choice) (hs : List Choice) → AreModuliWithin b (h ∷ hs) → AreModuliWithin b hs
later-moduli b (choice.Residue z m r) hs a = a.1
later-moduli b (choice.Drop z) hs a = a
later-moduli b (choice.Equal z i) hs a = a
later-moduli b (choice.Shadow z) hs a = a
later-moduli b (choice.Splinter z i k) hs a = a

modulus-at : (b : ℕ) (hs : List Choice) (j : ℕ) (h : Choice) → AreModuliWithin b hs → j < length hs → h ≡ get_or hs j h → AreModuliWithin b (h ∷ [])
modulus-at b [] j h a l e = absurd (omega arith)
modulus-at b (x ∷ hs) zero h a l e = rw e (first-modulus b x hs a)
modulus-at b (x ∷ hs) (suc j) h a l e = modulus-at b hs j h (later-moduli b x hs a) (omega arith) e

pub modest-at : (rows : List Row) (hs : List Choice) (j : ℕ) (h : Choice) → AreWithin2To120 rows hs → j < length hs → h ≡ get_or hs j h → AreWithin2To120 rows (h ∷ [])
modest-at rows hs j h a l e = record { factor = a.factor; number = a.number; product = a.product; rows = a.rows; moduli = modulus-at a.factor hs j h a.moduli l e }

pub modest-none : (rows : List Row) (hs : List Choice) → AreWithin2To120 rows hs → AreWithin2To120 rows []
modest-none rows hs a = record { factor = a.factor; number = a.number; product = a.product; rows = a.rows; moduli = tt }

-- ---- what a choice leaves

if-some : (t : Bool) (c d : Conj) → cond t (Some c) None ≡ Some d → (t ≡ true) × (d ≡ c)
if-some true c d e = (refl, cc)
if-some false c d e = absurd cc

pub after-choice : (h : Choice) (c d : Conj) → after_choice h c ≡ Some d → (choice_fits h c.rows ≡ true) × (rows_fit (left_by h c.rows) ≡ true) × (d ≡ normal_conj (raw h c))
unfolding after_choice
after-choice h c d e =
    let s = if-some (choice_fits h c.rows && rows_fit (left_by h c.rows)) (normal_conj (raw h c)) d e in
    let a = and-true (choice_fits h c.rows) (rows_fit (left_by h c.rows)) s.0 in
    (a.0, a.1, s.1)

-- ---- the trees in turn

pub served-more : (s : Stage) (hs : List Choice) (ts : List (Tree End)) (h : Choice) (t : Tree End) → AreRefutedBy s hs ts → length ts < length hs → h ≡ get_or hs (length ts) h → IsRefutedBy s h t → AreRefutedBy s hs (ts ++ t ∷ [])
served-more s [] ts h t a l e b = absurd (omega arith)
served-more s (x ∷ hs) [] h t a l e b = (rw (← e) b, tt)
served-more s (x ∷ hs) (u ∷ ts) h t a l e b = (a.0, served-more s hs ts h t a.1 (omega arith) e b)
