-- The tree of all choices is accepted where the tree of each is.
use Rattle.std.proofs.Common.{◌≡◌, ℕ, zero, suc, ◌+◌, ◌≤◌, ℤ, pos, negsuc, neg_ℤ, ◌-ℤ◌, ◌≤ℤ◌, List, [], ◌∷◌, length, take, drop, get_or, refl, sym, ap, subst, ◌∙◌, arith}
use Rattle.std.specs.Prelude.{Result, IfOk}
use Rattle.std.proofs.lemmas.Int.{ints}
use Rattle.ac_forms.specs.Affine.{Affine, column_form}
use Rattle.ac_forms.specs.Fits.{Fits}
use Rattle.ac_forms.specs.declared.conj.Conj.{Conj}
use Rattle.ac_forms.specs.declared.row.Row.{Row}
use Rattle.ac_omega_steps.specs.declared.choose.Choice.{Choice}
use Rattle.ac_omega_steps.specs.declared.choose.Choice.TheVariants as choice
use Rattle.ac_cert.specs.declared.ends.Absurd.{Absurd}
use Rattle.ac_cert.specs.declared.types.Tree.{Tree}
use Rattle.ac_cert.specs.AcceptedTrees.{Accepts, AcceptsEach, absurd_refusals}
use Rattle.ac_omega_certify.specs.ChoiceBranches.{Stage, IsOn, AreRefutedBy, ServeLeaves, IsRaised, leaf_choices, residue_choices, AreResidues, AreAll}
use Rattle.ac_omega_certify.specs.TreePathRows.{Renames}
use Rattle.ac_omega_certify.specs.SplinterCounts.{Suffice}
use Rattle.ac_omega_certify.proofs.Branching.{ok-as}
use Rattle.ac_omega_certify.proofs.RaisedTrees.{raised-nothing}

-- ---- residues

pub each-residue : (s : Stage) (z : ℕ) (m : ℤ) (f : Affine) (c : Conj) → IsOn s c → Renames s.names (column_form (length s.names) z) f → (n i : ℕ) (ts : List (Tree Absurd)) → AreRefutedBy s (residue_choices n z m i) ts → AcceptsEach ts absurd_refusals m f i c
each-residue s z m f c on r n i [] h = tt
each-residue s z m f c on r zero i (t ∷ ts) h = absurd h
each-residue s z m f c on r (suc n) i (t ∷ ts) h = (
  h.0 c _ on (record { form = f; renames = r; is = refl }),
  subst (λ (k : ℕ). AcceptsEach ts absurd_refusals m f k c) (later i) (each-residue s z m f c on r n (suc i) ts h.1),
)
  where
    later : (i : ℕ) → suc i ≡ i + 1
    later i = omega arith

pub residue-room : (k m : ℤ) → k ≡ pos 0 → Fits m → pos 1 ≤ℤ m → Fits (k -ℤ (m -ℤ pos 1))
residue-room k (pos zero) e f h = absurd (omega (arith, ints, h))
residue-room k (pos (suc n)) e f h = rw (e, turned n) (small n f)
  where
    turned : (n : ℕ) → pos 0 -ℤ (pos (suc n) -ℤ pos 1) ≡ neg_ℤ (pos n)
    turned n = omega (arith, ints)

    small : (n : ℕ) → Fits (pos (suc n)) → Fits (neg_ℤ (pos n))
    small zero f = record { sfits = omega (arith, ints) }
    small (suc n) f = record { sfits = omega (arith, ints, f.sfits) }
residue-room k (negsuc n) e f h = absurd (omega (arith, ints, h))

residue-count : (n z : ℕ) (m : ℤ) (r : ℕ) → length (residue_choices n z m r) ≡ n
residue-count zero z m r = refl
residue-count (suc n) z m r = ap (λ (k : ℕ). suc k) (residue-count n z m (suc r))

pub are-residues : (n : ℕ) (rows : List Row) (counts : List ℕ) (hs : List Choice) (z : ℕ) (m r : ℤ) → AreAll n rows counts hs → get_or hs 0 (choice.Drop 0) ≡ choice.Residue z m r → AreResidues n z m hs
are-residues n rows counts [] z m r a e = absurd a
are-residues n rows counts (h ∷ hs) z m r a e =
    let b : AreAll n rows counts (choice.Residue z m r ∷ hs) = subst (λ (x : Choice). AreAll n rows counts (x ∷ hs)) e a in
    subst (λ (x : Choice). AreResidues n z m (x ∷ hs)) (sym e) b

pub residues-long : (n z : ℕ) (m : ℤ) (hs : List Choice) (a : AreResidues n z m hs) → length hs ≡ a.size
residues-long n z m hs a = ap length a.all ∙ residue-count a.size z m 0

pub residues-accepted : {E : Type 0} (s : Stage) (n z : ℕ) (m : ℤ) (hs : List Choice) (ts : List (Tree Absurd)) (res : Result (Tree Absurd) E) → AreResidues n z m hs → length ts ≡ length hs → AreRefutedBy s hs ts
    → IfOk res (λ t. (c : Conj) → AreRefutedBy s (residue_choices (length ts) z m 0) ts → IsOn s c → Accepts t absurd_refusals c)
    → IfOk res (λ t. (c : Conj) → IsOn s c → Accepts t absurd_refusals c)
residues-accepted s n z m hs ts res a e served k =
    let size : a.size ≡ length ts = sym (e ∙ residues-long n z m hs a) in
    let all : hs ≡ residue_choices (length ts) z m 0 = a.all ∙ ap (λ (j : ℕ). residue_choices j z m 0) size in
    let here : AreRefutedBy s (residue_choices (length ts) z m 0) ts = subst (λ (gs : List Choice). AreRefutedBy s gs ts) all served in
    ok-as (λ (t : Tree Absurd). (c : Conj) → AreRefutedBy s (residue_choices (length ts) z m 0) ts → IsOn s c → Accepts t absurd_refusals c)
    (λ (t : Tree Absurd). (c : Conj) → IsOn s c → Accepts t absurd_refusals c) res (λ t h c on. h c here on) k

-- ---- a shadow and its splinters

pub record AreSplinters (rows : List Row) (counts : List ℕ) (hs : List Choice) (z : ℕ) : Type 0 where
  pub is : hs ≡ choice.Shadow z ∷ leaf_choices z 0 counts
  pub suffice : Suffice z rows rows counts

pub are-splinters : (n : ℕ) (rows : List Row) (counts : List ℕ) (hs : List Choice) (z : ℕ) → AreAll n rows counts hs → get_or hs 0 (choice.Drop 0) ≡ choice.Shadow z → AreSplinters rows counts hs z
are-splinters n rows counts [] z a e = absurd a
are-splinters n rows counts (h ∷ hs) z a e =
    let b : AreAll n rows counts (choice.Shadow z ∷ hs) = subst (λ (x : Choice). AreAll n rows counts (x ∷ hs)) e a in
    subst (λ (x : Choice). AreSplinters rows counts (x ∷ hs) z) (sym e) (record { is = ap (λ (gs : List Choice). choice.Shadow z ∷ gs) b.0; suffice = b.1 })

-- the first tree is that of the shadow, and the others those of the splinters
pub record ShadowFirst (s : Stage) (t : Tree Absurd) (ts : List (Tree Absurd)) : Type 0 where
  pub shadow : (c d : Conj) → IsOn s c → IsRaised s.names s.rows s.counts c d → Accepts t absurd_refusals d
  pub leaves : ServeLeaves s 0 ts

pub shadow-first : (s : Stage) (hs : List Choice) (z : ℕ) (ts us : List (Tree Absurd)) (t : Tree Absurd) → AreSplinters s.rows s.counts hs z → length ts ≡ length hs → ts ≡ t ∷ us → AreRefutedBy s hs ts → ShadowFirst s t us
shadow-first s hs z ts us t a l e h =
    let served : AreRefutedBy s (choice.Shadow z ∷ leaf_choices z 0 s.counts) (t ∷ us) = subst (λ (gs : List Choice). AreRefutedBy s gs (t ∷ us)) a.is (subst (λ (vs : List (Tree Absurd)). AreRefutedBy s hs vs) e h) in
    let long : suc (length us) ≡ suc (length (leaf_choices z 0 s.counts)) = sym (ap length e) ∙ l ∙ ap length a.is in
    record { shadow = served.0; leaves = record { column = z; served = served.1; long = omega (arith, long) } }

parted : (ts us : List (Tree Absurd)) (t : Tree Absurd) → 1 ≤ length ts → t ≡ get_or ts 0 t → us ≡ drop 1 ts → ts ≡ t ∷ us
parted [] us t l e f = absurd (omega arith)
parted (x ∷ ts) us t l e f = rw (e, f) refl

pub shadow-taken : (s : Stage) (rows : List Row) (n : ℕ) (hs : List Choice) (z : ℕ) (ts us : List (Tree Absurd)) (t : Tree Absurd) → s.rows ≡ rows → AreAll n rows s.counts hs → get_or hs 0 (choice.Drop 0) ≡ choice.Shadow z → length ts ≡ length hs → t ≡ get_or ts 0 t → us ≡ drop 1 ts → AreRefutedBy s hs ts → ShadowFirst s t us
shadow-taken s rows n hs z ts us t er a i l e f h =
    let x : AreSplinters s.rows s.counts hs z = subst (λ (q : List Row). AreSplinters q s.counts hs z) (sym er) (are-splinters n rows s.counts hs z a i) in
    let some : 1 ≤ length ts = omega (arith, l, ap length x.is) in
    shadow-first s hs z ts us t x l (parted ts us t some e f) h

pub from-nothing : {E : Type 0} (s : Stage) (res : Result (Tree Absurd) E) → IfOk res (λ t. (c d : Conj) → IsOn s c → IsRaised s.names (take 0 s.rows) s.counts c d → Accepts t absurd_refusals d) → IfOk res (λ t. (c : Conj) → IsOn s c → Accepts t absurd_refusals c)
from-nothing s res k =
    ok-as (λ (t : Tree Absurd). (c d : Conj) → IsOn s c → IsRaised s.names (take 0 s.rows) s.counts c d → Accepts t absurd_refusals d) (λ (t : Tree Absurd). (c : Conj) → IsOn s c → Accepts t absurd_refusals c) res
    (λ t h c on. h c c on (raised-nothing s.names s.rows s.counts c)) k
