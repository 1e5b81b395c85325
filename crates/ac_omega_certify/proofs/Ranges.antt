-- The tree of a range: of one number, and of two halves.
use Rattle.std.proofs.Common.{◌≡◌, ℕ, zero, suc, ◌+◌, ◌-◌, ◌*◌, ◌^◌, ◌≤◌, List, [], ◌∷◌, ◌++◌, length, get_or, take, drop, sym, ap, ◌∙◌, subst, arith}
use Rattle.std.proofs.lemmas.List.{length-append, length-drop, take-append-drop}
use Rattle.std.proofs.Math.Nat.{pow-succ'}
use Rattle.ac_forms.specs.Affine.{Affine}
use Rattle.ac_forms.specs.declared.conj.Conj.{Conj}
use Rattle.ac_forms.specs.declared.row.Row.{Row}
use Rattle.ac_forms.specs.declared.row.Row.TheVariants.{Eq, Ge}
use Rattle.ac_cert.specs.declared.ends.Absurd.{Absurd}
use Rattle.ac_cert.specs.declared.types.Tree.{Tree}
use Rattle.ac_cert.specs.AcceptedTrees.{Accepts, absurd_refusals}
use Rattle.ac_cert.specs.Rules.{with_row}
use Rattle.ac_omega_certify.specs.Leaves.{less, under, HasRoom, IsLikeAt, AcceptsFrom, AcceptsRange}
use Rattle.ac_omega_certify.specs.TreePathRows.{Alike}
use Rattle.ac_omega_certify.proofs.Leaves.{alike-self, at-last, at-before, accepts-further, accepts-front, accepts-back, accepts-one, under-less}

-- what the makers of a leaf and of a fork say
abbrev pub IsLeaf : ℕ → ℕ → Tree Absurd → Tree Absurd → Type 0
IsLeaf low high leaf t = (c : Conj) (f : Affine) → HasRoom f 1 → IsLikeAt c low f → IsLikeAt c high (under f 1) → ((g : Affine) → Alike f g → Accepts leaf absurd_refusals (with_row c (Eq g))) → Accepts t absurd_refusals c

abbrev pub IsFork : Affine → ℕ → Tree Absurd → Tree Absurd → Tree Absurd → Type 0
IsFork f half upper lower t = (c : Conj) → length f.coefs ≤ c.columns → Accepts upper absurd_refusals (with_row c (Ge (less f half))) → Accepts lower absurd_refusals (with_row c (Ge (under f half))) → Accepts t absurd_refusals c

-- the row that was added, and one that stood before it
like-last : (c : Conj) (f : Affine) (n : ℕ) → length c.rows ≡ n → IsLikeAt (with_row c (Ge f)) n f
like-last c f n long = (f, at-last c.rows (Ge f) n long, alike-self f)

like-before : (c : Conj) (r : Row) (f : Affine) (i : ℕ) → IsLikeAt c i f → IsLikeAt (with_row c r) i f
like-before c r f i a = (a.0, at-before c.rows r (Ge a.0) i a.1, a.2)

one-more : (rows : List Row) (r : Row) (n m : ℕ) → length rows ≡ n → m ≡ n + 1 → length (rows ++ r ∷ []) ≡ m
one-more rows r n m e is = omega (arith, length-append rows (r ∷ []), e, is)

-- ---- one number

last-range : (ts : List (Tree Absurd)) (f : Affine) (low high end : ℕ) (leaf t : Tree Absurd) → 1 ≤ length ts → length ts ≤ 1 → HasRoom f (length ts) → leaf ≡ get_or ts 0 leaf → IsLeaf low high leaf t → AcceptsRange t f ts 0 low high end
last-range [] f low high end leaf t some few room is made = absurd (omega (arith, some))
last-range (x ∷ y ∷ ts) f low high end leaf t some few room is made = absurd (omega (arith, few))
last-range (x ∷ []) f low high end leaf t some few room is made = λ c short long a b kids.
    made c f room a b (λ g l. rw is (accepts-one x f c kids g l))

pub one-range : (ts : List (Tree Absurd)) (f : Affine) (depth low high end : ℕ) (leaf t : Tree Absurd) → depth ≡ 0 → 1 ≤ length ts → length ts ≤ 2 ^ depth → HasRoom f (length ts) → leaf ≡ get_or ts 0 leaf → IsLeaf low high leaf t → AcceptsRange t f ts depth low high end
one-range ts f zero low high end leaf t none some few room is made = last-range ts f low high end leaf t some few room is made
one-range ts f (suc d) low high end leaf t none some few room is made = absurd (omega (arith, none))

-- the same at less depth, behind the equality that is said once more
pub again-range : (ts : List (Tree Absurd)) (f : Affine) (depth d low high end next : ℕ) (u t : Tree Absurd) → length ts ≡ 1 → depth ≡ suc d → next ≡ end + 1 → HasRoom f (length ts) → IsLeaf low high u t → AcceptsRange u f ts d low high next → AcceptsRange t f ts depth low high end
again-range ts f depth d low high end next u t one deep is room made h = λ c short long a b kids.
    let deeper : AcceptsFrom ts f (suc d) c = subst (λ (k : ℕ). AcceptsFrom ts f k c) deep kids in
    let whole : IsLikeAt c high (under f 1) = subst (λ (k : ℕ). IsLikeAt c high (under f k)) one b in
    made c f (subst (HasRoom f) one room) a whole
    (λ g l. h (with_row c (Eq g)) short (one-more c.rows (Eq g) end next long is) (like-before c (Eq g) f low a) (like-before c (Eq g) (under f (length ts)) high b) (accepts-further ts f d c (Eq g) deeper))

-- ---- two halves

pub two-ranges : (ts xs ys : List (Tree Absurd)) (f : Affine) (depth d low high end next half : ℕ) (u v t : Tree Absurd) → ts ≡ xs ++ ys → length xs ≡ half → depth ≡ suc d → next ≡ end + 1
    → IsFork f half u v t → AcceptsRange u (less f half) ys d end high next → AcceptsRange v f xs d low end next → AcceptsRange t f ts depth low high end
two-ranges ts xs ys f depth d low high end next half u v t both size deep is made hu hv = λ c short long a b kids.
    let deeper : AcceptsFrom (xs ++ ys) f (suc d) c = subst (λ (zs : List (Tree Absurd)). AcceptsFrom zs f (suc d) c) both (subst (λ (k : ℕ). AcceptsFrom ts f k c) deep kids) in
    let back : AcceptsFrom ys (less f half) (suc d) c = subst (λ (k : ℕ). AcceptsFrom ys (less f k) (suc d) c) size (accepts-back xs ys f (suc d) c deeper) in
    let count : length ts ≡ half + length ys = ap length both ∙ length-append xs ys ∙ ap (λ (k : ℕ). k + length ys) size in
    let rest : length ts - half ≡ length ys = omega (arith, count) in
    let last : under f (length ts) ≡ under (less f half) (length ys) = under-less f (length ts) half (omega (arith, count)) ∙ ap (λ (k : ℕ). under (less f half) k) rest in
    let top : IsLikeAt c high (under (less f half) (length ys)) = subst (λ (g : Affine). IsLikeAt c high g) last b in
    let upper = with_row c (Ge (less f half)) in
    let lower = with_row c (Ge (under f half)) in
    made c short
    (hu upper short (one-more c.rows (Ge (less f half)) end next long is) (like-last c (less f half) end long) (like-before c (Ge (less f half)) (under (less f half) (length ys)) high top) (accepts-further ys (less f half) d c (Ge (less f half)) back))
    (hv lower short (one-more c.rows (Ge (under f half)) end next long is) (like-before c (Ge (under f half)) f low a) (subst (λ (k : ℕ). IsLikeAt lower end (under f k)) (sym size) (like-last c (under f half) end long)) (accepts-further xs f d c (Ge (under f half)) (accepts-front xs ys f (suc d) c deeper)))

-- ---- what the halves require

pub half-deep : (n half depth d : ℕ) → n ≤ 2 ^ depth → depth ≡ suc d → half + half ≤ n → n ≤ half + half + 1 → (half ≤ 2 ^ d) × (n - half ≤ 2 ^ d)
half-deep n half depth d h e a b =
    let g : n ≤ 2 ^ suc d = subst (λ (k : ℕ). n ≤ 2 ^ k) e h in
    let p : 2 ^ suc d ≡ 2 * 2 ^ d = pow-succ' 2 d in
    (omega (arith, g, p, a), omega (arith, g, p, b))

-- a list cut in two
pub record Halves (ts xs ys : List (Tree Absurd)) (depth half : ℕ) : Type 0 where
  pub whole : ts ≡ xs ++ ys
  pub size : length xs ≡ half
  pub rest : length ys ≡ length ts - half
  pub within : half ≤ length ts
  pub some : 1 ≤ length xs
  pub more : 1 ≤ length ys
  pub front : length xs ≤ 2 ^ (depth - 1)
  pub back : length ys ≤ 2 ^ (depth - 1)

pub cut-in-two : (ts xs ys : List (Tree Absurd)) (depth half : ℕ) → 1 ≤ depth → 1 ≤ half → half + half ≤ length ts → length ts ≤ half + half + 1 → length ts ≤ 2 ^ depth → xs ≡ take half ts → ys ≡ drop half ts → Halves ts xs ys depth half
cut-in-two ts xs ys depth half deep one a b small front back =
    let within : half ≤ length ts = omega arith in
    let whole : ts ≡ xs ++ ys = rw (front, back) (sym (take-append-drop half ts)) in
    let rest : length ys ≡ length ts - half = ap length back ∙ length-drop half ts in
    let size : length xs ≡ half = omega (arith, ap length whole, length-append xs ys, rest) in
    let e : depth ≡ suc (depth - 1) = omega arith in
    let h = half-deep (length ts) half depth (depth - 1) small e a b in
    record { whole = whole; size = size; rest = rest; within = within; some = omega arith; more = omega arith; front = omega (arith, h.0, size); back = omega (arith, h.1, rest) }

-- ---- a row and what is above the range

pub raised : (ts : List (Tree Absurd)) (f : Affine) (depth low end next count : ℕ) (v onward t : Tree Absurd) → count ≡ length ts → next ≡ end + 1 → IsFork f count onward v t → AcceptsRange v f ts depth low end next
    → (c : Conj) → length f.coefs ≤ c.columns → length c.rows ≡ end → IsLikeAt c low f → Accepts onward absurd_refusals (with_row c (Ge (less f (length ts)))) → AcceptsFrom ts f depth (with_row c (Ge (under f (length ts)))) → Accepts t absurd_refusals c
raised ts f depth low end next count v onward t size is made h c short long a on kids =
    let fork : IsFork f (length ts) onward v t = subst (λ (k : ℕ). IsFork f k onward v t) size made in
    let row = Ge (under f (length ts)) in
    fork c short on (h (with_row c row) short (one-more c.rows row end next long is) (like-before c row f low a) (like-last c (under f (length ts)) end long) kids)
