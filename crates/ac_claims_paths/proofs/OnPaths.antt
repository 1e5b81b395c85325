-- Points of a path go on to further columns and rows.
use Rattle.std.proofs.Common.{◌≡◌, ℕ, zero, suc, ◌+◌, ◌-◌, ◌<◌, ◌≤◌, ℤ, pos, List, [], ◌∷◌, ◌++◌, length, get_or, Option, Some, None, refl, sym, ap, ◌∙◌, subst, arith, length-append, append_assoc}
use Rattle.std.specs.List.{range_with_len}
use Rattle.std.proofs.lemmas.List.{get_or_append_left, get_or-append_right}
use Rattle.ac_forms.specs.Rows.{IsWellMade}
use Rattle.ac_forms.specs.declared.conj.Conj.{Conj}
use Rattle.ac_syntax.specs.Trace.{Entry}
use Rattle.ac_syntax.specs.Algebra.{Cell}
use Rattle.ac_syntax.specs.Spot.{Spot}
use Rattle.ac_omega_steps.specs.IntegerPoints.{IsPoint}
use Rattle.ac_cert.specs.PointExtension.{Extends}
use Rattle.ac_forms.specs.Renaming.{picked}
use Rattle.ac_claims_paths.specs.PathColumns.{base, columns_of}
use Rattle.ac_claims_paths.specs.Executions.{Execution, InstanceAt, At, Describes}
pub use Rattle.ac_claims_paths.specs.OnPaths.{Compared, execution_of, AtSeat, ReaderAt, SourceAt, LastAt, OnPath}
pub use Rattle.ac_claims_paths.specs.WellFormedPaths.{SeatIn, SourceIn, LastIn, IsFormed, HasModuli}
use Rattle.ac_claims_paths.specs.PathSteps.{model_of, at_rows}
use Rattle.ac_claims_paths.specs.CopyKills.{assignment_at}
use Rattle.ac_claims_paths.specs.declared.path.Assumed.{Assumed}
use Rattle.ac_claims_paths.specs.declared.path.Path.{Path}
use Rattle.ac_claims_paths.specs.declared.path.Seat.{Seat}
use Rattle.ac_claims_paths.specs.declared.path.Side.{Side}
use Rattle.ac_claims_paths.specs.declared.path.Side.TheVariants.{Left, Right}
use Rattle.ac_claims_paths.proofs.Moving.{InColumns}

pub describes_of : (g : Compared) (side : Side) → Describes (model_of g.pairing side) g.params (execution_of g side)
describes_of g Left = g.describes_left
describes_of g Right = g.describes_right

-- a path whose columns are there and whose rows are well made
abbrev pub InPath : Compared → Path → Type 0
InPath g h = IsFormed g.pairing.params h

-- the moduli of the models
pub moduli_in : (g : Compared) (side : Side) → HasModuli (model_of g.pairing side)
moduli_in g side = record { pieces = (describes_of g side).pieces_moduli; levels = (describes_of g side).levels_moduli }

-- columns
pub more_columns : (ks : List ℕ) (n m : ℕ) → n ≤ m → InColumns ks n → InColumns ks m
more_columns [] n m h k = tt
more_columns (a ∷ ks) n m h k = (let l : a < n = k.0 in omega arith, more_columns ks n m h k.1)

pub range_in : (first count n : ℕ) → first + count ≤ n → InColumns (range_with_len first count) n
range_in first zero n h = tt
range_in first (suc count) n h = (omega (arith, h), range_in (first + 1) count n (omega (arith, h)))

pub in-append : (ks ls : List ℕ) (n : ℕ) → InColumns ks n → InColumns ls n → InColumns (ks ++ ls) n
in-append [] ls n a b = b
in-append (k ∷ ks) ls n a b = (a.0, in-append ks ls n a.1 b)

pub seat_columns : (seat : Seat) (n : ℕ) → SeatIn seat n → InColumns (columns_of seat) n
seat_columns seat n h = range_in seat.first seat.width n h

pub base_columns : (params n : ℕ) → params ≤ n → InColumns (base params) n
base_columns params n h = range_in 0 params n (omega (arith, h))

two : {A : Type 0} {x y : A} {xs ys : List A} → x ≡ y → xs ≡ ys → x ∷ xs ≡ y ∷ ys
two p q = λ i. p i ∷ q i

pub pick_more : (ks : List ℕ) (p q : List ℤ) (n : ℕ) → length p ≡ n → InColumns ks n → picked ks (p ++ q) ≡ picked ks p
pick_more [] p q n e h = refl
pick_more (k ∷ ks) p q n e h = let l : k < n = h.0 in two (get_or_append_left p q (pos 0) k (omega arith)) (pick_more ks p q n e h.1)

pub pick_new : (p x : List ℤ) (n d : ℕ) → length p ≡ n → length x ≡ d → picked (range_with_len n d) (p ++ x) ≡ x
pick_new p [] n zero e f = refl
pick_new p [] n (suc d) e f = absurd (omega arith)
pick_new p (y ∷ x) n zero e f = absurd (omega arith)
pick_new p (y ∷ x) n (suc d) e f =
    let z : n - n ≡ 0 = omega arith in
    let a : get_or (p ++ y ∷ x) n (pos 0) ≡ y = get_or-append_right p (y ∷ x) n n (pos 0) e (omega arith) ∙ rw z refl in
    let l : length (p ++ y ∷ []) ≡ n + 1 = length-append p (y ∷ []) ∙ omega arith in
    let b : picked (range_with_len (n + 1) d) ((p ++ y ∷ []) ++ x) ≡ x = pick_new (p ++ y ∷ []) x (n + 1) d l (omega arith) in
    two a (ap (picked (range_with_len (n + 1) d)) (sym (append_assoc p (y ∷ []) x)) ∙ b)

-- further columns
pub at_more : (x : Execution) (seat : Seat) (p q : List ℤ) (s : Spot) (n : ℕ) → length p ≡ n → SeatIn seat n → AtSeat x seat p s → AtSeat x seat (p ++ q) s
at_more x seat p q s n l i h = subst (λ (y : List ℤ). At x seat.position y s) (sym (pick_more (columns_of seat) p q n l (seat_columns seat n i))) h

abbrev pub reader_more : (x : Execution) (seat : Seat) (p q : List ℤ) (n : ℕ) → length p ≡ n → SeatIn seat n → ReaderAt x seat p → ReaderAt x seat (p ++ q)
reader_more x seat p q n l i r = record { spot = r.spot; cell = r.cell; before = r.before; here = at_more x seat p q r.spot n l i r.here; reads = r.reads }

pub source_more : (x : Execution) (o : Option Seat) (p q : List ℤ) (c : Cell) (before : List Entry) (n : ℕ) → length p ≡ n → SourceIn o n → SourceAt x o p c before → SourceAt x o (p ++ q) c before
source_more x None p q c before n l i h = h
source_more x (Some seat) p q c before n l i h = (h.0, h.1, subst (λ (y : List ℤ). InstanceAt x (assignment_at seat) y h.0) (sym (pick_more (columns_of seat) p q n l (seat_columns seat n i))) h.2)

pub last_more : (g : Compared) (o : Option Assumed) (p q : List ℤ) (n : ℕ) → length p ≡ n → LastIn o n → LastAt g o p → LastAt g o (p ++ q)
last_more g None p q n l i h = tt
last_more g (Some a) p q n l i h = (reader_more (execution_of g a.side) a.reader p q n l i.0 h.0, source_more (execution_of g a.side) a.source p q h.0.cell h.0.before n l i.1 h.1)

pub source_in_more : (o : Option Seat) (n m : ℕ) → n ≤ m → SourceIn o n → SourceIn o m
source_in_more None n m h i = tt
source_in_more (Some seat) n m h i = omega (arith, h, i)

pub last_in_more : (o : Option Assumed) (n m : ℕ) → n ≤ m → LastIn o n → LastIn o m
last_in_more None n m h i = tt
last_in_more (Some a) n m h i = (omega (arith, h, i.0), source_in_more a.source n m h i.1)

pub starts_more : (params : ℕ) (given p q : List ℤ) (n : ℕ) → length p ≡ n → params ≤ n → picked (base params) p ≡ given → picked (base params) (p ++ q) ≡ given
starts_more params given p q n l i h = pick_more (base params) p q n l (base_columns params n i) ∙ h

-- a path with further rows, over as many columns or more
pub formed_more : (params : ℕ) (h : Path) (d : Conj) → IsFormed params h → IsWellMade d → h.conj.columns ≤ d.columns → IsFormed params (at_rows h d)
formed_more params h d a made l = record {
  made = made;
  base_in = (let i = a.base_in in omega (arith, l, i));
  left_in = (let i = a.left_in in omega (arith, l, i));
  right_in = (let i = a.right_in in omega (arith, l, i));
  last_in = last_in_more h.last h.conj.columns d.columns l a.last_in;
}

pub in_more : (g : Compared) (h : Path) (d : Conj) → InPath g h → IsWellMade d → h.conj.columns ≤ d.columns → InPath g (at_rows h d)
in_more g = formed_more g.pairing.params

pub on_more : (g : Compared) (h : Path) (d : Conj) (p q : List ℤ) (s t : Spot) → InPath g h → OnPath g h p s t → Extends p q → IsPoint d q → OnPath g (at_rows h d) q s t
on_more g h d p q s t a b e at =
    let len = b.point.long in
    record {
      point = at;
      starts = ap (picked (base g.pairing.params)) e.1 ∙ starts_more g.pairing.params g.params p e.0 h.conj.columns len a.base_in b.starts;
      left = subst (λ (z : List ℤ). AtSeat g.left h.left z s) (sym e.1) (at_more g.left h.left p e.0 s h.conj.columns len a.left_in b.left);
      right = subst (λ (z : List ℤ). AtSeat g.right h.right z t) (sym e.1) (at_more g.right h.right p e.0 t h.conj.columns len a.right_in b.right);
      last = subst (λ (z : List ℤ). LastAt g h.last z) (sym e.1) (last_more g h.last p e.0 h.conj.columns len a.last_in b.last);
    }

-- further rows over the same columns, at the same point
pub on_rows : (g : Compared) (h : Path) (d : Conj) (p : List ℤ) (s t : Spot) → OnPath g h p s t → IsPoint d p → OnPath g (at_rows h d) p s t
on_rows g h d p s t b at = record { point = at; starts = b.starts; left = b.left; right = b.right; last = b.last }
