-- Where no copy has a point, what is assumed is the source.
use Rattle.std.proofs.Common.{◌≡◌, ◌↔◌, ℕ, ◌+◌, ◌<◌, ◌≤◌, ◌⊎◌, inl, inr, ℤ, List, [], ◌∷◌, ◌++◌, map, length, nat_lt, Bool, true, false, Option, Some, None, refl, sym, ap, ◌∙◌, subst, arith, append_assoc, append-nil, length-append}
use Rattle.std.specs.Prelude.{slice_get, option_map}
use Rattle.std.specs.List.{range_with_len}
use Rattle.ac_forms.specs.Negation.{HasExtension}
use Rattle.ac_forms.specs.PieceMembership.{IsInNone}
use Rattle.ac_forms.specs.Renaming.{picked}
use Rattle.ac_forms.specs.Rows.{Meets}
use Rattle.ac_forms.specs.declared.conj.Conj.{Conj}
use Rattle.ac_forms.specs.declared.row.Row.{Row}
use Rattle.ac_syntax.specs.Algebra.{Cell}
use Rattle.ac_syntax.specs.Source.{Writer, source}
use Rattle.ac_syntax.specs.Trace.{Entry}
use Rattle.ac_syntax.specs.declared.tree.Position.{Position}
use Rattle.ac_syntax.proofs.Sources.{source_stands, source_last, source_none, one_place}
use Rattle.ac_poly.specs.declared.types.Model.{Model}
use Rattle.ac_poly.specs.declared.types.StmtModel.{StmtModel}
use Rattle.ac_base.proofs.Options.{bind-some, map-some, some-is}
use Rattle.ac_claims_paths.specs.PathColumns.{base, columns_of, all_of}
use Rattle.ac_claims_paths.specs.InstanceCoordinates.{width}
use Rattle.ac_claims_paths.specs.Executions.{Execution, InstanceAt, Describes}
use Rattle.ac_claims_paths.specs.PathSteps.{root}
use Rattle.ac_claims_paths.specs.CopyKills.{case_width}
use Rattle.ac_forms.specs.ListMembers.{IsAmong}
use Rattle.ac_claims_paths.specs.ModelPositions.{cell_read}
use Rattle.ac_claims_paths.specs.declared.places.CellForms.{CellForms}
use Rattle.ac_claims_paths.specs.declared.path.Seat.{Seat}
use Rattle.ac_claims_paths.proofs.Moving.{meets-parts}
use Rattle.ac_claims_paths.proofs.Branches.{in_map, in_all, stands_all}
use Rattle.ac_claims_paths.proofs.InBranches.{all_among}
use Rattle.ac_claims_paths.proofs.OnPaths.{pick_new}
use Rattle.ac_flow.specs.Writings.{reading, writings, rows_of, over, conj_of, copies}
use Rattle.ac_flow.specs.Sources.{IsReading, IsSource, NoCopy, NoCopyIsTheSource, HasRows, TheSourceHasRows}
use Rattle.ac_claims_paths.specs.declared.path.CopyNumbers.{CopyNumbers}
use Rattle.ac_flow.proofs.CopyParts.{block, Parts, parts_of, Shown, Written, written, later_than, later_none, later_some, There, there}

-- ---- members of lists of copies

none_of : (p : List ℤ) (all : List Conj) → ((c : Conj) → IsAmong c all → HasExtension c p → ⊥) → IsInNone HasExtension all p
none_of p [] h = tt
none_of p (c ∷ cs) h = (h c (inl refl), none_of p cs (λ d k. h d (inr k)))

not_in : (p : List ℤ) (all : List Conj) (c : Conj) → IsInNone HasExtension all p → IsAmong c all → HasExtension c p → ⊥
not_in p [] c n k x = absurd k
not_in p (d ∷ all) c n (inl e) x = n.0 (subst (λ (c : Conj). HasExtension c p) e x)
not_in p (d ∷ all) c n (inr k) x = not_in p all c n.1 k x

of_map : {A B : Type 0} (f : A → B) (y : B) (xs : List A) → IsAmong y (map f xs) → (x : A) × IsAmong x xs × (f x ≡ y)
of_map f y [] h = absurd h
of_map f y (x ∷ xs) (inl e) = (x, inl refl, sym e)
of_map f y (x ∷ xs) (inr h) = let r = of_map f y xs h in (r.0, inr r.1, r.2)

-- ---- the copy of a conjunction, and the conjunction of a copy

pub record CopyOf (m : Model) (reader : Position) (array count : ℕ) (source : Option Seat) (n : ℕ) (c : Conj) : Type 0 where
  pub writing : CopyNumbers
  pub among : IsAmong writing (writings m reader array source)
  pub stmt : StmtModel
  pub is : slice_get m.stmts writing.stmt ≡ Some stmt
  pub rows : List Row
  pub made : rows_of m (reading m reader count source) n writing stmt ≡ Some rows
  pub conj : c ≡ over (n + width stmt) rows

pub copy_of_conj : (m : Model) (reader : Position) (array count : ℕ) (source : Option Seat) (all : List Conj) (c : Conj) → all_of (copies m (reading m reader count source) array) ≡ Some all → IsAmong c all
    → CopyOf m reader array count source (case_width m.params (reading m reader count source)) c
copy_of_conj m reader array count source all c e k =
    let a = reading m reader count source in
    let n = case_width m.params a in
    let w = of_map (conj_of m a) (Some c) (writings m reader array source) (all_among c (copies m a array) all e k) in
    let s = bind-some (slice_get m.stmts w.0.stmt) (λ (stmt : StmtModel). option_map (over (n + width stmt)) (rows_of m a n w.0 stmt)) c w.2 in
    let r = map-some (rows_of m a n w.0 s.0) (over (n + width s.0)) c s.2 in
    record { writing = w.0; among = w.1; stmt = s.0; is = s.1; rows = r.0; made = r.1; conj = r.2 }

-- a writing's conjunction is made where all are
pub conj_of_copy : (m : Model) (reader : Position) (array count : ℕ) (source : Option Seat) (all : List Conj) (w : CopyNumbers) (stmt : StmtModel) → all_of (copies m (reading m reader count source) array) ≡ Some all
    → IsAmong w (writings m reader array source) → slice_get m.stmts w.stmt ≡ Some stmt
    → (rows : List Row) × (rows_of m (reading m reader count source) (case_width m.params (reading m reader count source)) w stmt ≡ Some rows) × IsAmong (over (case_width m.params (reading m reader count source) + width stmt) rows) all
conj_of_copy m reader array count source all w stmt e k is =
    let a = reading m reader count source in
    let n = case_width m.params a in
    let c = in_all (conj_of m a w) (copies m a array) all e (in_map (conj_of m a) w (writings m reader array source) k) in
    let s = bind-some (slice_get m.stmts w.stmt) (λ (stmt : StmtModel). option_map (over (n + width stmt)) (rows_of m a n w stmt)) c.0 c.1 in
    let r = map-some (rows_of m a n w s.0) (over (n + width s.0)) c.0 s.2 in
    let same : s.0 ≡ stmt = some-is s.0 stmt (sym s.1 ∙ is) in (
      r.0,
      subst (λ (y : StmtModel). rows_of m a n w y ≡ Some r.0) same r.1,
      subst (λ (y : StmtModel). IsAmong (over (n + width y) r.0) all) same (subst (λ (y : Conj). IsAmong y all) r.2 c.2),
    )

-- the numbers of a copy's coordinates behind a case's own
long_enough : (p zs : List ℤ) (n k : ℕ) → length p ≡ n → length (p ++ zs) ≡ n + k → length zs ≡ k
long_enough p zs n k lp e = omega (arith, length-append p zs, lp, e)

-- ---- initial

width_none : (p w : ℕ) → p + (w + 0) ≡ p + w
width_none p w = omega arith

shown_initial : (m : Model) (params at zs : List ℤ) (u n : ℕ) (stmt : StmtModel) → m.params ≡ length params → n ≡ m.params + length at → length zs ≡ width stmt → Shown m params at zs (length at) n u stmt ((params ++ at) ++ zs)
shown_initial m params at zs u n stmt e en l =
    let q : (params ++ at) ++ zs ≡ params ++ (at ++ zs) = append_assoc params at zs in
    record {
      params_at = ap (picked (base m.params)) q ∙ block [] params (at ++ zs) 0 m.params refl (sym e);
      reader_at = ap (picked (range_with_len m.params (length at))) q ∙ block params at zs m.params (length at) (sym e) refl;
      own_at = pick_new (params ++ at) zs n (width stmt) (length-append params at ∙ ap (λ k. k + length at) (sym e) ∙ sym en) l;
    }

-- the source of a reader is among the writings
rows_of_source : (m : Model) (params : List ℤ) (x : Execution) (d : Describes m params x) (reader : Position) (forms : CellForms) (n : ℕ) → cell_read m reader ≡ Some forms → (at : List ℤ) (cell : Cell) (before : List Entry) (u : Writer)
    → n ≡ m.params + length at → IsReading x reader at cell before → source cell before ≡ Some u → There m x reader forms.array (length at) None n u ((params ++ at) ++ x.coords u.entry)
rows_of_source m params x d reader forms n e at cell before u en r src =
    let s = source_stands cell before u src in
    there m params x d reader forms (length at) None n at ((params ++ at) ++ x.coords u.entry) cell before u e r s.0 s.1
    (λ stmt is wide. (shown_initial m params at (x.coords u.entry) u.entry.stmt n stmt d.count en wide, later_none m x n u stmt ((params ++ at) ++ x.coords u.entry)))

pub the_source_has_rows : (m : Model) (params : List ℤ) (x : Execution) (d : Describes m params x) (reader : Position) (forms : CellForms) → cell_read m reader ≡ Some forms → (at : List ℤ) (cell : Cell) (before : List Entry) (u : Writer)
    → IsReading x reader at cell before → source cell before ≡ Some u → HasRows m params x reader forms at u
the_source_has_rows m params x d reader forms e at cell before u r src =
    let t = rows_of_source m params x d reader forms (m.params + length at) e at cell before u refl r src in
    let s = source_stands cell before u src in
    record {
      writing = t.writing;
      among = t.among;
      stmt = t.stmt;
      is = t.is;
      instance = record { stands = stands_all x reader at r.spot cell before u r.here r.reads s.0; stmt = sym t.stmt_is; coords = refl };
      wide = t.wide;
      meets = λ rows made. subst (Meets rows) (append_assoc params at (x.coords u.entry)) (t.meets rows made);
    }

no_copy_is_initial : (m : Model) (params : List ℤ) (x : Execution) (d : Describes m params x) (reader : Position) (forms : CellForms) → cell_read m reader ≡ Some forms → (at : List ℤ) (cell : Cell) (before : List Entry) (all : List Conj)
    → IsReading x reader at cell before → all_of (copies m (reading m reader (length at) None) forms.array) ≡ Some all → (source cell before ≡ None) ↔ IsInNone HasExtension all (params ++ at)
no_copy_is_initial m params x d reader forms e at cell before all r made = (none, λ h. by (source cell before) refl h)
  where
    p : List ℤ
    p = params ++ at

    n : ℕ
    n = case_width m.params (reading m reader (length at) None)

    en : n ≡ m.params + length at
    en = width_none m.params (length at)

    lp : length p ≡ n
    lp = length-append params at ∙ ap (λ k. k + length at) (sym d.count) ∙ sym en

    none : source cell before ≡ None → IsInNone HasExtension all p
    none i = none_of p all (λ c k h.
        let w = copy_of_conj m reader forms.array (length at) None all c made k in
        let f = subst (λ (c : Conj). HasExtension c p) w.conj h in
        let l = long_enough p f.0 n (width w.stmt) lp f.1 in
        let c' = parts_of m reader (length at) None n w.writing w.stmt w.rows w.made in
        let first = (meets-parts c'.first c'.second (p ++ f.0) (subst (λ (y : List Row). Meets y (p ++ f.0)) c'.are f.2)).0 in
        let v = written m params x d reader (length at) None n w.writing w.stmt w.rows at f.0 (p ++ f.0) cell before r w.is l c' (shown_initial m params at f.0 w.writing.stmt n w.stmt d.count en l) first in
        source_none cell before v.writer i v.stands v.writes)

    by : (o : Option Writer) → source cell before ≡ o → IsInNone HasExtension all p → source cell before ≡ None
    by None i h = i
    by (Some u) i h =
        let t = rows_of_source m params x d reader forms n e at cell before u en r i in
        let c = conj_of_copy m reader forms.array (length at) None all t.writing t.stmt made t.among t.is in
        absurd (not_in p all (over (n + width t.stmt) c.0) h c.2 (x.coords u.entry, length-append p (x.coords u.entry) ∙ (λ j. lp j + t.wide j), t.meets c.0 c.1))

-- ---- an assumed source

less_or_same : (a b : ℕ) → a ≤ b → (a < b) ⊎ (a ≡ b)
less_or_same a b h = by (nat_lt a b) refl
  where
    by : (x : Bool) → nat_lt a b ≡ x → (a < b) ⊎ (a ≡ b)
    by true e = inl (grind (arith, e, h))
    by false e = inr (grind (arith, e, h))

shown_source : (m : Model) (params at ys zs : List ℤ) (u n : ℕ) (stmt : StmtModel) → m.params ≡ length params → length (params ++ (at ++ ys)) ≡ n → length zs ≡ width stmt → Shown m params at zs (length at) n u stmt ((params ++ (at ++ ys)) ++ zs)
shown_source m params at ys zs u n stmt e en l =
    let q : (params ++ (at ++ ys)) ++ zs ≡ params ++ (at ++ (ys ++ zs)) = append_assoc params (at ++ ys) zs ∙ ap (λ (r : List ℤ). params ++ r) (append_assoc at ys zs) in
    record {
      params_at = ap (picked (base m.params)) q ∙ block [] params (at ++ (ys ++ zs)) 0 m.params refl (sym e);
      reader_at = ap (picked (range_with_len m.params (length at))) q ∙ block params at (ys ++ zs) m.params (length at) (sym e) refl;
      own_at = pick_new (params ++ (at ++ ys)) zs n (width stmt) en l;
    }

no_copy_is_the_source : (m : Model) (params : List ℤ) (x : Execution) (d : Describes m params x) (reader : Position) (forms : CellForms) → cell_read m reader ≡ Some forms
    → (at ys : List ℤ) (cell : Cell) (before : List Entry) (w : CopyNumbers) (stmt : StmtModel) (rows : List Row) (all : List Conj)
    → IsReading x reader at cell before → slice_get m.stmts w.stmt ≡ Some stmt → length ys ≡ width stmt
    → rows_of m (reading m reader (length at) None) (m.params + length at) w stmt ≡ Some rows → Meets rows (params ++ (at ++ ys))
    → all_of (copies m (reading m reader (length at) (Some (root (m.params + length at) w.stmt stmt))) forms.array) ≡ Some all
    → IsSource x cell before w.stmt ys ↔ IsInNone HasExtension all (params ++ (at ++ ys))
no_copy_is_the_source m params x d reader forms e at ys cell before w stmt rows all r is long made_rows here made = (none, some)
  where
    p : List ℤ
    p = params ++ (at ++ ys)

    seat : Seat
    seat = root (m.params + length at) w.stmt stmt

    n : ℕ
    n = case_width m.params (reading m reader (length at) (Some seat))

    lp : length p ≡ n
    lp = length-append params (at ++ ys) ∙ (λ j. sym d.count j + (length-append at ys ∙ ap (λ k. length at + k) long) j)

    -- the numbers of the source's coordinates
    at_source : (zs : List ℤ) → picked (columns_of seat) (p ++ zs) ≡ ys
    at_source zs =
        ap (picked (columns_of seat)) (append_assoc params (at ++ ys) zs ∙ ap (λ (y : List ℤ). params ++ y) (append_assoc at ys zs) ∙ sym (append_assoc params at (ys ++ zs)))
        ∙ block (params ++ at) ys zs (m.params + length at) (width stmt) (length-append params at ∙ ap (λ k. k + length at) (sym d.count)) long

    own : picked (columns_of seat) p ≡ ys
    own = ap (picked (columns_of seat)) (sym (append-nil p)) ∙ at_source []

    -- the writer of the case
    c0 : Parts m reader (length at) None (m.params + length at) w stmt rows
    c0 = parts_of m reader (length at) None (m.params + length at) w stmt rows made_rows

    sh0 : Shown m params at ys (length at) (m.params + length at) w.stmt stmt p
    sh0 = record {
      params_at = block [] params (at ++ ys) 0 m.params refl (sym d.count);
      reader_at = block params at ys m.params (length at) (sym d.count) refl;
      own_at = own;
    }

    w0 : Written x cell before w.stmt ys
    w0 = written m params x d reader (length at) None (m.params + length at) w stmt rows at ys p cell before r is long c0 sh0 (meets-parts c0.first c0.second p (subst (λ (y : List Row). Meets y p) c0.are here)).0

    instance : (zs : List ℤ) (v : Writer) → InstanceAt x w.stmt ys v → InstanceAt x w.stmt (picked (columns_of seat) (p ++ zs)) v
    instance zs v i = record { stands = i.stands; stmt = i.stmt; coords = i.coords ∙ sym (at_source zs) }

    none : IsSource x cell before w.stmt ys → IsInNone HasExtension all p
    none s = none_of p all (λ c k h.
        let f = copy_of_conj m reader forms.array (length at) (Some seat) all c made k in
        let g = subst (λ (c : Conj). HasExtension c p) f.conj h in
        let l = long_enough p g.0 n (width f.stmt) lp g.1 in
        let c' = parts_of m reader (length at) (Some seat) n f.writing f.stmt f.rows f.made in
        let both = meets-parts c'.first c'.second (p ++ g.0) (subst (λ (y : List Row). Meets y (p ++ g.0)) c'.are g.2) in
        let sh = shown_source m params at ys g.0 f.writing.stmt n f.stmt d.count lp l in
        let v = written m params x d reader (length at) (Some seat) n f.writing f.stmt f.rows at g.0 (p ++ g.0) cell before r f.is l c' sh both.0 in
        let lt = later_than m params x d seat f.writing.after f.writing.stmt f.stmt n c'.second (p ++ g.0) g.0 s.writer v.writer c'.later sh.params_at sh.own_at (instance g.0 s.writer s.instance) v.instance f.is both.1 in
        let le = source_last cell before s.writer v.writer s.found v.stands v.writes in
        omega (arith, lt, le))

    -- a later writer of the cell would be a copy
    copy : (v : Writer) → source cell before ≡ Some v → length w0.writer.earlier < length v.earlier → IsInNone HasExtension all p → ⊥
    copy v src lt h =
        let s = source_stands cell before v src in
        let z = x.coords v.entry in
        let all_v = stands_all x reader at r.spot cell before v r.here r.reads s.0 in
        let t = there m params x d reader forms (length at) (Some seat) n at (p ++ z) cell before v e r s.0 s.1
        (λ stmt' is' wide.
        let sh = shown_source m params at ys z v.entry.stmt n stmt' d.count lp wide in
        (sh, later_some m params x d seat n stmt' (p ++ z) w0.writer v sh.params_at sh.own_at (instance z w0.writer w0.instance) all_v is' lt)) in
        let c = conj_of_copy m reader forms.array (length at) (Some seat) all t.writing t.stmt made t.among t.is in
        not_in p all (over (n + width t.stmt) c.0) h c.2 (z, length-append p z ∙ (λ j. lp j + t.wide j), t.meets c.0 c.1)

    last : (v : Writer) → source cell before ≡ Some v → IsInNone HasExtension all p → (length w0.writer.earlier < length v.earlier) ⊎ (length w0.writer.earlier ≡ length v.earlier) → IsSource x cell before w.stmt ys
    last v src h (inl lt) = absurd (copy v src lt h)
    last v src h (inr eq) =
        let one = one_place w0.writer v w0.stands (source_stands cell before v src).0 eq in
        record { writer = w0.writer; found = src ∙ ap Some (sym one); instance = w0.instance }

    some : IsInNone HasExtension all p → IsSource x cell before w.stmt ys
    some h = by (source cell before) refl
      where
        by : (o : Option Writer) → source cell before ≡ o → IsSource x cell before w.stmt ys
        by None i = absurd (source_none cell before w0.writer i w0.stands w0.writes)
        by (Some v) i = last v i h (less_or_same (length w0.writer.earlier) (length v.earlier) (source_last cell before v w0.writer i w0.stands w0.writes))

pub no_copy : (m : Model) (params : List ℤ) (x : Execution) (d : Describes m params x) (reader : Position) (forms : CellForms) → cell_read m reader ≡ Some forms → NoCopy m params x reader forms
no_copy m params x d reader forms e = record {
  assumed = λ at ys cell before w stmt rows all. no_copy_is_the_source m params x d reader forms e at ys cell before w stmt rows all;
  initial = λ at cell before all. no_copy_is_initial m params x d reader forms e at cell before all;
}

pub no_copy_law : NoCopyIsTheSource
no_copy_law p m params reader forms d e = no_copy m params _ d reader forms e

pub source_law : TheSourceHasRows
source_law p m params reader forms d e at cell before u r s = the_source_has_rows m params _ d reader forms e at cell before u r s
