-- The questions of cutting are narrow where the case and the kill pieces are.
use Rattle.std.proofs.Common.{inl, inr, ℕ, ◌+◌, ◌≤◌, ◌^◌, lit≤, List, [], ◌∷◌, ◌++◌, map, Bool, true, false, cond, refl, sym, subst, arith}
use Rattle.std.specs.List.{AllByRecursion, Contains}
use Rattle.std.proofs.lemmas.List.Elements.{Contains-append_right}
use Rattle.ac_forms.specs.Negation.{negation}
use Rattle.ac_forms.specs.Standing.{is_among}
use Rattle.ac_forms.specs.declared.conj.Conj.{Conj}
use Rattle.ac_forms.specs.declared.row.Row.{Row}
use Rattle.ac_flow.specs.CutStops.{IsCutCase, Itself, Outside, IsCutQuestion, LacksCut}
use Rattle.ac_flow.specs.Cuts.{with_new, with_all_new, extended, row_parts, after_row, parts_outside}
use Rattle.ac_flow_budget.proofs.Rows.{AreNarrow, IsNarrow, all-at, narrow-more, narrow-both, narrow-first, narrow-at, negation-narrow}

-- ---- rows added where they do not stand

new-narrow : (n b : ℕ) (rows : List Row) (r : Row) → AreNarrow n b rows → IsNarrow n b r → AreNarrow n b (with_new rows r)
new-narrow n b rows r h g = by (is_among r rows)
  where
    by : (x : Bool) → AreNarrow n b (cond x rows (rows ++ r ∷ []))
    by true = h
    by false = narrow-both n b rows (r ∷ []) h (narrow-first n b r [] g (record { over = tt; differences = tt }))

all-new-narrow : (n b : ℕ) (rows more : List Row) → AreNarrow n b rows → AreNarrow n b more → AreNarrow n b (with_all_new rows more)
all-new-narrow n b rows [] h g = h
all-new-narrow n b rows (r ∷ rs) h g =
    all-new-narrow n b (with_new rows r) rs (new-narrow n b rows r h (record { over = g.over.0; difference = g.differences.0 })) (record { over = g.over.1; differences = g.differences.1 })

-- ---- the parts outside a kill piece

-- each of several
abbrev AllNarrow : ℕ → ℕ → List Conj → Type 0
AllNarrow n b ds = AllByRecursion (λ (d : Conj). AreNarrow n b d.rows) ds

all-both : (n b : ℕ) (cs ds : List Conj) → AllNarrow n b cs → AllNarrow n b ds → AllNarrow n b (cs ++ ds)
all-both n b [] ds h g = g
all-both n b (c ∷ cs) ds h g = (h.0, all-both n b cs ds h.1 g)

extended-narrow : (n a b : ℕ) (c : Conj) (ds : List Conj) → a ≤ b → AreNarrow n b c.rows → AllNarrow n a ds → AllNarrow n b (map (extended c) ds)
extended-narrow n a b c [] l h g = tt
extended-narrow n a b c (d ∷ ds) l h g = (all-new-narrow n b c.rows d.rows h (narrow-more n n a b d.rows (omega arith) l g.0), extended-narrow n a b c ds l h g.1)

row-narrow : (n a b : ℕ) (c : Conj) (r : Row) → a + 1 ≤ b → AreNarrow n b c.rows → IsNarrow n a r → AllNarrow n b (row_parts c r)
row-narrow n a b c r l h g = by (is_among r c.rows)
  where
    by : (x : Bool) → AllNarrow n b (cond x [] (map (extended c) (negation c.columns r)))
    by true = tt
    by false = extended-narrow n (a + 1) b c (negation c.columns r) l h (negation-narrow n c.columns a r g)

outside-narrow : (n a b : ℕ) (c : Conj) (kill : List Row) → a + 1 ≤ b → AreNarrow n b c.rows → AreNarrow n a kill → AllNarrow n b (parts_outside c kill)
outside-narrow n a b c [] l h g = tt
outside-narrow n a b c (r ∷ rs) l h g =
    let more = narrow-more n n a b (r ∷ rs) (omega arith) (omega (arith, l)) g in
    all-both n b (row_parts c r) (parts_outside (after_row c r) rs) (row-narrow n a b c r l h (record { over = g.over.0; difference = g.differences.0 }))
    (outside-narrow n a b (after_row c r) rs l (new-narrow n b c.rows r h (record { over = more.over.0; difference = more.differences.0 })) (record { over = g.over.1; differences = g.differences.1 }))

-- ---- the questions

-- each of the kill pieces
unfoldable pub AreKillsNarrow : List (List Row) → Type 0
AreKillsNarrow kills = (kill : List Row) → Contains kills kill → AreNarrow 22 (2 ^ 40) kill

case-narrow : (kills : List (List Row)) (case c : Conj) → AreNarrow 22 (2 ^ 34) case.rows → AreKillsNarrow kills → IsCutCase case kills c → AreNarrow 22 (2 ^ 48) c.rows
unfolding AreKillsNarrow
case-narrow kills case _ b h Itself = narrow-more 22 22 (2 ^ 34) (2 ^ 48) case.rows (omega arith) (lit≤ tt) b
case-narrow kills case _ b h (Outside c d kill k f has part) =
    all-at (λ (x : Conj). AreNarrow 22 (2 ^ 48) x.rows) (parts_outside c kill) d (outside-narrow 22 (2 ^ 40) (2 ^ 48) c kill (lit≤ tt) (case-narrow kills case c b h k) (h kill f)) part

pub cut-narrow : (kills : List (List Row)) (case q : Conj) → AreNarrow 22 (2 ^ 34) case.rows → AreKillsNarrow kills → IsCutQuestion case kills q → AreNarrow 22 (2 ^ 48) q.rows
unfolding AreKillsNarrow
cut-narrow kills case q b h (inl k) = case-narrow kills case q b h k
cut-narrow kills case q b h (inr i) =
    let more = narrow-more 22 22 (2 ^ 40) (2 ^ 48) i.kill (omega arith) (lit≤ tt) (h i.kill i.among) in
    subst (λ (c : Conj). AreNarrow 22 (2 ^ 48) c.rows) (sym i.is) (all-new-narrow 22 (2 ^ 48) i.cut_case.rows i.kill (case-narrow kills case i.cut_case b h i.cut) more)

-- a row whose negation a cut lacks
pub lacked-narrow : (kills : List (List Row)) (case q : Conj) → AreKillsNarrow kills → (l : LacksCut case kills q) → IsNarrow 22 (2 ^ 40) l.lacks.row
unfolding AreKillsNarrow
lacked-narrow kills case q h l =
    let p = l.lacks in
    narrow-at 22 (2 ^ 40) l.kill p.row (h l.kill l.among) (subst (λ (rows : List Row). Contains rows p.row) p.split (Contains-append_right p.before (p.row ∷ p.behind) p.row (0, omega arith, refl)))
