-- Pairs that match nothing: by what stands there, and at a point where a row that has to stand fails.
use Rattle.std.proofs.Common.{◌≡◌, ◌⊎◌, inl, inr, ℕ, Bool, true, false, ℤ, List, [], ◌∷◌, ◌++◌, length, Option, Some, None, refl, sym, ap, ◌∙◌, subst, arith, append-nil, length-append}
use Rattle.std.specs.Prelude.{Result, Ok, Err, IfOk, is_some, option_map, slice_get}
use Rattle.ac_forms.specs.Affine.{Affine}
use Rattle.ac_forms.specs.Negation.{above, below, negation, piece, HasExtension}
use Rattle.ac_forms.specs.PieceMembership.{IsInSome}
use Rattle.ac_forms.specs.Rows.{Holds, Meets, IsRowOver}
use Rattle.ac_forms.specs.declared.conj.Conj.{Conj}
use Rattle.ac_forms.specs.declared.row.Row.{Row}
use Rattle.ac_forms.specs.declared.row.Row.TheVariants.{Eq, Ge}
use Rattle.ac_forms.proofs.Negations.{complement}
use Rattle.ac_syntax.specs.declared.tree.Position.{Position}
use Rattle.ac_syntax.specs.declared.tree.Position.TheVariants.{Output, Node, InitialOutput, InitialNode}
use Rattle.ac_poly.specs.Model.{is_input}
use Rattle.ac_poly.specs.declared.types.Model.{Model}
use Rattle.ac_base.proofs.Options.{bind-some, map-some, some-is}
use Rattle.ac_claims_paths.specs.PathColumns.{base, columns_of, difference, equal_forms}
use Rattle.ac_claims_paths.specs.PathSteps.{Pairing}
use Rattle.ac_forms.specs.ListMembers.{IsAmong}
use Rattle.ac_claims_paths.specs.ModelPositions.{CallAt, call_at, cell_read, initial_cell, number_at}
use Rattle.ac_claims_paths.specs.declared.path.Path.{Path}
use Rattle.ac_claims_paths.specs.declared.path.Side.TheVariants.{Left, Right}
use Rattle.ac_claims_paths.specs.declared.places.CellForms.{CellForms}
use Rattle.ac_claims.specs.ProofEnds.{equal_cells, equal_numbers}
use Rattle.ac_claims.specs.declared.types.PlanNext.TheVariants.{SameInitial, SameNumber}
use Rattle.ac_graph.specs.PairMoves.{IsReader, pairing_of}
use Rattle.ac_widen_programs.specs.PairPathEnds.{Breaks, MatchesNothing}
use Rattle.ac_widen_programs.specs.PairPaths.{Unfolding}
use Rattle.ac_widen_programs.specs.PairPathSteps.{AreNoReaders}
use Rattle.ac_unfold_plans.specs.ArgumentOrders.{order_of}
use Rattle.ac_syntax.specs.declared.tree.Order.{Order}
use Rattle.ac_unfold.specs.EndResults.{IsEndOfSteps}
use Rattle.ac_unfold.specs.PlanResults.{judge_of}
use Rattle.ac_unfold.specs.BrokenPathResults.{Fails, IsKindThere, IsLeaf, IsNoNumber, IsOf}
use Rattle.ac_unfold.specs.declared.ends.Search.{Search}
use Rattle.ac_unfold.specs.declared.kinds.Next.{Next}
use Rattle.ac_unfold.specs.declared.kinds.Next.TheVariants as next
use Rattle.ac_unfold.specs.declared.types.UnfoldStop.{UnfoldStop}
use Rattle.ac_unfold.proofs.Matching.{cells_are}

-- ---- an equality that fails

nil_is : (xs : List ℤ) → length xs ≡ 0 → xs ≡ []
nil_is [] e = refl
nil_is (x ∷ xs) e = absurd cc

meets_flat : (c : Conj) (n : ℕ) (p : List ℤ) → c.columns ≡ n → length p ≡ n → HasExtension c p → Meets c.rows p
meets_flat c n p w l h =
    let a = length-append p h.0 in
    let b : length (p ++ h.0) ≡ n = h.1 ∙ w in
    let none : h.0 ≡ [] = nil_is h.0 (omega (arith, a, b, l)) in
    subst (Meets c.rows) (ap (λ (xs : List ℤ). p ++ xs) none ∙ append-nil p) h.2

-- a part of the negation
record MeetsPart (n : ℕ) (r : Row) (p : List ℤ) : Type 0 where
  part : Conj
  among : IsAmong part (negation n r)
  long : length p ≡ part.columns
  meets : Meets part.rows p

part_met : (n : ℕ) (f : Affine) (p : List ℤ) → length p ≡ n → IsInSome HasExtension (negation n (Eq f)) p → MeetsPart n (Eq f) p
part_met n f p l (inl h) = let c = piece n (Ge (above f) ∷ []) in record { part = c; among = inl refl; long = l; meets = meets_flat c n p refl l h }
part_met n f p l (inr (inl h)) = let c = piece n (Ge (below f) ∷ []) in record { part = c; among = inr (inl refl); long = l; meets = meets_flat c n p refl l h }
part_met n f p l (inr (inr h)) = absurd h

pub breaks_by : (n : ℕ) (rows : List Row) (r : Row) (p : List ℤ) (f : Affine) → IsAmong r rows → r ≡ Eq f → Fails n r p → Breaks n rows p
breaks_by n rows r p f i e h =
    let over : IsRowOver n (Eq f) = subst (IsRowOver n) e h.over in
    let long = h.exact f e in
    let fails : ¬ (Holds (Eq f) p) = subst (λ (x : Row). ¬ (Holds x p)) e h.fails in
    let part = part_met n f p long ((complement n (Eq f) p over long).0 fails) in
    record { row = Eq f; among = subst (λ (x : Row). IsAmong x rows) e i; over = over; part = part.part; part_among = part.among; long = part.long; meets = part.meets }

-- the rows of an equality of forms
are_equalities : (ks : List ℕ) (fs : List Affine) (ls : List ℕ) (gs : List Affine) (rows : List Row) → equal_forms ks fs ls gs ≡ Some rows → (r : Row) → IsAmong r rows → (f : Affine) × (r ≡ Eq f)
are_equalities ks [] ls [] rows e r i = let z : [] ≡ rows = some-is [] rows e in absurd (subst (IsAmong r) (sym z) i)
are_equalities ks [] ls (g ∷ gs) rows e r i = absurd cc
are_equalities ks (f ∷ fs) ls [] rows e r i = absurd cc
are_equalities ks (f ∷ fs) ls (g ∷ gs) rows e r i =
    let a = bind-some (difference ks f ls g) (λ x. option_map (λ (xs : List Row). Eq x ∷ xs) (equal_forms ks fs ls gs)) rows e in
    let b = map-some (equal_forms ks fs ls gs) (λ (xs : List Row). Eq a.0 ∷ xs) rows a.2 in
    by a.0 b.0 (are_equalities ks fs ls gs b.0 b.1 r) (subst (IsAmong r) b.2 i)
  where
    by : (x : Affine) (xs : List Row) → (IsAmong r xs → (h : Affine) × (r ≡ Eq h)) → IsAmong r (Eq x ∷ xs) → (h : Affine) × (r ≡ Eq h)
    by x xs rest (inl j) = (x, j)
    by x xs rest (inr j) = rest j

-- ---- by the programs of a search

-- nothing matches, by what two programs are checked against
record NothingBy (g : Pairing) (q : Path) (p : List ℤ) : Type 0 where
  leaf : IsLeaf g q
  numbers : (f h : Affine) → number_at g.left q.left.position ≡ Some f → number_at g.right q.right.position ≡ Some h → (rows : List Row) × (equal_numbers g q (Some f) (Some h) ≡ Some rows) × Breaks q.conj.columns rows p
  cells : (c d : CellForms) → initial_cell g.left q.left.position ≡ Some c → initial_cell g.right q.right.position ≡ Some d
      → (¬ (c.array ≡ d.array)) ⊎ ((is_input (slice_get g.left.kinds c.array) ≡ false) ⊎ ((rows : List Row) × (equal_cells g q (Some c) (Some d) ≡ Some rows) × Breaks q.conj.columns rows p))

nothing_by : (search : Search) (u : Unfolding) (q : Path) (p : List ℤ) → IsOf search u → NothingBy (judge_of search) q p → MatchesNothing u q p
nothing_by search u q p of h =
    let k : NothingBy (pairing_of u.pair) q p = subst (λ (g : Pairing). NothingBy g q p) (sym of.programs) h in
    record { readers = record { left = k.leaf.left; right = k.leaf.right }; calls = k.leaf.calls; numbers = k.numbers; cells = k.cells }

-- where a number stands, no initial cell does
no_cell : (m : Model) (P : Position) (f : Affine) (c : CellForms) → number_at m P ≡ Some f → ¬ (initial_cell m P ≡ Some c)
no_cell m (Output o) f c n i = absurd cc
no_cell m (Node s k) f c n i = absurd cc
no_cell m (InitialOutput o) f c n i = absurd cc
no_cell m (InitialNode s k) f c n i = absurd cc

-- ---- kinds

pub number_kind : (search : Search) (q : Path) (form other : Affine) (rows : List Row) → number_at (judge_of search).left q.left.position ≡ Some form → number_at (judge_of search).right q.right.position ≡ Some other
    → Some rows ≡ equal_forms (base (judge_of search).params ++ columns_of q.left) (form ∷ []) (base (judge_of search).params ++ columns_of q.right) (other ∷ []) → IsLeaf (judge_of search) q → IsKindThere search q (next.Match rows SameNumber)
unfolding IsKindThere
number_kind search q form other rows l r e leaf u of p row i fails =
    let g = judge_of search in
    let eq = are_equalities (base g.params ++ columns_of q.left) (form ∷ []) (base g.params ++ columns_of q.right) (other ∷ []) rows (sym e) row i in
    let breaks = breaks_by q.conj.columns rows row p eq.0 i eq.1 fails in
    nothing_by search u q p of record {
      leaf = leaf;
      numbers = λ f h fe he.
          let a : form ≡ f = some-is form f (sym l ∙ fe) in
          let b : other ≡ h = some-is other h (sym r ∙ he) in
          (rows, ap (λ x. equal_numbers g q (Some x) (Some h)) (sym a) ∙ ap (λ x. equal_numbers g q (Some form) (Some x)) (sym b) ∙ sym e, breaks);
      cells = λ c d ce de. absurd (no_cell g.left q.left.position form c l ce);
    }

pub cell_kind : (search : Search) (q : Path) (c d : CellForms) (rows : List Row) → initial_cell (judge_of search).left q.left.position ≡ Some c → initial_cell (judge_of search).right q.right.position ≡ Some d → c.array ≡ d.array
    → is_input (slice_get (judge_of search).left.kinds c.array) ≡ true → Some rows ≡ equal_forms (base (judge_of search).params ++ columns_of q.left) c.subs (base (judge_of search).params ++ columns_of q.right) d.subs
    → IsNoNumber (judge_of search) q → IsKindThere search q (next.Match rows SameInitial)
unfolding IsKindThere
cell_kind search q c d rows l r same input e none u of p row i fails =
    let g = judge_of search in
    let eq = are_equalities (base g.params ++ columns_of q.left) c.subs (base g.params ++ columns_of q.right) d.subs rows (sym e) row i in
    let breaks = breaks_by q.conj.columns rows row p eq.0 i eq.1 fails in
    nothing_by search u q p of record {
      leaf = none.leaf;
      numbers = λ f h fe he. absurd (none.numbers f h fe he);
      cells = λ x y xe ye.
          let a : c ≡ x = some-is c x (sym l ∙ xe) in
          let b : d ≡ y = some-is d y (sym r ∙ ye) in
          inr (inr (rows, ap (λ z. equal_cells g q (Some z) (Some y)) (sym a) ∙ ap (λ z. equal_cells g q (Some c) (Some z)) (sym b) ∙ cells_are g q c d rows same input e, breaks));
    }

-- two initial cells that are not of one input
pub other_cells : (search : Search) (q : Path) (c d : CellForms) → initial_cell (judge_of search).left q.left.position ≡ Some c → initial_cell (judge_of search).right q.right.position ≡ Some d
    → (¬ (c.array ≡ d.array)) ⊎ (is_input (slice_get (judge_of search).left.kinds c.array) ≡ false) → IsNoNumber (judge_of search) q → IsKindThere search q next.Mismatch
unfolding IsKindThere
other_cells search q c d l r other none u of p =
    let g = judge_of search in
    nothing_by search u q p of record {
      leaf = none.leaf;
      numbers = λ f h fe he. absurd (none.numbers f h fe he);
      cells = λ x y xe ye. by x y (some-is c x (sym l ∙ xe)) (some-is d y (sym r ∙ ye)) other;
    }
  where
    by : (x y : CellForms) → c ≡ x → d ≡ y → (¬ (c.array ≡ d.array)) ⊎ (is_input (slice_get (judge_of search).left.kinds c.array) ≡ false)
        → (¬ (x.array ≡ y.array)) ⊎ ((is_input (slice_get (judge_of search).left.kinds x.array) ≡ false) ⊎ ((rows : List Row) × (equal_cells (judge_of search) q (Some x) (Some y) ≡ Some rows) × Breaks q.conj.columns rows p))
    by x y a b (inl n) = inl (λ e. n (ap (λ (z : CellForms). z.array) a ∙ e ∙ sym (ap (λ (z : CellForms). z.array) b)))
    by x y a b (inr n) = inr (inl (ap (λ (z : CellForms). is_input (slice_get (judge_of search).left.kinds z.array)) (sym a) ∙ n))

-- no two initial cells
pub no_cells : (search : Search) (q : Path) → (initial_cell (judge_of search).left q.left.position ≡ None) ⊎ (initial_cell (judge_of search).right q.right.position ≡ None) → IsNoNumber (judge_of search) q → IsKindThere search q next.Mismatch
unfolding IsKindThere
no_cells search q one none u of p =
    nothing_by search u q p of record {
      leaf = none.leaf;
      numbers = λ f h fe he. absurd (none.numbers f h fe he);
      cells = λ c d ce de. by c d ce de one;
    }
  where
    by : (c d : CellForms) → initial_cell (judge_of search).left q.left.position ≡ Some c → initial_cell (judge_of search).right q.right.position ≡ Some d
        → (initial_cell (judge_of search).left q.left.position ≡ None) ⊎ (initial_cell (judge_of search).right q.right.position ≡ None)
        → (¬ (c.array ≡ d.array)) ⊎ ((is_input (slice_get (judge_of search).left.kinds c.array) ≡ false) ⊎ ((rows : List Row) × (equal_cells (judge_of search) q (Some c) (Some d) ≡ Some rows) × Breaks q.conj.columns rows p))
    by c d ce de (inl n) = let z : None ≡ Some c = sym n ∙ ce in absurd cc
    by c d ce de (inr n) = let z : None ≡ Some d = sym n ∙ de in absurd cc

-- ---- reads and calls

some_of : (o : Option CellForms) → is_some o ≡ true → (c : CellForms) × (o ≡ Some c)
some_of None e = absurd cc
some_of (Some c) e = (c, refl)

pub none_of : (o : Option CellForms) → is_some o ≡ false → o ≡ None
none_of None e = refl
none_of (Some c) e = absurd cc

pub left_kind : (search : Search) (q : Path) (o : Option CellForms) → o ≡ cell_read (judge_of search).left q.left.position → is_some o ≡ true → IsKindThere search q (next.Read Left)
unfolding IsKindThere
left_kind search q o e s u of =
    let x = some_of o s in
    subst (λ (g : Pairing). IsReader g.left q.left.position) (sym of.programs) (x.0, sym e ∙ x.1)

pub right_kind : (search : Search) (q : Path) (o r : Option CellForms) → o ≡ cell_read (judge_of search).left q.left.position → is_some o ≡ false → r ≡ cell_read (judge_of search).right q.right.position → is_some r ≡ true → IsKindThere search q (next.Read Right)
unfolding IsKindThere
right_kind search q o r e s f k u of =
    let x = some_of r k in
    (subst (λ (g : Pairing). cell_read g.left q.left.position ≡ None) (sym of.programs) (sym e ∙ none_of o s), subst (λ (g : Pairing). IsReader g.right q.right.position) (sym of.programs) (x.0, sym f ∙ x.1))

pub calls_kind : (search : Search) (q : Path) (o r : Option CellForms) (order : Order) → o ≡ cell_read (judge_of search).left q.left.position → is_some o ≡ false → r ≡ cell_read (judge_of search).right q.right.position → is_some r ≡ false
    → order ≡ order_of search.order.now (q.left.position, q.right.position) → IsKindThere search q (next.Calls order)
unfolding IsKindThere
calls_kind search q o r order e s f k is u of =
    let none : AreNoReaders u q = record {
      left = subst (λ (g : Pairing). cell_read g.left q.left.position ≡ None) (sym of.programs) (sym e ∙ none_of o s);
      right = subst (λ (g : Pairing). cell_read g.right q.right.position ≡ None) (sym of.programs) (sym f ∙ none_of r k);
    } in
    (none, of.orders (q.left.position, q.right.position) ∙ sym is)

pub leaf_is : (search : Search) (q : Path) (o r : Option CellForms) (calls : Bool) → o ≡ cell_read (judge_of search).left q.left.position → is_some o ≡ false → r ≡ cell_read (judge_of search).right q.right.position → is_some r ≡ false
    → (calls ≡ false → (c d : CallAt) → call_at (judge_of search).left q.left.position ≡ Some c → call_at (judge_of search).right q.right.position ≡ Some d → ¬ ((c.symbol ≡ d.symbol) × (length c.args ≡ length d.args))) → calls ≡ false → IsLeaf (judge_of search) q
leaf_is search q o r calls e s f k h is = record { left = sym e ∙ none_of o s; right = sym f ∙ none_of r k; calls = h is }

-- so no step is left, whatever comes of it
pub leaf_ends : (res : Result Next UnfoldStop) (search : Search) (q : Path) → IsLeaf (judge_of search) q → IfOk res (IsEndOfSteps search q)
leaf_ends (Ok (next.Read side)) search q leaf = tt
leaf_ends (Ok (next.Calls order)) search q leaf = tt
leaf_ends (Ok (next.Match rows end)) search q leaf = leaf
leaf_ends (Ok next.Mismatch) search q leaf = leaf
leaf_ends (Err stop) search q leaf = tt
