-- The rows by which two cells are one, and which entries clash by them.
use Rattle.std.proofs.Common.{◌≡◌, ◌↔◌, inl, inr, ◌==◌, ◌&&◌, ℕ, zero, suc, ◌+◌, ◌-◌, ◌<◌, ◌≤◌, List, [], ◌∷◌, map, length, Bool, true, false, cond, Option, Some, refl, sym, ap, ◌∙◌, subst, ℤ, arith}
use Rattle.std.specs.Prelude.{slice_get, nat_lt}
use Rattle.std.specs.List.{flat_map}
use Rattle.std.proofs.lemmas.Bool.Decides.{nat_tests}
use Rattle.std.proofs.lemmas.List.{length-map}
use Rattle.ac_forms.specs.Affine.{Affine, value_at}
use Rattle.ac_forms.specs.ListMembers.{IsAmong}
use Rattle.ac_forms.specs.PieceMembership.{IsInSome}
use Rattle.ac_forms.specs.Renaming.{renamed, picked}
use Rattle.ac_forms.specs.Rows.{Meets}
use Rattle.ac_forms.specs.declared.row.Row.{Row}
use Rattle.ac_forms.proofs.InPieces.{some-append}
use Rattle.ac_syntax.specs.Algebra.{Cell, target}
use Rattle.ac_syntax.specs.ValueNodes.{size, size_in, node_of, node_in}
use Rattle.ac_syntax.specs.Trace.{Entry}
use Rattle.ac_syntax.specs.declared.tree.Value.{Value, Row_of-Value, end_of-Value, more_of-Value}
use Rattle.ac_syntax.specs.declared.tree.Value.TheVariants.{Number, Access, Call'}
use Rattle.ac_syntax.proofs.NodeLemmas.{in_first}
use Rattle.ac_poly.specs.LevelRows.{equalities}
use Rattle.ac_poly.specs.ModelMeaning.{values_at, cell_of, Shows}
use Rattle.ac_poly.specs.ModelNodes.{roots}
use Rattle.ac_poly.specs.declared.types.NodeModel.{NodeModel}
use Rattle.ac_poly.specs.declared.types.NodeModel.TheVariants as node
use Rattle.ac_poly.specs.declared.types.StmtModel.{StmtModel}
use Rattle.ac_poly.proofs.Differences.{equalities_hold}
use Rattle.ac_legal_law.specs.Conflicts.{Clash, ReadsCell}
use Rattle.ac_legal_law.specs.OrderQuestions.{CellForms, cell_there, written, reads, same_cells, clashes}
use Rattle.ac_legal_law.proofs.Choices.{values-renamed, in_some_of}

-- ---- two cells

arrays_equal : (i j : ℕ) → (i == j) ≡ true → i ≡ j
arrays_equal i j h = grind (arith, nat_tests)

equal_arrays : (i j : ℕ) → i ≡ j → (i == j) ≡ true
equal_arrays i j h = grind (arith, nat_tests)

values_length : (p : List ℤ) (fs : List Affine) → length (values_at p fs) ≡ length fs
values_length p fs = length-map fs (λ f. value_at f p)

module _ (ks ls : List ℕ) (a b : CellForms) (p : List ℤ) where
  there : a.array ≡ b.array → length a.subs ≡ length b.subs → Meets (equalities (map (renamed ks) a.subs) (map (renamed ls) b.subs)) p ↔ (cell_there a (picked ks p) ≡ cell_there b (picked ls p))
  there e l =
      let len : length (map (renamed ks) a.subs) ≡ length (map (renamed ls) b.subs) = length-map a.subs (renamed ks) ∙ l ∙ sym (length-map b.subs (renamed ls)) in
      let h = equalities_hold (map (renamed ks) a.subs) (map (renamed ls) b.subs) p len in
      let v = values-renamed ks a.subs p in
      let w = values-renamed ls b.subs p in (
        (λ m. let q = sym v ∙ h.0 m ∙ w in λ i. record { array = e i; at = q i }),
        (λ q. h.1 (v ∙ ap (λ (c : Cell). c.at) q ∙ sym w)),
      )

  by_test : (t r : Bool) → (a.array == b.array) ≡ t → (length a.subs == length b.subs) ≡ r
      → IsInSome Meets (cond (t && r) (equalities (map (renamed ks) a.subs) (map (renamed ls) b.subs) ∷ []) []) p ↔ (cell_there a (picked ks p) ≡ cell_there b (picked ls p))
  by_test true true e l =
      let h = there (arrays_equal a.array b.array e) (arrays_equal (length a.subs) (length b.subs) l) in
      ((λ s. elim s [ inl m ↦ h.0 m | inr n ↦ absurd n ]), (λ q. inl (h.1 q)))
  by_test true false e l = (
    (λ s. absurd s),
    (λ q.
        let same : length a.subs ≡ length b.subs = sym (values_length (picked ks p) a.subs) ∙ ap (λ (c : Cell). length c.at) q ∙ values_length (picked ls p) b.subs in
        let k : true ≡ false = sym (equal_arrays (length a.subs) (length b.subs) same) ∙ l in absurd cc),
  )
  by_test false r e l = (
    (λ s. absurd s),
    (λ q.
        let same : a.array ≡ b.array = ap (λ (c : Cell). c.array) q in
        let k : true ≡ false = sym (equal_arrays a.array b.array same) ∙ e in absurd cc),
  )

  -- the equalities hold if and only if both are one cell
  pub same_holds : IsInSome Meets (same_cells ks ls a b) p ↔ (cell_there a (picked ks p) ≡ cell_there b (picked ls p))
  same_holds = by_test (a.array == b.array) (length a.subs == length b.subs) refl refl

-- ---- the reads of an entry

node_by : (b : Bool) (v : Value) (k m : ℕ) (rest : Option Value) → nat_lt k (size v) ≡ b → k < size v + m → (k < size v → (u : Value) × (node_of v k ≡ Some u)) → (k - size v < m → (u : Value) × (rest ≡ Some u)) → (u : Value) × (cond b (node_of v k) rest ≡ Some u)
node_by true v k m rest e l f g = f (in_first k (size v) true e)
node_by false v k m rest e l f g = let s : size v ≤ k = in_first k (size v) false e in g (omega arith)

mutual
  unfolding node_of size

  node_there : (v : Value) (k : ℕ) → k < size v → (u : Value) × (node_of v k ≡ Some u)
  node_there (Number e) zero l = (Number e, refl)
  node_there (Number e) (suc k) l = absurd (omega arith)
  node_there (Access array subs place) zero l = (Access array subs place, refl)
  node_there (Access array subs place) (suc k) l = absurd (omega arith)
  node_there (Call' symbol n args place) zero l = (Call' symbol n args place, refl)
  node_there (Call' symbol n args place) (suc k) l = node_among_them args k (omega arith)

  node_among_them : {m : _} (vs : Row_of-Value m) (k : ℕ) → k < size_in vs → (u : Value) × (node_in vs k ≡ Some u)
  node_among_them end_of-Value k l = absurd (omega arith)
  node_among_them (more_of-Value v rest) k l = node_by (nat_lt k (size v)) v k (size_in rest) (node_in rest (k - size v)) refl l (node_there v k) (λ s. node_among_them rest (k - size v) s)

read_among : (ns : List NodeModel) (k : ℕ) (array : ℕ) (subs : List Affine) → slice_get ns k ≡ Some (node.Read array subs) → IsAmong (record { array = array; subs = subs }) (reads ns)
read_among [] k array subs h = absurd cc
read_among (n ∷ ns) zero array subs h = let e : n ≡ node.Read array subs = cc in subst (λ (m : NodeModel). IsAmong (record { array = array; subs = subs }) (reads (m ∷ ns))) (sym e) (inl refl)
read_among (node.Number f ∷ ns) (suc k) array subs h = read_among ns k array subs h
read_among (node.Read a fs ∷ ns) (suc k) array subs h = inr (read_among ns k array subs h)
read_among (node.Call s args ∷ ns) (suc k) array subs h = read_among ns k array subs h

among_read : (ns : List NodeModel) (a : CellForms) → IsAmong a (reads ns) → (k : ℕ) × (k < length ns) × (slice_get ns k ≡ Some (node.Read a.array a.subs))
among_read [] a h = absurd h
among_read (node.Number f ∷ ns) a h = let r = among_read ns a h in (suc r.0, (let l : r.0 < length ns = r.1 in omega arith), r.2)
among_read (node.Call s args ∷ ns) a h = let r = among_read ns a h in (suc r.0, (let l : r.0 < length ns = r.1 in omega arith), r.2)
among_read (node.Read array subs ∷ ns) a (inl e) = (zero, omega arith, (λ i. Some (node.Read ((sym e i).array) ((sym e i).subs))))
among_read (node.Read array subs ∷ ns) a (inr h) = let r = among_read ns a h in (suc r.0, (let l : r.0 < length ns = r.1 in omega arith), r.2)

-- what an entry's model says of it, at the point of its coordinates
pub record Shown (q : List ℤ) (e : Entry) (s : StmtModel) : Type 0 where
  pub cell : target e ≡ cell_of s q
  pub count : length s.nodes ≡ size e.value
  pub nodes : (k : ℕ) (v : Value) → node_of e.value k ≡ Some v → Shows q e.point v k (slice_get s.nodes k)

read_shown : (q : List ℤ) (e : Entry) (s : StmtModel) → Shown q e s → (c : Cell) → ReadsCell e c → (a : CellForms) × IsAmong a (reads s.nodes) × (cell_there a q ≡ c)
read_shown q e s h c r =
    let n = h.nodes r.node (Access r.array r.subs r.place) r.access in (
      record { array = r.array; subs = n.0 },
      read_among s.nodes r.node r.array n.0 n.1,
      (λ i. record { array = r.array; at = n.2 i }) ∙ r.cell,
    )

shown_by : (q : List ℤ) (e : Entry) (a : CellForms) (k : ℕ) (v : Value) → node_of e.value k ≡ Some v → Shows q e.point v k (Some (node.Read a.array a.subs)) → ReadsCell e (cell_there a q)
shown_by q e a k (Number n) g h = let z : Some (node.Read a.array a.subs) ≡ Some (node.Number h.0) = h.1 in absurd cc
shown_by q e a k (Access array subs place) g h =
    let z : Some (node.Read a.array a.subs) ≡ Some (node.Read array h.0) = h.1 in
    let i : a.array ≡ array = cc in
    let j : a.subs ≡ h.0 = cc in
    record { node = k; array = array; subs = subs; place = place; access = g; cell = λ t. record { array = sym i t; at = (sym h.2 ∙ ap (values_at q) (sym j)) t } }
shown_by q e a k (Call' symbol n args place) g h = let z : Some (node.Read a.array a.subs) ≡ Some (node.Call symbol (roots args (k + 1))) = h in absurd cc

shown_read : (q : List ℤ) (e : Entry) (s : StmtModel) → Shown q e s → (a : CellForms) → IsAmong a (reads s.nodes) → ReadsCell e (cell_there a q)
shown_read q e s h a m =
    let r = among_read s.nodes a m in
    let l : r.0 < length s.nodes = r.1 in
    let c : length s.nodes ≡ size e.value = h.count in
    let n = node_there e.value r.0 (omega arith) in
    shown_by q e a r.0 n.0 n.1 (subst (Shows q e.point n.0 r.0) r.2 (h.nodes r.0 n.0 n.1))

-- ---- two entries

reads_at : (e : Entry) {c d : Cell} → c ≡ d → ReadsCell e c → ReadsCell e d
reads_at e p r = subst (ReadsCell e) p r

pub clashes_hold : (ks ls : List ℕ) (p : List ℤ) (e f : Entry) (s u : StmtModel) → Shown (picked ks p) e s → Shown (picked ls p) f u → IsInSome Meets (clashes ks ls s u) p ↔ Clash e f
clashes_hold ks ls p e f s u h g = (to, from)
  where
    of_target : List (List Row)
    of_target = flat_map (same_cells ks ls (written s)) (written u ∷ reads u.nodes)

    of_reads : List (List Row)
    of_reads = flat_map (λ a. same_cells ks ls a (written u)) (reads s.nodes)

    to : IsInSome Meets (clashes ks ls s u) p → Clash e f
    to m = elim ((some-append Meets (flat_map (same_cells ks ls (written s)) (written u ∷ reads u.nodes)) (flat_map (λ (a : CellForms). same_cells ks ls a (written u)) (reads s.nodes)) p).0 m) [
      | inl k ↦
          (let r = (in_some_of (same_cells ks ls (written s)) (written u ∷ reads u.nodes) p).0 k in
          let same = (same_holds ks ls (written s) r.0 p).0 r.2 in
          elim r.1 [
            | inl i ↦ record { cell = target e; used = inl (refl, inl (g.cell ∙ sym (ap (λ (b : CellForms). cell_there b (picked ls p)) i) ∙ sym same ∙ sym h.cell)) }
            | inr a ↦ record { cell = target e; used = inl (refl, inr (reads_at f (sym same ∙ sym h.cell) (shown_read (picked ls p) f u g r.0 a))) }
          ])
      | inr k ↦
          (let r = (in_some_of (λ (a : CellForms). same_cells ks ls a (written u)) (reads s.nodes) p).0 k in
          let same = (same_holds ks ls r.0 (written u) p).0 r.2 in
          record { cell = target f; used = inr (inr (reads_at e (same ∙ sym g.cell) (shown_read (picked ks p) e s h r.0 r.1)), refl) })
    ]

    by_target : (b : CellForms) → IsAmong b (written u ∷ reads u.nodes) → target e ≡ cell_there b (picked ls p) → IsInSome Meets (clashes ks ls s u) p
    by_target b m q =
        (some-append Meets (flat_map (same_cells ks ls (written s)) (written u ∷ reads u.nodes)) (flat_map (λ (a : CellForms). same_cells ks ls a (written u)) (reads s.nodes)) p).1
        (inl ((in_some_of (same_cells ks ls (written s)) (written u ∷ reads u.nodes) p).1 (b, m, (same_holds ks ls (written s) b p).1 (sym h.cell ∙ q))))

    by_read : (a : CellForms) → IsAmong a (reads s.nodes) → cell_there a (picked ks p) ≡ target f → IsInSome Meets (clashes ks ls s u) p
    by_read a m q =
        (some-append Meets (flat_map (same_cells ks ls (written s)) (written u ∷ reads u.nodes)) (flat_map (λ (b : CellForms). same_cells ks ls b (written u)) (reads s.nodes)) p).1
        (inr ((in_some_of (λ (b : CellForms). same_cells ks ls b (written u)) (reads s.nodes) p).1 (a, m, (same_holds ks ls a (written u) p).1 (q ∙ g.cell))))

    from : Clash e f → IsInSome Meets (clashes ks ls s u) p
    from c = elim c.used [
      | inl w ↦ elim w.1 [
        | inl x ↦ by_target (written u) (inl refl) (w.0 ∙ sym x ∙ g.cell)
        | inr x ↦ (let r = read_shown (picked ls p) f u g c.cell x in by_target r.0 (inr r.1) (w.0 ∙ sym r.2))
      ]
      | inr w ↦ elim w.0 [
        | inl x ↦ by_target (written u) (inl refl) (x ∙ sym w.1 ∙ g.cell)
        | inr x ↦ (let r = read_shown (picked ks p) e s h c.cell x in by_read r.0 r.1 (r.2 ∙ sym w.1))
      ]
    ]
