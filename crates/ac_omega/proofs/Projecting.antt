-- The pieces of an elimination are its question's projection.
use Rattle.std.proofs.Common.{◌≡◌, ◌≢◌, ◌↔◌, ◌⊎◌, inl, inr, ℕ, zero, suc, ◌+◌, ◌<◌, ℤ, pos, negsuc, ◌+ℤ◌, ◌*ℤ◌, ◌≤ℤ◌, Bool, true, false, cond, ◌&&◌, ◌||◌, List, [], ◌∷◌, length, set, get_or, Option, Some, None, arith, refl, sym, ap, ◌∙◌, subst}
use Rattle.std.proofs.lemmas.Int.{ints}
use Rattle.std.proofs.lemmas.Bool.Decides.{Decides-int_eq}
use Rattle.std.proofs.lemmas.List.{length-set, set-get_or, get_or-set_other}
use Rattle.std.specs.Prelude.{option_map}
use Rattle.ac_base.specs.Dot.{dot}
use Rattle.ac_forms.specs.Affine.{Affine, coef, value_at}
use Rattle.ac_forms.specs.NormalForm.{normal_conj}
use Rattle.ac_forms.specs.Rows.{form_of, Holds, Meets, IsWellMade}
use Rattle.ac_forms.specs.RangeTests.{rows_fit}
use Rattle.ac_forms.specs.declared.conj.Conj.{Conj}
use Rattle.ac_forms.specs.declared.row.Row.{Row}
use Rattle.ac_forms.specs.declared.row.Row.TheVariants.{Eq, Div, Ge}
use Rattle.ac_forms.proofs.Joining.{form_keeps}
use Rattle.ac_forms.specs.RowColumns.{has_column, is_present}
use Rattle.ac_omega_steps.specs.Choices.{are_absurd, column_of, is_legal, left_by, lifted}
use Rattle.ac_omega_steps.specs.ChoiceFits.{after_choice, choice_fits, raw}
use Rattle.ac_omega_steps.specs.declared.choose.Choice.{Choice}
use Rattle.ac_omega_steps.proofs.LeftMade.{conj_made, raw_made}
use Rattle.ac_omega_steps.proofs.Lifting.{lifts, lifted_at}
use Rattle.ac_omega_steps.proofs.OneColumn.{has-not}
use Rattle.ac_omega.specs.declared.piece.Piece.{Piece}
use Rattle.ac_omega.specs.EliminationAnswers.{parts}
use Rattle.ac_omega.specs.ColumnChoice.{next_column}
use Rattle.ac_omega.specs.ColumnElimination.{elimination}
use Rattle.ac_omega.specs.Projection.{is_among, DiffersIn, HoldsFor, HaveNone, MeetsRest}
use Rattle.ac_forms.specs.PieceMembership.{IsInSome}
use Rattle.ac_omega.specs.Sweep.{Pieces, sweep}
use Rattle.ac_omega.proofs.WalkLaws.{Projects}
use Rattle.ac_forms.specs.ListMembers.{IsAmong}
use Rattle.ac_omega_certify.specs.Alternatives.{Alternatives, alternatives_for, all_of}
use Rattle.ac_omega.specs.Maxima.{Maxima}
use Rattle.ac_omega.specs.Walk.{IsTried, Empty, walk}
use Rattle.ac_omega.proofs.WalkLaws.{IsWhole, Covers}
use Rattle.ac_omega.proofs.Walks.{walk-gone}
use Rattle.ac_omega.proofs.Complete.{listed-complete}
use Rattle.ac_omega.proofs.Empties.{IsOpen, look-done, look-absurd, look-open, next-none, none-at}
use Rattle.ac_omega.proofs.Legal.{all-allowed}
use Rattle.ac_omega.proofs.Legal as legal
use Rattle.ac_forms.proofs.Passes.{moduli_of}
use Rattle.ac_omega.proofs.Nexts.{next-among, allowed-each}
use Rattle.ac_omega.proofs.Present.{next-within}
use Rattle.ac_omega.proofs.Sweeps.{sweep-exact, AtEnd}
use Rattle.ac_omega_certify.specs.declared.strategy.Strategy.{Strategy}
use Rattle.ac_forms.proofs.Trimmed.{or-false}

-- a dot product, where the points agree but at coefficients that are 0
dot-agree : (cs p q : List ℤ) → length q ≡ length p → ((j : ℕ) → (get_or q j (pos 0) ≡ get_or p j (pos 0)) ⊎ (get_or cs j (pos 0) ≡ pos 0)) → dot cs q ≡ dot cs p
dot-agree [] p q l h = refl
dot-agree (c ∷ cs) [] [] l h = refl
dot-agree (c ∷ cs) [] (y ∷ q) l h = absurd (omega arith)
dot-agree (c ∷ cs) (x ∷ p) [] l h = absurd (omega arith)
dot-agree (c ∷ cs) (x ∷ p) (y ∷ q) l h =
    let t = dot-agree cs p q (omega arith) (λ j. h (suc j)) in
    rw t (ap (λ v. v +ℤ dot cs p) (first (h zero)))
  where
    first : (y ≡ x) ⊎ (c ≡ pos 0) → c *ℤ y ≡ c *ℤ x
    first (inl e) = ap (λ v. c *ℤ v) e
    first (inr e) = rw e (omega (arith, ints))

value-agree : (f : Affine) (p q : List ℤ) → length q ≡ length p → ((j : ℕ) → (get_or q j (pos 0) ≡ get_or p j (pos 0)) ⊎ (coef j f ≡ pos 0)) → value_at f q ≡ value_at f p
value-agree f p q l h = ap (λ v. v +ℤ f.konst) (dot-agree f.coefs p q l h)

holds-agree : (r : Row) (p q : List ℤ) → length q ≡ length p → ((j : ℕ) → (get_or q j (pos 0) ≡ get_or p j (pos 0)) ⊎ (coef j (form_of r) ≡ pos 0)) → Holds r q → Holds r p
holds-agree (Eq f) p q l h m = rw (value-agree f p q l h) at m
holds-agree (Div n f) p q l h m = rw (value-agree f p q l h) at m
holds-agree (Ge f) p q l h m = rw (value-agree f p q l h) at m

meets-agree : (rows : List Row) (p q : List ℤ) → length q ≡ length p → ((j : ℕ) → (get_or q j (pos 0) ≡ get_or p j (pos 0)) ⊎ (is_present j rows ≡ false)) → Meets rows q → Meets rows p
meets-agree [] p q l h m = tt
meets-agree (r ∷ rs) p q l h m = (holds-agree r p q l (λ j. here j (h j)) m.0, meets-agree rs p q l (λ j. later j (h j)) m.1)
  where
    here : (j : ℕ) → (get_or q j (pos 0) ≡ get_or p j (pos 0)) ⊎ (is_present j (r ∷ rs) ≡ false) → (get_or q j (pos 0) ≡ get_or p j (pos 0)) ⊎ (coef j (form_of r) ≡ pos 0)
    here j (inl e) = inl e
    here j (inr e) = let n = (or-false (has_column j r) (is_present j rs) e).0 in inr (has-not j r (rw n refl))

    later : (j : ℕ) → (get_or q j (pos 0) ≡ get_or p j (pos 0)) ⊎ (is_present j (r ∷ rs) ≡ false) → (get_or q j (pos 0) ≡ get_or p j (pos 0)) ⊎ (is_present j rs ≡ false)
    later j (inl e) = inl e
    later j (inr e) = inr (or-false (has_column j r) (is_present j rs) e).1

-- where no row has the columns, their numbers do not matter
gone-meets : (vars : List ℕ) (rows : List Row) (p : List ℤ) → HaveNone vars rows → HoldsFor vars rows p → Meets rows p
gone-meets vars rows p none h = meets-agree rows p h.at h.differs.long (λ j. by j (is_among j vars) refl) h.meets
  where
    by : (j : ℕ) (t : Bool) → is_among j vars ≡ t → (get_or h.at j (pos 0) ≡ get_or p j (pos 0)) ⊎ (is_present j rows ≡ false)
    by j true e = inr (none-at vars rows j none e)
    by j false e = inl (h.differs.same j e)

pub itself : (vars : List ℕ) (rows : List Row) (p : List ℤ) → Meets rows p → HoldsFor vars rows p
itself vars rows p m = record { at = p; differs = record { long = refl; same = λ j e. refl }; meets = m }

-- the absurd conjunction has no point
form-absurd : (k : ℤ) (cs : List ℤ) (p : List ℤ) → are_absurd (Ge (record { konst = k; coefs = cs }) ∷ []) ≡ true → pos 0 ≤ℤ (dot cs p +ℤ k) → ⊥
form-absurd k [] p e h =
    let s = (Decides-int_eq k (negsuc 0)).0 e in
    omega (arith, ints, s)
form-absurd k (c ∷ cs) p e h = cc

absurd-meets : (rows : List Row) (p : List ℤ) → are_absurd rows ≡ true → Meets rows p → ⊥
absurd-meets [] p e m = cc
absurd-meets (Ge f ∷ []) p e m = form-absurd f.konst f.coefs p e m.0
absurd-meets (Ge f ∷ r ∷ rs) p e m = cc
absurd-meets (Eq f ∷ rs) p e m = cc
absurd-meets (Div n f ∷ rs) p e m = cc

-- all choices are there
whole-all : (hs : Alternatives) → IsWhole hs → (gs : List Choice) × (all_of hs ≡ Some gs)
whole-all [] w = ([], refl)
whole-all (None ∷ hs) w = absurd w
whole-all (Some h ∷ hs) w = let r = whole-all hs w in (h ∷ r.0, rw r.1 refl)

among-tried : (h : Choice) (hs : Alternatives) (gs : List Choice) → all_of hs ≡ Some gs → IsAmong h gs → IsTried h hs
among-tried h [] [] e i = absurd i
among-tried h [] (g ∷ gs) e i = absurd cc
among-tried h (None ∷ hs) gs e i = absurd cc
among-tried h (Some x ∷ hs) gs e i = by (all_of hs) e (λ rest f j. among-tried h hs rest f j)
  where
    by : (o : Option (List Choice)) → option_map (λ rest. x ∷ rest) o ≡ Some gs → ((rest : List Choice) → o ≡ Some rest → IsAmong h rest → IsTried h hs) → IsTried h (Some x ∷ hs)
    by None e f = absurd cc
    by (Some rest) e f =
        let s : x ∷ rest ≡ gs = cc in
        elim (subst (IsAmong h) (sym s) i) [ inl is ↦ inl (ap (λ y. Some y) (sym is)) | inr later ↦ inr (f rest refl later) ]

-- the point with another number for one of the columns
set-differs : (vars : List ℕ) (p q : List ℤ) (z : ℕ) (v : ℤ) → is_among z vars ≡ true → DiffersIn vars p q → DiffersIn vars p (set q z v)
set-differs vars p q z v a d = record {
  long = length-set q z v ∙ d.long;
  same = λ j e. get_or-set_other q z j v (pos 0) (apart j e) ∙ d.same j e;
}
  where
    apart : (j : ℕ) → is_among j vars ≡ false → j ≢ z
    apart j e s = let f : is_among z vars ≡ false = rw (← s) e in cc

-- what a choice leaves, in normal form
pub left-is : (h : Choice) (c d : Conj) → after_choice h c ≡ Some d → d ≡ normal_conj (raw h c)
unfolding after_choice
left-is h c d e = by (choice_fits h c.rows && rows_fit (left_by h c.rows)) e
  where
    by : (t : Bool) → cond t (Some (normal_conj (raw h c))) None ≡ Some d → d ≡ normal_conj (raw h c)
    by true e = let s : normal_conj (raw h c) ≡ d = cc in sym s
    by false e = absurd cc

left-columns : (h : Choice) (c d : Conj) → after_choice h c ≡ Some d → d.columns ≡ c.columns
left-columns h c d e = ap (λ (x : Conj). x.columns) (left-is h c d e)

left-keeps : (h : Choice) (c d : Conj) (p : List ℤ) → is_legal h c ≡ true → IsWellMade c → after_choice h c ≡ Some d → Meets d.rows p ↔ Meets (left_by h c.rows) p
left-keeps h c d p legal made e =
    let P : List Row → Type 0 = λ rows. Meets rows p ↔ Meets (left_by h c.rows) p in
    subst P (ap (λ (x : Conj). x.rows) (sym (left-is h c d e))) (form_keeps c.columns (left_by h c.rows) p (raw_made h c legal made))

-- what the walk keeps of its conjunctions, and what a point says of them
pub record IsGood (n : ℕ) (c : Conj) : Type 0 where
  pub made : IsWellMade c
  pub columns : c.columns ≡ n

abbrev pub MeetsAt : ℕ → Conj → List ℤ → Type 0
MeetsAt n c p = (length p ≡ n) × Meets c.rows p

abbrev pub HasAt : List ℕ → ℕ → Conj → List ℤ → Type 0
HasAt vars n c p = (length p ≡ n) × HoldsFor vars c.rows p

column-below : (strategy : Strategy) (vars : List ℕ) (n : ℕ) (c : Conj) (z : ℕ) → IsGood n c → next_column strategy vars c.rows ≡ Some z → z < c.columns
column-below strategy vars n c z g e = next-within strategy vars c z g.made e

pub tried-legal : (strategy : Strategy) (vars : List ℕ) (n : ℕ) (c : Conj) (hs : List (Option Choice)) (h : Choice) → IsGood n c → IsOpen strategy vars c hs → IsTried h hs → is_legal h c ≡ true
tried-legal strategy vars n c hs h g o i =
    legal.tried-legal strategy o.column c h g.made (column-below strategy vars n c o.column g o.next) o.not_absurd (let P : Alternatives → Type 0 = λ xs. IsTried h xs in subst P o.tries i)

pub tried-column : (strategy : Strategy) (vars : List ℕ) (n : ℕ) (c : Conj) (hs : List (Option Choice)) (h : Choice) → IsGood n c → (o : IsOpen strategy vars c hs) → IsTried h hs → column_of h ≡ o.column
tried-column strategy vars n c hs h g o i =
    (allowed-each o.column c.rows (alternatives_for strategy o.column c.rows) h (all-allowed strategy o.column c.rows (moduli_of c.columns c.rows g.made)) (let P : Alternatives → Type 0 = λ xs. IsTried h xs in subst P o.tries i)).column

good-left : (strategy : Strategy) (vars : List ℕ) (n : ℕ) (c d : Conj) (hs : List (Option Choice)) (h : Choice) → IsGood n c → IsOpen strategy vars c hs → IsTried h hs → after_choice h c ≡ Some d → IsGood n d
good-left strategy vars n c d hs h g o i e = record {
  made = let P : Conj → Type 0 = λ x. IsWellMade x in subst P (sym (left-is h c d e)) (conj_made (raw h c) (raw_made h c (tried-legal strategy vars n c hs h g o i) g.made));
  columns = left-columns h c d e ∙ g.columns;
}

-- a point of what a choice leaves, but for the columns, is one of the conjunction
back-at : (strategy : Strategy) (vars : List ℕ) (n : ℕ) (c d : Conj) (hs : List (Option Choice)) (h : Choice) (p : List ℤ) → IsGood n c → IsOpen strategy vars c hs → IsTried h hs → after_choice h c ≡ Some d → HasAt vars n d p → HasAt vars n c p
back-at strategy vars n c d hs h p g o i e x =
    let legal = tried-legal strategy vars n c hs h g o i in
    let q = x.1.at in
    let m = (left-keeps h c d q legal g.made e).0 x.1.meets in
    let on = lifts h c q legal (x.1.differs.long ∙ x.0 ∙ sym g.columns) m in
    let at = lifted_at h c.rows q in
    let among : is_among (column_of h) vars ≡ true = rw (tried-column strategy vars n c hs h g o i) (next-among strategy vars c.rows o.column o.next) in
    let P : List ℤ → Type 0 = λ y. DiffersIn vars p y in
    (x.0, record { at = lifted h c.rows q; differs = subst P (sym at.1) (set-differs vars p q (column_of h) at.0 among x.1.differs); meets = on.meets })

-- a point of the conjunction, but for the columns, is one of what some choice leaves
on-at : (strategy : Strategy) (vars : List ℕ) (n : ℕ) (c : Conj) (hs : List (Option Choice)) (p : List ℤ) → IsGood n c → IsOpen strategy vars c hs → IsWhole hs → HasAt vars n c p → (h : Choice) × IsTried h hs × ((d : Conj) → after_choice h c ≡ Some d → HasAt vars n d p)
on-at strategy vars n c hs p g o w x =
    let P : Alternatives → Type 0 = λ xs. IsWhole xs in
    let all = whole-all (alternatives_for strategy o.column c.rows) (subst P o.tries w) in
    let q = x.1.at in
    let z = o.column in
    let Q : List ℤ → Type 0 = λ y. Meets c.rows y in
    let m = subst Q (sym (set-get_or q z (pos 0))) x.1.meets in
    let s = (listed-complete strategy z c all.0 g.made (column-below strategy vars n c z g o.next) all.1 q (x.1.differs.long ∙ x.0 ∙ sym g.columns)).0 (get_or q z (pos 0), m) in
    let t = among-tried s.0 (alternatives_for strategy z c.rows) all.0 all.1 s.1 in
    let R : Alternatives → Type 0 = λ xs. IsTried s.0 xs in
    let i = subst R (sym o.tries) t in (
      s.0,
      i,
      λ d e. (
        x.0,
        record {
          at = set q z s.2;
          differs = set-differs vars p q z s.2 (next-among strategy vars c.rows z o.next) x.1.differs;
          meets = (left-keeps s.0 c d (set q z s.2) (tried-legal strategy vars n c hs s.0 g o i) g.made e).1 s.3;
        },
      ),
    )

pub projects : (strategy : Strategy) (vars : List ℕ) (n : ℕ) → Projects (elimination strategy vars) (IsGood n) (MeetsAt n) (HasAt vars n)
unfolding elimination
projects strategy vars n = record {
  done = λ c q p g e. ((λ x. (x.0, gone-meets vars c.rows p (next-none strategy vars c.rows (look-done strategy vars c q e)) x.1)), (λ x. (x.0, itself vars c.rows p x.1)));
  absurd_row = λ c p g e x. absurd-meets c.rows x.1.at (look-absurd strategy vars c e) x.1.meets;
  choice = λ c hs p g e w x. on-at strategy vars n c hs p g (look-open strategy vars c hs e) w x;
  good = λ c hs h d g e i s. good-left strategy vars n c d hs h g (look-open strategy vars c hs e) i s;
  back = λ c hs h d p g e i s x. back-at strategy vars n c d hs h p g (look-open strategy vars c hs e) i s x;
}

-- pieces as the code has them
some-in : (n : ℕ) (ps : List Piece) (p : List ℤ) → IsInSome (AtEnd (MeetsAt n)) (parts ps) p → IsInSome MeetsRest ps p
some-in n [] p h = h
some-in n (x ∷ ps) p (inl m) = inl m.1
some-in n (x ∷ ps) p (inr h) = inr (some-in n ps p h)

in-some : (n : ℕ) (ps : List Piece) (p : List ℤ) → length p ≡ n → IsInSome MeetsRest ps p → IsInSome (AtEnd (MeetsAt n)) (parts ps) p
in-some n [] p l h = h
in-some n (x ∷ ps) p l (inl m) = inl (l, m)
in-some n (x ∷ ps) p l (inr h) = inr (in-some n ps p l h)

normal-holds : (vars : List ℕ) (c : Conj) (p : List ℤ) → IsWellMade c → HoldsFor vars c.rows p ↔ HoldsFor vars (normal_conj c).rows p
normal-holds vars c p made = (
  (λ h. record { at = h.at; differs = h.differs; meets = (form_keeps c.columns c.rows h.at made).1 h.meets }),
  (λ h. record { at = h.at; differs = h.differs; meets = (form_keeps c.columns c.rows h.at made).0 h.meets }),
)

-- the pieces of the walk from the question's normal form are its projection
pub pieces-project : (strategy : Strategy) (vars : List ℕ) (b k : ℕ) (c : Conj) (ps : List Piece) (p : List ℤ) → IsWellMade c → sweep (elimination strategy vars) (b + 1) b [] (normal_conj c) 0 ≡ Pieces (parts ps) k → length p ≡ c.columns
    → HoldsFor vars c.rows p ↔ IsInSome MeetsRest ps p
pieces-project strategy vars b k c ps p made e l =
    let g : IsGood c.columns (normal_conj c) = record { made = conj_made c made; columns = refl } in
    let x = sweep-exact (elimination strategy vars) (IsGood c.columns) (MeetsAt c.columns) (HasAt vars c.columns) (projects strategy vars c.columns) (b + 1) b [] (normal_conj c) 0 k (parts ps) p e g in
    ((λ h. some-in c.columns ps p (x.0 (l, (normal-holds vars c p made).0 h))), (λ h. (normal-holds vars c p made).1 (x.1 (in-some c.columns ps p l h)).1))

pub covers : (strategy : Strategy) (vars : List ℕ) (n : ℕ) → Covers (elimination strategy vars) (IsGood n) (HasAt vars n)
unfolding elimination
covers strategy vars n = record {
  absurd_row = λ c p g e x. absurd-meets c.rows x.1.at (look-absurd strategy vars c e) x.1.meets;
  choice = λ c hs p g e w x. let s = on-at strategy vars n c hs p g (look-open strategy vars c hs e) w x in (s.0, s.1, λ d f. (p, s.2 d f));
  good = λ c hs h d g e i s. good-left strategy vars n c d hs h g (look-open strategy vars c hs e) i s;
}

-- a walk that finds no point: there is none
pub gone-empty : (strategy : Strategy) (vars : List ℕ) (b : ℕ) (c : Conj) (k : ℕ) → IsWellMade c → (n j : ℕ) (s t : Maxima) → walk (elimination strategy vars) n b c k s ≡ Empty j t → (p : List ℤ) → length p ≡ c.columns → Meets c.rows p → ⊥
gone-empty strategy vars b c k made n j s t e p l m =
    walk-gone (elimination strategy vars) (IsGood c.columns) (HasAt vars c.columns) (covers strategy vars c.columns) n b c k s j t p e (record { made = made; columns = refl }) (l, itself vars c.rows p m)
