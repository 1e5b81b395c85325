-- From a refutation's parts to what the makers of its certificate ask, and back to acceptance.
use Rattle.std.proofs.Common.{◌≡◌, ℕ, zero, suc, ◌<◌, ℤ, pos, negsuc, true, List, [], ◌∷◌, length, get_or, Some, slice_get, refl, sym, ap, subst, ◌∙◌, arith, rules}
use Rattle.std.specs.Prelude.{Result, IfOk}
use Rattle.std.specs.Int.Signed.{lt_z}
use Rattle.std.specs.Ordering.{int_eq}
use Rattle.std.proofs.lemmas.Int.{ints}
use Rattle.ac_forms.specs.Affine.{coef}
use Rattle.ac_forms.specs.NormalForm.{normal_form}
use Rattle.ac_forms.specs.Rows.{AreRowsOver, IsWellMade}
use Rattle.ac_forms.specs.RangeTests.{rows_fit}
use Rattle.ac_forms.specs.declared.conj.Conj.{Conj}
use Rattle.ac_forms.specs.declared.row.Row.{Row}
use Rattle.ac_forms.specs.declared.row.Row.TheVariants.{Eq, Div, Ge}
use Rattle.ac_omega_steps.specs.declared.choose.Choice.{Choice}
use Rattle.ac_omega_steps.specs.declared.choose.Choice.TheVariants as choice
use Rattle.ac_cert.specs.declared.ends.Absurd.{Absurd as End}
use Rattle.ac_cert.specs.declared.types.Tree.{Tree}
use Rattle.ac_cert.specs.AcceptedTrees.{Accepts, absurd_refusals, after_steps}
use Rattle.ac_omega_steps.specs.Choices.{are_absurd, left_by}
use Rattle.ac_omega_steps.specs.ChoiceFits.{choice_fits}
use Rattle.ac_cert.specs.AbsurdEnd.{is_absurd}
use Rattle.ac_cert.specs.CertificateFaults.{Refusal}
use Rattle.ac_omega_certify.specs.ChoiceBranches.{counts_from, conj_on, Stage, IsOn, IsRefutedBy, IsBranch, IsTry, AreAlternatives, RefuteAll, EachIsWithin2To120, IsSettled, IsFirst}
use Rattle.ac_omega_certify.specs.Descents.{StandOn, Carries, Settles, base_of}
use Rattle.ac_omega_certify.specs.Refutations.{conj_of, Refutes, AreWithin2To120, IsWithin2To120, IsRefutationOf}
use Rattle.ac_omega_certify.specs.declared.branch.Branch.{Branch}
use Rattle.ac_omega_certify.specs.declared.descent.Base.{Base}
use Rattle.ac_omega_certify.specs.declared.descent.Below.{Below}
use Rattle.ac_omega_certify.specs.declared.descent.Below.TheVariants as below
use Rattle.ac_omega_certify.specs.declared.path.TreePath.{TreePath}
use Rattle.ac_omega_certify.specs.declared.refutation.Refutation.{Refutation, the_lemmas}
use Rattle.ac_omega_certify.specs.declared.refutation.Refutation.TheVariants.{Absurd, Open}
use Rattle.ac_omega_certify.proofs.Inequalities.{absurd-at}
use Rattle.ac_omega_certify.proofs.Branching.{ok-as}
use Rattle.ac_omega_certify.proofs.Refuted.{refutes_open, refutes_absurd, modest_open, refuted-at, all_modest-at, try-at, modest-at, after-choice, refute-lengths}
use Rattle.ac_omega_certify.proofs.Tried.{Fan, choices_fan}

-- ---- an absurd conjunction

pub absurd-rows : (r : Refutation) (c : Conj) → r ≡ Absurd c → Refutes r → are_absurd (conj_of r).rows ≡ true
absurd-rows r c e h = let g : Refutes (Absurd c) = subst Refutes e h in rw e (refutes_absurd c g)

pub absurd-length : (rs : List Row) → are_absurd rs ≡ true → 0 < length rs
absurd-length [] e = absurd cc
absurd-length (r ∷ rs) e = omega arith

nothing-at : (j : ℕ) → coef j (record { konst = negsuc 0; coefs = [] }) ≡ pos 0
nothing-at j = refl

minus-one : (k : ℤ) → int_eq k (negsuc 0) ≡ true → k ≡ negsuc 0
minus-one k e = grind (arith, ints)

below-zero : (k : ℤ) → int_eq k (negsuc 0) ≡ true → lt_z k (pos 0) ≡ true
below-zero k e = rw (minus-one k e) refl

absurd-place : (b : Base) (ns : List ℕ) (rs : List Row) (ps : List ℕ) (c : Conj) → are_absurd rs ≡ true → StandOn b ns rs ps c → is_absurd (slice_get c.rows (get_or ps 0 0)) ≡ true
absurd-place b ns [] ps c e s = absurd cc
absurd-place b ns (r ∷ rs) [] c e s = absurd s.stand
absurd-place b ns (Eq f ∷ rs) (p ∷ ps) c e s = absurd cc
absurd-place b ns (Div m f ∷ rs) (p ∷ ps) c e s = absurd cc
absurd-place b ns (Ge f ∷ r ∷ rs) (p ∷ ps) c e s = absurd cc
absurd-place b ns (Ge f ∷ []) (p ∷ ps) c e s = by f.coefs refl e
  where
    by : (cs : List ℤ) → f.coefs ≡ cs → are_absurd (Ge (record { konst = f.konst; coefs = cs }) ∷ []) ≡ true → is_absurd (slice_get c.rows p) ≡ true
    by [] l e = absurd-at ns c p (Ge f) (λ j. rw l refl) (below-zero f.konst e) s.stand.0
    by (x ∷ cs) l e = absurd cc

pub absurd-stands : (b : Base) (ns : List ℕ) (r : Refutation) (ps : List ℕ) (d c : Conj) → r ≡ Absurd d → Refutes r → StandOn b ns (conj_of r).rows ps c → is_absurd (slice_get c.rows (get_or ps 0 0)) ≡ true
absurd-stands b ns r ps d c e h s = absurd-place b ns (conj_of r).rows ps c (absurd-rows r d e h) s

-- ---- an open one

pub open-conj : (r : Refutation) (c : Conj) (hs : List Choice) (rs : List Refutation) → r ≡ Open c hs rs → conj_of r ≡ c
open-conj r c hs rs e = let o : conj_of (Open c hs rs) ≡ c = search (rules, the_lemmas) in ap conj_of e ∙ o

pub counts-length : (i n : ℕ) (hs : List Choice) → length (counts_from i n hs) ≡ n
counts-length i zero hs = refl
counts-length i (suc n) hs = ap (λ (k : ℕ). suc k) (counts-length (suc i) n hs)

pub record Opened (c : Conj) (hs : List Choice) (rs : List Refutation) (counts : List ℕ) : Type 0 where
  pub made : IsWellMade c
  pub within_2_to_120 : AreWithin2To120 c.rows hs
  pub fan : Fan c counts hs
  pub refuted : RefuteAll c hs rs
  pub each_is_within_2_to_120 : EachIsWithin2To120 rs
  pub long : length counts ≡ length c.rows

pub opened : (r : Refutation) (c : Conj) (hs hs' : List Choice) (rs rs' : List Refutation) (counts counts' : List ℕ) (n : ℕ) → r ≡ Open c hs rs → hs' ≡ hs → rs' ≡ rs → counts' ≡ counts → counts ≡ counts_from 0 n hs' → n ≡ length c.rows → Refutes r → IsWithin2To120 r
    → Opened c hs' rs' counts'
opened r c hs hs' rs rs' counts counts' n e eh er ec are en h m =
    let g = refutes_open c hs rs (subst Refutes e h) in
    let l = modest_open c hs rs (subst IsWithin2To120 e m) in
    let counted : counts' ≡ counts_from 0 (length c.rows) hs = ec ∙ are ∙ ap (λ (k : ℕ). counts_from 0 k hs') en ∙ ap (counts_from 0 (length c.rows)) eh in
    rw (eh, er)
    (record { made = g.0; within_2_to_120 = l.0; fan = choices_fan c counts' hs g.0 g.1 counted; refuted = g.2; each_is_within_2_to_120 = l.1; long = ap length counted ∙ counts-length 0 (length c.rows) hs })

conj-same : (c : Conj) (n : ℕ) (rs : List Row) → n ≡ c.columns → rs ≡ c.rows → c ≡ record { columns = n; rows = rs }
conj-same c n rs e f = rw (e, f) refl

-- the same where the rows stand
pub opened-on : (s : Stage) (r : Refutation) (c : Conj) (hs hs' : List Choice) (rs rs' : List Refutation) (counts : List ℕ) (n : ℕ) → r ≡ Open c hs rs → hs' ≡ hs → rs' ≡ rs → s.rows ≡ c.rows → s.counts ≡ counts → counts ≡ counts_from 0 n hs' → n ≡ length c.rows → length s.names ≡ (conj_of r).columns
    → Refutes r → IsWithin2To120 r → Opened (conj_on s) hs' rs' s.counts
opened-on s r c hs hs' rs rs' counts n e eh er el ec are en names h m =
    let o : Opened c hs' rs' s.counts = opened r c hs hs' rs rs' counts s.counts n e eh er ec are en h m in
    let same : c ≡ conj_on s = conj-same c (length s.names) s.rows (names ∙ ap (λ (d : Conj). d.columns) (open-conj r c hs rs e)) el in
    subst (λ (d : Conj). Opened d hs' rs' s.counts) same o

pub open-long : (r : Refutation) (c : Conj) (hs : List Choice) (rs : List Refutation) (rows : List Row) (ps : List ℕ) → r ≡ Open c hs rs → rows ≡ c.rows → length ps ≡ length (conj_of r).rows → length ps ≡ length rows
open-long r c hs rs rows ps e el h = h ∙ ap (λ (d : Conj). length d.rows) (open-conj r c hs rs e) ∙ sym (ap (λ (xs : List Row). length xs) el)

pub open-accepted : {E : Type 0} (s : Stage) (r : Refutation) (c : Conj) (hs : List Choice) (rs : List Refutation) (res : Result (Tree End) E) → r ≡ Open c hs rs → s.rows ≡ c.rows
    → IfOk res (λ t. (d : Conj) → IsOn s d → Accepts t absurd_refusals d)
    → IfOk res (λ t. (d : Conj) → StandOn s.base s.names (conj_of r).rows s.places d → Accepts t absurd_refusals d)
open-accepted s r c hs rs res e el k =
    subst (λ (xs : List Row). IfOk res (λ t. (d : Conj) → StandOn s.base s.names xs s.places d → Accepts t absurd_refusals d)) (el ∙ sym (ap (λ (d : Conj). d.rows) (open-conj r c hs rs e))) k

-- ---- a choice and its refutation

own-at : (xs : List Choice) (j : ℕ) (d : Choice) → j < length xs → get_or xs j d ≡ get_or xs j (get_or xs j d)
own-at [] j d l = absurd (omega arith)
own-at (x ∷ xs) zero d l = refl
own-at (x ∷ xs) (suc j) d l = own-at xs j d (omega arith)

pub choice-own : (c : Conj) (hs : List Choice) (rs : List Refutation) (j : ℕ) → RefuteAll c hs rs → j < length rs → get_or hs j (choice.Drop 0) ≡ get_or hs j (get_or hs j (choice.Drop 0))
choice-own c hs rs j f l = own-at hs j (choice.Drop 0) (omega (arith, l, refute-lengths c hs rs f))

pub choice-fits : (c : Conj) (hs : List Choice) (rs : List Refutation) (j : ℕ) (h : Choice) → RefuteAll c hs rs → j < length rs → h ≡ get_or hs j h → choice_fits h c.rows ≡ true
choice-fits c hs [] j h f l e = absurd (omega arith)
choice-fits c hs (r ∷ rs) j h f l e =
    let x = refuted-at c hs (r ∷ rs) j h (get_or (r ∷ rs) j r) f l e (own-refuted (r ∷ rs) j r l) in
    (after-choice h c (conj_of (get_or (r ∷ rs) j r)) x.0).0
  where
    own-refuted : (xs : List Refutation) (j : ℕ) (d : Refutation) → j < length xs → get_or xs j d ≡ get_or xs j (get_or xs j d)
    own-refuted [] j d l = absurd (omega arith)
    own-refuted (x ∷ xs) zero d l = refl
    own-refuted (x ∷ xs) (suc j) d l = own-refuted xs j d (omega arith)

pub record Chosen (c : Conj) (h : Choice) (r : Refutation) (counts : List ℕ) : Type 0 where
  pub within_2_to_120 : AreWithin2To120 c.rows (h ∷ [])
  pub tried : IsTry c.columns c.rows counts h
  pub fits : choice_fits h c.rows ≡ true
  pub columns : (conj_of r).columns ≡ c.columns
  pub rows : (conj_of r).rows ≡ normal_form (left_by h c.rows)
  pub rows_fit' : rows_fit (left_by h c.rows) ≡ true
  pub refutes : Refutes r
  pub is_within_2_to_120 : IsWithin2To120 r

pub chosen : (c : Conj) (hs : List Choice) (rs : List Refutation) (counts : List ℕ) (j : ℕ) (h : Choice) (r : Refutation) → AreWithin2To120 c.rows hs → AreAlternatives c.columns c.rows counts hs → RefuteAll c hs rs → EachIsWithin2To120 rs → j < length rs → h ≡ get_or hs j h → r ≡ get_or rs j r
    → Chosen c h r counts
chosen c hs rs counts j h r m t f a l e g =
    let long : j < length hs = omega (arith, refute-lengths c hs rs f) in
    let x = refuted-at c hs rs j h r f l e g in
    let y = after-choice h c (conj_of r) x.0 in
    record {
      within_2_to_120 = modest-at c.rows hs j h m long e;
      tried = try-at c.columns c.rows counts hs j h t long e;
      fits = y.0;
      columns = ap (λ (d : Conj). d.columns) y.2;
      rows = ap (λ (d : Conj). d.rows) y.2;
      rows_fit' = y.1;
      refutes = x.1;
      is_within_2_to_120 = all_modest-at rs j r a l g;
    }

-- what `beneath` asks of a branch
pub record Ready (b : Branch) (r : Refutation) : Type 0 where
  pub names : length b.names.items ≡ (conj_of r).columns
  pub made : AreRowsOver (length b.names.items) b.standing.rows.items
  pub fits : rows_fit b.standing.rows.items ≡ true
  pub normal : (conj_of r).rows ≡ normal_form b.standing.rows.items

pub ready : (s : Stage) (c : Conj) (h : Choice) (r : Refutation) (b : Branch) → s.rows ≡ c.rows → length s.names ≡ c.columns → Chosen c h r s.counts → IsBranch s h b → Ready b r
ready s c h r b e n x i =
    let long : length b.names.items ≡ c.columns = i.names ∙ n in
    let left : left_by h s.rows ≡ left_by h c.rows = ap (left_by h) e in
    record {
      names = long ∙ sym x.columns;
      made = rw i.names (i.rows.made (rw (n, left) x.tried.made));
      fits = i.rows.fits (rw left x.rows_fit');
      normal = x.rows ∙ ap normal_form (sym left) ∙ sym i.rows.normal;
    }

pub serves : (s : Stage) (h : Choice) (b : Branch) (t : Tree End) → IsBranch s h b → ((start : Conj) → Carries b.tree_path start b.names.items b.standing.rows.items b.standing.places.items → Accepts t absurd_refusals start) → IsRefutedBy s h t
serves s h b t i go = λ c d on begins. go d (i.carries c d on begins)

-- ---- behind the steps to a normal form

pub settled : (t : TreePath) (start : Conj) (ns : List ℕ) (b : Below) (rs : List Row) → Settles t start ns b rs → (path : Conj) × (after_steps t.steps start ≡ Some path) × IsSettled (base_of t) ns b rs path
settled t start ns (below.Absurd i) rs h = (h.path, h.steps, h.row)
settled t start ns (below.Rows places) rs h = (h.path, h.steps, h.stand)

pub behind : {E : Type 0} (x : Branch) (t : TreePath) (b : Base) (ns ms : List ℕ) (l : Below) (normal : List Row) (r : Refutation) (tree : Tree End) (res : Result (Tree End) E) → ns ≡ x.names.items → ms ≡ x.names.items → normal ≡ (conj_of r).rows → b ≡ base_of t
    → ((start : Conj) → Carries x.tree_path start ns x.standing.rows.items x.standing.places.items → Settles t start ns l normal)
    → ((path : Conj) → IsSettled b ms l (conj_of r).rows path → Accepts tree absurd_refusals path)
    → IfOk res (λ u. (refusal : Refusal End) (c d : Conj) → after_steps t.steps c ≡ Some d → Accepts tree refusal d → Accepts u refusal c)
    → IfOk res (λ u. (start : Conj) → Carries x.tree_path start x.names.items x.standing.rows.items x.standing.places.items → Accepts u absurd_refusals start)
behind x t b ns ms l normal r tree res en em er eb settle go k =
    ok-as (λ (u : Tree End). (refusal : Refusal End) (c d : Conj) → after_steps t.steps c ≡ Some d → Accepts tree refusal d → Accepts u refusal c)
    (λ (u : Tree End). (start : Conj) → Carries x.tree_path start x.names.items x.standing.rows.items x.standing.places.items → Accepts u absurd_refusals start)
    res (λ u accepted start carries. one u accepted start carries) k
  where
    one : (u : Tree End) → ((refusal : Refusal End) (c d : Conj) → after_steps t.steps c ≡ Some d → Accepts tree refusal d → Accepts u refusal c) → (start : Conj) → Carries x.tree_path start x.names.items x.standing.rows.items x.standing.places.items → Accepts u absurd_refusals start
    one u accepted start carries =
        let first : Carries x.tree_path start ns x.standing.rows.items x.standing.places.items = subst (λ (q : List ℕ). Carries x.tree_path start q x.standing.rows.items x.standing.places.items) (sym en) carries in
        let s = settled t start ns l normal (settle start first) in
        let here : IsSettled b ns l normal s.0 = subst (λ (q : Base). IsSettled q ns l normal s.0) (sym eb) s.2 in
        let renamed : IsSettled b ms l normal s.0 = subst (λ (q : List ℕ). IsSettled b q l normal s.0) (en ∙ sym em) here in
        accepted absurd_refusals start s.0 s.1 (go s.0 (subst (λ (q : List Row). IsSettled b ms l q s.0) er renamed))

-- ---- a question

pub first-ready : (q : Conj) (r : Refutation) (b : Branch) → IsFirst q b → IsRefutationOf q r → IsWellMade q → Ready b r
first-ready q r b f h made = record {
  names = f.names ∙ sym (ap (λ (d : Conj). d.columns) h.normal);
  made = rw (f.names, f.rows) made;
  fits = rw f.rows h.fits;
  normal = ap (λ (d : Conj). d.rows) h.normal ∙ ap normal_form (sym f.rows);
}

pub question-accepted : {E : Type 0} (q : Conj) (b : Branch) (res : Result (Tree End) E) → IsFirst q b
    → IfOk res (λ t. (start : Conj) → Carries b.tree_path start b.names.items b.standing.rows.items b.standing.places.items → Accepts t absurd_refusals start)
    → IfOk res (λ t. Accepts t absurd_refusals q)
question-accepted q b res f k =
    ok-as (λ (t : Tree End). (start : Conj) → Carries b.tree_path start b.names.items b.standing.rows.items b.standing.places.items → Accepts t absurd_refusals start) (λ (t : Tree End). Accepts t absurd_refusals q) res (λ t h. h q f.carries) k
