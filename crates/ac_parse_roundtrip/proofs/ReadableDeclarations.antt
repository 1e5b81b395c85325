-- The declarations of a file that breaks no rule, without its loop names, are those of the canonical text.
use Rattle.std.proofs.Common.{◌≡◌, ℕ, zero, suc, ◌+◌, ◌≤◌, Bool, true, false, cond, List, [], ◌∷◌, ◌++◌, map, length, take, filter, nat_lt, refl, sym, ap, subst, ◌∙◌, arith, inl, inr, Option, Some, None}
use Rattle.std.specs.Prelude.{◌⊎◌, not, if◌then◌else◌, slice_get, option_and_then}
use Rattle.std.proofs.Math.Seq.{take-append_seam}
use Rattle.std.proofs.lemmas.Bool.Decides.{nat_tests}
use Rattle.std.proofs.lemmas.List.{append_assoc, length-append, length-map, append-nil}
use Rattle.ac_syntax.specs.Text.{whole_scope}
use Rattle.ac_syntax.specs.declared.tree.Array.{Array}
use Rattle.ac_syntax.specs.declared.tree.Kind.{Kind}
use Rattle.ac_syntax.specs.declared.tree.Kind.TheVariants.{Input, Local}
use Rattle.ac_syntax.specs.declared.tree.Place.{Place}
use Rattle.ac_syntax.specs.declared.tree.Program.{Program}
use Rattle.ac_syntax.specs.declared.tree.Slot.TheVariants as slot
use Rattle.ac_parse_grammar.specs.declared.tree.Declared.{Declared}
use Rattle.ac_parse_grammar.specs.declared.tree.Extent.{Extent}
use Rattle.ac_parse_grammar.specs.declared.tree.Statement.{Statement}
use Rattle.ac_parse_exprs.specs.declared.fault.Which.TheVariants as which
use Rattle.ac_parse_exprs.specs.declared.fault.Rule.TheVariants.{Limit}
use Rattle.ac_parse_exprs.specs.declared.scope.Entry.{Entry}
use Rattle.ac_parse_exprs.specs.declared.scope.Meaning.{Meaning}
use Rattle.ac_parse_exprs.specs.declared.scope.Meaning.TheVariants as means
use Rattle.ac_parse_exprs.specs.declared.scope.Scope.{Scope}
use Rattle.ac_parse_exprs.specs.FaultOrder.{earlier, broken}
use Rattle.ac_parse_exprs.specs.Comparisons.{index, index_broken}
use Rattle.ac_parse_rules.specs.Declarations.{is_whole, is_loop_name, entry, count, param_entries, local_entries, fixed_scope, is_declared, count_broken, dimensions_broken, extents_broken, name_broken, declared_broken, each_declared_broken, array_of, arrays_from, slots_from, param_names}
use Rattle.ac_parse_rules.specs.LawsOfNames.{IsNamed}
use Rattle.ac_parse_exprs.specs.Meanings.{declared_meaning}
use Rattle.ac_parse_exprs.proofs.Absent.{NoneBroken, neither, none_of, not_where}
use Rattle.ac_parse_rules.proofs.SmallPrograms.{names_none}
use Rattle.ac_parse_roundtrip.specs.CanonicalPrograms.{IsFew, DeclarationsFit, FitsArray, SlotsFit, LocalsFit}
use Rattle.ac_parse_roundtrip.proofs.ReadableForms.{index_fits}
use Rattle.ac_parse_roundtrip.proofs.Plain.{is_loop, plain, plain_append, kept_plain, new_plain, front_meaning, own_meaning}
use Rattle.ac_parse_roundtrip.proofs.Scopes.{Keeps, Follows, carries}
use Rattle.ac_parse_roundtrip.specs.ColumnNames.{FitScope}

pub none_more : (n : ℕ) → n + 0 ≡ n
none_more n = omega arith

pub get_seam : {A : Type 0} (xs : List A) (y : A) (ys : List A) → slice_get (xs ++ (y ∷ ys)) (length xs) ≡ Some y
get_seam [] y ys = refl
get_seam (x ∷ xs) y ys = get_seam xs y ys

-- ---- each declaration

-- a declaration behind those of the front
pub record FitsEntry (front : List Entry) (e : Entry) : Type 0 where
  pub new : is_declared front e.name ≡ false
  pub few : IsFew e.meaning

abbrev pub EntriesFit : List Entry → List Entry → Type 0
EntriesFit front [] = Unit {0}
EntriesFit front (e ∷ es) = FitsEntry front e × EntriesFit (front ++ e ∷ []) es

few_declared : (m : Meaning) (place : Place) → count_broken m place ≡ None → IsFew m
few_declared (means.Parameter k) place h = let n : nat_lt 3 k ≡ false = not_where (nat_lt 3 k) (Limit which.Parameters) place h in grind (arith, nat_tests)
few_declared (means.Iterator k) place h = tt
few_declared (means.Array k dimensions) place h = let n : nat_lt 31 k ≡ false = not_where (nat_lt 31 k) (Limit which.Arrays) place h in grind (arith, nat_tests)
few_declared means.LoopName place h = tt
few_declared means.OwnStart place h = tt
few_declared means.Nothing place h = tt

pub entries_fit : (scope : Scope) (es : List Entry) (ds : List Declared) (front : List Entry) → map (λ (e : Entry). e.name) es ≡ map (λ (d : Declared). d.name.name) ds
    → NoneBroken (each_declared_broken (front ++ es) scope (length front) ds) → EntriesFit front es
entries_fit scope [] ds front e h = tt
entries_fit scope (x ∷ es) [] front e h = absurd cc
entries_fit scope (x ∷ es) (d ∷ ds) front e h =
    let n : d.name.name ≡ x.name = cc in
    let t : map (λ (e : Entry). e.name) es ≡ map (λ (d : Declared). d.name.name) ds = cc in
    let f = names_none (front ++ (x ∷ es)) scope (length front) d h.0 in
    let g : is_declared front d.name.name ≡ false = subst (λ es. is_declared es d.name.name ≡ false) (take-append_seam front (x ∷ es)) f.0 in
    let new : is_declared front x.name ≡ false = subst (λ m. is_declared front m ≡ false) n g in
    let own : declared_meaning (front ++ (x ∷ es)) d.name.name ≡ x.meaning = subst (λ m. declared_meaning (front ++ (x ∷ es)) m ≡ x.meaning) (sym n) (own_meaning front es x new) in
    let s : front ++ (x ∷ es) ≡ (front ++ x ∷ []) ++ es = sym (append_assoc front (x ∷ []) es) in
    let k : length front + 1 ≡ length (front ++ x ∷ []) = sym (length-append front (x ∷ [])) in (
      record {
        new = new;
        few = few_declared x.meaning d.name.place (subst (λ m. count_broken m d.name.place ≡ None) own f.1);
      },
      entries_fit scope es ds (front ++ x ∷ []) t
          (subst (λ i. NoneBroken (each_declared_broken ((front ++ x ∷ []) ++ es) scope i ds)) k (subst (λ ns. NoneBroken (each_declared_broken ns scope (length front + 1) ds)) s h.1)),
    )

front_more : (front : List Entry) (e : Entry) → is_loop e.meaning ≡ false → plain (front ++ e ∷ []) ≡ plain front ++ e ∷ []
front_more front e h = plain_append front (e ∷ []) ∙ rw h refl

front_same : (front : List Entry) (e : Entry) → is_loop e.meaning ≡ true → plain (front ++ e ∷ []) ≡ plain front
front_same front e h = plain_append front (e ∷ []) ∙ rw h (append-nil (plain front))

pub declarations_fit : (text_names : List Entry) (front es : List Entry) → EntriesFit front es → text_names ≡ plain front ++ plain es → DeclarationsFit text_names (length (plain front)) (plain es)
declarations_fit text_names front [] h same = tt
declarations_fit text_names front (e ∷ es) h same = by (is_loop e.meaning) refl (declarations_fit text_names (front ++ e ∷ []) es h.1) same
  where
    by : (b : Bool) → is_loop e.meaning ≡ b → (text_names ≡ plain (front ++ e ∷ []) ++ plain es → DeclarationsFit text_names (length (plain (front ++ e ∷ []))) (plain es))
        → text_names ≡ plain front ++ cond b (plain es) (e ∷ plain es) → DeclarationsFit text_names (length (plain front)) (cond b (plain es) (e ∷ plain es))
    by true loop again same =
        let f = front_same front e loop in
        subst (λ n. DeclarationsFit text_names n (plain es)) (ap length f) (again (same ∙ ap (λ xs. xs ++ plain es) (sym f)))
    by false loop again same =
        let f = front_more front e loop in
        let n = new_plain front e.name h.0.new in
        let l : length (plain (front ++ e ∷ [])) ≡ length (plain front) + 1 = ap length f ∙ length-append (plain front) (e ∷ []) in (
          record {
            new = subst (λ xs. is_declared (take (length (plain front)) xs) e.name ≡ false) (sym same)
                (subst (λ xs. is_declared xs e.name ≡ false) (sym (take-append_seam (plain front) (e ∷ plain es))) n);
            means = subst (λ xs. declared_meaning xs e.name ≡ e.meaning) (sym same) (own_meaning (plain front) (plain es) e n);
            few = h.0.few;
          },
          subst (λ k. DeclarationsFit text_names k (plain es)) l (again (same ∙ sym (append_assoc (plain front) (e ∷ []) (plain es)) ∙ ap (λ xs. xs ++ plain es) (sym f))),
        )

-- ---- extents

pub none_at : {A : Type 0} (xs : List A) (k : ℕ) → slice_get xs k ≡ None → length xs ≤ k
none_at [] k h = omega arith
none_at (x ∷ xs) zero h = absurd cc
none_at (x ∷ xs) (suc k) h = let r = none_at xs k h in omega (arith, r)

few_extents : (extents : List Extent) → dimensions_broken extents ≡ None → length extents ≤ 4
few_extents extents h = none_at extents 4 (by (slice_get extents 4) h)
  where
    by : (o : Option Extent) → option_and_then (λ (extent : Extent). broken (Limit which.Dimensions) extent.place) o ≡ None → o ≡ None
    by None h = refl
    by (Some extent) h = absurd cc

-- the front of declarations that are kept
pub keeps_front : (p : Program) (names front more : List Entry) → Keeps p names (plain names) → names ≡ front ++ more → Keeps p front (plain front)
keeps_front p names front more keeps e = record {
  kept = kept_plain front;
  no_iterator = λ name k h. iterator_case name k h (front_meaning front more name);
  owned = λ name. owned_case name (front_meaning front more name);
}
  where
    whole : (name : List ℕ) → declared_meaning (front ++ more) name ≡ declared_meaning front name → declared_meaning names name ≡ declared_meaning front name
    whole name h = subst (λ xs. declared_meaning xs name ≡ declared_meaning front name) (sym e) h

    iterator_case : (name : List ℕ) (k : ℕ) → declared_meaning front name ≡ means.Iterator k → (declared_meaning front name ≡ means.Nothing) ⊎ (declared_meaning (front ++ more) name ≡ declared_meaning front name) → ⊥
    iterator_case name k h (inl n) = let x : means.Nothing ≡ means.Iterator k = sym n ∙ h in cc
    iterator_case name k h (inr n) = keeps.no_iterator name k (whole name n ∙ h)

    owned_case : (name : List ℕ) → (declared_meaning front name ≡ means.Nothing) ⊎ (declared_meaning (front ++ more) name ≡ declared_meaning front name) → IsNamed p name (declared_meaning front name)
    owned_case name (inl n) = subst (IsNamed p name) (sym n) tt
    owned_case name (inr n) = subst (IsNamed p name) (whole name n) (keeps.owned name)

module _ (p : Program) (names : List Entry) (scope : Scope) (keeps : Keeps p names (plain names)) (follows : Follows p scope (whole_scope p))
    (same_params : length p.params ≡ scope.params) (same_fixed : true ≡ scope.fixed) (same_tested : false ≡ scope.tested) (same_iterators : [] ≡ scope.iterators) where
  abbrev Fits : List Entry → List Extent → Type 0
  Fits front extents = FitScope (plain front) (fixed_scope (length p.params)) (whole_scope p) (map (λ (extent : Extent). index front scope extent.size) extents)

  extents_fit : (front more : List Entry) → names ≡ front ++ more → (extents : List Extent) → NoneBroken (map (λ (extent : Extent). index_broken front scope extent.size) extents) → Fits front extents
  extents_fit front more e [] h = tt
  extents_fit front more e (x ∷ xs) h = (
    index_fits front scope (plain front) (fixed_scope (length p.params)) (whole_scope p)
        (carries p front (plain front) (keeps_front p names front more keeps e) scope (fixed_scope (length p.params)) (whole_scope p) follows same_params same_fixed same_tested same_iterators refl) x.size h.0,
    extents_fit front more e xs h.1,
  )

  -- an array that is declared behind the front
  array_fits : (kind : Kind) (front : List Entry) (e : Entry) (more : List Entry) (d : Declared) → names ≡ front ++ (e ∷ more) → is_loop e.meaning ≡ false → declared_broken names scope (length front) d ≡ None
      → FitsArray p (plain names) kind (length (plain front)) (array_of names scope kind (length front) d)
  array_fits kind front e more d same loop h =
      let a = neither (name_broken names (length front) d) (earlier (dimensions_broken d.extents) (extents_broken (take (length front) names) scope d.extents)) h in
      let b = neither (dimensions_broken d.extents) (extents_broken (take (length front) names) scope d.extents) a.1 in
      let c = none_of (map (λ (extent : Extent). index_broken (take (length front) names) scope extent.size) d.extents) b.1 in
      let t : take (length front) names ≡ front = ap (take (length front)) same ∙ take-append_seam front (e ∷ more) in
      let u : plain names ≡ plain front ++ plain (e ∷ more) = ap plain same ∙ plain_append front (e ∷ more) in
      let v : take (length (plain front)) (plain names) ≡ plain front = ap (take (length (plain front))) u ∙ take-append_seam (plain front) (plain (e ∷ more)) in
      let f = extents_fit front (e ∷ more) same d.extents (subst (λ xs. NoneBroken (map (λ (extent : Extent). index_broken xs scope extent.size) d.extents)) t c) in record {
        kind = refl;
        few = let l = length-map d.extents (λ (extent : Extent). index (take (length front) names) scope extent.size) in let m = few_extents d.extents b.0 in subst (λ n. n ≤ 4) (sym l) m;
        extents = subst (λ xs. FitScope xs (fixed_scope (length p.params)) (whole_scope p) (map (λ (extent : Extent). index (take (length front) names) scope extent.size) d.extents)) (sym v)
            (subst (λ xs. FitScope (plain front) (fixed_scope (length p.params)) (whole_scope p) (map (λ (extent : Extent). index xs scope extent.size) d.extents)) (sym t) f);
      }

  -- ---- locals

  pub locals_fit : (body : List Statement) (ds : List Declared) (front : List Entry) (a : ℕ) → names ≡ front ++ local_entries body ds a → NoneBroken (each_declared_broken names scope (length front) ds)
      → LocalsFit p (plain names) (length (plain front)) (arrays_from names scope Local (is_loop_name body) (length front) ds)
  locals_fit body [] front a same h = tt
  locals_fit body (d ∷ ds) front a same h = by (is_loop_name body d) (λ front a. locals_fit body ds front a) same
    where
      by : (b : Bool)
          → ((front : List Entry) (a : ℕ) → names ≡ front ++ local_entries body ds a → NoneBroken (each_declared_broken names scope (length front) ds) → LocalsFit p (plain names) (length (plain front)) (arrays_from names scope Local (is_loop_name body) (length front) ds))
          → names ≡ front ++ (entry d (if b then means.LoopName else means.Array a (length d.extents)) ∷ local_entries body ds (a + count (not b)))
          → LocalsFit p (plain names) (length (plain front)) (if b then arrays_from names scope Local (is_loop_name body) (length front + 1) ds else array_of names scope Local (length front) d ∷ arrays_from names scope Local (is_loop_name body) (length front + 1) ds)
      by true again same =
          let e = entry d means.LoopName in
          let more = local_entries body ds (a + 0) in
          let k : length (front ++ e ∷ []) ≡ length front + 1 = length-append front (e ∷ []) in
          let f : length (plain (front ++ e ∷ [])) ≡ length (plain front) = ap length (front_same front e refl) in
          subst (λ n. LocalsFit p (plain names) n (arrays_from names scope Local (is_loop_name body) (length front + 1) ds)) f
          (subst (λ n. LocalsFit p (plain names) (length (plain (front ++ e ∷ []))) (arrays_from names scope Local (is_loop_name body) n ds)) k
          (again (front ++ e ∷ []) (a + 0) (same ∙ sym (append_assoc front (e ∷ []) more)) (subst (λ n. NoneBroken (each_declared_broken names scope n ds)) (sym k) h.1)))
      by false again same =
          let e = entry d (means.Array a (length d.extents)) in
          let more = local_entries body ds (a + 1) in
          let k : length (front ++ e ∷ []) ≡ length front + 1 = length-append front (e ∷ []) in
          let f : length (plain (front ++ e ∷ [])) ≡ length (plain front) + 1 = ap length (front_more front e refl) ∙ length-append (plain front) (e ∷ []) in (
            array_fits Local front e more d same refl h.0,
            subst (λ n. LocalsFit p (plain names) n (arrays_from names scope Local (is_loop_name body) (length front + 1) ds)) f
                (subst (λ n. LocalsFit p (plain names) (length (plain (front ++ e ∷ []))) (arrays_from names scope Local (is_loop_name body) n ds)) k
                (again (front ++ e ∷ []) (a + 1) (same ∙ sym (append_assoc front (e ∷ []) more)) (subst (λ n. NoneBroken (each_declared_broken names scope n ds)) (sym k) h.1))),
          )

  -- ---- slots

  moved : (ds : List Declared) {i j q s t a b c k m : ℕ} → i ≡ j → q ≡ s → q ≡ t → a ≡ b → a ≡ c → k ≡ m
      → SlotsFit p (plain names) i q a (slots_from ds q a) (param_names ds) (arrays_from names scope Input is_whole k ds)
      → SlotsFit p (plain names) j s b (slots_from ds t c) (param_names ds) (arrays_from names scope Input is_whole m ds)
  moved ds {i = i} {j = j} {q = q} {s = s} {t = t} {a = a} {b = b} {c = c} {k = k} {m = m} e f g h l n x =
      subst (λ i. SlotsFit p (plain names) i s b (slots_from ds t c) (param_names ds) (arrays_from names scope Input is_whole m ds)) e
      (subst (λ s. SlotsFit p (plain names) i s b (slots_from ds t c) (param_names ds) (arrays_from names scope Input is_whole m ds)) f
      (subst (λ t. SlotsFit p (plain names) i q b (slots_from ds t c) (param_names ds) (arrays_from names scope Input is_whole m ds)) g
      (subst (λ b. SlotsFit p (plain names) i q b (slots_from ds q c) (param_names ds) (arrays_from names scope Input is_whole m ds)) h
      (subst (λ c. SlotsFit p (plain names) i q a (slots_from ds q c) (param_names ds) (arrays_from names scope Input is_whole m ds)) l
      (subst (λ k. SlotsFit p (plain names) i q a (slots_from ds q a) (param_names ds) (arrays_from names scope Input is_whole k ds)) n x)))))

  pub slots_fit : (ds : List Declared) (tail front : List Entry) (ps : List (List ℕ)) (before rest : List Array) → names ≡ front ++ (param_entries ds (length ps) (length before) ++ tail)
      → p.params ≡ ps ++ param_names ds → p.arrays ≡ before ++ (arrays_from names scope Input is_whole (length front) ds ++ rest) → NoneBroken (each_declared_broken names scope (length front) ds)
      → SlotsFit p (plain names) (length (plain front)) (length ps) (length before) (slots_from ds (length ps) (length before)) (param_names ds) (arrays_from names scope Input is_whole (length front) ds)
  slots_fit [] tail front ps before rest same params arrays h = tt
  slots_fit (d ∷ ds) tail front ps before rest same params arrays h = by (is_whole d) (λ front ps before. slots_fit ds tail front ps before rest) same params arrays
    where
      by : (b : Bool)
          → ((front : List Entry) (ps : List (List ℕ)) (before : List Array) → names ≡ front ++ (param_entries ds (length ps) (length before) ++ tail)
          → p.params ≡ ps ++ param_names ds → p.arrays ≡ before ++ (arrays_from names scope Input is_whole (length front) ds ++ rest) → NoneBroken (each_declared_broken names scope (length front) ds)
          → SlotsFit p (plain names) (length (plain front)) (length ps) (length before) (slots_from ds (length ps) (length before)) (param_names ds) (arrays_from names scope Input is_whole (length front) ds))
          → names ≡ front ++ ((entry d (if b then means.Parameter (length ps) else means.Array (length before) (length d.extents)) ∷ param_entries ds (length ps + count b) (length before + count (not b))) ++ tail)
          → p.params ≡ ps ++ map (λ (d : Declared). d.name.name) (cond b (d ∷ filter is_whole ds) (filter is_whole ds))
          → p.arrays ≡ before ++ ((if b then arrays_from names scope Input is_whole (length front + 1) ds else array_of names scope Input (length front) d ∷ arrays_from names scope Input is_whole (length front + 1) ds) ++ rest)
          → SlotsFit p (plain names) (length (plain front)) (length ps) (length before) ((if b then slot.Param (length ps) else slot.Array (length before)) ∷ slots_from ds (length ps + count b) (length before + count (not b)))
          (map (λ (d : Declared). d.name.name) (cond b (d ∷ filter is_whole ds) (filter is_whole ds)))
          (if b then arrays_from names scope Input is_whole (length front + 1) ds else array_of names scope Input (length front) d ∷ arrays_from names scope Input is_whole (length front + 1) ds)
      by true again same params arrays =
          let n = d.name.name in
          let e = entry d (means.Parameter (length ps)) in
          let k : length (front ++ e ∷ []) ≡ length front + 1 = length-append front (e ∷ []) in
          let f : length (plain (front ++ e ∷ [])) ≡ length (plain front) + 1 = ap length (front_more front e refl) ∙ length-append (plain front) (e ∷ []) in
          let l : length (ps ++ n ∷ []) ≡ length ps + 1 = length-append ps (n ∷ []) in
          let z : length before + 0 ≡ length before = none_more (length before) in
          let same' : names ≡ (front ++ e ∷ []) ++ (param_entries ds (length (ps ++ n ∷ [])) (length before) ++ tail) =
          subst (λ q. names ≡ (front ++ e ∷ []) ++ (param_entries ds q (length before) ++ tail)) (sym l)
          (subst (λ a. names ≡ (front ++ e ∷ []) ++ (param_entries ds (length ps + 1) a ++ tail)) z (same ∙ sym (append_assoc front (e ∷ []) (param_entries ds (length ps + 1) (length before + 0) ++ tail)))) in
          let r = again (front ++ e ∷ []) (ps ++ n ∷ []) before same' (params ∙ sym (append_assoc ps (n ∷ []) (param_names ds)))
          (subst (λ i. p.arrays ≡ before ++ (arrays_from names scope Input is_whole i ds ++ rest)) (sym k) arrays) (subst (λ i. NoneBroken (each_declared_broken names scope i ds)) (sym k) h.1) in (
            refl,
            ap (λ xs. slice_get xs (length ps)) params ∙ get_seam ps n (param_names ds),
            moved ds f l l refl (sym z) k r,
          )
      by false again same params arrays =
          let x = array_of names scope Input (length front) d in
          let e = entry d (means.Array (length before) (length d.extents)) in
          let more = arrays_from names scope Input is_whole (length front + 1) ds ++ rest in
          let k : length (front ++ e ∷ []) ≡ length front + 1 = length-append front (e ∷ []) in
          let f : length (plain (front ++ e ∷ [])) ≡ length (plain front) + 1 = ap length (front_more front e refl) ∙ length-append (plain front) (e ∷ []) in
          let l : length (before ++ x ∷ []) ≡ length before + 1 = length-append before (x ∷ []) in
          let z : length ps + 0 ≡ length ps = none_more (length ps) in
          let same' : names ≡ (front ++ e ∷ []) ++ (param_entries ds (length ps) (length (before ++ x ∷ [])) ++ tail) =
          subst (λ a. names ≡ (front ++ e ∷ []) ++ (param_entries ds (length ps) a ++ tail)) (sym l)
          (subst (λ q. names ≡ (front ++ e ∷ []) ++ (param_entries ds q (length before + 1) ++ tail)) z (same ∙ sym (append_assoc front (e ∷ []) (param_entries ds (length ps + 0) (length before + 1) ++ tail)))) in
          let r = again (front ++ e ∷ []) ps (before ++ x ∷ []) same' params
          (subst (λ i. p.arrays ≡ (before ++ x ∷ []) ++ (arrays_from names scope Input is_whole i ds ++ rest)) (sym k) (arrays ∙ sym (append_assoc before (x ∷ []) more)))
          (subst (λ i. NoneBroken (each_declared_broken names scope i ds)) (sym k) h.1) in (
            refl,
            ap (λ xs. slice_get xs (length before)) arrays ∙ get_seam before x more,
            array_fits Input front e (param_entries ds (length ps + 0) (length before + 1) ++ tail) d same refl h.0,
            moved ds f refl (sym z) l l k r,
          )
