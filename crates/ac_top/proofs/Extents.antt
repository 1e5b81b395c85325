-- An output of a pair has the same extents in both programs, wherever these stand in their texts.
use Rattle.std.proofs.Common.{◌≡◌, ℕ, zero, suc, ◌+◌, ℤ, pos, ◌+ℤ◌, ◌*ℤ◌, List, [], ◌∷◌, length, map, filter, Bool, true, false, true≢false, not, ◌||◌, if◌then◌else◌, cond, nat_eq, Option, Some, None, option_map, slice_get, refl, sym, ap, subst, ◌∙◌, arith}
use Rattle.std.specs.List.{list_any, AllByRecursion}
use Rattle.std.proofs.lemmas.Int.{ints}
use Rattle.std.specs.Ordering.{int_eq}
use Rattle.std.proofs.lemmas.Bool.Decides.{Decides-int_eq, Decides-eqb}
use Rattle.ac_base.specs.Dot.{dot}
use Rattle.ac_base.proofs.Dot.{dot-nil}
use Rattle.ac_syntax.specs.Index.{point, index_value, quots_value}
use Rattle.ac_syntax.specs.Outputs.{extents_at}
use Rattle.ac_syntax.specs.ReadyPrograms.{AllFit, ReadyProgram}
use Rattle.ac_syntax.specs.declared.tree.Array.{Array}
use Rattle.ac_syntax.specs.declared.tree.IndexExpr.{IndexExpr}
use Rattle.ac_syntax.specs.declared.tree.Pair.{Pair}
use Rattle.ac_syntax.specs.declared.tree.Program.{Program}
use Rattle.ac_syntax.specs.declared.tree.Slot.TheVariants as slot
use Rattle.ac_parse_grammar.specs.declared.tree.Declared.{Declared}
use Rattle.ac_parse_rules.specs.Declarations.{is_whole, count, slots_from}
use Rattle.ac_parse_rules.specs.DeclaredNumbers.{array_numbers}
use Rattle.ac_parse.specs.ProgramPairs.{with_later, significant, Extent, extent_of, Shape, shape_of, Parameter, integer_named, array_shaped, parameter_at, is_output, IsPairOf}
use Rattle.ac_parse.specs.Program.{IsProgramOf}

-- coefficients behind the last one that is not 0 add nothing
later-dot : (z : ℤ) (xs : List ℤ) (p : ℤ) (ps : List ℤ) → dot (with_later z xs) (p ∷ ps) ≡ (z *ℤ p) +ℤ dot xs ps
later-dot z [] p ps = by (int_eq z (pos 0)) (Decides-int_eq z (pos 0)).0
  where
    by : (b : Bool) → (b ≡ true → z ≡ pos 0) → dot (if b then [] else z ∷ []) (p ∷ ps) ≡ (z *ℤ p) +ℤ pos 0
    by true none = subst (λ (w : ℤ). pos 0 ≡ (w *ℤ p) +ℤ pos 0) (sym (none refl)) (omega (arith, ints))
    by false none = refl
later-dot z (y ∷ ys) p ps = refl

significant-dot : (zs ps : List ℤ) → dot (significant zs) ps ≡ dot zs ps
significant-dot [] ps = refl
significant-dot (z ∷ zs) [] = dot-nil (significant (z ∷ zs))
significant-dot (z ∷ zs) (p ∷ ps) = later-dot z (significant zs) p ps ∙ ap (λ d. (z *ℤ p) +ℤ d) (significant-dot zs ps)

-- the value of an extent as a form
abbrev value_of : List ℤ → Extent → ℤ
value_of params e = e.constant +ℤ (dot e.params params +ℤ pos 0)

extent-value : (params : List ℤ) (e : IndexExpr) → e.quots ≡ [] → index_value (point params []) e ≡ value_of params (extent_of e)
extent-value params e plain = λ i. e.konst +ℤ (sym (significant-dot e.params params) i +ℤ (dot-nil e.iters i +ℤ quots_value (point params []) (plain i)))

extent-values : (params : List ℤ) (n : ℕ) (es : List IndexExpr) → AllFit n 0 es → map (index_value (point params [])) es ≡ map (value_of params) (map extent_of es)
extent-values params n [] h = refl
extent-values params n (e ∷ es) h = λ i. extent-value params e h.0.plain i ∷ extent-values params n es h.1 i

extents-fit : (n : ℕ) (arrays : List Array) (o : ℕ) → AllByRecursion (λ (a : Array). AllFit n 0 a.extents) arrays → AllFit n 0 (extents_at arrays o)
extents-fit n [] o h = tt
extents-fit n (a ∷ rest) zero h = h.0
extents-fit n (a ∷ rest) (suc o) h = extents-fit n rest o h.1

abbrev extents_in : Option Shape → List Extent
extents_in None = []
extents_in (Some s) = s.extents

extents-at : (arrays : List Array) (o : ℕ) → map extent_of (extents_at arrays o) ≡ extents_in (option_map shape_of (slice_get arrays o))
extents-at [] o = refl
extents-at (a ∷ rest) zero = refl
extents-at (a ∷ rest) (suc o) = extents-at rest o

abbrev shape_in : Parameter → Option Shape
shape_in (integer_named n) = None
shape_in (array_shaped s) = s

-- whether there is an array
abbrev is_array : Parameter → Bool
is_array (integer_named n) = false
is_array (array_shaped s) = true

abbrev first_of : List Parameter → Parameter
first_of [] = integer_named None
first_of (x ∷ xs) = x

abbrev behind : List Parameter → List Parameter
behind [] = []
behind (x ∷ xs) = xs

abbrev HaveOneShape : Program → Program → ℕ → Type 0
HaveOneShape P Q o = option_map shape_of (slice_get P.arrays o) ≡ option_map shape_of (slice_get Q.arrays o)

either : {G : Type 0} (a b : Bool) → (a ≡ true → G) → (b ≡ true → G) → (a || b) ≡ true → G
either true b f g h = f refl
either false b f g h = g h

-- one more parameter of both lists
one_more : (P Q : Program) (o p q a : ℕ) (b c : Bool) (ds es : List Declared)
    → ((p q a : ℕ) → map (parameter_at P) (slots_from ds p a) ≡ map (parameter_at Q) (slots_from es q a) → list_any (nat_eq o) (array_numbers (slots_from ds p a)) ≡ true → HaveOneShape P Q o)
    → parameter_at P (if b then slot.Param p else slot.Array a) ∷ map (parameter_at P) (slots_from ds (p + count b) (a + count (not b))) ≡ parameter_at Q (if c then slot.Param q else slot.Array a) ∷ map (parameter_at Q) (slots_from es (q + count c) (a + count (not c)))
    → list_any (nat_eq o) (array_numbers ((if b then slot.Param p else slot.Array a) ∷ slots_from ds (p + count b) (a + count (not b)))) ≡ true → HaveOneShape P Q o
one_more P Q o p q a true true ds es onward h at = onward (p + 1) (q + 1) (a + 0) (ap behind h) at
one_more P Q o p q a true false ds es onward h at = absurd (true≢false (sym (ap (λ l. is_array (first_of l)) h)))
one_more P Q o p q a false true ds es onward h at = absurd (true≢false (ap (λ l. is_array (first_of l)) h))
one_more P Q o p q a false false ds es onward h at =
    either (nat_eq o a) (list_any (nat_eq o) (array_numbers (slots_from ds (p + 0) (a + 1))))
    (λ e. subst (HaveOneShape P Q) (sym ((Decides-eqb o a).0 e)) (ap (λ l. shape_in (first_of l)) h))
    (onward (p + 0) (q + 0) (a + 1) (ap behind h))
    at

-- arrays with one number have one shape, where two parameter lists agree
same-shapes : (P Q : Program) (o : ℕ) (ds es : List Declared) (p q a : ℕ) → map (parameter_at P) (slots_from ds p a) ≡ map (parameter_at Q) (slots_from es q a)
    → list_any (nat_eq o) (array_numbers (slots_from ds p a)) ≡ true → HaveOneShape P Q o
same-shapes P Q o [] es p q a h at = absurd (true≢false (sym at))
same-shapes P Q o (d ∷ ds) [] p q a h at = absurd cc
same-shapes P Q o (d ∷ ds) (e ∷ es) p q a h at = one_more P Q o p q a (is_whole d) (is_whole e) ds es (same-shapes P Q o ds es) h at

picked_any : (test keep : ℕ → Bool) (xs : List ℕ) → list_any test (filter keep xs) ≡ true → list_any test xs ≡ true
picked_any test keep [] h = h
picked_any test keep (x ∷ xs) h = by (keep x) (picked_any test keep xs) h
  where
    found : (b : Bool) {r : Bool} → r ≡ true → (b || r) ≡ true
    found true k = refl
    found false k = k

    kept : (b r s : Bool) → (r ≡ true → s ≡ true) → (b || r) ≡ true → (b || s) ≡ true
    kept true r s k m = refl
    kept false r s k m = k m

    by : (b : Bool) → (list_any test (filter keep xs) ≡ true → list_any test xs ≡ true) → list_any test (cond b (x ∷ filter keep xs) (filter keep xs)) ≡ true → (test x || list_any test xs) ≡ true
    by true k m = kept (test x) (list_any test (filter keep xs)) (list_any test xs) k m
    by false k m = found (test x) (k m)

-- the extents of an output of a pair have the same values in both programs
pub same_extents : (first second : List ℕ) (left right : Program) (pair : Pair) → IsProgramOf first left → IsProgramOf second right → IsPairOf left right pair → ReadyProgram left → ReadyProgram right
    → (o : ℕ) → list_any (nat_eq o) pair.outputs ≡ true → (params : List ℤ) → map (index_value (point params [])) (extents_at pair.right.arrays o) ≡ map (index_value (point params [])) (extents_at pair.left.arrays o)
same_extents first second left right pair l r is left_ready right_ready o at params =
    let listed : list_any (nat_eq o) (array_numbers left.slots) ≡ true = picked_any (nat_eq o) (is_output left right) (array_numbers left.slots) (subst (λ os. list_any (nat_eq o) os ≡ true) is.outputs at) in
    let left_slots : left.slots ≡ slots_from l.file.params 0 0 = ap (λ (p : Program). p.slots) l.is in
    let right_slots : right.slots ≡ slots_from r.file.params 0 0 = ap (λ (p : Program). p.slots) r.is in
    let signatures : map (parameter_at left) (slots_from l.file.params 0 0) ≡ map (parameter_at right) (slots_from r.file.params 0 0) =
    ap (map (parameter_at left)) (sym left_slots) ∙ is.signatures ∙ ap (map (parameter_at right)) right_slots in
    let shapes : HaveOneShape left right o = same-shapes left right o l.file.params r.file.params 0 0 0 signatures (subst (λ ss. list_any (nat_eq o) (array_numbers ss) ≡ true) left_slots listed) in
    let forms : map extent_of (extents_at left.arrays o) ≡ map extent_of (extents_at right.arrays o) = extents-at left.arrays o ∙ ap extents_in shapes ∙ sym (extents-at right.arrays o) in
    let values : map (index_value (point params [])) (extents_at right.arrays o) ≡ map (index_value (point params [])) (extents_at left.arrays o) =
    extent-values params (length right.params) (extents_at right.arrays o) (extents-fit (length right.params) right.arrays o right_ready.extents) ∙ ap (map (value_of params)) (sym forms)
    ∙ sym (extent-values params (length left.params) (extents_at left.arrays o) (extents-fit (length left.params) left.arrays o left_ready.extents)) in
    ap (λ (p : Program). map (index_value (point params [])) (extents_at p.arrays o)) is.right_is ∙ values ∙ ap (λ (p : Program). map (index_value (point params [])) (extents_at p.arrays o)) (sym is.left_is)
