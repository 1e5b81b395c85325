-- The nodes of a value, one by one.
use Rattle.std.proofs.Common.{◌≡◌, ℕ, zero, suc, ◌+◌, ◌-◌, List, [], ◌∷◌, ◌++◌, length, map, Bool, true, false, cond, refl, sym, ap, ◌∙◌, arith, subst, Option, Some, length-append, ℤ}
use Rattle.std.specs.Prelude.{nat_lt, slice_get}
use Rattle.std.specs.List.{AllByRecursion, flat_map}
use Rattle.std.proofs.lemmas.Bool.Decides.{nat_tests}
use Rattle.std.proofs.lemmas.List.{get_or_append_left, get_or-append-add}
use Rattle.std.proofs.lemmas.Option.{slice_get_within, get_or_from_slice_get, slice_get-get_or}
use Rattle.ac_forms.specs.Affine.{Affine, value_at}
use Rattle.ac_syntax.specs.Index.{Point, index_value}
use Rattle.ac_syntax.specs.ValueNodes.{size, size_in, node_of, node_in}
use Rattle.ac_syntax.specs.FittingForms.{FitsForm, FormsFit}
use Rattle.ac_syntax.specs.ReadyPrograms.{FitsValue, FitValues}
use Rattle.ac_syntax.specs.declared.tree.IndexExpr.{IndexExpr}
use Rattle.ac_syntax.specs.declared.tree.Quot.{Quot}
use Rattle.ac_syntax.specs.declared.tree.Value.{Value, Row_of-Value, end_of-Value, more_of-Value}
use Rattle.ac_syntax.specs.declared.tree.Value.TheVariants.{Number, Access, Call'}
use Rattle.ac_poly_quotients.specs.OwnQuotients.{form_quots, value_quots, values_quots}
use Rattle.ac_poly.specs.ModelMeaning.{Shows, values_at}
use Rattle.ac_poly.specs.ModelNodes.{nodes, nodes_in, roots}
use Rattle.ac_poly.specs.declared.types.NodeModel.{NodeModel}
use Rattle.ac_poly.specs.declared.types.NodeModel.TheVariants.{Number as Constant, Read, Call}

-- one node whose number is `at`
abbrev one : (IndexExpr → Affine) → Value → ℕ → NodeModel
one form (Number e) at = Constant (form e)
one form (Access array subs place) at = Read array (map form subs)
one form (Call' symbol n args place) at = Call symbol (roots args (at + 1))

mutual
  unfolding nodes size

  pub length-nodes : (form : IndexExpr → Affine) (v : Value) (at : ℕ) → length (nodes form v at) ≡ size v
  length-nodes form (Number e) at = refl
  length-nodes form (Access array subs place) at = refl
  length-nodes form (Call' symbol n args place) at = omega (arith, length-nodes_in form args (at + 1))

  pub length-nodes_in : (form : IndexExpr → Affine) {m : _} (vs : Row_of-Value m) (at : ℕ) → length (nodes_in form vs at) ≡ size_in vs
  length-nodes_in form end_of-Value at = refl
  length-nodes_in form (more_of-Value v rest) at = omega (arith, length-append (nodes form v at) (nodes_in form rest (at + size v)), length-nodes form v at, length-nodes_in form rest (at + size v))

-- an element of two lists
got_left : {A : Type 0} (xs ys : List A) (k : ℕ) (x : A) → slice_get xs k ≡ Some x → slice_get (xs ++ ys) k ≡ Some x
got_left xs ys k x h =
    let l = slice_get_within xs k x h in
    slice_get-get_or (xs ++ ys) k x (omega (arith, length-append xs ys)) ∙ ap (λ y. Some y) (get_or_append_left xs ys x k l ∙ get_or_from_slice_get xs k x x h)

got_right : {A : Type 0} (xs ys : List A) (k : ℕ) (x : A) → slice_get ys k ≡ Some x → slice_get (xs ++ ys) (length xs + k) ≡ Some x
got_right xs ys k x h =
    let l = slice_get_within ys k x h in
    slice_get-get_or (xs ++ ys) (length xs + k) x (omega (arith, length-append xs ys)) ∙ ap (λ y. Some y) (get_or-append-add xs ys k x ∙ get_or_from_slice_get ys k x x h)

beyond : (k n : ℕ) → nat_lt k n ≡ false → n + (k - n) ≡ k
beyond k n h = grind (arith, nat_tests)

in_row : (form : IndexExpr → Affine) (xs ys : List NodeModel) (n : ℕ) (at k : ℕ) (u : Value) (b : Bool) → nat_lt k n ≡ b → length xs ≡ n → (f g : Option Value) → cond b f g ≡ Some u
    → (f ≡ Some u → slice_get xs k ≡ Some (one form u (at + k))) → (g ≡ Some u → slice_get ys (k - n) ≡ Some (one form u (at + n + (k - n)))) → slice_get (xs ++ ys) k ≡ Some (one form u (at + k))
in_row form xs ys n at k u true i l f g h a b = got_left xs ys k _ (a h)
in_row form xs ys n at k u false i l f g h a b =
    let e : length xs + (k - n) ≡ k = ap (λ m. m + (k - n)) l ∙ beyond k n i in
    let d : at + n + (k - n) ≡ at + k = let c = beyond k n i in omega arith in
    subst (λ j. slice_get (xs ++ ys) j ≡ Some (one form u (at + k))) e (got_right xs ys (k - n) _ (subst (λ j. slice_get ys (k - n) ≡ Some (one form u j)) d (b h)))

mutual
  unfolding nodes node_of

  pub node_at : (form : IndexExpr → Affine) (v : Value) (at k : ℕ) (u : Value) → node_of v k ≡ Some u → slice_get (nodes form v at) k ≡ Some (one form u (at + k))
  node_at form (Number e) at zero u h = let i : Number e ≡ u = cc in rw (← i) refl
  node_at form (Number e) at (suc k) u h = absurd cc
  node_at form (Access array subs place) at zero u h = let i : Access array subs place ≡ u = cc in rw (← i) refl
  node_at form (Access array subs place) at (suc k) u h = absurd cc
  node_at form (Call' symbol n args place) at zero u h =
      let i : Call' symbol n args place ≡ u = cc in
      let z : at ≡ at + 0 = omega arith in
      ap (λ j. Some (Call symbol (roots args (j + 1)))) z ∙ ap (λ w. Some (one form w (at + 0))) i
  node_at form (Call' symbol n args place) at (suc k) u h =
      subst (λ j. slice_get (nodes_in form args (at + 1)) k ≡ Some (one form u j)) (let e : at + 1 + k ≡ at + suc k = omega arith in e) (node_in_at form args (at + 1) k u h)

  pub node_in_at : (form : IndexExpr → Affine) {m : _} (vs : Row_of-Value m) (at k : ℕ) (u : Value) → node_in vs k ≡ Some u → slice_get (nodes_in form vs at) k ≡ Some (one form u (at + k))
  node_in_at form end_of-Value at k u h = absurd cc
  node_in_at form (more_of-Value v rest) at k u h =
      in_row form (nodes form v at) (nodes_in form rest (at + size v)) (size v) at k u (nat_lt k (size v)) refl (length-nodes form v at) (node_of v k) (node_in rest (k - size v)) h
      (λ e. node_at form v at k u e) (λ e. node_in_at form rest (at + size v) (k - size v) u e)

-- each index expression of a value
unfoldable mutual
  pub EachForm : (IndexExpr → Type 0) → Value → Type 0
  EachForm P (Number e) = P e
  EachForm P (Access array subs place) = AllByRecursion P subs
  EachForm P (Call' symbol n args place) = EachFormIn P args

  pub EachFormIn : (IndexExpr → Type 0) → {m : _} → Row_of-Value m → Type 0
  EachFormIn P end_of-Value = Unit {0}
  EachFormIn P (more_of-Value v rest) = EachForm P v × EachFormIn P rest

all_front : (N : Quot → Type 0) (xs ys : List Quot) → AllByRecursion N (xs ++ ys) → AllByRecursion N xs × AllByRecursion N ys
all_front N [] ys h = (tt, h)
all_front N (x ∷ xs) ys h = let r = all_front N xs ys h.1 in ((h.0, r.0), r.1)

-- index expressions that fit, and whose quotients are as they should be
pub forms_are : (ps xs : ℕ) (N : Quot → Type 0) (P : IndexExpr → Type 0) → ((e : IndexExpr) → FitsForm ps xs e → AllByRecursion N e.quots → P e) → (es : List IndexExpr) → FormsFit ps xs es → AllByRecursion N (flat_map form_quots es)
    → AllByRecursion P es
forms_are ps xs N P w [] f n = tt
forms_are ps xs N P w (e ∷ es) f n = let r = all_front N e.quots (flat_map form_quots es) n in (w e f.0 r.0, forms_are ps xs N P w es f.1 r.1)

mutual
  unfolding EachForm FitsValue value_quots

  pub each_form : (ps xs : ℕ) (N : Quot → Type 0) (P : IndexExpr → Type 0) → ((e : IndexExpr) → FitsForm ps xs e → AllByRecursion N e.quots → P e) → (v : Value) → FitsValue ps xs v → AllByRecursion N (value_quots v) → EachForm P v
  each_form ps xs N P w (Number e) f n = w e f n
  each_form ps xs N P w (Access array subs place) f n = forms_are ps xs N P w subs f n
  each_form ps xs N P w (Call' symbol m args place) f n = each_form_in ps xs N P w args f n

  pub each_form_in : (ps xs : ℕ) (N : Quot → Type 0) (P : IndexExpr → Type 0) → ((e : IndexExpr) → FitsForm ps xs e → AllByRecursion N e.quots → P e) → {m : _} (vs : Row_of-Value m) → FitValues ps xs vs → AllByRecursion N (values_quots vs)
      → EachFormIn P vs
  each_form_in ps xs N P w end_of-Value f n = tt
  each_form_in ps xs N P w (more_of-Value v rest) f n = let r = all_front N (value_quots v) (values_quots rest) n in (each_form ps xs N P w v f.0 r.0, each_form_in ps xs N P w rest f.1 r.1)

either_node : {P : Type 0} (u : Value) (b : Bool) (f g : Option Value) → cond b f g ≡ Some u → (f ≡ Some u → P) → (g ≡ Some u → P) → P
either_node u true f g h a b = a h
either_node u false f g h a b = b h

mutual
  unfolding EachForm node_of

  node_forms : (P : IndexExpr → Type 0) (v : Value) (k : ℕ) (u : Value) → EachForm P v → node_of v k ≡ Some u → EachForm P u
  node_forms P (Number e) zero u f h = let i : Number e ≡ u = cc in subst (EachForm P) i f
  node_forms P (Number e) (suc k) u f h = absurd cc
  node_forms P (Access array subs place) zero u f h = let i : Access array subs place ≡ u = cc in subst (EachForm P) i f
  node_forms P (Access array subs place) (suc k) u f h = absurd cc
  node_forms P (Call' symbol n args place) zero u f h = let i : Call' symbol n args place ≡ u = cc in subst (EachForm P) i f
  node_forms P (Call' symbol n args place) (suc k) u f h = node_in_forms P args k u f h

  node_in_forms : (P : IndexExpr → Type 0) {m : _} (vs : Row_of-Value m) (k : ℕ) (u : Value) → EachFormIn P vs → node_in vs k ≡ Some u → EachForm P u
  node_in_forms P end_of-Value k u f h = absurd cc
  node_in_forms P (more_of-Value v rest) k u f h =
      either_node u (nat_lt k (size v)) (node_of v k) (node_in rest (k - size v)) h (λ e. node_forms P v k u f.0 e) (λ e. node_in_forms P rest (k - size v) u f.1 e)

-- the form has the value of the index expression
abbrev pub IsWorth : List ℤ → Point → (IndexExpr → Affine) → IndexExpr → Type 0
IsWorth full p form e = value_at (form e) full ≡ index_value p e

pub values_are : (full : List ℤ) (p : Point) (form : IndexExpr → Affine) (es : List IndexExpr) → AllByRecursion (IsWorth full p form) es → values_at full (map form es) ≡ map (index_value p) es
values_are full p form [] h = refl
values_are full p form (e ∷ es) h = let first = h.0 in let rest = values_are full p form es h.1 in λ i. first i ∷ rest i

shows : (full : List ℤ) (p : Point) (form : IndexExpr → Affine) (u : Value) (number : ℕ) → EachForm (IsWorth full p form) u → Shows full p u number (Some (one form u number))
unfolding EachForm
shows full p form (Number e) number f = (form e, refl, f)
shows full p form (Access array subs place) number f = (map form subs, refl, values_are full p form subs f)
shows full p form (Call' symbol n args place) number f = refl

-- a node of a value whose forms have their values has its model
pub node_shows : (full : List ℤ) (p : Point) (form : IndexExpr → Affine) (v : Value) (number : ℕ) (u : Value) → EachForm (IsWorth full p form) v → node_of v number ≡ Some u
    → Shows full p u number (slice_get (nodes form v 0) number)
node_shows full p form v number u f h =
    let e : slice_get (nodes form v 0) number ≡ Some (one form u number) = node_at form v 0 number u h ∙ ap (λ j. Some (one form u j)) (let z : 0 + number ≡ number = omega arith in z) in
    subst (Shows full p u number) (sym e) (shows full p form u number (node_forms (IsWorth full p form) v number u f h))
