-- Where no fault is found, the pair can be arranged.
use Rattle.std.proofs.Common.{◌≡◌, ℕ, ◌≤◌, List, [], ◌∷◌, ◌++◌, length, Bool, true, false, cond, Option, Some, None, refl, sym, ap, ◌∙◌, subst, arith, length-append}
use Rattle.std.specs.Prelude.{◌&&◌, ◌==◌, not, nat_eq, nat_lt}
use Rattle.std.specs.Cmp.Lexicographic.{pointwise, same_text}
use Rattle.std.proofs.lemmas.Bool.Decides.{nat_tests}
use Rattle.ac_syntax.specs.Outputs.{swaps_of}
use Rattle.ac_syntax.specs.declared.tree.Place.{Place}
use Rattle.ac_syntax.specs.declared.tree.Symbol.{Symbol}
use Rattle.ac_syntax.specs.declared.tree.Value.{Value, Row_of-Value, end_of-Value, more_of-Value}
use Rattle.ac_syntax.specs.declared.tree.Value.TheVariants.{Number, Access, Call'}
use Rattle.ac_syntax.specs.declared.tree.Stmt.{Stmt, Row_of-Stmt, end_of-Stmt, more_of-Stmt}
use Rattle.ac_syntax.specs.declared.tree.Stmt.TheVariants.{For', If', Assign}
use Rattle.ac_assoc_law.specs.OperandChains.{is_binary, operands, operands_in}
use Rattle.ac_assoc_law.specs.ArrangedPairs.{is_misused, is_listed, CanArrange, EachCanArrange, StmtCanArrange, BodyCanArrange, ProgramCanArrange}
use Rattle.ac_instance.specs.declared.halt.Side.{Side}
use Rattle.ac_assoc.specs.ProgramChains.{is_part}
use Rattle.ac_assoc.specs.ArrangementFaults.{or_first, misused, misused_in, is_long, long, long_in, first_of, first_in, first_all, made, side_fault}
use Rattle.ac_assoc.specs.ArrangeablePairs.{PairsWithoutFaultCanBeArranged}

no_first : {A : Type 0} (o p : Option A) → or_first o p ≡ None → (o ≡ None) × (p ≡ None)
no_first None p h = (refl, h)
no_first (Some x) p h = absurd cc

no_cond : {A : Type 0} (b : Bool) (x : A) (o : Option A) → cond b (Some x) o ≡ None → (b ≡ false) × (o ≡ None)
no_cond true x o h = absurd cc
no_cond false x o h = (refl, h)

no_made : (arity : Bool) (side : Side) (o : Option Place) → made arity side o ≡ None → o ≡ None
no_made arity side None h = refl
no_made true side (Some place) h = absurd cc
no_made false side (Some place) h = absurd cc

first_true : (a b : Bool) → (a && b) ≡ true → a ≡ true
first_true true b h = refl
first_true false b h = h

second_true : (a b : Bool) → (a && b) ≡ true → b ≡ true
second_true true b h = h
second_true false b h = absurd cc

short : (swaps : Bool) (n : ℕ) → ((not false && swaps) && nat_lt 6 n) ≡ false → swaps ≡ true → n ≤ 6
short true n h e = grind (arith, nat_tests)
short false n h e = absurd cc

module _ (names : List (List ℕ)) where
  -- a part of a chain is as short as the chain
  abbrev PartIsShort : Bool → Value → Type 0
  PartIsShort part (Number e) = Unit {0}
  PartIsShort part (Access array subs place) = Unit {0}
  PartIsShort part (Call' symbol n args place) = part ≡ true → swaps_of names symbol ≡ true → length (operands_in symbol.name args) ≤ 6

  one_name : (parent s : Symbol) → ((parent.arity == 2) && is_binary parent.name s) ≡ true → s.name ≡ parent.name
  one_name parent s h = same_text s.name parent.name (sym (second_true (s.arity == 2) (pointwise nat_eq s.name parent.name) (second_true (parent.arity == 2) (is_binary parent.name s) h)))

  parent_swaps : (parent s : Symbol) → ((parent.arity == 2) && is_binary parent.name s) ≡ true → swaps_of names s ≡ true → swaps_of names parent ≡ true
  parent_swaps parent s h e =
      let l : is_listed names parent ≡ true = subst (λ (name : List ℕ). is_listed names (record { name = name; arity = 2 }) ≡ true) (one_name parent s h) (second_true (s.arity == 2) (is_listed names s) e) in
      ap (λ b. b && is_listed names parent) (first_true (parent.arity == 2) (is_binary parent.name s) h) ∙ l

  part_short : (parent : Symbol) (v : Value) → (swaps_of names parent ≡ true → length (operands parent.name v) ≤ 6) → PartIsShort (is_part parent v) v
  unfolding operands
  part_short parent (Number e) h = tt
  part_short parent (Access array subs place) h = tt
  part_short parent (Call' symbol n args place) h = λ p e.
      let f : length (cond (is_binary parent.name symbol) (operands_in parent.name args) (Call' symbol n args place ∷ [])) ≤ 6 = h (parent_swaps parent symbol p e) in
      let g : length (operands_in parent.name args) ≤ 6 =
      subst (λ (b : Bool). length (cond b (operands_in parent.name args) (Call' symbol n args place ∷ [])) ≤ 6) (second_true (parent.arity == 2) (is_binary parent.name symbol) p) f in
      subst (λ (name : List ℕ). length (operands_in name args) ≤ 6) (sym (one_name parent symbol p)) g

  own_short : (part : Bool) (s : Symbol) (n : ℕ) → is_long names part s n ≡ false → (part ≡ true → swaps_of names s ≡ true → n ≤ 6) → swaps_of names s ≡ true → n ≤ 6
  own_short true s n h g e = g refl e
  own_short false s n h g e = short (swaps_of names s) n h e

  mutual
    unfolding misused long CanArrange operands

    can_value : (part : Bool) (v : Value) → misused names v ≡ None → long names part v ≡ None → PartIsShort part v → CanArrange names v
    can_value part (Number e) m l p = tt
    can_value part (Access array subs place) m l p = tt
    can_value part (Call' symbol n args place) m l p =
        let i = no_cond (is_misused names symbol) place (misused_in names args) m in
        let j = no_cond (is_long names part symbol (length (operands_in symbol.name args))) place (long_in names symbol args) l in
        let few : swaps_of names symbol ≡ true → length (operands_in symbol.name args) ≤ 6 = own_short part symbol (length (operands_in symbol.name args)) j.0 p in
        (i.0, few, can_args symbol args i.1 j.1 few)

    can_args : (parent : Symbol) {m : _} (args : Row_of-Value m) → misused_in names args ≡ None → long_in names parent args ≡ None
        → (swaps_of names parent ≡ true → length (operands_in parent.name args) ≤ 6) → EachCanArrange names args
    can_args parent end_of-Value m l few = tt
    can_args parent (more_of-Value v rest) m l few =
        let i = no_first (misused names v) (misused_in names rest) m in
        let j = no_first (long names (is_part parent v) v) (long_in names parent rest) l in (
          can_value (is_part parent v) v i.0 j.0 (part_short parent v (λ s. let f : length (operands parent.name v ++ operands_in parent.name rest) ≤ 6 = few s in omega (arith, length-append (operands parent.name v) (operands_in parent.name rest)))),
          can_args parent rest i.1 j.1 (λ s. let f : length (operands parent.name v ++ operands_in parent.name rest) ≤ 6 = few s in omega (arith, length-append (operands parent.name v) (operands_in parent.name rest))),
        )

  whole : (v : Value) → PartIsShort false v
  whole (Number e) = tt
  whole (Access array subs place) = tt
  whole (Call' symbol n args place) = λ p e. absurd cc

  mutual
    unfolding first_of StmtCanArrange

    can_stmt : (s : Stmt) → first_of (misused names) s ≡ None → first_of (long names false) s ≡ None → StmtCanArrange names s
    can_stmt (For' iter start c step n body place) m l = can_body body m l
    can_stmt (If' c n taken k other place) m l =
        let i = no_first (first_in (misused names) taken) (first_in (misused names) other) m in
        let j = no_first (first_in (long names false) taken) (first_in (long names false) other) l in
        (can_body taken i.0 j.0, can_body other i.1 j.1)
    can_stmt (Assign array subs value place) m l = can_value false value m l (whole value)

    can_body : {m : _} (body : Row_of-Stmt m) → first_in (misused names) body ≡ None → first_in (long names false) body ≡ None → BodyCanArrange names body
    can_body end_of-Stmt m l = tt
    can_body (more_of-Stmt s rest) m l =
        let i = no_first (first_of (misused names) s) (first_in (misused names) rest) m in
        let j = no_first (first_of (long names false) s) (first_in (long names false) rest) l in
        (can_stmt s i.0 j.0, can_body rest i.1 j.1)

  can_all : (body : List Stmt) → first_all (misused names) body ≡ None → first_all (long names false) body ≡ None → ProgramCanArrange names body
  can_all [] m l = tt
  can_all (s ∷ ss) m l =
      let i = no_first (first_of (misused names) s) (first_all (misused names) ss) m in
      let j = no_first (first_of (long names false) s) (first_all (long names false) ss) l in
      (can_stmt s i.0 j.0, can_all ss i.1 j.1)

pub without_fault : PairsWithoutFaultCanBeArranged
without_fault names pair left right none =
    let a = no_first (side_fault names true _ pair.left.body) _ none in
    let b = no_first (side_fault names true _ pair.right.body) _ a.1 in
    let c = no_first (side_fault names false _ pair.left.body) _ b.1 in
    record {
      left = can_all names pair.left.body (no_made true _ _ a.0) (no_made false _ _ c.0);
      right = can_all names pair.right.body (no_made true _ _ b.0) (no_made false _ _ c.1);
      arities = (left, right);
    }
