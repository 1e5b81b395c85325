use Rattle.std.proofs.Common.{rules, ◌≡◌, length, slice_get, Some, true, false, Bool, arith, ◌<◌, ◌≤◌, take, ◌∙◌, ◌-◌, ap, vec_len}
use Rattle.std.specs.Prelude.{IfSome, insert}
use Rattle.ac_base.proofs.Bits.{again_128}
use Rattle.ac_widen.specs.Combinations.{Each}
use Rattle.ac_hull.specs.SmallestIntegers.{rank}
use Rattle.ac_hull.proofs.Placing.{inserted_past, inserted_there, inserted_room, inserted_popped}
use Rattle.ac_hull.proofs.first.with_number.Goals as goal
use Rattle.ac_hull.proofs.first.with_number.Goals.{then-at-limit-via-then-at-limit, then-at-limit-via-else-at-limit+then-is_at, then-len-limit, else-len-limit}

pub returns-then-at-limit : goal.returns-then-at-limit
returns-then-at-limit c =
    let x = again_128 c.args.number c.ranges.number in
    let within : c.place-at.result ≤ length c.args.numbers = rw c.as_slice.ensures at c.place-at.ensures.within in
    let before : Each (λ z. rank z < rank c.args.number) (take c.place-at.result c.args.numbers) = rw (c.as_slice.ensures, x) at c.place-at.ensures.before in
    elim c.then-at-limit.branch [
      | then-at-limit-via-then-at-limit w ↦ inserted_past c.args.limit c.args.number c.args.numbers c.place-at.result c.requires (search rules) within before
      | then-at-limit-via-else-at-limit+then-is_at w ↦ inserted_there c.args.limit c.args.number c.args.numbers c.place-at.result c.requires before (rw (w.as_slice-else-at-limit.ensures, x) at (w.is_at.ensures.0 w.if-is_at.true))
    ]

pub returns : goal.returns
returns c =
    let x = again_128 c.args.number c.ranges.number in
    let within : c.place-at.result ≤ length c.args.numbers = rw c.as_slice.ensures at c.place-at.ensures.within in
    let before : Each (λ z. rank z < rank c.args.number) (take c.place-at.result c.args.numbers) = rw (c.as_slice.ensures, x) at c.place-at.ensures.before in
    let behind : IfSome (slice_get c.args.numbers c.place-at.result) (λ z. rank c.args.number ≤ rank z) = rw (c.as_slice.ensures, x) at c.place-at.ensures.behind in
    let not_there : ¬ (slice_get c.args.numbers c.place-at.result ≡ Some c.args.number) = λ e. no c.is_at.result (c.is_at.ensures.1 (rw (c.as_slice-else-at-limit.ensures, x) e)) c.if-is_at.false in
    let made : c.insert.new.self.items ≡ insert c.if-len-limit.made.items c.place-at.result c.args.number = rw x at c.in_ok-insert.ensures.items in
    c.from.ensures ∙ made ∙ elim c.if-len-limit.branch [
      | then-len-limit w ↦
          let front : c.if-len-limit.made.items ≡ take (vec_len c.into_vec-made.result - 1) c.args.numbers = ap (λ v. v.items) w.made-is ∙ w.pop.ensures.rest ∙ ap (take (vec_len c.into_vec-made.result - 1)) c.into_vec-made.ensures in
          let len : vec_len c.into_vec-made.result ≡ length c.args.numbers = search (rules, ap length c.into_vec-made.ensures) in
          inserted_popped c.args.limit c.args.number c.args.numbers c.if-len-limit.made.items (vec_len c.into_vec-made.result) c.place-at.result front len (omega arith) c.if-at-limit.false within before behind not_there
      | else-len-limit w ↦
          let all : c.if-len-limit.made.items ≡ c.args.numbers = ap (λ v. v.items) w.made-is ∙ c.into_vec-made.ensures in
          let room : length c.args.numbers < c.args.limit = (let len : vec_len c.into_vec-made.result ≡ length c.args.numbers = search (rules, ap length c.into_vec-made.ensures) in let same : c.len.result ≡ vec_len c.into_vec-made.result = c.len.ensures in let less = w.if-len-limit.false in omega arith) in
          ap (λ v. insert v c.place-at.result c.args.number) all ∙ inserted_room c.args.limit c.args.number c.args.numbers c.place-at.result room within before behind not_there
    ]
  where
    no : (b : Bool) → b ≡ true → b ≡ false → ⊥
    no b p q = cc
