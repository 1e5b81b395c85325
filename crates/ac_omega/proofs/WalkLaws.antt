-- What a method of elimination owes to the points of conjunctions.
use Rattle.std.specs.Prelude.{◌≡◌, ℤ, List, [], ◌∷◌, Option, Some, None}
use Rattle.ac_omega.specs.Walk.{Done, Absurd, Open, Method, IsTried}

-- there is a choice in each place
abbrev pub IsWhole : {H : Type 0} → List (Option H) → Type 0
IsWhole [] = Unit {0}
IsWhole (None ∷ hs) = ⊥
IsWhole (Some h ∷ hs) = IsWhole hs

-- each point of a conjunction goes on to what one of its choices leaves
pub record Covers {C H S : Type 0} (m : Method C H S) (Good : C → Type 0) (At : C → List ℤ → Type 0) : Type 0 where
  pub absurd_row : (c : C) (p : List ℤ) → Good c → m.look c ≡ Absurd → At c p → ⊥
  pub choice : (c : C) (hs : List (Option H)) (p : List ℤ) → Good c → m.look c ≡ Open hs → IsWhole hs → At c p
      → (h : H) × IsTried h hs × ((d : C) → m.step c h ≡ Some d → (q : List ℤ) × At d q)
  pub good : (c : C) (hs : List (Option H)) (h : H) (d : C) → Good c → m.look c ≡ Open hs → IsTried h hs → m.step c h ≡ Some d → Good d

-- each point of what a choice leaves goes back to one of the conjunction
pub record Lifts {C H S : Type 0} (m : Method C H S) (Good : C → Type 0) (At : C → List ℤ → Type 0) : Type 0 where
  pub done : (c : C) (p : List ℤ) → Good c → m.look c ≡ Done p → At c p
  pub good : (c : C) (hs : List (Option H)) (h : H) (d : C) → Good c → m.look c ≡ Open hs → IsTried h hs → m.step c h ≡ Some d → Good d
  pub back : (c : C) (hs : List (Option H)) (h : H) (d : C) (q p : List ℤ) → Good c → m.look c ≡ Open hs → IsTried h hs → m.step c h ≡ Some d → At d q → m.lift c h q ≡ Some p → At c p

-- Has c p says that integers for the columns that go exist at p
pub record Projects {C H S : Type 0} (m : Method C H S) (Good : C → Type 0) (At Has : C → List ℤ → Type 0) : Type 0 where
  pub done : (c : C) (q p : List ℤ) → Good c → m.look c ≡ Done q → (Has c p → At c p) × (At c p → Has c p)
  pub absurd_row : (c : C) (p : List ℤ) → Good c → m.look c ≡ Absurd → Has c p → ⊥
  pub choice : (c : C) (hs : List (Option H)) (p : List ℤ) → Good c → m.look c ≡ Open hs → IsWhole hs → Has c p → (h : H) × IsTried h hs × ((d : C) → m.step c h ≡ Some d → Has d p)
  pub good : (c : C) (hs : List (Option H)) (h : H) (d : C) → Good c → m.look c ≡ Open hs → IsTried h hs → m.step c h ≡ Some d → Good d
  pub back : (c : C) (hs : List (Option H)) (h : H) (d : C) (p : List ℤ) → Good c → m.look c ≡ Open hs → IsTried h hs → m.step c h ≡ Some d → Has d p → Has c p
