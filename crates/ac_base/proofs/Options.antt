-- Results that may be missing.
use Rattle.std.proofs.Common.{◌≡◌, Bool, true, false, cond, Option, Some, None, refl}
use Rattle.std.specs.Prelude.{option_and_then, option_map}

pub bind-some : {A B : Type 0} (o : Option A) (f : A → Option B) (z : B) → option_and_then f o ≡ Some z → (x : A) × (o ≡ Some x) × (f x ≡ Some z)
bind-some None f z e = absurd cc
bind-some (Some x) f z e = (x, refl, e)

pub map-some : {A B : Type 0} (o : Option A) (f : A → B) (z : B) → option_map f o ≡ Some z → (x : A) × (o ≡ Some x) × (z ≡ f x)
map-some None f z e = absurd cc
map-some (Some x) f z e = (x, refl, cc)

pub if-some : {A : Type 0} (b : Bool) (o : Option A) (z : A) → cond b o None ≡ Some z → (b ≡ true) × (o ≡ Some z)
if-some true o z e = (refl, e)
if-some false o z e = absurd cc

pub unless-some : {A : Type 0} (b : Bool) (o : Option A) (z : A) → cond b None o ≡ Some z → (b ≡ false) × (o ≡ Some z)
unless-some true o z e = absurd cc
unless-some false o z e = (refl, e)

pub some-is : {A : Type 0} (x y : A) → Some x ≡ Some y → x ≡ y
some-is x y e = cc
