-- Whether there is something.
use Rattle.std.proofs.Common.{◌≡◌, Bool, true, false, Option, Some, None, refl}
use Rattle.std.specs.Prelude.{is_some, option_map, ◌||◌}

pub is_some_map : {X Y : Type 0} (f : X → Y) (o : Option X) → is_some (option_map f o) ≡ is_some o
is_some_map f None = refl
is_some_map f (Some x) = refl

pub none_is : {X : Type 0} (o : Option X) → is_some o ≡ false → None ≡ o
none_is None h = refl
none_is (Some x) h = cc

pub left_false : (a b : Bool) → (a || b) ≡ false → a ≡ false
left_false true b h = h
left_false false b h = refl

pub right_false : (a b : Bool) → (a || b) ≡ false → b ≡ false
right_false true b h = cc
right_false false b h = h

pub nothing_is : {X : Type 0} (o : Option X) → is_some o ≡ false → o ≡ None
nothing_is None h = refl
nothing_is (Some x) h = cc
