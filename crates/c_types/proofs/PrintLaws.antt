-- The structs that the type behind a type's pointers names.
use Rattle.std.proofs.Common.{◌≡◌, ℕ}
use Rattle.c_types.specs.Types.{PlainType, void, char, unsigned_char, int, unsigned_int, long, unsigned_long, pointer_to, array_of, structure}
use Rattle.c_types.specs.Tags.{NamesBelow}
use Rattle.c_types.specs.Printed.{behind_pointers}

below_behind_pointers : (count : ℕ) (t : PlainType) → NamesBelow count t → NamesBelow count (behind_pointers t)
below_behind_pointers count (pointer_to t) h = below_behind_pointers count t h
below_behind_pointers count void h = h
below_behind_pointers count char h = h
below_behind_pointers count unsigned_char h = h
below_behind_pointers count int h = h
below_behind_pointers count unsigned_int h = h
below_behind_pointers count long h = h
below_behind_pointers count unsigned_long h = h
below_behind_pointers count (array_of t elements) h = h
below_behind_pointers count (structure number) h = h

pub below_base : (count same : ℕ) (t base : PlainType) → same ≡ count → base ≡ behind_pointers t → NamesBelow count t → NamesBelow same base
below_base count same t base e f h = rw (e, f) (below_behind_pointers count t h)
