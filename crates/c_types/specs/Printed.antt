-- How a type is printed: a declaration of a name without what follows it (ISO/IEC 9899:2011, 6.7, 6.7.2, 6.7.6.1).
use Rattle.std.specs.Prelude.{ℕ, List, [], ◌∷◌, ◌++◌, codes, Option, Some, None, ⊤, slice_get}
use Rattle.c_types.specs.Types.{PlainType, void, char, unsigned_char, int, unsigned_int, long, unsigned_long, pointer_to, array_of, structure}
use Rattle.c_types.specs.Tags.{PlainTag}

-- no array is printed
abbrev pub HasNoArray : PlainType → Type 0
HasNoArray (pointer_to t) = HasNoArray t
HasNoArray (array_of t count) = ⊥
HasNoArray other = ⊤

-- the type behind a type's pointers
abbrev pub behind_pointers : PlainType → PlainType
behind_pointers (pointer_to t) = behind_pointers t
behind_pointers other = other

-- a star for each pointer
abbrev pub stars : PlainType → List ℕ
stars (pointer_to t) = 42 ∷ stars t
stars other = []

-- the words of a type that is no pointer, those of a struct without its tag
abbrev pub words : PlainType → List ℕ
words void = codes "void"
words char = codes "char"
words unsigned_char = codes "unsigned char"
words int = codes "int"
words unsigned_int = codes "unsigned int"
words long = codes "long"
words unsigned_long = codes "unsigned long"
words (structure number) = codes "struct "
words other = []

abbrev pub name_of : Option PlainTag → List ℕ
name_of (Some tag) = tag.name
name_of None = []

abbrev pub tag_name : List PlainTag → PlainType → List ℕ
tag_name tags (structure number) = name_of (slice_get tags number)
tag_name tags other = []

abbrev pub base : List PlainTag → PlainType → List ℕ
base tags t = words t ++ tag_name tags t

-- the base, a blank, the stars and the name, which may be empty
abbrev pub printed : List PlainTag → PlainType → List ℕ → List ℕ
printed tags t name = base tags (behind_pointers t) ++ 32 ∷ (stars t ++ name)
