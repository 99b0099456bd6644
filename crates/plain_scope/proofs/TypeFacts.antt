-- Types by cases.
use Rattle.std.proofs.Common.{◌≡◌, nat_eq, true, refl}
use Rattle.c_types.specs.Types.{PlainType, void, char, unsigned_char, int, unsigned_int, long, unsigned_long, pointer_to, array_of, structure}
use Rattle.core_meaning.specs.Typing.{same_type}
use Rattle.plain_scope.specs.PlainTypes.{kind_number, is_basic}

-- a basic type is the same as those of its kind
pub same_basic : (a b : PlainType) → is_basic a ≡ true → same_type a b ≡ nat_eq (kind_number a) (kind_number b)
same_basic void b _ = elim b as (λ b. same_type void b ≡ nat_eq 0 (kind_number b)) [ void ↦ refl | char ↦ refl | unsigned_char ↦ refl | int ↦ refl | unsigned_int ↦ refl | long ↦ refl | unsigned_long ↦ refl | pointer_to t ↦ refl | array_of t n ↦ refl | structure n ↦ refl ]
same_basic char b _ = elim b as (λ b. same_type char b ≡ nat_eq 1 (kind_number b)) [ void ↦ refl | char ↦ refl | unsigned_char ↦ refl | int ↦ refl | unsigned_int ↦ refl | long ↦ refl | unsigned_long ↦ refl | pointer_to t ↦ refl | array_of t n ↦ refl | structure n ↦ refl ]
same_basic unsigned_char b _ = elim b as (λ b. same_type unsigned_char b ≡ nat_eq 2 (kind_number b)) [ void ↦ refl | char ↦ refl | unsigned_char ↦ refl | int ↦ refl | unsigned_int ↦ refl | long ↦ refl | unsigned_long ↦ refl | pointer_to t ↦ refl | array_of t n ↦ refl | structure n ↦ refl ]
same_basic int b _ = elim b as (λ b. same_type int b ≡ nat_eq 3 (kind_number b)) [ void ↦ refl | char ↦ refl | unsigned_char ↦ refl | int ↦ refl | unsigned_int ↦ refl | long ↦ refl | unsigned_long ↦ refl | pointer_to t ↦ refl | array_of t n ↦ refl | structure n ↦ refl ]
same_basic unsigned_int b _ = elim b as (λ b. same_type unsigned_int b ≡ nat_eq 4 (kind_number b)) [ void ↦ refl | char ↦ refl | unsigned_char ↦ refl | int ↦ refl | unsigned_int ↦ refl | long ↦ refl | unsigned_long ↦ refl | pointer_to t ↦ refl | array_of t n ↦ refl | structure n ↦ refl ]
same_basic long b _ = elim b as (λ b. same_type long b ≡ nat_eq 5 (kind_number b)) [ void ↦ refl | char ↦ refl | unsigned_char ↦ refl | int ↦ refl | unsigned_int ↦ refl | long ↦ refl | unsigned_long ↦ refl | pointer_to t ↦ refl | array_of t n ↦ refl | structure n ↦ refl ]
same_basic unsigned_long b _ = elim b as (λ b. same_type unsigned_long b ≡ nat_eq 6 (kind_number b)) [ void ↦ refl | char ↦ refl | unsigned_char ↦ refl | int ↦ refl | unsigned_int ↦ refl | long ↦ refl | unsigned_long ↦ refl | pointer_to t ↦ refl | array_of t n ↦ refl | structure n ↦ refl ]
same_basic (pointer_to t) b h = cc
same_basic (array_of t n) b h = cc
same_basic (structure n) b h = cc
