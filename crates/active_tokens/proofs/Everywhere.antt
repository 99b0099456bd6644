-- What holds of each element of lists that are joined, mapped or cut.
use Rattle.std.proofs.Common.{Bool, true, false, cond, List, [], ◌∷◌, ◌++◌, map}
use Rattle.std.specs.List.{AllByRecursion, flat_map}

pub each-append : {X : Type 0} (P : X → Type 0) (xs ys : List X) → AllByRecursion P xs → AllByRecursion P ys → AllByRecursion P (xs ++ ys)
each-append P [] ys a b = b
each-append P (x ∷ xs) ys a b = (a.0, each-append P xs ys a.1 b)

pub each-left : {X : Type 0} (P : X → Type 0) (xs ys : List X) → AllByRecursion P (xs ++ ys) → AllByRecursion P xs
each-left P [] ys a = tt
each-left P (x ∷ xs) ys a = (a.0, each-left P xs ys a.1)

pub each-right : {X : Type 0} (P : X → Type 0) (xs ys : List X) → AllByRecursion P (xs ++ ys) → AllByRecursion P ys
each-right P [] ys a = a
each-right P (x ∷ xs) ys a = each-right P xs ys a.1

pub each-map : {X Y : Type 0} (P : Y → Type 0) (R : X → Type 0) (f : X → Y) → ((x : X) → R x → P (f x)) → (xs : List X) → AllByRecursion R xs → AllByRecursion P (map f xs)
each-map P R f keeps [] a = tt
each-map P R f keeps (x ∷ xs) a = (keeps x a.0, each-map P R f keeps xs a.1)

pub each-flat-map : {X Y : Type 0} (P : Y → Type 0) (R : X → Type 0) (f : X → List Y) → ((x : X) → R x → AllByRecursion P (f x)) → (xs : List X) → AllByRecursion R xs → AllByRecursion P (flat_map f xs)
each-flat-map P R f keeps [] a = tt
each-flat-map P R f keeps (x ∷ xs) a = each-append P (f x) (flat_map f xs) (keeps x a.0) (each-flat-map P R f keeps xs a.1)

-- what holds of both choices
pub by-choice : {X : Type 0} (P : X → Type 0) (b : Bool) (x y : X) → P x → P y → P (cond b x y)
by-choice P true x y a c = a
by-choice P false x y a c = c
