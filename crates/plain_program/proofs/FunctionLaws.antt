-- Bodies that are taken out of a map.
use Rattle.std.proofs.Common.{◌≡◌, ℕ, zero, suc, ◌+◌, ◌<◌, Bool, true, false, List, [], ◌∷◌, ◌++◌, map, length, get_or, drop, take, inl, inr, refl, sym, ap, ◌∙◌, add-one, drop-cons, arith}
use Rattle.std.specs.Prelude.{Option, Some, None, is_some, if◌then◌else◌}
use Rattle.std.proofs.lemmas.List.{take_more, map-append}
use Rattle.std.proofs.Math.Seq.{take-length}
use Rattle.core_meaning.specs.Program.{PlainFunction}
use Rattle.core_meaning.specs.UnitNames.{Body, object_body, tentative_body, function_body}
use Rattle.core_meaning.specs.Linking.{same_linked, parts_of_body}
use Rattle.plain_numbers.specs.declared.places.Linked.{Linked}
use Rattle.plain_numbers.specs.PlainLinked.{plain_linked}
use Rattle.plain_program.specs.Functions.{definition_of, IsApart, IsApartFrom, SameFor}

pub no_definition : (o : Option PlainFunction) → false ≡ is_some o → None ≡ o
no_definition None h = refl
no_definition (Some f) h = absurd cc

function_parts : (p : Option Body) → true ≡ is_some (definition_of p) → [] ≡ parts_of_body p
function_parts None h = absurd cc
function_parts (Some (function_body slots items)) h = refl
function_parts (Some (object_body parts)) h = absurd cc
function_parts (Some tentative_body) h = absurd cc

pub objects_kept : (o p : Option Body) (t : Bool) → (t ≡ true → o ≡ p) → true ≡ is_some (definition_of p) → parts_of_body (if t then None else o) ≡ parts_of_body o
objects_kept o p true same h = function_parts p h ∙ ap parts_of_body (sym (same refl))
objects_kept o p false same h = refl

-- what is taken under one key is kept under those apart from it
pub same_for_step : (f g h : Linked → Option Body) (key : Linked) (keys : List Linked) → SameFor f h keys → IsApartFrom key keys → ((other : Linked) → IsApart key other → g other ≡ f other) → SameFor g h keys
same_for_step f g h key [] same apart kept = tt
same_for_step f g h key (other ∷ others) same apart kept =
    (kept other apart.0 ∙ same.0, same_for_step f g h key others same.1 apart.1 kept)

pub same_for_itself : (f : Linked → Option Body) (keys : List Linked) → SameFor f f keys
same_for_itself f [] = tt
same_for_itself f (key ∷ keys) = (refl, same_for_itself f keys)

pub drop_at : {A : Type 0} (xs : List A) (i : ℕ) (x : A) → i < length xs → x ≡ get_or xs i x → drop i xs ≡ x ∷ drop (i + 1) xs
drop_at xs i x h e = rw add-one (drop-cons xs i x h ∙ ap (λ y. y ∷ drop (suc i) xs) (sym e))

pub map_taken : {A B : Type 0} (f : A → B) (xs : List A) (i : ℕ) (x : A) → i < length xs → x ≡ get_or xs i x → map f (take (i + 1) xs) ≡ map f (take i xs) ++ f x ∷ []
map_taken f xs i x h e =
    ap (map f) (take_more xs i x h ∙ ap (λ y. take i xs ++ y ∷ []) (sym e)) ∙ map-append f (take i xs) (x ∷ [])

pub apart_of_unit : (key other : Linked) (n : ℕ) → key.unit ≡ Some n → IsApart key other → same_linked (plain_linked key) (plain_linked other) ≡ false
apart_of_unit key other n is (inl none) = absurd cc
apart_of_unit key other n is (inr apart) = apart

pub take_all : {A : Type 0} (xs : List A) (i : ℕ) → i ≡ length xs → take i xs ≡ xs
take_all xs i e = ap (λ n. take n xs) e ∙ take-length xs

pub map_at : {A B C : Type 0} (f : A → C) (t : B → C) (xs : List A) (ks : List B) (i : ℕ) (x : A) (k : B) → map f xs ≡ map t ks → i < length xs → x ≡ get_or xs i x → i < length ks → k ≡ get_or ks i k → f x ≡ t k
map_at f t [] ks i x k e h is j are = absurd (omega arith)
map_at f t (y ∷ xs) [] i x k e h is j are = absurd (omega arith)
map_at f t (y ∷ xs) (b ∷ ks) zero x k e h is j are = ap f is ∙ heads (f y) (t b) (map f xs) (map t ks) e ∙ ap t (sym are)
  where
    heads : {D : Type 0} (a b : D) (as_ bs : List D) → a ∷ as_ ≡ b ∷ bs → a ≡ b
    heads a b as_ bs e = cc
map_at f t (y ∷ xs) (b ∷ ks) (suc i) x k e h is j are = map_at f t xs ks i x k (tails (f y) (t b) (map f xs) (map t ks) e) (omega arith) is (omega arith) are
  where
    tails : {D : Type 0} (a b : D) (as_ bs : List D) → a ∷ as_ ≡ b ∷ bs → as_ ≡ bs
    tails a b as_ bs e = cc
