-- The faults of units don't depend on how many globals are numbered before the texts.
use Rattle.std.proofs.Common.{◌≡◌, ℕ, ◌+◌, nat_le, Bool, false, not, ◌&&◌, ◌||◌, ◌==◌, List, [], ◌∷◌, map, refl, ap, subst, ◌∙◌, IsTrue, codes}
use Rattle.std.specs.Prelude.{Some, None, is_some, if◌then◌else◌}
use Rattle.std.specs.List.{list_any, Contains}
use Rattle.std.specs.Str.{bytes_eq}
use Rattle.core_meaning.specs.declared.refusals.LinkKind.{LinkKind}
use Rattle.core_meaning.specs.declared.refusals.LinkKind.TheVariants as link
use Rattle.core_meaning.specs.Linking.{Unit, IsFault, Links, is_internal, is_main, is_tentative, defines, defines_main, count_whole, count_defined, count_external, count_in_unit, is_available, is_duplicate, built_in_named, external_sort, built_in_sort, AreApart}
use Rattle.plain_scope.specs.declared.entities.Struct.{Struct}
use Rattle.plain_scope.specs.declared.errors.ElabError.{ElabError}
use Rattle.plain_scope.specs.declared.errors.ElabError.TheVariants.{BadType, Link, Memory}
use Rattle.plain_link.specs.declared.definitions.Definite.{Definite}
use Rattle.plain_link.specs.declared.definitions.Definite.TheVariants.{Object, Tentative, Function}
use Rattle.plain_link.specs.declared.definitions.Defined.{Defined}
use Rattle.plain_link.specs.declared.left.Left.{Left}
use Rattle.plain_link.specs.PlainDefinitions.{plain_body, plain_defined}
use Rattle.plain_link.specs.PlainUnits.{plain_unit, plain_units}
use Rattle.plain_link.specs.Faults.{NotLinked}

tentative_same : (g h : ℕ) (b : Definite) → is_tentative (plain_body g b) ≡ is_tentative (plain_body h b)
tentative_same g h (Object parts) = refl
tentative_same g h Tentative = refl
tentative_same g h (Function d) = refl

whole_same : (g h : ℕ) (ds : List Defined) (name : List ℕ) → count_whole (map (plain_defined g) ds) name ≡ count_whole (map (plain_defined h) ds) name
whole_same g h [] name = refl
whole_same g h (d ∷ ds) name =
    ap (λ t. (if bytes_eq d.name.items name && not t then 1 else 0) + count_whole (map (plain_defined g) ds) name) (tentative_same g h d.body)
    ∙ ap (λ n. (if bytes_eq d.name.items name && not (is_tentative (plain_body h d.body)) then 1 else 0) + n) (whole_same g h ds name)

defined_same : (g h : ℕ) (ds : List Defined) (name : List ℕ) → list_any (λ d. bytes_eq d.name name) (map (plain_defined g) ds) ≡ list_any (λ d. bytes_eq d.name name) (map (plain_defined h) ds)
defined_same g h [] name = refl
defined_same g h (d ∷ ds) name = ap (λ b. bytes_eq d.name.items name || b) (defined_same g h ds name)

pub defines_same : (g h : ℕ) (left : Left) (name : List ℕ) → defines (plain_unit g left) name ≡ defines (plain_unit h left) name
defines_same g h left name = defined_same g h left.defined.list.items name

counted_same : (g h : ℕ) (left : Left) (name : List ℕ) → count_defined (plain_unit g left) name ≡ count_defined (plain_unit h left) name
counted_same g h left name =
    ap (λ n. if n == 0 && defines (plain_unit g left) name then 1 else n) (whole_same g h left.defined.list.items name)
    ∙ ap (λ b. if count_whole (plain_unit h left).defined name == 0 && b then 1 else count_whole (plain_unit h left).defined name) (defines_same g h left name)

external_same : (g h : ℕ) (units : List Left) (name : List ℕ) → count_external (map (plain_unit g) units) name ≡ count_external (map (plain_unit h) units) name
external_same g h [] name = refl
external_same g h (left ∷ rest) name =
    ap (λ n. (if is_internal (plain_unit h left) name then 0 else n) + count_external (map (plain_unit g) rest) name) (counted_same g h left name)
    ∙ ap (λ n. (if is_internal (plain_unit h left) name then 0 else count_defined (plain_unit h left) name) + n) (external_same g h rest name)

any_same : (g h : ℕ) (p q : Unit → Bool) → ((left : Left) → p (plain_unit g left) ≡ q (plain_unit h left)) → (units : List Left) → list_any p (map (plain_unit g) units) ≡ list_any q (map (plain_unit h) units)
any_same g h p q each [] = refl
any_same g h p q each (left ∷ rest) =
    ap (λ b. b || list_any p (map (plain_unit g) rest)) (each left)
    ∙ ap (λ b. q (plain_unit h left) || b) (any_same g h p q each rest)

pub available_same : (g h : ℕ) (units : List Left) (left : Left) (name : List ℕ) → is_available (map (plain_unit g) units) (plain_unit g left) name ≡ is_available (map (plain_unit h) units) (plain_unit h left) name
available_same g h units left name =
    ap (λ b. if is_internal (plain_unit h left) name then b else nat_le 1 (count_external (map (plain_unit g) units) name) || is_some (built_in_named name)) (defines_same g h left name)
    ∙ ap (λ n. if is_internal (plain_unit h left) name then defines (plain_unit h left) name else nat_le 1 n || is_some (built_in_named name)) (external_same g h units name)

main_same : (g h : ℕ) (left : Left) → defines_main (plain_unit g left) ≡ defines_main (plain_unit h left)
main_same g h left =
    ap (λ b. elim ((plain_unit h left).names (codes "main")) as (λ x. Bool) [ None ↦ false | Some n ↦ not n.internal && is_main n.sort && b ]) (defines_same g h left (codes "main"))

inside_same : (g h : ℕ) (left : Left) (name : List ℕ) → nat_le 2 (count_in_unit (plain_unit g left) name) ≡ nat_le 2 (count_in_unit (plain_unit h left) name)
inside_same g h left name = ap (λ n. nat_le 2 (if is_internal (plain_unit h left) name then n else 0)) (counted_same g h left name)

duplicate_same : (g h : ℕ) (units : List Left) (name : List ℕ) → is_duplicate (map (plain_unit g) units) name ≡ is_duplicate (map (plain_unit h) units) name
duplicate_same g h units name =
    ap (λ n. nat_le 2 n || list_any (λ unit. nat_le 2 (count_in_unit unit name)) (map (plain_unit g) units) || is_some (built_in_named name) && nat_le 1 n) (external_same g h units name)
    ∙ ap (λ b. nat_le 2 (count_external (map (plain_unit h) units) name) || b || is_some (built_in_named name) && nat_le 1 (count_external (map (plain_unit h) units) name))
    (any_same g h (λ unit. nat_le 2 (count_in_unit unit name)) (λ unit. nat_le 2 (count_in_unit unit name)) (λ left. inside_same g h left name) units)

sorts_same : (g h : ℕ) (units : List Left) (name : List ℕ) → map (external_sort name) (map (plain_unit g) units) ≡ map (external_sort name) (map (plain_unit h) units)
sorts_same g h [] name = refl
sorts_same g h (left ∷ rest) name = ap (λ sorts. external_sort name (plain_unit h left) ∷ sorts) (sorts_same g h rest name)

apart_same : (g h : ℕ) (units : List Left) (structs : List Struct) (name : List ℕ) → AreApart (plain_units g units structs) name → AreApart (plain_units h units structs) name
apart_same g h units structs name a = record {
  first = a.first;
  second = a.second;
  declares_first = subst (λ sorts. Contains (built_in_sort name ∷ sorts) (Some a.first)) (sorts_same g h units name) a.declares_first;
  declares_second = subst (λ sorts. Contains (built_in_sort name ∷ sorts) (Some a.second)) (sorts_same g h units name) a.declares_second;
  apart = a.apart;
}

pub fault_same : (g h : ℕ) (units : List Left) (structs : List Struct) (kind : LinkKind) (name : List ℕ) → IsFault (plain_units g units structs) kind name → IsFault (plain_units h units structs) kind name
fault_same g h units structs link.NoMain name f =
    (f.0, subst (λ b. IsTrue (not b)) (any_same g h defines_main defines_main (main_same g h) units) f.1)
fault_same g h units structs link.Undefined name f =
    subst (λ b. IsTrue b)
    (any_same g h (λ unit. unit.uses name && not (is_available (map (plain_unit g) units) unit name)) (λ unit. unit.uses name && not (is_available (map (plain_unit h) units) unit name))
    (λ left. ap (λ b. (plain_unit h left).uses name && not b) (available_same g h units left name)) units) f
fault_same g h units structs link.Duplicate name f = subst (λ b. IsTrue b) (duplicate_same g h units name) f
fault_same g h units structs link.Incompatible name f = apart_same g h units structs name f

pub not_linked_same : (g h : ℕ) (units : List Left) (structs : List Struct) (e : ElabError) → NotLinked (plain_units g units structs) e → NotLinked (plain_units h units structs) e
not_linked_same g h units structs (Link kind name) f = record {
  fault = fault_same g h units structs kind name.items f.fault;
  no_earlier = λ other n before w. f.no_earlier other n before (fault_same h g units structs other n w);
  no_lesser = λ n before w. f.no_lesser n before (fault_same h g units structs kind n w);
}
not_linked_same g h units structs (BadType kind at) f = f
not_linked_same g h units structs Memory f = f

pub links_same : (g h : ℕ) (units : List Left) (structs : List Struct) → Links (plain_units g units structs) → Links (plain_units h units structs)
links_same g h units structs l = record { no_fault = λ kind name f. l.no_fault kind name (fault_same h g units structs kind name f) }
