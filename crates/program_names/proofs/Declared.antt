-- What declares a name with external linkage is among the declarations that are linked, and they are declared so.
use Rattle.std.proofs.Common.{◌≡◌, ℕ, ◌+◌, zero, suc, Bool, true, false, List, [], ◌∷◌, ◌++◌, map, refl, ap, sym, subst, ◌∙◌, inl, inr, arith}
use Rattle.std.specs.Prelude.{◌⊎◌, ◌==◌, Option, Some, None, slice_get, flat_map, if◌then◌else◌}
use Rattle.std.specs.Str.{bytes_eq}
use Rattle.std.specs.Cmp.Lexicographic.{bytes_decides}
use Rattle.std.proofs.lemmas.Bool.{false≢true}
use Rattle.std.proofs.lemmas.Bool.Decides.{nat_tests}
use Rattle.std.proofs.lemmas.Option.{same_Some, none-some}
use Rattle.core_meaning.specs.Checking.{Entity, local_entity, local_of_function, file_entity, struct_entity, member_entity, own_entity}
use Rattle.bindings.specs.Judged.{Identified, first_with}
use Rattle.entity_numbers.specs.Firsts.{first_number}
use Rattle.program_occurrences.specs.Occurrences.{UnitNames, Occurrence, or_itself, occurrence_among, occurrences_of, declares_itself, CommonName, external_name, tag, member_of, member_by, common_name_by, common_name}
use Rattle.program_occurrences.specs.Links.{LinkedDeclaration, linked_by, linked_declaration, linked_declarations, first_named}
use Rattle.occurrence_names.proofs.Kept.{In, in-map}
use Rattle.program_names.proofs.OneToOne.{First, first_of, first_is, same_file}

-- ---- what is among others

in_left : {A : Type 0} (x : A) (xs ys : List A) → In x xs → In x (xs ++ ys)
in_left x [] ys among = absurd among
in_left x (y ∷ xs) ys (inl e) = inl e
in_left x (y ∷ xs) ys (inr among) = inr (in_left x xs ys among)

in_right : {A : Type 0} (x : A) (xs ys : List A) → In x ys → In x (xs ++ ys)
in_right x [] ys among = among
in_right x (y ∷ xs) ys among = inr (in_right x xs ys among)

in_either : {A : Type 0} (x : A) (xs ys : List A) → In x (xs ++ ys) → In x xs ⊎ In x ys
in_either x [] ys among = inr among
in_either x (y ∷ xs) ys (inl e) = inl (inl e)
in_either {A} x (y ∷ xs) ys (inr among) = further (in_either x xs ys among)
  where
    further : In x xs ⊎ In x ys → In x (y ∷ xs) ⊎ In x ys
    further (inl a) = inl (inr a)
    further (inr b) = inr b

in_flat_map : {A B : Type 0} (f : B → List A) (x : A) (y : B) (ys : List B) → In y ys → In x (f y) → In x (flat_map f ys)
in_flat_map f x y [] among here = absurd among
in_flat_map {A} f x y (z ∷ ys) (inl e) here = in_left x (f z) (flat_map f ys) (subst (λ w. In x (f w)) e here)
in_flat_map f x y (z ∷ ys) (inr among) here = in_right x (f z) (flat_map f ys) (in_flat_map f x y ys among here)

-- what comes of one of others
record ComesOf {A B : Type 0} (f : B → List A) (x : A) (ys : List B) : Type 0 where
  source : B
  among : In source ys
  here : In x (f source)

comes_of : {A B : Type 0} (f : B → List A) (x : A) (ys : List B) → In x (flat_map f ys) → ComesOf f x ys
comes_of f x [] among = absurd among
comes_of f x (y ∷ ys) among = by (in_either x (f y) (flat_map f ys) among) (comes_of f x ys)
  where
    by : In x (f y) ⊎ In x (flat_map f ys) → (In x (flat_map f ys) → ComesOf f x ys) → ComesOf f x (y ∷ ys)
    by (inl a) later = record { source = y; among = inl refl; here = a }
    by (inr a) later = let c = later a in record { source = c.source; among = inr c.among; here = c.here }

-- the first declaration of a name
pub record FirstNamed (d : LinkedDeclaration) (all : List LinkedDeclaration) : Type 0 where
  pub first : LinkedDeclaration
  pub found : first_named d.name all ≡ Some first
  pub among : In first all
  pub named : first.name ≡ d.name

pub first_named_in : (d : LinkedDeclaration) (all : List LinkedDeclaration) → In d all → FirstNamed d all
first_named_in d [] among = absurd among
first_named_in d (x ∷ rest) among = by (bytes_eq x.name d.name) refl (first_named_in d rest) among
  where
    more_ : FirstNamed d rest → bytes_eq x.name d.name ≡ false → FirstNamed d (x ∷ rest)
    more_ f e = record { first = f.first; found = ap (λ (b : Bool). if b then Some x else first_named d.name rest) e ∙ f.found; among = inr f.among; named = f.named }

    by : (b : Bool) → bytes_eq x.name d.name ≡ b → (In d rest → FirstNamed d rest) → (d ≡ x) ⊎ In d rest → FirstNamed d (x ∷ rest)
    by true e later a = record { first = x; found = ap (λ (b : Bool). if b then Some x else first_named d.name rest) e; among = inl refl; named = (bytes_decides x.name d.name).0 e }
    by false e later (inl a) = absurd (false≢true (sym e ∙ (bytes_decides x.name d.name).1 (ap (λ (y : LinkedDeclaration). y.name) (sym a))))
    by false e later (inr a) = more_ (later a) e

-- ---- what declares a name is linked

itself : (all : List Identified) (i : Identified) (f : First i.entity all) → or_itself f.first (first_with f.first.entity all) ≡ f.first
itself all i f = ap (or_itself f.first) (ap (λ e. first_with e all) f.stands ∙ f.found)

same_number : (n : ℕ) → (n == n) ≡ true
same_number n = grind (arith, nat_tests)

declared_so : (unit : UnitNames) (i : Identified) (a : List ℕ) → i.entity ≡ file_entity a → unit.is_external a ≡ true → common_name unit i ≡ Some (external_name a)
declared_so unit i a stands external =
    ap (common_name_by unit i.token.text) stands ∙ ap (λ (b : Bool). if b then Some (external_name a) else None) external

declared_here :
    (place : ℕ) (unit : UnitNames) (i : Identified) (a : List ℕ) → In i unit.identified → i.entity ≡ file_entity a → unit.is_external a ≡ true
    → In (record { unit = place; number = first_number unit.identified i; name = a }) (flat_map (linked_declaration place unit) (occurrences_of unit))
declared_here place unit i a among stands external =
    let all : List Identified = unit.identified in
    let f = first_of i all (same_file i a stands) among in
    let o : Occurrence = occurrence_among all f.first in
    let by_itself : o.declared_by ≡ f.first = itself all i f in
    let declares_ : declares_itself o ≡ true = ap (λ (j : Identified). f.first.number == j.number) by_itself ∙ same_number f.first.number in
    let named_ : common_name unit f.first ≡ Some (external_name a) = declared_so unit f.first a (f.stands ∙ stands) external in
    let is : linked_declaration place unit o ≡ record { unit = place; number = f.first.number; name = a } ∷ [] =
    ap (λ (b : Bool). if b then linked_by place f.first.number (common_name unit f.first) else []) declares_ ∙ ap (linked_by place f.first.number) named_ in
    in_flat_map (linked_declaration place unit) (record { unit = place; number = first_number all i; name = a }) o (occurrences_of unit) (in-map (occurrence_among all) f.first all f.among)
    (subst (λ (l : List LinkedDeclaration). In (record { unit = place; number = first_number all i; name = a }) l) (sym is) (inl (ap (λ (n : ℕ). record { unit = place; number = n; name = a }) (first_is i all f))))

pub declared_in :
    (place : ℕ) (units : List UnitNames) (k : ℕ) (unit : UnitNames) → slice_get units k ≡ Some unit → (i : Identified) (a : List ℕ) → In i unit.identified → i.entity ≡ file_entity a → unit.is_external a ≡ true
    → In (record { unit = place + k; number = first_number unit.identified i; name = a }) (linked_declarations place units)
declared_in place [] k unit at i a among stands external = absurd (none-some unit at)
declared_in place (own ∷ units) zero unit at i a among stands external =
    let here : place + 0 ≡ place = omega arith in
    in_left _ (flat_map (linked_declaration place own) (occurrences_of own)) (linked_declarations (place + 1) units)
    (subst (λ (n : ℕ). In (record { unit = n; number = first_number unit.identified i; name = a }) (flat_map (linked_declaration place own) (occurrences_of own))) (sym here)
    (subst (λ (u : UnitNames). In (record { unit = place; number = first_number unit.identified i; name = a }) (flat_map (linked_declaration place u) (occurrences_of u))) (sym (same_Some own unit at))
    (declared_here place unit i a among stands external)))
declared_in place (own ∷ units) (suc k) unit at i a among stands external =
    let there : (place + 1) + k ≡ place + suc k = omega arith in
    in_right _ (flat_map (linked_declaration place own) (occurrences_of own)) (linked_declarations (place + 1) units)
    (subst (λ (n : ℕ). In (record { unit = n; number = first_number unit.identified i; name = a }) (linked_declarations (place + 1) units)) there
    (declared_in (place + 1) units k unit at i a among stands external))

-- ---- what is linked is declared so

-- an identifier of the unit with this number that declares the name
pub record DeclaresIt (place : ℕ) (units : List UnitNames) (d : LinkedDeclaration) : Type 0 where
  pub offset : ℕ
  pub is : d.unit ≡ place + offset
  pub unit : UnitNames
  pub at : slice_get units offset ≡ Some unit
  pub identifier : Identified
  pub among : In identifier unit.identified
  pub number : identifier.number ≡ d.number
  pub stands : identifier.entity ≡ file_entity d.name

same_external : (a b : List ℕ) → Some (external_name a) ≡ Some (external_name b) → a ≡ b
same_external a b e = cc

stands_for : (unit : UnitNames) (text : List ℕ) (e : Entity) (name : List ℕ) → common_name_by unit text e ≡ Some (external_name name) → e ≡ file_entity name
stands_for unit text (file_entity own) name e = by (unit.is_external own) e
  where
    by : (b : Bool) → (if b then Some (external_name own) else None) ≡ Some (external_name name) → file_entity own ≡ file_entity name
    by true f = ap file_entity (same_external own name f)
    by false f = absurd (none-some (external_name name) f)
stands_for unit text (struct_entity number) name e = absurd cc
stands_for unit text (member_entity struct number) name e = absurd (by (first_with (struct_entity struct) unit.identified) e)
  where
    by : (o : Option Identified) → member_by o text ≡ Some (external_name name) → ⊥
    by None f = none-some (external_name name) f
    by (Some i) f = cc
stands_for unit text (local_entity slot) name e = absurd (none-some (external_name name) e)
stands_for unit text (local_of_function f slot) name e = absurd (none-some (external_name name) e)
stands_for unit text own_entity name e = absurd (none-some (external_name name) e)

-- what a common name links
record LinkedSo (place number : ℕ) (o : Option CommonName) (d : LinkedDeclaration) : Type 0 where
  unit : d.unit ≡ place
  own : d.number ≡ number
  named : o ≡ Some (external_name d.name)

linked_so : (place number : ℕ) (o : Option CommonName) (d : LinkedDeclaration) → In d (linked_by place number o) → LinkedSo place number o d
linked_so place number None d among = absurd among
linked_so place number (Some (tag t)) d among = absurd among
linked_so place number (Some (member_of s n)) d among = absurd among
linked_so place number (Some (external_name name)) d (inl e) = record {
  unit = ap (λ (x : LinkedDeclaration). x.unit) e;
  own = ap (λ (x : LinkedDeclaration). x.number) e;
  named = ap (λ (x : LinkedDeclaration). Some (external_name x.name)) (sym e);
}
linked_so place number (Some (external_name name)) d (inr among) = absurd among

identifier_in : (all is : List Identified) (o : Occurrence) → In o (map (occurrence_among all) is) → In o.identifier is
identifier_in all [] o among = absurd among
identifier_in all (i ∷ is) o (inl e) = inl (ap (λ (x : Occurrence). x.identifier) e)
identifier_in all (i ∷ is) o (inr among) = inr (identifier_in all is o among)

there_so : (place : ℕ) (unit : UnitNames) (o : Occurrence) (d : LinkedDeclaration) → In d (linked_declaration place unit o) → LinkedSo place o.identifier.number (common_name unit o.identifier) d
there_so place unit o d among = by (declares_itself o) among
  where
    by : (b : Bool) → In d (if b then linked_by place o.identifier.number (common_name unit o.identifier) else []) → LinkedSo place o.identifier.number (common_name unit o.identifier) d
    by true a = linked_so place o.identifier.number (common_name unit o.identifier) d a
    by false a = absurd a

pub declares_it : (place : ℕ) (units : List UnitNames) (d : LinkedDeclaration) → In d (linked_declarations place units) → DeclaresIt place units d
declares_it place [] d among = absurd among
declares_it place (unit ∷ units) d among = by (in_either d (flat_map (linked_declaration place unit) (occurrences_of unit)) (linked_declarations (place + 1) units) among) (declares_it (place + 1) units d)
  where
    by :
        In d (flat_map (linked_declaration place unit) (occurrences_of unit)) ⊎ In d (linked_declarations (place + 1) units) → (In d (linked_declarations (place + 1) units) → DeclaresIt (place + 1) units d)
        → DeclaresIt place (unit ∷ units) d
    by (inl a) later =
        let c = comes_of (linked_declaration place unit) d (occurrences_of unit) a in
        let l = there_so place unit c.source d c.here in
        let here : place ≡ place + 0 = omega arith in
        record {
          offset = 0;
          is = l.unit ∙ here;
          unit = unit;
          at = refl;
          identifier = c.source.identifier;
          among = identifier_in unit.identified unit.identified c.source c.among;
          number = sym l.own;
          stands = stands_for unit c.source.identifier.token.text c.source.identifier.entity d.name l.named;
        }
    by (inr a) later =
        let l = later a in
        let there : (place + 1) + l.offset ≡ place + suc l.offset = omega arith in
        record { offset = suc l.offset; is = l.is ∙ there; unit = l.unit; at = l.at; identifier = l.identifier; among = l.among; number = l.number; stands = l.stands }
