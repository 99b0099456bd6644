-- Declared names that tell units tell whether declarations of them are linked otherwise.
use Rattle.std.proofs.Common.{◌≡◌, ℕ, Bool, true, false, ◌&&◌, List, [], ◌∷◌, Some, None, Contains, refl, sym, ap, subst, ◌∙◌, inl, inr}
use Rattle.std.specs.Prelude.{◌⊎◌, ◌↔◌, not, IsTrue, if◌then◌else◌}
use Rattle.std.specs.List.{list_any}
use Rattle.std.specs.Str.{bytes_eq}
use Rattle.std.proofs.lemmas.Bool.{and_parts, and_from, or_cases}
use Rattle.std.proofs.lemmas.List.Folds.{list_any_at}
use Rattle.std.proofs.lemmas.Option.{none-some}
use Rattle.std.proofs.lemmas.Slice.Eq.{bytes_eq-Decides}
use Rattle.cond_formula.specs.Features.{has}
use Rattle.c_text.specs.declared.origin.FileToken.{FileToken}
use Rattle.core_meaning.specs.Linking.{built_in_named}
use Rattle.program_occurrences.specs.Occurrences.{UnitNames, declares_itself, CommonName, external_name, tag, member_of, common_name}
use Rattle.program_occurrences.specs.Classes.{PlainFileToken, file_token}
use Rattle.tied_classes.specs.Told.{DeclaresName}
use Rattle.told_ties.specs.Ties.{NamedToken, named, named_seen}
use Rattle.told_ties.specs.Laws.{TiesAreSeen}
use Rattle.told_ties.proofs.Lists.{first_among, later_among}
use Rattle.changed_forests.specs.Renamed.{is_of_class}
use Rattle.linked_otherwise.specs.Otherwise.{ExternalDeclaration, token_of, IsTaken, IsLinkedOtherwise}
use Rattle.class_captures.specs.Links.{is_external, is_external_name, is_listed, is_renamed, is_taken, LinksOtherwise}
use Rattle.class_captures.specs.Laws.{HaveNames, LinksAreToldByNames}

pub contradiction : {A : Type 0} → false ≡ true → A
contradiction e = absurd cc

-- ---- one of a list that passes a test

record Passing (test : NamedToken → Bool) (seen : List NamedToken) : Type 0 where
  entry : NamedToken
  among : Contains seen entry
  passes : test entry ≡ true

passing : (test : NamedToken → Bool) (seen : List NamedToken) → list_any test seen ≡ true → Passing test seen
passing test [] h = contradiction h
passing test (n ∷ seen) h = by (or_cases (test n) (list_any test seen) h) (λ more. passing test seen more)
  where
    by : (test n ≡ true) ⊎ (list_any test seen ≡ true) → (list_any test seen ≡ true → Passing test seen) → Passing test (n ∷ seen)
    by (inl e) behind = record { entry = n; among = first_among n n seen refl; passes = e }
    by (inr more) behind = let p = behind more in record { entry = p.entry; among = later_among n p.entry seen p.among; passes = p.passes }

passed : (test : NamedToken → Bool) (seen : List NamedToken) (n : NamedToken) → Contains seen n → test n ≡ true → list_any test seen ≡ true
passed test seen n (i, within, is) passes = list_any_at test seen i n within (ap test is ∙ passes)

-- ---- names with external linkage

external-is : (name : CommonName) → is_external name ≡ true → (text : List ℕ) × (name ≡ external_name text)
external-is (external_name text) h = (text, refl)
external-is (tag text) h = contradiction h
external-is (member_of of text) h = contradiction h

named-is : (new : List ℕ) (name : CommonName) → is_external_name new name ≡ true → name ≡ external_name new
named-is new (external_name text) h = ap external_name ((bytes_eq-Decides text new).0 h)
named-is new (tag text) h = contradiction h
named-is new (member_of of text) h = contradiction h

isn't : (b : Bool) → not b ≡ true → b ≡ false
isn't true h = contradiction h
isn't false h = refl

-- ---- declarations of the units

-- an identifier that is a copy of this token declares this name, with external linkage
record IsDeclaration (units : List UnitNames) (token : PlainFileToken) (name : List ℕ) : Type 0 where
  declaration : ExternalDeclaration units
  token_is : file_token declaration.found.occurrence ≡ token
  name_is : declaration.name ≡ name

declared : (units : List UnitNames) (token : PlainFileToken) (name : List ℕ) → DeclaresName units token (external_name name) → IsDeclaration units token name
declared units token name h = record {
  declaration = record { found = h.found; name = name; declares = by (declares_itself h.found.occurrence) h.itself };
  token_is = h.token_is;
  name_is = refl;
}
  where
    by : (b : Bool) → b ≡ true → (if b then common_name h.found.unit h.found.occurrence.identifier else None) ≡ Some (external_name name)
    by true e = h.name_is
    by false e = contradiction e

declares : (units : List UnitNames) (d : ExternalDeclaration units) → DeclaresName units (file_token d.found.occurrence) (external_name d.name)
declares units d = record {
  found = d.found;
  itself = itself-so (declares_itself d.found.occurrence) d.declares;
  token_is = refl;
  name_is = known-so (declares_itself d.found.occurrence) d.declares;
}
  where
    itself-so : (b : Bool) → (if b then common_name d.found.unit d.found.occurrence.identifier else None) ≡ Some (external_name d.name) → IsTrue b
    itself-so true e = refl
    itself-so false e = absurd (none-some (external_name d.name) e)

    known-so :
        (b : Bool) → (if b then common_name d.found.unit d.found.occurrence.identifier else None) ≡ Some (external_name d.name)
        → common_name d.found.unit d.found.occurrence.identifier ≡ Some (external_name d.name)
    known-so true e = e
    known-so false e = absurd (none-some (external_name d.name) e)

module _ (class : List FileToken) (new : List ℕ) (units : List UnitNames) (are_names : HaveNames units) (seen : List NamedToken)
    (tells : (token : PlainFileToken) (name : CommonName) → Contains seen (named token name) ↔ DeclaresName units token name) where
  of-class : (d : ExternalDeclaration units) → is_of_class class new (token_of d) ≡ is_listed class (file_token d.found.occurrence)
  of-class d = ap (λ b. b && is_listed class (file_token d.found.occurrence)) (are_names d.found)

  listed-is : (token : PlainFileToken) (name : List ℕ) (d : IsDeclaration units token name) → is_of_class class new (token_of d.declaration) ≡ is_listed class token
  listed-is token name d = of-class d.declaration ∙ ap (is_listed class) d.token_is

  told : (n : NamedToken) (name : List ℕ) → Contains seen n → n.name ≡ external_name name → IsDeclaration units n.token name
  told n name among is = declared units n.token name (subst (λ (x : CommonName). DeclaresName units n.token x) is ((tells n.token n.name).0 among))

  seen-so : (d : ExternalDeclaration units) → Contains seen (named (file_token d.found.occurrence) (external_name d.name))
  seen-so d = (tells (file_token d.found.occurrence) (external_name d.name)).1 (declares units d)

  renamed-is : Passing (is_renamed class) seen → (d : ExternalDeclaration units) × (is_of_class class new (token_of d) ≡ true)
  renamed-is p =
      let parts = and_parts (is_external p.entry.name) (is_listed class p.entry.token) p.passes in
      let name = external-is p.entry.name parts.0 in
      let d = told p.entry name.0 p.among name.1 in
      (d.declaration, listed-is p.entry.token name.0 d ∙ parts.1)

  is-renamed : (d : ExternalDeclaration units) → is_of_class class new (token_of d) ≡ true → IsTrue (list_any (is_renamed class) seen)
  is-renamed d inside = passed (is_renamed class) seen (named (file_token d.found.occurrence) (external_name d.name)) (seen-so d) (sym (of-class d) ∙ inside)

  taken-is : Passing (is_taken class new) seen → IsTaken (is_of_class class new) new units
  taken-is p =
      let parts = and_parts (is_external_name new p.entry.name) (not (is_listed class p.entry.token)) p.passes in
      let d = told p.entry new p.among (named-is new p.entry.name parts.0) in
      record { other = d.declaration; outside = listed-is p.entry.token new d ∙ isn't (is_listed class p.entry.token) parts.1; is_new = d.name_is }

  is-taken : IsTaken (is_of_class class new) new units → IsTrue (list_any (is_taken class new) seen)
  is-taken t =
      let token = file_token t.other.found.occurrence in
      passed (is_taken class new) seen (named token (external_name t.other.name)) (seen-so t.other)
      (and_from (bytes_eq t.other.name new) (not (is_listed class token)) ((bytes_eq-Decides t.other.name new).1 t.is_new) (ap not (sym (of-class t.other) ∙ t.outside)))

  pub links-told : (old : List ℕ) → LinksOtherwise class old new seen ↔ IsLinkedOtherwise (is_of_class class new) old new units
  links-told old = (
    λ h. let d = renamed-is (passing (is_renamed class) seen h.renamed) in record { renamed = d.0; inside = d.1; otherwise = there h.otherwise },
    λ h. record { renamed = is-renamed h.renamed h.inside; otherwise = back h.otherwise },
  )
    where
      there : IsTrue (list_any (is_taken class new) seen) ⊎ (built_in_named old ≡ built_in_named new → ⊥) → IsTaken (is_of_class class new) new units ⊎ (built_in_named old ≡ built_in_named new → ⊥)
      there (inl h) = inl (taken-is (passing (is_taken class new) seen h))
      there (inr h) = inr h

      back : IsTaken (is_of_class class new) new units ⊎ (built_in_named old ≡ built_in_named new → ⊥) → IsTrue (list_any (is_taken class new) seen) ⊎ (built_in_named old ≡ built_in_named new → ⊥)
      back (inl h) = inl (is-taken h)
      back (inr h) = inr h

pub names-tell : TiesAreSeen → LinksAreToldByNames
names-tell are_seen class old new all c units are_names tells =
    links-told class new units are_names (named_seen (has c) all.names)
    (λ token name. (
      λ h. (tells token name).0 ((are_seen.names_are all c token name).1 h),
      λ h. (are_seen.names_are all c token name).0 ((tells token name).1 h),
    )) old
