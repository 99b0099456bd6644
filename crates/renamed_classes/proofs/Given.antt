-- The identifier of an occurrence is a name that a unit of the product gives.
use Rattle.std.proofs.Common.{◌≡◌, ℕ, zero, suc, ◌+◌, Bool, true, false, List, [], ◌∷◌, map, Some, None, refl, ap, sym, ◌∙◌, subst, inl, inr, arith}
use Rattle.std.specs.Prelude.{◌&&◌, not, if◌then◌else◌}
use Rattle.std.specs.List.{AllZip, Contains, slice_get}
use Rattle.std.specs.Str.{bytes_eq}
use Rattle.std.proofs.lemmas.Bool.{and_parts, false≢true}
use Rattle.text_edits.specs.Files.{PlainFile}
use Rattle.cond_formula.specs.Features.{has}
use Rattle.c_text.specs.declared.token.TokenKind.{TokenKind}
use Rattle.c_text.specs.declared.token.TokenKind.TheVariants as token
use Rattle.c_text.specs.Token.{PlainToken}
use Rattle.c_tree.specs.declared.terminals.Terminal.TheVariants as t
use Rattle.c_tree.specs.Terminals.{terminal_of, same, Spelling, found, keywords, punctuators}
use Rattle.c_tree.specs.Trees.{PlainTree, spelled}
use Rattle.c_tree.specs.Units.{IsTreeOf}
use Rattle.core_meaning.specs.Checking.{Binding}
use Rattle.core_meaning.specs.Entities.{Struct}
use Rattle.bindings.specs.Bindings.{is_name}
use Rattle.bindings.specs.Judged.{Identified}
use Rattle.project_file.specs.Projects.{PlainProject}
use Rattle.project_program.specs.Programs.{present_units, UnitGives}
use Rattle.renamed_units.proofs.Tokens.{In, in-of}
use Rattle.program_occurrences.specs.Occurrences.{Identifier, identifiers_from, with_entities, UnitNames, judged_bindings, names_of_unit, structs_behind, judged_behind, names_behind, Occurrence, occurrence_among, occurrences_of, OccursIn}
use Rattle.reference_classes.specs.Products.{Product, names_in}

-- ---- the identifiers of a unit are names among its tokens

record IsNameIn (token : PlainToken) (tokens : List PlainToken) : Type 0 where
  among : In token tokens
  name : is_name token ≡ true

named-by : (number : ℕ) (first : PlainToken) (rest : List PlainToken) (i : Identifier) (b : Bool) → is_name first ≡ b → (In i (identifiers_from (number + 1) rest) → IsNameIn i.token rest) → In i (if b then record { number = number; token = first } ∷ identifiers_from (number + 1) rest else identifiers_from (number + 1) rest) → IsNameIn i.token (first ∷ rest)
named-by number first rest i true e later (inl is) =
    let same_token : i.token ≡ first = ap (λ (j : Identifier). j.token) is in
    record { among = inl same_token; name = subst (λ (x : PlainToken). is_name x ≡ true) (sym same_token) e }
named-by number first rest i true e later (inr more) = let l = later more in record { among = inr l.among; name = l.name }
named-by number first rest i false e later more = let l = later more in record { among = inr l.among; name = l.name }

identifier-in : (number : ℕ) (tokens : List PlainToken) (i : Identifier) → In i (identifiers_from number tokens) → IsNameIn i.token tokens
identifier-in number [] i among = absurd among
identifier-in number (first ∷ rest) i among = named-by number first rest i (is_name first) refl (identifier-in (number + 1) rest i) among

record IsIdentifier (i : Identified) (identifiers : List Identifier) : Type 0 where
  identifier : Identifier
  among : In identifier identifiers
  token_is : identifier.token ≡ i.token

entity-of : (identifiers : List Identifier) (bindings : List Binding) (i : Identified) → In i (with_entities identifiers bindings) → IsIdentifier i identifiers
entity-of [] bindings i among = absurd among
entity-of (first ∷ identifiers) [] i among = absurd among
entity-of (first ∷ identifiers) (b ∷ bindings) i (inl is) = record { identifier = first; among = inl refl; token_is = ap (λ (j : Identified). j.token) (sym is) }
entity-of (first ∷ identifiers) (b ∷ bindings) i (inr more) =
    let l = entity-of identifiers bindings i more in record { identifier = l.identifier; among = inr l.among; token_is = l.token_is }

record IsFrom {X Y : Type 0} (f : X → Y) (y : Y) (xs : List X) : Type 0 where
  source : X
  among : In source xs
  is : y ≡ f source

from-map : {X Y : Type 0} (f : X → Y) (y : Y) (xs : List X) → In y (map f xs) → IsFrom f y xs
from-map f y [] among = absurd among
from-map f y (x ∷ xs) (inl e) = record { source = x; among = inl refl; is = e }
from-map f y (x ∷ xs) (inr more) = let l = from-map f y xs more in record { source = l.source; among = inr l.among; is = l.is }

-- an occurrence's identifier is one of the names that the unit's tree spells
occurrence-in : (tree : PlainTree) (structs : List Struct) (o : Occurrence) → Contains (occurrences_of (names_of_unit tree (judged_behind structs tree))) o → IsNameIn o.identifier.token (spelled tree)
occurrence-in tree structs o c =
    let all : List Identified = with_entities (identifiers_from 0 (spelled tree)) (judged_bindings (judged_behind structs tree)) in
    let s = from-map (occurrence_among all) o all (in-of o (map (occurrence_among all) all) c) in
    let i = entity-of (identifiers_from 0 (spelled tree)) (judged_bindings (judged_behind structs tree)) s.source s.among in
    let there = identifier-in 0 (spelled tree) i.identifier i.among in
    let same_identifier : o.identifier ≡ s.source = ap (λ (x : Occurrence). x.identifier) s.is in
    subst (λ (x : PlainToken). IsNameIn x (spelled tree)) (ap (λ (j : Identified). j.token) (sym same_identifier)) (subst (λ (x : PlainToken). IsNameIn x (spelled tree)) i.token_is there)

-- ---- a name is of the kind of names

abbrev no-names : List Spelling → Bool
no-names [] = true
no-names (s ∷ spellings) = not (same t.Name s.terminal) && no-names spellings

spelt-no-name : (text : List ℕ) (spellings : List Spelling) → no-names spellings ≡ true → same t.Name (found text spellings) ≡ false
spelt-no-name text [] h = refl
spelt-no-name text (s ∷ spellings) h =
    let both = and_parts (not (same t.Name s.terminal)) (no-names spellings) h in
    by (bytes_eq text s.text) (same t.Name s.terminal) refl both.0 (spelt-no-name text spellings both.1)
  where
    by : (b c : Bool) → same t.Name s.terminal ≡ c → not c ≡ true → same t.Name (found text spellings) ≡ false → same t.Name (if b then s.terminal else found text spellings) ≡ false
    by true true e n later = absurd (false≢true n)
    by true false e n later = e
    by false c e n later = later

kind-of-name : (kind : TokenKind) (text : List ℕ) → same t.Name (terminal_of kind text) ≡ true → kind ≡ token.Name
kind-of-name token.Name text e = refl
kind-of-name token.Keyword text e = absurd (false≢true (sym (spelt-no-name text keywords refl) ∙ e))
kind-of-name token.Punctuator text e = absurd (false≢true (sym (spelt-no-name text punctuators refl) ∙ e))
kind-of-name token.Number text e = absurd (false≢true e)
kind-of-name token.Character text e = absurd (false≢true e)
kind-of-name token.Text text e = absurd (false≢true e)
kind-of-name (token.Bad kind) text e = absurd (false≢true e)

-- ---- units of a product

pub record IsGivenIn (project : PlainProject) (files : List PlainFile) (on : ℕ → Bool) (name : PlainToken) : Type 0 where
  pub unit : ℕ
  pub present : Contains (present_units project on) unit
  pub tokens : List PlainToken
  pub are_given : UnitGives project files on unit tokens
  pub among : In name tokens
  pub is_name : name.kind ≡ token.Name

module _ (project : PlainProject) (files : List PlainFile) (on : ℕ → Bool) where
  abbrev Among : List ℕ → Type 0
  Among places = (place : ℕ) → Contains places place → Contains (present_units project on) place

  given-from :
      (structs : List Struct) (places : List ℕ) (tokens : List (List PlainToken)) (trees : List PlainTree) → Among places → AllZip (UnitGives project files on) places tokens
      → AllZip IsTreeOf tokens trees → (k : ℕ) (unit : UnitNames) → slice_get (names_behind structs trees) k ≡ Some unit → (o : Occurrence) → Contains (occurrences_of unit) o
      → IsGivenIn project files on o.identifier.token
  given-from structs places tokens [] among given parsed k unit e o c = absurd (no-unit unit e)
    where
      no-unit : (u : UnitNames) → None ≡ Some u → ⊥
      no-unit u e = cc
  given-from structs places [] (tree ∷ trees) among given parsed k unit e o c = absurd parsed
  given-from structs [] (of_unit ∷ tokens) (tree ∷ trees) among given parsed k unit e o c = absurd given
  given-from structs (place ∷ places) (of_unit ∷ tokens) (tree ∷ trees) among given parsed zero unit e o c =
      let same_unit : names_of_unit tree (judged_behind structs tree) ≡ unit = some-same (names_of_unit tree (judged_behind structs tree)) unit e in
      let there = occurrence-in tree structs o (subst (λ (u : UnitNames). Contains (occurrences_of u) o) (sym same_unit) c) in
      record {
        unit = place;
        present = among place (0, omega arith, refl);
        tokens = of_unit;
        are_given = given.0;
        among = subst (λ (ts : List PlainToken). In o.identifier.token ts) parsed.0.spells.text there.among;
        is_name = kind-of-name o.identifier.token.kind o.identifier.token.text there.name;
      }
    where
      some-same : (u v : UnitNames) → Some u ≡ Some v → u ≡ v
      some-same u v e = cc
  given-from structs (place ∷ places) (of_unit ∷ tokens) (tree ∷ trees) among given parsed (suc k) unit e o c =
      given-from (structs_behind structs (judged_behind structs tree)) places tokens trees (λ other i. among other (suc i.0, omega (arith, i.1), i.2)) given.1 parsed.1 k unit e o c

pub is-given : {project : PlainProject} {files : List PlainFile} {c : List Bool} (product : Product project files c) (o : OccursIn (names_in product)) → IsGivenIn project files (has c) o.occurrence.identifier.token
is-given {project} {files} {c} product o =
    let are = product.is_program.are_trees in
    given-from project files (has c) [] (present_units project (has c)) are.tokens product.is_program.trees (λ place i. i) are.preprocessed are.parsed o.place o.unit o.is_unit o.occurrence o.among
