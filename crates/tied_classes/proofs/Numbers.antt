-- In the units of a program identifiers with one number are copies of one token.
use Rattle.std.proofs.Common.{◌≡◌, ℕ, zero, suc, ◌+◌, ◌≤◌, ◌==◌, Bool, true, false, List, [], ◌∷◌, map, Option, Some, None, inl, inr, refl, sym, ap, subst, ◌∙◌, eqb-true, eq-eqb, arith, slice_index_or}
use Rattle.std.specs.Prelude.{◌⊎◌, Contains, if◌then◌else◌, slice_get}
use Rattle.std.specs.List.{AllByRecursion}
use Rattle.std.proofs.lemmas.List.Elements.{All-from_recursion}
use Rattle.std.proofs.lemmas.Option.{slice_get_within, slice_get-get_or}
use Rattle.c_text.specs.Token.{PlainToken}
use Rattle.c_tree.specs.Trees.{PlainTree, spelled}
use Rattle.core_meaning.specs.Checking.{Binding, Checked}
use Rattle.core_meaning.specs.Entities.{Struct}
use Rattle.core_meaning.specs.UnitNames.{UnitState}
use Rattle.bindings.specs.Bindings.{is_name}
use Rattle.bindings.specs.Judged.{Identified}
use Rattle.program_occurrences.specs.Occurrences.{identifiers_from, with_entities, UnitNames, judged_bindings, names_of_unit, structs_behind, judged_behind, names_behind, names_of_units, Occurrence, occurrence_among, occurrences_of, OccursIn}
use Rattle.program_occurrences.specs.Laws.{DeclarationsAreOccurrences}

abbrev In : {X : Type 0} → X → List X → Type 0
In x [] = ⊥
In x (y ∷ ys) = (y ≡ x) ⊎ In x ys

in_at : {X : Type 0} (xs : List X) (x : X) → Contains xs x → In x xs
in_at [] x (k, below, e) = absurd (omega arith)
in_at (y ∷ xs) x (zero, below, e) = inl e
in_at (y ∷ xs) x (suc k, below, e) = inr (in_at xs x (k, omega arith, e))

in_source : {X Y : Type 0} (f : X → Y) (xs : List X) (y : Y) → In y (map f xs) → (x : X) × In x xs × (f x ≡ y)
in_source f [] y h = absurd h
in_source f (x ∷ xs) y (inl e) = (x, inl refl, e)
in_source f (x ∷ xs) y (inr h) = let s = in_source f xs y h in (s.0, inr s.1, s.2)

-- ---- the token with a number

-- the token with this number, where the first has that one
abbrev token_from : ℕ → List PlainToken → ℕ → Option PlainToken
token_from first [] number = None
token_from first (token ∷ rest) number = if first == number then Some token else token_from (first + 1) rest number

record IsNumbered (first : ℕ) (tokens : List PlainToken) (number : ℕ) (token : PlainToken) : Type 0 where
  low : first ≤ number
  at : token_from first tokens number ≡ Some token

later : (first number : ℕ) (t token : PlainToken) (rest : List PlainToken) → IsNumbered (first + 1) rest number token → IsNumbered first (t ∷ rest) number token
later first number t token rest h = record { low = let l = h.low in omega (arith, l); at = by (first == number) refl }
  where
    by : (b : Bool) → (first == number) ≡ b → (if b then Some t else token_from (first + 1) rest number) ≡ Some token
    by true e = let same = eqb-true first number e in let l = h.low in absurd (omega (arith, same, l))
    by false e = h.at

here : (first : ℕ) (t : PlainToken) (rest : List PlainToken) → IsNumbered first (t ∷ rest) first t
here first t rest = record { low = omega arith; at = by (first == first) (eq-eqb first first refl) }
  where
    by : (b : Bool) → b ≡ true → (if b then Some t else token_from (first + 1) rest first) ≡ Some t
    by true e = refl
    by false e = absurd cc

numbered :
    (first : ℕ) (tokens : List PlainToken) (bindings : List Binding) (i : Identified) → In i (with_entities (identifiers_from first tokens) bindings)
    → IsNumbered first tokens i.number i.token
numbered first [] bindings i h = absurd h
numbered first (t ∷ rest) bindings i h = by (is_name t) bindings (λ bs k. numbered (first + 1) rest bs i k) h
  where
    by : (b : Bool) (bs : List Binding)
        → ((bs : List Binding) → In i (with_entities (identifiers_from (first + 1) rest) bs) → IsNumbered (first + 1) rest i.number i.token)
        → In i (with_entities (if b then record { number = first; token = t } ∷ identifiers_from (first + 1) rest else identifiers_from (first + 1) rest) bs)
        → IsNumbered first (t ∷ rest) i.number i.token
    by true [] behind h = absurd h
    by true (x ∷ bs) behind (inl e) = subst (λ (j : Identified). IsNumbered first (t ∷ rest) j.number j.token) e (here first t rest)
    by true (x ∷ bs) behind (inr h) = later first i.number t i.token rest (behind bs h)
    by false bs behind h = later first i.number t i.token rest (behind bs h)

-- ---- the units of a program

-- identifiers of a unit with one number are copies of one token
abbrev pub NumbersTellTokens : UnitNames → Type 0
NumbersTellTokens unit = (i j : Identified) → In i unit.identified → In j unit.identified → i.number ≡ j.number → i.token ≡ j.token

unit_numbers_tell : (tree : PlainTree) (judged : Checked UnitState) → NumbersTellTokens (names_of_unit tree judged)
unit_numbers_tell tree judged i j first second same =
    let a = (numbered 0 (spelled tree) (judged_bindings judged) i first).at in
    let b = (numbered 0 (spelled tree) (judged_bindings judged) j second).at in
    let e : Some i.token ≡ Some j.token = sym a ∙ (ap (token_from 0 (spelled tree)) same ∙ b) in cc

all_tell : (structs : List Struct) (trees : List PlainTree) → AllByRecursion NumbersTellTokens (names_behind structs trees)
all_tell structs [] = tt
all_tell structs (tree ∷ rest) =
    (unit_numbers_tell tree (judged_behind structs tree), all_tell (structs_behind structs (judged_behind structs tree)) rest)

numbers_tell : (trees : List PlainTree) (place : ℕ) (unit : UnitNames) → slice_get (names_of_units trees) place ≡ Some unit → NumbersTellTokens unit
numbers_tell trees place unit is =
    let within = slice_get_within (names_of_units trees) place unit is in
    let got : Some (slice_index_or (names_of_units trees) place unit) ≡ Some unit = sym (slice_get-get_or (names_of_units trees) place unit within) ∙ is in
    let same : slice_index_or (names_of_units trees) place unit ≡ unit = cc in
    subst NumbersTellTokens same (All-from_recursion NumbersTellTokens (names_of_units trees) (all_tell [] trees) place unit within)

-- what declares an occurrence is one of the unit's identifiers
declared_in : DeclarationsAreOccurrences → (unit : UnitNames) (o : Occurrence) → Contains (occurrences_of unit) o → In o.declared_by unit.identified
declared_in declared unit o among =
    let d = declared unit o among in
    let s = in_source (occurrence_among unit.identified) unit.identified d.declaration (in_at (occurrences_of unit) d.declaration d.among) in
    subst (λ (i : Identified). In i unit.identified) (ap (λ (x : Occurrence). x.identifier) s.2 ∙ d.identifier) s.1

-- Occurrences of one unit that are declared by identifiers with one number are declared by copies of one token.
pub declared_by_one :
    DeclarationsAreOccurrences → (trees : List PlainTree) (o p : OccursIn (names_of_units trees)) → o.place ≡ p.place
    → o.occurrence.declared_by.number ≡ p.occurrence.declared_by.number → o.occurrence.declared_by.token ≡ p.occurrence.declared_by.token
declared_by_one declared trees o p place number =
    let units : Some o.unit ≡ Some p.unit = sym o.is_unit ∙ (ap (slice_get (names_of_units trees)) place ∙ p.is_unit) in
    let same : o.unit ≡ p.unit = cc in
    numbers_tell trees o.place o.unit o.is_unit o.occurrence.declared_by p.occurrence.declared_by (declared_in declared o.unit o.occurrence o.among)
    (subst (λ (u : UnitNames). In p.occurrence.declared_by u.identified) (sym same) (declared_in declared p.unit p.occurrence p.among)) number
