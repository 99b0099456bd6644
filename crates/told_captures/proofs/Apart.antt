-- Identifiers of a unit that is judged well are told apart by the numbers of its leaves, and a new name leaves their numbers.
use Rattle.std.proofs.Common.{◌≡◌, ℕ, ◌+◌, zero, suc, ◌≤◌, Bool, true, false, List, [], ◌∷◌, ◌++◌, map, refl, ap, sym, subst, ◌∙◌, IsTrue, arith}
use Rattle.std.specs.Prelude.{◌↔◌, Option, Some, slice_get, if◌then◌else◌}
use Rattle.std.proofs.lemmas.Option.{same_Some, none-some, slice_get_within, get_or_from_slice_get}
use Rattle.c_text.specs.declared.origin.FileToken.{FileToken}
use Rattle.c_text.specs.Token.{PlainToken}
use Rattle.c_tree.specs.Trees.{PlainTree, spelled}
use Rattle.choice_trees.specs.Leaves.{Leaf}
use Rattle.core_meaning.specs.Checking.{Binding, Checked, fine}
use Rattle.core_meaning.specs.Entities.{Struct}
use Rattle.core_meaning.specs.Linking.{no_numbers}
use Rattle.core_meaning.specs.UnitNames.{UnitState}
use Rattle.bindings.specs.Visible.{Occurrence as BoundIdentifier}
use Rattle.bindings.specs.Bindings.{is_name, bindings_of}
use Rattle.bindings.specs.Judged.{Identified, identified, AreAlike}
use Rattle.bindings.specs.Laws.{IsWritten, JudgementsBindAlike}
use Rattle.cond_scopes.specs.Progress.{number_or_none, numbers}
use Rattle.changed_forests.specs.Numbered.{number_of}
use Rattle.changed_forests.specs.Renamed.{renamed_tree}
use Rattle.entity_numbers.specs.Firsts.{AreInOrder}
use Rattle.program_occurrences.specs.Occurrences.{Identifier, identifiers_from, with_entities, names_of_unit, judged_behind}
use Rattle.program_occurrences.specs.Links.{bound_numbers}
use Rattle.program_occurrences.specs.Laws.{identifier_of, IdentifiersAreBound}
use Rattle.unit_numbers.proofs.Alike.{in_order}
use Rattle.told_occurrences.specs.Told.{number_in, pairs_of, HaveSame}
use Rattle.told_occurrences.specs.Laws.{PairsTellBindings}
use Rattle.told_occurrences.proofs.Pairs.{mapped, source_of}
use Rattle.linked_otherwise.proofs.Trees.{identifier-after, unit-identifiers-after}
use Rattle.told_captures.specs.Captures.{AreLeavesOf}
use Rattle.told_captures.specs.Laws.{PairsOfRenamedTellBindings}

-- ---- places of identifiers

from-there : (from : ℕ) (all : List Identified) → AreInOrder from all → (k : ℕ) (i : Identified) → slice_get all k ≡ Some i → from ≤ i.number
from-there from [] order k i e = absurd (none-some i e)
from-there from (first ∷ rest) order zero i e = subst (λ (j : Identified). from ≤ j.number) (same_Some first i e) order.0
from-there from (first ∷ rest) order (suc k) i e = let less : suc first.number ≤ i.number = from-there (suc first.number) rest order.1 k i e in let start : from ≤ first.number = order.0 in omega (arith, less, start)

one-place : (from : ℕ) (all : List Identified) → AreInOrder from all → (j k : ℕ) (a b : Identified) → slice_get all j ≡ Some a → slice_get all k ≡ Some b → a.number ≡ b.number → j ≡ k
one-place from [] order j k a b e f same = absurd (none-some a e)
one-place from (first ∷ rest) order zero zero a b e f same = refl
one-place from (first ∷ rest) order zero (suc k) a b e f same =
    let less : suc first.number ≤ b.number = from-there (suc first.number) rest order.1 k b f in
    let own : first.number ≡ a.number = ap (λ (i : Identified). i.number) (same_Some first a e) in
    let number : a.number ≡ b.number = same in
    absurd (omega (arith, less, own, number))
one-place from (first ∷ rest) order (suc j) zero a b e f same =
    let less : suc first.number ≤ a.number = from-there (suc first.number) rest order.1 j a e in
    let own : first.number ≡ b.number = ap (λ (i : Identified). i.number) (same_Some first b f) in
    let number : a.number ≡ b.number = same in
    absurd (omega (arith, less, own, number))
one-place from (first ∷ rest) order (suc j) (suc k) a b e f same = ap suc (one-place (suc first.number) rest order.1 j k a b e f same)

-- ---- what token an identifier is

abbrev without-entity : Identified → Identifier
without-entity i = record { number = i.number; token = i.token }

identifier-there : (is : List Identifier) (js : List Binding) (k : ℕ) (i : Identified) → slice_get (with_entities is js) k ≡ Some i → slice_get is k ≡ Some (without-entity i)
identifier-there [] js k i e = absurd (none-some i e)
identifier-there (x ∷ is) [] k i e = absurd (none-some i e)
identifier-there (x ∷ is) (j ∷ js) zero i e = ap {B = Option Identifier} (λ (y : Identified). Some (without-entity y)) (same_Some (record { number = x.number; token = x.token; entity = j.entity }) i e)
identifier-there (x ∷ is) (j ∷ js) (suc k) i e = identifier-there is js k i e

-- the number tells the place of a name among tokens, the first of which has this number
record IsNameAt (first : ℕ) (tokens : List PlainToken) (i : Identifier) : Type 0 where
  place : ℕ
  is : i.number ≡ first + place
  at : slice_get tokens place ≡ Some i.token
  name : IsTrue (is_name i.token)

behind-one : (first : ℕ) (token : PlainToken) (tokens : List PlainToken) (i : Identifier) → IsNameAt (first + 1) tokens i → IsNameAt first (token ∷ tokens) i
behind-one first token tokens i n =
    let there : (first + 1) + n.place ≡ first + suc n.place = omega arith in record { place = suc n.place; is = n.is ∙ there; at = n.at; name = n.name }

name-at : (first : ℕ) (tokens : List PlainToken) (k : ℕ) (i : Identifier) → slice_get (identifiers_from first tokens) k ≡ Some i → IsNameAt first tokens i
name-at first [] k i e = absurd (none-some i e)
name-at first (token ∷ tokens) k i e = by (is_name token) refl k e (λ j f. behind-one first token tokens i (name-at (first + 1) tokens j i f))
  where
    here : is_name token ≡ true → record { number = first; token = token } ≡ i → IsNameAt first (token ∷ tokens) i
    here name same =
        let start : first ≡ first + 0 = omega arith in
        record {
          place = 0;
          is = ap (λ (x : Identifier). x.number) (sym same) ∙ start;
          at = ap {B = Option PlainToken} (λ (x : Identifier). Some x.token) same;
          name = subst (λ (x : Identifier). IsTrue (is_name x.token)) same name;
        }

    by :
        (b : Bool) → is_name token ≡ b → (k : ℕ)
        → slice_get (if b then record { number = first; token = token } ∷ identifiers_from (first + 1) tokens else identifiers_from (first + 1) tokens) k ≡ Some i
        → ((j : ℕ) → slice_get (identifiers_from (first + 1) tokens) j ≡ Some i → IsNameAt first (token ∷ tokens) i) → IsNameAt first (token ∷ tokens) i
    by true name zero f later = here name (same_Some (record { number = first; token = token }) i f)
    by true name (suc j) f later = later j f
    by false name j f later = later j f

-- ---- leaves tell identifiers apart

module _ (leaves : List Leaf) (tree : PlainTree) (of : AreLeavesOf leaves tree) (js : List Binding) where
  abbrev all : List Identified
  all = with_entities (identifiers_from 0 (spelled tree)) js

  -- the leaf of an identifier, which tells its number in the stream
  record IsLeafOf (i : Identified) : Type 0 where
    leaf : Leaf
    there : slice_get leaves i.number ≡ Some leaf
    name : IsTrue (is_name leaf.text)
    tells : number_in (numbers leaves) i.number ≡ number_of leaf.text

  leaf-of : (k : ℕ) (i : Identified) → slice_get all k ≡ Some i → IsLeafOf i
  leaf-of k i e =
      let n = name-at 0 (spelled tree) k (without-entity i) (identifier-there (identifiers_from 0 (spelled tree)) js k i e) in
      let place : n.place ≡ i.number = let p : i.number ≡ 0 + n.place = n.is in omega (arith, p) in
      let s = source_of (λ (leaf : Leaf). leaf.text) leaves n.place i.token (ap (λ (l : List PlainToken). slice_get l n.place) of.are_spelled ∙ n.at) in
      let at : slice_get leaves i.number ≡ Some s.source = ap (slice_get leaves) (sym place) ∙ s.at in
      let name : IsTrue (is_name s.source.text) = subst (λ (token : PlainToken). IsTrue (is_name token)) (sym s.is) n.name in
      let within = slice_get_within leaves i.number s.source at in
      let own : s.source.number ≡ Some (number_of s.source.text) =
      subst (λ (leaf : Leaf). IsTrue (is_name leaf.text) → leaf.number ≡ Some (number_of leaf.text)) (get_or_from_slice_get leaves i.number s.source s.source at) (of.tell_numbers.told i.number s.source within) name in
      record {
        leaf = s.source;
        there = at;
        name = name;
        tells = get_or_from_slice_get (numbers leaves) i.number (number_or_none s.source.number) 0 (mapped (λ (leaf : Leaf). number_or_none leaf.number) leaves i.number s.source at) ∙ ap number_or_none own;
      }

  apart : (j k : ℕ) (a b : Identified) → slice_get all j ≡ Some a → slice_get all k ≡ Some b → number_in (numbers leaves) a.number ≡ number_in (numbers leaves) b.number → j ≡ k
  apart j k a b e f same =
      let x = leaf-of j a e in
      let y = leaf-of k b f in
      one-place 0 all (in_order (spelled tree) 0 js 0 (omega arith)) j k a b e f (of.tell_numbers.apart a.number b.number x.leaf y.leaf x.there y.there x.name y.name (sym x.tells ∙ same ∙ y.tells))

-- ---- numbers are kept

abbrev number : Identified → ℕ
number i = i.number

abbrev own-number : Identifier → ℕ
own-number i = i.number

bound-numbered : (before : List Identified) (os : List BoundIdentifier) (js : List Binding) → AreAlike before os js → map number (with_entities (map identifier_of os) js) ≡ map own-number (map identifier_of os)
bound-numbered before [] [] h = refl
bound-numbered before [] (j ∷ js) h = absurd h
bound-numbered before (o ∷ os) [] h = absurd h
bound-numbered before (o ∷ os) (j ∷ js) h = ap (λ (l : List ℕ). o.number ∷ l) (bound-numbered (before ++ identified o j ∷ []) os js h.1)

after-numbered : (class : List FileToken) (new : List ℕ) (is : List Identifier) → map own-number (map (identifier-after class new) is) ≡ map own-number is
after-numbered class new [] = refl
after-numbered class new (i ∷ is) = ap (λ (l : List ℕ). i.number ∷ l) (after-numbered class new is)

module _ (bound : IdentifiersAreBound) (alike : JudgementsBindAlike) where
  numbered : (tree : PlainTree) → IsWritten tree → (structs : List Struct) (state : UnitState) (js : List Binding) → judged_behind structs tree ≡ fine state js
      → map number (with_entities (identifiers_from 0 (spelled tree)) js) ≡ map own-number (identifiers_from 0 (spelled tree))
  numbered tree w structs state js e =
      subst (λ (is : List Identifier). map number (with_entities is js) ≡ map own-number is) (bound tree w.unit) (bound-numbered [] (bindings_of tree) js (alike tree w 0 structs (no_numbers 0) state js e))

pub pairs-of-renamed : IdentifiersAreBound → JudgementsBindAlike → PairsTellBindings → PairsOfRenamedTellBindings
pairs-of-renamed bound alike told class new leaves tree of w v structs others state after js ks e f =
    let other : PlainTree = renamed_tree class new tree in
    let same : map number (with_entities (identifiers_from 0 (spelled tree)) js) ≡ map number (with_entities (identifiers_from 0 (spelled other)) ks) =
    numbered bound alike tree w structs state js e ∙ sym (after-numbered class new (identifiers_from 0 (spelled tree))) ∙ ap (map own-number) (sym (unit-identifiers-after class new tree)) ∙ sym (numbered bound alike other v others after ks f) in
    subst (λ (c : Checked UnitState). HaveSame (pairs_of (numbers leaves) (names_of_unit tree c)) (pairs_of (numbers leaves) (names_of_unit other (judged_behind others other))) ↔ (bound_numbers (names_of_unit tree c) ≡ bound_numbers (names_of_unit other (judged_behind others other)))) (sym e)
    (subst (λ (c : Checked UnitState). HaveSame (pairs_of (numbers leaves) (names_of_unit tree (fine state js))) (pairs_of (numbers leaves) (names_of_unit other c)) ↔ (bound_numbers (names_of_unit tree (fine state js)) ≡ bound_numbers (names_of_unit other c))) (sym f)
    (told (numbers leaves) (names_of_unit tree (fine state js)) (names_of_unit other (fine after ks)) same (record { apart = apart leaves tree of js })))
