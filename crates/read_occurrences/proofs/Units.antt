-- A unit that is judged well: its rows, and so what is read of it.
use Rattle.std.proofs.Common.{◌≡◌, ℕ, suc, ◌≤◌, true, List, [], ◌∷◌, ◌++◌, map, length, inl, inr, refl, sym, ap, ap₂, subst, ◌∙◌, arith}
use Rattle.std.specs.Prelude.{◌⊎◌, Option, Some, None, slice_get, flat_map, Contains, All as Each}
use Rattle.std.specs.List.{AllZip, AllByRecursion}
use Rattle.std.proofs.lemmas.Bool.{eq-eqb}
use Rattle.std.proofs.lemmas.List.Elements.{recursion_from_All}
use Rattle.std.proofs.lemmas.Option.{same_Some, none-some}
use Rattle.c_text.specs.Token.{PlainToken}
use Rattle.c_tree.specs.declared.kinds.Kind.TheVariants as k
use Rattle.c_tree.specs.Trees.{PlainTree, leaf, node, spelled}
use Rattle.core_meaning.specs.Checking.{member_entity, Binding, fine}
use Rattle.core_meaning.specs.Entities.{Table, Struct}
use Rattle.core_meaning.specs.Linking.{no_numbers}
use Rattle.core_meaning.specs.UnitNames.{UnitState}
use Rattle.tree_derivations.specs.Derivations.{UnitsAreDerived}
use Rattle.bindings.specs.Visible.{NameSpace, members_of, look_up, Binding as Bound, bound_to, undeclared, member_use, Occurrence as BoundIdentifier}
use Rattle.bindings.specs.Bindings.{read_unit, bindings_of}
use Rattle.bindings.specs.Judged.{Identified, first_with}
use Rattle.bindings.specs.Laws.{IsWritten, JudgementsBindAlike}
use Rattle.bindings.proofs.Pieces.{holds_of}
use Rattle.bindings.proofs.FileObjects.{FileRel}
use Rattle.scope_readings.specs.Scopes.{Pairing}
use Rattle.scope_readings.specs.Laws.{pairing, pairings, ScopesAreRead}
use Rattle.choice_trees.specs.Leaves.{Leaf}
use Rattle.cond_scopes.specs.Progress.{numbers}
use Rattle.cond_pairings.specs.Pairs.{Pair, declared_pairs}
use Rattle.entity_numbers.specs.Laws.{UnitsNameParameters}
use Rattle.entity_numbers.specs.Firsts.{AreOf, AreInOrder}
use Rattle.entity_numbers.proofs.Uses.{All}
use Rattle.bound_slots.specs.Laws.{SizesBindNothing, SlotsAreOfFunctions}
use Rattle.bound_names.proofs.Steps.{HasName, looked-up}
use Rattle.bound_names.proofs.Readings.{unit-named}
use Rattle.program_occurrences.specs.Occurrences.{Identifier, UnitNames, names_of_unit, judged_behind, or_itself, Occurrence, occurrence_among, occurrences_of, declares_itself}
use Rattle.program_occurrences.specs.Laws.{identifier_of, DeclarationsAreOccurrences, IdentifiersAreBound, IsOccurrenceOf, OccurrencesAreBound}
use Rattle.program_occurrences.proofs.Entities.{first_is}
use Rattle.unit_numbers.specs.Laws.{UsesAreBoundBefore}
use Rattle.unit_numbers.proofs.Alike.{identified_of, in_order}
use Rattle.occurrence_names.specs.Laws.{KeepsName, OccurrencesKeepNames}
use Rattle.occurrence_names.proofs.Kept.{In, in-of, in-map, at}
use Rattle.occurrence_names.proofs.FileNames.{visible}
use Rattle.member_uses.specs.Uses.{Use, names_in, using, structure_used, uses_in}
use Rattle.member_pairs.specs.Members.{pairs_of_uses}
use Rattle.name_spaces.specs.Spaces.{spaces_of}
use Rattle.name_spaces.specs.Laws.{IsTold, SpacesTellNames, binds_itself, BindingsTellDeclarations}
use Rattle.name_spaces.proofs.Formed.{each_formed}
use Rattle.name_spaces.proofs.Embeddings.{Spaces, Fits, Embeds, embeds_each}
use Rattle.name_spaces.proofs.Uses.{Worded}
use Rattle.name_spaces.proofs.Units.{unit_embeds}
use Rattle.cond_name_spaces.specs.Spaced.{InSpace, names_among, spaced}
use Rattle.told_occurrences.specs.Leaves.{TellsNumber}
use Rattle.told_occurrences.specs.Told.{number_in, pair_of, pairs_of, names_of, HaveSame}
use Rattle.read_occurrences.specs.Read.{pairs_read, names_read}
use Rattle.read_occurrences.specs.Laws.{IsUnit, AreTags, names_in_spaces, PairsAreRead, NamesAreRead}
use Rattle.read_occurrences.proofs.Walked.{IsMember, own, Owns, token_names, unit_own}
use Rattle.read_occurrences.proofs.Members.{InMembers, IsOfMembers, unit_members}
use Rattle.read_occurrences.proofs.Growth.{HasMember, IsKnown}
use Rattle.read_occurrences.proofs.Structs.{Ends, unit_ends}
use Rattle.read_occurrences.proofs.Unused.{each_unused}
use Rattle.read_occurrences.proofs.Leaves.{IsLeafAt, names_placed, leaves_told, tokens_named, names_numbered}
use Rattle.read_occurrences.proofs.OneByOne.{Row, Facts, IsJudgedAs, IsFirst, Rows, rows_of, in_left, in_right, in_either, Source, in_source, in_origin, in_made, row_bound, row_first}
use Rattle.read_occurrences.proofs.Uses.{Known, spaced_with, spaced_of, use_with, use_of, pairs_sound, pairs_complete}
use Rattle.read_occurrences.proofs.Names.{pairs_of_binding, bindings_pair, IsPairOf, from_binding, name_of, names_sound, names_complete}

-- ---- lists

contains_of : {X : Type 0} (x : X) (xs : List X) → In x xs → Contains xs x
contains_of x [] i = absurd i
contains_of x (y ∷ xs) (inl e) = (0, omega arith, sym e)
contains_of x (y ∷ xs) (inr i) = let c = contains_of x xs i in (suc c.0, omega (arith, c.1), c.2)

zip_map : {X Y Z : Type 0} (P : Y → Z → Type 0) (f : X → Y) (xs : List X) (zs : List Z) → AllZip (λ x z. P (f x) z) xs zs → AllZip P (map f xs) zs
zip_map P f [] [] h = tt
zip_map P f [] (z ∷ zs) h = absurd h
zip_map P f (x ∷ xs) [] h = absurd h
zip_map P f (x ∷ xs) (z ∷ zs) h = (h.0, zip_map P f xs zs h.1)

zip_length : {X Y : Type 0} (P : X → Y → Type 0) (xs : List X) (ys : List Y) → AllZip P xs ys → length xs ≡ length ys
zip_length P [] [] h = refl
zip_length P [] (y ∷ ys) h = absurd h
zip_length P (x ∷ xs) [] h = absurd h
zip_length P (x ∷ xs) (y ∷ ys) h = ap suc (zip_length P xs ys h.1)

zip_at : {W X Y : Type 0} (P : X → Y → Type 0) (f : W → X) (g : W → Y) (ws : List W) (w : W) → AllZip P (map f ws) (map g ws) → In w ws → P (f w) (g w)
zip_at P f g [] w h i = absurd i
zip_at P f g (v ∷ ws) w h (inl e) = subst (λ x. P (f x) (g x)) (sym e) h.0
zip_at P f g (v ∷ ws) w h (inr i) = zip_at P f g ws w h.1 i

map_twice : {X Y Z : Type 0} (f : X → Y) (g : Y → Z) (xs : List X) → map g (map f xs) ≡ map (λ x. g (f x)) xs
map_twice f g [] = refl
map_twice f g (x ∷ xs) = ap (λ l. g (f x) ∷ l) (map_twice f g xs)

map_same : {X Y : Type 0} (f g : X → Y) (xs : List X) → ((x : X) → In x xs → f x ≡ g x) → map f xs ≡ map g xs
map_same f g [] h = refl
map_same f g (x ∷ xs) h = ap₂ (λ a l. a ∷ l) (h x (inl refl)) (map_same f g xs (λ y i. h y (inr i)))

-- ---- rows in the order of the text

low : (f : Row → Identified) (from : ℕ) (rows : List Row) (r : Row) → AreInOrder from (map f rows) → In r rows → from ≤ (f r).number
low f from [] r h i = absurd i
low f from (x ∷ rows) r h (inl e) = let less : from ≤ (f x).number = h.0 in subst (λ (y : Row). from ≤ (f y).number) (sym e) less
low f from (x ∷ rows) r h (inr i) = let less : from ≤ (f x).number = h.0 in let later : suc (f x).number ≤ (f r).number = low f (suc (f x).number) rows r h.1 i in omega (arith, less, later)

one_row : (f : Row → Identified) (from : ℕ) (rows : List Row) (r q : Row) → AreInOrder from (map f rows) → In r rows → In q rows → (f r).number ≡ (f q).number → r ≡ q
one_row f from [] r q h i j e = absurd i
one_row f from (x ∷ rows) r q h (inl a) (inl b) e = a ∙ sym b
one_row f from (x ∷ rows) r q h (inl a) (inr j) e =
    let later : suc (f x).number ≤ (f q).number = low f (suc (f x).number) rows q h.1 j in
    let here : (f r).number ≡ (f x).number = ap (λ (y : Row). (f y).number) a in
    absurd (omega (arith, later, here, e))
one_row f from (x ∷ rows) r q h (inr i) (inl b) e =
    let later : suc (f x).number ≤ (f r).number = low f (suc (f x).number) rows r h.1 i in
    let here : (f q).number ≡ (f x).number = ap (λ (y : Row). (f y).number) b in
    absurd (omega (arith, later, here, e))
one_row f from (x ∷ rows) r q h (inr i) (inr j) e = one_row f (suc (f x).number) rows r q h.1 i j e

-- ---- what rows give

spaced_rows : (rows : List Row) → spaced (map (λ (r : Row). r.leaf) rows) (map (λ (r : Row). r.space) rows) ≡ flat_map spaced_of rows
spaced_rows [] = refl
spaced_rows (r ∷ rows) = by r.space (spaced_rows rows)
  where
    by :
        (s : Option NameSpace) → spaced (map (λ (r : Row). r.leaf) rows) (map (λ (r : Row). r.space) rows) ≡ flat_map spaced_of rows
        → spaced (r.leaf ∷ map (λ (r : Row). r.leaf) rows) (s ∷ map (λ (r : Row). r.space) rows) ≡ spaced_with r s ++ flat_map spaced_of rows
    by None e = e
    by (Some space) e = ap (λ (l : List InSpace). record { name = r.leaf; space = space } ∷ l) e

using_rows : (by : ℕ → ℕ) (rows : List Row) → using (map (λ (r : Row). r.bound.token) rows) (map (λ (r : Row). structure_used by r.judged) rows) ≡ flat_map (use_of by) rows
using_rows by [] = refl
using_rows by (r ∷ rows) = told (structure_used by r.judged) (using_rows by rows)
  where
    told :
        (s : Option ℕ) → using (map (λ (r : Row). r.bound.token) rows) (map (λ (r : Row). structure_used by r.judged) rows) ≡ flat_map (use_of by) rows
        → using (r.bound.token ∷ map (λ (r : Row). r.bound.token) rows) (s ∷ map (λ (r : Row). structure_used by r.judged) rows) ≡ use_with r s ++ flat_map (use_of by) rows
    told None e = e
    told (Some structure) e = ap (λ (l : List Use). record { token = r.bound.token; structure = structure } ∷ l) e

record MemberRow (rows : List Row) (d : ℕ) : Type 0 where
  row : Row
  among : In row rows
  number : row.bound.number ≡ d
  member : IsMember row.space

member_row : (rows : List Row) (d : ℕ) → InMembers (map (λ (r : Row). r.bound) rows) (map (λ (r : Row). r.space) rows) d → MemberRow rows d
member_row [] d h = absurd h
member_row (r ∷ rows) d (inl h) = record { row = r; among = inl refl; number = h.0; member = h.1 }
member_row (r ∷ rows) d (inr h) = let x = member_row rows d h in record { row = x.row; among = inr x.among; number = x.number; member = x.member }

known_row : (structs : List Struct) (rows : List Row) (r : Row) → All (IsKnown structs) (map (λ (r : Row). r.judged) rows) → In r rows → IsKnown structs r.judged.entity
known_row structs [] r h i = absurd i
known_row structs (x ∷ rows) r h (inl e) = subst (λ (y : Row). IsKnown structs y.judged.entity) (sym e) h.0
known_row structs (x ∷ rows) r h (inr i) = known_row structs rows r h.1 i

firsts : (unit : UnitNames) (is : List Identified) → AllByRecursion (IsFirst unit) (map (occurrence_among unit.identified) is)
firsts unit [] = tt
firsts unit (i ∷ is) = (refl, firsts unit is)

abbrev tag_of : Option Struct → List ℕ
tag_of None = []
tag_of (Some struct) = struct.name

abbrev member_number : Option Struct → List ℕ → Option ℕ
member_number None name = None
member_number (Some struct) name = struct.numbers name

identifiers_among : (all is : List Identified) → map (λ (o : Occurrence). o.identifier) (map (occurrence_among all) is) ≡ is
identifiers_among all [] = refl
identifiers_among all (i ∷ is) = ap (λ (l : List Identified). i ∷ l) (identifiers_among all is)

-- the row of what declares an identifier
record Declared (rows : List Row) (r : Row) : Type 0 where
  row : Row
  among : In row rows
  declares : row.occurrence.identifier ≡ r.occurrence.declared_by
  itself : declares_itself row.occurrence ≡ true
  alike : row.judged.entity ≡ r.judged.entity

-- where an identifier is paired with itself, it is bound to itself
record OwnBinding (all : List ℕ) (number : ℕ) (b : BoundIdentifier) : Type 0 where
  by : ℕ
  bound : b.binding ≡ bound_to by
  own_number : number_in all b.number ≡ number
  by_number : number_in all by ≡ number

own_binding : (all : List ℕ) (number : ℕ) (b : BoundIdentifier) → In (own number) (pairing all b.number b.binding) → OwnBinding all number b
own_binding all number b i = inside b.binding refl i
  where
    inside : (x : Bound) → b.binding ≡ x → In (own number) (pairing all b.number x) → OwnBinding all number b
    inside (bound_to by) e (inl is) =
        let declared : ◌≡◌ {A = Option ℕ} (Some number) (Some (number_in all by)) = ap (λ (p : Pairing). p.declared_by) is in
        record { by = by; bound = e; own_number = sym (ap (λ (p : Pairing). p.number) is); by_number = sym (same_Some number (number_in all by) declared) }
    inside (bound_to by) e (inr i) = absurd i
    inside undeclared e (inl is) = absurd (none-some number (sym (ap (λ (p : Pairing). p.declared_by) is)))
    inside undeclared e (inr i) = absurd i
    inside (member_use which) e i = absurd i

module _
    (derived : UnitsAreDerived) (named : UnitsNameParameters) (counts : SizesBindNothing) (slots : SlotsAreOfFunctions) (alike : JudgementsBindAlike) (walked : ScopesAreRead) (found : IdentifiersAreBound)
    (bound : OccurrencesAreBound) (declarations : DeclarationsAreOccurrences) (used : UsesAreBoundBefore) (kept : OccurrencesKeepNames) (told : SpacesTellNames) (itself : BindingsTellDeclarations)
  where
    module _ (leaves : List Leaf) (structs : List Struct) (tree : PlainTree) (state : UnitState) (js : List Binding) (u : IsUnit leaves structs tree state js) where
      abbrev unit : UnitNames
      unit = names_of_unit tree (fine state js)

      abbrev all_numbers : List ℕ
      all_numbers = numbers leaves

      abbrev tags : Table ℕ
      tags = state.scope.tags

      zipped : AllZip (IsOccurrenceOf unit.identified) (bindings_of tree) (occurrences_of unit)
      zipped = subst (λ c. AllZip (IsOccurrenceOf (names_of_unit tree c).identified) (bindings_of tree) (occurrences_of (names_of_unit tree c))) u.judged (bound tree u.written structs state js u.judged)

      in_spaces : AllZip (IsTold unit) (occurrences_of unit) (spaces_of tree)
      in_spaces = subst (λ c. AllZip (IsTold (names_of_unit tree c)) (occurrences_of (names_of_unit tree c)) (spaces_of tree)) u.judged (told tree u.written structs state js u.judged)

      bind_themselves : AllZip (λ b o. binds_itself b ≡ declares_itself o) (bindings_of tree) (occurrences_of unit)
      bind_themselves = subst (λ c. AllZip (λ b o. binds_itself b ≡ declares_itself o) (bindings_of tree) (occurrences_of (names_of_unit tree c))) u.judged (itself tree u.written structs state js u.judged)

      of_bindings : AreOf unit.identified js
      of_bindings = identified_of alike found tree u.written 0 structs (no_numbers 0) state js u.judged

      ordered : AreInOrder 0 unit.identified
      ordered = in_order (spelled tree) 0 js 0 (omega arith)

      seen : FileRel state.scope (read_unit tree) unit.identified
      seen = subst (λ c. FileRel state.scope (read_unit tree) (names_of_unit tree c).identified) u.judged (visible derived found kept tree u.written structs state js u.judged)

      worded : Worded state.scope
      worded name n e = (seen.names name n e).word

      judged_as : AllZip IsJudgedAs (occurrences_of unit) js
      judged_as = zip_map IsJudgedAs (occurrence_among unit.identified) unit.identified js of_bindings

      embeds : (t : PlainTree) → IsWritten t → judged_behind structs t ≡ fine state js → Embeds tags (spaces_of t) js
      embeds (leaf token) w e = absurd (derived (leaf token) w.unit)
      embeds (node k.Unit parts) w e = unit_embeds counts 0 structs (no_numbers 0) parts (each_formed (derived (node k.Unit parts) w.unit) (holds_of (node k.Unit parts) [] w.pieces).0) state js e worded
      embeds (node kind parts) w e = absurd (derived (node kind parts) w.unit)

      spaces_fit : AllZip (Fits tags) (spaces_of tree) js
      spaces_fit =
          let first = zip_length (IsTold unit) (occurrences_of unit) (spaces_of tree) in_spaces in
          let second = zip_length IsJudgedAs (occurrences_of unit) js judged_as in
          embeds_each tags (spaces_of tree) js (embeds tree u.written u.judged) (omega (arith, first, second))

      kept_names : AllByRecursion KeepsName (occurrences_of unit)
      kept_names =
          recursion_from_All KeepsName (occurrences_of unit) (subst (λ c. Each KeepsName (occurrences_of (names_of_unit tree c))) u.judged (kept tree u.written structs state js u.judged))

      placed : AllZip (λ b l. IsLeafAt leaves (identifier_of b) l) (bindings_of tree) (names_among leaves)
      placed = names_placed leaves (spelled tree) (bindings_of tree) u.spells (found tree u.written.unit) (recursion_from_All TellsNumber leaves u.numbered.told)

      all_rows : Rows unit tags all_numbers (bindings_of tree) (occurrences_of unit) (spaces_of tree) js (names_among leaves)
      all_rows =
          rows_of unit tags all_numbers (bindings_of tree) (occurrences_of unit) (spaces_of tree) js (names_among leaves) zipped in_spaces bind_themselves judged_as spaces_fit
          (each_unused 0 [] unit.identified [] js unit.identified tt ordered refl tt of_bindings (used tree u.written 0 structs (no_numbers 0) state js u.judged)) kept_names
          (slots tree 0 structs (no_numbers 0) state js u.judged) (firsts unit unit.identified) (leaves_told leaves (bindings_of tree) (names_among leaves) placed)

      abbrev rows : List Row
      rows = all_rows.rows

      facts : (r : Row) → In r rows → Facts unit tags all_numbers r
      facts r i = at (Facts unit tags all_numbers) r rows all_rows.facts i

      -- ---- numbers tell rows apart

      rows_ordered : AreInOrder 0 (map (λ (r : Row). r.occurrence.identifier) rows)
      rows_ordered =
          subst (AreInOrder 0)
          (sym (sym (map_twice (λ (r : Row). r.occurrence) (λ (o : Occurrence). o.identifier) rows) ∙ ap (map (λ (o : Occurrence). o.identifier)) all_rows.occurrences ∙ identifiers_among unit.identified unit.identified)) ordered

      same_place : (r q : Row) → In r rows → In q rows → r.bound.number ≡ q.bound.number → r ≡ q
      same_place r q i j e = one_row (λ (r : Row). r.occurrence.identifier) 0 rows r q rows_ordered i j ((facts r i).is.number ∙ e ∙ sym (facts q j).is.number)

      at_leaf : (r : Row) → In r rows → IsLeafAt leaves (identifier_of r.bound) r.leaf
      at_leaf r i =
          zip_at (λ b l. IsLeafAt leaves (identifier_of b) l) (λ (r : Row). r.bound) (λ (r : Row). r.leaf) rows r
          (subst (λ l. AllZip (λ b l. IsLeafAt leaves (identifier_of b) l) (map (λ (r : Row). r.bound) rows) l) (sym all_rows.leaves)
          (subst (λ b. AllZip (λ b l. IsLeafAt leaves (identifier_of b) l) b (names_among leaves)) (sym all_rows.bounds) placed)) i

      one : (r q : Row) → In r rows → In q rows → number_in all_numbers r.bound.number ≡ number_in all_numbers q.bound.number → r ≡ q
      one r q i j e =
          let a = at_leaf r i in
          let b = at_leaf q j in
          same_place r q i j (u.numbered.apart r.bound.number q.bound.number r.leaf q.leaf a.place b.place a.name b.name ((facts r i).leaf.number ∙ e ∙ sym (facts q j).leaf.number))

      -- ---- what declares

      first_entity : (r : Row) → In r rows → r.occurrence.declared_by.entity ≡ r.occurrence.identifier.entity
      first_entity r i = ap (λ (x : Identified). x.entity) (facts r i).first ∙ by (first_with r.occurrence.identifier.entity unit.identified) refl
        where
          by : (x : Option Identified) → first_with r.occurrence.identifier.entity unit.identified ≡ x → (or_itself r.occurrence.identifier x).entity ≡ r.occurrence.identifier.entity
          by None e = refl
          by (Some d) e = (first_is r.occurrence.identifier.entity unit.identified d e).entity_is

      declared_row :
          (r q : Row) → In r rows → In q rows → (o : Occurrence) → o ≡ q.occurrence → o.identifier ≡ r.occurrence.declared_by → o.declared_by ≡ r.occurrence.declared_by → Declared rows r
      declared_row r q i j o same is by = record {
        row = q;
        among = j;
        declares = ap (λ (x : Occurrence). x.identifier) (sym same) ∙ is;
        itself = eq-eqb q.occurrence.identifier.number q.occurrence.declared_by.number
            (ap (λ (x : Occurrence). x.identifier.number) (sym same) ∙ ap (λ (x : Identified). x.number) (is ∙ sym by) ∙ ap (λ (x : Occurrence). x.declared_by.number) same);
        alike = sym (facts q j).entity ∙ ap (λ (x : Occurrence). x.identifier.entity) (sym same) ∙ ap (λ (x : Identified). x.entity) is ∙ first_entity r i ∙ (facts r i).entity;
      }

      declared_of : (r : Row) → In r rows → Declared rows r
      declared_of r i =
          let among : In r.occurrence (occurrences_of unit) = subst (In r.occurrence) all_rows.occurrences (in-map (λ (r : Row). r.occurrence) r rows i) in
          let d = declarations unit r.occurrence (contains_of r.occurrence (occurrences_of unit) among) in
          let s = in_source (λ (r : Row). r.occurrence) rows d.declaration (subst (In d.declaration) (sym all_rows.occurrences) (in-of d.declaration (occurrences_of unit) d.among)) in
          declared_row r s.source i s.among d.declaration s.same d.identifier d.itself

      -- ---- names of members declare themselves

      found_pairs : (t : PlainTree) → IsWritten t → AllZip (Owns (pairings all_numbers (bindings_of t))) (token_names (spelled t) all_numbers) (spaces_of t)
      found_pairs (leaf token) w = absurd (derived (leaf token) w.unit)
      found_pairs (node kind parts) w =
          subst (λ (l : List Pairing). AllZip (Owns l) (token_names (spelled (node kind parts)) all_numbers) (spaces_of (node kind parts))) (walked (node kind parts) w.unit all_numbers) (unit_own all_numbers kind parts)

      row_numbers : token_names (spelled tree) all_numbers ≡ map (λ (r : Row). number_in all_numbers r.bound.number) rows
      row_numbers =
          names_numbered all_numbers (spelled tree) 0
          ∙ ap (map (λ (i : Identifier). number_in all_numbers i.number)) (sym (found tree u.written.unit) ∙ ap (map identifier_of) (sym all_rows.bounds))
          ∙ ap (map (λ (i : Identifier). number_in all_numbers i.number)) (map_twice (λ (r : Row). r.bound) identifier_of rows)
          ∙ map_twice (λ (r : Row). identifier_of r.bound) (λ (i : Identifier). number_in all_numbers i.number) rows

      bound_to_itself :
          (r q : Row) → In r rows → In q rows → (b : BoundIdentifier) → b ≡ q.bound → OwnBinding all_numbers (number_in all_numbers r.bound.number) b → declares_itself r.occurrence ≡ true
      bound_to_itself r q i j b same x =
          let q_is : q ≡ r = one q r j i (ap (λ (y : BoundIdentifier). number_in all_numbers y.number) (sym same) ∙ x.own_number) in
          let by_is : x.by ≡ q.occurrence.declared_by.number = row_bound unit tags all_numbers q (facts q j) (bound_to x.by) (ap (λ (y : BoundIdentifier). y.binding) (sym same) ∙ x.bound) in
          by_declared (declared_of q j) (ap (number_in all_numbers) (sym by_is) ∙ x.by_number)
        where
          by_declared : (d : Declared rows q) → number_in all_numbers q.occurrence.declared_by.number ≡ number_in all_numbers r.bound.number → declares_itself r.occurrence ≡ true
          by_declared d e =
              let number : d.row.bound.number ≡ q.occurrence.declared_by.number = sym (facts d.row d.among).is.number ∙ ap (λ (y : Identified). y.number) d.declares in
              subst (λ (y : Row). declares_itself y.occurrence ≡ true) (one d.row r d.among i (ap (number_in all_numbers) number ∙ e)) d.itself

      own_row : (r : Row) → In r rows → IsMember r.space → declares_itself r.occurrence ≡ true
      own_row r i member =
          let n : ℕ = number_in all_numbers r.bound.number in
          let all : AllZip (Owns (pairings all_numbers (bindings_of tree))) (map (λ (r : Row). number_in all_numbers r.bound.number) rows) (map (λ (r : Row). r.space) rows) =
          subst (λ (s : Spaces). AllZip (Owns (pairings all_numbers (bindings_of tree))) (map (λ (r : Row). number_in all_numbers r.bound.number) rows) s) (sym all_rows.spaces)
          (subst (λ (l : List ℕ). AllZip (Owns (pairings all_numbers (bindings_of tree))) l (spaces_of tree)) row_numbers (found_pairs tree u.written)) in
          let there : In (own n) (pairings all_numbers (bindings_of tree)) =
          zip_at (Owns (pairings all_numbers (bindings_of tree))) (λ (r : Row). number_in all_numbers r.bound.number) (λ (r : Row). r.space) rows r all i member in
          let o = in_origin (λ (b : BoundIdentifier). pairing all_numbers b.number b.binding) (bindings_of tree) (own n) there in
          let s = in_source (λ (r : Row). r.bound) rows o.source (subst (In o.source) (sym all_rows.bounds) o.among) in
          bound_to_itself r s.source i s.among o.source s.same (own_binding all_numbers n o.source o.made)

      -- ---- members that are used

      members_found : (t : PlainTree) → IsWritten t → length (bindings_of t) ≡ length (spaces_of t) → AllByRecursion (λ b. IsOfMembers (bindings_of t) (spaces_of t) b.binding) (bindings_of t)
      members_found (leaf token) w e = absurd (derived (leaf token) w.unit)
      members_found (node k.Unit parts) w e = unit_members parts (each_formed (derived (node k.Unit parts) w.unit) (holds_of (node k.Unit parts) [] w.pieces).0) e
      members_found (node kind parts) w e = absurd (derived (node kind parts) w.unit)

      used_row :
          (r : Row) → In r rows → (which : List ℕ → Option ℕ) → r.bound.binding ≡ member_use which → (name : List ℕ) (d : ℕ) → which name ≡ Some d → (q : Row) → In q rows → q.bound.number ≡ d → IsMember q.space
      used_row r i which e name d f q j n =
          let first = zip_length (IsOccurrenceOf unit.identified) (bindings_of tree) (occurrences_of unit) zipped in
          let second = zip_length (IsTold unit) (occurrences_of unit) (spaces_of tree) in_spaces in
          let among : In r.bound (bindings_of tree) = subst (In r.bound) all_rows.bounds (in-map (λ (r : Row). r.bound) r rows i) in
          let h : IsOfMembers (bindings_of tree) (spaces_of tree) r.bound.binding =
          at (λ b. IsOfMembers (bindings_of tree) (spaces_of tree) b.binding) r.bound (bindings_of tree) (members_found tree u.written (omega (arith, first, second))) among in
          let g : IsOfMembers (bindings_of tree) (spaces_of tree) (member_use which) = subst (IsOfMembers (bindings_of tree) (spaces_of tree)) e h in
          let there : InMembers (map (λ (r : Row). r.bound) rows) (map (λ (r : Row). r.space) rows) d =
          subst (λ (s : Spaces). InMembers (map (λ (r : Row). r.bound) rows) s d) (sym all_rows.spaces) (subst (λ (b : List BoundIdentifier). InMembers b (spaces_of tree) d) (sym all_rows.bounds) (g name d f)) in
          let m = member_row rows d there in
          subst (λ (x : Row). IsMember x.space) (same_place m.row q m.among j (m.number ∙ sym n)) m.member

      -- ---- structs and their members

      ends_of : (t : PlainTree) → IsWritten t → judged_behind structs t ≡ fine state js → Ends (length structs) state js
      ends_of (leaf token) w e = absurd (derived (leaf token) w.unit)
      ends_of (node k.Unit parts) w e =
          unit_ends counts 0 structs (no_numbers 0) parts (each_formed (derived (node k.Unit parts) w.unit) (holds_of (node k.Unit parts) [] w.pieces).0) (named (node k.Unit parts) w.unit) state js e
      ends_of (node kind parts) w e = absurd (derived (node kind parts) w.unit)

      ends : Ends (length structs) state js
      ends = ends_of tree u.written u.judged

      has_member : (r : Row) → In r rows → (s m : ℕ) → r.judged.entity ≡ member_entity s m → HasMember state.scope.structs s m
      has_member r i s m e =
          subst (IsKnown state.scope.structs) e (known_row state.scope.structs rows r (subst (All (IsKnown state.scope.structs)) (sym all_rows.bindings) ends.known) i)

      abbrev members : ℕ → List ℕ → Option ℕ
      members s name = member_number (slice_get state.scope.structs s) name

      -- the identifier that first declares a member
      record FirstMember (name : List ℕ) (s m : ℕ) : Type 0 where
        by : Identified
        first : first_with (member_entity s m) unit.identified ≡ Some by
        text : List ℕ
        entry : look_up (members_of name) text (read_unit tree).file ≡ Some by.number
        number : members s text ≡ Some m

      first_member : (r : Row) → In r rows → (name : List ℕ) (s m : ℕ) → tags name ≡ Some s → r.judged.entity ≡ member_entity s m → FirstMember name s m
      first_member r i name s m e f =
          let t = seen.tagged name s e in
          let x = has_member r i s m f in
          let same : t.struct ≡ x.struct = same_Some t.struct x.struct (sym t.is ∙ x.is) in
          let number : x.struct.numbers x.member.name ≡ Some m = ends.good.numbered s x.struct m x.member (ends.good.named name s e).own x.is x.is_member in
          let g = t.members x.member.name m (ap (λ (y : Struct). y.numbers x.member.name) same ∙ number) in
          record { by = g.found.by; first = g.found.first; text = x.member.name; entry = g.found.entry; number = ap (λ (o : Option Struct). member_number o x.member.name) x.is ∙ number }

      member_told_by :
          (r q : Row) → In r rows → In q rows → (name : List ℕ) (s m : ℕ) → r.judged.entity ≡ member_entity s m → declares_itself r.occurrence ≡ true → (x : FirstMember name s m)
          → (h : HasName (bindings_of tree) x.text x.by.number) → h.identifier ≡ q.bound → members s r.bound.token.text ≡ Some m
      member_told_by r q i j name s m f itself_ x h same =
          let q_is : q ≡ r =
          same_place q r j i (ap (λ (b : BoundIdentifier). b.number) (sym same) ∙ h.number_is ∙ sym (row_first unit tags all_numbers r (facts r i) (member_entity s m) x.by f x.first itself_)) in
          let text : r.bound.token.text ≡ x.text = ap (λ (y : Row). y.bound.token.text) (sym q_is) ∙ ap (λ (b : BoundIdentifier). b.token.text) (sym same) ∙ h.name_is in
          ap (members s) text ∙ x.number

      member_told :
          (r : Row) → In r rows → (name : List ℕ) (s m : ℕ) → tags name ≡ Some s → r.judged.entity ≡ member_entity s m → declares_itself r.occurrence ≡ true → members s r.bound.token.text ≡ Some m
      member_told r i name s m e f itself_ = by (first_member r i name s m e f)
        where
          by : FirstMember name s m → members s r.bound.token.text ≡ Some m
          by x =
              let h = looked-up (bindings_of tree) (members_of name) x.text (read_unit tree).file x.by.number (unit-named tree).file x.entry in
              let o = in_source (λ (r : Row). r.bound) rows h.identifier (subst (In h.identifier) (sym all_rows.bounds) h.among) in
              member_told_by r o.source i o.among name s m f itself_ x h o.same

      known : (by : ℕ → ℕ) (tag : ℕ → List ℕ) → AreTags by tag state.scope.structs → Known unit tags all_numbers by tag members rows
      known by tag are = record {
        facts = facts;
        one = one;
        declaring = λ r i. (declared_of r i).row;
        declared = λ r i. (declared_of r i).among;
        declares = λ r i. (declared_of r i).declares;
        itself = λ r i. (declared_of r i).itself;
        alike = λ r i. (declared_of r i).alike;
        own = own_row;
        used = used_row;
        tagged = λ name s e. let n = ends.good.named name s e in are s n.struct n.is ∙ n.name;
        first = λ r i name s m e f. (first_member r i name s m e f).by;
        is_first = λ r i name s m e f. (first_member r i name s m e f).first;
        member = member_told;
      }

      -- ---- pairs

      abbrev pairs_of_rows : (ℕ → ℕ) → (ℕ → List ℕ) → List Pair
      pairs_of_rows by tag = flat_map (pairs_of_binding all_numbers) (map (λ (r : Row). r.bound) rows) ++ pairs_of_uses tag (flat_map spaced_of rows) (flat_map (use_of by) rows)

      names_are : names_in_spaces leaves tree ≡ flat_map spaced_of rows
      names_are = ap₂ (λ (l : List Leaf) (s : Spaces). spaced l s) (sym all_rows.leaves) (sym all_rows.spaces) ∙ spaced_rows rows

      tokens_are : names_in tree ≡ map (λ (r : Row). r.bound.token) rows
      tokens_are =
          tokens_named (spelled tree) 0
          ∙ ap (map (λ (i : Identifier). i.token)) (sym (found tree u.written.unit) ∙ ap (map identifier_of) (sym all_rows.bounds) ∙ map_twice (λ (r : Row). r.bound) identifier_of rows)
          ∙ map_twice (λ (r : Row). identifier_of r.bound) (λ (i : Identifier). i.token) rows

      uses_are : (by : ℕ → ℕ) → uses_in by tree (fine state js) ≡ flat_map (use_of by) rows
      uses_are by =
          ap₂ (λ (l : List PlainToken) (t : List (Option ℕ)). using l t) tokens_are
          (ap (map (structure_used by)) (sym all_rows.bindings) ∙ map_twice (λ (r : Row). r.judged) (structure_used by) rows)
          ∙ using_rows by rows

      pairs_are : (by : ℕ → ℕ) (tag : ℕ → List ℕ) → pairs_read all_numbers tree tag (names_in_spaces leaves tree) (uses_in by tree (fine state js)) ≡ pairs_of_rows by tag
      pairs_are by tag =
          ap₂ (λ (l m : List Pair). l ++ m) (bindings_pair all_numbers (bindings_of tree) ∙ ap (flat_map (pairs_of_binding all_numbers)) (sym all_rows.bounds))
          (ap₂ (λ (n : List InSpace) (v : List Use). pairs_of_uses tag n v) names_are (uses_are by))

      bound_pair : (r : Row) → In r rows → (b : BoundIdentifier) → b ≡ r.bound → (p : Pair) → IsPairOf all_numbers b p → p ≡ pair_of all_numbers r.occurrence
      bound_pair r i b same p x =
          let by_is : x.by ≡ r.occurrence.declared_by.number = row_bound unit tags all_numbers r (facts r i) (bound_to x.by) (ap (λ (y : BoundIdentifier). y.binding) (sym same) ∙ x.bound) in
          x.is
          ∙ ap₂ (λ (m n : ℕ). let q : Pair = record { identifier = number_in all_numbers m; declared_by = number_in all_numbers n } in q) (ap (λ (y : BoundIdentifier). y.number) same ∙ sym (facts r i).is.number) by_is

      module _ (by : ℕ → ℕ) (tag : ℕ → List ℕ) (are : AreTags by tag state.scope.structs) where
        sound : (p : Pair) → In p (pairs_of_rows by tag) → Source (λ (r : Row). pair_of all_numbers r.occurrence) rows p
        sound p i = either (in_either p (flat_map (pairs_of_binding all_numbers) (map (λ (r : Row). r.bound) rows)) (pairs_of_uses tag (flat_map spaced_of rows) (flat_map (use_of by) rows)) i)
          where
            either :
                In p (flat_map (pairs_of_binding all_numbers) (map (λ (r : Row). r.bound) rows)) ⊎ In p (pairs_of_uses tag (flat_map spaced_of rows) (flat_map (use_of by) rows))
                → Source (λ (r : Row). pair_of all_numbers r.occurrence) rows p
            either (inl a) =
                let o = in_origin (pairs_of_binding all_numbers) (map (λ (r : Row). r.bound) rows) p a in
                let s = in_source (λ (r : Row). r.bound) rows o.source o.among in
                record { source = s.source; among = s.among; same = bound_pair s.source s.among o.source s.same p (from_binding all_numbers o.source p o.made) }
            either (inr c) = pairs_sound unit tags all_numbers by tag members rows (known by tag are) p c

        complete : (r : Row) → In r rows → In (pair_of all_numbers r.occurrence) (pairs_of_rows by tag)
        complete r i = inside r.bound.binding refl
          where
            inside : (x : Bound) → r.bound.binding ≡ x → In (pair_of all_numbers r.occurrence) (pairs_of_rows by tag)
            inside (bound_to n) e =
                let n_is : n ≡ r.occurrence.declared_by.number = row_bound unit tags all_numbers r (facts r i) (bound_to n) e in
                let here : In (pair_of all_numbers r.occurrence) (pairs_of_binding all_numbers r.bound) =
                subst (λ (x : Bound). In (pair_of all_numbers r.occurrence) (declared_pairs (pairing all_numbers r.bound.number x))) (sym e)
                (inl (ap₂ (λ (m n : ℕ). let q : Pair = record { identifier = number_in all_numbers m; declared_by = number_in all_numbers n } in q) (facts r i).is.number (sym n_is))) in
                in_left (pair_of all_numbers r.occurrence) (flat_map (pairs_of_binding all_numbers) (map (λ (r : Row). r.bound) rows)) (pairs_of_uses tag (flat_map spaced_of rows) (flat_map (use_of by) rows))
                (in_made (pairs_of_binding all_numbers) (map (λ (r : Row). r.bound) rows) r.bound (pair_of all_numbers r.occurrence) (in-map (λ (r : Row). r.bound) r rows i) here)
            inside undeclared e = absurd (row_bound unit tags all_numbers r (facts r i) undeclared e)
            inside (member_use which) e =
                in_right (pair_of all_numbers r.occurrence) (flat_map (pairs_of_binding all_numbers) (map (λ (r : Row). r.bound) rows)) (pairs_of_uses tag (flat_map spaced_of rows) (flat_map (use_of by) rows))
                (pairs_complete unit tags all_numbers by tag members rows (known by tag are) r i which e)

      -- what is among the pairs of the unit
      from_unit : (p : Pair) → Contains (pairs_of all_numbers unit) p → Source (λ (r : Row). pair_of all_numbers r.occurrence) rows p
      from_unit p c =
          let i : In p (map (pair_of all_numbers) (map (λ (r : Row). r.occurrence) rows)) = subst (λ (os : List Occurrence). In p (map (pair_of all_numbers) os)) (sym all_rows.occurrences) (in-of p (pairs_of all_numbers unit) c) in
          in_source (λ (r : Row). pair_of all_numbers r.occurrence) rows p (subst (In p) (map_twice (λ (r : Row). r.occurrence) (pair_of all_numbers) rows) i)

      to_unit : (r : Row) → In r rows → Contains (pairs_of all_numbers unit) (pair_of all_numbers r.occurrence)
      to_unit r i =
          contains_of (pair_of all_numbers r.occurrence) (pairs_of all_numbers unit)
          (in-map (pair_of all_numbers) r.occurrence (occurrences_of unit) (subst (In r.occurrence) all_rows.occurrences (in-map (λ (r : Row). r.occurrence) r rows i)))

      pairs_same : (by : ℕ → ℕ) (tag : ℕ → List ℕ) → AreTags by tag state.scope.structs → HaveSame (pairs_read all_numbers tree tag (names_in_spaces leaves tree) (uses_in by tree (fine state js))) (pairs_of all_numbers unit)
      pairs_same by tag are =
          subst (λ (l : List Pair). HaveSame l (pairs_of all_numbers unit)) (sym (pairs_are by tag))
          (λ p. (
            (λ c. let s = sound by tag are p (in-of p (pairs_of_rows by tag) c) in subst (Contains (pairs_of all_numbers unit)) (sym s.same) (to_unit s.source s.among)),
            (λ c. let s = from_unit p c in subst (Contains (pairs_of_rows by tag)) (sym s.same) (contains_of (pair_of all_numbers s.source.occurrence) (pairs_of_rows by tag) (complete by tag are s.source s.among))),
          ))

      -- ---- names

      abbrev names_by_number : ℕ → List ℕ
      names_by_number n = tag_of (slice_get state.scope.structs n)

      own_tags : AreTags (λ n. n) names_by_number state.scope.structs
      own_tags n s e = ap tag_of e

      names_same :
          (pairs : List Pair) → HaveSame pairs (pairs_of all_numbers unit) → HaveSame (names_read unit pairs (names_in_spaces leaves tree)) (names_of all_numbers unit)
      names_same pairs same =
          let k = known (λ n. n) names_by_number own_tags in
          let good : (p : Pair) → In p pairs → Source (λ (r : Row). pair_of all_numbers r.occurrence) rows p = λ p i. from_unit p ((same p).0 (contains_of p pairs i)) in
          let all : (r : Row) → In r rows → In (pair_of all_numbers r.occurrence) pairs = λ r i. in-of (pair_of all_numbers r.occurrence) pairs ((same (pair_of all_numbers r.occurrence)).1 (to_unit r i)) in
          subst (λ (l : List InSpace). HaveSame (names_read unit pairs l) (names_of all_numbers unit)) (sym names_are)
          (subst (λ (os : List Occurrence). HaveSame (names_read unit pairs (flat_map spaced_of rows)) (flat_map (name_of all_numbers unit) os)) all_rows.occurrences
          (λ x. (
            (λ c. contains_of x (flat_map (name_of all_numbers unit) (map (λ (r : Row). r.occurrence) rows))
                (names_sound unit tags all_numbers (λ n. n) names_by_number members rows k pairs good all x (in-of x (names_read unit pairs (flat_map spaced_of rows)) c))),
            (λ c. contains_of x (names_read unit pairs (flat_map spaced_of rows))
                (names_complete unit tags all_numbers (λ n. n) names_by_number members rows k pairs good all x (in-of x (flat_map (name_of all_numbers unit) (map (λ (r : Row). r.occurrence) rows)) c))),
          )))

    pub pairs_read_so : PairsAreRead
    pairs_read_so leaves structs tree state js u by tag are =
        subst (λ c. HaveSame (pairs_read (numbers leaves) tree tag (names_in_spaces leaves tree) (uses_in by tree c)) (pairs_of (numbers leaves) (names_of_unit tree c))) (sym u.judged)
        (pairs_same leaves structs tree state js u by tag are)

    pub names_read_so : NamesAreRead
    names_read_so leaves structs tree state js u pairs =
        subst
        (λ c. HaveSame pairs (pairs_of (numbers leaves) (names_of_unit tree c))
        → HaveSame (names_read (names_of_unit tree c) pairs (names_in_spaces leaves tree)) (names_of (numbers leaves) (names_of_unit tree c))) (sym u.judged)
        (names_same leaves structs tree state js u pairs)
