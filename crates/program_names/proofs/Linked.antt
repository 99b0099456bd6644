-- Names at one place are linked alike, where declarations are linked to the ones that they were linked to and `main` is written where it was.
use Rattle.std.proofs.Common.{◌≡◌, ℕ, ◌+◌, zero, suc, Bool, true, false, List, [], ◌∷◌, map, refl, ap, sym, subst, ◌∙◌, inl, inr, arith}
use Rattle.std.specs.Prelude.{Option, Some, None, is_some, slice_get, codes, ◌||◌, if◌then◌else◌}
use Rattle.std.specs.List.{AllByRecursion, AllZip}
use Rattle.std.specs.Str.{bytes_eq}
use Rattle.std.specs.Cmp.Lexicographic.{bytes_decides}
use Rattle.std.proofs.lemmas.Bool.{false≢true}
use Rattle.std.proofs.lemmas.Option.{same_Some, none-some}
use Rattle.std.proofs.lemmas.List.Elements.{recursion_from_All}
use Rattle.c_tree.specs.Trees.{PlainTree}
use Rattle.core_meaning.specs.declared.program.BuiltIn.{BuiltIn}
use Rattle.core_meaning.specs.declared.program.BuiltIn.TheVariants.{Putchar, Getchar, Puts, Exit}
use Rattle.core_meaning.specs.Checking.{Entity, file_entity, Binding, fine}
use Rattle.core_meaning.specs.Entities.{Struct, Numbers}
use Rattle.core_meaning.specs.Linking.{Unit, Units, judged_units, judged_program, is_internal, built_in_named}
use Rattle.bindings.specs.Judged.{Identified}
use Rattle.bindings.specs.Laws.{AreWritten, BoundNamesAreVisible}
use Rattle.renamed_programs.specs.Laws.{is_fixed, AreLinkedAlike}
use Rattle.entity_numbers.specs.Firsts.{AreInOrder, first_number}
use Rattle.core_numbers.specs.Laws.{BindingsNeedNoNumbers}
use Rattle.program_occurrences.specs.Occurrences.{UnitNames, names_of_unit, structs_behind, judged_behind, names_behind, names_of_units, Occurrence, occurrence_among, occurrences_of}
use Rattle.program_occurrences.specs.Links.{LinkedDeclaration, linked_declarations, first_named, Link, link_to, or_first, bound_numbers, AreBoundAlike}
use Rattle.program_occurrences.specs.Laws.{AreJudged, no_more, one_more, UnitsOfProgramsAreJudged}
use Rattle.occurrence_names.specs.Laws.{IsTextOf, FileNamesAreWritten}
use Rattle.occurrence_names.proofs.Kept.{In}
use Rattle.unit_numbers.proofs.Alike.{firsts_alike}
use Rattle.program_names.specs.Names.{are_names, stand_at_one_place, names_at_places, is_main, HaveMainAlike}
use Rattle.program_names.specs.Laws.{NamesAreLinkedAlike}
use Rattle.program_names.proofs.OneToOne.{one_number, first_of, first_is, Standing, names_are, standing, same_file, same_name, AreOrdered, all_ordered}
use Rattle.program_names.proofs.External.{external_at}
use Rattle.program_names.proofs.Declared.{first_named_in, declared_in, declares_it}

-- ---- names that are written as they are

abbrev IsWrittenSo : Identified → Type 0
IsWrittenSo i = IsTextOf i.entity i.token.text

abbrev AreWrittenSo : List UnitNames → Type 0
AreWrittenSo units = AllByRecursion (λ (u : UnitNames). AllByRecursion IsWrittenSo u.identified) units

identified_so : (all is : List Identified) → AllByRecursion (λ (o : Occurrence). IsTextOf o.identifier.entity o.identifier.token.text) (map (occurrence_among all) is) → AllByRecursion IsWrittenSo is
identified_so all [] h = tt
identified_so all (i ∷ is) h = (h.0, identified_so all is h.1)

written_so : FileNamesAreWritten → (structs : List Struct) (trees : List PlainTree) → AreWritten trees → AreJudged structs trees → AreWrittenSo (names_behind structs trees)
written_so write structs [] w no_more = tt
written_so write structs (tree ∷ rest) w (one_more state js e further) = (
  identified_so (names_of_unit tree (judged_behind structs tree)).identified (names_of_unit tree (judged_behind structs tree)).identified
      (recursion_from_All (λ (o : Occurrence). IsTextOf o.identifier.entity o.identifier.token.text) (occurrences_of (names_of_unit tree (judged_behind structs tree))) (write tree w.0 structs state js e)),
  subst (λ (s : List Struct). AreWrittenSo (names_behind s rest)) (sym (ap (structs_behind structs) e)) (written_so write state.scope.structs rest w.1 further),
)

-- ---- a place

text_is : (e : Entity) (a text : List ℕ) → e ≡ file_entity a → IsTextOf e text → text ≡ a
text_is e a text is h = subst (λ (x : Entity). IsTextOf x text) is h

main_at : (a b : List ℕ) (xs ys : List Identified) → AllZip (λ i j. is_main i ≡ is_main j) xs ys → AllByRecursion IsWrittenSo xs → AllByRecursion IsWrittenSo ys → stand_at_one_place a b xs ys ≡ true
    → bytes_eq a (codes "main") ≡ bytes_eq b (codes "main")
main_at a b [] ys mains v w e = absurd (false≢true e)
main_at a b (i ∷ xs) [] mains v w e = absurd (false≢true e)
main_at a b (i ∷ xs) (j ∷ ys) mains v w e = by (are_names a b i.entity j.entity) refl (main_at a b xs ys mains.1 v.1 w.1) e
  where
    by :
        (p : Bool) → are_names a b i.entity j.entity ≡ p → (stand_at_one_place a b xs ys ≡ true → bytes_eq a (codes "main") ≡ bytes_eq b (codes "main"))
        → (p || stand_at_one_place a b xs ys) ≡ true → bytes_eq a (codes "main") ≡ bytes_eq b (codes "main")
    by true n later e =
        let these = names_are a b i.entity j.entity n in
        ap (λ (t : List ℕ). bytes_eq t (codes "main")) (sym (text_is i.entity a i.token.text these.0 v.0)) ∙ mains.0 ∙ ap (λ (t : List ℕ). bytes_eq t (codes "main")) (text_is j.entity b j.token.text these.1 w.0)
    by false n later e = later e

-- two units at one place, in which these names stand at one place
record AtPlace (units others : List UnitNames) (i : ℕ) (a b : List ℕ) : Type 0 where
  unit : UnitNames
  other : UnitNames
  at : slice_get units i ≡ Some unit
  at_other : slice_get others i ≡ Some other
  order : AreInOrder 0 unit.identified
  order_other : AreInOrder 0 other.identified
  standing : Standing unit.identified other.identified a b
  mains : bytes_eq a (codes "main") ≡ bytes_eq b (codes "main")

at_place :
    (units others : List UnitNames) → map bound_numbers units ≡ map bound_numbers others → AreOrdered units → AreOrdered others → HaveMainAlike units others → AreWrittenSo units → AreWrittenSo others
    → (i : ℕ) (a b : List ℕ) → names_at_places units others i a b ≡ true → AtPlace units others i a b
at_place [] others numbers o p mains v w i a b e = absurd (false≢true e)
at_place (unit ∷ units) [] numbers o p mains v w i a b e = absurd (false≢true e)
at_place (unit ∷ units) (other ∷ others) numbers o p mains v w zero a b e =
    let head : bound_numbers unit ≡ bound_numbers other = cc in
    let xs : List Identified = unit.identified in
    let ys : List Identified = other.identified in
    record {
      unit = unit;
      other = other;
      at = refl;
      at_other = refl;
      order = o.0;
      order_other = p.0;
      standing = standing a b xs ys xs ys (λ k m. m) (λ k m. m) (firsts_alike xs ys xs ys head) e;
      mains = main_at a b xs ys mains.0 v.0 w.0 e;
    }
at_place (unit ∷ units) (other ∷ others) numbers o p mains v w (suc i) a b e =
    let tail : map bound_numbers units ≡ map bound_numbers others = cc in
    let there = at_place units others tail o.1 p.1 mains.1 v.1 w.1 i a b e in
    record {
      unit = there.unit;
      other = there.other;
      at = there.at;
      at_other = there.at_other;
      order = there.order;
      order_other = there.order_other;
      standing = there.standing;
      mains = there.mains;
    }

-- ---- declarations that are linked alike

record Matched {A B C : Type 0} (f : A → C) (g : B → C) (x : A) (ys : List B) : Type 0 where
  other : B
  among : In other ys
  same : f x ≡ g other

matched : {A B C : Type 0} (f : A → C) (g : B → C) (xs : List A) (ys : List B) → map f xs ≡ map g ys → (x : A) → In x xs → Matched f g x ys
matched f g [] ys e x among = absurd among
matched f g (y ∷ xs) [] e x among = absurd cc
matched {A} {B} {C} f g (y ∷ xs) (z ∷ ys) e x (inl is) =
    let head : f y ≡ g z = cc in record { other = z; among = inl refl; same = ap f is ∙ head }
matched {A} {B} {C} f g (y ∷ xs) (z ∷ ys) e x (inr among) =
    let tail : map f xs ≡ map g ys = cc in
    let m = matched f g xs ys tail x among in
    record { other = m.other; among = inr m.among; same = m.same }

abbrev link_in : List UnitNames → LinkedDeclaration → Link
link_in units d = link_to d (or_first d (first_named d.name (linked_declarations 0 units)))

-- a declaration of the one name, and the one of the other that is linked alike
record LinkedPair (units others : List UnitNames) (a b : List ℕ) : Type 0 where
  before : LinkedDeclaration
  after : LinkedDeclaration
  among : In before (linked_declarations 0 units)
  among_after : In after (linked_declarations 0 others)
  name : before.name ≡ a
  name_after : after.name ≡ b
  same : link_in units before ≡ link_in others after

swapped : (units others : List UnitNames) (a b : List ℕ) → LinkedPair units others a b → LinkedPair others units b a
swapped units others a b p = record { before = p.after; after = p.before; among = p.among_after; among_after = p.among; name = p.name_after; name_after = p.name; same = sym p.same }

ordered_at : (units : List UnitNames) → AreOrdered units → (i : ℕ) (unit : UnitNames) → slice_get units i ≡ Some unit → AreInOrder 0 unit.identified
ordered_at [] o i unit at = absurd (none-some unit at)
ordered_at (own ∷ units) o zero unit at = subst (λ (u : UnitNames). AreInOrder 0 u.identified) (same_Some own unit at) o.0
ordered_at (own ∷ units) o (suc i) unit at = ordered_at units o.1 i unit at

same_at : (units : List UnitNames) (i j : ℕ) (x y : UnitNames) → i ≡ j → slice_get units i ≡ Some x → slice_get units j ≡ Some y → x ≡ y
same_at units i j x y e f g = same_Some x y (sym f ∙ ap (slice_get units) e ∙ g)

-- what declares two names has two numbers
one_name : (units : List UnitNames) → AreOrdered units → (d e : LinkedDeclaration) → In d (linked_declarations 0 units) → In e (linked_declarations 0 units) → d.unit ≡ e.unit → d.number ≡ e.number → d.name ≡ e.name
one_name units o d e among further one_unit one =
    let x = declares_it 0 units d among in
    let y = declares_it 0 units e further in
    let place : x.offset ≡ y.offset = let p = x.is in let q = y.is in omega (arith, p, q, one_unit) in
    let unit : x.unit ≡ y.unit = same_at units x.offset y.offset x.unit y.unit place x.at y.at in
    let among_y : In x.identifier y.unit.identified = subst (λ (u : UnitNames). In x.identifier u.identified) unit x.among in
    let is : x.identifier ≡ y.identifier = one_number 0 x.identifier y.identifier y.unit.identified (ordered_at units o y.offset y.unit y.at) among_y y.among (x.number ∙ one ∙ sym y.number) in
    same_name d.name e.name (sym x.stands ∙ ap (λ (i : Identified). i.entity) is ∙ y.stands)

-- what was linked is linked
same_after : (units others : List UnitNames) → AreOrdered others → (a b c d : List ℕ) → LinkedPair units others a b → LinkedPair units others c d → a ≡ c → b ≡ d
same_after units others o a b c d p q e =
    let all : List LinkedDeclaration = linked_declarations 0 units in
    let all_after : List LinkedDeclaration = linked_declarations 0 others in
    let f = first_named_in p.before all p.among in
    let g = first_named_in q.before all q.among in
    let x = first_named_in p.after all_after p.among_after in
    let y = first_named_in q.after all_after q.among_after in
    let one : f.first ≡ g.first = same_Some f.first g.first (sym f.found ∙ ap (λ (n : List ℕ). first_named n all) (p.name ∙ e ∙ sym q.name) ∙ g.found) in
    let left : link_to p.before f.first ≡ link_to p.after x.first =
    sym (ap (λ (w : Option LinkedDeclaration). link_to p.before (or_first p.before w)) f.found) ∙ p.same ∙ ap (λ (w : Option LinkedDeclaration). link_to p.after (or_first p.after w)) x.found in
    let right : link_to q.before g.first ≡ link_to q.after y.first =
    sym (ap (λ (w : Option LinkedDeclaration). link_to q.before (or_first q.before w)) g.found) ∙ q.same ∙ ap (λ (w : Option LinkedDeclaration). link_to q.after (or_first q.after w)) y.found in
    let one_unit : x.first.unit ≡ y.first.unit = sym (ap (λ (l : Link). l.first_unit) left) ∙ ap (λ (w : LinkedDeclaration). w.unit) one ∙ ap (λ (l : Link). l.first_unit) right in
    let number : x.first.number ≡ y.first.number = sym (ap (λ (l : Link). l.first_number) left) ∙ ap (λ (w : LinkedDeclaration). w.number) one ∙ ap (λ (l : Link). l.first_number) right in
    sym p.name_after ∙ sym x.named ∙ one_name others o x.first y.first x.among y.among one_unit number ∙ y.named ∙ q.name_after

-- ---- built-in functions

abbrev built_in_name : BuiltIn → List ℕ
built_in_name Putchar = codes "putchar"
built_in_name Getchar = codes "getchar"
built_in_name Puts = codes "puts"
built_in_name Exit = codes "exit"

named_by : (a : List ℕ) (x y : BuiltIn) → a ≡ built_in_name x → Some x ≡ Some y → a ≡ built_in_name y
named_by a x y e is = e ∙ ap built_in_name (same_Some x y is)

-- what is a built-in function has its name
built_in_is : (a : List ℕ) (x : BuiltIn) → built_in_named a ≡ Some x → a ≡ built_in_name x
built_in_is a x e = by (bytes_eq a (codes "putchar")) (bytes_eq a (codes "getchar")) (bytes_eq a (codes "puts")) (bytes_eq a (codes "exit")) refl refl refl refl e
  where
    is : (name : List ℕ) → bytes_eq a name ≡ true → a ≡ name
    is name h = (bytes_decides a name).0 h

    by :
        (p q r s : Bool) → bytes_eq a (codes "putchar") ≡ p → bytes_eq a (codes "getchar") ≡ q → bytes_eq a (codes "puts") ≡ r → bytes_eq a (codes "exit") ≡ s
        → (if p then Some Putchar else if q then Some Getchar else if r then Some Puts else if s then Some Exit else None) ≡ Some x → a ≡ built_in_name x
    by true q r s f g h k e = named_by a Putchar x (is (codes "putchar") f) e
    by false true r s f g h k e = named_by a Getchar x (is (codes "getchar") g) e
    by false false true s f g h k e = named_by a Puts x (is (codes "puts") h) e
    by false false false true f g h k e = named_by a Exit x (is (codes "exit") k) e
    by false false false false f g h k e = absurd (none-some x e)

some_value : {A : Type 0} (o : Option A) → is_some o ≡ true → (x : A) × (o ≡ Some x)
some_value None e = absurd (false≢true e)
some_value (Some x) e = (x, refl)

one_built_in : (a b : List ℕ) → built_in_named a ≡ built_in_named b → is_some (built_in_named a) ≡ true → a ≡ b
one_built_in a b same_ some =
    let v = some_value (built_in_named a) some in
    built_in_is a v.0 v.1 ∙ sym (built_in_is b v.0 (sym same_ ∙ v.1))

-- `main` or a built-in function
fixed_by : (a b : List ℕ) → bytes_eq a (codes "main") ≡ bytes_eq b (codes "main") → built_in_named a ≡ built_in_named b → is_fixed a ≡ true → a ≡ b
fixed_by a b mains built e = by (bytes_eq a (codes "main")) refl e
  where
    by : (p : Bool) → bytes_eq a (codes "main") ≡ p → (p || is_some (built_in_named a)) ≡ true → a ≡ b
    by true f e = (bytes_decides a (codes "main")).0 f ∙ sym ((bytes_decides b (codes "main")).0 (sym mains ∙ f))
    by false f e = one_built_in a b built e

either_fixed : (a b : List ℕ) → bytes_eq a (codes "main") ≡ bytes_eq b (codes "main") → built_in_named a ≡ built_in_named b → (is_fixed a || is_fixed b) ≡ true → a ≡ b
either_fixed a b mains built e = by (is_fixed a) refl e
  where
    by : (p : Bool) → is_fixed a ≡ p → (p || is_fixed b) ≡ true → a ≡ b
    by true f e = fixed_by a b mains built f
    by false f e = sym (fixed_by b a (sym mains) (sym built) e)

-- ---- programs

module _ (judged_ : UnitsOfProgramsAreJudged) (visible : BoundNamesAreVisible) (write : FileNamesAreWritten) (same : BindingsNeedNoNumbers) (trees others : List PlainTree) (w : AreWritten trees) (v : AreWritten others) (linked after : Units)
    (bindings behind : List Binding) (e : judged_program trees ≡ fine linked bindings) (f : judged_program others ≡ fine after behind) (alike : AreBoundAlike (names_of_units trees) (names_of_units others))
    (mains : HaveMainAlike (names_of_units trees) (names_of_units others)) (numbers : ℕ → Numbers) (globals : ℕ) (units : Units) (js : List Binding) (units_are : judged_units numbers globals 0 [] trees ≡ fine units js) where
  abbrev named : ℕ → List ℕ → List ℕ → Bool
  named i a b = names_at_places (names_of_units trees) (names_of_units others) i a b

  there : (i : ℕ) (a b : List ℕ) → named i a b ≡ true → AtPlace (names_of_units trees) (names_of_units others) i a b
  there i a b h =
      at_place (names_of_units trees) (names_of_units others) alike.bound (all_ordered [] trees) (all_ordered [] others) mains (written_so write [] trees w (judged_ trees linked bindings e))
      (written_so write [] others v (judged_ others after behind f)) i a b h

  pair : (i : ℕ) (unit : Unit) (a b : List ℕ) → slice_get units.units i ≡ Some unit → is_internal unit a ≡ false → AtPlace (names_of_units trees) (names_of_units others) i a b → LinkedPair (names_of_units trees) (names_of_units others) a b
  pair i unit a b at external p =
      let s = p.standing in
      let linked_ : p.unit.is_external a ≡ true = external_at visible same numbers globals 0 [] trees w (judged_ trees linked bindings e) units js units_are i unit p.unit at p.at s.one a s.among s.is external in
      let d : LinkedDeclaration = record { unit = 0 + i; number = first_number p.unit.identified s.one; name = a } in
      let among : In d (linked_declarations 0 (names_of_units trees)) = declared_in 0 (names_of_units trees) i p.unit p.at s.one a s.among s.is linked_ in
      let m = matched (link_in (names_of_units trees)) (link_in (names_of_units others)) (linked_declarations 0 (names_of_units trees)) (linked_declarations 0 (names_of_units others)) alike.linked d among in
      let x = declares_it 0 (names_of_units others) m.other m.among in
      let one_unit : d.unit ≡ m.other.unit = ap (λ (l : Link). l.unit) m.same in
      let number : d.number ≡ m.other.number = ap (λ (l : Link). l.number) m.same in
      let place : x.offset ≡ i = let q = x.is in let one : 0 + i ≡ m.other.unit = one_unit in omega (arith, q, one) in
      let unit_is : x.unit ≡ p.other = same_at (names_of_units others) x.offset i x.unit p.other place x.at p.at_other in
      let g = first_of s.other p.other.identified (same_file s.other b s.was) s.among_others in
      let is : x.identifier ≡ g.first =
      one_number 0 x.identifier g.first p.other.identified p.order_other (subst (λ (u : UnitNames). In x.identifier u.identified) unit_is x.among) g.among
      (x.number ∙ sym number ∙ s.first ∙ first_is s.other p.other.identified g) in
      record {
        before = d;
        after = m.other;
        among = among;
        among_after = m.among;
        name = refl;
        name_after = same_name m.other.name b (sym x.stands ∙ ap (λ (k : Identified). k.entity) is ∙ g.stands ∙ s.was);
        same = m.same;
      }

  built_alike : (a b : List ℕ) → LinkedPair (names_of_units trees) (names_of_units others) a b → built_in_named a ≡ built_in_named b
  built_alike a b p = ap built_in_named (sym p.name) ∙ ap (λ (l : Link). l.built_in) p.same ∙ ap built_in_named p.name_after

  linked_alike : AreLinkedAlike (names_at_places (names_of_units trees) (names_of_units others)) units.units
  linked_alike = record {
    across = λ i j first second a b c d at at_second external further h k.
        let p = pair i first a b at external (there i a b h) in
        let q = pair j second c d at_second further (there j c d k) in (
          same_after (names_of_units trees) (names_of_units others) (all_ordered [] others) a b c d p q,
          same_after (names_of_units others) (names_of_units trees) (all_ordered [] trees) b a d c (swapped (names_of_units trees) (names_of_units others) a b p) (swapped (names_of_units trees) (names_of_units others) c d q),
        );
    fixed = λ i unit a b at external h fixed_.
        let t = there i a b h in
        either_fixed a b t.mains (built_alike a b (pair i unit a b at external t)) fixed_;
  }

pub names_are_linked_alike : UnitsOfProgramsAreJudged → BoundNamesAreVisible → FileNamesAreWritten → BindingsNeedNoNumbers → NamesAreLinkedAlike
names_are_linked_alike judged_ visible write same trees others w v linked after bindings behind e f alike mains numbers globals units js units_are =
    linked_alike judged_ visible write same trees others w v linked after bindings behind e f alike mains numbers globals units js units_are
