-- Units whose declarations are renamed together: the declarations that are linked are renamed, and each is that of an identifier.
use Rattle.std.proofs.Common.{◌≡◌, ℕ, ◌+◌, zero, suc, Bool, true, false, List, [], ◌∷◌, ◌++◌, map, refl, ap, ap₂, sym, subst, ◌∙◌, inl, inr, arith}
use Rattle.std.specs.Prelude.{◌⊎◌, Option, Some, None, option_map, flat_map, slice_get, All, Contains, if◌then◌else◌}
use Rattle.std.specs.List.{AllZip}
use Rattle.std.proofs.lemmas.List.{map-append}
use Rattle.std.proofs.lemmas.List.Elements.{All-nil, All-cons, All-append, All-weaker, recursion_from_All, Contains-append_left, Contains-append_right}
use Rattle.std.proofs.lemmas.Option.{same_Some, none-some, slice_get_within, get_or_from_slice_get}
use Rattle.c_text.specs.Token.{PlainToken}
use Rattle.core_meaning.specs.Linking.{built_in_named}
use Rattle.bindings.specs.Judged.{Identified}
use Rattle.entity_numbers.specs.Firsts.{AreInOrder}
use Rattle.program_occurrences.specs.Occurrences.{UnitNames, Occurrence, occurrence_among, occurrences_of, declares_itself, CommonName, external_name, tag, member_of, common_name}
use Rattle.program_occurrences.specs.Links.{BoundNumber, bound_numbers, LinkedDeclaration, linked_by, linked_declaration, linked_declarations, links_among, links_of}
use Rattle.occurrence_names.proofs.Kept.{In, in-of, in-map, at}
use Rattle.name_spaces.specs.Laws.{declared_name}
use Rattle.program_names.proofs.OneToOne.{one_number}
use Rattle.linked_otherwise.specs.Otherwise.{ExternalDeclaration, if_external, AreAllInOrder, name_after, IsRenamedAt, AreRenamed, AreNamed, AreRenamedTogether, IsTaken, IsLinkedOtherwise}
use Rattle.linked_otherwise.specs.Laws.{LinksAreTold}
use Rattle.linked_otherwise.proofs.Lists.{Marked, before, after, AreRenamable, IsTakenIn, AreLinkedOtherwise, lists-told}

-- ---- what comes of occurrences

of-one : (f : Occurrence → List Marked) (m : Marked) (o : Occurrence) (os : List Occurrence) → In o os → Contains (f o) m → Contains (flat_map f os) m
of-one f m o [] among here = absurd among
of-one f m o (p ∷ os) (inl e) here = Contains-append_left (f p) (flat_map f os) m (subst (λ (q : Occurrence). Contains (f q) m) e here)
of-one f m o (p ∷ os) (inr among) here = Contains-append_right (f p) (flat_map f os) m (of-one f m o os among here)

-- what holds of all that comes of each
of-each : (P : Marked → Type 0) (f : Occurrence → List Marked) (os : List Occurrence) → ((o : Occurrence) → Contains os o → All P (f o)) → All P (flat_map f os)
of-each P f [] each = All-nil P
of-each P f (o ∷ os) each =
    All-append P (f o) (flat_map f os) (each o (0, omega arith, refl)) (of-each P f os (λ p among. each p (suc among.0, omega (arith, among.1), among.2)))

same-identifiers : (all is : List Identified) → map (λ o. o.identifier) (map (occurrence_among all) is) ≡ is
same-identifiers all [] = refl
same-identifiers all (i ∷ is) = ap (λ (l : List Identified). i ∷ l) (same-identifiers all is)

identifier-among : (unit : UnitNames) (o : Occurrence) → Contains (occurrences_of unit) o → In o.identifier unit.identified
identifier-among unit o among =
    subst (λ (l : List Identified). In o.identifier l) (same-identifiers unit.identified unit.identified)
    (in-map (λ (p : Occurrence). p.identifier) o (occurrences_of unit) (in-of o (occurrences_of unit) among))

-- ---- names in common

pub known-so : (unit : UnitNames) (o : Occurrence) (name : List ℕ) → declared_name unit o ≡ Some (external_name name) → common_name unit o.identifier ≡ Some (external_name name)
known-so unit o name e = by (declares_itself o) e
  where
    by : (b : Bool) → (if b then common_name unit o.identifier else None) ≡ Some (external_name name) → common_name unit o.identifier ≡ Some (external_name name)
    by true f = f
    by false f = absurd (none-some (external_name name) f)

pub same-external : (a b : List ℕ) → ◌≡◌ {A = Option CommonName} (Some (external_name a)) (Some (external_name b)) → a ≡ b
same-external a b e = cc

abbrev pub bound-number : Occurrence → BoundNumber
bound-number o = record { identifier = o.identifier.number; declared_by = o.declared_by.number }

-- ---- declarations, each with whether it is of the class

abbrev marked-by : ℕ → ℕ → Bool → Option (List ℕ) → List Marked
marked-by place number b None = []
marked-by place number b (Some name) = record { declaration = record { unit = place; number = number; name = name }; of_class = b } ∷ []

linked-by : (place number : ℕ) (b : Bool) (c : Option CommonName) → linked_by place number c ≡ map before (marked-by place number b (if_external c))
linked-by place number b None = refl
linked-by place number b (Some (external_name name)) = refl
linked-by place number b (Some (tag text)) = refl
linked-by place number b (Some (member_of struct text)) = refl

linked-at : (place : ℕ) (unit : UnitNames) (o : Occurrence) (b : Bool) → linked_declaration place unit o ≡ map before (marked-by place o.identifier.number b (if_external (declared_name unit o)))
linked-at place unit o b = by (declares_itself o)
  where
    by :
        (d : Bool) → (if d then linked_by place o.identifier.number (common_name unit o.identifier) else [])
        ≡ map before (marked-by place o.identifier.number b (if_external (if d then common_name unit o.identifier else None)))
    by true = linked-by place o.identifier.number b (common_name unit o.identifier)
    by false = refl

module _ (of_class : PlainToken → Bool) (old new : List ℕ) where
  abbrev marked-at : ℕ → UnitNames → Occurrence → List Marked
  marked-at place unit o = marked-by place o.identifier.number (of_class o.identifier.token) (if_external (declared_name unit o))

  abbrev marked : ℕ → List UnitNames → List Marked
  marked place [] = []
  marked place (unit ∷ units) = flat_map (marked-at place unit) (occurrences_of unit) ++ marked (place + 1) units

  -- ---- they are linked before

  unit-before : (place : ℕ) (unit : UnitNames) (os : List Occurrence) → flat_map (linked_declaration place unit) os ≡ map before (flat_map (marked-at place unit) os)
  unit-before place unit [] = refl
  unit-before place unit (o ∷ os) =
      ap₂ (λ (xs ys : List LinkedDeclaration). xs ++ ys) (linked-at place unit o (of_class o.identifier.token)) (unit-before place unit os)
      ∙ sym (map-append before (marked-at place unit o) (flat_map (marked-at place unit) os))

  all-before : (place : ℕ) (units : List UnitNames) → linked_declarations place units ≡ map before (marked place units)
  all-before place [] = refl
  all-before place (unit ∷ units) =
      ap₂ (λ (xs ys : List LinkedDeclaration). xs ++ ys) (unit-before place unit (occurrences_of unit)) (all-before (place + 1) units)
      ∙ sym (map-append before (flat_map (marked-at place unit) (occurrences_of unit)) (marked (place + 1) units))

  -- ---- and renamed they are after

  renamed-by : (place number : ℕ) (b : Bool) (x : Option (List ℕ)) → map before (marked-by place number b (option_map (name_after new b) x)) ≡ map (after new) (marked-by place number b x)
  renamed-by place number b None = refl
  renamed-by place number b (Some name) = refl

  after-at :
      (place : ℕ) (unit other : UnitNames) (o p : Occurrence) → IsRenamedAt of_class new unit other o p → o.identifier.number ≡ p.identifier.number
      → linked_declaration place other p ≡ map (after new) (marked-at place unit o)
  after-at place unit other o p h number =
      let b : Bool = of_class o.identifier.token in
      let x : Option (List ℕ) = if_external (declared_name unit o) in
      linked-at place other p b ∙ ap (λ (y : Option (List ℕ)). map before (marked-by place p.identifier.number b y)) h
      ∙ ap (λ (n : ℕ). map before (marked-by place n b (option_map (name_after new b) x))) (sym number) ∙ renamed-by place o.identifier.number b x

  unit-after :
      (place : ℕ) (unit other : UnitNames) (os ps : List Occurrence) → AllZip (IsRenamedAt of_class new unit other) os ps → map bound-number os ≡ map bound-number ps
      → flat_map (linked_declaration place other) ps ≡ map (after new) (flat_map (marked-at place unit) os)
  unit-after place unit other [] [] h e = refl
  unit-after place unit other [] (p ∷ ps) h e = absurd h
  unit-after place unit other (o ∷ os) [] h e = absurd h
  unit-after place unit other (o ∷ os) (p ∷ ps) h e =
      let first : bound-number o ≡ bound-number p = cc in
      let rest : map bound-number os ≡ map bound-number ps = cc in
      ap₂ (λ (xs ys : List LinkedDeclaration). xs ++ ys) (after-at place unit other o p h.0 (ap (λ (n : BoundNumber). n.identifier) first)) (unit-after place unit other os ps h.1 rest)
      ∙ sym (map-append (after new) (marked-at place unit o) (flat_map (marked-at place unit) os))

  all-after :
      (place : ℕ) (units others : List UnitNames) → AreRenamed of_class new units others → map bound_numbers units ≡ map bound_numbers others
      → linked_declarations place others ≡ map (after new) (marked place units)
  all-after place [] [] h e = refl
  all-after place [] (other ∷ others) h e = absurd h
  all-after place (unit ∷ units) [] h e = absurd h
  all-after place (unit ∷ units) (other ∷ others) h e =
      let first : bound_numbers unit ≡ bound_numbers other = cc in
      let rest : map bound_numbers units ≡ map bound_numbers others = cc in
      ap₂ (λ (xs ys : List LinkedDeclaration). xs ++ ys) (unit-after place unit other (occurrences_of unit) (occurrences_of other) h.0 first) (all-after (place + 1) units others h.1 rest)
      ∙ sym (map-append (after new) (flat_map (marked-at place unit) (occurrences_of unit)) (marked (place + 1) units))

  -- ---- each is the declaration of an identifier

  abbrev mark-at : ℕ → Occurrence → List ℕ → Marked
  mark-at place o name = record { declaration = record { unit = place; number = o.identifier.number; name = name }; of_class = of_class o.identifier.token }

  abbrev mark-of : (units : List UnitNames) → ℕ → ExternalDeclaration units → Marked
  mark-of units place d = mark-at (place + d.found.place) d.found.occurrence d.name

  marked-here : (place : ℕ) (unit : UnitNames) (o : Occurrence) (name : List ℕ) → declared_name unit o ≡ Some (external_name name) → Contains (marked-at place unit o) (mark-at place o name)
  marked-here place unit o name e =
      subst (λ (c : Option CommonName). Contains (marked-by place o.identifier.number (of_class o.identifier.token) (if_external c)) (mark-at place o name)) (sym e) (0, omega arith, refl)

  marked-in :
      (place : ℕ) (units : List UnitNames) (k : ℕ) (unit : UnitNames) (o : Occurrence) (name : List ℕ) → slice_get units k ≡ Some unit → In o (occurrences_of unit)
      → declared_name unit o ≡ Some (external_name name) → Contains (marked place units) (mark-at (place + k) o name)
  marked-in place [] k unit o name is among e = absurd (none-some unit is)
  marked-in place (own ∷ units) zero unit o name is among e =
      let here : place + 0 ≡ place = omega arith in
      subst (λ (n : ℕ). Contains (marked place (own ∷ units)) (mark-at n o name)) (sym here)
      (Contains-append_left (flat_map (marked-at place own) (occurrences_of own)) (marked (place + 1) units) (mark-at place o name)
      (subst (λ (u : UnitNames). Contains (flat_map (marked-at place u) (occurrences_of u)) (mark-at place o name)) (sym (same_Some own unit is))
      (of-one (marked-at place unit) (mark-at place o name) o (occurrences_of unit) among (marked-here place unit o name e))))
  marked-in place (own ∷ units) (suc k) unit o name is among e =
      let there : (place + 1) + k ≡ place + suc k = omega arith in
      subst (λ (n : ℕ). Contains (marked place (own ∷ units)) (mark-at n o name)) there
      (Contains-append_right (flat_map (marked-at place own) (occurrences_of own)) (marked (place + 1) units) (mark-at ((place + 1) + k) o name)
      (marked-in (place + 1) units k unit o name is among e))

  marked-among : (units : List UnitNames) (d : ExternalDeclaration units) → In (mark-of units 0 d) (marked 0 units)
  marked-among units d =
      in-of (mark-of units 0 d) (marked 0 units)
      (marked-in 0 units d.found.place d.found.unit d.found.occurrence d.name d.found.is_unit (in-of d.found.occurrence (occurrences_of d.found.unit) d.found.among) d.declares)

  record IsMarkOf (units : List UnitNames) (place : ℕ) (m : Marked) : Type 0 where
    declaration : ExternalDeclaration units
    is : m ≡ mark-of units place declaration

  here-of : (place : ℕ) (unit : UnitNames) (units : List UnitNames) (o : Occurrence) → Contains (occurrences_of unit) o → All (IsMarkOf (unit ∷ units) place) (marked-at place unit o)
  here-of place unit units o among = by (declared_name unit o) refl
    where
      by : (c : Option CommonName) → declared_name unit o ≡ c → All (IsMarkOf (unit ∷ units) place) (marked-by place o.identifier.number (of_class o.identifier.token) (if_external c))
      by None e = All-nil (IsMarkOf (unit ∷ units) place)
      by (Some (external_name name)) e =
          let here : place ≡ place + 0 = omega arith in
          All-cons (IsMarkOf (unit ∷ units) place) (mark-at place o name) []
          (record {
            declaration = record { found = record { place = 0; unit = unit; is_unit = refl; occurrence = o; among = among }; name = name; declares = e };
            is = ap (λ (n : ℕ). mark-at n o name) here;
          })
          (All-nil (IsMarkOf (unit ∷ units) place))
      by (Some (tag text)) e = All-nil (IsMarkOf (unit ∷ units) place)
      by (Some (member_of struct text)) e = All-nil (IsMarkOf (unit ∷ units) place)

  further : (place : ℕ) (unit : UnitNames) (units : List UnitNames) (m : Marked) → IsMarkOf units (place + 1) m → IsMarkOf (unit ∷ units) place m
  further place unit units m l =
      let f = l.declaration.found in
      let there : (place + 1) + f.place ≡ place + suc f.place = omega arith in
      record {
        declaration = record { found = record { place = suc f.place; unit = f.unit; is_unit = f.is_unit; occurrence = f.occurrence; among = f.among }; name = l.declaration.name; declares = l.declaration.declares };
        is = l.is ∙ ap (λ (n : ℕ). mark-at n f.occurrence l.declaration.name) there;
      }

  marks-of : (units : List UnitNames) (place : ℕ) → All (IsMarkOf units place) (marked place units)
  marks-of [] place = All-nil (IsMarkOf [] place)
  marks-of (unit ∷ units) place =
      All-append (IsMarkOf (unit ∷ units) place) (flat_map (marked-at place unit) (occurrences_of unit)) (marked (place + 1) units)
      (of-each (IsMarkOf (unit ∷ units) place) (marked-at place unit) (occurrences_of unit) (here-of place unit units))
      (All-weaker (IsMarkOf units (place + 1)) (IsMarkOf (unit ∷ units) place) (further place unit units) (marked (place + 1) units) (marks-of units (place + 1)))

  -- ---- units

  module _ (units : List UnitNames) where
    from : (m : Marked) → In m (marked 0 units) → IsMarkOf units 0 m
    from m among = at (IsMarkOf units 0) m (marked 0 units) (recursion_from_All (IsMarkOf units 0) (marked 0 units) (marks-of units 0)) among

    -- one unit and one number declare one name
    one-name : AreAllInOrder units → (d e : ExternalDeclaration units) → d.found.place ≡ e.found.place → d.found.occurrence.identifier.number ≡ e.found.occurrence.identifier.number → d.name ≡ e.name
    one-name order d e place number =
        let f = d.found in
        let g = e.found in
        let unit : f.unit ≡ g.unit = same_Some f.unit g.unit (sym f.is_unit ∙ ap (slice_get units) place ∙ g.is_unit) in
        let in_order : AreInOrder 0 g.unit.identified =
        at (λ (u : UnitNames). AreInOrder 0 u.identified) g.unit units order (in-of g.unit units (g.place, slice_get_within units g.place g.unit g.is_unit, get_or_from_slice_get units g.place g.unit g.unit g.is_unit)) in
        let own : In f.occurrence.identifier g.unit.identified =
        subst (λ (u : UnitNames). In f.occurrence.identifier u.identified) unit (identifier-among f.unit f.occurrence f.among) in
        let other : In g.occurrence.identifier g.unit.identified = identifier-among g.unit g.occurrence g.among in
        let one : f.occurrence.identifier ≡ g.occurrence.identifier = one_number 0 f.occurrence.identifier g.occurrence.identifier g.unit.identified in_order own other number in
        same-external d.name e.name (sym (known-so f.unit f.occurrence d.name d.declares) ∙ ap₂ (λ (u : UnitNames) (i : Identified). common_name u i) unit one ∙ known-so g.unit g.occurrence e.name e.declares)

    renamable : AreAllInOrder units → AreNamed of_class old units → AreRenamedTogether of_class units → AreRenamable old new (marked 0 units)
    renamable order own h = record {
      named = λ m i inside.
          let d = from m i in
          ap (λ (x : Marked). x.declaration.name) d.is ∙ own.named d.declaration (ap (λ (x : Marked). x.of_class) (sym d.is) ∙ inside);
      together = λ m n i j same.
          let d = from m i in
          let e = from n j in
          ap (λ (x : Marked). x.of_class) d.is
          ∙ h.together d.declaration e.declaration (ap (λ (x : Marked). x.declaration.name) (sym d.is) ∙ same ∙ ap (λ (x : Marked). x.declaration.name) e.is) ∙ ap (λ (x : Marked). x.of_class) (sym e.is);
      apart = λ m n i j unit number.
          let d = from m i in
          let e = from n j in
          let places : 0 + d.declaration.found.place ≡ 0 + e.declaration.found.place = ap (λ (x : Marked). x.declaration.unit) (sym d.is) ∙ unit ∙ ap (λ (x : Marked). x.declaration.unit) e.is in
          let place : d.declaration.found.place ≡ e.declaration.found.place = omega (arith, places) in
          ap (λ (x : Marked). x.declaration.name) d.is
          ∙ one-name order d.declaration e.declaration place (ap (λ (x : Marked). x.declaration.number) (sym d.is) ∙ number ∙ ap (λ (x : Marked). x.declaration.number) e.is)
          ∙ ap (λ (x : Marked). x.declaration.name) (sym e.is);
    }

    -- ---- what is linked otherwise

    taken-so : IsTakenIn old new (marked 0 units) → IsTaken of_class new units
    taken-so t =
        let d = from t.other t.among in
        record {
          other = d.declaration;
          outside = ap (λ (x : Marked). x.of_class) (sym d.is) ∙ t.outside;
          is_new = ap (λ (x : Marked). x.declaration.name) (sym d.is) ∙ t.is_new;
        }

    taken-in : IsTaken of_class new units → IsTakenIn old new (marked 0 units)
    taken-in t = record { other = mark-of units 0 t.other; among = marked-among units t.other; outside = t.outside; is_new = t.is_new }

    otherwise-so : AreLinkedOtherwise old new (marked 0 units) → IsLinkedOtherwise of_class old new units
    otherwise-so o =
        let d = from o.one o.among in
        record { renamed = d.declaration; inside = ap (λ (x : Marked). x.of_class) (sym d.is) ∙ o.inside; otherwise = by o.otherwise }
      where
        by : IsTakenIn old new (marked 0 units) ⊎ (built_in_named old ≡ built_in_named new → ⊥) → IsTaken of_class new units ⊎ (built_in_named old ≡ built_in_named new → ⊥)
        by (inl t) = inl (taken-so t)
        by (inr apart_) = inr apart_

    otherwise-in : IsLinkedOtherwise of_class old new units → AreLinkedOtherwise old new (marked 0 units)
    otherwise-in o = record { one = mark-of units 0 o.renamed; among = marked-among units o.renamed; inside = o.inside; otherwise = by o.otherwise }
      where
        by : IsTaken of_class new units ⊎ (built_in_named old ≡ built_in_named new → ⊥) → IsTakenIn old new (marked 0 units) ⊎ (built_in_named old ≡ built_in_named new → ⊥)
        by (inl t) = inl (taken-in t)
        by (inr apart_) = inr apart_

pub links-told : LinksAreTold
links-told of_class old new units others bound order renamed named together =
    let told = lists-told old new (marked of_class old new 0 units) (renamable of_class old new units order named together) in
    let was : links_of units ≡ links_among (map before (marked of_class old new 0 units)) = ap links_among (all-before of_class old new 0 units) in
    let is : links_of others ≡ links_among (map (after new) (marked of_class old new 0 units)) = ap links_among (all-after of_class old new 0 units others renamed bound) in (
      λ e o. told.0 (sym was ∙ e ∙ is) (otherwise-in of_class old new units o),
      λ alike. was ∙ told.1 (λ o. alike (otherwise-so of_class old new units o)) ∙ sym is,
    )
