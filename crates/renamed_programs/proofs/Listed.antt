-- What linked units list, and the numbers of names that correspond.
use Rattle.std.proofs.Common.{◌≡◌, ℕ, ◌+◌, zero, suc, Bool, true, false, List, [], ◌∷◌, ◌++◌, map, refl, sym, ap, subst, ◌∙◌, arith}
use Rattle.std.specs.Prelude.{Option, Some, None, is_some, not, slice_get, filter, codes, nat_le, if◌then◌else◌, ◌==◌, ◌&&◌, ◌||◌}
use Rattle.std.specs.Str.{bytes_eq}
use Rattle.std.specs.List.{AllZip, list_any}
use Rattle.std.specs.Cmp.Lexicographic.{bytes_decides}
use Rattle.std.proofs.lemmas.Bool.{false≢true, and_parts, and_from, eqb-true, eq-eqb}
use Rattle.core_meaning.specs.UnitNames.{Defined}
use Rattle.core_meaning.specs.Linking.{Unit, is_internal, defines, count_defined, count_external, built_in_named, is_available, Linked, same_unit, same_linked, linked_in, all_linked, added_once, each_once, is_of_sort, is_wanted, listed, place_where, lists, number_in, numbers_in, defines_linked, unit_of}
use Rattle.renamed_programs.proofs.Alike.{Naming}
use Rattle.renamed_programs.proofs.Scopes.{SameNumbers, BothOr, zip_append}
use Rattle.renamed_programs.proofs.Units.{OneToOne}
use Rattle.renamed_programs.proofs.Linking.{bytes_same, bytes_other, and_none, any_same, place_same, SameLinkedUnit, Same, TestsAlike, defines_same, counted_same, none_left, none_right, none_counted, internal_same, own_tests}

-- what makes the correspondence of names lawful for these units
pub record Lawful (named : ℕ → Naming) (all : List Unit) : Type 0 where
  pub one : (i : ℕ) → OneToOne (named i)
  pub across :
      (i j : ℕ) (u v : Unit) (a b c d : List ℕ) → slice_get all i ≡ Some u → slice_get all j ≡ Some v → is_internal u a ≡ false → is_internal v c ≡ false → named i a b → named j c d
      → bytes_eq a c ≡ bytes_eq b d
  pub main : (i : ℕ) (u : Unit) (a b : List ℕ) → slice_get all i ≡ Some u → is_internal u a ≡ false → named i a b → bytes_eq (codes "main") a ≡ bytes_eq (codes "main") b
  pub built : (i : ℕ) (u : Unit) (a b : List ℕ) → slice_get all i ≡ Some u → is_internal u a ≡ false → named i a b → built_in_named a ≡ built_in_named b

module _ (named : ℕ → Naming) (all others : List Unit) (law : Lawful named all) where
  abbrev TheSame : ℕ → Unit → Unit → Type 0
  TheSame i u v = SameLinkedUnit named law.one i u v

  -- units that stand at one place
  pub record Pair (i : ℕ) (u v : Unit) : Type 0 where
    pub same_ : TheSame i u v
    pub at : slice_get all i ≡ Some u

  abbrev pub Pairs : ℕ → List Unit → List Unit → Type 0
  Pairs i [] [] = Prim.Unit {0}
  Pairs i [] (v ∷ vs) = ⊥
  Pairs i (u ∷ us) [] = ⊥
  Pairs i (u ∷ us) (v ∷ vs) = Pair i u v × Pairs (i + 1) us vs

  -- a name with external linkage in a unit, and one that corresponds
  pub record External (a b : List ℕ) : Type 0 where
    pub place : ℕ
    pub unit : Unit
    pub at : slice_get all place ≡ Some unit
    pub external : is_internal unit a ≡ false
    pub names : named place a b

  module _ (a b : List ℕ) (x : External a b) (j : ℕ) (p q : Unit) (pair : Pair j p q) where
    -- a definition with external linkage
    external_test : (d e : Defined) → Same named law.one j d e → is_internal p d.name ≡ false → bytes_eq d.name a ≡ bytes_eq e.name b
    external_test d e h free = law.across j x.place p x.unit d.name e.name a b pair.at x.at free x.external h.names x.names

    -- one with another linkage than the name is none of it
    other_left : (d : Defined) (internal : Bool) → is_internal p a ≡ internal → is_internal p d.name ≡ not internal → bytes_eq d.name a ≡ false
    other_left d true e f = bytes_other d.name a (λ h. false≢true (sym f ∙ ap (is_internal p) h ∙ e))
    other_left d false e f = bytes_other d.name a (λ h. false≢true (sym e ∙ ap (is_internal p) (sym h) ∙ f))

    other_right : (d : Defined) (internal : Bool) → is_internal q b ≡ internal → is_internal q d.name ≡ not internal → bytes_eq d.name b ≡ false
    other_right d true e f = bytes_other d.name b (λ h. false≢true (sym f ∙ ap (is_internal q) h ∙ e))
    other_right d false e f = bytes_other d.name b (λ h. false≢true (sym e ∙ ap (is_internal q) (sym h) ∙ f))

    linkage_same : (d e : Defined) → Same named law.one j d e → (internal : Bool) → is_internal p d.name ≡ internal → is_internal q e.name ≡ internal
    linkage_same d e h internal f = sym (internal_same named law.one j p q d.name e.name pair.same_ h.names) ∙ f

    tests_alike : is_internal p a ≡ false → is_internal q b ≡ false → TestsAlike named law.one j a b
    tests_alike left right d e h = by (is_internal p d.name) refl
      where
        by : (internal : Bool) → is_internal p d.name ≡ internal → bytes_eq d.name a ≡ bytes_eq e.name b
        by true f = other_left d false left f ∙ sym (other_right e false right (linkage_same d e h true f))
        by false f = external_test d e h f

    no_right : is_internal p a ≡ true → is_internal q b ≡ false → (d e : Defined) → Same named law.one j d e → bytes_eq e.name b ≡ false
    no_right left right d e h = by (is_internal p d.name) refl
      where
        by : (internal : Bool) → is_internal p d.name ≡ internal → bytes_eq e.name b ≡ false
        by true f = other_right e false right (linkage_same d e h true f)
        by false f = sym (external_test d e h f) ∙ other_left d true left f

    no_left : is_internal p a ≡ false → is_internal q b ≡ true → (d e : Defined) → Same named law.one j d e → bytes_eq d.name a ≡ false
    no_left left right d e h = by (is_internal p d.name) refl
      where
        by : (internal : Bool) → is_internal p d.name ≡ internal → bytes_eq d.name a ≡ false
        by true f = other_left d false left f
        by false f = external_test d e h f ∙ other_right e true right (linkage_same d e h false f)

    -- how many definitions with external linkage, and whether there is one
    counted : (left right : Bool) → is_internal p a ≡ left → is_internal q b ≡ right → (if left then 0 else count_defined p a) ≡ (if right then 0 else count_defined q b)
    counted true true e f = refl
    counted true false e f = let none_ = none_right named law.one j b p.defined q.defined pair.same_.defined (no_right e f) in sym (none_counted named law.one q b none_.0 none_.1)
    counted false true e f = let none_ = none_left named law.one j a p.defined q.defined pair.same_.defined (no_left e f) in none_counted named law.one p a none_.0 none_.1
    counted false false e f = counted_same named law.one j p q a b pair.same_ (tests_alike e f)

    pub count_same : (if is_internal p a then 0 else count_defined p a) ≡ (if is_internal q b then 0 else count_defined q b)
    count_same = counted (is_internal p a) (is_internal q b) refl refl

    defined_by : (left right : Bool) → is_internal p a ≡ left → is_internal q b ≡ right → (not left && defines p a) ≡ (not right && defines q b)
    defined_by true true e f = refl
    defined_by true false e f = sym (none_right named law.one j b p.defined q.defined pair.same_.defined (no_right e f)).0
    defined_by false true e f = (none_left named law.one j a p.defined q.defined pair.same_.defined (no_left e f)).0
    defined_by false false e f = defines_same named law.one j p q a b pair.same_ (tests_alike e f)

    pub defined_same : (not (is_internal p a) && defines p a) ≡ (not (is_internal q b) && defines q b)
    defined_same = defined_by (is_internal p a) (is_internal q b) refl refl

    -- the names correspond in the unit too, where it defines the name with external linkage
    definer : (ds es : List Defined) → AllZip (Same named law.one j) ds es → is_internal p a ≡ false → list_any (λ d. bytes_eq d.name a) ds ≡ true → named j a b
    definer [] [] h free e = absurd (false≢true e)
    definer [] (y ∷ es) h free e = absurd h
    definer (d ∷ ds) [] h free e = absurd h
    definer (d ∷ ds) (y ∷ es) h free e = by (bytes_eq d.name a) refl e (λ f. definer ds es h.1 free f)
      where
        by : (t : Bool) → bytes_eq d.name a ≡ t → (t || list_any (λ z. bytes_eq z.name a) ds) ≡ true → (list_any (λ z. bytes_eq z.name a) ds ≡ true → named j a b) → named j a b
        by true f g next =
            let is : d.name ≡ a = (bytes_decides d.name a).0 f in
            let other : y.name ≡ b = (bytes_decides y.name b).0 (sym (external_test d y h.0 (ap (is_internal p) is ∙ free)) ∙ f) in
            subst (λ z. named j a z) other (subst (λ z. named j z y.name) is h.0.names)
        by false f g next = next g

    pub named_there : (not (is_internal p a) && defines p a) ≡ true → named j a b
    named_there e = let both = and_parts (not (is_internal p a)) (defines p a) e in definer p.defined q.defined pair.same_.defined (free (is_internal p a) both.0) both.1
      where
        free : (t : Bool) → not t ≡ true → t ≡ false
        free true h = absurd (false≢true h)
        free false h = refl

  external_same : (a b : List ℕ) → External a b → (j : ℕ) (ps qs : List Unit) → Pairs j ps qs → count_external ps a ≡ count_external qs b
  external_same a b x j [] [] h = refl
  external_same a b x j [] (q ∷ qs) h = absurd h
  external_same a b x j (p ∷ ps) [] h = absurd h
  external_same a b x j (p ∷ ps) (q ∷ qs) h =
      ap (λ (n : ℕ). n + count_external ps a) (count_same a b x j p q h.0) ∙ ap (λ (n : ℕ). (if is_internal q b then 0 else count_defined q b) + n) (external_same a b x (j + 1) ps qs h.1)

  module _ (pairs : Pairs 0 all others) where
    available_by :
        (i : ℕ) (u v : Unit) (a b : List ℕ) → Pair i u v → named i a b → (internal : Bool) → is_internal u a ≡ internal
        → (if internal then defines u a else nat_le 1 (count_external all a) || is_some (built_in_named a)) ≡ (if internal then defines v b else nat_le 1 (count_external others b) || is_some (built_in_named b))
    available_by i u v a b p names true e = defines_same named law.one i u v a b p.same_ (own_tests named law.one i a b names)
    available_by i u v a b p names false e =
        ap (λ (n : ℕ). nat_le 1 n || is_some (built_in_named a)) (external_same a b (record { place = i; unit = u; at = p.at; external = e; names = names }) 0 all others pairs)
        ∙ ap (λ o. nat_le 1 (count_external others b) || is_some o) (law.built i u a b p.at e names)

    available_same : (i : ℕ) (u v : Unit) (a b : List ℕ) → Pair i u v → named i a b → is_available all u a ≡ is_available others v b
    available_same i u v a b p names =
        available_by i u v a b p names (is_internal u a) refl
        ∙ ap (λ (t : Bool). if t then defines v b else nat_le 1 (count_external others b) || is_some (built_in_named b)) (internal_same named law.one i u v a b p.same_ names)

    wanted_same : (functions : Bool) (i : ℕ) (u v : Unit) (a b : List ℕ) → Pair i u v → named i a b → is_wanted all functions u a ≡ is_wanted others functions v b
    wanted_same functions i u v a b p names =
        ap (λ n. is_of_sort functions n && is_available all u a) (p.same_.names a b names) ∙ ap (λ (t : Bool). is_of_sort functions (v.names b) && t) (available_same i u v a b p names)

    -- ---- linked names

    pub data LinkedAlike : Linked → Linked → Type 0 where
      inside : (i : ℕ) (u v : Unit) (a b : List ℕ) → Pair i u v → named i a b → is_internal u a ≡ true → LinkedAlike (record { name = a; unit = Some i }) (record { name = b; unit = Some i })
      outside : (i : ℕ) (u v : Unit) (a b : List ℕ) → Pair i u v → named i a b → is_internal u a ≡ false → LinkedAlike (record { name = a; unit = None }) (record { name = b; unit = None })

    inside_tests : (i j : ℕ) (a b c d : List ℕ) → named i a b → named j c d → (t : Bool) → (i == j) ≡ t → (bytes_eq a c && t) ≡ (bytes_eq b d && t)
    inside_tests i j a b c d f g true e =
        let same_ : i ≡ j = eqb-true i j e in
        ap (λ (t : Bool). t && true) (law.one i c d a b (subst (λ n. named n c d) (sym same_) g) f)
    inside_tests i j a b c d f g false e = and_none (bytes_eq a c) (bytes_eq b d)

    pub linked_tests : (e e' f f' : Linked) → LinkedAlike e e' → LinkedAlike f f' → same_linked e f ≡ same_linked e' f'
    linked_tests _ _ _ _ (inside i u v a b p names internal) (inside j w z c d q these inner) = inside_tests i j a b c d names these (i == j) refl
    linked_tests _ _ _ _ (inside i u v a b p names internal) (outside j w z c d q these inner) = and_none (bytes_eq a c) (bytes_eq b d)
    linked_tests _ _ _ _ (outside i u v a b p names internal) (inside j w z c d q these inner) = and_none (bytes_eq a c) (bytes_eq b d)
    linked_tests _ _ _ _ (outside i u v a b p names internal) (outside j w z c d q these inner) = ap (λ (t : Bool). t && true) (law.across i j u w a b c d p.at q.at internal inner names these)

    linked_by :
        (i : ℕ) (u v : Unit) (a b : List ℕ) → Pair i u v → named i a b → (t : Bool) → is_internal u a ≡ t → LinkedAlike (record { name = a; unit = if t then Some i else None }) (record { name = b; unit = if t then Some i else None })
    linked_by i u v a b p names true e = inside i u v a b p names e
    linked_by i u v a b p names false e = outside i u v a b p names e

    pub linked_same : (i : ℕ) (u v : Unit) (a b : List ℕ) → Pair i u v → named i a b → LinkedAlike (linked_in i u a) (linked_in i v b)
    linked_same i u v a b p names =
        subst (λ (t : Bool). LinkedAlike (linked_in i u a) (record { name = b; unit = if t then Some i else None })) (internal_same named law.one i u v a b p.same_ names) (linked_by i u v a b p names (is_internal u a) refl)

    -- an internal name that is listed is defined in its unit
    pub record ListedAlike (e f : Linked) : Type 0 where
      pub alike : LinkedAlike e f
      pub defined_in : (n : ℕ) → e.unit ≡ Some n → (u : Unit) × (slice_get all n ≡ Some u) × (defines_linked e n u ≡ true)

    itself : (e : Linked) (n : ℕ) → e.unit ≡ Some n → same_linked e e ≡ true
    itself e n f = and_from (bytes_eq e.name e.name) (same_unit e.unit e.unit) (bytes_same e.name e.name refl) (ap (λ o. same_unit o o) f ∙ eq-eqb n n refl)

    defined_there :
        (functions : Bool) (i : ℕ) (u v : Unit) (a : List ℕ) → Pair i u v → is_wanted all functions u a ≡ true → (n : ℕ) → (linked_in i u a).unit ≡ Some n
        → (w : Unit) × (slice_get all n ≡ Some w) × (defines_linked (linked_in i u a) n w ≡ true)
    defined_there functions i u v a p wanted n e = by (is_internal u a) refl e (and_parts (is_of_sort functions (u.names a)) (is_available all u a) wanted).1
      where
        by : (t : Bool) → is_internal u a ≡ t → (if t then Some i else None) ≡ Some n → (if is_internal u a then defines u a else nat_le 1 (count_external all a) || is_some (built_in_named a)) ≡ true → (w : Unit) × (slice_get all n ≡ Some w) × (defines_linked (linked_in i u a) n w ≡ true)
        by true f g there =
            let is : i ≡ n = cc in
            let here : defines u a ≡ true = sym (ap (λ (t : Bool). if t then defines u a else nat_le 1 (count_external all a) || is_some (built_in_named a)) f) ∙ there in
            (u, subst (λ m. slice_get all m ≡ Some u) is p.at, subst (λ m. defines_linked (linked_in i u a) m u ≡ true) is (and_from (same_linked (linked_in i u a) (linked_in i u a)) (defines u a) (itself (linked_in i u a) n e) here))
        by false f g there = absurd cc

    listed_same :
        (functions : Bool) (i : ℕ) (u v : Unit) → Pair i u v → (as_ bs : List (List ℕ)) → AllZip (named i) as_ bs
        → AllZip ListedAlike (map (linked_in i u) (filter (is_wanted all functions u) as_)) (map (linked_in i v) (filter (is_wanted others functions v) bs))
    listed_same functions i u v p [] [] h = tt
    listed_same functions i u v p [] (b ∷ bs) h = absurd h
    listed_same functions i u v p (a ∷ as_) [] h = absurd h
    listed_same functions i u v p (a ∷ as_) (b ∷ bs) h = by (is_wanted all functions u a) (is_wanted others functions v b) refl (wanted_same functions i u v a b p h.0) (listed_same functions i u v p as_ bs h.1)
      where
        by :
            (x y : Bool) → is_wanted all functions u a ≡ x → is_wanted all functions u a ≡ y → AllZip ListedAlike (map (linked_in i u) (filter (is_wanted all functions u) as_)) (map (linked_in i v) (filter (is_wanted others functions v) bs))
            → AllZip ListedAlike (map (linked_in i u) (if x then a ∷ filter (is_wanted all functions u) as_ else filter (is_wanted all functions u) as_)) (map (linked_in i v) (if y then b ∷ filter (is_wanted others functions v) bs else filter (is_wanted others functions v) bs))
        by true true e f rest = (record { alike = linked_same i u v a b p h.0; defined_in = defined_there functions i u v a p e }, rest)
        by true false e f rest = absurd (false≢true (sym f ∙ e))
        by false true e f rest = absurd (false≢true (sym e ∙ f))
        by false false e f rest = rest

    all_same : (functions : Bool) (i : ℕ) (us vs : List Unit) → Pairs i us vs → AllZip ListedAlike (all_linked (is_wanted all functions) i us) (all_linked (is_wanted others functions) i vs)
    all_same functions i [] [] h = tt
    all_same functions i [] (v ∷ vs) h = absurd h
    all_same functions i (u ∷ us) [] h = absurd h
    all_same functions i (u ∷ us) (v ∷ vs) h = zip_append ListedAlike _ _ _ _ (listed_same functions i u v h.0 u.order v.order h.0.same_.order) (all_same functions (i + 1) us vs h.1)

    once_same : (es fs : List Linked) (e f : Linked) → AllZip ListedAlike es fs → ListedAlike e f → AllZip ListedAlike (added_once es e) (added_once fs f)
    once_same es fs e f h i = by (list_any (same_linked e) es) (list_any (same_linked f) fs) (any_same ListedAlike (same_linked e) (same_linked f) es fs h (λ x y z. linked_tests e f x y i.alike z.alike))
      where
        by : (x y : Bool) → x ≡ y → AllZip ListedAlike (if x then es else es ++ e ∷ []) (if y then fs else fs ++ f ∷ [])
        by true true z = h
        by true false z = absurd cc
        by false true z = absurd cc
        by false false z = zip_append ListedAlike es fs (e ∷ []) (f ∷ []) h (i, tt)

    each_same : (es fs known knowns : List Linked) → AllZip ListedAlike es fs → AllZip ListedAlike known knowns → AllZip ListedAlike (each_once known es) (each_once knowns fs)
    each_same [] [] known knowns h i = i
    each_same [] (f ∷ fs) known knowns h i = absurd h
    each_same (e ∷ es) [] known knowns h i = absurd h
    each_same (e ∷ es) (f ∷ fs) known knowns h i = each_same es fs (added_once known e) (added_once knowns f) h.1 (once_same known knowns e f i h.0)

    pub lists_alike : (functions : Bool) → AllZip ListedAlike (listed all functions) (listed others functions)
    lists_alike functions = each_same (all_linked (is_wanted all functions) 0 all) (all_linked (is_wanted others functions) 0 others) [] [] (all_same functions 0 all others pairs) tt

    -- ---- numbers

    pair_at : (j n m : ℕ) (ps qs : List Unit) → Pairs j ps qs → j + n ≡ m → BothOr (Pair m) (slice_get ps n) (slice_get qs n)
    pair_at j n m [] [] h e = tt
    pair_at j n m [] (q ∷ qs) h e = absurd h
    pair_at j n m (p ∷ ps) [] h e = absurd h
    pair_at j zero m (p ∷ ps) (q ∷ qs) h e = let same_ : j ≡ m = omega (arith, e) in subst (λ k. Pair k p q) same_ h.0
    pair_at j (suc n) m (p ∷ ps) (q ∷ qs) h e = let next : (j + 1) + n ≡ m = omega (arith, e) in pair_at (j + 1) n m ps qs h.1 next

    filtered : (functions : Bool) (i : ℕ) (u v : Unit) → Pair i u v → (as_ bs : List (List ℕ)) → AllZip (named i) as_ bs → AllZip (named i) (filter (is_wanted all functions u) as_) (filter (is_wanted others functions v) bs)
    filtered functions i u v p [] [] h = tt
    filtered functions i u v p [] (b ∷ bs) h = absurd h
    filtered functions i u v p (a ∷ as_) [] h = absurd h
    filtered functions i u v p (a ∷ as_) (b ∷ bs) h = by (is_wanted all functions u a) (is_wanted others functions v b) (wanted_same functions i u v a b p h.0) (filtered functions i u v p as_ bs h.1)
      where
        by :
            (x y : Bool) → x ≡ y → AllZip (named i) (filter (is_wanted all functions u) as_) (filter (is_wanted others functions v) bs)
            → AllZip (named i) (if x then a ∷ filter (is_wanted all functions u) as_ else filter (is_wanted all functions u) as_) (if y then b ∷ filter (is_wanted others functions v) bs else filter (is_wanted others functions v) bs)
        by true true e rest = (h.0, rest)
        by true false e rest = absurd cc
        by false true e rest = absurd cc
        by false false e rest = rest

    in_list : (functions : Bool) (i : ℕ) (u v : Unit) (a b : List ℕ) → Pair i u v → named i a b → lists all functions u a ≡ lists others functions v b
    in_list functions i u v a b p names =
        any_same (named i) (bytes_eq a) (bytes_eq b) (filter (is_wanted all functions u) u.order) (filter (is_wanted others functions v) v.order) (filtered functions i u v p u.order v.order p.same_.order)
        (λ x y these. law.one i x y a b these names)

    number_by :
        (functions : Bool) (i : ℕ) (a b : List ℕ) (x y : Option Unit) → BothOr (Pair i) x y → named i a b → number_in all functions i x a ≡ number_in others functions i y b
    number_by functions i a b (Some u) (Some v) p names =
        ap (λ (t : Bool). if t then place_where (same_linked (linked_in i u a)) (listed all functions) else None) (in_list functions i u v a b p names)
        ∙ ap (λ o. if lists others functions v b then o else None)
        (place_same ListedAlike (same_linked (linked_in i u a)) (same_linked (linked_in i v b)) (listed all functions) (listed others functions) (lists_alike functions)
        (λ e f h. linked_tests (linked_in i u a) (linked_in i v b) e f (linked_same i u v a b p names) h.alike))
    number_by functions i a b (Some u) None p names = absurd p
    number_by functions i a b None (Some v) p names = absurd p
    number_by functions i a b None None p names = refl

    pub numbers_same : (literals : List (List ℕ)) (i : ℕ) → SameNumbers (named i) (numbers_in all literals i) (numbers_in others literals i)
    numbers_same literals i =
        let pair : BothOr (Pair i) (slice_get all i) (slice_get others i) = pair_at 0 i i all others pairs (omega arith) in
        record {
          globals = λ a b names. number_by false i a b (slice_get all i) (slice_get others i) pair names;
          functions = λ a b names. number_by true i a b (slice_get all i) (slice_get others i) pair names;
          literals = λ bytes. refl;
        }

    -- ---- what is found

    pub data FoundAlike (e f : Linked) : Option Unit → Option Unit → Type 0 where
      not_found : FoundAlike e f None None
      found_pair : (i : ℕ) (u v : Unit) → Pair i u v → named i e.name f.name → FoundAlike e f (Some u) (Some v)

    own_unit : (t : Bool) (i j : ℕ) → (i == j) ≡ false → same_unit (Some i) (if t then Some j else None) ≡ false
    own_unit true i j e = e
    own_unit false i j e = refl

    no_unit : (t : Bool) (j : ℕ) → same_unit None (if t then Some j else None) ≡ not t
    no_unit true j = refl
    no_unit false j = refl

    true_and : (x y : Bool) → x ≡ true → (x && y) ≡ y
    true_and x y e = ap (λ t. t && y) e

    -- the unit that defines it is found on both sides at once
    record Tested (j : ℕ) (p q : Unit) (e f : Linked) : Type 0 where
      same_ : defines_linked e j p ≡ defines_linked f j q
      names : defines_linked e j p ≡ true → named j e.name f.name

    not_here : (x y : Bool) → x ≡ false → (x && y) ≡ false
    not_here x y e = ap (λ t. t && y) e

    inside_tested : (i : ℕ) (a b : List ℕ) → named i a b → (j : ℕ) (p q : Unit) → Pair j p q → (t : Bool) → (i == j) ≡ t → Tested j p q (record { name = a; unit = Some i }) (record { name = b; unit = Some i })
    inside_tested i a b names j p q pair true e =
        let same_ : i ≡ j = eqb-true i j e in
        let these : named j a b = subst (λ n. named n a b) same_ names in
        record {
          same_ =
              ap (λ (t : Bool). (bytes_eq a a && same_unit (Some i) (if t then Some j else None)) && defines p a) (internal_same named law.one j p q a b pair.same_ these)
              ∙ ap (λ (t : Bool). (t && same_unit (Some i) (if is_internal q b then Some j else None)) && defines p a) (bytes_same a a refl ∙ sym (bytes_same b b refl))
              ∙ ap (λ (t : Bool). (bytes_eq b b && same_unit (Some i) (if is_internal q b then Some j else None)) && t) (defines_same named law.one j p q a b pair.same_ (own_tests named law.one j a b these));
          names = λ h. these;
        }
    inside_tested i a b names j p q pair false e =
        let left : defines_linked (record { name = a; unit = Some i }) j p ≡ false = not_here (bytes_eq a a && same_unit (Some i) (if is_internal p a then Some j else None)) (defines p a) (true_and (bytes_eq a a) (same_unit (Some i) (if is_internal p a then Some j else None)) (bytes_same a a refl) ∙ own_unit (is_internal p a) i j e) in
        let right : defines_linked (record { name = b; unit = Some i }) j q ≡ false = not_here (bytes_eq b b && same_unit (Some i) (if is_internal q b then Some j else None)) (defines q b) (true_and (bytes_eq b b) (same_unit (Some i) (if is_internal q b then Some j else None)) (bytes_same b b refl) ∙ own_unit (is_internal q b) i j e) in
        record { same_ = left ∙ sym right; names = λ h. absurd (false≢true (sym left ∙ h)) }

    outside_is : (a : List ℕ) (j : ℕ) (p : Unit) → defines_linked (record { name = a; unit = None }) j p ≡ (not (is_internal p a) && defines p a)
    outside_is a j p = ap (λ (t : Bool). t && defines p a) (true_and (bytes_eq a a) (same_unit None (if is_internal p a then Some j else None)) (bytes_same a a refl) ∙ no_unit (is_internal p a) j)

    tested : (e f : Linked) → LinkedAlike e f → (j : ℕ) (p q : Unit) → Pair j p q → Tested j p q e f
    tested _ _ (inside i u v a b pair names internal) j p q these = inside_tested i a b names j p q these (i == j) refl
    tested _ _ (outside i u v a b pair names internal) j p q these =
        let x : External a b = record { place = i; unit = u; at = pair.at; external = internal; names = names } in
        record {
          same_ = outside_is a j p ∙ defined_same a b x j p q these ∙ sym (outside_is b j q);
          names = λ h. named_there a b x j p q these (sym (outside_is a j p) ∙ h);
        }

    pub found_alike : (e f : Linked) → LinkedAlike e f → (j : ℕ) (ps qs : List Unit) → Pairs j ps qs → FoundAlike e f (unit_of e j ps) (unit_of f j qs)
    found_alike e f h j [] [] i = not_found
    found_alike e f h j [] (q ∷ qs) i = absurd i
    found_alike e f h j (p ∷ ps) [] i = absurd i
    found_alike e f h j (p ∷ ps) (q ∷ qs) i = by (defines_linked e j p) (defines_linked f j q) refl test.same_ (found_alike e f h (j + 1) ps qs i.1)
      where
        test : Tested j p q e f
        test = tested e f h j p q i.0

        by :
            (x y : Bool) → defines_linked e j p ≡ x → defines_linked e j p ≡ y → FoundAlike e f (unit_of e (j + 1) ps) (unit_of f (j + 1) qs)
            → FoundAlike e f (if x then Some p else unit_of e (j + 1) ps) (if y then Some q else unit_of f (j + 1) qs)
        by true true g k rest = found_pair j p q i.0 (test.names g)
        by true false g k rest = absurd (false≢true (sym k ∙ g))
        by false true g k rest = absurd (false≢true (sym g ∙ k))
        by false false g k rest = rest
