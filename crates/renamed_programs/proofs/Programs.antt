-- Units that differ only in names, bind their identifiers alike and link alike have the same core program.
use Rattle.std.proofs.Common.{◌≡◌, ℕ, ◌+◌, zero, suc, Bool, true, false, List, [], ◌∷◌, ◌++◌, map, refl, sym, ap, subst, ◌∙◌, length, IsTrue, arith}
use Rattle.std.specs.Prelude.{Option, Some, None, is_some, slice_get, codes, if◌then◌else◌, ◌&&◌, ◌||◌}
use Rattle.std.specs.Str.{bytes_eq}
use Rattle.std.specs.List.{AllZip}
use Rattle.std.proofs.lemmas.Bool.{false≢true}
use Rattle.std.proofs.lemmas.List.{append_assoc}
use Rattle.c_types.specs.Types.{PlainType}
use Rattle.c_tree.specs.Trees.{PlainTree}
use Rattle.core_meaning.specs.declared.program.BuiltIn.{BuiltIn}
use Rattle.core_meaning.specs.Program.{PlainFunction, PlainGlobal, PlainProgram, built_in}
use Rattle.core_meaning.specs.Checking.{Binding, Checked, fine, refused, broken, ◌>>=◌, give}
use Rattle.core_meaning.specs.Entities.{Struct, FileName, Numbers}
use Rattle.core_meaning.specs.UnitNames.{UnitState, judged_unit}
use Rattle.core_meaning.specs.Linking.{Unit, Units, uses_in, closed, judged_units, built_in_named, Linked, same_linked, listed, or_zero, place_where, no_numbers, numbers_in, whole_body, sort_in, defines_linked, unit_of, type_of_sort, parts_of_body, global_in, function_of_body, built_in_or_exit, function_in, literals_of, program_of}
use Rattle.core_meaning.proofs.Outlines.{bound, given_is}
use Rattle.tree_derivations.specs.Derivations.{UnitsAreDerived}
use Rattle.renamed_programs.specs.Trees.{SameButNames}
use Rattle.renamed_programs.specs.Entities.{Correspondence}
use Rattle.renamed_programs.specs.Laws.{AreUnits, BindAlike, IsOneToOne, is_fixed, AreLinkedAlike, ProgramsAreAlike, ElaborationsAreAlike}
use Rattle.renamed_programs.proofs.Alike.{Naming, naming}
use Rattle.renamed_programs.proofs.Scopes.{SameStruct, SameStructs, SameNumbers, zip_length, member_types}
use Rattle.renamed_programs.proofs.Units.{OneToOne}
use Rattle.renamed_programs.proofs.Items.{UnitsAfter, unit_alike, result_of}
use Rattle.renamed_programs.proofs.Texts.{AllDerived, literals_same}
use Rattle.renamed_programs.proofs.Linking.{and_none, both_tests, bytes_same, place_same, SameLinkedUnit, SameLinkedUnits, bodies_same, own_tests}
use Rattle.renamed_programs.proofs.Listed.{Lawful, Pairs, LinkedAlike, inside, outside, ListedAlike, lists_alike, numbers_same, FoundAlike, not_found, found_pair, found_alike}

-- ---- a unit after the other

abbrev the_unit : UnitState → List Binding → Unit
the_unit state own = record { names = state.scope.file_names; order = state.scope.order; defined = state.defined; uses = uses_in own }

abbrev one_unit : UnitState → List Binding → Units
one_unit state own = record { units = the_unit state own ∷ []; structs = state.scope.structs }

record Closed (c : Checked UnitState) (after : Units) : Type 0 where
  state : UnitState
  own : List Binding
  is : c ≡ fine state own
  made : one_unit state own ≡ after

closed_is : (c : Checked UnitState) (after : Units) (bindings : List Binding) → closed c ≡ fine after bindings → Closed c after
closed_is (fine state own) after bindings h = record { state = state; own = own; is = refl; made = given_is (one_unit state own) after bindings h }
closed_is (refused kind token) after bindings h = absurd cc
closed_is broken after bindings h = absurd cc

-- the parts of a judgement of units
record Judged (numbers : ℕ → Numbers) (globals i : ℕ) (structs : List Struct) (tree : PlainTree) (rest : List PlainTree) (after : Units) : Type 0 where
  state : UnitState
  own : List Binding
  others : Units
  behind : List Binding
  unit : judged_unit globals structs (numbers i) tree ≡ fine state own
  units : judged_units numbers globals (i + 1) state.scope.structs rest ≡ fine others behind
  all : after.units ≡ the_unit state own ∷ others.units
  all_structs : after.structs ≡ others.structs

judged_is :
    (numbers : ℕ → Numbers) (globals i : ℕ) (structs : List Struct) (tree : PlainTree) (rest : List PlainTree) (after : Units) (bindings : List Binding) → judged_units numbers globals i structs (tree ∷ rest) ≡ fine after bindings
    → Judged numbers globals i structs tree rest after
judged_is numbers globals i structs tree rest after bindings h =
    let given_as : Units → Units → Checked Units = λ first others. give (record { units = first.units ++ others.units; structs = others.structs }) in
    let others_of : Units → Checked Units = λ first. judged_units numbers globals (i + 1) first.structs rest >>= given_as first in
    let first = bound (closed (judged_unit globals structs (numbers i) tree)) others_of after bindings h in
    let others = bound (judged_units numbers globals (i + 1) first.value.structs rest) (given_as first.value) after first.behind first.rest in
    let own = closed_is (judged_unit globals structs (numbers i) tree) first.value first.before first.first in
    let made = given_is (record { units = first.value.units ++ others.value.units; structs = others.value.structs }) after others.behind others.rest in
    record {
      state = own.state;
      own = own.own;
      others = others.value;
      behind = others.before;
      unit = own.is;
      units = subst (λ (x : Units). judged_units numbers globals (i + 1) x.structs rest ≡ fine others.value others.before) (sym own.made) others.first;
      all = ap (λ (x : Units). x.units) (sym made) ∙ ap (λ (x : Units). x.units ++ others.value.units) (sym own.made);
      all_structs = ap (λ (x : Units). x.structs) (sym made);
    }

module _ (named : ℕ → Correspondence) (one : (i : ℕ) → OneToOne (naming (named i))) where
  abbrev by_unit : ℕ → Naming
  by_unit i = naming (named i)

  record SameAfter (i : ℕ) (x y : Units) : Type 0 where
    units : SameLinkedUnits by_unit one i x.units y.units
    structs : SameStructs x.structs y.structs

  unit_linked : (i : ℕ) (x y : UnitState) (js ks : List Binding) → UnitsAfter (by_unit i) (one i) x y → SameLinkedUnit by_unit one i (the_unit x js) (the_unit y ks)
  unit_linked i x y js ks h = record { names = h.scopes.names; order = h.scopes.order; defined = h.defined }

  units_alike :
      (numbers further : ℕ → Numbers) → ((i : ℕ) → SameNumbers (by_unit i) (numbers i) (further i)) → (globals : ℕ) (trees others : List PlainTree) → AllDerived trees → AllZip SameButNames trees others
      → (i : ℕ) (structs second : List Struct) → SameStructs structs second → BindAlike named i structs second trees others → (x y : Units) (js ks : List Binding)
      → judged_units numbers globals i structs trees ≡ fine x js → judged_units further globals i second others ≡ fine y ks → SameAfter i x y
  units_alike numbers further n globals [] [] derived e i structs second h b x y js ks f g =
      let left = given_is (record { units = []; structs = structs }) x js f in
      let right = given_is (record { units = []; structs = second }) y ks g in
      subst (λ z. SameAfter i z y) left (subst (λ z. SameAfter i (record { units = []; structs = structs }) z) right (record { units = tt; structs = h }))
  units_alike numbers further n globals [] (u ∷ us) derived e i structs second h b x y js ks f g = absurd e
  units_alike numbers further n globals (t ∷ ts) [] derived e i structs second h b x y js ks f g = absurd e
  units_alike numbers further n globals (t ∷ ts) (u ∷ us) derived e i structs second h b x y js ks f g =
      let left = judged_is numbers globals i structs t ts x js f in
      let right = judged_is further globals i second u us y ks g in
      let both = b globals (numbers i) (further i) left.state right.state left.own right.own left.unit right.unit in
      let unit : UnitsAfter (by_unit i) (one i) left.state right.state =
      result_of (named i) (UnitsAfter (by_unit i) (one i)) (judged_unit globals structs (numbers i) t) (judged_unit globals second (further i) u) left.state right.state left.own right.own
      (unit_alike (by_unit i) (one i) derived.0 e.0 globals structs second (numbers i) (further i) h (n i)) left.unit right.unit both.0 in
      let rest = units_alike numbers further n globals ts us derived.1 e.1 (i + 1) left.state.scope.structs right.state.scope.structs unit.scopes.structs both.1 left.others right.others left.behind right.behind left.units right.units in
      record {
        units = subst (λ l. SameLinkedUnits by_unit one i l y.units) (sym left.all) (subst (λ l. SameLinkedUnits by_unit one i (the_unit left.state left.own ∷ left.others.units) l) (sym right.all)
            (unit_linked i left.state right.state left.own right.own unit, rest.units));
        structs = subst (λ l. SameStructs l y.structs) (sym left.all_structs) (subst (λ l. SameStructs left.others.structs l) (sym right.all_structs) rest.structs);
      }

-- ---- which correspondences are lawful

one_to_one : (named : Correspondence) → IsOneToOne named → OneToOne (naming named)
one_to_one named law a b x y f g =
    both_tests x a y b (λ e. law.forth a y b (subst (λ z. IsTrue (named z y)) e g) f) (λ e. law.back x a b (subst (λ z. IsTrue (named x z)) e g) f)

or_left : (x y : Bool) → x ≡ true → (x || y) ≡ true
or_left true y e = refl
or_left false y e = absurd (false≢true e)

or_right : (x y : Bool) → y ≡ true → (x || y) ≡ true
or_right true y e = refl
or_right false y e = e

main_fixed : (a : List ℕ) → codes "main" ≡ a → is_fixed a ≡ true
main_fixed a e = or_left (bytes_eq a (codes "main")) (is_some (built_in_named a)) (bytes_same a (codes "main") (sym e))

built_fixed : (a : List ℕ) (b : BuiltIn) → built_in_named a ≡ Some b → is_fixed a ≡ true
built_fixed a b e = or_right (bytes_eq a (codes "main")) (is_some (built_in_named a)) (ap is_some e)

lawful : (named : ℕ → Correspondence) (units : List Unit) → ((i : ℕ) → IsOneToOne (named i)) → AreLinkedAlike named units → Lawful (λ i. naming (named i)) units
lawful named units each law = record {
  one = λ i. one_to_one (named i) (each i);
  across = λ i j u v a b c d at there e f names these. let both = law.across i j u v a b c d at there e f names these in both_tests a c b d both.0 both.1;
  main = λ i u a b at e names. both_tests (codes "main") a (codes "main") b
      (λ is. is ∙ law.fixed i u a b at e names (or_left (is_fixed a) (is_fixed b) (main_fixed a is)))
      (λ is. is ∙ sym (law.fixed i u a b at e names (or_right (is_fixed a) (is_fixed b) (main_fixed b is))));
  built = λ i u a b at e names. by a b (built_in_named a) (built_in_named b) refl refl (λ fixed_. law.fixed i u a b at e names fixed_);
}
  where
    by : (a b : List ℕ) (x y : Option BuiltIn) → built_in_named a ≡ x → built_in_named b ≡ y → (IsTrue (is_fixed a || is_fixed b) → a ≡ b) → built_in_named a ≡ built_in_named b
    by a b (Some x) y e f same_ = ap built_in_named (same_ (or_left (is_fixed a) (is_fixed b) (built_fixed a x e)))
    by a b None (Some y) e f same_ = ap built_in_named (same_ (or_right (is_fixed a) (is_fixed b) (built_fixed b y f)))
    by a b None None e f same_ = e ∙ sym f

-- ---- units by their places

at_length : (before : List Unit) (u : Unit) (rest : List Unit) → slice_get (before ++ u ∷ rest) (length before) ≡ Some u
at_length [] u rest = refl
at_length (x ∷ before) u rest = at_length before u rest

longer : (before : List Unit) (u : Unit) → length (before ++ u ∷ []) ≡ length before + 1
longer [] u = omega arith
longer (x ∷ before) u = let e : length (before ++ u ∷ []) ≡ length before + 1 = longer before u in omega (arith, e)

module _ (named : ℕ → Naming) (all others : List Unit) (law : Lawful named all) where
  pairs_from : (before us vs : List Unit) (i : ℕ) → before ++ us ≡ all → length before ≡ i → SameLinkedUnits named law.one i us vs → Pairs named all others law i us vs
  pairs_from before [] [] i e f h = tt
  pairs_from before [] (v ∷ vs) i e f h = absurd h
  pairs_from before (u ∷ us) [] i e f h = absurd h
  pairs_from before (u ∷ us) (v ∷ vs) i e f h = (
    record { same_ = h.0; at = subst (λ l. slice_get l i ≡ Some u) e (subst (λ n. slice_get (before ++ u ∷ us) n ≡ Some u) f (at_length before u us)) },
    pairs_from (before ++ u ∷ []) us vs (i + 1) (append_assoc before (u ∷ []) us ∙ e) (longer before u ∙ ap (λ n. n + 1) f) h.1,
  )

  module _ (pairs : Pairs named all others law 0 all others) where
    abbrev Alike : Linked → Linked → Type 0
    Alike e f = ListedAlike named all others law pairs e f

    abbrev Found : Linked → Linked → Option Unit → Option Unit → Type 0
    Found e f x y = FoundAlike named all others law pairs e f x y

    none_defines : (e : Linked) (j n m : ℕ) (units : List Unit) (u : Unit) → unit_of e j units ≡ None → slice_get units n ≡ Some u → j + n ≡ m → defines_linked e m u ≡ true → ⊥
    none_defines e j n m [] u h at is t = absurd cc
    none_defines e j zero m (x ∷ units) u h at is t =
        let same_ : x ≡ u = cc in
        let here : j ≡ m = omega (arith, is) in
        let test : defines_linked e j x ≡ true = subst (λ z. defines_linked e j z ≡ true) (sym same_) (subst (λ k. defines_linked e k u ≡ true) (sym here) t) in
        let found_ : Some x ≡ None = ap (λ (b : Bool). if b then Some x else unit_of e (j + 1) units) (sym test) ∙ h in
        absurd cc
    none_defines e j (suc n) m (x ∷ units) u h at is t = by (defines_linked e j x) h (λ g. none_defines e (j + 1) n m units u g at (let next : (j + 1) + n ≡ m = omega (arith, is) in next) t)
      where
        by : (b : Bool) → (if b then Some x else unit_of e (j + 1) units) ≡ None → (unit_of e (j + 1) units ≡ None → ⊥) → ⊥
        by true g next = absurd cc
        by false g next = next g

    -- a function that no unit defines is built in
    built_same : (e f : Linked) → Alike e f → unit_of e 0 all ≡ None → built_in_named e.name ≡ built_in_named f.name
    built_same e f h none_ = by h.alike h.defined_in none_
      where
        by :
            {x y : Linked} → LinkedAlike named all others law pairs x y → ((n : ℕ) → x.unit ≡ Some n → (u : Unit) × (slice_get all n ≡ Some u) × (defines_linked x n u ≡ true)) → unit_of x 0 all ≡ None
            → built_in_named x.name ≡ built_in_named y.name
        by (inside i u v a b pair names internal) there none_ =
            let found_ = there i refl in
            absurd (none_defines (record { name = a; unit = Some i }) 0 i i all found_.0 none_ found_.1 (omega arith) found_.2)
        by (outside i u v a b pair names internal) there none_ = law.built i u a b pair.at internal names

    function_found : (e f : Linked) (x y : Option Unit) → Found e f x y → (x ≡ None → built_in_named e.name ≡ built_in_named f.name) → function_in e x ≡ function_in f y
    function_found e f _ _ not_found none_ = ap (λ o. built_in (built_in_or_exit o)) (none_ refl)
    function_found e f _ _ (found_pair i u v pair names) none_ =
        ap function_of_body (bodies_same named law.one i e.name f.name u.defined v.defined pair.same_.defined (own_tests named law.one i e.name f.name names))

    function_same : (e f : Linked) → Alike e f → function_in e (unit_of e 0 all) ≡ function_in f (unit_of f 0 others)
    function_same e f h = function_found e f (unit_of e 0 all) (unit_of f 0 others) (found_alike named all others law pairs e f h.alike 0 all others pairs) (built_same e f h)

    global_found : (e f : Linked) (x y : Option Unit) → Found e f x y → global_in e x ≡ global_in f y
    global_found e f _ _ not_found = refl
    global_found e f _ _ (found_pair i u v pair names) =
        ap (λ (n : Option FileName). let g : PlainGlobal = record { ty = type_of_sort (Rattle.std.specs.Prelude.option_map (λ x. x.sort) n); parts = parts_of_body (whole_body u.defined e.name) } in g) (pair.same_.names e.name f.name names)
        ∙ ap (λ body. let g : PlainGlobal = record { ty = type_of_sort (sort_in v f.name); parts = parts_of_body body } in g)
        (bodies_same named law.one i e.name f.name u.defined v.defined pair.same_.defined (own_tests named law.one i e.name f.name names))

    global_same : (e f : Linked) → Alike e f → global_in e (unit_of e 0 all) ≡ global_in f (unit_of f 0 others)
    global_same e f h = global_found e f (unit_of e 0 all) (unit_of f 0 others) (found_alike named all others law pairs e f h.alike 0 all others pairs)

    abbrev the_main : Linked
    the_main = record { name = codes "main"; unit = None }

    main_test : {e f : Linked} → LinkedAlike named all others law pairs e f → same_linked the_main e ≡ same_linked the_main f
    main_test (inside i u v a b pair names internal) = and_none (bytes_eq (codes "main") a) (bytes_eq (codes "main") b)
    main_test (outside i u v a b pair names internal) = ap (λ (t : Bool). t && true) (law.main i u a b pair.at internal names)

    main_same : place_where (same_linked the_main) (listed all true) ≡ place_where (same_linked the_main) (listed others true)
    main_same = place_same Alike (same_linked the_main) (same_linked the_main) (listed all true) (listed others true) (lists_alike named all others law pairs true) (λ e f h. main_test h.alike)

    maps_same : {A B C : Type 0} (R : A → B → Type 0) (p : A → C) (q : B → C) (xs : List A) (ys : List B) → AllZip R xs ys → ((x : A) (y : B) → R x y → p x ≡ q y) → map p xs ≡ map q ys
    maps_same R p q [] [] h f = refl
    maps_same R p q [] (y ∷ ys) h f = absurd h
    maps_same R p q (x ∷ xs) [] h f = absurd h
    maps_same R p q (x ∷ xs) (y ∷ ys) h f = ap (λ z. z ∷ map p xs) (f x y h.0) ∙ ap (λ l. q y ∷ l) (maps_same R p q xs ys h.1 f)

    abbrev made : List (List PlainType) → List PlainFunction → List PlainGlobal → List (List ℕ) → ℕ → PlainProgram
    made structs functions globals literals main = record { structs = structs; functions = functions; globals = globals; literals = literals; main = main }

    program_same :
        (trees seconds : List PlainTree) (x y : List Struct) → SameStructs x y → literals_of trees ≡ literals_of seconds
        → program_of trees (record { units = all; structs = x }) ≡ program_of seconds (record { units = others; structs = y })
    program_same trees seconds x y structs literals =
        let functions : List Unit → List PlainFunction = λ units. map (λ e. function_in e (unit_of e 0 units)) (listed units true) in
        let globals : List Unit → List PlainGlobal = λ units. map (λ e. global_in e (unit_of e 0 units)) (listed units false) in
        let layouts : List Struct → List (List PlainType) = λ l. map (λ s. map (λ m. m.ty) s.members) l in
        let main : List Unit → ℕ = λ units. or_zero (place_where (same_linked the_main) (listed units true)) in
        ap (λ l. made l (functions all) (globals all) (literals_of trees) (main all)) (maps_same SameStruct (λ s. member_types s.members) (λ s. member_types s.members) x y structs (λ a b h. h.members))
        ∙ ap (λ l. made (layouts y) l (globals all) (literals_of trees) (main all))
        (maps_same Alike (λ e. function_in e (unit_of e 0 all)) (λ e. function_in e (unit_of e 0 others)) (listed all true) (listed others true) (lists_alike named all others law pairs true) function_same)
        ∙ ap (λ l. made (layouts y) (functions others) l (literals_of trees) (main all))
        (maps_same Alike (λ e. global_in e (unit_of e 0 all)) (λ e. global_in e (unit_of e 0 others)) (listed all false) (listed others false) (lists_alike named all others law pairs false) global_same)
        ∙ ap (λ l. made (layouts y) (functions others) (globals others) l (main all)) literals
        ∙ ap (λ n. made (layouts y) (functions others) (globals others) (literals_of seconds) n) (ap or_zero main_same)

-- ---- programs

derived_all : UnitsAreDerived → (trees : List PlainTree) → AreUnits trees → AllDerived trees
derived_all derived [] h = tt
derived_all derived (tree ∷ rest) h = (derived tree h.0, derived_all derived rest h.1)

nothing_numbered : (named : ℕ → Correspondence) (i : ℕ) → SameNumbers (naming (named i)) (no_numbers i) (no_numbers i)
nothing_numbered named i = record { globals = λ a b e. refl; functions = λ a b e. refl; literals = λ bytes. refl }

pub programs_are_alike : UnitsAreDerived → ProgramsAreAlike
programs_are_alike derived named trees others linked after bindings behind units same_ left right binds names =
    let again : List PlainTree → Units → Checked Units = λ ts first. judged_units (numbers_in first.units (literals_of ts)) (length (listed first.units false)) 0 [] ts in
    let one_left = bound (judged_units no_numbers 0 0 [] trees) (again trees) linked bindings left in
    let one_right = bound (judged_units no_numbers 0 0 [] others) (again others) after behind right in
    let all = derived_all derived trees units in
    let by_unit : ℕ → Naming = λ i. naming (named i) in
    let law : Lawful by_unit one_left.value.units = lawful named one_left.value.units names.each (names.linked no_numbers 0 one_left.value one_left.before one_left.first) in
    let first = units_alike named law.one no_numbers no_numbers (nothing_numbered named) 0 trees others all same_ 0 [] [] tt binds one_left.value one_right.value one_left.before one_right.before one_left.first one_right.first in
    let pairs = pairs_from by_unit one_left.value.units one_right.value.units law [] one_left.value.units one_right.value.units 0 refl refl first.units in
    let texts : literals_of trees ≡ literals_of others = literals_same trees others same_ all in
    let count : length (listed one_left.value.units false) ≡ length (listed one_right.value.units false) =
    zip_length (ListedAlike by_unit one_left.value.units one_right.value.units law pairs) (listed one_left.value.units false) (listed one_right.value.units false) (lists_alike by_unit one_left.value.units one_right.value.units law pairs false) in
    let judged_right : judged_units (numbers_in one_right.value.units (literals_of trees)) (length (listed one_left.value.units false)) 0 [] others ≡ fine after one_right.behind =
    subst (λ n. judged_units (numbers_in one_right.value.units (literals_of trees)) n 0 [] others ≡ fine after one_right.behind) (sym count)
    (subst (λ l. judged_units (numbers_in one_right.value.units l) (length (listed one_right.value.units false)) 0 [] others ≡ fine after one_right.behind) (sym texts) one_right.rest) in
    let lawful_ : Lawful by_unit linked.units = lawful named linked.units names.each (names.linked (numbers_in one_left.value.units (literals_of trees)) (length (listed one_left.value.units false)) linked one_left.behind one_left.rest) in
    let second = units_alike named lawful_.one (numbers_in one_left.value.units (literals_of trees)) (numbers_in one_right.value.units (literals_of trees)) (λ i. numbers_same by_unit one_left.value.units one_right.value.units law pairs (literals_of trees) i)
    (length (listed one_left.value.units false)) trees others all same_ 0 [] [] tt binds linked after one_left.behind one_right.behind one_left.rest judged_right in
    let pairs_ = pairs_from by_unit linked.units after.units lawful_ [] linked.units after.units 0 refl refl second.units in
    program_same by_unit linked.units after.units lawful_ pairs_ trees others linked.structs after.structs second.structs texts

pub elaborations_are_alike : UnitsAreDerived → ElaborationsAreAlike
elaborations_are_alike derived named trees others p q units same_ left right binds names =
    left.program ∙ programs_are_alike derived named trees others left.linked right.linked left.bindings right.bindings units same_ left.judged right.judged binds names ∙ sym right.program
