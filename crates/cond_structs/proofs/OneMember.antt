-- One member more is gathered as it is declared.
use Rattle.std.proofs.Common.{◌≡◌, ℕ, suc, ◌+◌, Bool, true, false, not, ◌&&◌, ◌||◌, List, [], ◌∷◌, ◌++◌, length, map, refl, sym, ap, ap₂, ◌∙◌, subst}
use Rattle.std.specs.Prelude.{Option, Some, None, is_some, option_map, if◌then◌else◌}
use Rattle.std.proofs.lemmas.Bool.{false≢true}
use Rattle.std.proofs.lemmas.List.{map-append}
use Rattle.std.specs.Str.{bytes_eq}
use Rattle.std.specs.Cmp.Lexicographic.{bytes_decides}
use Rattle.c_text.specs.Token.{PlainToken}
use Rattle.c_types.specs.Types.{PlainType}
use Rattle.c_types.specs.Tags.{PlainMember}
use Rattle.c_tree.specs.declared.kinds.Kind.{Kind}
use Rattle.c_tree.specs.Trees.{PlainTree, PlainTrees, leaf, node}
use Rattle.conditional.specs.Judgements.{Checked, fine, refused}
use Rattle.core_meaning.specs.Checking as judging
use Rattle.core_meaning.specs.Checking.{Binding, ◌>>=◌, give, unless_so, declares, member_entity, or_broken}
use Rattle.core_meaning.specs.declared.refusals.TypeKind.TheVariants.{Redeclared, Incomplete}
use Rattle.core_meaning.specs.Constancy as spec
use Rattle.core_meaning.specs.Entities.{Struct, Scope}
use Rattle.core_meaning.specs.Typing.{is_complete}
use Rattle.core_meaning.specs.Declarations.{name_in, object_type}
use Rattle.core_meaning.specs.UnitNames.{Members, declared_member, one_member}
use Rattle.core_meaning.specs.UnitNames as units
use Rattle.declaration_readings.specs.Readings.{Going, after}
use Rattle.operand_types.specs.OperandTypes.{renumbered, outcome_as}
use Rattle.type_tables.specs.Tables.{Tables, member_named, is_complete_type}
use Rattle.type_tables.specs.Follows.{IsThere, AreThere, types_of, place_of, renumbered_member, Follows}
use Rattle.type_tables.proofs.ScalarLaws.{scalars_same}
use Rattle.cond_declarators.specs.Types.{object_type_in}
use Rattle.cond_declarators.proofs.DeclaratorTypes.{complete_followed}
use Rattle.cond_declarators.proofs.There.{objects_are_there}
use Rattle.cond_structs.specs.Gathered.{Gathered, refuse, is_named, with_type, with_outcome, with_member, with_declared}
use Rattle.cond_structs.specs.Walks.{declared_name}
use Rattle.cond_structs.specs.Standing.{Gathers, GathersSoFar}

-- ---- names

or_later_place : (b : Bool) (o : Option ℕ) → is_some (if b then Some 0 else option_map suc o) ≡ (if b then true else is_some o)
or_later_place true o = refl
or_later_place false None = refl
or_later_place false (Some n) = refl

named_or : (b : Bool) (m : PlainMember) (o : Option PlainMember) → is_some (if b then Some m else o) ≡ (if b then true else is_some o)
named_or true m o = refl
named_or false m o = refl

named_same : (by : ℕ → ℕ) (ms : List PlainMember) (name : List ℕ) → is_some (member_named (map (renumbered_member by) ms) name) ≡ is_some (place_of ms name)
named_same by [] name = refl
named_same by (m ∷ ms) name =
    named_or (bytes_eq name m.name) (renumbered_member by m) (member_named (map (renumbered_member by) ms) name)
    ∙ ap (λ b. if bytes_eq name m.name then true else b) (named_same by ms name) ∙ sym (or_later_place (bytes_eq name m.name) (place_of ms name))

-- the place of a name among members behind which one of a new name stands
either_place : (by_first by_last : Bool) (o : Option ℕ) (n : ℕ) → (if by_first then Some 0 else option_map suc (if by_last then Some n else o)) ≡ (if by_first then Some 0 else if by_last then Some (suc n) else option_map suc o)
either_place true by_last o n = refl
either_place false true o n = refl
either_place false false o n = refl

swapped_tests : (a b : Bool) (o : Option ℕ) (n : ℕ) → (a && b) ≡ false → (if a then Some 0 else if b then Some n else o) ≡ (if b then Some n else if a then Some 0 else o)
swapped_tests true true o n e = absurd (false≢true (sym e))
swapped_tests true false o n e = refl
swapped_tests false b o n e = refl

last_place : (ms : List PlainMember) (m : PlainMember) (other : List ℕ) → is_some (place_of ms m.name) ≡ false
    → place_of (ms ++ m ∷ []) other ≡ (if bytes_eq other m.name then Some (length ms) else place_of ms other)
last_place [] m other new = by (bytes_eq other m.name)
  where
    by : (b : Bool) → (if b then Some 0 else option_map suc None) ≡ (if b then Some 0 else None)
    by true = refl
    by false = refl
last_place (x ∷ ms) m other new =
    ap (λ o. if bytes_eq other x.name then Some 0 else option_map suc o) (last_place ms m other (later (bytes_eq m.name x.name) (place_of ms m.name) new))
    ∙ either_place (bytes_eq other x.name) (bytes_eq other m.name) (place_of ms other) (length ms)
    ∙ swapped_tests (bytes_eq other x.name) (bytes_eq other m.name) (option_map suc (place_of ms other)) (suc (length ms)) (not_both (bytes_eq other x.name) (bytes_eq other m.name) refl refl)
  where
    later : (b : Bool) (o : Option ℕ) → is_some (if b then Some 0 else option_map suc o) ≡ false → is_some o ≡ false
    later true o e = absurd (false≢true (sym e))
    later false None e = refl
    later false (Some n) e = e

    here : (b : Bool) (o : Option ℕ) → is_some (if b then Some 0 else option_map suc o) ≡ false → b ≡ false
    here true o e = absurd (false≢true (sym e))
    here false o e = refl

    not_both : (a b : Bool) → bytes_eq other x.name ≡ a → bytes_eq other m.name ≡ b → (a && b) ≡ false
    not_both false b e f = refl
    not_both true false e f = refl
    not_both true true e f =
        let first : other ≡ x.name = (bytes_decides other x.name).0 e in
        let last : other ≡ m.name = (bytes_decides other m.name).0 f in
        sym ((bytes_decides m.name x.name).1 (sym last ∙ first)) ∙ here (bytes_eq m.name x.name) (place_of ms m.name) new

there_too : (structs : List Struct) (ms : List PlainMember) (m : PlainMember) → AreThere structs (types_of ms) → IsThere structs m.ty → AreThere structs (types_of (ms ++ m ∷ []))
there_too structs [] m there also = (also, tt)
there_too structs (x ∷ ms) m there also = (there.0, there_too structs ms m there.1 also)

-- ---- refusals

or_stays : (b c : Bool) → b ≡ true → (b || c) ≡ true
or_stays true c e = refl
or_stays false c e = absurd (false≢true e)

or_true : (b : Bool) → (b || true) ≡ true
or_true true = refl
or_true false = refl

pub outcome_stays : (t : Tables) (name : List ℕ) (outcome : Checked PlainType (Unit {0})) (g : Gathered) → g.refused ≡ true → (with_outcome t name outcome g).refused ≡ true
outcome_stays t name (fine ty) g e = or_stays g.refused (not (is_complete_type t ty)) e
outcome_stays t name (refused why) g e = or_stays g.refused true e

pub member_stays : (t : Tables) (name : List ℕ) (outcome : Checked PlainType (Unit {0})) (g : Gathered) → g.refused ≡ true → (with_member t name outcome g).refused ≡ true
member_stays t name outcome g e = outcome_stays t name outcome (refuse (is_named name g) g) (or_stays g.refused (is_named name g) e)

pub after_stays : {S : Type 0} (k : Going S) (c : judging.Checked S) → k.refused ≡ true → (after k c).refused ≡ true
after_stays k (judging.fine s bindings) e = e
after_stays k (judging.refused kind token) e = refl
after_stays k judging.broken e = refl

pub both_refused : (by : ℕ → ℕ) (structs : List Struct) (g : Gathered) (k : Going Members) → g.refused ≡ true → k.refused ≡ true → GathersSoFar by structs g k
both_refused by structs g k e f = record { refused = e ∙ sym f; gathers = λ h. absurd (false≢true (sym h ∙ f)) }

-- ---- one member

module _ (t : Tables) (scope : Scope) (f : Follows t scope) (number : ℕ) where
  module _ (name : PlainToken) (g : Gathered) (k : Going Members) (so_far : Gathers f.by scope.structs g k.state) (accepted : k.refused ≡ false) (accepted_too : g.refused ≡ false) where
    -- whose type is this one
    whole_gathers : (whole : PlainType) (named complete : Bool) → IsThere scope.structs whole → is_some (place_of k.state.members name.text) ≡ false → named ≡ false → is_complete scope.structs whole ≡ complete
        → GathersSoFar f.by scope.structs (with_type t name.text (renumbered f.by whole) (refuse named g))
        (after k (unless_so complete Incomplete name >>= (λ u. give (units.with_member scope.structs k.state name.text whole))))
    whole_gathers whole named true there new is complete = record {
      refused = ap₂ (λ a b. (a || b) || not (is_complete_type t (renumbered f.by whole))) accepted_too is ∙ ap not (complete_followed t scope f whole there ∙ complete) ∙ sym accepted;
      gathers = λ e. record {
        members =
            ap (λ l. l ++ record { name = name.text; ty = renumbered f.by whole } ∷ []) so_far.members
            ∙ sym (map-append (renumbered_member f.by) k.state.members (record { name = name.text; ty = whole } ∷ []));
        scalars = ap₂ (λ a b. spec.capped (a + b)) so_far.scalars (scalars_same t scope f whole there);
        numbers = λ other.
            ap (λ o. if bytes_eq other name.text then Some (length k.state.members) else o) (so_far.numbers other)
            ∙ sym (last_place k.state.members (record { name = name.text; ty = whole }) other new);
        there = there_too scope.structs k.state.members (record { name = name.text; ty = whole }) so_far.there there;
      };
    }
    whole_gathers whole named false there new is complete =
        both_refused f.by scope.structs _ _ (ap (λ b. (g.refused || named) || not b) (complete_followed t scope f whole there ∙ complete) ∙ or_true (g.refused || named)) refl

    -- whose declarator comes to this
    object_gathers : (c : judging.Checked PlainType) (named : Bool) → ((whole : PlainType) (bindings : List Binding) → c ≡ judging.fine whole bindings → IsThere scope.structs whole)
        → is_some (place_of k.state.members name.text) ≡ false → named ≡ false
        → GathersSoFar f.by scope.structs (with_outcome t name.text (outcome_as (renumbered f.by) c) (refuse named g))
        (after k (c >>= (λ whole. unless_so (is_complete scope.structs whole) Incomplete name >>= (λ u. give (units.with_member scope.structs k.state name.text whole)))))
    object_gathers (judging.fine whole bindings) named there new is =
        let h = whole_gathers whole named (is_complete scope.structs whole) (there whole bindings refl) new is refl in
        subst (λ x. GathersSoFar f.by scope.structs (with_type t name.text (renumbered f.by whole) (refuse named g)) x)
        (sym (bound_too bindings (unless_so (is_complete scope.structs whole) Incomplete name >>= (λ u. give (units.with_member scope.structs k.state name.text whole))))) h
      where
        bound_too : (bindings : List Binding) (c : judging.Checked Members) → after k (judging.with_bindings bindings c) ≡ after k c
        bound_too bindings (judging.fine s more_) = refl
        bound_too bindings (judging.refused kind token) = refl
        bound_too bindings judging.broken = refl
    object_gathers (judging.refused kind token) named there new is = both_refused f.by scope.structs _ _ (or_true (g.refused || named)) refl
    object_gathers judging.broken named there new is = both_refused f.by scope.structs _ _ (or_true (g.refused || named)) refl

    -- if its name is new
    named_gathers : (c : judging.Checked PlainType) (named : Bool) → ((whole : PlainType) (bindings : List Binding) → c ≡ judging.fine whole bindings → IsThere scope.structs whole)
        → is_some (place_of k.state.members name.text) ≡ named
        → GathersSoFar f.by scope.structs (with_outcome t name.text (outcome_as (renumbered f.by) c) (refuse named g))
        (after k (unless_so (not named) Redeclared name >>= (λ new. declares (member_entity number (length k.state.members)) >>= (λ bound.
        c >>= (λ whole. unless_so (is_complete scope.structs whole) Incomplete name >>= (λ u. give (units.with_member scope.structs k.state name.text whole)))))))
    named_gathers c true there is =
        both_refused f.by scope.structs _ _ (outcome_stays t name.text (outcome_as (renumbered f.by) c) (refuse true g) (or_true g.refused)) refl
    named_gathers c false there is =
        subst (λ x. GathersSoFar f.by scope.structs (with_outcome t name.text (outcome_as (renumbered f.by) c) (refuse false g)) x)
        (sym (bound_twice (c >>= (λ whole. unless_so (is_complete scope.structs whole) Incomplete name >>= (λ u. give (units.with_member scope.structs k.state name.text whole))))))
        (object_gathers c false there is refl)
      where
        bound_twice : (c : judging.Checked Members)
            → after k (judging.with_bindings [] (judging.with_bindings (record { entity = member_entity number (length k.state.members); in_expression = false } ∷ []) c)) ≡ after k c
        bound_twice (judging.fine s more_) = refl
        bound_twice (judging.refused kind token) = refl
        bound_twice judging.broken = refl

  module _ (ty : PlainType) (there : IsThere scope.structs ty) where
    declared_gathers : (kind : Kind) (parts : PlainTrees) (name : PlainToken) (g : Gathered) (k : Going Members) → GathersSoFar f.by scope.structs g k
        → GathersSoFar f.by scope.structs (with_member t name.text (outcome_as (renumbered f.by) (object_type scope ty kind parts name None)) g) (after k (declared_member scope number k.state ty kind parts name))
    declared_gathers kind parts name g k so_far = by k.refused refl
      where
        by : (b : Bool) → k.refused ≡ b
            → GathersSoFar f.by scope.structs (with_member t name.text (outcome_as (renumbered f.by) (object_type scope ty kind parts name None)) g) (after k (declared_member scope number k.state ty kind parts name))
        by true e =
            both_refused f.by scope.structs _ _ (member_stays t name.text (outcome_as (renumbered f.by) (object_type scope ty kind parts name None)) g (so_far.refused ∙ e))
            (after_stays k (declared_member scope number k.state ty kind parts name) e)
        by false e =
            let is = so_far.gathers e in
            let numbered : is_some (k.state.numbers name.text) ≡ is_some (place_of k.state.members name.text) = ap is_some (is.numbers name.text) in
            let named : is_named name.text g ≡ is_some (k.state.numbers name.text) =
            ap (λ l. is_some (member_named l name.text)) is.members ∙ named_same f.by k.state.members name.text ∙ sym numbered in
            subst
            (λ b. GathersSoFar f.by scope.structs (with_outcome t name.text (outcome_as (renumbered f.by) (object_type scope ty kind parts name None)) (refuse b g))
            (after k (declared_member scope number k.state ty kind parts name)))
            (sym named)
            (named_gathers name g k is e (so_far.refused ∙ e) (object_type scope ty kind parts name None) (is_some (k.state.numbers name.text))
            (λ whole bindings same. objects_are_there scope ty there (node kind parts) name None whole bindings same) (sym numbered))

    pub one_gathers : (tree : PlainTree) (g : Gathered) (k : Going Members) → GathersSoFar f.by scope.structs g k
        → GathersSoFar f.by scope.structs (with_declared t (λ name. outcome_as (renumbered f.by) (object_type_in scope ty tree name None)) (declared_name tree) g) (after k (one_member scope number k.state ty tree))
    one_gathers (leaf token) g k so_far = both_refused f.by scope.structs _ _ (or_true g.refused) refl
    one_gathers (node kind parts) g k so_far = by (name_in parts)
      where
        bound_too : (c : judging.Checked Members) → after k (judging.with_bindings [] c) ≡ after k c
        bound_too (judging.fine s more_) = refl
        bound_too (judging.refused kind token) = refl
        bound_too judging.broken = refl

        by : (o : Option PlainToken)
            → GathersSoFar f.by scope.structs (with_declared t (λ name. outcome_as (renumbered f.by) (object_type scope ty kind parts name None)) o g)
            (after k (or_broken o >>= (λ name. declared_member scope number k.state ty kind parts name)))
        by None = both_refused f.by scope.structs _ _ (or_true g.refused) refl
        by (Some name) =
            subst (λ x. GathersSoFar f.by scope.structs (with_member t name.text (outcome_as (renumbered f.by) (object_type scope ty kind parts name None)) g) x)
            (sym (bound_too (declared_member scope number k.state ty kind parts name))) (declared_gathers kind parts name g k so_far)
