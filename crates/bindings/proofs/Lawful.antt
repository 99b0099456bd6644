-- The laws on judged units.
use Rattle.std.proofs.Common.{◌≡◌, ℕ, ◌+◌, Bool, true, false, List, [], ◌∷◌, ◌++◌, refl, sym, ap, subst, ◌∙◌, length, IsTrue}
use Rattle.std.specs.Prelude.{not, ◌&&◌, ◌||◌, Option, Some, None, is_some, if◌then◌else◌}
use Rattle.std.proofs.lemmas.Option.{none-some}
use Rattle.std.specs.List.{AllByRecursion, AllZip}
use Rattle.std.specs.Str.{bytes_eq}
use Rattle.std.specs.Cmp.Lexicographic.{bytes_decides}
use Rattle.std.proofs.lemmas.Bool.{false≢true, and_parts, and_from}
use Rattle.c_text.specs.Token.{PlainToken}
use Rattle.c_tree.specs.declared.kinds.Kind.TheVariants as k
use Rattle.c_tree.specs.Trees.{PlainTree, leaf, node}
use Rattle.core_meaning.specs.declared.refusals.TypeKind.TheVariants.{Undeclared}
use Rattle.core_meaning.specs.Checking.{Entity, file_entity, Binding as JudgedBinding, Checked, fine, refused, broken, with_bindings, ◌>>=◌, give}
use Rattle.core_meaning.specs.Entities.{Struct, FileName, Numbers}
use Rattle.core_meaning.specs.UnitNames.{UnitState, judged_unit}
use Rattle.core_meaning.specs.Linking.{is_use_of, uses_in, Units, closed, judged_units, no_numbers, numbers_in, literals_of, listed}
use Rattle.tree_derivations.specs.Derivations.{UnitsAreDerived}
use Rattle.bindings.specs.Visible.{Binding, bound_to, undeclared, member_use, Occurrence, uses_among}
use Rattle.bindings.specs.Bindings.{bindings_of}
use Rattle.bindings.specs.Judged.{same_entity, Identified, first_with, identified, AreAlike, is_file_entity, IsUsedAlike, IsFirstUndeclared, AreDeclared}
use Rattle.bindings.proofs.Histories.{recorded, Grows, recorded_grows, is_declared}
use Rattle.bindings.specs.Laws.{IsWritten, AreWritten, JudgementsBindAlike, FileNamesAreUsedAlike, UndeclaredIsFirst, DeclaredIsUnrefused, UnitsAreJudged, ProgramsAreJudged, IsVisibleIn, BoundNamesAreVisible}
use Rattle.bindings.proofs.Follows.{used_alike, all_used_alike}
use Rattle.bindings.proofs.Items.{Bound, Binds}
use Rattle.bindings.proofs.Pieces.{holds_of}
use Rattle.bindings.proofs.Units.{AreVisible, unit_read}

written_read : UnitsAreDerived → (tree : PlainTree) → IsWritten tree → (globals : ℕ) (structs : List Struct) (numbers : Numbers) → Binds [] [] (bindings_of tree) AreVisible (judged_unit globals structs numbers tree)
written_read derived (leaf token) w globals structs numbers = absurd (derived (leaf token) w.unit)
written_read derived (node k.Unit parts) w globals structs numbers = unit_read (derived (node k.Unit parts) w.unit) (holds_of (node k.Unit parts) [] w.pieces).0 globals structs numbers
written_read derived (node kind parts) w globals structs numbers = absurd (derived (node kind parts) w.unit)

pub judgements_bind_alike : UnitsAreDerived → JudgementsBindAlike
judgements_bind_alike derived tree w globals structs numbers unit js e =
    let b : Bound [] [] (bindings_of tree) js (AreVisible unit) = subst (Binds [] [] (bindings_of tree) AreVisible) e (written_read derived tree w globals structs numbers) in
    subst (λ os. AreAlike [] os js) (sym b.is) b.alike

-- ---- names of file scope that are bound

some_first : (before : List Identified) (o : Occurrence) (j : JudgedBinding) (e : Entity) → same_entity j.entity e ≡ true → (i : Identified) × (first_with e (before ++ identified o j ∷ []) ≡ Some i)
some_first [] o j e h = (identified o j, ap (λ (b : Bool). if b then Some (identified o j) else None) h)
some_first (x ∷ before) o j e h = by (same_entity x.entity e) (some_first before o j e h)
  where
    by : (b : Bool) → (i : Identified) × (first_with e (before ++ identified o j ∷ []) ≡ Some i) → (i : Identified) × ((if b then Some x else first_with e (before ++ identified o j ∷ [])) ≡ Some i)
    by true f = (x, refl)
    by false f = f

one_visible :
    (unit : UnitState) (h before : List Identified) (o : Occurrence) (j : JudgedBinding) → ((name : List ℕ) → unit.scope.file_names name ≡ None → first_with (file_entity name) h ≡ None)
    → Grows (before ++ identified o j ∷ []) h → (e : Entity) → j.entity ≡ e → IsVisibleIn unit e
one_visible unit h before o j v grows (file_entity name) e = by (unit.scope.file_names name) refl
  where
    by : (n : Option FileName) → unit.scope.file_names name ≡ n → IsTrue (is_some n)
    by (Some n) is = refl
    by None is =
        let f = some_first before o j (file_entity name) (ap (λ x. same_entity x (file_entity name)) e ∙ (bytes_decides name name).1 refl) in
        absurd (none-some f.0 (sym (v name is) ∙ grows (file_entity name) f.0 f.1))
one_visible unit h before o j v grows _ e = tt

all_visible :
    (unit : UnitState) (before : List Identified) (os : List Occurrence) (js : List JudgedBinding) → AreAlike before os js
    → ((name : List ℕ) → unit.scope.file_names name ≡ None → first_with (file_entity name) (recorded before os js) ≡ None) → AllByRecursion (λ j. IsVisibleIn unit j.entity) js
all_visible unit before [] [] a v = tt
all_visible unit before [] (j ∷ js) a v = absurd a
all_visible unit before (o ∷ os) [] a v = absurd a
all_visible unit before (o ∷ os) (j ∷ js) a v = (
  one_visible unit (recorded (before ++ identified o j ∷ []) os js) before o j v (recorded_grows (before ++ identified o j ∷ []) os js) j.entity refl,
  all_visible unit (before ++ identified o j ∷ []) os js a.1 v,
)

pub bound_names_are_visible : UnitsAreDerived → BoundNamesAreVisible
bound_names_are_visible derived tree w globals structs numbers unit js e =
    let b : Bound [] [] (bindings_of tree) js (AreVisible unit) = subst (Binds [] [] (bindings_of tree) AreVisible) e (written_read derived tree w globals structs numbers) in
    all_visible unit [] b.os js b.alike b.after

-- ---- names of file scope that are used

use_named : (name : List ℕ) (e : Entity) → is_use_of name e ≡ true → e ≡ file_entity name
use_named name (file_entity other) h = ap file_entity ((bytes_decides other name).0 h)
use_named name _ h = absurd (false≢true h)

use_is_file : (name : List ℕ) (e : Entity) → is_use_of name e ≡ true → is_file_entity e ≡ true
use_is_file name (file_entity other) h = refl
use_is_file name _ h = absurd (false≢true h)

one_alike : (uses : Bool) (o : Occurrence) (j : JudgedBinding) → o.uses_file_name ≡ uses → used_alike uses o.token.text j ≡ true → IsUsedAlike o j
one_alike true o j e h =
    let both = and_parts j.in_expression (is_use_of o.token.text j.entity) h in
    record { same = e ∙ sym (and_from j.in_expression (is_file_entity j.entity) both.0 (use_is_file o.token.text j.entity both.1)); named = λ used. use_named o.token.text j.entity both.1 }
one_alike false o j e h = record { same = e ∙ sym (not_true (j.in_expression && is_file_entity j.entity) h); named = λ used. absurd (false≢true (sym e ∙ used)) }
  where
    not_true : (b : Bool) → not b ≡ true → b ≡ false
    not_true true h = absurd (false≢true h)
    not_true false h = refl

all_alike : (os : List Occurrence) (js : List JudgedBinding) → all_used_alike os js ≡ true → AllZip IsUsedAlike os js
all_alike [] [] h = tt
all_alike [] (j ∷ js) h = absurd (false≢true h)
all_alike (o ∷ os) [] h = absurd (false≢true h)
all_alike (o ∷ os) (j ∷ js) h =
    let both = and_parts (used_alike o.uses_file_name o.token.text j) (all_used_alike os js) h in
    (one_alike o.uses_file_name o j refl both.0, all_alike os js both.1)

same_use : (uses : Bool) (own name : List ℕ) (b : Bool) (e : Entity) → used_alike uses own (record { entity = e; in_expression = b }) ≡ true → (b && is_use_of name e) ≡ (uses && bytes_eq own name)
same_use true own name true e h = ap (is_use_of name) (use_named own e h)
same_use true own name false e h = absurd (false≢true h)
same_use false own name false e h = refl
same_use false own name true (file_entity other) h = absurd (false≢true h)
same_use false own name true _ h = refl

same_uses : (name : List ℕ) (os : List Occurrence) (js : List JudgedBinding) → all_used_alike os js ≡ true → uses_in js name ≡ uses_among os name
same_uses name [] [] h = refl
same_uses name [] (j ∷ js) h = absurd (false≢true h)
same_uses name (o ∷ os) [] h = absurd (false≢true h)
same_uses name (o ∷ os) (j ∷ js) h =
    let both = and_parts (used_alike o.uses_file_name o.token.text j) (all_used_alike os js) h in
    ap (λ (b : Bool). b || uses_in js name) (same_use o.uses_file_name o.token.text name j.in_expression j.entity both.0)
    ∙ ap (λ (b : Bool). (o.uses_file_name && bytes_eq o.token.text name) || b) (same_uses name os js both.1)

bound_used : UnitsAreDerived → (tree : PlainTree) → IsWritten tree → (globals : ℕ) (structs : List Struct) (numbers : Numbers) (unit : UnitState) (js : List JudgedBinding) → judged_unit globals structs numbers tree ≡ fine unit js → all_used_alike (bindings_of tree) js ≡ true
bound_used derived tree w globals structs numbers unit js e =
    let b : Bound [] [] (bindings_of tree) js (AreVisible unit) = subst (Binds [] [] (bindings_of tree) AreVisible) e (written_read derived tree w globals structs numbers) in
    subst (λ os. all_used_alike os js ≡ true) (sym b.is) b.used

pub file_names_are_used_alike : UnitsAreDerived → FileNamesAreUsedAlike
file_names_are_used_alike derived = record {
  each = λ tree w globals structs numbers unit js e. all_alike (bindings_of tree) js (bound_used derived tree w globals structs numbers unit js e);
  names = λ tree w globals structs numbers unit js e name. same_uses name (bindings_of tree) js (bound_used derived tree w globals structs numbers unit js e);
}

pub undeclared_is_first : UnitsAreDerived → UndeclaredIsFirst
undeclared_is_first derived tree w globals structs numbers at e =
    let u : Binds [] [] (bindings_of tree) AreVisible (refused Undeclared at) = subst (Binds [] [] (bindings_of tree) AreVisible) e (written_read derived tree w globals structs numbers) in
    subst (IsFirstUndeclared at) (sym u.is) u.first

first_isnt_declared : (at : PlainToken) (os : List Occurrence) → AreDeclared os → IsFirstUndeclared at os → ⊥
first_isnt_declared at [] d h = h
first_isnt_declared at (o ∷ os) d h = by o.binding d.0 (first_isnt_declared at os d.1) h
  where
    by :
        (b : Binding) → (elim b as (λ x. Type 0) [ bound_to n ↦ Unit {0} | undeclared ↦ ⊥ | member_use w ↦ Unit {0} ]) → (IsFirstUndeclared at os → ⊥)
        → (elim b as (λ x. Type 0) [ bound_to n ↦ IsFirstUndeclared at os | undeclared ↦ IsTrue (Rattle.core_meaning.specs.Constancy.same_place at o.token) | member_use w ↦ IsFirstUndeclared at os ]) → ⊥
    by (bound_to n) d further h = further h
    by undeclared d further h = d
    by (member_use w) d further h = further h

alike_declared : (before : List Identified) (os : List Occurrence) (js : List JudgedBinding) → AreAlike before os js → AreDeclared os
alike_declared before [] js a = tt
alike_declared before (o ∷ os) [] a = absurd a
alike_declared before (o ∷ os) (j ∷ js) a = (is_declared before o j.entity a.0, alike_declared (before ++ identified o j ∷ []) os js a.1)

pub declared_is_unrefused : UnitsAreDerived → DeclaredIsUnrefused
declared_is_unrefused derived = record {
  unrefused = λ tree w globals structs numbers at d e. first_isnt_declared at (bindings_of tree) d (undeclared_is_first derived tree w globals structs numbers at e);
  declared = λ tree w globals structs numbers unit js e. alike_declared [] (bindings_of tree) js (judgements_bind_alike derived tree w globals structs numbers unit js e);
}

pub units_are_judged : UnitsAreDerived → UnitsAreJudged
units_are_judged derived tree w globals structs numbers e = subst (Binds [] [] (bindings_of tree) AreVisible) e (written_read derived tree w globals structs numbers)

-- ---- programs

abbrev NotBroken : {A : Type 0} → Checked A → Type 0
NotBroken (fine x js) = Unit {0}
NotBroken (refused kind token) = Unit {0}
NotBroken broken = ⊥

never_broken : {A : Type 0} (c : Checked A) → (c ≡ broken → ⊥) → NotBroken c
never_broken (fine x js) f = tt
never_broken (refused kind token) f = tt
never_broken broken f = f refl

whole_with : {A : Type 0} (js : List JudgedBinding) (c : Checked A) → NotBroken c → NotBroken (with_bindings js c)
whole_with js (fine x ks) h = tt
whole_with js (refused kind token) h = tt
whole_with js broken h = h

both_whole : {A B : Type 0} (c : Checked A) (next : A → Checked B) → NotBroken c → ((x : A) → NotBroken (next x)) → NotBroken (c >>= next)
both_whole (fine x js) next h f = whole_with js (next x) (f x)
both_whole (refused kind token) next h f = tt
both_whole broken next h f = h

closed_whole : (c : Checked UnitState) → NotBroken c → NotBroken (closed c)
closed_whole (fine x js) h = tt
closed_whole (refused kind token) h = tt
closed_whole broken h = h

units_whole : UnitsAreDerived → (trees : List PlainTree) → AreWritten trees → (numbers : ℕ → Numbers) (globals index : ℕ) (structs : List Struct) → NotBroken (judged_units numbers globals index structs trees)
units_whole derived [] w numbers globals index structs = tt
units_whole derived (tree ∷ rest) w numbers globals index structs =
    let given_as : Units → Units → Checked Units = λ first others. give (record { units = first.units ++ others.units; structs = others.structs }) in
    both_whole (closed (judged_unit globals structs (numbers index) tree)) (λ first. judged_units numbers globals (index + 1) first.structs rest >>= given_as first)
    (closed_whole (judged_unit globals structs (numbers index) tree) (never_broken (judged_unit globals structs (numbers index) tree) (units_are_judged derived tree w.0 globals structs (numbers index))))
    (λ first. both_whole (judged_units numbers globals (index + 1) first.structs rest) (given_as first) (units_whole derived rest w.1 numbers globals (index + 1) first.structs) (λ others. tt))

pub programs_are_judged : UnitsAreDerived → ProgramsAreJudged
programs_are_judged derived trees w e =
    subst NotBroken e (both_whole (judged_units no_numbers 0 0 [] trees) (λ first. judged_units (numbers_in first.units (literals_of trees)) (length (listed first.units false)) 0 [] trees)
    (units_whole derived trees w no_numbers 0 0 []) (λ first. units_whole derived trees w (numbers_in first.units (literals_of trees)) (length (listed first.units false)) 0 []))
