-- Tables go on to follow a scope where structs are declared and completed.
use Rattle.std.proofs.Common.{arith, ◌≡◌, ℕ, zero, suc, Bool, true, false, List, [], ◌∷◌, ◌++◌, length, refl, sym, ap, ap₂, subst, not, ◌∙◌}
use Rattle.std.specs.Prelude.{◌<◌, ◌==◌, ◌&&◌, map, Option, Some, None, option_map, slice_get, if◌then◌else◌}
use Rattle.std.specs.Str.{bytes_eq}
use Rattle.std.proofs.lemmas.Bool.{eq-eqb, ne_eqb, eqb-true, false≢true}
use Rattle.std.proofs.lemmas.Option.{slice_get_within}
use Rattle.core_meaning.specs.Entities.{Struct, Scope, local_in}
use Rattle.core_meaning.specs.Declarations.{new_struct, with_struct}
use Rattle.core_meaning.specs.UnitNames.{Members, completed, with_members_at}
use Rattle.bindings.proofs.Tags.{kept_left, last_there}
use Rattle.type_tables.specs.Tables.{Tables, local_named}
use Rattle.type_tables.specs.Steps.{with_declared, with_completed}
use Rattle.type_tables.specs.Follows.{AreThere, types_of, place_of, renumbered_member, StructFollows, Follows}
use Rattle.type_tables.specs.Numbers.{NumbersKept}
use Rattle.type_tables.proofs.Options.{some_same}
use Rattle.type_tables.proofs.Renumbering.{members_same, name_follows, local_follows, Has, still_there, all_still_there, sort_still_there, swapped, swapped_second, swapped_other, swapped_apart}

-- ---- a struct that is declared

before_declared : (b was : Bool) → (if b then true else was) ≡ false → was ≡ false
before_declared true was h = absurd (false≢true (sym h))
before_declared false was h = h

found_or_new : (structs : List Struct) (s x : Struct) (n : ℕ) → slice_get (structs ++ s ∷ []) n ≡ Some x → (n ≡ length structs → ⊥) → slice_get structs n ≡ Some x
found_or_new [] s x zero h other = absurd (other refl)
found_or_new [] s x (suc n) h other = absurd cc
found_or_new (y ∷ structs) s x zero h other = h
found_or_new (y ∷ structs) s x (suc n) h other = found_or_new structs s x n h (λ e. other (ap suc e))

module _ (t : Tables) (scope : Scope) (f : Follows t scope) (name : List ℕ) (number : ℕ) (undeclared : t.declared number ≡ false) where
  abbrev last : ℕ
  last = length scope.structs

  abbrev by_swapped : ℕ → ℕ
  by_swapped n = swapped number (f.by last) (f.by n)

  abbrev more : List Struct
  more = scope.structs ++ new_struct name ∷ []

  agree : NumbersKept scope.structs f.by by_swapped
  agree n s e =
      sym (swapped_other number (f.by last) (f.by n)
      (λ h. false≢true (sym undeclared ∙ ap t.declared (sym h) ∙ (f.structs n s e).declared))
      (λ h. less_than n (slice_get_within scope.structs n s e) (eqb-true n last (sym (f.apart.apart n last) ∙ eq-eqb (f.by n) (f.by last) h))))
    where
      less_than : (n : ℕ) → n < last → n ≡ last → ⊥
      less_than n h e = let same_ : n ≡ last = e in omega (arith, h, same_)

  has : Has scope.structs more
  has n s e = (s, kept_left scope.structs (new_struct name ∷ []) n s e)

  still_declared : (b : Bool) (n : ℕ) → t.declared n ≡ true → (if b then true else t.declared n) ≡ true
  still_declared true n h = refl
  still_declared false n h = h

  still_named : (b : Bool) (m : ℕ) → t.declared m ≡ true → (if b && not (t.declared m) then name else t.named m) ≡ t.named m
  still_named true m h = ap (λ d. if not d then name else t.named m) h
  still_named false m h = refl

  old_struct : (n : ℕ) (s : Struct) → slice_get scope.structs n ≡ Some s → StructFollows by_swapped (with_declared name number t) more n s
  old_struct n s e =
      let is = f.structs n s e in
      record {
        declared = still_declared (by_swapped n == number) (by_swapped n) (ap t.declared (sym (agree n s e)) ∙ is.declared);
        complete = ap t.complete (sym (agree n s e)) ∙ is.complete;
        members = λ c. ap t.members (sym (agree n s e)) ∙ is.members c ∙ members_same scope.structs f.by by_swapped agree s.members (is.there c);
        numbers = is.numbers;
        there = λ c. all_still_there scope.structs more has (types_of s.members) (is.there c);
        scalars = ap t.scalars (sym (agree n s e)) ∙ is.scalars;
        none_before = is.none_before;
        named = still_named (by_swapped n == number) (by_swapped n) (ap t.declared (sym (agree n s e)) ∙ is.declared) ∙ ap t.named (sym (agree n s e)) ∙ is.named;
      }

  incomplete : t.complete number ≡ false
  incomplete = f.completes number undeclared

  last_number : by_swapped last ≡ number
  last_number = swapped_second number (f.by last)

  last_struct : (s : Struct) → s ≡ new_struct name → StructFollows by_swapped (with_declared name number t) more last s
  last_struct s e = record {
    declared = ap (λ b. if b then true else t.declared (by_swapped last)) (eq-eqb (by_swapped last) number last_number);
    complete = ap t.complete last_number ∙ incomplete ∙ sym (ap (λ (s : Struct). s.complete) e);
    members = λ c. absurd (false≢true (sym (ap (λ (s : Struct). s.complete) e) ∙ c));
    numbers = λ c. absurd (false≢true (sym (ap (λ (s : Struct). s.complete) e) ∙ c));
    there = λ c. absurd (false≢true (sym (ap (λ (s : Struct). s.complete) e) ∙ c));
    scalars = ap t.scalars last_number ∙ f.uncounted number incomplete ∙ sym (ap (λ (s : Struct). s.scalars) e);
    none_before = λ c. ap (λ (s : Struct). s.members) e;
    named =
        ap₂ (λ (b d : Bool). if b && not d then name else t.named (by_swapped last)) (eq-eqb (by_swapped last) number last_number) (ap t.declared last_number ∙ undeclared)
        ∙ sym (ap (λ (s : Struct). s.name) e);
  }

  each_struct : (n : ℕ) (s : Struct) → slice_get more n ≡ Some s → StructFollows by_swapped (with_declared name number t) more n s
  each_struct n s e = at (n == last) refl
    where
      at : (b : Bool) → (n == last) ≡ b → StructFollows by_swapped (with_declared name number t) more n s
      at true h =
          subst (λ m. StructFollows by_swapped (with_declared name number t) more m s) (sym (eqb-true n last h))
          (last_struct s (some_same s (new_struct name) (sym e ∙ ap (slice_get more) (eqb-true n last h) ∙ last_there scope.structs (new_struct name))))
      at false h = old_struct n s (found_or_new scope.structs (new_struct name) s n e (λ i. false≢true (sym h ∙ eq-eqb n last i)))

  tag_same : (other : List ℕ) (o : Option ℕ) → ((n : ℕ) → o ≡ Some n → (s : Struct) × (slice_get scope.structs n ≡ Some s)) → option_map f.by o ≡ option_map by_swapped o
  tag_same other None there = refl
  tag_same other (Some n) there = let found = there n refl in ap Some (agree n found.0 found.1)

  either_tag : (b : Bool) (other : List ℕ) → (if b then Some number else t.tags other) ≡ option_map by_swapped (if b then Some last else scope.tags other)
  either_tag true other = ap Some (sym last_number)
  either_tag false other = f.tags other ∙ tag_same other (scope.tags other) (f.tagged other)

  either_tagged : (b : Bool) (other : List ℕ) (n : ℕ) → (if b then Some last else scope.tags other) ≡ Some n → (s : Struct) × (slice_get more n ≡ Some s)
  either_tagged true other n e = (new_struct name, ap (slice_get more) (sym (some_same last n e)) ∙ last_there scope.structs (new_struct name))
  either_tagged false other n e = let found = f.tagged other n e in has n found.0 found.1

  pub struct_declared : Follows (with_declared name number t) (with_struct scope name)
  struct_declared = record {
    by = by_swapped;
    apart = swapped_apart number (f.by last) f.by f.apart;
    structs = each_struct;
    tags = λ other. either_tag (bytes_eq other name) other;
    tagged = λ other. either_tagged (bytes_eq other name) other;
    names = λ other. name_follows scope.structs f.by by_swapped agree t.signatures (scope.file_names other) (t.names other) (f.names_there other) (f.names other);
    names_there = λ other n e. sort_still_there scope.structs more has n.sort (f.names_there other n e);
    names_numbered = f.names_numbered;
    locals = λ other. local_follows scope.structs f.by by_swapped agree (local_in scope.blocks other) (local_named t.locals other) (f.locals_there other) (f.locals other);
    locals_there = λ other l e. still_there scope.structs more has l.ty (f.locals_there other l e);
    within = f.within;
    completes = λ n h. f.completes n (before_declared (n == number) (t.declared n) h);
    uncounted = f.uncounted;
  }

  -- the structs that were there keep their numbers
  pub numbers_kept : NumbersKept scope.structs f.by struct_declared.by
  unfolding struct_declared
  numbers_kept = agree

-- ---- a struct that is completed

got_completed : (structs : List Struct) (n : ℕ) (s : Struct) (known : Members) → slice_get structs n ≡ Some s → slice_get (with_members_at n known structs) n ≡ Some (completed known s)
got_completed [] n s known e = absurd cc
got_completed (x ∷ structs) zero s known e = ap (option_map (completed known)) e
got_completed (x ∷ structs) (suc n) s known e = got_completed structs n s known e

got_other : (structs : List Struct) (n m : ℕ) (known : Members) → (m ≡ n → ⊥) → slice_get (with_members_at n known structs) m ≡ slice_get structs m
got_other [] n m known h = refl
got_other (x ∷ structs) zero zero known h = absurd (h refl)
got_other (x ∷ structs) zero (suc m) known h = refl
got_other (x ∷ structs) (suc n) zero known h = refl
got_other (x ∷ structs) (suc n) (suc m) known h = got_other structs n m known (λ e. h (ap suc e))

module _ (t : Tables) (scope : Scope) (f : Follows t scope) (number : ℕ) (found : Struct) (is_found : slice_get scope.structs number ≡ Some found) (known : Members)
    (in_order : (name : List ℕ) → known.numbers name ≡ place_of known.members name) (there : AreThere scope.structs (types_of known.members)) where
  abbrev completed_tables : Tables
  completed_tables = with_completed (f.by number) (map (renumbered_member f.by) known.members) known.scalars t

  abbrev now : List Struct
  now = with_members_at number known scope.structs

  has_now : Has scope.structs now
  has_now n s e = at (n == number) refl
    where
      at : (b : Bool) → (n == number) ≡ b → (s : Struct) × (slice_get now n ≡ Some s)
      at true h = (completed known found, ap (slice_get now) (eqb-true n number h) ∙ got_completed scope.structs number found known is_found)
      at false h = (s, got_other scope.structs number n known (λ i. false≢true (sym h ∙ eq-eqb n number i)) ∙ e)

  this_struct : (s : Struct) → completed known found ≡ s → StructFollows f.by completed_tables now number s
  this_struct s e = record {
    declared = (f.structs number found is_found).declared;
    complete = ap (λ b. if b then true else t.complete (f.by number)) (eq-eqb (f.by number) (f.by number) refl) ∙ ap (λ (s : Struct). s.complete) e;
    members = λ c.
        ap (λ b. if b then map (renumbered_member f.by) known.members else t.members (f.by number)) (eq-eqb (f.by number) (f.by number) refl)
        ∙ ap (λ (s : Struct). map (renumbered_member f.by) s.members) e;
    numbers = λ c name. ap (λ (s : Struct). s.numbers name) (sym e) ∙ in_order name ∙ ap (λ (s : Struct). place_of s.members name) e;
    there = λ c. subst (λ (s : Struct). AreThere now (types_of s.members)) e (all_still_there scope.structs now has_now (types_of known.members) there);
    scalars =
        ap (λ b. if b then known.scalars else t.scalars (f.by number)) (eq-eqb (f.by number) (f.by number) refl)
        ∙ ap (λ (s : Struct). s.scalars) e;
    none_before = λ c. absurd (false≢true (sym c ∙ sym (ap (λ (s : Struct). s.complete) e)));
    named = (f.structs number found is_found).named ∙ ap (λ (s : Struct). s.name) e;
  }

  other_struct : (n : ℕ) (s : Struct) → (n ≡ number → ⊥) → slice_get scope.structs n ≡ Some s → StructFollows f.by completed_tables now n s
  other_struct n s differs e =
      let is = f.structs n s e in
      let apart : (f.by n == f.by number) ≡ false = f.apart.apart n number ∙ ne_eqb n number differs in
      record {
        declared = is.declared;
        complete = ap (λ b. if b then true else t.complete (f.by n)) apart ∙ is.complete;
        members = λ c. ap (λ b. if b then map (renumbered_member f.by) known.members else t.members (f.by n)) apart ∙ is.members c;
        numbers = is.numbers;
        there = λ c. all_still_there scope.structs now has_now (types_of s.members) (is.there c);
        scalars = ap (λ b. if b then known.scalars else t.scalars (f.by n)) apart ∙ is.scalars;
        none_before = is.none_before;
        named = is.named;
      }

  struct_now : (n : ℕ) (s : Struct) → slice_get now n ≡ Some s → StructFollows f.by completed_tables now n s
  struct_now n s e = at (n == number) refl
    where
      same : {A : Type 0} (x y : A) → Some x ≡ Some y → x ≡ y
      same x y e = cc

      at : (b : Bool) → (n == number) ≡ b → StructFollows f.by completed_tables now n s
      at true h =
          subst (λ m. StructFollows f.by completed_tables now m s) (sym (eqb-true n number h))
          (this_struct s (same (completed known found) s (sym (got_completed scope.structs number found known is_found) ∙ sym (ap (slice_get now) (eqb-true n number h)) ∙ e)))
      at false h =
          let differs : (n ≡ number → ⊥) = λ i. false≢true (sym h ∙ eq-eqb n number i) in
          other_struct n s differs (sym (got_other scope.structs number n known differs) ∙ e)

  still_incomplete : (n : ℕ) → t.declared n ≡ false → (b : Bool) → (n == f.by number) ≡ b → (if b then true else t.complete n) ≡ false
  still_incomplete n h true e = absurd (false≢true (sym h ∙ ap t.declared (eqb-true n (f.by number) e) ∙ (f.structs number found is_found).declared))
  still_incomplete n h false e = f.completes n h

  still_uncounted : (b : Bool) (n : ℕ) → (if b then true else t.complete n) ≡ false → (if b then known.scalars else t.scalars n) ≡ 0
  still_uncounted true n h = absurd (false≢true (sym h))
  still_uncounted false n h = f.uncounted n h

  pub struct_completed : Follows completed_tables (record scope { structs = now })
  struct_completed = record {
    by = f.by;
    apart = f.apart;
    structs = struct_now;
    tags = f.tags;
    tagged = λ name n e. let s = f.tagged name n e in has_now n s.0 s.1;
    names = f.names;
    names_there = λ name n e. sort_still_there scope.structs now has_now n.sort (f.names_there name n e);
    names_numbered = f.names_numbered;
    locals = f.locals;
    locals_there = λ name l e. still_there scope.structs now has_now l.ty (f.locals_there name l e);
    within = f.within;
    completes = λ n h. still_incomplete n h (n == f.by number) refl;
    uncounted = λ n h. still_uncounted (n == f.by number) n h;
  }

  pub completed_by : struct_completed.by ≡ f.by
  unfolding struct_completed
  completed_by = refl
