-- What is seen of tables where a struct is added, declared or completed.
use Rattle.std.proofs.Common.{arith, ◌≡◌, ℕ, Bool, true, false, not, ◌&&◌, ◌||◌, List, [], ◌∷◌, ◌++◌, length, refl, sym, ap, ◌∙◌}
use Rattle.std.specs.Prelude.{◌==◌, reverse, Option, Some, None, Vec, slice_get, slice_set, if◌then◌else◌}
use Rattle.std.specs.HashMap.{HashMap}
use Rattle.std.specs.declared.alloc.Global.{Global}
use Rattle.std.specs.Str.{bytes_eq}
use Rattle.std.specs.Cmp.Lexicographic.{bytes_decides}
use Rattle.std.proofs.lemmas.Option.{slice_get_past}
use Rattle.std.proofs.lemmas.Bool.{eq-eqb, eqb-true, false≢true}
use Rattle.c_types.specs.Tags.{PlainMember}
use Rattle.core_meaning.specs.Entities.{with_entry}
use Rattle.core_meaning.specs.Constancy.{capped}
use Rattle.name_places.specs.Places.{place_of}
use Rattle.type_tables.specs.Tables as plain
use Rattle.type_tables.specs.Seen.{holds, is_declared, is_complete, members_of, scalars_of, tag_of, is_of_tag, tag_in, name_in, signature_of, locals_in, seen_tables}
use Rattle.type_tables.specs.Steps.{with_declared, with_completed, where_true}
use Rattle.type_tables.specs.Questions.{where_declared}
use Rattle.type_tables.specs.Changes.{IsUndeclared, Declares, Completes, has_tag_in, is_free, AddsStruct}
use Rattle.type_tables.specs.declared.entries.CondStruct.{CondStruct}
use Rattle.type_tables.specs.declared.entries.CondName.{CondName}
use Rattle.type_tables.specs.declared.entries.CondSignature.{CondSignature}
use Rattle.type_tables.specs.declared.entries.LocalName.{LocalName}
use Rattle.type_tables.specs.declared.tables.Tables.{Tables}
use Rattle.bindings.proofs.Tags.{last_there}
use Rattle.type_tables.proofs.Lists.{set_there, set_other}
use Rattle.type_tables.proofs.Same.{declared_more, complete_more, members_more, scalars_more, named_more, tag_in_more, structs_same}

module _ (on : ℕ → Bool) where
  -- what is seen, part by part
  abbrev pub seen_with : {S : Type 0} → List CondStruct → (List ℕ → Option ℕ) → HashMap (Vec ℕ Global) ℕ S → List CondName → List CondSignature → List LocalName → ℕ → plain.Tables
  seen_with structs places names declared signatures locals depth = record {
    declared = λ n. is_declared on (slice_get structs n);
    complete = λ n. is_complete on (slice_get structs n);
    members = λ n. members_of on (slice_get structs n);
    scalars = λ n. scalars_of on (slice_get structs n);
    named = λ n. tag_of on (slice_get structs n);
    tags = λ tag. tag_in on structs tag (places tag);
    names = λ name. name_in on declared name (place_of names name);
    signatures = λ n. signature_of on (slice_get signatures n);
    functions = length signatures;
    locals = locals_in on (reverse locals);
    depth = depth;
  }

  -- the tables that differ in structs and tags
  structs_alone : (old new : Tables) → new.names ≡ old.names → new.declared ≡ old.declared → new.signatures ≡ old.signatures → new.locals ≡ old.locals → new.depth ≡ old.depth
      → seen_tables on new ≡ seen_with new.structs.items (place_of new.tags) old.names old.declared.items old.signatures.items old.locals.items old.depth
  structs_alone old new n d s l e =
      ap (λ x. seen_with new.structs.items (place_of new.tags) x new.declared.items new.signatures.items new.locals.items new.depth) n
      ∙ ap (λ (x : Vec CondName Global). seen_with new.structs.items (place_of new.tags) old.names x.items new.signatures.items new.locals.items new.depth) d
      ∙ ap (λ (x : Vec CondSignature Global). seen_with new.structs.items (place_of new.tags) old.names old.declared.items x.items new.locals.items new.depth) s
      ∙ ap (λ (x : Vec LocalName Global). seen_with new.structs.items (place_of new.tags) old.names old.declared.items old.signatures.items x.items new.depth) l
      ∙ ap (λ x. seen_with new.structs.items (place_of new.tags) old.names old.declared.items old.signatures.items old.locals.items x) e

  -- ---- a struct that is added

  nothing_seen : (structs : List CondStruct) (tag : List ℕ) (place : Option ℕ) → is_free structs place tag ≡ true → tag_in on structs tag place ≡ None
  nothing_seen structs tag None h = refl
  nothing_seen structs tag (Some n) h = by (slice_get structs n) h
    where
      off : (b : Bool) (s : CondStruct) → not b ≡ true → (if b && holds on s.declared then Some n else None) ≡ None
      off true s h = absurd (false≢true h)
      off false s h = refl

      by : (s : Option CondStruct) → not (elim s as (λ x. Bool) [ None ↦ false | Some s ↦ bytes_eq tag s.tag.items ]) ≡ true → (if is_of_tag on tag s then Some n else None) ≡ None
      by None h = refl
      by (Some s) h = off (bytes_eq tag s.tag.items) s h

  undeclared_tag : (structs : List CondStruct) (tag : List ℕ) (u : CondStruct) → IsUndeclared tag u → tag_in on (structs ++ u ∷ []) tag (Some (length structs)) ≡ None
  undeclared_tag structs tag u is = tag_in_more on tag u is structs tag (Some (length structs)) ∙ past structs
    where
      past : (structs : List CondStruct) → tag_in on structs tag (Some (length structs)) ≡ None
      past structs = ap (λ s. if is_of_tag on tag s then Some (length structs) else None) (slice_get_past structs (length structs) (omega (arith)))

  tag_added : (structs : List CondStruct) (tag other : List ℕ) (u : CondStruct) (is : IsUndeclared tag u) (places : List ℕ → Option ℕ) → is_free structs (places tag) tag ≡ true
      → tag_in on (structs ++ u ∷ []) other (with_entry places tag (length structs) other) ≡ tag_in on structs other (places other)
  tag_added structs tag other u is places free = by (bytes_eq other tag) refl
    where
      by : (b : Bool) → bytes_eq other tag ≡ b → tag_in on (structs ++ u ∷ []) other (if b then Some (length structs) else places other) ≡ tag_in on structs other (places other)
      by false h = tag_in_more on tag u is structs other (places other)
      by true h =
          let same : other ≡ tag = (bytes_decides other tag).0 h in
          ap (λ n. tag_in on (structs ++ u ∷ []) n (Some (length structs))) same ∙ undeclared_tag structs tag u is
          ∙ sym (nothing_seen structs tag (places tag) free) ∙ sym (ap (λ n. tag_in on structs n (places n)) same)

  pub seen_added : (tag : List ℕ) (number : ℕ) (old new : Tables) → AddsStruct tag number old new → is_free old.structs.items (place_of old.tags tag) tag ≡ true → seen_tables on new ≡ seen_tables on old
  seen_added tag number old new a free =
      structs_alone old new a.names_are a.declared_are a.signatures_are a.locals_are a.depth_is
      ∙ ap (λ l. seen_with l (place_of new.tags) old.names old.declared.items old.signatures.items old.locals.items old.depth) a.structs_are
      ∙ ap (λ p. seen_with (old.structs.items ++ a.added ∷ []) p old.names old.declared.items old.signatures.items old.locals.items old.depth) (a.places_are ∙ ap (with_entry (place_of old.tags) tag) a.number_is)
      ∙ structs_same (seen_tables on old) (λ n. is_declared on (slice_get (old.structs.items ++ a.added ∷ []) n)) (λ n. is_complete on (slice_get (old.structs.items ++ a.added ∷ []) n))
      (λ n. members_of on (slice_get (old.structs.items ++ a.added ∷ []) n)) (λ n. scalars_of on (slice_get (old.structs.items ++ a.added ∷ []) n)) (λ n. tag_of on (slice_get (old.structs.items ++ a.added ∷ []) n)) (λ other. tag_in on (old.structs.items ++ a.added ∷ []) other (with_entry (place_of old.tags) tag (length old.structs.items) other))
      (declared_more on tag a.added a.undeclared old.structs.items) (complete_more on tag a.added a.undeclared old.structs.items) (members_more on tag a.added a.undeclared old.structs.items) (scalars_more on tag a.added a.undeclared old.structs.items) (named_more on tag a.added a.undeclared old.structs.items)
      (λ other. tag_added old.structs.items tag other a.added a.undeclared (place_of old.tags) free)

  -- ---- a struct that changes

  or_true : (b : Bool) → (b || true) ≡ true
  or_true true = refl
  or_true false = refl

  or_false : (b : Bool) → (b || false) ≡ b
  or_false true = refl
  or_false false = refl

  -- what holds of each struct but the one with this number, and of that one
  pub each_or_this : {B : Type 0} (f : Option CondStruct → B) (structs : List CondStruct) (number : ℕ) (s now : CondStruct) → slice_get structs number ≡ Some s → (this : B) → f (Some now) ≡ this
      → (n : ℕ) → f (slice_get (slice_set structs number now) n) ≡ (if n == number then this else f (slice_get structs n))
  each_or_this f structs number s now found this is n = by (n == number) refl
    where
      by : (b : Bool) → (n == number) ≡ b → f (slice_get (slice_set structs number now) n) ≡ (if b then this else f (slice_get structs n))
      by true h = ap (λ m. f (slice_get (slice_set structs number now) m)) (eqb-true n number h) ∙ ap f (set_there structs number s now found) ∙ is
      by false h = ap f (set_other structs number n now (λ e. false≢true (sym h ∙ eq-eqb n number e)))

  pub each_same : {B : Type 0} (f : Option CondStruct → B) (structs : List CondStruct) (number : ℕ) (s now : CondStruct) → slice_get structs number ≡ Some s → f (Some now) ≡ f (Some s)
      → (n : ℕ) → f (slice_get (slice_set structs number now) n) ≡ f (slice_get structs n)
  each_same f structs number s now found is n = by (n == number) refl
    where
      by : (b : Bool) → (n == number) ≡ b → f (slice_get (slice_set structs number now) n) ≡ f (slice_get structs n)
      by true h =
          ap (λ m. f (slice_get (slice_set structs number now) m)) (eqb-true n number h) ∙ ap f (set_there structs number s now found) ∙ is
          ∙ sym (ap f (ap (slice_get structs) (eqb-true n number h) ∙ found))
      by false h = ap f (set_other structs number n now (λ e. false≢true (sym h ∙ eq-eqb n number e)))

  same_named : (now s : CondStruct) → holds on now.declared ≡ holds on s.declared → now.tag.items ≡ s.tag.items → tag_of on (Some now) ≡ tag_of on (Some s)
  same_named now s d e = ap (λ b. if b then now.tag.items else []) d ∙ ap (λ l. if holds on s.declared then l else []) e

  module _ (tag : List ℕ) (number : ℕ) (structs : List CondStruct) (places : List ℕ → Option ℕ) (s now : CondStruct) (found : slice_get structs number ≡ Some s) (has : bytes_eq tag s.tag.items ≡ true)
      (placed : places tag ≡ Some number) where
    other_tag : (other : List ℕ) → bytes_eq other tag ≡ false → bytes_eq other s.tag.items ≡ false
    other_tag other h = ap (bytes_eq other) (sym ((bytes_decides tag s.tag.items).0 has)) ∙ h

    not_of : (other : List ℕ) → bytes_eq other s.tag.items ≡ false → (x : CondStruct) → x.tag.items ≡ s.tag.items → is_of_tag on other (Some x) ≡ false
    not_of other h x e = ap (λ l. bytes_eq other l && holds on x.declared) e ∙ ap (λ b. b && holds on x.declared) h

    tag_declared : Declares on true s now → (other : List ℕ) → tag_in on (slice_set structs number now) other (places other) ≡ with_entry (λ o. tag_in on structs o (places o)) tag number other
    tag_declared change other = by (bytes_eq other tag) refl
      where
        here : is_of_tag on tag (Some now) ≡ true
        here =
            ap (λ l. bytes_eq tag l && holds on now.declared) change.tag_is ∙ ap (λ b. b && holds on now.declared) has ∙ change.declared ∙ or_true (holds on s.declared)

        by : (b : Bool) → bytes_eq other tag ≡ b → tag_in on (slice_set structs number now) other (places other) ≡ (if b then Some number else tag_in on structs other (places other))
        by true h =
            let same : other ≡ tag = (bytes_decides other tag).0 h in
            ap (λ o. tag_in on (slice_set structs number now) o (places o)) same ∙ ap (tag_in on (slice_set structs number now) tag) placed
            ∙ ap (λ x. if is_of_tag on tag x then Some number else None) (set_there structs number s now found) ∙ ap (λ b. if b then Some number else None) here
        by false h = at (places other)
          where
            at : (place : Option ℕ) → tag_in on (slice_set structs number now) other place ≡ tag_in on structs other place
            at None = refl
            at (Some p) = ap (λ b. if b then Some p else None) (each_same (is_of_tag on other) structs number s now found (not_of other (other_tag other h) now change.tag_is ∙ sym (not_of other (other_tag other h) s refl)) p)

  named_declared : (tag : List ℕ) (number : ℕ) (structs : List CondStruct) (s now : CondStruct) → slice_get structs number ≡ Some s → tag ≡ s.tag.items → Declares on true s now
      → (n : ℕ) → tag_of on (slice_get (slice_set structs number now) n) ≡ (if n == number && not (is_declared on (slice_get structs n)) then tag else tag_of on (slice_get structs n))
  named_declared tag number structs s now found has change n = by (n == number) refl
    where
      this : (b : Bool) → tag ≡ (if not b then tag else (if b then s.tag.items else []))
      this true = has
      this false = refl

      by : (b : Bool) → (n == number) ≡ b → tag_of on (slice_get (slice_set structs number now) n) ≡ (if b && not (is_declared on (slice_get structs n)) then tag else tag_of on (slice_get structs n))
      by true h =
          ap (λ m. tag_of on (slice_get (slice_set structs number now) m)) (eqb-true n number h) ∙ ap (tag_of on) (set_there structs number s now found)
          ∙ ap (λ b. if b then now.tag.items else []) (change.declared ∙ or_true (holds on s.declared)) ∙ change.tag_is ∙ sym has ∙ this (holds on s.declared)
          ∙ sym (ap (λ o. if not (is_declared on o) then tag else tag_of on o) (ap (slice_get structs) (eqb-true n number h) ∙ found))
      by false h = ap (tag_of on) (set_other structs number n now (λ e. false≢true (sym h ∙ eq-eqb n number e)))

  tag_kept : (structs : List CondStruct) (number : ℕ) (s now : CondStruct) → slice_get structs number ≡ Some s → now.tag.items ≡ s.tag.items → holds on now.declared ≡ holds on s.declared
      → (other : List ℕ) (place : Option ℕ) → tag_in on (slice_set structs number now) other place ≡ tag_in on structs other place
  tag_kept structs number s now found e d other None = refl
  tag_kept structs number s now found e d other (Some p) =
      ap (λ b. if b then Some p else None)
      (each_same (is_of_tag on other) structs number s now found (ap (λ l. bytes_eq other l && holds on now.declared) e ∙ ap (λ b. bytes_eq other s.tag.items && b) d) p)

  pub seen_declared :
      (tag : List ℕ) (number : ℕ) (old new : Tables) (s now : CondStruct) (b : Bool) → slice_get old.structs.items number ≡ Some s → bytes_eq tag s.tag.items ≡ true → place_of old.tags tag ≡ Some number
      → new.structs.items ≡ slice_set old.structs.items number now → Declares on b s now → place_of new.tags ≡ place_of old.tags
      → new.names ≡ old.names → new.declared ≡ old.declared → new.signatures ≡ old.signatures → new.locals ≡ old.locals → new.depth ≡ old.depth
      → seen_tables on new ≡ where_true b (with_declared tag number) (seen_tables on old)
  seen_declared tag number old new s now b found has placed set_is change places n d g l e =
      structs_alone old new n d g l e
      ∙ ap (λ x. seen_with x (place_of new.tags) old.names old.declared.items old.signatures.items old.locals.items old.depth) set_is
      ∙ ap (λ p. seen_with (slice_set old.structs.items number now) p old.names old.declared.items old.signatures.items old.locals.items old.depth) places
      ∙ by b change
    where
      by : (b : Bool) → Declares on b s now
          → seen_with (slice_set old.structs.items number now) (place_of old.tags) old.names old.declared.items old.signatures.items old.locals.items old.depth ≡ where_true b (with_declared tag number) (seen_tables on old)
      by true change =
          structs_same (with_declared tag number (seen_tables on old)) _ _ _ _ _ _
          (each_or_this (is_declared on) old.structs.items number s now found true (change.declared ∙ or_true (holds on s.declared)))
          (each_same (is_complete on) old.structs.items number s now found change.complete)
          (each_same (members_of on) old.structs.items number s now found change.members)
          (each_same (scalars_of on) old.structs.items number s now found (ap capped change.scalars))
          (named_declared tag number old.structs.items s now found ((bytes_decides tag s.tag.items).0 has) change)
          (tag_declared tag number old.structs.items (place_of old.tags) s now found has placed change)
      by false change =
          structs_same (seen_tables on old) _ _ _ _ _ _
          (each_same (is_declared on) old.structs.items number s now found (change.declared ∙ or_false (holds on s.declared)))
          (each_same (is_complete on) old.structs.items number s now found change.complete)
          (each_same (members_of on) old.structs.items number s now found change.members)
          (each_same (scalars_of on) old.structs.items number s now found (ap capped change.scalars))
          (each_same (tag_of on) old.structs.items number s now found (same_named now s (change.declared ∙ or_false (holds on s.declared)) change.tag_is))
          (λ other. tag_kept old.structs.items number s now found change.tag_is (change.declared ∙ or_false (holds on s.declared)) other (place_of old.tags other))

  pub seen_completed :
      (number : ℕ) (ms : List PlainMember) (scalars : ℕ) (old new : Tables) (s now : CondStruct) (b : Bool) → slice_get old.structs.items number ≡ Some s
      → new.structs.items ≡ slice_set old.structs.items number now → Completes on b ms scalars s now → place_of new.tags ≡ place_of old.tags
      → new.names ≡ old.names → new.declared ≡ old.declared → new.signatures ≡ old.signatures → new.locals ≡ old.locals → new.depth ≡ old.depth
      → seen_tables on new ≡ where_true b (with_completed number ms scalars) (seen_tables on old)
  seen_completed number ms scalars old new s now b found set_is change places n d g l e =
      structs_alone old new n d g l e
      ∙ ap (λ x. seen_with x (place_of new.tags) old.names old.declared.items old.signatures.items old.locals.items old.depth) set_is
      ∙ ap (λ p. seen_with (slice_set old.structs.items number now) p old.names old.declared.items old.signatures.items old.locals.items old.depth) places
      ∙ by b change
    where
      by : (b : Bool) → Completes on b ms scalars s now
          → seen_with (slice_set old.structs.items number now) (place_of old.tags) old.names old.declared.items old.signatures.items old.locals.items old.depth ≡ where_true b (with_completed number ms scalars) (seen_tables on old)
      by true change =
          structs_same (with_completed number ms scalars (seen_tables on old)) _ _ _ _ _ _
          (each_same (is_declared on) old.structs.items number s now found change.declared)
          (each_or_this (is_complete on) old.structs.items number s now found true (change.complete ∙ or_true (holds on s.complete)))
          (each_or_this (members_of on) old.structs.items number s now found ms change.members_are)
          (each_or_this (scalars_of on) old.structs.items number s now found scalars change.scalars_are)
          (each_same (tag_of on) old.structs.items number s now found (same_named now s change.declared change.tag_is))
          (λ other. tag_kept old.structs.items number s now found change.tag_is change.declared other (place_of old.tags other))
      by false change =
          structs_same (seen_tables on old) _ _ _ _ _ _
          (each_same (is_declared on) old.structs.items number s now found change.declared)
          (each_same (is_complete on) old.structs.items number s now found (change.complete ∙ or_false (holds on s.complete)))
          (each_same (members_of on) old.structs.items number s now found change.members_are)
          (each_same (scalars_of on) old.structs.items number s now found change.scalars_are)
          (each_same (tag_of on) old.structs.items number s now found (same_named now s change.declared change.tag_is))
          (λ other. tag_kept old.structs.items number s now found change.tag_is change.declared other (place_of old.tags other))

pub same_text : (text : List ℕ) → bytes_eq text text ≡ true
same_text text = (bytes_decides text text).1 refl

pub place_added : (tag : List ℕ) (number : ℕ) (old new : Tables) → AddsStruct tag number old new → place_of new.tags tag ≡ Some number
place_added tag number old new a = ap (λ p. p tag) a.places_are ∙ ap (λ b. if b then Some number else place_of old.tags tag) (same_text tag)

pub tag_added_there : (tag : List ℕ) (number : ℕ) (old new : Tables) → AddsStruct tag number old new → has_tag_in new.structs.items number tag ≡ true
tag_added_there tag number old new a =
    ap (λ l. has_tag_in l number tag) a.structs_are ∙ ap (λ n. has_tag_in (old.structs.items ++ a.added ∷ []) n tag) a.number_is
    ∙ ap (λ (s : Option CondStruct). elim s as (λ x. Bool) [ None ↦ false | Some s ↦ bytes_eq tag s.tag.items ]) (last_there old.structs.items a.added)
    ∙ ap (bytes_eq tag) a.undeclared.tag_is ∙ same_text tag

-- the struct that has the tag
pub tag_has : (structs : List CondStruct) (number : ℕ) (tag : List ℕ) → has_tag_in structs number tag ≡ true → (s : CondStruct) × (slice_get structs number ≡ Some s) × (bytes_eq tag s.tag.items ≡ true)
tag_has structs number tag h = by (slice_get structs number) refl h
  where
    by : (o : Option CondStruct) → slice_get structs number ≡ o → (elim o as (λ x. Bool) [ None ↦ false | Some s ↦ bytes_eq tag s.tag.items ]) ≡ true
        → (s : CondStruct) × (slice_get structs number ≡ Some s) × (bytes_eq tag s.tag.items ≡ true)
    by None e h = absurd (false≢true h)
    by (Some s) e h = (s, e, h)

-- a tag is visible where its struct is declared
pub tag_visible : (on : ℕ → Bool) (t : Tables) (tag : List ℕ) (number : ℕ) (s : CondStruct) → place_of t.tags tag ≡ Some number → slice_get t.structs.items number ≡ Some s → bytes_eq tag s.tag.items ≡ true
    → (seen_tables on t).tags tag ≡ where_declared (seen_tables on t) (Some number)
tag_visible on t tag number s placed found has =
    ap (tag_in on t.structs.items tag) placed
    ∙ ap (λ o. if is_of_tag on tag o then Some number else None) found
    ∙ ap (λ b. if b && holds on s.declared then Some number else None) has
    ∙ sym (ap (λ o. if is_declared on o then Some number else None) found)

-- the tables that differ in names of file scope
pub seen_whole : (on : ℕ → Bool) (old new : Tables) → new.structs ≡ old.structs → new.tags ≡ old.tags → new.signatures ≡ old.signatures → new.locals ≡ old.locals → new.depth ≡ old.depth
    → seen_tables on new ≡ record (seen_tables on old) { names = λ name. name_in on new.declared.items name (place_of new.names name) }
seen_whole on old new s g f l e =
    ap (λ (x : Vec CondStruct Global). seen_with on x.items (place_of new.tags) new.names new.declared.items new.signatures.items new.locals.items new.depth) s
    ∙ ap (λ x. seen_with on old.structs.items (place_of x) new.names new.declared.items new.signatures.items new.locals.items new.depth) g
    ∙ ap (λ (x : Vec CondSignature Global). seen_with on old.structs.items (place_of old.tags) new.names new.declared.items x.items new.locals.items new.depth) f
    ∙ ap (λ (x : Vec LocalName Global). seen_with on old.structs.items (place_of old.tags) new.names new.declared.items old.signatures.items x.items new.depth) l
    ∙ ap (λ x. seen_with on old.structs.items (place_of old.tags) new.names new.declared.items old.signatures.items old.locals.items x) e
