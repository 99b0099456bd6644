-- What is seen of tables where a name of file scope is added or declared.
use Rattle.std.proofs.Common.{arith, ◌≡◌, ℕ, zero, suc, Bool, true, false, not, List, [], ◌∷◌, ◌++◌, length, refl, sym, ap, ◌∙◌}
use Rattle.std.specs.Prelude.{◌==◌, Option, Some, None, slice_get, slice_set, if◌then◌else◌}
use Rattle.std.proofs.Math.Path.{fun_ext}
use Rattle.std.specs.Str.{bytes_eq}
use Rattle.std.specs.Cmp.Lexicographic.{bytes_decides}
use Rattle.std.proofs.lemmas.Option.{slice_get_past}
use Rattle.std.proofs.lemmas.Bool.{eq-eqb, eqb-true, false≢true}
use Rattle.conditional.specs.Entries.{seen, listed, first, or_later}
use Rattle.core_meaning.specs.Entities.{with_entry}
use Rattle.bindings.proofs.Tags.{last_there}
use Rattle.name_places.specs.Places.{place_of}
use Rattle.type_tables.specs.Tables as plain
use Rattle.type_tables.specs.Forms.{file_name_form}
use Rattle.type_tables.specs.Seen.{meaning_of, name_in, seen_tables}
use Rattle.type_tables.specs.Steps.{with_name, where_true}
use Rattle.type_tables.specs.Changes.{IsNothing, Means, has_name_in, is_unnamed, AddsName}
use Rattle.type_tables.specs.declared.entries.CondName.{CondName}
use Rattle.type_tables.specs.declared.tables.Tables.{Tables}
use Rattle.type_tables.proofs.Lists.{set_there, set_other}
use Rattle.type_tables.proofs.StructSteps.{same_text, seen_whole}

module _ (on : ℕ → Bool) where
  abbrev with_names : Tables → List CondName → (List ℕ → Option ℕ) → plain.Tables
  with_names t declared places = record (seen_tables on t) { names = λ name. name_in on declared name (places name) }

  names_alone : (old new : Tables) → new.structs ≡ old.structs → new.tags ≡ old.tags → new.signatures ≡ old.signatures → new.locals ≡ old.locals → new.depth ≡ old.depth
      → seen_tables on new ≡ with_names old new.declared.items (place_of new.names)
  names_alone old new s g f l e = seen_whole on old new s g f l e

  names_same : (t : plain.Tables) (names other : List ℕ → Option plain.FileName) → ((name : List ℕ) → names name ≡ other name) → ◌≡◌ {A = plain.Tables} (record t { names = names }) (record t { names = other })
  names_same t names other h = ap (λ n. record t { names = n }) (fun_ext h)

  -- ---- a name that is added

  no_meaning : (name : List ℕ) (u : CondName) → IsNothing name u → (other : List ℕ) → meaning_of on other (Some u) ≡ None
  no_meaning name u is other = by (bytes_eq other u.name.items)
    where
      by : (b : Bool) → (if b then first (seen on (listed file_name_form u.meanings)) else None) ≡ None
      by true = ap first (is.meanings on)
      by false = refl

  more_meanings : (name : List ℕ) (u : CondName) → IsNothing name u → (declared : List CondName) (other : List ℕ) (n : ℕ) → meaning_of on other (slice_get (declared ++ u ∷ []) n) ≡ meaning_of on other (slice_get declared n)
  more_meanings name u is [] other zero = no_meaning name u is other
  more_meanings name u is [] other (suc n) = refl
  more_meanings name u is (d ∷ declared) other zero = refl
  more_meanings name u is (d ∷ declared) other (suc n) = more_meanings name u is declared other n

  name_in_more : (name : List ℕ) (u : CondName) → IsNothing name u → (declared : List CondName) (other : List ℕ) (place : Option ℕ) → name_in on (declared ++ u ∷ []) other place ≡ name_in on declared other place
  name_in_more name u is declared other None = refl
  name_in_more name u is declared other (Some n) = more_meanings name u is declared other n

  nothing_meant : (declared : List CondName) (name : List ℕ) (place : Option ℕ) → is_unnamed declared place name ≡ true → name_in on declared name place ≡ None
  nothing_meant declared name None h = refl
  nothing_meant declared name (Some n) h = by (slice_get declared n) h
    where
      off : (b : Bool) (d : CondName) → not b ≡ true → (if b then first (seen on (listed file_name_form d.meanings)) else None) ≡ None
      off true d h = absurd (false≢true h)
      off false d h = refl

      by : (d : Option CondName) → not (elim d as (λ x. Bool) [ None ↦ false | Some d ↦ bytes_eq name d.name.items ]) ≡ true → meaning_of on name d ≡ None
      by None h = refl
      by (Some d) h = off (bytes_eq name d.name.items) d h

  name_added : (declared : List CondName) (name other : List ℕ) (u : CondName) → IsNothing name u → (places : List ℕ → Option ℕ) → is_unnamed declared (places name) name ≡ true
      → name_in on (declared ++ u ∷ []) other (with_entry places name (length declared) other) ≡ name_in on declared other (places other)
  name_added declared name other u is places free = by (bytes_eq other name) refl
    where
      by : (b : Bool) → bytes_eq other name ≡ b → name_in on (declared ++ u ∷ []) other (if b then Some (length declared) else places other) ≡ name_in on declared other (places other)
      by false h = name_in_more name u is declared other (places other)
      by true h =
          let same : other ≡ name = (bytes_decides other name).0 h in
          name_in_more name u is declared other (Some (length declared))
          ∙ ap (meaning_of on other) (slice_get_past declared (length declared) (omega (arith)))
          ∙ sym (nothing_meant declared name (places name) free) ∙ sym (ap (λ n. name_in on declared n (places n)) same)

  pub seen_named : (name : List ℕ) (place : ℕ) (old new : Tables) → AddsName name place old new → is_unnamed old.declared.items (place_of old.names name) name ≡ true → seen_tables on new ≡ seen_tables on old
  seen_named name place old new a free =
      names_alone old new a.structs_are a.tags_are a.signatures_are a.locals_are a.depth_is
      ∙ ap (λ d. with_names old d (place_of new.names)) a.declared_are
      ∙ ap (with_names old (old.declared.items ++ a.added ∷ [])) (a.places_are ∙ ap (with_entry (place_of old.names) name) a.place_is)
      ∙ names_same (seen_tables on old) _ _ (λ other. name_added old.declared.items name other a.added a.nothing (place_of old.names) free)

  -- ---- a name that is declared

  pub seen_meant :
      (name : List ℕ) (place : ℕ) (what : plain.FileName) (old new : Tables) (d now : CondName) (b : Bool) → slice_get old.declared.items place ≡ Some d → bytes_eq name d.name.items ≡ true → place_of old.names name ≡ Some place
      → new.declared.items ≡ slice_set old.declared.items place now → Means on b what d now → new.names ≡ old.names
      → new.structs ≡ old.structs → new.tags ≡ old.tags → new.signatures ≡ old.signatures → new.locals ≡ old.locals → new.depth ≡ old.depth
      → seen_tables on new ≡ where_true b (with_name name what) (seen_tables on old)
  seen_meant name place what old new d now b found has placed set_is change names s g f l e =
      names_alone old new s g f l e
      ∙ ap (λ x. with_names old x (place_of new.names)) set_is
      ∙ ap (λ n. with_names old (slice_set old.declared.items place now) (place_of n)) names
      ∙ by b change
    where
      to_name : (other : List ℕ) → bytes_eq other d.name.items ≡ bytes_eq other name
      to_name other = ap (bytes_eq other) (sym ((bytes_decides name d.name.items).0 has))

      not_it : (other : List ℕ) → bytes_eq other name ≡ false → (x : CondName) → x.name.items ≡ d.name.items → meaning_of on other (Some x) ≡ None
      not_it other h x e =
          ap (λ l. if bytes_eq other l then first (seen on (listed file_name_form x.meanings)) else None) e ∙ ap (λ b. if b then first (seen on (listed file_name_form x.meanings)) else None) (to_name other ∙ h)

      others : (other : List ℕ) → bytes_eq other name ≡ false → now.name.items ≡ d.name.items → (p : Option ℕ) → name_in on (slice_set old.declared.items place now) other p ≡ name_in on old.declared.items other p
      others other h e None = refl
      others other h e (Some p) = at (p == place) refl
        where
          at : (t : Bool) → (p == place) ≡ t → meaning_of on other (slice_get (slice_set old.declared.items place now) p) ≡ meaning_of on other (slice_get old.declared.items p)
          at true i =
              ap (λ m. meaning_of on other (slice_get (slice_set old.declared.items place now) m)) (eqb-true p place i) ∙ ap (meaning_of on other) (set_there old.declared.items place d now found)
              ∙ not_it other h now e ∙ sym (not_it other h d refl) ∙ sym (ap (meaning_of on other) (ap (slice_get old.declared.items) (eqb-true p place i) ∙ found))
          at false i = ap (meaning_of on other) (set_other old.declared.items place p now (λ e. false≢true (sym i ∙ eq-eqb p place e)))

      this_one : (x : CondName) → x.name.items ≡ d.name.items → meaning_of on name (Some x) ≡ first (seen on (listed file_name_form x.meanings))
      this_one x e = ap (λ l. if bytes_eq name l then first (seen on (listed file_name_form x.meanings)) else None) e ∙ ap (λ b. if b then first (seen on (listed file_name_form x.meanings)) else None) has

      before : name_in on old.declared.items name (place_of old.names name) ≡ first (seen on (listed file_name_form d.meanings))
      before = ap (name_in on old.declared.items name) placed ∙ ap (meaning_of on name) found ∙ this_one d refl

      after : now.name.items ≡ d.name.items → name_in on (slice_set old.declared.items place now) name (place_of old.names name) ≡ first (seen on (listed file_name_form now.meanings))
      after e = ap (name_in on (slice_set old.declared.items place now) name) placed ∙ ap (meaning_of on name) (set_there old.declared.items place d now found) ∙ this_one now e

      by : (b : Bool) → Means on b what d now → with_names old (slice_set old.declared.items place now) (place_of old.names) ≡ where_true b (with_name name what) (seen_tables on old)
      by true change = names_same (seen_tables on old) _ _ (λ other. one other (bytes_eq other name) refl)
        where
          one : (other : List ℕ) (t : Bool) → bytes_eq other name ≡ t → name_in on (slice_set old.declared.items place now) other (place_of old.names other)
              ≡ (if t then or_later (name_in on old.declared.items other (place_of old.names other)) (Some what) else name_in on old.declared.items other (place_of old.names other))
          one other true h =
              let same : other ≡ name = (bytes_decides other name).0 h in
              ap (λ n. name_in on (slice_set old.declared.items place now) n (place_of old.names n)) same ∙ after change.name_is ∙ change.meanings
              ∙ ap (λ m. or_later m (Some what)) (sym before) ∙ sym (ap (λ n. or_later (name_in on old.declared.items n (place_of old.names n)) (Some what)) same)
          one other false h = others other h change.name_is (place_of old.names other)
      by false change = names_same (seen_tables on old) _ _ (λ other. one other (bytes_eq other name) refl)
        where
          later_none : (m : Option plain.FileName) → or_later m None ≡ m
          later_none None = refl
          later_none (Some m) = refl

          one : (other : List ℕ) (t : Bool) → bytes_eq other name ≡ t → name_in on (slice_set old.declared.items place now) other (place_of old.names other) ≡ name_in on old.declared.items other (place_of old.names other)
          one other true h =
              let same : other ≡ name = (bytes_decides other name).0 h in
              ap (λ n. name_in on (slice_set old.declared.items place now) n (place_of old.names n)) same ∙ after change.name_is ∙ change.meanings ∙ later_none _
              ∙ sym before ∙ sym (ap (λ n. name_in on old.declared.items n (place_of old.names n)) same)
          one other false h = others other h change.name_is (place_of old.names other)

pub place_named : (name : List ℕ) (place : ℕ) (old new : Tables) → AddsName name place old new → place_of new.names name ≡ Some place
place_named name place old new a = ap (λ p. p name) a.places_are ∙ ap (λ b. if b then Some place else place_of old.names name) (same_text name)

pub name_there : (name : List ℕ) (place : ℕ) (old new : Tables) → AddsName name place old new → has_name_in new.declared.items place name ≡ true
name_there name place old new a =
    ap (λ l. has_name_in l place name) a.declared_are ∙ ap (λ n. has_name_in (old.declared.items ++ a.added ∷ []) n name) a.place_is
    ∙ ap (λ (d : Option CondName). elim d as (λ x. Bool) [ None ↦ false | Some d ↦ bytes_eq name d.name.items ]) (last_there old.declared.items a.added)
    ∙ ap (bytes_eq name) a.nothing.name_is ∙ same_text name

-- the name that stands there
pub name_has : (declared : List CondName) (place : ℕ) (name : List ℕ) → has_name_in declared place name ≡ true → (d : CondName) × (slice_get declared place ≡ Some d) × (bytes_eq name d.name.items ≡ true)
name_has declared place name h = by (slice_get declared place) refl h
  where
    by : (o : Option CondName) → slice_get declared place ≡ o → (elim o as (λ x. Bool) [ None ↦ false | Some d ↦ bytes_eq name d.name.items ]) ≡ true
        → (d : CondName) × (slice_get declared place ≡ Some d) × (bytes_eq name d.name.items ≡ true)
    by None e h = absurd (false≢true h)
    by (Some d) e h = (d, e, h)
