-- The structs of a unit that is judged well: a tag stands for the struct of its name, members have the numbers that their names tell, and who
-- stands for a member stands for one that its struct has in the end.
use Rattle.std.proofs.Common.{◌≡◌, inl, inr, ℕ, ◌<◌, Bool, true, false, List, [], ◌∷◌, map, refl, sym, ap, subst, ◌∙◌, length, arith}
use Rattle.std.specs.Prelude.{◌⊎◌, Option, Some, None, is_some, not, slice_get, replicate, if◌then◌else◌}
use Rattle.std.specs.Str.{bytes_eq}
use Rattle.std.specs.Cmp.Lexicographic.{bytes_decides}
use Rattle.std.proofs.lemmas.Bool.{false≢true}
use Rattle.std.proofs.lemmas.List.{length-replicate}
use Rattle.std.proofs.lemmas.Option.{same_Some, none-some}
use Rattle.c_text.specs.Token.{PlainToken}
use Rattle.c_types.specs.Types.{PlainType, pointer_to, array_of, structure}
use Rattle.c_types.specs.Tags.{PlainMember}
use Rattle.c_tree.specs.declared.kinds.Kind.{Kind}
use Rattle.c_tree.specs.declared.kinds.Kind.TheVariants as k
use Rattle.c_tree.specs.declared.terminals.Terminal.TheVariants as t
use Rattle.c_tree.specs.Trees.{PlainTree, PlainTrees, leaf, node, none, more}
use Rattle.core_meaning.specs.declared.refusals.TypeKind.TheVariants.{Redeclared, Incomplete}
use Rattle.core_meaning.specs.Checking.{Entity, local_entity, local_of_function, file_entity, struct_entity, member_entity, own_entity, Binding, Checked, fine, refused, broken, with_bindings, ◌>>=◌, give, unless_so, or_broken, declares, in_function, numbered as numbered_entity, numbered_binding}
use Rattle.core_meaning.specs.Entities.{Table, no_entry, Struct, Local, Numbers, Scope, local_in, Sort, variable, function}
use Rattle.core_meaning.specs.Typing.{is_complete}
use Rattle.core_meaning.specs.Expressions.{has_terminal, arithmetic_words}
use Rattle.core_meaning.specs.Declarations.{Based, based, based_on_tag, name_in, behind_word, new_struct, object_type}
use Rattle.core_meaning.specs.UnitNames.{UnitState, Storage, storage_of, with_scope, declared_from, defined_function, count_functions, Members, with_member, declared_member, one_member, members_from, AllMembers, all_members, completed, with_members_at, is_defined_struct, is_defined_tag, number_of_struct, defined_struct, judged_item, judged_file_items, unit_start, too_big_in, unless_too_big, judged_unit}
use Rattle.bindings.proofs.Types.{Tagged as TagOf, Made, AllMade, MadeSort}
use Rattle.entity_numbers.specs.Slots.{HasNamedParameters, IsNamedFunction, AreNamedFunctions}
use Rattle.entity_numbers.proofs.Uses.{Sense, Gives, All, all_append, Binds}
use Rattle.entity_numbers.proofs.Slots.{Base, Knows, Slots, no_more, known, next}
use Rattle.entity_numbers.proofs.Functions.{Ended, function_ends}
use Rattle.entity_kinds.proofs.Pairs.{Never}
use Rattle.entity_kinds.proofs.Declarators.{object_quiet}
use Rattle.bound_slots.specs.Laws.{SizesBindNothing}
use Rattle.unit_numbers.proofs.Fitting.{within, at_more}
use Rattle.unit_numbers.proofs.Names.{Kept, names_declared}
use Rattle.name_spaces.proofs.Formed.{IsFormed, AreFormed, NameAStruct}
use Rattle.read_occurrences.proofs.Growth.{get_on, get_last, grown_itself, grown_both, extends_grown, HasMember, Good, good_kept, new_good, at_same, completed_grown, completed_good, Grown, Extends, IsKnown, GoodMembers}
use Rattle.read_occurrences.proofs.Settings.{Setting, WalkedOf, Walks, walks_then, walks_give, walks_as, quiet_then, some_then, unless_then, declares_then}

module _ (first : ℕ) (last : List Struct) (counts : SizesBindNothing) where
  abbrev structs : Setting
  structs = record { State = List Struct; Le = Grown; itself = grown_itself; both = grown_both; Last = λ s. Grown s last; lower = λ a b f g. grown_both a b last f g; knows = IsKnown last }

  -- ---- the words of a type

  record BasedThen (s : Scope) (b : Based) : Type 0 where
    extends : Extends s.structs b.scope.structs
    good : Good first b.scope

  abbrev BasedOf : (P : Based → Type 0) → Checked Based → Type 0
  BasedOf P (fine b js) = P b × All (IsKnown last) js
  BasedOf P (refused kind token) = Unit {0}
  BasedOf P broken = Unit {0}

  tag_based : (declaring : Bool) (s : Scope) (tag : PlainToken) (o : Option ℕ) → Good first s → BasedOf (BasedThen s) (based_on_tag declaring s tag o)
  tag_based declaring s tag (Some n) h = (record { extends = λ n x e. e; good = h }, (tt, tt))
  tag_based true s tag None h = (record { extends = λ n x e. get_on s.structs (new_struct tag.text ∷ []) n x e; good = new_good first s tag.text h }, (tt, tt))
  tag_based false s tag None h = tt

  given_based : (P : Based → Type 0) (o : Option PlainToken) (f : PlainToken → Checked Based) → ((tag : PlainToken) → BasedOf P (f tag)) → BasedOf P (or_broken o >>= f)
  given_based P None f g = tt
  given_based P (Some tag) f g = by (f tag) (g tag)
    where
      by : (c : Checked Based) → BasedOf P c → BasedOf P (with_bindings [] c)
      by (fine b js) h = h
      by (refused kind token) h = tt
      by broken h = tt

  words_based : (declaring : Bool) (s : Scope) (words : PlainTrees) → Good first s → BasedOf (BasedThen s) (based declaring s words)
  words_based declaring s words h = by (has_terminal t.Struct words)
    where
      by :
          (b : Bool)
          → BasedOf (BasedThen s) (if b then or_broken (name_in words) >>= (λ tag. based_on_tag declaring s tag (s.tags tag.text)) else give (record { ty = arithmetic_words words; scope = s }))
      by true = given_based (BasedThen s) (name_in words) (λ tag. based_on_tag declaring s tag (s.tags tag.text)) (λ tag. tag_based declaring s tag (s.tags tag.text) h)
      by false = (record { extends = λ n x e. e; good = h }, tt)

  words_walk : (declaring : Bool) (s : Scope) (words : PlainTrees) → Good first s → Walks structs s.structs (λ (b : Based). b.scope.structs) (BasedThen s) (based declaring s words)
  words_walk declaring s words h = by (based declaring s words) (words_based declaring s words h)
    where
      by : (c : Checked Based) → BasedOf (BasedThen s) c → Walks structs s.structs (λ (b : Based). b.scope.structs) (BasedThen s) c
      by (fine b js) h = record { walked = ((extends_grown s.structs b.scope.structs h.0.extends, h.0), λ l. h.1) }
      by (refused kind token) h = record { walked = tt }
      by broken h = record { walked = tt }

  -- ---- members

  record Behind (a b : AllMembers) : Type 0 where
    structs_stay : Extends a.scope.structs b.scope.structs
    members_stay : (m : ℕ) (y : PlainMember) → slice_get a.known.members m ≡ Some y → slice_get b.known.members m ≡ Some y

  -- the struct with this number has these members in the end
  abbrev HasAll : ℕ → AllMembers → Type 0
  HasAll number x = (m : ℕ) (y : PlainMember) → slice_get x.known.members m ≡ Some y → HasMember last number m

  abbrev inside : ℕ → Setting
  inside number = record {
    State = AllMembers;
    Le = Behind;
    itself = λ a. record { structs_stay = λ n x e. e; members_stay = λ m y e. e };
    both = λ a b c f g. record { structs_stay = λ n x e. g.structs_stay n x (f.structs_stay n x e); members_stay = λ m y e. g.members_stay m y (f.members_stay m y e) };
    Last = HasAll number;
    lower = λ a b f l m y e. l m y (f.members_stay m y e);
    knows = IsKnown last;
  }

  abbrev at : Scope → Members → AllMembers
  at s members = record { scope = s; known = members }

  module _ (number : ℕ) where
    record One (before x : Members) : Type 0 where
      good : GoodMembers x
      member : PlainMember
      there : slice_get x.members (length before.members) ≡ Some member

    more_good : (s : Scope) (before : Members) (name : List ℕ) (ty : PlainType) → before.numbers name ≡ None → GoodMembers before → GoodMembers (with_member s.structs before name ty)
    more_good s before name ty free h m y e = by (at_more before.members (record { name = name; ty = ty }) m y e)
      where
        old : (b : Bool) → bytes_eq y.name name ≡ b → slice_get before.members m ≡ Some y → (if b then Some (length before.members) else before.numbers y.name) ≡ Some m
        old true same_ f = absurd (none-some m (sym free ∙ ap before.numbers (sym ((bytes_decides y.name name).0 same_)) ∙ h m y f))
        old false same_ f = h m y f

        by : (slice_get before.members m ≡ Some y) ⊎ ((m ≡ length before.members) × (y ≡ record { name = name; ty = ty })) → (if bytes_eq y.name name then Some (length before.members) else before.numbers y.name) ≡ Some m
        by (inl f) = old (bytes_eq y.name name) refl f
        by (inr f) =
            let is : y.name ≡ name = ap (λ (z : PlainMember). z.name) f.1 in
            ap (λ (b : Bool). if b then Some (length before.members) else before.numbers y.name) ((bytes_decides y.name name).1 is) ∙ ap Some (sym f.0)

    declared_walk :
        (s : Scope) (before : Members) (ty : PlainType) (kind : Kind) (parts : PlainTrees) (name : PlainToken) → GoodMembers before
        → Walks (inside number) (at s before) (at s) GoodMembers (declared_member s number before ty kind parts name)
    declared_walk s before ty kind parts name h = by (before.numbers name.text) refl
      where
        by :
            (o : Option ℕ) → before.numbers name.text ≡ o
            → Walks (inside number) (at s before) (at s) GoodMembers
            (unless_so (not (is_some o)) Redeclared name >>= (λ new. declares (member_entity number (length before.members)) >>= (λ bound. object_type s ty kind parts name None
            >>= (λ whole. unless_so (is_complete s.structs whole) Incomplete name >>= (λ complete. give (with_member s.structs before name.text whole))))))
        by (Some n) e = record { walked = tt }
        by None e =
            unless_then (inside number) (at s before) (at s) GoodMembers true Redeclared name _
            (λ new x. walks_as (inside number) (at s before) (at s) GoodMembers (One before) _
            (declares_then (inside number) (at s before) (at s) (One before) (member_entity number (length before.members))
            (λ bound. object_type s ty kind parts name None >>= (λ whole. unless_so (is_complete s.structs whole) Incomplete name >>= (λ complete. give (with_member s.structs before name.text whole))))
            (quiet_then (inside number) (at s before) (at s) (One before) (object_type s ty kind parts name None) _ (object_quiet counts s ty kind parts name None)
            (λ whole. unless_then (inside number) (at s before) (at s) (One before) (is_complete s.structs whole) Incomplete name _
            (λ complete y. walks_give (inside number) (at s before) (at s) (One before) (with_member s.structs before name.text whole)
            (record { structs_stay = λ n x f. f; members_stay = λ m z f. get_on before.members (record { name = name.text; ty = whole } ∷ []) m z f })
            (record { good = more_good s before name.text whole e h; member = record { name = name.text; ty = whole }; there = get_last before.members (record { name = name.text; ty = whole }) }))))
            (λ z v l. l (length before.members) v.member v.there))
            (λ z v. v.good))

    one_walk : (s : Scope) (before : Members) (ty : PlainType) (tree : PlainTree) → GoodMembers before → Walks (inside number) (at s before) (at s) GoodMembers (one_member s number before ty tree)
    one_walk s before ty (node kind parts) h =
        some_then (inside number) (at s before) (at s) GoodMembers (name_in parts) (λ name. declared_member s number before ty kind parts name) (λ name e. declared_walk s before ty kind parts name h)
    one_walk s before ty (leaf token) h = record { walked = tt }

    from_walk : (parts : PlainTrees) (s : Scope) (before : Members) (ty : PlainType) → GoodMembers before → Walks (inside number) (at s before) (at s) GoodMembers (members_from s number before ty parts)
    from_walk none s before ty h = record { walked = tt }
    from_walk (more tree none) s before ty h = one_walk s before ty tree h
    from_walk (more tree (more comma rest)) s before ty h =
        walks_then (inside number) (at s before) (at s) (at s) GoodMembers GoodMembers (one_member s number before ty tree) (λ x. members_from s number x ty rest) (one_walk s before ty tree h)
        (λ x g v. from_walk rest s x ty v)

    record AllGood (x : AllMembers) : Type 0 where
      members : GoodMembers x.known
      scope : Good first x.scope

    words_inside : (s : Scope) (before : Members) (words : PlainTrees) → Good first s → Walks (inside number) (at s before) (λ (b : Based). at b.scope before) (BasedThen s) (based true s words)
    words_inside s before words h = by (based true s words) (words_based true s words h)
      where
        by : (c : Checked Based) → BasedOf (BasedThen s) c → Walks (inside number) (at s before) (λ (b : Based). at b.scope before) (BasedThen s) c
        by (fine b js) h = record { walked = ((record { structs_stay = h.0.extends; members_stay = λ m y e. e }, h.0), λ l. h.1) }
        by (refused kind token) h = record { walked = tt }
        by broken h = record { walked = tt }

    all_walk : (parts : PlainTrees) (s : Scope) (before : Members) → Good first s → GoodMembers before → Walks (inside number) (at s before) (λ (x : AllMembers). x) AllGood (all_members s number before parts)
    all_walk none s before h good = walks_give (inside number) (at s before) (λ (x : AllMembers). x) AllGood (at s before) (record { structs_stay = λ n x e. e; members_stay = λ m y e. e }) (record { members = good; scope = h })
    all_walk (more (node kind (more (node words_kind words) (more (node list_kind list) (more end_ none)))) rest) s before h good =
        walks_then (inside number) (at s before) (λ (b : Based). at b.scope before) (λ (x : AllMembers). x) (BasedThen s) AllGood (based true s words)
        (λ base. members_from base.scope number before base.ty list >>= (λ x. all_members base.scope number x rest)) (words_inside s before words h)
        (λ base g v. walks_then (inside number) (at base.scope before) (at base.scope) (λ (x : AllMembers). x) GoodMembers AllGood (members_from base.scope number before base.ty list) (λ x. all_members base.scope number x rest)
        (from_walk list base.scope before base.ty good) (λ x f u. all_walk rest base.scope x v.good u))
    all_walk (more _ rest) s before h good = record { walked = tt }

  -- ---- structs

  record Open (s : Scope) (b : Based) : Type 0 where
    then_ : BasedThen s b
    number : ℕ
    ty : b.ty ≡ structure number
    struct : Struct
    is : slice_get b.scope.structs number ≡ Some struct
    none_yet : struct.members ≡ []

  open_based : (s : Scope) (tag : PlainToken) (o : Option ℕ) → s.tags tag.text ≡ o → is_defined_tag s o ≡ false → Good first s → BasedOf (Open s) (based_on_tag true s tag o)
  open_based s tag (Some n) e undefined h =
      let f = h.named tag.text n e in (
        record {
          then_ = record { extends = λ n x e. e; good = h };
          number = n;
          ty = refl;
          struct = f.struct;
          is = f.is;
          none_yet = h.empty n f.struct f.own f.is (sym (ap is_defined_struct f.is) ∙ undefined);
        },
        (tt, tt),
      )
  open_based s tag None e undefined h = (
    record {
      then_ = record { extends = λ n x e. get_on s.structs (new_struct tag.text ∷ []) n x e; good = new_good first s tag.text h };
      number = length s.structs;
      ty = refl;
      struct = new_struct tag.text;
      is = get_last s.structs (new_struct tag.text);
      none_yet = refl;
    },
    (tt, tt),
  )

  abbrev none_known : Members
  none_known = record { members = []; numbers = no_entry; scalars = 0 }

  abbrev finish : UnitState → PlainTrees → Based → Checked UnitState
  finish unit parts base =
      all_members base.scope (number_of_struct base.ty) none_known parts >>= (λ x. give (with_scope unit (record x.scope { structs = with_members_at (number_of_struct base.ty) x.known x.scope.structs })))

  abbrev structs_of : UnitState → List Struct
  structs_of x = x.scope.structs

  abbrev IsGood : UnitState → Type 0
  IsGood x = Good first x.scope

  finished : (unit : UnitState) (s : Scope) (parts : PlainTrees) (base : Based) → Open s base → Walks structs base.scope.structs structs_of IsGood (finish unit parts base)
  finished unit s parts base v =
      subst (λ m. Walks structs base.scope.structs structs_of IsGood
      (all_members base.scope m none_known parts >>= (λ x. give (with_scope unit (record x.scope { structs = with_members_at m x.known x.scope.structs }))))) (sym (ap number_of_struct v.ty))
      (by (all_members base.scope v.number none_known parts) (all_walk v.number parts base.scope none_known v.then_.good (λ m y e. absurd (none-some y e))).walked)
    where
      by :
          (c : Checked AllMembers) → WalkedOf (inside v.number) (at base.scope none_known) (λ (x : AllMembers). x) (AllGood v.number) c
          → Walks structs base.scope.structs structs_of IsGood (c >>= (λ x. give (with_scope unit (record x.scope { structs = with_members_at v.number x.known x.scope.structs }))))
      by (fine x js) h =
          let is = h.0.0.structs_stay v.number v.struct v.is in
          record {
            walked = (
              (
                grown_both base.scope.structs x.scope.structs (with_members_at v.number x.known x.scope.structs) (extends_grown base.scope.structs x.scope.structs h.0.0.structs_stay)
                    (completed_grown x.scope.structs v.number x.known v.struct is v.none_yet),
                completed_good first x.scope v.number x.known v.struct is h.0.1.members h.0.1.scope,
              ),
              λ g. all_append (IsKnown last) js [] (h.1 (λ m y e.
                  let f = g v.number (completed x.known v.struct) (at_same x.scope.structs v.number x.known v.struct is) in
                  record { struct = f.struct; is = f.is; member = y; is_member = f.members m y e })) tt,
            );
          }
      by (refused kind token) h = record { walked = tt }
      by broken h = record { walked = tt }

  open_walk : (s : Scope) (tag : PlainToken) → is_defined_tag s (s.tags tag.text) ≡ false → Good first s → (words : PlainTrees) → has_terminal t.Struct words ≡ true → name_in words ≡ Some tag
      → Walks structs s.structs (λ (b : Based). b.scope.structs) (Open s) (based true s words)
  open_walk s tag undefined h words has is = by (based true s words) (through (has_terminal t.Struct words) has (name_in words) is)
    where
      behind : (c : Checked Based) → BasedOf (Open s) c → BasedOf (Open s) (with_bindings [] c)
      behind (fine b js) h = h
      behind (refused kind token) h = tt
      behind broken h = tt

      through :
          (b : Bool) → b ≡ true → (o : Option PlainToken) → o ≡ Some tag
          → BasedOf (Open s) (if b then or_broken o >>= (λ tag. based_on_tag true s tag (s.tags tag.text)) else give (record { ty = arithmetic_words words; scope = s }))
      through true e None f = absurd (none-some tag f)
      through true e (Some other) f =
          subst (λ (x : PlainToken). BasedOf (Open s) (give x >>= (λ tag. based_on_tag true s tag (s.tags tag.text)))) (sym (same_Some other tag f))
          (behind (based_on_tag true s tag (s.tags tag.text)) (open_based s tag (s.tags tag.text) refl undefined h))
      through false e o f = absurd (false≢true e)

      by : (c : Checked Based) → BasedOf (Open s) c → Walks structs s.structs (λ (b : Based). b.scope.structs) (Open s) c
      by (fine b js) h = record { walked = ((extends_grown s.structs b.scope.structs h.0.then_.extends, h.0), λ l. h.1) }
      by (refused kind token) h = record { walked = tt }
      by broken h = record { walked = tt }

  struct_walk : (unit : UnitState) (words parts : PlainTrees) → has_terminal t.Struct words ≡ true → Good first unit.scope → Walks structs unit.scope.structs structs_of IsGood (defined_struct unit words parts)
  struct_walk unit words parts has h =
      some_then structs unit.scope.structs structs_of IsGood (name_in words)
      (λ tag. unless_so (not (is_defined_tag unit.scope (unit.scope.tags tag.text))) Redeclared tag >>= (λ new. based true unit.scope words >>= finish unit parts))
      (λ tag e. unless_then structs unit.scope.structs structs_of IsGood (not (is_defined_tag unit.scope (unit.scope.tags tag.text))) Redeclared tag (λ new. based true unit.scope words >>= finish unit parts)
      (λ new x. walks_then structs unit.scope.structs (λ (b : Based). b.scope.structs) structs_of (Open unit.scope) IsGood (based true unit.scope words) (finish unit parts)
      (open_walk unit.scope tag (not_so (is_defined_tag unit.scope (unit.scope.tags tag.text)) new) h words has e)
      (λ base g v. finished unit unit.scope parts base v)))
    where
      not_so : (b : Bool) → not b ≡ true → b ≡ false
      not_so true e = absurd (false≢true e)
      not_so false e = refl

  -- ---- names of file scope, which leave structs as they are

  abbrev all_tags : Table ℕ
  all_tags name = Some (length name)

  tag_of_all : (n : ℕ) → TagOf all_tags n
  tag_of_all n = record { tag = replicate n 0; is = ap Some (length-replicate n 0) }

  made_all : (ty : PlainType) → Made all_tags ty
  made_all (pointer_to ty) = made_all ty
  made_all (array_of ty n) = made_all ty
  made_all (structure n) = tag_of_all n
  made_all _ = tt

  types_made : (types : List PlainType) → AllMade all_tags types
  types_made [] = tt
  types_made (ty ∷ types) = (made_all ty, types_made types)

  sort_made : (sort : Sort) → MadeSort all_tags sort
  sort_made (variable ty) = made_all ty
  sort_made (function signature) = (made_all signature.result, types_made signature.parameters)

  abbrev sense : (Entity → Type 0) → Sense
  sense K = record { knows = K; tags = all_tags }

  abbrev AnyEntity : Entity → Type 0
  AnyEntity e = Unit {0}

  any_base : (s : Scope) → Base (sense AnyEntity) s
  any_base s = record { files = λ name n e. (tt, sort_made n.sort); members = λ number n found m tag e f. (tt, made_all m.ty); tags = λ name n e. (tt, tag_of_all n) }

  known_base : (s : Scope) → Grown s.structs last → Base (sense (IsKnown last)) s
  known_base s g = record {
    files = λ name n e. (tt, sort_made n.sort);
    members = λ number n found m tag e f. let x = g number found e in (record { struct = x.struct; is = x.is; member = m; is_member = x.members n m f }, made_all m.ty);
    tags = λ name n e. (tt, tag_of_all n);
  }

  no_local : (s : Scope) → s.blocks ≡ [] → (name : List ℕ) → local_in s.blocks name ≡ None
  no_local s e name = ap (λ (blocks : List (Table Local)). local_in blocks name) e

  names_walk :
      (globals : ℕ) (unit : UnitState) (storage : Storage) (ty : PlainType) (parts rest : PlainTrees) → Good first unit.scope
      → Walks structs unit.scope.structs structs_of IsGood (declared_from globals unit storage ty parts rest)
  names_walk globals unit storage ty parts rest h =
      by (declared_from globals unit storage ty parts rest)
      (names_declared (sense AnyEntity) counts (λ name. tt) tt parts globals unit storage ty rest (made_all ty) (record { base = any_base unit.scope; outside = never }))
      (λ g. names_declared (sense (IsKnown last)) counts (λ name. tt) tt parts globals unit storage ty rest (made_all ty) (record { base = known_base unit.scope g; outside = never }))
    where
      never : (name : List ℕ) (l : Local) → local_in unit.scope.blocks name ≡ Some l → ⊥
      never name l e = none-some l (sym (no_local unit.scope h.outside name) ∙ e)

      by :
          (c : Checked UnitState) → Gives AnyEntity (Kept (sense AnyEntity) counts (λ name. tt) tt unit) c
          → (Grown unit.scope.structs last → Gives (IsKnown last) (Kept (sense (IsKnown last)) counts (λ name. tt) tt unit) c) → Walks structs unit.scope.structs structs_of IsGood c
      by (fine x js) f g =
          let kept = f.given_.1.scope in
          record {
            walked = (
              (subst (λ (l : List Struct). Grown unit.scope.structs l) (sym kept.structs) (grown_itself unit.scope.structs), good_kept first unit.scope x.scope kept.blocks kept.structs kept.tags h),
              λ l. (g (subst (λ (s : List Struct). Grown s last) kept.structs l)).given_.0,
            );
          }
      by (refused kind token) f g = record { walked = tt }
      by broken f g = record { walked = tt }

  -- ---- functions

  slots_known : (f : ℕ) {n m : ℕ} {js : List Binding} → Slots (sense (IsKnown last)) n js m → All (IsKnown last) (map (numbered_binding f) js)
  slots_known f no_more = tt
  slots_known f (known {n = n} {b = b} h run) = (by b.entity h, slots_known f run)
    where
      by : (e : Entity) → Knows (sense (IsKnown last)) n e → IsKnown last (numbered_entity f e)
      by (local_entity slot) h = tt
      by (local_of_function g slot) h = tt
      by (file_entity name) h = tt
      by (struct_entity i) h = tt
      by (member_entity i j) h = h
      by own_entity h = tt
  slots_known f (next {n = n} {b = b} is unused run) = (subst (λ (e : Entity). IsKnown last (numbered_entity f e)) (sym is) tt, slots_known f run)

  function_walk :
      (unit : UnitState) (f : ℕ) (storage : Storage) (ty : PlainType) (parts : PlainTrees) (name : PlainToken) (body : PlainTree) → HasNamedParameters (behind_word t.OpenParenthesis parts) → Good first unit.scope
      → Walks structs unit.scope.structs structs_of IsGood (in_function f (defined_function unit storage ty parts name body))
  function_walk unit f storage ty parts name body named h =
      by (defined_function unit storage ty parts name body)
      (function_ends (sense AnyEntity) unit storage ty parts name body tt (made_all ty) (any_base unit.scope) (no_local unit.scope h.outside) named).ended
      (λ g. (function_ends (sense (IsKnown last)) unit storage ty parts name body tt (made_all ty) (known_base unit.scope g) (no_local unit.scope h.outside) named).ended)
    where
      by :
          (c : Checked UnitState) → Ended (sense AnyEntity) unit name.text 0 c → (Grown unit.scope.structs last → Ended (sense (IsKnown last)) unit name.text 0 c)
          → Walks structs unit.scope.structs structs_of IsGood (in_function f c)
      by (fine x js) d g =
          record {
            walked = (
              (subst (λ (l : List Struct). Grown unit.scope.structs l) (sym d.kept.structs) (grown_itself unit.scope.structs), good_kept first unit.scope x.scope d.kept.blocks d.kept.structs d.kept.tags h),
              λ l. slots_known f (g (subst (λ (s : List Struct). Grown s last) d.kept.structs l)).taken,
            );
          }
      by (refused kind token) d g = record { walked = tt }
      by broken d g = record { walked = tt }

  -- ---- items

  module _ (globals : ℕ) where
    item_walk :
        (tree : PlainTree) → IsFormed tree → IsNamedFunction tree → (x : UnitState) → Good first x.scope → (behind : PlainTrees)
        → Walks structs x.scope.structs structs_of IsGood (judged_item globals x tree behind)
    item_walk (node k.StructDefinition (more (node tag_kind words) (more brace (more (node list_kind members) rest)))) formed named x h behind =
        struct_walk x words members (has tag_kind formed.0.0) h
      where
        has : (kind : Kind) → NameAStruct (node kind words) → has_terminal t.Struct words ≡ true
        has k.Specifiers e = e
        has _ e = absurd e
    item_walk (node k.StructDeclaration (more (node tag_kind words) (more end_ none))) formed named x h behind =
        walks_then structs x.scope.structs (λ (b : Based). b.scope.structs) structs_of (BasedThen x.scope) IsGood (based true x.scope words) (λ base. give (with_scope x base.scope)) (words_walk true x.scope words h)
        (λ base g v. walks_give structs base.scope.structs structs_of IsGood (with_scope x base.scope) (grown_itself base.scope.structs) v.good)
    item_walk (node k.Declaration (more (node words_kind words) (more (node list_kind list) (more end_ none)))) formed named x h behind =
        walks_then structs x.scope.structs (λ (b : Based). b.scope.structs) structs_of (BasedThen x.scope) IsGood (based true x.scope words)
        (λ base. declared_from globals (with_scope x base.scope) (storage_of words) base.ty list behind) (words_walk true x.scope words h)
        (λ base g v. names_walk globals (with_scope x base.scope) (storage_of words) base.ty list behind v.good)
    item_walk (node k.Function (more (node words_kind words) (more (node list_kind (more (node kind parts) none)) (more body none)))) formed named x h behind =
        walks_then structs x.scope.structs (λ (b : Based). x.scope.structs) structs_of (λ (b : Based). Unit {0}) IsGood (based false x.scope words)
        (λ base. or_broken (name_in parts) >>= (λ name. in_function (count_functions x.defined) (defined_function x (storage_of words) base.ty parts name body))) (plain (based false x.scope words) (words_based false x.scope words h))
        (λ base g v. some_then structs x.scope.structs structs_of IsGood (name_in parts) (λ name. in_function (count_functions x.defined) (defined_function x (storage_of words) base.ty parts name body))
        (λ name e. function_walk x (count_functions x.defined) (storage_of words) base.ty parts name body named h))
      where
        plain : (c : Checked Based) → BasedOf (BasedThen x.scope) c → Walks structs x.scope.structs (λ (b : Based). x.scope.structs) (λ (b : Based). Unit {0}) c
        plain (fine b js) f = record { walked = ((grown_itself x.scope.structs, tt), λ l. f.1) }
        plain (refused kind token) f = record { walked = tt }
        plain broken f = record { walked = tt }
    item_walk _ formed named x h behind = record { walked = tt }

    items_walk : (parts : PlainTrees) → AreFormed parts → AreNamedFunctions parts → (x : UnitState) → Good first x.scope → Walks structs x.scope.structs structs_of IsGood (judged_file_items globals x parts)
    items_walk none formed named x h = walks_give structs x.scope.structs structs_of IsGood x (grown_itself x.scope.structs) h
    items_walk (more tree rest) formed named x h =
        walks_then structs x.scope.structs structs_of structs_of IsGood IsGood (judged_item globals x tree rest) (λ y. judged_file_items globals y rest) (item_walk tree formed.0 named.0 x h rest)
        (λ y g v. items_walk rest formed.1 named.1 y v)

    small_quiet : (o : Option PlainToken) → Binds Never (unless_too_big o)
    small_quiet None = record { all = tt }
    small_quiet (Some name) = record { all = tt }

-- ---- a unit

start_good : (structs : List Struct) (numbers : Numbers) → Good (length structs) (unit_start structs numbers).scope
start_good structs numbers = record {
  named = λ tag n e. absurd (none-some n e);
  numbered = λ n x m y own e f. let less : n < length structs = within structs n x e in absurd (omega (arith, own, less));
  empty = λ n x own e f. let less : n < length structs = within structs n x e in absurd (omega (arith, own, less));
  below = omega arith;
  outside = refl;
}

pub record Ends (first : ℕ) (unit : UnitState) (js : List Binding) : Type 0 where
  pub good : Good first unit.scope
  pub known : All (IsKnown unit.scope.structs) js

pub unit_ends :
    SizesBindNothing → (globals : ℕ) (structs : List Struct) (numbers : Numbers) (parts : PlainTrees) → AreFormed parts → AreNamedFunctions parts → (unit : UnitState) (js : List Binding)
    → judged_unit globals structs numbers (node k.Unit parts) ≡ fine unit js → Ends (length structs) unit js
unit_ends counts globals before numbers parts formed named unit js judged =
    let last : List Struct = unit.scope.structs in
    let first : ℕ = length before in
    let w : Setting = structs first last counts in
    let all = walks_then w before (structs_of first last counts) (structs_of first last counts) (IsGood first last counts) (IsGood first last counts) (judged_file_items globals (unit_start before numbers) parts)
    (λ unit. unless_too_big (too_big_in unit.scope parts) >>= (λ small. give unit)) (items_walk first last counts globals parts formed named (unit_start before numbers) (start_good before numbers))
    (λ x g v. quiet_then w x.scope.structs (structs_of first last counts) (IsGood first last counts) (unless_too_big (too_big_in x.scope parts)) (λ small. give x) (small_quiet first last counts globals (too_big_in x.scope parts))
    (λ small. walks_give w x.scope.structs (structs_of first last counts) (IsGood first last counts) x (grown_itself x.scope.structs) v)) in
    let v : WalkedOf w before (structs_of first last counts) (IsGood first last counts) (fine unit js) = subst (WalkedOf w before (structs_of first last counts) (IsGood first last counts)) judged all.walked in
    record { good = v.0.1; known = v.1 (grown_itself last) }
