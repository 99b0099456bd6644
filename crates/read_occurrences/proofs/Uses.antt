-- Each use of a member is paired with the one identifier that declares the member, by the tag of its struct and its name.
use Rattle.std.proofs.Common.{◌≡◌, ℕ, ◌==◌, Bool, true, false, List, [], ◌∷◌, inl, inr, refl, sym, ap, ap₂, subst, ◌∙◌}
use Rattle.std.specs.Prelude.{Option, Some, None, flat_map, if◌then◌else◌}
use Rattle.std.specs.Str.{bytes_eq}
use Rattle.std.specs.Cmp.Lexicographic.{bytes_decides}
use Rattle.std.proofs.lemmas.Bool.{false≢true, and_parts, and_from}
use Rattle.std.proofs.lemmas.Option.{same_Some, none-some}
use Rattle.c_text.specs.Token.{PlainToken}
use Rattle.core_meaning.specs.Checking.{Entity, local_entity, local_of_function, file_entity, struct_entity, member_entity, own_entity, Binding}
use Rattle.core_meaning.specs.Entities.{Table}
use Rattle.bindings.specs.Visible.{NameSpace, ordinary, tags as tag_space, members_of, Binding as Bound, bound_to, member_use}
use Rattle.bindings.specs.Judged.{Identified, first_with}
use Rattle.choice_trees.specs.Leaves.{Leaf}
use Rattle.cond_pairings.specs.Pairs.{Pair}
use Rattle.changed_forests.specs.Numbered.{number_of}
use Rattle.selections.specs.Laws.{structure_of_entity}
use Rattle.member_uses.specs.Uses.{Use, structure_used}
use Rattle.cond_scopes.specs.Progress.{number_or_none}
use Rattle.member_pairs.specs.Members.{is_member_space, declares_member, pair_of as use_pair, pairs_of_use, pairs_of_uses}
use Rattle.cond_name_spaces.specs.Spaced.{InSpace}
use Rattle.program_occurrences.specs.Occurrences.{UnitNames, declares_itself}
use Rattle.program_occurrences.specs.Laws.{IsMemberOf}
use Rattle.occurrence_names.proofs.Kept.{In}
use Rattle.name_spaces.specs.Laws.{binds_itself}
use Rattle.name_spaces.proofs.Embeddings.{Declares}
use Rattle.told_occurrences.specs.Told.{number_in, pair_of}
use Rattle.read_occurrences.proofs.Walked.{IsMember}
use Rattle.read_occurrences.proofs.OneByOne.{Row, Facts, row_bound, row_first, Source, in_origin, in_made}

-- what is known of the rows of a unit
pub record Known (unit : UnitNames) (tags : Table ℕ) (numbers : List ℕ) (by : ℕ → ℕ) (tag : ℕ → List ℕ) (members : ℕ → List ℕ → Option ℕ) (rows : List Row) : Type 0 where
  pub facts : (r : Row) → In r rows → Facts unit tags numbers r
  -- no two have one number
  pub one : (r q : Row) → In r rows → In q rows → number_in numbers r.bound.number ≡ number_in numbers q.bound.number → r ≡ q
  pub declaring : (r : Row) → In r rows → Row
  pub declared : (r : Row) (i : In r rows) → In (declaring r i) rows
  pub declares : (r : Row) (i : In r rows) → (declaring r i).occurrence.identifier ≡ r.occurrence.declared_by
  pub itself : (r : Row) (i : In r rows) → declares_itself (declaring r i).occurrence ≡ true
  pub alike : (r : Row) (i : In r rows) → (declaring r i).judged.entity ≡ r.judged.entity
  -- names of members
  pub own : (r : Row) → In r rows → IsMember r.space → declares_itself r.occurrence ≡ true
  pub used : (r : Row) → In r rows → (which : List ℕ → Option ℕ) → r.bound.binding ≡ member_use which → (name : List ℕ) (d : ℕ) → which name ≡ Some d → (q : Row) → In q rows → q.bound.number ≡ d → IsMember q.space
  pub tagged : (name : List ℕ) (s : ℕ) → tags name ≡ Some s → tag (by s) ≡ name
  pub first : (r : Row) → In r rows → (name : List ℕ) (s m : ℕ) → tags name ≡ Some s → r.judged.entity ≡ member_entity s m → Identified
  pub is_first : (r : Row) (i : In r rows) (name : List ℕ) (s m : ℕ) (e : tags name ≡ Some s) (f : r.judged.entity ≡ member_entity s m) → first_with (member_entity s m) unit.identified ≡ Some (first r i name s m e f)
  pub member : (r : Row) → In r rows → (name : List ℕ) (s m : ℕ) → tags name ≡ Some s → r.judged.entity ≡ member_entity s m → declares_itself r.occurrence ≡ true → members s r.bound.token.text ≡ Some m

-- what declares something in the name space of this struct's members
record OfStruct (tags : Table ℕ) (struct : List ℕ) (e : Entity) : Type 0 where
  number : ℕ
  member : ℕ
  entity_is : e ≡ member_entity number member
  known : tags struct ≡ Some number

of_struct : (tags : Table ℕ) (struct : List ℕ) (e : Entity) → Declares tags (Some (members_of struct)) e → OfStruct tags struct e
of_struct tags struct (member_entity n m) d = record { number = n; member = m; entity_is = refl; known = d }
of_struct tags struct _ d = absurd d

record TheStruct (space : Option NameSpace) : Type 0 where
  struct : List ℕ
  is : space ≡ Some (members_of struct)

the_struct : (space : Option NameSpace) → IsMember space → TheStruct space
the_struct (Some (members_of struct)) h = record { struct = struct; is = refl }
the_struct (Some ordinary) h = absurd h
the_struct (Some tag_space) h = absurd h
the_struct None h = absurd h

-- what declares a member is in the name space of its struct
record InSpaceOf (tags : Table ℕ) (space : Option NameSpace) (n : ℕ) : Type 0 where
  struct : List ℕ
  is : space ≡ Some (members_of struct)
  known : tags struct ≡ Some n

of_entity : (tags : Table ℕ) (space : Option NameSpace) (n m : ℕ) → Declares tags space (member_entity n m) → InSpaceOf tags space n
of_entity tags (Some (members_of struct)) n m d = record { struct = struct; is = refl; known = d }
of_entity tags (Some ordinary) n m d = absurd d
of_entity tags (Some tag_space) n m d = absurd d
of_entity tags None n m d = absurd d

is_member : (space : Option NameSpace) (struct : List ℕ) → space ≡ Some (members_of struct) → IsMember space
is_member space struct e = subst IsMember (sym e) tt

-- the struct whose member an expression names
record OfUse (by : ℕ → ℕ) (j : Binding) (structure : ℕ) : Type 0 where
  number : ℕ
  member : ℕ
  entity_is : j.entity ≡ member_entity number member
  structure_is : structure ≡ by number

of_use : (by : ℕ → ℕ) (j : Binding) (structure : ℕ) → structure_used by j ≡ Some structure → OfUse by j structure
of_use by j structure e = inside j.in_expression j.entity refl e
  where
    inside : (b : Bool) (x : Entity) → j.entity ≡ x → (if b then structure_of_entity by x else None) ≡ Some structure → OfUse by j structure
    inside true (member_entity n m) is e = record { number = n; member = m; entity_is = is; structure_is = sym (same_Some (by n) structure e) }
    inside true (local_entity n) is e = absurd (none-some structure e)
    inside true (local_of_function f n) is e = absurd (none-some structure e)
    inside true (file_entity name) is e = absurd (none-some structure e)
    inside true (struct_entity n) is e = absurd (none-some structure e)
    inside true own_entity is e = absurd (none-some structure e)
    inside false x is e = absurd (none-some structure e)

-- ---- what rows give

abbrev pub spaced_with : Row → Option NameSpace → List InSpace
spaced_with r None = []
spaced_with r (Some space) = record { name = r.leaf; space = space } ∷ []

abbrev pub spaced_of : Row → List InSpace
spaced_of r = spaced_with r r.space

abbrev pub use_with : Row → Option ℕ → List Use
use_with r None = []
use_with r (Some structure) = record { token = r.bound.token; structure = structure } ∷ []

abbrev pub use_of : (ℕ → ℕ) → Row → List Use
use_of by r = use_with r (structure_used by r.judged)

pub record Spaced (r : Row) (n : InSpace) : Type 0 where
  pub space : r.space ≡ Some n.space
  pub name : n.name ≡ r.leaf

pub from_spaced : (r : Row) (n : InSpace) (s : Option NameSpace) → r.space ≡ s → In n (spaced_with r s) → Spaced r n
from_spaced r n None e i = absurd i
from_spaced r n (Some space) e (inl is) = record { space = e ∙ ap (λ (x : InSpace). Some x.space) (sym is); name = ap (λ (x : InSpace). x.name) is }
from_spaced r n (Some space) e (inr i) = absurd i

pub to_spaced : (r : Row) (space : NameSpace) → r.space ≡ Some space → In (record { name = r.leaf; space = space }) (spaced_of r)
to_spaced r space e = subst (λ s. In (record { name = r.leaf; space = space }) (spaced_with r s)) (sym e) (inl refl)

record Used (by : ℕ → ℕ) (r : Row) (u : Use) : Type 0 where
  structure : structure_used by r.judged ≡ Some u.structure
  token : u.token ≡ r.bound.token

from_use : (by : ℕ → ℕ) (r : Row) (u : Use) (s : Option ℕ) → structure_used by r.judged ≡ s → In u (use_with r s) → Used by r u
from_use by r u None e i = absurd i
from_use by r u (Some structure) e (inl is) = record { structure = e ∙ ap (λ (x : Use). Some x.structure) (sym is); token = ap (λ (x : Use). x.token) is }
from_use by r u (Some structure) e (inr i) = absurd i

to_use : (by : ℕ → ℕ) (r : Row) (structure : ℕ) → structure_used by r.judged ≡ Some structure → In (record { token = r.bound.token; structure = structure }) (use_of by r)
to_use by r structure e = subst (λ s. In (record { token = r.bound.token; structure = structure }) (use_with r s)) (sym e) (inl refl)

-- ---- the pairs of a use

record Paired (tag : List ℕ) (u : Use) (names : List InSpace) (p : Pair) : Type 0 where
  name : InSpace
  among : In name names
  declares : declares_member tag u.token.text name ≡ true
  is : p ≡ use_pair u name

from_pairs : (tag : List ℕ) (u : Use) (names : List InSpace) (p : Pair) → In p (pairs_of_use tag u names) → Paired tag u names p
from_pairs tag u [] p i = absurd i
from_pairs tag u (n ∷ names) p i = by (λ j. from_pairs tag u names p j) (declares_member tag u.token.text n) refl i
  where
    later : Paired tag u names p → Paired tag u (n ∷ names) p
    later x = record { name = x.name; among = inr x.among; declares = x.declares; is = x.is }

    by : (In p (pairs_of_use tag u names) → Paired tag u names p) → (b : Bool) → declares_member tag u.token.text n ≡ b → In p (if b then use_pair u n ∷ pairs_of_use tag u names else pairs_of_use tag u names) → Paired tag u (n ∷ names) p
    by rest true e (inl is) = record { name = n; among = inl refl; declares = e; is = is }
    by rest true e (inr i) = later (rest i)
    by rest false e i = later (rest i)

to_pairs : (tag : List ℕ) (u : Use) (names : List InSpace) (n : InSpace) → In n names → declares_member tag u.token.text n ≡ true → In (use_pair u n) (pairs_of_use tag u names)
to_pairs tag u [] n i d = absurd i
to_pairs tag u (x ∷ names) n (inl e) d =
    subst (λ (b : Bool). In (use_pair u n) (if b then use_pair u x ∷ pairs_of_use tag u names else pairs_of_use tag u names)) (sym (ap (declares_member tag u.token.text) (sym e) ∙ d)) (inl (ap (use_pair u) e))
to_pairs tag u (x ∷ names) n (inr i) d = by (declares_member tag u.token.text x) (to_pairs tag u names n i d)
  where
    by : (b : Bool) → In (use_pair u n) (pairs_of_use tag u names) → In (use_pair u n) (if b then use_pair u x ∷ pairs_of_use tag u names else pairs_of_use tag u names)
    by true h = inr h
    by false h = h

record InStruct (tag : List ℕ) (space : NameSpace) : Type 0 where
  is : space ≡ members_of tag

in_struct : (tag : List ℕ) (space : NameSpace) → is_member_space tag space ≡ true → InStruct tag space
in_struct tag ordinary e = absurd (false≢true e)
in_struct tag tag_space e = absurd (false≢true e)
in_struct tag (members_of struct) e = record { is = ap members_of ((bytes_decides struct tag).0 e) }

-- ---- uses and what declares them

module _ (unit : UnitNames) (tags : Table ℕ) (numbers : List ℕ) (by : ℕ → ℕ) (tag : ℕ → List ℕ) (members : ℕ → List ℕ → Option ℕ) (rows : List Row) (k : Known unit tags numbers by tag members rows) where
  -- what declares a member is in the name space of its struct
  declares_in : (r : Row) (i : In r rows) (n m : ℕ) → r.judged.entity ≡ member_entity n m → InSpaceOf tags (k.declaring r i).space n
  declares_in r i n m e =
      let d : Row = k.declaring r i in
      let f = k.facts d (k.declared r i) in
      of_entity tags d.space n m (subst (Declares tags d.space) (k.alike r i ∙ e) (f.fits (f.unused (k.itself r i))))

  -- two that declare members of one struct by one name are one
  one_member :
      (d z : Row) → In d rows → In z rows → declares_itself d.occurrence ≡ true → declares_itself z.occurrence ≡ true → (name : List ℕ) (s m n : ℕ) → tags name ≡ Some s
      → d.judged.entity ≡ member_entity s m → z.judged.entity ≡ member_entity s n → d.bound.token.text ≡ z.bound.token.text → d ≡ z
  one_member d z i j own other name s m n e f g same =
      let same_number : m ≡ n = same_Some m n (sym (k.member d i name s m e f own) ∙ ap (members s) same ∙ k.member z j name s n e g other) in
      let g' : z.judged.entity ≡ member_entity s m = g ∙ ap (member_entity s) (sym same_number) in
      let by_ : Identified = k.first d i name s m e f in
      let found : first_with (member_entity s m) unit.identified ≡ Some by_ = k.is_first d i name s m e f in
      k.one d z i j
      (ap (number_in numbers) (row_first unit tags numbers d (k.facts d i) (member_entity s m) by_ f found own ∙ sym (row_first unit tags numbers z (k.facts z j) (member_entity s m) by_ g' found other)))

  same_text : (r : Row) (i : In r rows) → (k.declaring r i).bound.token.text ≡ r.bound.token.text
  same_text r i =
      let d : Row = k.declaring r i in
      let f = k.facts r i in
      let g = k.facts d (k.declared r i) in
      ap (λ (t : PlainToken). t.text) (sym g.is.token) ∙ ap (λ (x : Identified). x.token.text) (k.declares r i) ∙ sym f.keeps ∙ ap (λ (t : PlainToken). t.text) f.is.token

  declared_number : (r : Row) (i : In r rows) → (k.declaring r i).bound.number ≡ r.occurrence.declared_by.number
  declared_number r i = sym (k.facts (k.declaring r i) (k.declared r i)).is.number ∙ ap (λ (x : Identified). x.number) (k.declares r i)

  -- the identifier of a use is paired with the one that declares it
  pair_is : (r z : Row) (i : In r rows) (j : In z rows) (u : Use) (n : InSpace) → u.token ≡ r.bound.token → n.name ≡ z.leaf → k.declaring r i ≡ z → use_pair u n ≡ pair_of numbers r.occurrence
  pair_is r z i j u n token name is =
      let f = k.facts r i in
      let g = k.facts z j in
      ap₂ (λ (a b : ℕ). let p : Pair = record { identifier = a; declared_by = b } in p)
      (ap number_of token ∙ ap number_of (sym f.leaf.text) ∙ f.leaf.number ∙ ap (number_in numbers) (sym f.is.number))
      (ap (λ (l : Leaf). number_or_none l.number) name ∙ ap number_or_none g.leaf.tells
      ∙ ap (number_in numbers) (ap (λ (x : Row). x.bound.number) (sym is) ∙ declared_number r i))

  -- ---- what is paired is an occurrence

  used_is : (r z : Row) (i : In r rows) (j : In z rows) (u : Use) (n : InSpace) → Used by r u → Spaced z n → declares_member (tag u.structure) u.token.text n ≡ true → use_pair u n ≡ pair_of numbers r.occurrence
  used_is r z i j u n used spaced_ d =
      let both = and_parts (is_member_space (tag u.structure) n.space) (bytes_eq n.name.text.text u.token.text) d in
      let o = of_use by r.judged u.structure used.structure in
      let y : Row = k.declaring r i in
      let at_y = declares_in r i o.number o.member o.entity_is in
      let f = k.facts z j in
      let z_space : z.space ≡ Some (members_of (tag u.structure)) = spaced_.space ∙ ap Some (in_struct (tag u.structure) n.space both.0).is in
      let z_own : declares_itself z.occurrence ≡ true = k.own z j (is_member z.space (tag u.structure) z_space) in
      let at_z = of_struct tags (tag u.structure) z.judged.entity (subst (λ (s : Option NameSpace). Declares tags s z.judged.entity) z_space (f.fits (f.unused z_own))) in
      let tag_is : tag u.structure ≡ at_y.struct = ap tag o.structure_is ∙ k.tagged at_y.struct o.number at_y.known in
      let same : at_z.number ≡ o.number = same_Some at_z.number o.number (sym at_z.known ∙ ap tags tag_is ∙ at_y.known) in
      let text : y.bound.token.text ≡ z.bound.token.text =
      same_text r i ∙ ap (λ (t : PlainToken). t.text) (sym used.token) ∙ sym ((bytes_decides n.name.text.text u.token.text).0 both.1) ∙ ap (λ (l : Leaf). l.text.text) spaced_.name ∙ ap (λ (t : PlainToken). t.text) f.leaf.text in
      pair_is r z i j u n used.token spaced_.name
      (one_member y z (k.declared r i) j (k.itself r i) z_own at_y.struct o.number o.member at_z.member at_y.known (k.alike r i ∙ o.entity_is) (at_z.entity_is ∙ ap (λ (s : ℕ). member_entity s at_z.member) same) text)

  pub pairs_sound : (p : Pair) → In p (pairs_of_uses tag (flat_map spaced_of rows) (flat_map (use_of by) rows)) → Source (λ (r : Row). pair_of numbers r.occurrence) rows p
  pairs_sound p i =
      let first = in_origin (λ (u : Use). pairs_of_use (tag u.structure) u (flat_map spaced_of rows)) (flat_map (use_of by) rows) p i in
      let u : Use = first.source in
      let of_u = in_origin (use_of by) rows u first.among in
      let paired = from_pairs (tag u.structure) u (flat_map spaced_of rows) p first.made in
      let of_n = in_origin spaced_of rows paired.name paired.among in
      record {
        source = of_u.source;
        among = of_u.among;
        same = paired.is
            ∙ used_is of_u.source of_n.source of_u.among of_n.among u paired.name (from_use by of_u.source u (structure_used by of_u.source.judged) refl of_u.made)
            (from_spaced of_n.source paired.name of_n.source.space refl of_n.made) paired.declares;
      }

  -- ---- each use is paired

  record IsUse (r : Row) : Type 0 where
    number : ℕ
    member : ℕ
    entity_is : r.judged.entity ≡ member_entity number member
    used : r.judged.in_expression ≡ true

  is_use : (r : Row) (i : In r rows) (which : List ℕ → Option ℕ) → r.bound.binding ≡ member_use which → IsUse r
  is_use r i which e =
      let g = k.facts r i in
      let is : IsMemberOf unit.identified which r.occurrence = row_bound unit tags numbers r g (member_use which) e in
      let d : Row = k.declaring r i in
      let f = k.facts d (k.declared r i) in
      let s = the_struct d.space (k.used r i which e is.tag.token.text r.occurrence.declared_by.number is.bound d (k.declared r i) (declared_number r i)) in
      let o = of_struct tags s.struct d.judged.entity (subst (λ (x : Option NameSpace). Declares tags x d.judged.entity) s.is (f.fits (f.unused (k.itself r i)))) in
      let entity : r.judged.entity ≡ member_entity o.number o.member = sym (k.alike r i) ∙ o.entity_is in
      record { number = o.number; member = o.member; entity_is = entity; used = by_test o.number o.member entity r.judged.in_expression refl }
    where
      by_test : (n m : ℕ) → r.judged.entity ≡ member_entity n m → (b : Bool) → r.judged.in_expression ≡ b → b ≡ true
      by_test n m entity true unused = refl
      by_test n m entity false unused =
          let g = k.facts r i in
          let o = of_entity tags r.space n m (subst (Declares tags r.space) entity (g.fits unused)) in
          let own : declares_itself r.occurrence ≡ true = k.own r i (is_member r.space o.struct o.is) in
          let other : binds_itself r.bound ≡ false = ap (λ (x : Bound). elim x as (λ (y : Bound). Bool) [ bound_to n ↦ r.bound.number == n | other ↦ false ]) e in
          absurd (false≢true (sym other ∙ g.itself ∙ own))

  pub pairs_complete : (r : Row) → In r rows → (which : List ℕ → Option ℕ) → r.bound.binding ≡ member_use which → In (pair_of numbers r.occurrence) (pairs_of_uses tag (flat_map spaced_of rows) (flat_map (use_of by) rows))
  pairs_complete r i which e =
      let x = is_use r i which e in
      let d : Row = k.declaring r i in
      let f = k.facts d (k.declared r i) in
      let s = declares_in r i x.number x.member x.entity_is in
      let u : Use = record { token = r.bound.token; structure = by x.number } in
      let n : InSpace = record { name = d.leaf; space = members_of s.struct } in
      let structure : structure_used by r.judged ≡ Some (by x.number) =
      ap₂ (λ (b : Bool) (y : Entity). if b then structure_of_entity by y else None) x.used x.entity_is in
      let text : d.leaf.text.text ≡ r.bound.token.text = ap (λ (t : PlainToken). t.text) f.leaf.text ∙ same_text r i in
      let declares : declares_member (tag (by x.number)) r.bound.token.text n ≡ true =
      and_from (bytes_eq s.struct (tag (by x.number))) (bytes_eq d.leaf.text.text r.bound.token.text) ((bytes_decides s.struct (tag (by x.number))).1 (sym (k.tagged s.struct x.number s.known)))
      ((bytes_decides d.leaf.text.text r.bound.token.text).1 text) in
      let among : In n (flat_map spaced_of rows) = in_made spaced_of rows d n (k.declared r i) (to_spaced d (members_of s.struct) s.is) in
      let used : In u (flat_map (use_of by) rows) = in_made (use_of by) rows r u i (to_use by r (by x.number) structure) in
      subst (λ (p : Pair). In p (pairs_of_uses tag (flat_map spaced_of rows) (flat_map (use_of by) rows))) (pair_is r d i (k.declared r i) u n refl refl refl)
      (in_made (λ (u : Use). pairs_of_use (tag u.structure) u (flat_map spaced_of rows)) (flat_map (use_of by) rows) u (use_pair u n) used
      (to_pairs (tag (by x.number)) u (flat_map spaced_of rows) n among declares))
