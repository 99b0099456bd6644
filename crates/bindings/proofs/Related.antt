-- What is visible to a judgement and to a reading side by side.
use Rattle.std.proofs.Common.{◌≡◌, ℕ, ◌≤◌, Bool, true, false, List, [], ◌∷◌, ◌++◌, refl, sym, ap, subst, ◌∙◌, length}
use Rattle.std.specs.Prelude.{Option, Some, None, slice_get, ◌==◌}
use Rattle.std.proofs.lemmas.Bool.{eq-eqb, and_from}
use Rattle.c_text.specs.Token.{PlainToken}
use Rattle.c_names.specs.Names.{is_identifier}
use Rattle.c_types.specs.Tags.{PlainMember}
use Rattle.core_meaning.specs.Checking.{Entity, local_entity, file_entity, struct_entity, member_entity, Binding as JudgedBinding}
use Rattle.core_meaning.specs.Constancy.{same_place}
use Rattle.core_meaning.specs.Entities.{Table, Struct, Local, FileName, Scope, local_in, or_else}
use Rattle.bindings.specs.Visible.{NameSpace, ordinary, tags as tag_space, members_of, Entry, look_up, Binding, bound_to, undeclared, Occurrence}
use Rattle.bindings.specs.Judged.{Identified, first_with, number_or, identified, IsBoundAlike}
use Rattle.bindings.proofs.Histories.{SameFirsts, alike_bound}
use Rattle.bindings.proofs.Follows.{is_plain, used_alike, Fine, Unbound, renamed_one}
use Rattle.bindings.proofs.Types.{Made, MadeSort}

-- the slots of a function are entities by what stands here for them
abbrev pub numbering : (ℕ → Entity) → Entity → Entity
numbering at (local_entity slot) = at slot
numbering at other = other

-- what is being declared: how many slots are taken, names whose declarators are open, and how many members structs have that aren't complete
pub record Room : Type 0 where
  pub slots : ℕ
  pub pending : List ℕ → Bool
  pub members : ℕ → ℕ
  -- slots are a function's
  pub alive : Bool

pub record Found (space : NameSpace) (name : List ℕ) (entries : List Entry) (entity : Entity) (history : List Identified) : Type 0 where
  pub by : Identified
  pub entry : look_up space name entries ≡ Some by.number
  pub first : first_with entity history ≡ Some by

pub record FirstIs (entity : Entity) (history : List Identified) (number : ℕ) : Type 0 where
  pub by : Identified
  pub is : by.number ≡ number
  pub first : first_with entity history ≡ Some by

pub record LocalFound (at : ℕ → Entity) (alive : Bool) (tags : Table ℕ) (blocks : List Entry) (history : List Identified) (name : List ℕ) (l : Local) : Type 0 where
  pub by : ℕ
  pub entry : look_up ordinary name blocks ≡ Some by
  pub first : alive ≡ true → FirstIs (at l.slot) history by
  pub made : Made tags l.ty

pub record FileFound (tags : Table ℕ) (file : List Entry) (history : List Identified) (name : List ℕ) (n : FileName) : Type 0 where
  pub found : Found ordinary name file (file_entity name) history
  pub made : MadeSort tags n.sort
  pub word : is_identifier name ≡ true

pub record MemberFound (tags : Table ℕ) (file : List Entry) (history : List Identified) (tag : List ℕ) (number : ℕ) (members : List PlainMember) (name : List ℕ) (n : ℕ) : Type 0 where
  pub member : PlainMember
  pub is : slice_get members n ≡ Some member
  pub made : Made tags member.ty
  pub found : Found (members_of tag) name file (member_entity number n) history

pub record TagFound (taken : ℕ → ℕ) (tags : Table ℕ) (structs : List Struct) (file : List Entry) (history : List Identified) (tag : List ℕ) (number : ℕ) : Type 0 where
  pub found : Found tag_space tag file (struct_entity number) history
  pub spelt : found.by.token.text ≡ tag
  pub struct : Struct
  pub is : slice_get structs number ≡ Some struct
  pub members : (name : List ℕ) (n : ℕ) → struct.numbers name ≡ Some n → MemberFound tags file history tag number struct.members name n
  pub none_yet : struct.complete ≡ false → (n : ℕ) → taken number ≤ n → first_with (member_entity number n) history ≡ None

pub record Related (at : ℕ → Entity) (taken : Room) (scope : Scope) (file blocks : List Entry) (history : List Identified) : Type 0 where
  pub locals : (name : List ℕ) (l : Local) → local_in scope.blocks name ≡ Some l → LocalFound at taken.alive scope.tags blocks history name l
  pub no_local : (name : List ℕ) → local_in scope.blocks name ≡ None → look_up ordinary name blocks ≡ None
  pub names : (name : List ℕ) (n : FileName) → scope.file_names name ≡ Some n → FileFound scope.tags file history name n
  pub no_name : (name : List ℕ) → scope.file_names name ≡ None → look_up ordinary name file ≡ None
  pub no_first : (name : List ℕ) → scope.file_names name ≡ None → taken.pending name ≡ false → first_with (file_entity name) history ≡ None
  pub tagged : (tag : List ℕ) (number : ℕ) → scope.tags tag ≡ Some number → TagFound taken.members scope.tags scope.structs file history tag number
  pub no_tag : (tag : List ℕ) → scope.tags tag ≡ None → look_up tag_space tag file ≡ None
  pub new_structs : (number : ℕ) → length scope.structs ≤ number → first_with (struct_entity number) history ≡ None
  pub new_members : (number n : ℕ) → length scope.structs ≤ number → first_with (member_entity number n) history ≡ None
  -- slots from this one on are free
  pub free : taken.alive ≡ true → (slot : ℕ) → taken.slots ≤ slot → first_with (at slot) history ≡ None
  pub dead : taken.alive ≡ false → (slot : ℕ) → at slot ≡ local_entity slot

-- ---- more identifiers of the same entities change nothing

found_same : (space : NameSpace) (name : List ℕ) (entries : List Entry) (entity : Entity) (h g : List Identified) → SameFirsts h g → Found space name entries entity h → Found space name entries entity g
found_same space name entries entity h g same f = record { by = f.by; entry = f.entry; first = same entity ∙ f.first }

pub related_same :
    (at : ℕ → Entity) (taken : Room) (scope : Scope) (file blocks : List Entry) (h g : List Identified) → SameFirsts h g → Related at taken scope file blocks h
    → Related at taken scope file blocks g
unfolding found_same
related_same at taken scope file blocks h g same r = record {
  locals = λ name l e. let f = r.locals name l e in record { by = f.by; entry = f.entry; first = λ alive. let i = f.first alive in record { by = i.by; is = i.is; first = same (at l.slot) ∙ i.first }; made = f.made };
  no_local = r.no_local;
  names = λ name n e. let f = r.names name n e in record { found = found_same ordinary name file (file_entity name) h g same f.found; made = f.made; word = f.word };
  no_name = r.no_name;
  no_first = λ name e p. same (file_entity name) ∙ r.no_first name e p;
  tagged = λ tag number e. let f = r.tagged tag number e in record {
    found = found_same tag_space tag file (struct_entity number) h g same f.found;
    spelt = f.spelt;
    struct = f.struct;
    is = f.is;
    members = λ name n is. let m = f.members name n is in record { member = m.member; is = m.is; made = m.made; found = found_same (members_of tag) name file (member_entity number n) h g same m.found };
    none_yet = λ new n far. same (member_entity number n) ∙ f.none_yet new n far;
  };
  no_tag = r.no_tag;
  new_structs = λ number far. same (struct_entity number) ∙ r.new_structs number far;
  new_members = λ number n far. same (member_entity number n) ∙ r.new_members number n far;
  free = λ alive slot far. same (at slot) ∙ r.free alive slot far;
  dead = r.dead;
}

-- ---- one identifier

pub same_place_refl : (token : PlainToken) → same_place token token ≡ true
same_place_refl token =
    and_from (token.origin.file == token.origin.file) (Rattle.core_meaning.specs.Constancy.same_span token.origin.span token.origin.span)
    (eq-eqb token.origin.file token.origin.file refl)
    (and_from (token.origin.span.start == token.origin.span.start) (token.origin.span.«end» == token.origin.span.«end»)
    (eq-eqb token.origin.span.start token.origin.span.start refl) (eq-eqb token.origin.span.«end» token.origin.span.«end» refl))

pub one_occurrence :
    (names : Entity → Entity) (before : List Identified) (found : List Occurrence) (o : Occurrence) (j : JudgedBinding) (W : List Identified → Type 0)
    → is_plain j.entity ≡ true → used_alike o.uses_file_name o.token.text j ≡ true → IsBoundAlike before o (names j.entity) → W (before ++ identified o (renamed_one names j) ∷ []) → Fine names before found (found ++ o ∷ []) (j ∷ []) W
one_occurrence names before found o j W plain used is w = record {
  os = o ∷ [];
  is = refl;
  alike = (alike_bound before o (names j.entity) is, tt);
  plain = and_from (is_plain j.entity) true plain refl;
  used = and_from (used_alike o.uses_file_name o.token.text j) true used refl;
  after = w;
}

-- an identifier bound to what is first
pub bound_first :
    (before : List Identified) (number : ℕ) (token : PlainToken) (binding : Binding) (uses_file_name : Bool) (entity : Entity) (by : Identified) → binding ≡ bound_to by.number
    → first_with entity before ≡ Some by → IsBoundAlike before (record { number = number; token = token; binding = binding; uses_file_name = uses_file_name }) entity
bound_first before number token binding uses_file_name entity by is first =
    subst (λ (b : Binding). IsBoundAlike before (record { number = number; token = token; binding = b; uses_file_name = uses_file_name }) entity) (sym is) (sym (ap (λ f. number_or f number) first))

-- one that is undeclared
pub one_undeclared :
    (token : PlainToken) (found : List Occurrence) (number : ℕ) (binding : Binding) (uses_file_name : Bool) → binding ≡ undeclared
    → Unbound found (found ++ record { number = number; token = token; binding = binding; uses_file_name = uses_file_name } ∷ []) token
one_undeclared token found number binding uses_file_name is = record {
  os = record { number = number; token = token; binding = binding; uses_file_name = uses_file_name } ∷ [];
  is = refl;
  first = subst (λ (b : Binding). Rattle.bindings.specs.Judged.IsFirstUndeclared token (record { number = number; token = token; binding = b; uses_file_name = uses_file_name } ∷ [])) (sym is) (same_place_refl token);
}

pub or_else_some : {A : Type 0} (a b : Option A) (x : A) → a ≡ Some x → or_else a b ≡ Some x
or_else_some a b x e = ap (λ o. or_else o b) e

pub or_else_none : {A : Type 0} (a b : Option A) → a ≡ None → or_else a b ≡ b
or_else_none a b e = ap (λ o. or_else o b) e
