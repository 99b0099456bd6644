-- What is visible behind a declarator, in a block, and behind it.
use Rattle.std.proofs.Common.{◌≡◌, ℕ, ◌≤◌, Bool, true, false, List, [], ◌∷◌, refl, sym, ap, subst, ◌∙◌}
use Rattle.std.specs.Prelude.{Some, None, if◌then◌else◌}
use Rattle.std.specs.Str.{bytes_eq}
use Rattle.std.specs.Cmp.Lexicographic.{bytes_decides}
use Rattle.std.proofs.lemmas.Bool.{false≢true, false_from_ne_true}
use Rattle.std.proofs.lemmas.Option.{same_Some, none-some}
use Rattle.c_names.specs.Names.{is_identifier}
use Rattle.c_types.specs.Types.{PlainType}
use Rattle.core_meaning.specs.Checking.{Entity, file_entity}
use Rattle.core_meaning.specs.Entities.{Table, Struct, Local, FileName, Scope, local_in, or_else}
use Rattle.core_meaning.specs.Declarations.{with_local, with_local_in, with_block}
use Rattle.core_meaning.specs.UnitNames.{with_file_name}
use Rattle.bindings.specs.Visible.{NameSpace, ordinary, Entry, look_up}
use Rattle.bindings.specs.Judged.{Identified, first_with}
use Rattle.bindings.proofs.Histories.{Grows}
use Rattle.bindings.proofs.Types.{Made, MadeSort}
use Rattle.bindings.proofs.Related.{Room, FirstIs, LocalFound, FileFound, TagFound, Related}

pub bytes_turned : (a b : List ℕ) → bytes_eq a b ≡ false → bytes_eq b a ≡ false
bytes_turned a b h = false_from_ne_true (bytes_eq b a) (λ e. false≢true (sym h ∙ (bytes_decides a b).1 (sym ((bytes_decides b a).0 e))))

pub bytes_same : (a : List ℕ) → bytes_eq a a ≡ true
bytes_same a = (bytes_decides a a).1 refl

-- ---- entries

pub look_up_here : (space : NameSpace) (name : List ℕ) (by : ℕ) (entries : List Entry) → Rattle.bindings.specs.Visible.same_space space space ≡ true → look_up space name (record { space = space; name = name; declared_by = by } ∷ entries) ≡ Some by
look_up_here space name by entries same = ap (λ b. if b then Some by else look_up space name entries) (Rattle.std.proofs.lemmas.Bool.and_from (Rattle.bindings.specs.Visible.same_space space space) (bytes_eq name name) same (bytes_same name))

pub look_up_past : (space : NameSpace) (name other : List ℕ) (by : ℕ) (entries : List Entry) → bytes_eq name other ≡ false → look_up space other (record { space = space; name = name; declared_by = by } ∷ entries) ≡ look_up space other entries
look_up_past space name other by entries e = ap (λ b. if b then Some by else look_up space other entries) (Rattle.std.proofs.lemmas.Bool.and_right (Rattle.bindings.specs.Visible.same_space space space) (bytes_eq name other) e)

-- ---- locals

local_lookup : (blocks : List (Table Local)) (name : List ℕ) (l : Local) (other : List ℕ) → local_in (with_local_in blocks name l) other ≡ (if bytes_eq other name then Some l else local_in blocks other)
local_lookup [] name l other = by (bytes_eq other name)
  where
    by : (b : Bool) → or_else (if b then Some l else None) None ≡ (if b then Some l else None)
    by true = refl
    by false = refl
local_lookup (block ∷ others) name l other = by (bytes_eq other name)
  where
    by : (b : Bool) → or_else (if b then Some l else block other) (local_in others other) ≡ (if b then Some l else or_else (block other) (local_in others other))
    by true = refl
    by false = refl

pub related_local :
    (at : ℕ → Entity) (taken : Room) (scope : Scope) (file blocks : List Entry) (h : List Identified) (name : List ℕ) (slot : ℕ) (ty : PlainType) (number : ℕ)
    → Related at taken scope file blocks h → (taken.alive ≡ true → FirstIs (at slot) h number) → Made scope.tags ty
    → Related at taken (with_local scope name slot ty) file (record { space = ordinary; name = name; declared_by = number } ∷ blocks) h
related_local at taken scope file blocks h name slot ty number r first made =
    record {
      locals = λ other l e. local other l (bytes_eq other name) refl (sym (local_lookup scope.blocks name (record { slot = slot; ty = ty }) other) ∙ e);
      no_local = λ other e. no_local other (bytes_eq other name) refl (sym (local_lookup scope.blocks name (record { slot = slot; ty = ty }) other) ∙ e);
      names = r.names;
      no_name = r.no_name;
      no_first = r.no_first;
      tagged = r.tagged;
      no_tag = r.no_tag;
      new_structs = r.new_structs;
      new_members = r.new_members;
      free = r.free;
      dead = r.dead;
    }
  where
    local :
        (other : List ℕ) (l : Local) (b : Bool) → bytes_eq other name ≡ b → (if b then Some (record { slot = slot; ty = ty }) else local_in scope.blocks other) ≡ Some l
        → LocalFound at taken.alive scope.tags (record { space = ordinary; name = name; declared_by = number } ∷ blocks) h other l
    local other l true same e =
        subst (λ (x : Local). LocalFound at taken.alive scope.tags (record { space = ordinary; name = name; declared_by = number } ∷ blocks) h other x) (same_Some (record { slot = slot; ty = ty }) l e)
        (record {
          by = number;
          entry = subst (λ x. look_up ordinary x (record { space = ordinary; name = name; declared_by = number } ∷ blocks) ≡ Some number) (sym ((bytes_decides other name).0 same)) (look_up_here ordinary name number blocks refl);
          first = first;
          made = made;
        })
    local other l false same e =
        let f = r.locals other l e in
        record { by = f.by; entry = look_up_past ordinary name other number blocks (bytes_turned other name same) ∙ f.entry; first = f.first; made = f.made }

    no_local :
        (other : List ℕ) (b : Bool) → bytes_eq other name ≡ b → (if b then Some (record { slot = slot; ty = ty }) else local_in scope.blocks other) ≡ None
        → look_up ordinary other (record { space = ordinary; name = name; declared_by = number } ∷ blocks) ≡ None
    no_local other true same e = absurd (none-some (let l : Local = record { slot = slot; ty = ty } in l) (sym e))
    no_local other false same e = look_up_past ordinary name other number blocks (bytes_turned other name same) ∙ r.no_local other e

pub related_block :
    (at : ℕ → Entity) (taken : Room) (scope : Scope) (file blocks : List Entry) (h : List Identified) → Related at taken scope file blocks h
    → Related at taken (with_block scope) file blocks h
related_block at taken scope file blocks h r =
    record {
      locals = r.locals;
      no_local = r.no_local;
      names = r.names;
      no_name = r.no_name;
      no_first = r.no_first;
      tagged = r.tagged;
      no_tag = r.no_tag;
      new_structs = r.new_structs;
      new_members = r.new_members;
      free = r.free;
      dead = r.dead;
    }

-- behind a block: what was visible before, as identifiers are known now
pub related_left :
    (at : ℕ → Entity) (taken further : Room) (scope : Scope) (tables : List (Table Local)) (earlier file blocks inner : List Entry) (h g : List Identified)
    → Related at taken scope earlier blocks h → further.alive ≡ taken.alive → Grows h g → Related at further (record scope { blocks = tables }) file inner g → Related at further scope file blocks g
related_left at taken further scope tables earlier file blocks inner h g r alive grows s =
    record {
      locals = λ name l e. let f = r.locals name l e in record { by = f.by; entry = f.entry; first = λ yes_. let i = f.first (sym alive ∙ yes_) in record { by = i.by; is = i.is; first = grows (at l.slot) i.by i.first }; made = f.made };
      no_local = r.no_local;
      names = s.names;
      no_name = s.no_name;
      no_first = s.no_first;
      tagged = s.tagged;
      no_tag = s.no_tag;
      new_structs = s.new_structs;
      new_members = s.new_members;
      free = s.free;
      dead = s.dead;
    }

-- ---- names of file scope

-- a struct, behind a further ordinary name
tag_behind :
    (taken further : ℕ → ℕ) (tags : Table ℕ) (structs : List Struct) (file : List Entry) (h : List Identified) (tag : List ℕ) (number : ℕ) (name : List ℕ) (by : ℕ) → further ≡ taken
    → TagFound taken tags structs file h tag number → TagFound further tags structs (record { space = ordinary; name = name; declared_by = by } ∷ file) h tag number
tag_behind taken further tags structs file h tag number name by members f = record {
  found = record { by = f.found.by; entry = f.found.entry; first = f.found.first };
  spelt = f.spelt;
  struct = f.struct;
  is = f.is;
  members = λ m n e. let g = f.members m n e in record { member = g.member; is = g.is; made = g.made; found = record { by = g.found.by; entry = g.found.entry; first = g.found.first } };
  none_yet = λ open_ n far. f.none_yet open_ n (subst (λ (x : ℕ → ℕ). x number ≤ n) members far);
}

-- a name that is visible already
pub related_again :
    (at : ℕ → Entity) (taken further : Room) (scope : Scope) (file blocks : List Entry) (h : List Identified) (name : List ℕ) (i : Identified)
    → Related at taken scope file blocks h → look_up ordinary name file ≡ Some i.number
    → ((other : List ℕ) → scope.file_names other ≡ None → further.pending other ≡ false → taken.pending other ≡ false) → further.slots ≡ taken.slots → further.members ≡ taken.members → further.alive ≡ taken.alive
    → Related at further scope (record { space = ordinary; name = name; declared_by = i.number } ∷ file) blocks h
related_again at taken further scope file blocks h name i r here pending slots members alive =
    record {
      locals = λ name l e. let f = r.locals name l e in record { by = f.by; entry = f.entry; first = λ yes_. f.first (sym alive ∙ yes_); made = f.made };
      no_local = r.no_local;
      names = λ other n e. let f = r.names other n e in record { found = record { by = f.found.by; entry = same other ∙ f.found.entry; first = f.found.first }; made = f.made; word = f.word };
      no_name = λ other e. same other ∙ r.no_name other e;
      no_first = λ other e p. r.no_first other e (pending other e p);
      tagged = λ tag number e. tag_behind taken.members further.members scope.tags scope.structs file h tag number name i.number members (r.tagged tag number e);
      no_tag = r.no_tag;
      new_structs = r.new_structs;
      new_members = r.new_members;
      free = λ yes_ slot far. r.free (sym alive ∙ yes_) slot (subst (λ x. x ≤ slot) slots far);
      dead = λ no_. r.dead (sym alive ∙ no_);
    }
  where
    same : (other : List ℕ) → look_up ordinary other (record { space = ordinary; name = name; declared_by = i.number } ∷ file) ≡ look_up ordinary other file
    same other = by (bytes_eq name other) refl
      where
        by : (b : Bool) → bytes_eq name other ≡ b → look_up ordinary other (record { space = ordinary; name = name; declared_by = i.number } ∷ file) ≡ look_up ordinary other file
        by true e = subst (λ x. look_up ordinary x (record { space = ordinary; name = name; declared_by = i.number } ∷ file) ≡ look_up ordinary x file) ((bytes_decides name other).0 e) (look_up_here ordinary name i.number file refl ∙ sym here)
        by false e = look_up_past ordinary name other i.number file e

-- a new one
pub related_named :
    (at : ℕ → Entity) (taken further : Room) (scope : Scope) (file blocks : List Entry) (h : List Identified) (name : List ℕ) (n : FileName) (i : Identified)
    → Related at taken scope file blocks h → first_with (file_entity name) h ≡ Some i → MadeSort scope.tags n.sort → is_identifier name ≡ true
    → ((other : List ℕ) → bytes_eq other name ≡ false → further.pending other ≡ false → taken.pending other ≡ false) → further.slots ≡ taken.slots → further.members ≡ taken.members → further.alive ≡ taken.alive
    → Related at further (with_file_name scope name n) (record { space = ordinary; name = name; declared_by = i.number } ∷ file) blocks h
related_named at taken further scope file blocks h name n i r first made word pending slots members alive =
    record {
      locals = λ name l e. let f = r.locals name l e in record { by = f.by; entry = f.entry; first = λ yes_. f.first (sym alive ∙ yes_); made = f.made };
      no_local = r.no_local;
      names = λ other m e. named other m (bytes_eq other name) refl e;
      no_name = λ other e. no_name other (bytes_eq other name) refl e;
      no_first = λ other e p. no_first other p (bytes_eq other name) refl e;
      tagged = λ tag number e. tag_behind taken.members further.members scope.tags scope.structs file h tag number name i.number members (r.tagged tag number e);
      no_tag = r.no_tag;
      new_structs = r.new_structs;
      new_members = r.new_members;
      free = λ yes_ slot far. r.free (sym alive ∙ yes_) slot (subst (λ x. x ≤ slot) slots far);
      dead = λ no_. r.dead (sym alive ∙ no_);
    }
  where
    named :
        (other : List ℕ) (m : FileName) (b : Bool) → bytes_eq other name ≡ b → (if b then Some n else scope.file_names other) ≡ Some m
        → FileFound scope.tags (record { space = ordinary; name = name; declared_by = i.number } ∷ file) h other m
    named other m true same e =
        subst (λ (x : FileName). FileFound scope.tags (record { space = ordinary; name = name; declared_by = i.number } ∷ file) h other x) (same_Some n m e)
        (subst (λ x. FileFound scope.tags (record { space = ordinary; name = name; declared_by = i.number } ∷ file) h x n) (sym ((bytes_decides other name).0 same))
        (record { found = record { by = i; entry = look_up_here ordinary name i.number file refl; first = first }; made = made; word = word }))
    named other m false same e =
        let f = r.names other m e in
        record { found = record { by = f.found.by; entry = look_up_past ordinary name other i.number file (bytes_turned other name same) ∙ f.found.entry; first = f.found.first }; made = f.made; word = f.word }

    no_name : (other : List ℕ) (b : Bool) → bytes_eq other name ≡ b → (if b then Some n else scope.file_names other) ≡ None → look_up ordinary other (record { space = ordinary; name = name; declared_by = i.number } ∷ file) ≡ None
    no_name other true same e = absurd (none-some n (sym e))
    no_name other false same e = look_up_past ordinary name other i.number file (bytes_turned other name same) ∙ r.no_name other e

    no_first : (other : List ℕ) → further.pending other ≡ false → (b : Bool) → bytes_eq other name ≡ b → (if b then Some n else scope.file_names other) ≡ None → first_with (file_entity other) h ≡ None
    no_first other p true same e = absurd (none-some n (sym e))
    no_first other p false same e = r.no_first other e (pending other same p)
