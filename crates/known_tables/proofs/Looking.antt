-- How a look-up of a name goes on.
use Rattle.std.proofs.Common.{arith, ◌≡◌, ◌<◌, ℕ, suc, ◌+◌, Bool, true, false, not, List, [], ◌∷◌, length, reverse, Option, None, Some, refl, sym, ap, ◌∙◌, if◌then◌else◌}
use Rattle.std.specs.Prelude.{take, get_or, option_map}
use Rattle.std.specs.Str.{bytes_eq}
use Rattle.std.proofs.Math.Seq.{take-suc}
use Rattle.std.proofs.lemmas.List.{reverse-append}
use Rattle.cond_formula.specs.Conditions.{condition_of, value}
use Rattle.c_types.specs.Types.{PlainType, plain_type}
use Rattle.c_types.specs.Tags.{PlainMember}
use Rattle.conditional.specs.declared.entries.Guarded.{Guarded}
use Rattle.conditional.specs.Entries.{Entry, entry_of, seen, first}
use Rattle.expression_types.specs.Reading.{object_in, callee_in}
use Rattle.type_tables.specs.Tables as plain
use Rattle.type_tables.specs.Tables.{local_named, member_named, object_of, callable_in, denoted_in}
use Rattle.type_tables.specs.Forms.{member_form, file_name_form}
use Rattle.type_tables.specs.Seen.{local_form, locals_in}
use Rattle.type_tables.specs.declared.entries.FileName.{FileName}
use Rattle.type_tables.specs.declared.entries.LocalName.{LocalName}
use Rattle.type_tables.specs.declared.entries.Member.{Member}
use Rattle.known_tables.specs.Lookups.{outcome_of, member_type, found_as, found_at_file_scope, found_in}

-- ---- locals, the latest first

module _ {P : Type 0} (object : PlainType → Option P) (function : ℕ → Option P) (on : ℕ → Bool) (l : LocalName) (outer : List LocalName) (name : List ℕ) (named : Option plain.FileName) where
  pub local_next : bytes_eq name l.name.items ≡ true → found_in object function (local_named (locals_in on (l ∷ outer)) name) named
      ≡ (if value on (condition_of l.when) then object (plain_type l.ty) else found_in object function (local_named (locals_in on outer) name) named)
  local_next same = by (value on (condition_of l.when))
    where
      by : (b : Bool) → found_in object function (local_named (if b then local_form on l ∷ locals_in on outer else locals_in on outer) name) named
          ≡ (if b then object (plain_type l.ty) else found_in object function (local_named (locals_in on outer) name) named)
      by true = ap (λ (t : Bool). found_in object function (if t then Some (local_form on l) else local_named (locals_in on outer) name) named) same
      by false = refl

  pub local_other : bytes_eq name l.name.items ≡ false
      → found_in object function (local_named (locals_in on (l ∷ outer)) name) named ≡ found_in object function (local_named (locals_in on outer) name) named
  local_other other = by (value on (condition_of l.when))
    where
      by : (b : Bool) → found_in object function (local_named (if b then local_form on l ∷ locals_in on outer else locals_in on outer) name) named
          ≡ found_in object function (local_named (locals_in on outer) name) named
      by true = ap (λ (t : Bool). found_in object function (if t then Some (local_form on l) else local_named (locals_in on outer) name) named) other
      by false = refl

pub latest : {A : Type 0} (xs : List A) (i k : ℕ) (x : A) → k ≡ i + 1 → i < length xs → x ≡ get_or xs i x → reverse (take k xs) ≡ x ∷ reverse (take i xs)
latest xs i k x is less there =
    ap (λ n. reverse (take n xs)) (is ∙ next i) ∙ ap reverse (take-suc xs i x less) ∙ reverse-append (take i xs) (get_or xs i x ∷ []) ∙ ap (λ y. y ∷ reverse (take i xs)) (sym there)
  where
    next : (j : ℕ) → j + 1 ≡ suc j
    next j = omega arith

-- ---- names of file scope

pub meaning_next : {P : Type 0} (object : PlainType → Option P) (function : ℕ → Option P) (on : ℕ → Bool) (n : Guarded FileName) (later : List (Entry plain.FileName))
    → found_at_file_scope object function (first (seen on (entry_of file_name_form n ∷ later)))
    ≡ (if value on (condition_of n.when) then found_as object function (file_name_form n.what).sort else found_at_file_scope object function (first (seen on later)))
meaning_next object function on n later = by (value on (condition_of n.when))
  where
    by : (b : Bool) → found_at_file_scope object function (first (if b then file_name_form n.what ∷ seen on later else seen on later))
        ≡ (if b then found_as object function (file_name_form n.what).sort else found_at_file_scope object function (first (seen on later)))
    by true = refl
    by false = refl

-- ---- what names stand for

module _ (t : plain.Tables) where
  pub object_found : (l : Option plain.Local) (named : Option plain.FileName) → outcome_of (found_in (λ ty. Some (object_of t ty)) (λ number. None) l named) ≡ object_in (denoted_in t l named)
  object_found (Some l) named = refl
  object_found None None = refl
  object_found None (Some n) = by n.sort
    where
      by : (sort : plain.Sort) → outcome_of (found_as (λ ty. Some (object_of t ty)) (λ number. None) sort) ≡ object_in (Some (plain.denoted_as t sort))
      by (plain.object ty) = refl
      by (plain.declared_function number) = refl

  pub callee_found : (l : Option plain.Local) (named : Option plain.FileName) → option_map (callable_in t) (found_in (λ ty. None) Some l named) ≡ callee_in (denoted_in t l named)
  callee_found (Some l) named = refl
  callee_found None None = refl
  callee_found None (Some n) = by n.sort
    where
      by : (sort : plain.Sort) → option_map (callable_in t) (found_as (λ ty. None) Some sort) ≡ callee_in (Some (plain.denoted_as t sort))
      by (plain.object ty) = refl
      by (plain.declared_function number) = refl

  -- ---- members, in the order of the text

  pub member_next : (on : ℕ → Bool) (m : Guarded Member) (later : List (Entry PlainMember)) (name : List ℕ) → bytes_eq name m.what.name.items ≡ true
      → member_type t (seen on (entry_of member_form m ∷ later)) name ≡ (if value on (condition_of m.when) then Some (object_of t (plain_type m.what.ty)) else member_type t (seen on later) name)
  member_next on m later name same = by (value on (condition_of m.when))
    where
      by : (b : Bool) → member_type t (if b then member_form m.what ∷ seen on later else seen on later) name ≡ (if b then Some (object_of t (plain_type m.what.ty)) else member_type t (seen on later) name)
      by true = ap (λ (k : Bool). option_map (λ (x : PlainMember). object_of t x.ty) (if k then Some (member_form m.what) else member_named (seen on later) name)) same
      by false = refl

  pub member_other : (on : ℕ → Bool) (m : Guarded Member) (later : List (Entry PlainMember)) (name : List ℕ) → bytes_eq name m.what.name.items ≡ false
      → member_type t (seen on (entry_of member_form m ∷ later)) name ≡ member_type t (seen on later) name
  member_other on m later name other = by (value on (condition_of m.when))
    where
      by : (b : Bool) → member_type t (if b then member_form m.what ∷ seen on later else seen on later) name ≡ member_type t (seen on later) name
      by true = ap (λ (k : Bool). option_map (λ (x : PlainMember). object_of t x.ty) (if k then Some (member_form m.what) else member_named (seen on later) name)) other
      by false = refl

-- ---- names that are the same or not

pub is_same : (b : Bool) → not b ≡ false → b ≡ true
is_same true is = refl
is_same false is = cc

pub is_other : (b : Bool) → not b ≡ true → b ≡ false
is_other true is = cc
is_other false is = refl
