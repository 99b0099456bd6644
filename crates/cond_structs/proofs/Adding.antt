-- Members that are added to those that are gathered.
use Rattle.std.proofs.Common.{◌≡◌, ℕ, ◌+◌, ◌<◌, ◌≤◌, Bool, true, false, not, ◌&&◌, ◌||◌, List, ◌∷◌, length, drop, get_or, IsTrue, refl, sym, ap, ◌∙◌, subst}
use Rattle.std.specs.Prelude.{Some, is_some, if◌then◌else◌}
use Rattle.std.proofs.lemmas.List.{drop_all}
use Rattle.std.specs.Str.{bytes_eq}
use Rattle.cond_formula.specs.Conditions.{condition_of, value}
use Rattle.c_types.specs.Types.{PlainType}
use Rattle.c_types.specs.Tags.{PlainMember}
use Rattle.conditional.specs.Entries.{seen, some_holds, Carry, entries_of}
use Rattle.conditional.specs.declared.entries.Guarded.{Guarded}
use Rattle.conditional.proofs.ListLaws.{item_of}
use Rattle.type_tables.specs.Tables.{member_named}
use Rattle.type_tables.specs.Forms.{member_form, declared_type_form}
use Rattle.type_tables.specs.declared.entries.DeclaredType.{DeclaredType}
use Rattle.type_tables.specs.declared.entries.Member.{Member}

-- ---- names

named_here : (t named : Bool) (m : PlainMember) (rest : List PlainMember) (name : List ℕ) → bytes_eq name m.name ≡ named
    → is_some (member_named (if t then m ∷ rest else rest) name) ≡ ((t && named) || is_some (member_named rest name))
named_here true true m rest name e = ap (λ b. is_some (if b then Some m else member_named rest name)) e
named_here true false m rest name e = ap (λ b. is_some (if b then Some m else member_named rest name)) e
named_here false named m rest name e = refl

or_assoc : (a b c : Bool) → ((a || b) || c) ≡ (a || (b || c))
or_assoc true b c = refl
or_assoc false b c = refl

pub named_step :
    (on : ℕ → Bool) (members : List (Guarded Member)) (i : ℕ) (m : Guarded Member) (name : List ℕ) (before after all : Bool) → i < length members → m ≡ get_or members i m
    → (before || is_some (member_named (seen on (entries_of member_form (drop i members))) name)) ≡ all → after ≡ (before || (value on (condition_of m.when) && bytes_eq name m.what.name.items))
    → (after || is_some (member_named (seen on (entries_of member_form (drop (i + 1) members))) name)) ≡ all
named_step on members i m name before after all less is so_far step =
    ap (λ b. b || is_some (member_named (seen on (entries_of member_form (drop (i + 1) members))) name)) step
    ∙ or_assoc before (value on (condition_of m.when) && bytes_eq name m.what.name.items) _
    ∙ ap (λ b. before || b) (sym (named_here (value on (condition_of m.when)) (bytes_eq name m.what.name.items) (member_form m.what) (seen on (entries_of member_form (drop (i + 1) members))) name refl))
    ∙ ap (λ (l : List (Guarded Member)). before || is_some (member_named (seen on (entries_of member_form l)) name)) (sym (item_of members m i less is))
    ∙ so_far

or_false : (b : Bool) → (b || false) ≡ b
or_false true = refl
or_false false = refl

pub named_end : (on : ℕ → Bool) (members : List (Guarded Member)) (i : ℕ) (name : List ℕ) (now all : Bool) → length members ≤ i
    → (now || is_some (member_named (seen on (entries_of member_form (drop i members))) name)) ≡ all → now ≡ all
named_end on members i name now all past so_far =
    sym (or_false now) ∙ ap (λ (l : List (Guarded Member)). now || is_some (member_named (seen on (entries_of member_form l)) name)) (sym (drop_all i members past)) ∙ so_far

-- ---- the first of several types

pub first_step : {G : Type 0} (with_ : PlainType → G → G) (left t rest when left_now : Bool) (ty what : PlainType) (old new all : G) → (IsTrue t → what ≡ ty) → when ≡ (left && t) → left_now ≡ (left && not t)
    → new ≡ (if when then with_ what old else old) → (if left && (t || rest) then with_ ty old else old) ≡ all → (if left_now && rest then with_ ty new else new) ≡ all
first_step with_ false t rest when left_now ty what old new all same h i n b =
    ap (λ l. if l && rest then with_ ty new else new) i ∙ n ∙ ap (λ x. if x then with_ what old else old) h ∙ b
first_step with_ true true rest when left_now ty what old new all same h i n b =
    ap (λ l. if l && rest then with_ ty new else new) i ∙ n ∙ ap (λ x. if x then with_ what old else old) h ∙ ap (λ x. with_ x old) (same refl) ∙ b
first_step with_ true false rest when left_now ty what old new all same h i n b =
    ap (λ l. if l && rest then with_ ty new else new) i ∙ ap (λ g. if rest then with_ ty g else g) (n ∙ ap (λ x. if x then with_ what old else old) h) ∙ b

pub none_left : {G : Type 0} (left : Bool) (x y : G) → y ≡ (if left && false then x else y)
none_left true x y = refl
none_left false x y = refl

-- one of the alternatives, and those behind it
module _ (on : ℕ → Bool) (ty : PlainType) (types : List (Guarded DeclaredType)) where
  pub carried_step : (i : ℕ) (x : Guarded DeclaredType) → i < length types → x ≡ get_or types i x → Carry on ty (entries_of declared_type_form (drop i types))
      → (IsTrue (value on (condition_of x.when)) → declared_type_form x.what ≡ ty) × Carry on ty (entries_of declared_type_form (drop (i + 1) types))
  carried_step i x less is h = subst (λ l. Carry on ty (entries_of declared_type_form l)) (item_of types x i less is) h

  pub adding_step : {G : Type 0} (with_ : PlainType → G → G) (i : ℕ) (x : Guarded DeclaredType) (left when left_now : Bool) (old new all : G) → i < length types → x ≡ get_or types i x
      → (IsTrue (value on (condition_of x.when)) → declared_type_form x.what ≡ ty) → when ≡ (left && value on (condition_of x.when)) → left_now ≡ (left && not (value on (condition_of x.when)))
      → new ≡ (if when then with_ (declared_type_form x.what) old else old)
      → (if left && some_holds on (entries_of declared_type_form (drop i types)) then with_ ty old else old) ≡ all
      → (if left_now && some_holds on (entries_of declared_type_form (drop (i + 1) types)) then with_ ty new else new) ≡ all
  adding_step with_ i x left when left_now old new all less is carry h l n so_far =
      first_step with_ left (value on (condition_of x.when)) (some_holds on (entries_of declared_type_form (drop (i + 1) types))) when left_now ty (declared_type_form x.what) old new all carry h l n
      (ap (λ (list : List (Guarded DeclaredType)). if left && some_holds on (entries_of declared_type_form list) then with_ ty old else old) (sym (item_of types x i less is)) ∙ so_far)

  pub adding_end : {G : Type 0} (with_ : PlainType → G → G) (i : ℕ) (left : Bool) (now all : G) → length types ≤ i
      → (if left && some_holds on (entries_of declared_type_form (drop i types)) then with_ ty now else now) ≡ all → now ≡ all
  adding_end with_ i left now all past so_far =
      none_left left (with_ ty now) now ∙ ap (λ (list : List (Guarded DeclaredType)). if left && some_holds on (entries_of declared_type_form list) then with_ ty now else now) (sym (drop_all i types past)) ∙ so_far
