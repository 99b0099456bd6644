-- The first values of objects of file scope are constants and addresses, part by part.
use Rattle.std.proofs.Common.{◌≡◌, ℕ, ◌+◌, Bool, true, false, ◌&&◌, ◌||◌, List, [], ◌∷◌, ◌++◌, refl, sym, subst}
use Rattle.std.specs.Prelude.{Option, Some, None, is_some, nat_le, length, if◌then◌else◌}
use Rattle.std.proofs.lemmas.Bool.{false≢true, and_parts}
use Rattle.std.proofs.lemmas.Option.{same_Some, none-some}
use Rattle.c_text.specs.Token.{PlainToken}
use Rattle.c_types.specs.Types.{PlainType, array_of}
use Rattle.c_types.specs.Integers.{is_integer}
use Rattle.c_tree.specs.declared.kinds.Kind.TheVariants as k
use Rattle.c_tree.specs.Trees.{PlainTree, PlainTrees, node, none, more}
use Rattle.core_meaning.specs.declared.refusals.TypeKind.TheVariants.{BadOperand, BadConstant}
use Rattle.core_meaning.specs.Program.{PlainExpression, null_constant, address, first_element, convert, global, literal}
use Rattle.core_meaning.specs.Values.{Path}
use Rattle.core_meaning.specs.Checking.{Binding, Checked, fine, refused, broken, with_bindings, ◌>>=◌, give, unless_so, found_or, or_broken}
use Rattle.core_meaning.specs.Entities.{Scope}
use Rattle.core_meaning.specs.Typing.{Typed, integer_type, is_pointer, is_struct, same_type, number_in_type, fits_into}
use Rattle.core_meaning.specs.Expressions.{first_token, text_bytes, valued}
use Rattle.core_meaning.specs.Constancy.{is_constant, Initial, address_scalar, first_scalar, part_for, path_for, is_character_type, text_initial, part_or_excess, is_allowed, value_initial, whole_initial, text_or_whole, initial, initial_entries}
use Rattle.bound_slots.proofs.Constants.{Only, is_constant_value, never_then}
use Rattle.bound_slots.proofs.Sizes.{Anything, value_quiet}
use Rattle.first_values.specs.Laws.{NameNoMembers, FirstValuesNameNoMembers}
use Rattle.first_values.proofs.Addresses.{NoneNamed, both_none, never_named, none_then, is_address, is_address_value, value_names}

-- ---- what may be a first value

abbrev may_be_first : Typed → Bool
may_be_first x = is_constant x.core || is_address_value x

first_of_two : (a b : Bool) → a ≡ true → (a || b) ≡ true
first_of_two true b e = refl
first_of_two false b e = absurd (false≢true e)

second_of_two : (a b : Bool) → b ≡ true → (a || b) ≡ true
second_of_two true b e = refl
second_of_two false b e = e

address_is : (globals : ℕ) (e : PlainExpression) → is_some (address_scalar globals e) ≡ true → is_address e ≡ true
address_is globals null_constant h = refl
address_is globals (address (global n)) h = refl
address_is globals (first_element (global n)) h = refl
address_is globals (first_element (literal n)) h = refl
address_is globals other h = absurd (false≢true h)

-- a scalar that is given is one of a constant or of an address
scalar_is : (globals : ℕ) (e : PlainExpression) → is_some (first_scalar globals e) ≡ true → (is_constant e || is_address e) ≡ true
scalar_is globals e h = by (is_constant e) refl h
  where
    by : (b : Bool) → is_constant e ≡ b → is_some (if b then Rattle.std.specs.Prelude.option_map Rattle.core_meaning.specs.Values.number (Rattle.core_meaning.specs.Constancy.constant_value e) else address_scalar globals e) ≡ true
        → (b || is_address e) ≡ true
    by true f h = refl
    by false f h = address_is globals e h

both_parts : (x : Typed) → (is_constant x.core || is_address x.core) ≡ true → may_be_first x ≡ true
both_parts x h = by (is_constant x.core) (is_address x.core) h
  where
    by : (a b : Bool) → (a || b) ≡ true → (a || (b || x.is_null)) ≡ true
    by true b h = refl
    by false true h = refl
    by false false h = absurd (false≢true h)

null_part : (x : Typed) → x.is_null ≡ true → may_be_first x ≡ true
null_part x h = second_of_two (is_constant x.core) (is_address_value x) (second_of_two (is_address x.core) x.is_null h)

in_type : (globals : ℕ) (ty : PlainType) (x : Typed) → is_some (first_scalar globals (number_in_type ty x)) ≡ true → may_be_first x ≡ true
in_type globals ty x h = by (same_type ty x.ty) h
  where
    constant_core : (is_constant x.core || false) ≡ true → may_be_first x ≡ true
    constant_core e = first_of_two (is_constant x.core) (is_address_value x) (by_or (is_constant x.core) e)
      where
        by_or : (a : Bool) → (a || false) ≡ true → a ≡ true
        by_or true e = refl
        by_or false e = e

    by : (b : Bool) → is_some (first_scalar globals (if b then x.core else convert (integer_type ty) x.core)) ≡ true → may_be_first x ≡ true
    by true h = both_parts x (scalar_is globals x.core h)
    by false h = constant_core (scalar_is globals (convert (integer_type ty) x.core) h)

fits_is : (globals : ℕ) (ty : PlainType) (x : Typed) (core : PlainExpression) → fits_into ty x ≡ Some core → is_some (first_scalar globals core) ≡ true → may_be_first x ≡ true
fits_is globals ty x core e h = by (is_integer ty && is_integer x.ty) (is_pointer ty && x.is_null) ((is_pointer ty || is_struct ty) && same_type ty x.ty) refl e
  where
    by : (p q r : Bool) → (is_pointer ty && x.is_null) ≡ q → (if p then Some (number_in_type ty x) else if q then Some null_constant else if r then Some x.core else None) ≡ Some core → may_be_first x ≡ true
    by true q r f e = in_type globals ty x (subst (λ (c : PlainExpression). is_some (first_scalar globals c) ≡ true) (sym (same_Some (number_in_type ty x) core e)) h)
    by false true r f e = null_part x (and_parts (is_pointer ty) x.is_null f).1
    by false false true f e = both_parts x (scalar_is globals x.core (subst (λ (c : PlainExpression). is_some (first_scalar globals c) ≡ true) (sym (same_Some x.core core e)) h))
    by false false false f e = absurd (none-some core e)

-- ---- parts that name no members

abbrev any : {A : Type 0} → A → Bool
any x = true

abbrev Clean : {A : Type 0} → Checked A → Type 0
Clean c = NoneNamed any c

clean_behind : {B : Type 0} (js : List Binding) (d : Checked B) → NameNoMembers js → Clean d → Clean (with_bindings js d)
clean_behind js (fine y ks) h g = record { none_named = λ e. both_none js ks h (g.none_named refl) }
clean_behind js (refused kind token) h g = record { none_named = tt }
clean_behind js broken h g = record { none_named = tt }

clean_then : {A B : Type 0} (c : Checked A) (f : A → Checked B) → Clean c → ((x : A) → Clean (f x)) → Clean (c >>= f)
clean_then (fine x js) f h g = clean_behind js (f x) (h.none_named refl) (g x)
clean_then (refused kind token) f h g = record { none_named = tt }
clean_then broken f h g = record { none_named = tt }

clean_if : {A : Type 0} (b : Bool) (c d : Checked A) → Clean c → Clean d → Clean (if b then c else d)
clean_if true c d h g = h
clean_if false c d h g = g

clean_or : {A : Type 0} (o : Option A) → Clean (or_broken o)
clean_or None = record { none_named = tt }
clean_or (Some x) = record { none_named = λ e. tt }

-- constants bind nothing, and addresses no member
either_named : (c : Checked Typed) → Only Anything is_constant_value c → NoneNamed is_address_value c → NoneNamed may_be_first c
either_named (fine x js) h g = record { none_named = λ e. by (is_constant x.core) refl e }
  where
    by : (b : Bool) → is_constant x.core ≡ b → (b || is_address_value x) ≡ true → NameNoMembers js
    by true f e = subst NameNoMembers (sym (h.only f).1) tt
    by false f e = g.none_named e
either_named (refused kind token) h g = record { none_named = tt }
either_named broken h g = record { none_named = tt }

module _ (s : Scope) (globals : ℕ) where
  abbrev given : Path → PlainToken → PlainExpression → Checked (List Initial)
  given path first core = unless_so (is_allowed s (Some globals) core) BadConstant first >>= (λ allowed. give (record { path = path; value = core; first = first } ∷ []))

  value_only : (ty : PlainType) (path : Path) (first : PlainToken) (x : Typed) → Only {A = List Initial} (may_be_first x ≡ true) (λ parts. true) (found_or (fits_into ty x) BadOperand first >>= given path first)
  value_only ty path first x = by (fits_into ty x) refl
    where
      allowed : (core : PlainExpression) → fits_into ty x ≡ Some core → (b : Bool) → is_some (first_scalar globals core) ≡ b
          → Only {A = List Initial} (may_be_first x ≡ true) (λ parts. true) (found_or (Some core) BadOperand first >>= (λ core. unless_so b BadConstant first >>= (λ allowed. give (record { path = path; value = core; first = first } ∷ []))))
      allowed core e true f = record { only = λ g. (fits_is globals ty x core e f, refl) }
      allowed core e false f = record { only = tt }

      by : (o : Option PlainExpression) → fits_into ty x ≡ o → Only {A = List Initial} (may_be_first x ≡ true) (λ parts. true) (found_or o BadOperand first >>= given path first)
      by None e = record { only = tt }
      by (Some core) e = allowed core e (is_some (first_scalar globals core)) refl

  value_clean : (ty : PlainType) (path : Path) (tree : PlainTree) (first : PlainToken) → Clean (value_initial s (Some globals) ty path tree first)
  value_clean ty path tree first =
      none_then may_be_first any (valued s tree) (λ x. found_or (fits_into ty x) BadOperand first >>= given path first) (either_named (valued s tree) (value_quiet s tree) (value_names s tree)) (λ x. value_only ty path first x)

  whole_clean : (ty : PlainType) (path : Path) (tree : PlainTree) (first : PlainToken) → Clean (whole_initial s (Some globals) ty path tree first)
  whole_clean (array_of element count) path tree first = never_named any _ (never_then any (valued s tree) (λ x. refused BadOperand first) (λ x. record { only = tt }))
  whole_clean ty path tree first = value_clean ty path tree first

  text_clean : (element : PlainType) (count : ℕ) (path : Path) (bytes : List ℕ) (first : PlainToken) → Clean (text_initial element count path bytes first)
  text_clean element count path bytes first = by (nat_le (length bytes) count)
    where
      by : (b : Bool) → Clean (unless_so b BadConstant first >>= (λ room. give (Rattle.core_meaning.specs.Constancy.text_parts element path 0 (Rattle.std.specs.Prelude.take count (bytes ++ 0 ∷ [])) first)))
      by true = record { none_named = λ e. tt }
      by false = record { none_named = tt }

  text_or_whole_clean : (ty : PlainType) (path : Path) (parts : PlainTrees) (first : PlainToken) → Clean (text_or_whole s (Some globals) ty path parts first)
  text_or_whole_clean (array_of element count) path parts first =
      clean_if (is_character_type element) (or_broken (text_bytes parts) >>= (λ bytes. text_initial element count path bytes first)) (refused BadOperand first)
      (clean_then (or_broken (text_bytes parts)) (λ bytes. text_initial element count path bytes first) (clean_or (text_bytes parts)) (λ bytes. text_clean element count path bytes first)) (record { none_named = tt })
  text_or_whole_clean ty path parts first = value_clean ty path (node k.Texts parts) first

  part_clean : (o : Option PlainType) (tree : PlainTree) (first : PlainToken) → Clean (part_or_excess s (Some globals) o tree first)
  part_clean (Some element) tree first = record { none_named = λ e. tt }
  part_clean None tree first = record { none_named = tt }

  mutual
    initial_clean : (ty : PlainType) (path : Path) (tree : PlainTree) (behind : PlainToken) → Clean (initial s (Some globals) ty path tree behind)
    initial_clean ty path (node k.Braces (more brace (more (node kind entries) (more last none)))) behind = entries_clean ty path 0 entries behind
    initial_clean ty path (node k.Texts parts) behind = text_or_whole_clean ty path parts (first_token (node k.Texts parts) behind)
    initial_clean ty path tree behind = whole_clean ty path tree (first_token tree behind)

    entries_clean : (ty : PlainType) (path : Path) (n : ℕ) (entries : PlainTrees) (behind : PlainToken) → Clean (initial_entries s (Some globals) ty path n entries behind)
    entries_clean ty path n none behind = record { none_named = λ e. tt }
    entries_clean ty path n (more tree none) behind =
        clean_then (part_or_excess s (Some globals) (part_for s.structs ty n) tree (first_token tree behind)) (λ element. initial s (Some globals) element (path_for ty path n) tree behind)
        (part_clean (part_for s.structs ty n) tree (first_token tree behind)) (λ element. initial_clean element (path_for ty path n) tree behind)
    entries_clean ty path n (more tree (more comma rest)) behind =
        clean_then (part_or_excess s (Some globals) (part_for s.structs ty n) tree (first_token tree behind)) _ (part_clean (part_for s.structs ty n) tree (first_token tree behind))
        (λ element. clean_then (initial s (Some globals) element (path_for ty path n) tree behind) _ (initial_clean element (path_for ty path n) tree behind)
        (λ first. clean_then (initial_entries s (Some globals) ty path (n + 1) rest behind) (λ others. give (first ++ others)) (entries_clean ty path (n + 1) rest behind) (λ others. record { none_named = λ e. tt })))

clean_is : {A : Type 0} (c : Checked A) (x : A) (js : List Binding) → c ≡ fine x js → Clean c → NameNoMembers js
clean_is c x js e h = (subst (λ d. Clean d) e h).none_named refl

pub first_values_name_no_members : FirstValuesNameNoMembers
first_values_name_no_members scope globals ty path tree behind parts js e = clean_is (initial scope (Some globals) ty path tree behind) parts js e (initial_clean scope globals ty path tree behind)
