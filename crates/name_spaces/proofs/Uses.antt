-- Expressions bind no more identifiers than they have names, and use each.
use Rattle.std.proofs.Common.{◌≡◌, ℕ, ◌+◌, ◌≤◌, Bool, true, false, List, [], ◌∷◌, ◌++◌, length, refl, sym, ap, subst, arith}
use Rattle.std.specs.Prelude.{Option, Some, None, codes, nat_le, slice_get, if◌then◌else◌}
use Rattle.std.specs.Str.{bytes_eq}
use Rattle.std.proofs.lemmas.List.{length-append}
use Rattle.std.proofs.lemmas.Option.{none-some}
use Rattle.c_names.specs.Names.{is_identifier}
use Rattle.c_text.specs.Token.{PlainToken}
use Rattle.c_text.specs.Constants.{quoted_values}
use Rattle.c_types.specs.Types.{PlainType, array_of, pointer_to, structure}
use Rattle.c_types.specs.Tags.{PlainMember}
use Rattle.c_tree.specs.declared.kinds.Kind.TheVariants as k
use Rattle.c_tree.specs.declared.terminals.Terminal.{Terminal}
use Rattle.c_tree.specs.declared.terminals.Terminal.TheVariants as t
use Rattle.c_tree.specs.Terminals.{terminal, same}
use Rattle.c_tree.specs.Trees.{PlainTree, PlainTrees, leaf, node, none, more}
use Rattle.core_meaning.specs.declared.refusals.TypeKind.{TypeKind}
use Rattle.core_meaning.specs.declared.refusals.TypeKind.TheVariants.{BadOperand, BadConstant, Incomplete, NoMember}
use Rattle.core_meaning.specs.Values.{Path}
use Rattle.core_meaning.specs.Program.{PlainPlace, PlainArguments, no_argument, update, update_after, target}
use Rattle.core_meaning.specs.Checking.{Entity, file_entity, Binding, Checked, fine, refused, broken, with_bindings, ◌>>=◌, give, unless_so, found_or, or_broken, uses}
use Rattle.core_meaning.specs.Entities.{Struct, Local, Sort, variable, function, FileName, Scope, local_in}
use Rattle.core_meaning.specs.Typing.{Operand, Typed, loaded, fits_into}
use Rattle.core_meaning.specs.Expressions.{judged, judged_arguments, single_operand, name_operand, file_name_operand, file_operand, character_value, text_bytes, first_text, first_token, stepped, prefixed, cast_to, arithmetic_words, selected, member_of, member_in, member_operand, member_of_target, struct_place, is_free, indexed, Callee, callee, callee_of_sort, callee_of_name, callee_unless_local, count_entries, may_be_called, result_of_call, passed, condition_value, chosen, combined_by, written_place, assignment, valued, judged_condition}
use Rattle.core_meaning.specs.Constancy.{part_for, path_for, is_character_type, text_initial, part_or_excess, is_allowed, value_initial, whole_initial, text_or_whole, initial, initial_entries}
use Rattle.bindings.specs.Bindings.{is_name}
use Rattle.entity_numbers.proofs.Uses.{Binds}
use Rattle.entity_numbers.proofs.Operators.{loads, written_binds, stepped_binds, assignment_binds, prefixed_binds, cast_binds, indexed_binds, chosen_binds, callable_binds, passed_binds, combined_binds, condition_binds}
use Rattle.entity_kinds.proofs.Pairs.{Never, none_bound, quiet_unless, found_quiet, NeverFine, never_then}
use Rattle.name_spaces.proofs.Formed.{IsSingle, IsFormed, AreFormed}
use Rattle.name_spaces.proofs.Embeddings.{AllUsed, used_both}

-- ---- the names of a tree

abbrev mutual
  pub names : PlainTree → ℕ
  names (leaf token) = if is_name token then 1 else 0
  names (node kind parts) = all_names parts

  pub all_names : PlainTrees → ℕ
  all_names none = 0
  all_names (more tree rest) = names tree + all_names rest

-- ---- judgements that use at most so many names

abbrev UsedOf : {A : Type 0} → ℕ → Checked A → Type 0
UsedOf n (fine x js) = AllUsed js × (length js ≤ n)
UsedOf n (refused kind token) = Unit {0}
UsedOf n broken = Unit {0}

pub record Uses {A : Type 0} (n : ℕ) (c : Checked A) : Type 0 where
  pub used : UsedOf n c

pub fewer : {A : Type 0} (m n : ℕ) (c : Checked A) → m ≤ n → Uses m c → Uses n c
fewer m n (fine x js) less h = let short = h.used.1 in record { used = (h.used.0, omega (arith, less, short)) }
fewer m n (refused kind token) less h = record { used = tt }
fewer m n broken less h = record { used = tt }

fine_then : {B : Type 0} (m n : ℕ) (js : List Binding) (c : Checked B) → AllUsed js → length js ≤ m → UsedOf n c → UsedOf (m + n) (with_bindings js c)
fine_then m n js (fine y ks) all short h =
    let other = h.1 in
    let both : length (js ++ ks) ≡ length js + length ks = length-append js ks in
    (used_both js ks all h.0, omega (arith, short, other, both))
fine_then m n js (refused kind token) all short h = tt
fine_then m n js broken all short h = tt

pub uses_then : {A B : Type 0} (m n : ℕ) (c : Checked A) (f : A → Checked B) → Uses m c → ((x : A) → Uses n (f x)) → Uses (m + n) (c >>= f)
uses_then m n (fine x js) f h g = record { used = fine_then m n js (f x) h.used.0 h.used.1 (g x).used }
uses_then m n (refused kind token) f h g = record { used = tt }
uses_then m n broken f h g = record { used = tt }

pub uses_give : {A : Type 0} (n : ℕ) (x : A) → Uses n (give x)
uses_give n x = record { used = (tt, omega arith) }

pub uses_refused : {A : Type 0} (n : ℕ) (kind : TypeKind) (token : PlainToken) → Uses {A = A} n (refused kind token)
uses_refused n kind token = record { used = tt }

pub quiet_uses : {A : Type 0} (n : ℕ) (c : Checked A) → Binds Never c → Uses n c
quiet_uses n (fine x js) h = record { used = subst (λ (l : List Binding). AllUsed l × (length l ≤ n)) (sym (none_bound js h.all)) (tt, omega arith) }
quiet_uses n (refused kind token) h = record { used = tt }
quiet_uses n broken h = record { used = tt }

-- one that binds nothing first
pub quietly : {A B : Type 0} (n : ℕ) (c : Checked A) (f : A → Checked B) → Binds Never c → ((x : A) → Uses n (f x)) → Uses n (c >>= f)
quietly n c f h g = fewer (0 + n) n (c >>= f) (omega arith) (uses_then 0 n c f (quiet_uses 0 c h) g)

-- or last
operator_uses : {A B : Type 0} (n : ℕ) (c : Checked A) (f : A → Checked B) → Uses n c → ((x : A) → Binds Never (f x)) → Uses n (c >>= f)
operator_uses n c f h g = fewer (n + 0) n (c >>= f) (omega arith) (uses_then n 0 c f h (λ x. quiet_uses 0 (f x) (g x)))

pub unless_uses : {B : Type 0} (n : ℕ) (b : Bool) (kind : TypeKind) (token : PlainToken) (f : Unit {0} → Checked B) → ((x : Unit {0}) → Uses n (f x)) → Uses n (unless_so b kind token >>= f)
unless_uses n b kind token f g = quietly n (unless_so b kind token) f (quiet_unless b kind token) g

pub found_uses : {A B : Type 0} (n : ℕ) (o : Option A) (kind : TypeKind) (token : PlainToken) (f : A → Checked B) → ((x : A) → Uses n (f x)) → Uses n (found_or o kind token >>= f)
found_uses n o kind token f g = quietly n (found_or o kind token) f (found_quiet o kind token) g

some_quiet : {A : Type 0} (o : Option A) → Binds Never (or_broken o)
some_quiet (Some x) = record { all = tt }
some_quiet None = record { all = tt }

pub some_uses : {A B : Type 0} (n : ℕ) (o : Option A) (f : A → Checked B) → ((x : A) → Uses n (f x)) → Uses n (or_broken o >>= f)
some_uses n o f g = quietly n (or_broken o) f (some_quiet o) g

if_uses : {A : Type 0} (n : ℕ) (b : Bool) (c d : Checked A) → Uses n c → Uses n d → Uses n (if b then c else d)
if_uses n true c d f g = f
if_uses n false c d f g = g

never_uses : {A : Type 0} (n : ℕ) (c : Checked A) → NeverFine c → Uses n c
never_uses n (fine x js) h = absurd h
never_uses n (refused kind token) h = record { used = tt }
never_uses n broken h = record { used = tt }

-- the names of file scope are spelt as identifiers
abbrev pub Worded : Scope → Type 0
Worded s = (name : List ℕ) (n : FileName) → s.file_names name ≡ Some n → is_identifier name ≡ true

-- ---- single identifiers

module _ (s : Scope) where
  one_use : {A : Type 0} (e : Entity) (x : A) → Uses 1 (uses e >>= (λ bound. give x))
  one_use e x = record { used = ((refl, tt), omega arith) }

  sort_uses : (token : PlainToken) (x : Sort) → Uses 1 (file_operand s token x)
  sort_uses token (variable ty) = record { used = ((refl, tt), omega arith) }
  sort_uses token (function f) = record { used = tt }

  file_uses : (token : PlainToken) (n : Option FileName) → Uses 1 (file_name_operand s token n)
  file_uses token (Some n) = sort_uses token n.sort
  file_uses token None = record { used = tt }

  name_uses : (token : PlainToken) (x : Option Local) → Uses 1 (name_operand s token x)
  name_uses token (Some x) = record { used = ((refl, tt), omega arith) }
  name_uses token None = file_uses token (s.file_names token.text)

  single_uses : (token : PlainToken) (x : Terminal) → Uses (if same t.Name x then 1 else 0) (single_operand s token x)
  single_uses token t.Name = name_uses token (local_in s.blocks token.text)
  single_uses token t.Number = record { used = (tt, omega arith) }
  single_uses token t.Character = some_uses 0 (character_value (quoted_values token.text)) _ (λ z. uses_give 0 _)
  single_uses token _ = record { used = tt }

  member_uses : (name : PlainToken) (place : PlainPlace) (free : Bool) (m : ℕ) (x : Option PlainMember) (i : ℕ) → Uses 1 (member_operand name place free m x i)
  member_uses name place free m (Some x) i = record { used = ((refl, tt), omega arith) }
  member_uses name place free m None i = record { used = tt }

  struct_uses : (sign name : PlainToken) (place : PlainPlace) (free : Bool) (m : ℕ) (x : Option Struct) → Uses 1 (member_in sign name place free m x)
  struct_uses sign name place free m (Some x) =
      unless_uses 1 x.complete Incomplete sign _ (λ y. found_uses 1 (x.numbers name.text) NoMember name _ (λ i. member_uses name place free m (slice_get x.members i) i))
  struct_uses sign name place free m None = record { used = tt }

  type_uses : (sign name : PlainToken) (ty : PlainType) (place : PlainPlace) (free : Bool) → Uses 1 (member_of s sign name ty place free)
  type_uses sign name (structure m) place free = struct_uses sign name place free m (slice_get s.structs m)
  type_uses sign name _ place free = record { used = tt }

  target_uses : (sign name : PlainToken) (x : Typed) (ty : PlainType) → Uses 1 (member_of_target s sign name x ty)
  target_uses sign name x (pointer_to ty) = type_uses sign name ty (target x.core) true
  target_uses sign name x _ = record { used = tt }

  selection_uses : (sign name : PlainToken) (o : Operand) → Uses 1 (selected s sign name o)
  selection_uses sign name o =
      if_uses 1 (bytes_eq sign.text (codes ".")) _ _ (type_uses sign name o.ty (struct_place o.ty o.designates) (is_free o.designates))
      (quietly 1 (loaded s o) _ (loads Never s o) (λ x. target_uses sign name x x.ty))

  -- ---- operands

  value_uses : {B : Type 0} (m n : ℕ) (c : Checked Operand) (f : Typed → Checked B) → Uses m c → ((x : Typed) → Uses n (f x)) → Uses (m + n) (c >>= (λ o. loaded s o >>= f))
  value_uses m n c f h g = uses_then m n c (λ o. loaded s o >>= f) h (λ o. quietly n (loaded s o) f (loads Never s o) g)

  two_uses :
      {B : Type 0} (m n : ℕ) (c d : Checked Operand) (f : Typed → Typed → Checked B) → Uses m c → Uses n d → ((a b : Typed) → Binds Never (f a b))
      → Uses (m + n) (c >>= (λ left. loaded s left >>= (λ a. d >>= (λ right. loaded s right >>= (λ b. f a b)))))
  two_uses m n c d f h i g =
      value_uses m n c (λ a. d >>= (λ right. loaded s right >>= (λ b. f a b))) h
      (λ a. fewer (n + 0) n _ (omega arith) (value_uses n 0 d (f a) i (λ b. quiet_uses 0 (f a b) (g a b))))

  -- ---- expressions

  module _ (worded : Worded s) where
    sort_called : (token : PlainToken) (n : FileName) (f : Callee) → s.file_names token.text ≡ Some n → callee_of_sort token n.sort ≡ Some f → is_identifier token.text ≡ true
    sort_called token n f known e = worded token.text n known

    name_called : (token : PlainToken) (n : Option FileName) → s.file_names token.text ≡ n → (f : Callee) → callee_of_name token n ≡ Some f → is_identifier token.text ≡ true
    name_called token None i f e = absurd (none-some f e)
    name_called token (Some n) i f e = worded token.text n i

    local_called : (token : PlainToken) (l : Option Local) (f : Callee) → callee_unless_local s token l ≡ Some f → is_identifier token.text ≡ true
    local_called token (Some l) f e = absurd (none-some f e)
    local_called token None f e = name_called token (s.file_names token.text) refl f e

    -- what is called has a name
    called : (tree : PlainTree) → IsFormed tree → IsSingle tree → (f : Callee) → callee s tree ≡ Some f → 1 ≤ names tree
    called (leaf token) h single f e =
        let name : is_name token ≡ true = h single (local_called token (local_in s.blocks token.text) f e) in
        subst (λ (b : Bool). 1 ≤ (if b then 1 else 0)) (sym name) (omega arith)
    called (node k.Parenthesized (more bracket (more inner (more close none)))) h single f e =
        let less = called inner h.1.1.0 h.0 f e in omega (arith, less)
    called _ h single f e = absurd (none-some f e)

    no_call : (n : ℕ) (c : Checked Operand) (bracket : PlainToken) → Uses {A = Operand} n (c >>= (λ operand. loaded s operand >>= (λ x. refused BadOperand bracket)))
    no_call n c bracket = never_uses n _ (never_then c _ (λ o. never_then (loaded s o) _ (λ x. tt)))

    call_uses :
        (n : ℕ) (first : PlainTree) (bracket : PlainToken) (count : Callee → ℕ) (arguments_ : Callee → Checked PlainArguments) (o : Option Callee) → callee s first ≡ o
        → IsFormed first → IsSingle first → ((f : Callee) → Uses n (arguments_ f))
        → Uses (names first + n) (elim o as (λ x. Checked Operand) [
          | Some f ↦ uses (file_entity f.name.text) >>= (λ bound. may_be_called s f.signature (count f) bracket >>= (λ callable. arguments_ f >>= (λ arguments. give (result_of_call s f bracket arguments))))
          | None ↦ judged s first >>= (λ operand. loaded s operand >>= (λ x. refused BadOperand bracket))
        ])
    call_uses n first bracket count arguments_ (Some f) e h single g =
        let less = called first h single f e in
        fewer (1 + n) (names first + n) _ (omega (arith, less))
        (uses_then 1 n (uses (file_entity f.name.text)) _ (record { used = ((refl, tt), omega arith) })
        (λ bound. quietly n (may_be_called s f.signature (count f) bracket) _ (callable_binds Never s f.signature (count f) bracket)
        (λ callable. fewer (n + 0) n _ (omega arith) (uses_then n 0 (arguments_ f) (λ arguments. give (result_of_call s f bracket arguments)) (g f) (λ arguments. uses_give 0 (result_of_call s f bracket arguments))))))
    call_uses n first bracket count arguments_ None e h single g = no_call (names first + n) (judged s first) bracket

    empty_call :
        (first : PlainTree) (bracket : PlainToken) (o : Option Callee) → callee s first ≡ o → IsFormed first → IsSingle first
        → Uses (names first) (elim o as (λ x. Checked Operand) [
          | Some f ↦ uses (file_entity f.name.text) >>= (λ bound. may_be_called s f.signature 0 bracket >>= (λ callable. give (result_of_call s f bracket no_argument)))
          | None ↦ judged s first >>= (λ operand. loaded s operand >>= (λ x. refused BadOperand bracket))
        ])
    empty_call first bracket (Some f) e h single =
        let less = called first h single f e in
        fewer (1 + 0) (names first) _ (omega (arith, less))
        (uses_then 1 0 (uses (file_entity f.name.text)) _ (record { used = ((refl, tt), omega arith) })
        (λ bound. quietly 0 (may_be_called s f.signature 0 bracket) _ (callable_binds Never s f.signature 0 bracket) (λ callable. uses_give 0 (result_of_call s f bracket no_argument))))
    empty_call first bracket None e h single = no_call (names first) (judged s first) bracket

    mutual
      pub judged_uses : (tree : PlainTree) → IsFormed tree → Uses (names tree) (judged s tree)
      judged_uses (leaf token) h = single_uses token (terminal token)
      judged_uses (node k.Texts parts) h =
          some_uses (all_names parts) (text_bytes parts) _ (λ bytes. some_uses (all_names parts) (first_text parts) _ (λ first. uses_give (all_names parts) _))
      judged_uses (node k.Parenthesized (more bracket (more inner (more close none)))) h =
          fewer (names inner) _ _ (omega arith) (judged_uses inner h.1.1.0)
      judged_uses (node k.PostfixStep (more inner (more (leaf sign) none))) h =
          fewer (names inner) _ _ (omega arith) (operator_uses (names inner) (judged s inner) (stepped s update_after sign) (judged_uses inner h.1.0) (λ o. stepped_binds Never s update_after sign o))
      judged_uses (node k.PrefixStep (more (leaf sign) (more inner none))) h =
          fewer (names inner) _ _ (omega arith) (operator_uses (names inner) (judged s inner) (stepped s update sign) (judged_uses inner h.1.1.0) (λ o. stepped_binds Never s update sign o))
      judged_uses (node k.Prefix (more (leaf sign) (more inner none))) h =
          fewer (names inner) _ _ (omega arith) (operator_uses (names inner) (judged s inner) (prefixed s sign) (judged_uses inner h.1.1.0) (λ o. prefixed_binds Never s sign o))
      judged_uses (node k.Cast (more (leaf bracket) (more (node words_kind words) (more close (more inner none))))) h =
          fewer (names inner + 0) _ _ (omega arith)
          (value_uses (names inner) 0 (judged s inner) (λ x. cast_to bracket x (arithmetic_words words)) (judged_uses inner h.1.1.1.1.0)
          (λ x. quiet_uses 0 (cast_to bracket x (arithmetic_words words)) (cast_binds Never bracket x (arithmetic_words words))))
      judged_uses (node k.Selection (more first (more (leaf sign) (more (leaf name) none)))) h =
          let one : names (leaf name) ≡ 1 = ap (λ (b : Bool). if b then 1 else 0) h.0 in
          fewer (names first + 1) _ _ (omega (arith, one))
          (uses_then (names first) 1 (judged s first) (selected s sign name) (judged_uses first h.1.0) (λ o. selection_uses sign name o))
      judged_uses (node k.Index (more first (more (leaf bracket) (more second (more close none))))) h =
          fewer (names first + names second) _ _ (omega arith)
          (two_uses (names first) (names second) (judged s first) (judged s second) (indexed s bracket) (judged_uses first h.1.0) (judged_uses second h.1.1.1.0) (λ a b. indexed_binds Never s bracket a b))
      judged_uses (node k.Call (more first (more (leaf bracket) (more (node k.Arguments parts) (more close none))))) h =
          fewer (names first + all_names parts) _ _ (omega arith)
          (call_uses (all_names parts) first bracket (λ f. count_entries parts) (λ f. judged_arguments s f.signature.parameters parts bracket) (callee s first) refl h.1.0 h.0
          (λ f. arguments_use f.signature.parameters parts bracket h.1.1.1.0.1))
      judged_uses (node k.Call (more first (more (leaf bracket) (more (node k.Absent none) (more close none))))) h =
          fewer (names first) _ _ (omega arith) (empty_call first bracket (callee s first) refl h.1.0 h.0)
      judged_uses (node k.Assignment (more first (more (leaf sign) (more second none)))) h =
          fewer (names first + names second) _ _ (omega arith)
          (uses_then (names first) (names second) (judged s first) _ (judged_uses first h.1.0)
          (λ left. quietly (names second) (written_place s sign left) _ (written_binds Never s sign left)
          (λ place. fewer (names second + 0) (names second) _ (omega arith)
          (value_uses (names second) 0 (judged s second) (λ right. assignment s sign left place right) (judged_uses second h.1.1.1.0)
          (λ right. quiet_uses 0 (assignment s sign left place right) (assignment_binds Never s sign left place right))))))
      judged_uses (node k.Conditional (more first (more (leaf question) (more second (more colon (more third none)))))) h =
          fewer (names first + (names second + names third)) _ _ (omega arith)
          (uses_then (names first) (names second + names third) (judged s first >>= condition_value s (first_token first question)) _
          (operator_uses (names first) (judged s first) (condition_value s (first_token first question)) (judged_uses first h.1.0) (λ o. condition_binds Never s (first_token first question) o))
          (λ condition. two_uses (names second) (names third) (judged s second) (judged s third) (chosen question condition) (judged_uses second h.1.1.1.0) (judged_uses third h.1.1.1.1.1.0)
          (λ a b. chosen_binds Never question condition a b)))
      judged_uses (node kind (more first (more (leaf sign) (more second none)))) h =
          fewer (names first + names second) _ _ (omega arith)
          (two_uses (names first) (names second) (judged s first) (judged s second) (combined_by s kind sign) (judged_uses first h.1.0) (judged_uses second h.1.1.1.0) (λ a b. combined_binds Never s kind sign a b))
      judged_uses (node kind parts) h = record { used = tt }

      arguments_use : (types : List PlainType) (parts : PlainTrees) (bracket : PlainToken) → AreFormed parts → Uses (all_names parts) (judged_arguments s types parts bracket)
      arguments_use (ty ∷ types) (more tree none) bracket h =
          uses_then (names tree) 0 (judged s tree) _ (judged_uses tree h.0)
          (λ o. quietly 0 (passed s ty o (first_token tree bracket)) _ (passed_binds Never s ty o (first_token tree bracket)) (λ core. uses_give 0 _))
      arguments_use (ty ∷ types) (more tree (more comma rest)) bracket h =
          fewer (names tree + all_names rest) _ _ (omega arith)
          (uses_then (names tree) (all_names rest) (judged s tree) _ (judged_uses tree h.0)
          (λ o. quietly (all_names rest) (passed s ty o (first_token tree bracket)) _ (passed_binds Never s ty o (first_token tree bracket))
          (λ core. fewer (all_names rest + 0) (all_names rest) _ (omega arith)
          (uses_then (all_names rest) 0 (judged_arguments s types rest bracket) _ (arguments_use types rest bracket h.1.1) (λ others. uses_give 0 _)))))
      arguments_use (ty ∷ types) none bracket h = record { used = (tt, omega arith) }
      arguments_use [] none bracket h = record { used = (tt, omega arith) }
      arguments_use [] (more tree none) bracket h = record { used = tt }
      arguments_use [] (more tree (more comma rest)) bracket h = record { used = tt }

    pub valued_uses : (tree : PlainTree) → IsFormed tree → Uses (names tree) (valued s tree)
    valued_uses tree h = operator_uses (names tree) (judged s tree) (loaded s) (judged_uses tree h) (λ o. loads Never s o)

    pub condition_uses : (tree : PlainTree) (behind : PlainToken) → IsFormed tree → Uses (names tree) (judged_condition s tree behind)
    condition_uses tree behind h =
        operator_uses (names tree) (judged s tree) (condition_value s (first_token tree behind)) (judged_uses tree h) (λ o. condition_binds Never s (first_token tree behind) o)

    -- ---- initialisers

    module _ (globals : Option ℕ) where
      value_initial_uses : (ty : PlainType) (path : Path) (tree : PlainTree) (first : PlainToken) → IsFormed tree → Uses (names tree) (value_initial s globals ty path tree first)
      value_initial_uses ty path tree first h =
          fewer (names tree + 0) (names tree) _ (omega arith)
          (uses_then (names tree) 0 (valued s tree) _ (valued_uses tree h)
          (λ x. found_uses 0 (fits_into ty x) BadOperand first _ (λ core. unless_uses 0 (is_allowed s globals core) BadConstant first _ (λ y. uses_give 0 _))))

      whole_uses : (ty : PlainType) (path : Path) (tree : PlainTree) (first : PlainToken) → IsFormed tree → Uses (names tree) (whole_initial s globals ty path tree first)
      whole_uses (array_of element n) path tree first h = never_uses (names tree) _ (never_then (valued s tree) _ (λ x. tt))
      whole_uses ty path tree first h = value_initial_uses ty path tree first h

      text_uses : (n : ℕ) (element : PlainType) (count : ℕ) (path : Path) (bytes : List ℕ) (first : PlainToken) → Uses n (text_initial element count path bytes first)
      text_uses n element count path bytes first = unless_uses n (nat_le (length bytes) count) BadConstant first _ (λ x. uses_give n _)

      texts_use : (ty : PlainType) (path : Path) (parts : PlainTrees) (first : PlainToken) → IsFormed (node k.Texts parts) → Uses (all_names parts) (text_or_whole s globals ty path parts first)
      texts_use (array_of element count) path parts first h =
          if_uses (all_names parts) (is_character_type element) _ _ (some_uses (all_names parts) (text_bytes parts) _ (λ bytes. text_uses (all_names parts) element count path bytes first)) (record { used = tt })
      texts_use ty path parts first h = value_initial_uses ty path (node k.Texts parts) first h

      excess_quiet : (o : Option PlainType) (tree : PlainTree) (first : PlainToken) → Binds Never (part_or_excess s globals o tree first)
      excess_quiet (Some element) tree first = record { all = tt }
      excess_quiet None tree first = record { all = tt }

      mutual
        pub initial_uses : (ty : PlainType) (path : Path) (tree : PlainTree) (behind : PlainToken) → IsFormed tree → Uses (names tree) (initial s globals ty path tree behind)
        initial_uses ty path (node k.Braces (more brace (more (node kind entries) (more last none)))) behind h =
            fewer (all_names entries) _ _ (omega arith) (entries_use ty path 0 entries behind h.1.1.0.1)
        initial_uses ty path (node k.Texts parts) behind h = texts_use ty path parts (first_token (node k.Texts parts) behind) h
        initial_uses ty path tree behind h = whole_uses ty path tree (first_token tree behind) h

        entries_use : (ty : PlainType) (path : Path) (n : ℕ) (parts : PlainTrees) (behind : PlainToken) → AreFormed parts → Uses (all_names parts) (initial_entries s globals ty path n parts behind)
        entries_use ty path n none behind h = record { used = (tt, omega arith) }
        entries_use ty path n (more tree none) behind h =
            fewer (names tree) _ _ (omega arith)
            (quietly (names tree) (part_or_excess s globals (part_for s.structs ty n) tree (first_token tree behind)) _ (excess_quiet (part_for s.structs ty n) tree (first_token tree behind))
            (λ element. initial_uses element (path_for ty path n) tree behind h.0))
        entries_use ty path n (more tree (more comma rest)) behind h =
            fewer (names tree + all_names rest) _ _ (omega arith)
            (quietly (names tree + all_names rest) (part_or_excess s globals (part_for s.structs ty n) tree (first_token tree behind)) _ (excess_quiet (part_for s.structs ty n) tree (first_token tree behind))
            (λ element. uses_then (names tree) (all_names rest) (initial s globals element (path_for ty path n) tree behind) _ (initial_uses element (path_for ty path n) tree behind h.0)
            (λ first. fewer (all_names rest + 0) (all_names rest) _ (omega arith)
            (uses_then (all_names rest) 0 (initial_entries s globals ty path (n + 1) rest behind) _ (entries_use ty path (n + 1) rest behind h.1.1) (λ others. uses_give 0 _)))))
