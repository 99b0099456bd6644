-- Expressions use what they bind. This holds of all trees.
use Rattle.std.proofs.Common.{◌≡◌, ℕ, ◌+◌, Bool, true, false, List, [], ◌∷◌, ◌++◌, refl, sym, ap, ◌∙◌, length}
use Rattle.std.specs.Prelude.{map, codes, nat_le, Option, Some, None, slice_get, if◌then◌else◌}
use Rattle.std.specs.Str.{bytes_eq}
use Rattle.std.proofs.lemmas.List.{map-append}
use Rattle.c_text.specs.Token.{PlainToken}
use Rattle.c_text.specs.Constants.{quoted_values}
use Rattle.c_types.specs.Types.{PlainType, pointer_to, array_of, structure}
use Rattle.c_types.specs.Tags.{PlainMember}
use Rattle.c_tree.specs.declared.kinds.Kind.TheVariants as k
use Rattle.c_tree.specs.declared.terminals.Terminal.{Terminal}
use Rattle.c_tree.specs.declared.terminals.Terminal.TheVariants as t
use Rattle.c_tree.specs.Terminals.{terminal}
use Rattle.c_tree.specs.Trees.{PlainTree, PlainTrees, leaf, node, none, more}
use Rattle.core_meaning.specs.declared.refusals.TypeKind.TheVariants.{BadOperand, BadConstant, Incomplete, NoMember}
use Rattle.core_meaning.specs.Program.{PlainPlace, PlainArguments, argument, no_argument, update, update_after, target}
use Rattle.core_meaning.specs.Values.{Path}
use Rattle.core_meaning.specs.Checking.{file_entity, Binding, Checked, fine, refused, broken, with_bindings, ◌>>=◌, give, unless_so, found_or, or_broken, uses}
use Rattle.core_meaning.specs.Entities.{Struct, Local, Sort, variable, function, FileName, Scope, local_in}
use Rattle.core_meaning.specs.Typing.{Operand, Typed, loaded, fits_into}
use Rattle.core_meaning.specs.Expressions as spec
use Rattle.core_meaning.specs.Expressions.{Callee, judged, judged_arguments, valued, callee, count_entries, first_token, text_bytes, first_text}
use Rattle.core_meaning.specs.Constancy.{initial, initial_entries, value_initial, whole_initial, text_or_whole, text_initial, is_allowed, is_character_type, part_for, path_for, part_or_excess}
use Rattle.entity_numbers.proofs.Uses as bound
use Rattle.entity_numbers.proofs.Operators as operators
use Rattle.selections.specs.Laws.{structure_bound}
use Rattle.selections.proofs.Expressions.{Nothing}
use Rattle.selections.proofs.Judgings.{IsQuiet}
use Rattle.member_uses.specs.Uses.{structure_used, structures_used}

module _ (by : ℕ → ℕ) where
  abbrev AreUsed : List Binding → Type 0
  AreUsed bindings = structures_used by bindings ≡ map (structure_bound by) bindings

  -- what a judgement binds to members uses these
  abbrev pub IsUsing : {A : Type 0} → Checked A → Type 0
  IsUsing (fine x bindings) = AreUsed bindings
  IsUsing (refused kind token) = Unit {0}
  IsUsing broken = Unit {0}

  both_used : (before others : List Binding) → AreUsed before → AreUsed others → AreUsed (before ++ others)
  both_used before others h g =
      map-append (structure_used by) before others
      ∙ (ap (λ l. l ++ structures_used by others) h ∙ (ap (λ l. map (structure_bound by) before ++ l) g ∙ sym (map-append (structure_bound by) before others)))

  using_behind : {B : Type 0} (before : List Binding) (m : Checked B) → AreUsed before → IsUsing m → IsUsing (with_bindings before m)
  using_behind before (fine x others) h g = both_used before others h g
  using_behind before (refused kind token) h g = tt
  using_behind before broken h g = tt

  pub using_then : {A B : Type 0} (m : Checked A) (next : A → Checked B) → IsUsing m → ((x : A) → IsUsing (next x)) → IsUsing (m >>= next)
  using_then (fine x bindings) next h n = using_behind bindings (next x) h (n x)
  using_then (refused kind token) next h n = tt
  using_then broken next h n = tt

  pub quietly : {A : Type 0} (m : Checked A) → IsQuiet m → IsUsing m
  quietly (fine x []) h = refl
  quietly (fine x (b ∷ bindings)) h = absurd h.all.0
  quietly (refused kind token) h = tt
  quietly broken h = tt

  pub then_quietly : {A B : Type 0} (m : Checked A) (next : A → Checked B) → IsUsing m → ((x : A) → IsQuiet (next x)) → IsUsing (m >>= next)
  then_quietly m next h n = using_then m next h (λ x. quietly (next x) (n x))

  pub quietly_then : {A B : Type 0} (m : Checked A) (next : A → Checked B) → IsQuiet m → ((x : A) → IsUsing (next x)) → IsUsing (m >>= next)
  quietly_then m next h n = using_then m next (quietly m h) n

  pub using_if : {A : Type 0} (b : Bool) (m n : Checked A) → IsUsing m → IsUsing n → IsUsing (if b then m else n)
  using_if true m n h g = h
  using_if false m n h g = g

  module _ (scope : Scope) where
    -- ---- names and members

    file_using : (token : PlainToken) (sort : Sort) → IsUsing (spec.file_operand scope token sort)
    file_using token (variable ty) = refl
    file_using token (function signature) = tt

    file_name_using : (token : PlainToken) (n : Option FileName) → IsUsing (spec.file_name_operand scope token n)
    file_name_using token None = tt
    file_name_using token (Some n) = file_using token n.sort

    name_using : (token : PlainToken) (l : Option Local) → IsUsing (spec.name_operand scope token l)
    name_using token (Some l) = refl
    name_using token None = file_name_using token (scope.file_names token.text)

    single_using : (token : PlainToken) (kind : Terminal) → IsUsing (spec.single_operand scope token kind)
    single_using token t.Name = name_using token (local_in scope.blocks token.text)
    single_using token t.Number = refl
    single_using token t.Character = quietly _ (bound.some_then Nothing (spec.character_value (quoted_values token.text)) _ (λ z. record { all = tt }))
    single_using token _ = tt

    operand_using : (name : PlainToken) (place : PlainPlace) (free : Bool) (number n : ℕ) (m : Option PlainMember) → IsUsing (spec.member_operand name place free number m n)
    operand_using name place free number n None = tt
    operand_using name place free number n (Some m) = refl

    struct_using : (sign name : PlainToken) (place : PlainPlace) (free : Bool) (number : ℕ) (s : Option Struct) → IsUsing (spec.member_in sign name place free number s)
    struct_using sign name place free number None = tt
    struct_using sign name place free number (Some s) =
        quietly_then (unless_so s.complete Incomplete sign) (λ complete. found_or (s.numbers name.text) NoMember name >>= (λ n. spec.member_operand name place free number (slice_get s.members n) n))
        (bound.unless_binds Nothing s.complete Incomplete sign)
        (λ complete. quietly_then (found_or (s.numbers name.text) NoMember name) (λ n. spec.member_operand name place free number (slice_get s.members n) n)
        (bound.found_binds Nothing (s.numbers name.text) NoMember name) (λ n. operand_using name place free number n (slice_get s.members n)))

    member_using : (sign name : PlainToken) (ty : PlainType) (place : PlainPlace) (free : Bool) → IsUsing (spec.member_of scope sign name ty place free)
    member_using sign name (structure n) place free = struct_using sign name place free n (slice_get scope.structs n)
    member_using sign name _ place free = tt

    target_using : (sign name : PlainToken) (x : Typed) (ty : PlainType) → IsUsing (spec.member_of_target scope sign name x ty)
    target_using sign name x (pointer_to ty) = member_using sign name ty (target x.core) true
    target_using sign name x _ = tt

    selected_using : (sign name : PlainToken) (x : Operand) → IsUsing (spec.selected scope sign name x)
    selected_using sign name x =
        using_if (bytes_eq sign.text (codes ".")) _ _ (member_using sign name x.ty (spec.struct_place x.ty x.designates) (spec.is_free x.designates))
        (quietly_then (loaded scope x) (λ v. spec.member_of_target scope sign name v v.ty) (operators.loads Nothing scope x) (λ v. target_using sign name v v.ty))

    -- ---- operators

    two_using : {B : Type 0} (first second : Checked Operand) (next : Typed → Typed → Checked B) → IsUsing first → IsUsing second → ((a b : Typed) → IsQuiet (next a b))
        → IsUsing (first >>= (λ left. loaded scope left >>= (λ a. second >>= (λ right. loaded scope right >>= (λ b. next a b)))))
    two_using first second next h g n =
        using_then first (λ left. loaded scope left >>= (λ a. second >>= (λ right. loaded scope right >>= (λ b. next a b)))) h
        (λ left. quietly_then (loaded scope left) (λ a. second >>= (λ right. loaded scope right >>= (λ b. next a b))) (operators.loads Nothing scope left)
        (λ a. then_quietly second (λ right. loaded scope right >>= (λ b. next a b)) g (λ right. operators.load_then Nothing scope right (λ b. next a b) (λ b. n a b))))

    -- what is called, if it is a function
    call_using : (first : PlainTree) (bracket : PlainToken) (count : ℕ) (passed : Callee → Checked PlainArguments) → IsUsing (judged scope first) → ((f : Callee) → IsUsing (passed f)) → (c : Option Callee)
        → IsUsing (elim c as (λ x. Checked Operand) [
          | Some f ↦ uses (file_entity f.name.text) >>= (λ bound. spec.may_be_called scope f.signature count bracket >>= (λ callable. passed f >>= (λ arguments. give (spec.result_of_call scope f bracket arguments))))
          | None ↦ judged scope first >>= (λ operand. loaded scope operand >>= (λ x. refused BadOperand bracket))
        ])
    call_using first bracket count passed h g (Some f) =
        using_then (uses (file_entity f.name.text)) (λ bound. spec.may_be_called scope f.signature count bracket >>= (λ callable. passed f >>= (λ arguments. give (spec.result_of_call scope f bracket arguments)))) refl
        (λ x. quietly_then (spec.may_be_called scope f.signature count bracket) (λ callable. passed f >>= (λ arguments. give (spec.result_of_call scope f bracket arguments))) (operators.callable_binds Nothing scope f.signature count bracket)
        (λ y. then_quietly (passed f) (λ arguments. give (spec.result_of_call scope f bracket arguments)) (g f) (λ z. record { all = tt })))
    call_using first bracket count passed h g None = then_quietly (judged scope first) (λ operand. loaded scope operand >>= (λ x. refused BadOperand bracket)) h (λ x. operators.load_then Nothing scope x _ (λ y. record { all = tt }))

    empty_call_using : (first : PlainTree) (bracket : PlainToken) → IsUsing (judged scope first) → (c : Option Callee)
        → IsUsing (elim c as (λ x. Checked Operand) [
          | Some f ↦ uses (file_entity f.name.text) >>= (λ bound. spec.may_be_called scope f.signature 0 bracket >>= (λ callable. give (spec.result_of_call scope f bracket no_argument)))
          | None ↦ judged scope first >>= (λ operand. loaded scope operand >>= (λ x. refused BadOperand bracket))
        ])
    empty_call_using first bracket h (Some f) =
        then_quietly (uses (file_entity f.name.text)) (λ bound. spec.may_be_called scope f.signature 0 bracket >>= (λ callable. give (spec.result_of_call scope f bracket no_argument))) refl
        (λ x. bound.then_binds Nothing (spec.may_be_called scope f.signature 0 bracket) _ (operators.callable_binds Nothing scope f.signature 0 bracket) (λ y. record { all = tt }))
    empty_call_using first bracket h None = then_quietly (judged scope first) (λ operand. loaded scope operand >>= (λ x. refused BadOperand bracket)) h (λ x. operators.load_then Nothing scope x _ (λ y. record { all = tt }))

    -- ---- expressions

    mutual
      pub judged_using : (tree : PlainTree) → IsUsing (judged scope tree)
      judged_using (leaf token) = single_using token (terminal token)
      judged_using (node k.Texts parts) = quietly _ (bound.some_then Nothing (text_bytes parts) _ (λ bytes. bound.some_then Nothing (first_text parts) _ (λ first. record { all = tt })))
      judged_using (node k.Parenthesized (more bracket (more inner (more close none)))) = judged_using inner
      judged_using (node k.PostfixStep (more inner (more (leaf sign) none))) = then_quietly (judged scope inner) (spec.stepped scope update_after sign) (judged_using inner) (operators.stepped_binds Nothing scope update_after sign)
      judged_using (node k.PrefixStep (more (leaf sign) (more inner none))) = then_quietly (judged scope inner) (spec.stepped scope update sign) (judged_using inner) (operators.stepped_binds Nothing scope update sign)
      judged_using (node k.Prefix (more (leaf sign) (more inner none))) = then_quietly (judged scope inner) (spec.prefixed scope sign) (judged_using inner) (operators.prefixed_binds Nothing scope sign)
      judged_using (node k.Cast (more (leaf bracket) (more (node words_kind words) (more close (more inner none))))) =
          then_quietly (judged scope inner) (λ o. loaded scope o >>= (λ x. spec.cast_to bracket x (spec.arithmetic_words words))) (judged_using inner)
          (λ o. operators.load_then Nothing scope o (λ x. spec.cast_to bracket x (spec.arithmetic_words words)) (λ x. operators.cast_binds Nothing bracket x (spec.arithmetic_words words)))
      judged_using (node k.Selection (more first (more (leaf sign) (more (leaf name) none)))) = using_then (judged scope first) (spec.selected scope sign name) (judged_using first) (selected_using sign name)
      judged_using (node k.Index (more first (more (leaf bracket) (more second (more close none))))) =
          two_using (judged scope first) (judged scope second) (spec.indexed scope bracket) (judged_using first) (judged_using second) (λ a b. operators.indexed_binds Nothing scope bracket a b)
      judged_using (node k.Call (more first (more (leaf bracket) (more (node k.Arguments parts) (more close none))))) =
          call_using first bracket (count_entries parts) (λ f. judged_arguments scope f.signature.parameters parts bracket) (judged_using first) (λ f. arguments_using f.signature.parameters parts bracket) (callee scope first)
      judged_using (node k.Call (more first (more (leaf bracket) (more (node k.Absent none) (more close none))))) = empty_call_using first bracket (judged_using first) (callee scope first)
      judged_using (node k.Assignment (more first (more (leaf sign) (more second none)))) =
          using_then (judged scope first) (λ left. spec.written_place scope sign left >>= (λ place. judged scope second >>= (λ o. loaded scope o >>= (λ right. spec.assignment scope sign left place right)))) (judged_using first)
          (λ left. quietly_then (spec.written_place scope sign left) (λ place. judged scope second >>= (λ o. loaded scope o >>= (λ right. spec.assignment scope sign left place right))) (operators.written_binds Nothing scope sign left)
          (λ place. then_quietly (judged scope second) (λ o. loaded scope o >>= (λ right. spec.assignment scope sign left place right)) (judged_using second)
          (λ o. operators.load_then Nothing scope o (λ right. spec.assignment scope sign left place right) (λ right. operators.assignment_binds Nothing scope sign left place right))))
      judged_using (node k.Conditional (more first (more (leaf question) (more second (more colon (more third none)))))) =
          using_then (judged scope first >>= spec.condition_value scope (first_token first question))
          (λ condition. judged scope second >>= (λ left. loaded scope left >>= (λ a. judged scope third >>= (λ right. loaded scope right >>= (λ b. spec.chosen question condition a b)))))
          (then_quietly (judged scope first) (spec.condition_value scope (first_token first question)) (judged_using first) (operators.condition_binds Nothing scope (first_token first question)))
          (λ condition. two_using (judged scope second) (judged scope third) (spec.chosen question condition) (judged_using second) (judged_using third) (λ a b. operators.chosen_binds Nothing question condition a b))
      judged_using (node kind (more first (more (leaf sign) (more second none)))) =
          two_using (judged scope first) (judged scope second) (spec.combined_by scope kind sign) (judged_using first) (judged_using second) (λ a b. operators.combined_binds Nothing scope kind sign a b)
      judged_using (node kind parts) = tt

      arguments_using : (types : List PlainType) (parts : PlainTrees) (bracket : PlainToken) → IsUsing (judged_arguments scope types parts bracket)
      arguments_using (ty ∷ types) (more tree none) bracket =
          then_quietly (judged scope tree) (λ o. spec.passed scope ty o (first_token tree bracket) >>= (λ core. give (argument core no_argument))) (judged_using tree)
          (λ o. bound.then_binds Nothing (spec.passed scope ty o (first_token tree bracket)) _ (operators.passed_binds Nothing scope ty o (first_token tree bracket)) (λ core. record { all = tt }))
      arguments_using (ty ∷ types) (more tree (more comma rest)) bracket =
          using_then (judged scope tree) (λ o. spec.passed scope ty o (first_token tree bracket) >>= (λ core. judged_arguments scope types rest bracket >>= (λ others. give (argument core others)))) (judged_using tree)
          (λ o. quietly_then (spec.passed scope ty o (first_token tree bracket)) (λ core. judged_arguments scope types rest bracket >>= (λ others. give (argument core others))) (operators.passed_binds Nothing scope ty o (first_token tree bracket))
          (λ core. then_quietly (judged_arguments scope types rest bracket) (λ others. give (argument core others)) (arguments_using types rest bracket) (λ others. record { all = tt })))
      arguments_using (ty ∷ types) none bracket = refl
      arguments_using [] none bracket = refl
      arguments_using [] (more tree none) bracket = tt
      arguments_using [] (more tree (more comma rest)) bracket = tt

    valued_using : (tree : PlainTree) → IsUsing (valued scope tree)
    valued_using tree = then_quietly (judged scope tree) (loaded scope) (judged_using tree) (operators.loads Nothing scope)

    -- ---- initialisers

    module _ (globals : Option ℕ) where
      value_using : (ty : PlainType) (path : Path) (tree : PlainTree) (first : PlainToken) → IsUsing (value_initial scope globals ty path tree first)
      value_using ty path tree first =
          then_quietly (valued scope tree) (λ x. found_or (fits_into ty x) BadOperand first >>= (λ core. unless_so (is_allowed scope globals core) BadConstant first >>= (λ allowed. give (record { path = path; value = core; first = first } ∷ []))))
          (valued_using tree) (λ x. bound.found_then Nothing (fits_into ty x) BadOperand first _ (λ core. bound.unless_then Nothing (is_allowed scope globals core) BadConstant first _ (λ y. record { all = tt })))

      whole_using : (ty : PlainType) (path : Path) (tree : PlainTree) (first : PlainToken) → IsUsing (whole_initial scope globals ty path tree first)
      whole_using (array_of element count) path tree first = then_quietly (valued scope tree) (λ x. refused BadOperand first) (valued_using tree) (λ x. record { all = tt })
      whole_using ty path tree first = value_using ty path tree first

      texts_using : (ty : PlainType) (path : Path) (parts : PlainTrees) (first : PlainToken) → IsUsing (text_or_whole scope globals ty path parts first)
      texts_using (array_of element count) path parts first =
          quietly (text_or_whole scope globals (array_of element count) path parts first)
          (bound.if_binds Nothing (is_character_type element) (or_broken (text_bytes parts) >>= (λ bytes. text_initial element count path bytes first)) (refused BadOperand first)
          (bound.some_then Nothing (text_bytes parts) _ (λ bytes. bound.unless_then Nothing (nat_le (length bytes) count) BadConstant first _ (λ x. record { all = tt }))) (record { all = tt }))
      texts_using ty path parts first = value_using ty path (node k.Texts parts) first

      excess_quiet : (o : Option PlainType) (tree : PlainTree) (first : PlainToken) → IsQuiet (part_or_excess scope globals o tree first)
      excess_quiet (Some element) tree first = record { all = tt }
      excess_quiet None tree first = record { all = tt }

      mutual
        pub initial_using : (ty : PlainType) (path : Path) (tree : PlainTree) (behind : PlainToken) → IsUsing (initial scope globals ty path tree behind)
        initial_using ty path (node k.Braces (more brace (more (node kind entries) (more last none)))) behind = entries_using ty path 0 entries behind
        initial_using ty path (node k.Texts parts) behind = texts_using ty path parts (first_token (node k.Texts parts) behind)
        initial_using ty path tree behind = whole_using ty path tree (first_token tree behind)

        entries_using : (ty : PlainType) (path : Path) (n : ℕ) (entries : PlainTrees) (behind : PlainToken) → IsUsing (initial_entries scope globals ty path n entries behind)
        entries_using ty path n none behind = refl
        entries_using ty path n (more tree none) behind =
            quietly_then (part_or_excess scope globals (part_for scope.structs ty n) tree (first_token tree behind)) (λ element. initial scope globals element (path_for ty path n) tree behind)
            (excess_quiet (part_for scope.structs ty n) tree (first_token tree behind)) (λ element. initial_using element (path_for ty path n) tree behind)
        entries_using ty path n (more tree (more comma rest)) behind =
            quietly_then (part_or_excess scope globals (part_for scope.structs ty n) tree (first_token tree behind))
            (λ element. initial scope globals element (path_for ty path n) tree behind >>= (λ first. initial_entries scope globals ty path (n + 1) rest behind >>= (λ others. give (first ++ others))))
            (excess_quiet (part_for scope.structs ty n) tree (first_token tree behind))
            (λ element. using_then (initial scope globals element (path_for ty path n) tree behind) (λ first. initial_entries scope globals ty path (n + 1) rest behind >>= (λ others. give (first ++ others))) (initial_using element (path_for ty path n) tree behind)
            (λ first. then_quietly (initial_entries scope globals ty path (n + 1) rest behind) (λ others. give (first ++ others)) (entries_using ty path (n + 1) rest behind) (λ others. record { all = tt })))
