-- What is read of an expression is what it is judged to be.
use Rattle.std.proofs.Common.{◌≡◌, ℕ, ◌+◌, Bool, true, false, List, [], refl, sym, ap, subst, ◌∙◌, length}
use Rattle.std.specs.Prelude.{codes, Option, Some, None, option_map, slice_get, if◌then◌else◌}
use Rattle.std.specs.Str.{bytes_eq}
use Rattle.std.proofs.lemmas.Bool.{false≢true}
use Rattle.c_text.specs.Token.{PlainToken}
use Rattle.c_text.specs.Constants.{quoted_values}
use Rattle.c_types.specs.Types.{PlainType, void, char, unsigned_char, int, unsigned_int, long, unsigned_long, pointer_to, array_of, structure}
use Rattle.c_types.specs.Tags.{PlainMember}
use Rattle.c_tree.specs.declared.terminals.Terminal.{Terminal}
use Rattle.c_tree.specs.declared.terminals.Terminal.TheVariants as t
use Rattle.c_tree.specs.Terminals.{terminal}
use Rattle.c_tree.specs.Trees.{PlainTree, leaf}
use Rattle.core_meaning.specs.declared.refusals.TypeKind.TheVariants.{Incomplete, NoMember}
use Rattle.core_meaning.specs.Program.{PlainPlace, constant, literal, target}
use Rattle.core_meaning.specs.Checking.{Checked, ◌>>=◌, give, unless_so, found_or, or_broken}
use Rattle.core_meaning.specs.Entities.{Struct, Local, Sort, variable, function, FileName, Scope, local_in, entity_number}
use Rattle.core_meaning.specs.Typing.{Operand, Typed, of_object, of_value, loaded, Designation, value, object, is_complete_struct}
use Rattle.core_meaning.specs.Expressions as spec
use Rattle.core_meaning.specs.Expressions.{Callee, judged, callee}
use Rattle.conditional.specs.Judgements as seen
use Rattle.conditional.specs.Judgements.{bind}
use Rattle.choice_trees.specs.ChoiceTrees.{semicolon}
use Rattle.operand_types.specs.OperandTypes.{OperandType, lvalue, struct_in, is_known_complete, renumbered, category_of, type_of_operand, type_of_value}
use Rattle.operand_types.specs.Operators.{same_number, loaded_type}
use Rattle.operand_types.specs.Laws.{OperatorsKeepTypes}
use Rattle.operand_types.proofs.Renumbered.{integer_no_struct, kept}
use Rattle.expression_types.specs.Known.{Callable, Known, object_type, callable, denoted_of, numbered_member, IsKnown}
use Rattle.expression_types.specs.Reading as reading
use Rattle.expression_types.specs.Reading.{read_expression}
use Rattle.expression_types.proofs.Sees.{SeesAs, sees_then, sees_from}
use Rattle.expression_types.proofs.Numbers.{NullIsNumber, NullValueIsNumber, number_is, loads_number}

abbrev pub Anything : {A : Type 0} → A → Type 0
Anything x = Unit {0}

abbrev pub nothing : {A : Type 0} → A → Unit {0}
nothing x = tt

pub absent_null : {A : Type 0} → false ≡ true → A
absent_null h = absurd (false≢true h)

module _ (by : ℕ → ℕ) (scope : Scope) where
  abbrev pub form : Operand → OperandType
  form x = type_of_operand by scope.structs x

  abbrev pub value_form : Typed → OperandType
  value_form x = type_of_value by scope.structs x

  abbrev pub Sees : Checked Operand → reading.Outcome → Type 0
  Sees m c = SeesAs form NullIsNumber m c

  abbrev pub SeesValue : Checked Typed → reading.Outcome → Type 0
  SeesValue m c = SeesAs value_form NullValueIsNumber m c

  abbrev pub called_as : Callee → Callable
  called_as f = callable by scope f.signature

  module _ (known : Known) where
    -- what is read of it is what it is judged to be, and the function that it names
    pub record IsTyped (tree : PlainTree) : Type 0 where
      pub outcome : Sees (judged scope tree) (read_expression known tree).outcome
      pub callee : (read_expression known tree).callee ≡ option_map called_as (callee scope tree)

    -- ---- names and constants

    file_seen : (token : PlainToken) (n : Option FileName) → Sees (spec.file_name_operand scope token n) (reading.object_in (denoted_of by scope None n))
    file_seen token None = tt
    file_seen token (Some n) = of_sort n.sort
      where
        of_sort : (sort : Sort) → Sees (spec.file_operand scope token sort) (reading.object_in (Some (Rattle.expression_types.specs.Known.denoted_by by scope sort)))
        of_sort (variable ty) = (refl, absent_null)
        of_sort (function signature) = tt

    name_seen : (token : PlainToken) (l : Option Local) → Sees (spec.name_operand scope token l) (reading.object_in (denoted_of by scope l (scope.file_names token.text)))
    name_seen token (Some l) = (refl, absent_null)
    name_seen token None = file_seen token (scope.file_names token.text)

    number_same : (token : PlainToken) → form (spec.number_operand token) ≡ type_of_operand same_number [] (spec.number_operand token)
    number_same token =
        let free = integer_no_struct (spec.number_type token.text) (number_is token.text) in
        rw (kept by (spec.number_type token.text) free) (rw (kept same_number (spec.number_type token.text) free) (rw free refl))

    character_seen : (token : PlainToken) (z : Option Rattle.std.specs.Prelude.ℤ)
        → Sees (or_broken z >>= (λ z. give (of_value token int (constant z)))) (Rattle.operand_types.specs.OperandTypes.outcome_as (type_of_operand same_number []) (or_broken z >>= (λ z. give (of_value token int (constant z)))))
    character_seen token (Some z) = (refl, absent_null)
    character_seen token None = tt

    single_seen : IsKnown by scope known → (token : PlainToken) (kind : Terminal) → Sees (spec.single_operand scope token kind) (reading.single_outcome known token kind)
    single_seen is token t.Name = subst (λ d. Sees (spec.name_operand scope token (local_in scope.blocks token.text)) (reading.object_in d)) (sym (is.ordinary token.text)) (name_seen token (local_in scope.blocks token.text))
    single_seen is token t.Number = (number_same token, λ h. number_is token.text)
    single_seen is token t.Character = character_seen token (spec.character_value (quoted_values token.text))
    single_seen is token _ = tt

    file_callee : (token : PlainToken) (n : Option FileName) → reading.callee_in (denoted_of by scope None n) ≡ option_map called_as (spec.callee_of_name token n)
    file_callee token None = refl
    file_callee token (Some n) = of_sort n.sort
      where
        of_sort : (sort : Sort) → reading.callee_in (Some (Rattle.expression_types.specs.Known.denoted_by by scope sort)) ≡ option_map called_as (spec.callee_of_sort token sort)
        of_sort (variable ty) = refl
        of_sort (function signature) = refl

    name_callee : (token : PlainToken) (l : Option Local) → reading.callee_in (denoted_of by scope l (scope.file_names token.text)) ≡ option_map called_as (spec.callee_unless_local scope token l)
    name_callee token (Some l) = refl
    name_callee token None = file_callee token (scope.file_names token.text)

    pub leaf_typed : IsKnown by scope known → (token : PlainToken) → IsTyped (leaf token)
    leaf_typed is token = record {
      outcome = single_seen is token (terminal token);
      callee = ap reading.callee_in (is.ordinary token.text) ∙ name_callee token (local_in scope.blocks token.text);
    }

    -- ---- texts

    pub texts_seen : (bytes : Option (List ℕ)) (first : Option PlainToken)
        → Sees (or_broken bytes >>= (λ bytes. or_broken first >>= (λ first. give (of_object first (array_of char (length bytes + 1)) (literal (entity_number scope.numbers.literals bytes)) true)))) (reading.text_outcome bytes first)
    texts_seen (Some bytes) (Some first) = (refl, absent_null)
    texts_seen (Some bytes) None = tt
    texts_seen None first = tt

    -- ---- members

    module _ (is : IsKnown by scope known) (sign name : PlainToken) where
      operand_seen : (s : Struct) (number : ℕ) (place : PlainPlace) (free : Bool) (n : ℕ) (m : Option PlainMember)
          → Sees (spec.member_operand name place free number m n) (reading.member_of_category (lvalue free) (option_map (λ m. object_type by scope m.ty) m))
      operand_seen s number place free n None = tt
      operand_seen s number place free n (Some m) = (refl, absent_null)

      found_seen : (s : Struct) (number : ℕ) (place : PlainPlace) (free : Bool) (n : Option ℕ)
          → Sees (found_or n NoMember name >>= (λ n. spec.member_operand name place free number (slice_get s.members n) n)) (reading.member_of_category (lvalue free) (numbered_member by scope s n))
      found_seen s number place free None = tt
      found_seen s number place free (Some n) =
          sees_then (λ (x : ℕ). x) (λ x. x ≡ n) form NullIsNumber (give n) (seen.fine n) (λ n. spec.member_operand name place free number (slice_get s.members n) n)
          (λ n. reading.member_of_category (lvalue free) (option_map (λ m. object_type by scope m.ty) (slice_get s.members n))) (refl, refl)
          (λ x h. operand_seen s number place free x (slice_get s.members x))

      complete_seen : (s : Struct) (number : ℕ) (place : PlainPlace) (free complete : Bool) → slice_get scope.structs number ≡ Some s → s.complete ≡ complete
          → Sees (unless_so complete Incomplete sign >>= (λ c. found_or (s.numbers name.text) NoMember name >>= (λ n. spec.member_operand name place free number (slice_get s.members n) n)))
          (if complete then reading.member_of_category (lvalue free) (known.members (by number) name.text) else reading.no_outcome)
      complete_seen s number place free true e c =
          sees_then (nothing {A = Unit {0}}) (Anything {A = Unit {0}}) form NullIsNumber (give (tt {0})) (seen.fine (tt {0})) (λ c. found_or (s.numbers name.text) NoMember name >>= (λ n. spec.member_operand name place free number (slice_get s.members n) n))
          (λ c. reading.member_of_category (lvalue free) (known.members (by number) name.text)) (refl, tt)
          (λ x h. subst (λ m. Sees (found_or (s.numbers name.text) NoMember name >>= (λ n. spec.member_operand name place free number (slice_get s.members n) n)) (reading.member_of_category (lvalue free) m))
          (sym (is.members number s e c name.text)) (found_seen s number place free (s.numbers name.text)))
      complete_seen s number place free false e c = tt

      struct_seen : (number : ℕ) (place : PlainPlace) (free flag : Bool) (s : Option Struct) → slice_get scope.structs number ≡ s → flag ≡ is_complete_struct s
          → Sees (spec.member_in sign name place free number s) (if flag then reading.member_of_category (lvalue free) (known.members (by number) name.text) else reading.no_outcome)
      struct_seen number place free flag None e h =
          subst (λ b. Sees (spec.member_in sign name place free number None) (if b then reading.member_of_category (lvalue free) (known.members (by number) name.text) else reading.no_outcome)) (sym h) tt
      struct_seen number place free flag (Some s) e h =
          subst (λ b. Sees (spec.member_in sign name place free number (Some s)) (if b then reading.member_of_category (lvalue free) (known.members (by number) name.text) else reading.no_outcome)) (sym h)
          (complete_seen s number place free s.complete e refl)

      member_seen : (ty : PlainType) (o : OperandType) (place : PlainPlace) (free : Bool) → o.has_complete_struct ≡ is_known_complete scope.structs (struct_in ty)
          → Sees (spec.member_of scope sign name ty place free) (reading.member_in known o (lvalue free) (renumbered by ty) name.text)
      member_seen (structure n) o place free h = struct_seen n place free o.has_complete_struct (slice_get scope.structs n) refl h
      member_seen void o place free h = tt
      member_seen char o place free h = tt
      member_seen unsigned_char o place free h = tt
      member_seen int o place free h = tt
      member_seen unsigned_int o place free h = tt
      member_seen long o place free h = tt
      member_seen unsigned_long o place free h = tt
      member_seen (pointer_to ty) o place free h = tt
      member_seen (array_of ty count) o place free h = tt

      target_seen : (ty : PlainType) (x : Typed) (o : OperandType) → o.has_complete_struct ≡ is_known_complete scope.structs (struct_in ty)
          → Sees (spec.member_of_target scope sign name x ty) (reading.member_of_target known o (renumbered by ty) name.text)
      target_seen (pointer_to ty) x o h = member_seen ty o (target x.core) true h
      target_seen void x o h = tt
      target_seen char x o h = tt
      target_seen unsigned_char x o h = tt
      target_seen int x o h = tt
      target_seen unsigned_int x o h = tt
      target_seen long x o h = tt
      target_seen unsigned_long x o h = tt
      target_seen (array_of ty count) x o h = tt
      target_seen (structure n) x o h = tt

      object_member : (x : Operand) (d : Designation)
          → Sees (spec.member_of scope sign name x.ty (spec.struct_place x.ty d) (spec.is_free d)) (reading.member_in known (form x) (reading.category_of_members (category_of d)) (renumbered by x.ty) name.text)
      object_member x (value core) = member_seen x.ty (form x) (spec.struct_place x.ty (value core)) false refl
      object_member x (object place free) = member_seen x.ty (form x) place free refl

      pub selected_seen : OperatorsKeepTypes by scope → (x : Operand) → NullIsNumber x → Sees (spec.selected scope sign name x) (reading.selected known sign name.text (form x))
      selected_seen laws x null = elim (bytes_eq sign.text (codes ".")) as (λ b.
          Sees (if b then spec.member_of scope sign name x.ty (spec.struct_place x.ty x.designates) (spec.is_free x.designates) else loaded scope x >>= (λ x. spec.member_of_target scope sign name x x.ty))
          (if b then reading.member_in known (form x) (reading.category_of_members (form x).category) (form x).ty name.text else bind (loaded_type semicolon (form x)) (λ v. reading.member_of_target known v v.ty name.text))) [
            | true ↦ object_member x x.designates
            | false ↦ sees_then value_form NullValueIsNumber form NullIsNumber (loaded scope x) (loaded_type semicolon (form x)) (λ x. spec.member_of_target scope sign name x x.ty)
                (λ v. reading.member_of_target known v v.ty name.text)
                (sees_from value_form NullValueIsNumber (loaded scope x) (loaded_type semicolon (form x)) (laws.loads semicolon x) (loads_number scope x null))
                (λ v h. target_seen v.ty v (value_form v) refl)
          ]
