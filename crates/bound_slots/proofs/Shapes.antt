-- What operators that use objects come to: never what passes a test that no change, assignment, call, pointed-at object or member passes.
use Rattle.std.proofs.Common.{◌≡◌, ℕ, Bool, true, false, ◌&&◌}
use Rattle.std.specs.Prelude.{Option, Some, None, codes, slice_get}
use Rattle.std.specs.Str.{bytes_eq}
use Rattle.c_text.specs.Token.{PlainToken}
use Rattle.c_types.specs.Types.{PlainType, pointer_to, structure}
use Rattle.c_types.specs.Tags.{PlainMember}
use Rattle.c_types.specs.Integers.{is_integer}
use Rattle.c_tree.specs.Trees.{PlainTrees}
use Rattle.core_meaning.specs.declared.expressions.Operation.TheVariants as operation
use Rattle.core_meaning.specs.declared.expressions.Change.{Change}
use Rattle.core_meaning.specs.declared.refusals.TypeKind.TheVariants.{BadOperand, Incomplete, NoMember}
use Rattle.core_meaning.specs.Program.{PlainExpression, PlainPlace, PlainArguments, binary, target, member, update, update_after, assign, call, no_argument}
use Rattle.core_meaning.specs.Checking.{Checked, refused, ◌>>=◌, give, unless_so, uses, found_or, or_broken, file_entity, member_entity}
use Rattle.core_meaning.specs.Entities.{Struct, Scope, entity_number}
use Rattle.core_meaning.specs.Typing.{Operand, Typed, of_value, of_object, loaded, is_complete, is_pointer, fits_into}
use Rattle.core_meaning.specs.Expressions as spec
use Rattle.core_meaning.specs.Expressions.{Callee, judged_arguments, count_entries}
use Rattle.bound_slots.proofs.Constants.{Never, never_then, never_given, only_if}

-- none of these passes the test
pub record PassNot (test : Operand → Bool) : Type 0 where
  pub changed : (sign : PlainToken) (ty : PlainType) (c : Change) (p : PlainPlace) (e : PlainExpression) → test (of_value sign ty (update c p e)) ≡ false
  pub changed_after : (sign : PlainToken) (ty : PlainType) (c : Change) (p : PlainPlace) (e : PlainExpression) → test (of_value sign ty (update_after c p e)) ≡ false
  pub assigned : (sign : PlainToken) (ty : PlainType) (p : PlainPlace) (e : PlainExpression) → test (of_value sign ty (assign p e)) ≡ false
  pub called : (sign : PlainToken) (ty : PlainType) (number : ℕ) (arguments : PlainArguments) → test (of_value sign ty (call number arguments)) ≡ false
  pub pointed : (sign : PlainToken) (ty : PlainType) (e : PlainExpression) → test (of_object sign ty (target e) true) ≡ false
  pub selected : (sign : PlainToken) (ty : PlainType) (p : PlainPlace) (number : ℕ) (free : Bool) → test (of_object sign ty (member p number) free) ≡ false

module _ (s : Scope) (test : Operand → Bool) (shapes : PassNot test) where
  updated_never :
      (make : Change → PlainPlace → PlainExpression → PlainExpression) → ((sign : PlainToken) (ty : PlainType) (c : Change) (p : PlainPlace) (e : PlainExpression) → test (of_value sign ty (make c p e)) ≡ false)
      → (sign : PlainToken) (left : Operand) (place : PlainPlace) (right : Typed) → Never test (spec.updated s make sign left place right)
  updated_never make made sign left place right =
      never_then test (or_broken (spec.compound_operator sign.text)) _
      (λ op. never_then test (found_or (spec.change_by left.ty (spec.operation_on s.structs op (spec.left_value left place) right)) BadOperand sign) (λ c. give (of_value sign left.ty (make c place right.core)))
      (λ c. never_given test (of_value sign left.ty (make c place right.core)) (made sign left.ty c place right.core)))

  pub stepped_never :
      (make : Change → PlainPlace → PlainExpression → PlainExpression) → ((sign : PlainToken) (ty : PlainType) (c : Change) (p : PlainPlace) (e : PlainExpression) → test (of_value sign ty (make c p e)) ≡ false)
      → (sign : PlainToken) (o : Operand) → Never test (spec.stepped s make sign o)
  stepped_never make made sign o = never_then test (spec.written_place s sign o) (λ place. spec.updated s make sign o place spec.one) (λ place. updated_never make made sign o place spec.one)

  assigned_never : (sign : PlainToken) (left : Operand) (place : PlainPlace) (right : Typed) → Never test (spec.assignment s sign left place right)
  assigned_never sign left place right =
      only_if ⊥ test (spec.is_plain_assignment sign) _ _
      (never_then test (found_or (fits_into left.ty right) BadOperand sign) (λ core. give (of_value sign left.ty (assign place core))) (λ core. never_given test _ (shapes.assigned sign left.ty place core)))
      (updated_never update shapes.changed sign left place right)

  pub assignment_never : (sign : PlainToken) (first second : Checked Operand)
      → Never test (first >>= (λ left. spec.written_place s sign left >>= (λ place. second >>= (λ o. loaded s o >>= (λ right. spec.assignment s sign left place right)))))
  assignment_never sign first second =
      never_then test first _ (λ left. never_then test (spec.written_place s sign left) _
      (λ place. never_then test second _ (λ o. never_then test (loaded s o) (λ right. spec.assignment s sign left place right) (λ right. assigned_never sign left place right))))

  element_never : (sign : PlainToken) (ty : PlainType) (core : PlainExpression) → Never test (spec.element_target s sign ty core)
  element_never sign (pointer_to ty) core = only_if ⊥ test (is_complete s.structs ty) _ _ (never_given test _ (shapes.pointed sign ty core)) (record { only = tt })
  element_never sign _ core = record { only = tt }

  indexed_never : (sign : PlainToken) (a b : Typed) → Never test (spec.indexed s sign a b)
  indexed_never sign a b =
      only_if ⊥ test (is_pointer a.ty && is_integer b.ty) _ _ (element_never sign a.ty (binary operation.Forward a.core b.core))
      (only_if ⊥ test (is_integer a.ty && is_pointer b.ty) _ _ (element_never sign b.ty (binary operation.ForwardBy a.core b.core)) (record { only = tt }))

  pub subscript_never : (bracket : PlainToken) (first second : Checked Operand)
      → Never test (first >>= (λ left. loaded s left >>= (λ a. second >>= (λ right. loaded s right >>= (λ b. spec.indexed s bracket a b)))))
  subscript_never bracket first second =
      never_then test first _ (λ left. never_then test (loaded s left) _ (λ a. never_then test second _ (λ right. never_then test (loaded s right) (λ b. spec.indexed s bracket a b) (λ b. indexed_never bracket a b))))

  found_never : (name : PlainToken) (place : PlainPlace) (free : Bool) (struct_number : ℕ) (found : Option PlainMember) (number : ℕ) → Never test (spec.member_operand name place free struct_number found number)
  found_never name place free struct_number None number = record { only = tt }
  found_never name place free struct_number (Some found) number =
      never_then test (uses (member_entity struct_number number)) (λ bound. give (of_object name found.ty (member place number) free)) (λ bound. never_given test _ (shapes.selected name found.ty place number free))

  member_in_never : (sign name : PlainToken) (place : PlainPlace) (free : Bool) (struct_number : ℕ) (found : Option Struct) → Never test (spec.member_in sign name place free struct_number found)
  member_in_never sign name place free struct_number None = record { only = tt }
  member_in_never sign name place free struct_number (Some found) =
      never_then test (unless_so found.complete Incomplete sign) _
      (λ complete. never_then test (found_or (found.numbers name.text) NoMember name) (λ number. spec.member_operand name place free struct_number (slice_get found.members number) number)
      (λ number. found_never name place free struct_number (slice_get found.members number) number))

  member_never : (sign name : PlainToken) (ty : PlainType) (place : PlainPlace) (free : Bool) → Never test (spec.member_of s sign name ty place free)
  member_never sign name (structure number) place free = member_in_never sign name place free number (slice_get s.structs number)
  member_never sign name _ place free = record { only = tt }

  target_never : (sign name : PlainToken) (x : Typed) (ty : PlainType) → Never test (spec.member_of_target s sign name x ty)
  target_never sign name x (pointer_to ty) = member_never sign name ty (target x.core) true
  target_never sign name x _ = record { only = tt }

  pub selected_never : (sign name : PlainToken) (o : Operand) → Never test (spec.selected s sign name o)
  selected_never sign name o =
      only_if ⊥ test (bytes_eq sign.text (codes ".")) _ _ (member_never sign name o.ty (spec.struct_place o.ty o.designates) (spec.is_free o.designates))
      (never_then test (loaded s o) (λ x. spec.member_of_target s sign name x x.ty) (λ x. target_never sign name x x.ty))

  refused_never : (bracket : PlainToken) (first : Checked Operand) → Never test (first >>= (λ operand. loaded s operand >>= (λ x. refused BadOperand bracket)))
  refused_never bracket first = never_then test first _ (λ operand. never_then test (loaded s operand) (λ x. refused BadOperand bracket) (λ x. record { only = tt }))

  pub called_never : (bracket : PlainToken) (first : Checked Operand) (parts : PlainTrees) (o : Option Callee)
      → Never test (elim o as (λ x. Checked Operand) [
        | Some f ↦ uses (file_entity f.name.text) >>= (λ bound. spec.may_be_called s f.signature (count_entries parts) bracket >>= (λ callable. judged_arguments s f.signature.parameters parts bracket >>= (λ arguments. give (spec.result_of_call s f bracket arguments))))
        | None ↦ first >>= (λ operand. loaded s operand >>= (λ x. refused BadOperand bracket))
      ])
  called_never bracket first parts (Some f) =
      never_then test (uses (file_entity f.name.text)) _ (λ bound. never_then test (spec.may_be_called s f.signature (count_entries parts) bracket) _
      (λ callable. never_then test (judged_arguments s f.signature.parameters parts bracket) (λ arguments. give (spec.result_of_call s f bracket arguments)) (λ arguments. never_given test _ (shapes.called bracket f.signature.result (entity_number s.numbers.functions f.name.text) arguments))))
  called_never bracket first parts None = refused_never bracket first

  pub called_without_never : (bracket : PlainToken) (first : Checked Operand) (o : Option Callee)
      → Never test (elim o as (λ x. Checked Operand) [
        | Some f ↦ uses (file_entity f.name.text) >>= (λ bound. spec.may_be_called s f.signature 0 bracket >>= (λ callable. give (spec.result_of_call s f bracket no_argument)))
        | None ↦ first >>= (λ operand. loaded s operand >>= (λ x. refused BadOperand bracket))
      ])
  called_without_never bracket first (Some f) =
      never_then test (uses (file_entity f.name.text)) _ (λ bound. never_then test (spec.may_be_called s f.signature 0 bracket) (λ callable. give (spec.result_of_call s f bracket no_argument)) (λ callable. never_given test _ (shapes.called bracket f.signature.result (entity_number s.numbers.functions f.name.text) no_argument)))
  called_without_never bracket first None = refused_never bracket first
