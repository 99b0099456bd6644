-- Operators before their operands.
use Rattle.std.proofs.Common.{◌≡◌, Bool, true, false, codes, [], refl, ap, sym, ◌∙◌}
use Rattle.std.specs.Prelude.{if◌then◌else◌}
use Rattle.std.specs.Str.{bytes_eq}
use Rattle.c_text.specs.Token.{PlainToken}
use Rattle.core_meaning.specs.Checking.{Checked, fine, refused, broken, with_bindings, give, ◌>>=◌}
use Rattle.core_meaning.specs.Program.{PlainPlace, PlainExpression}
use Rattle.core_meaning.specs.declared.expressions.Change.{Change}
use Rattle.c_types.specs.Types.{PlainType}
use Rattle.core_meaning.specs.Entities.{Scope}
use Rattle.core_meaning.specs.Typing.{Operand, Typed, loaded, of_object}
use Rattle.core_meaning.specs.Expressions.{prefixed, dereferenced, negated, signed, written_place, updated, stepped, one}
use Rattle.plain_operands.specs.Operators.{on_loaded}

-- what is done with a value is chosen before the value is read, or behind that
one_of_three : {A B : Type 0} (first second : Bool) (c : Checked A) (f g h : A → Checked B) → (if first then c >>= f else if second then c >>= g else c >>= h) ≡ (c >>= (λ x. if first then f x else if second then g x else h x))
one_of_three true second c f g h = refl
one_of_three false true c f g h = refl
one_of_three false false c f g h = refl

pub prefixed_loads : (scope : Scope) (sign : PlainToken) (operand : Operand) → bytes_eq sign.text (codes "&") ≡ false → prefixed scope sign operand ≡ on_loaded scope sign operand
prefixed_loads scope sign operand differs =
    rw differs (one_of_three (bytes_eq sign.text (codes "*")) (bytes_eq sign.text (codes "!")) (loaded scope operand) (λ x. dereferenced sign x x.ty) (negated sign) (signed sign))

with_none : {A : Type 0} (c : Checked A) → with_bindings [] c ≡ c
with_none (fine x bindings) = refl
with_none (refused kind token) = refl
with_none broken = refl

-- a step is an assignment of what stands at its place
pub stepped_updates : (scope : Scope) (make : Change → PlainPlace → PlainExpression → PlainExpression) (sign : PlainToken) (operand : Operand) (place : PlainPlace) (ty : PlainType) (by : Typed) → written_place scope sign operand ≡ give place → ty ≡ operand.ty → by ≡ one → stepped scope make sign operand ≡ updated scope make sign (of_object sign ty place true) place by
stepped_updates scope make sign operand place ty by is typed by_one =
    ap (λ (d : Checked PlainPlace). d >>= (λ p. updated scope make sign operand p one)) is
    ∙ with_none (updated scope make sign operand place one)
    ∙ ap (λ t. updated scope make sign (of_object sign t place true) place one) (sym typed)
    ∙ ap (λ r. updated scope make sign (of_object sign ty place true) place r) (sym by_one)
