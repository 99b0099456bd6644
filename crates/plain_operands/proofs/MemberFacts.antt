-- A member that is found.
use Rattle.std.proofs.Common.{◌≡◌, ℕ, Bool, true, [], ◌∷◌, refl}
use Rattle.std.specs.Prelude.{Some, None, slice_get}
use Rattle.c_text.specs.Token.{PlainToken}
use Rattle.c_types.specs.Tags.{PlainMember}
use Rattle.core_meaning.specs.declared.refusals.TypeKind.TheVariants.{NoMember}
use Rattle.core_meaning.specs.Program.{PlainPlace, member}
use Rattle.core_meaning.specs.Checking.{member_entity, refused}
use Rattle.core_meaning.specs.Entities.{Struct}
use Rattle.core_meaning.specs.Typing.{Operand, of_object}
use Rattle.core_meaning.specs.Expressions.{member_in}
use Rattle.plain_scope.specs.Judgements.{Binds}

pub member_binds : (sign name : PlainToken) (place : PlainPlace) (free : Bool) (struct_number : ℕ) (s : Struct) (number : ℕ) (found : PlainMember) (x : Operand) → s.complete ≡ true → s.numbers name.text ≡ Some number → slice_get s.members number ≡ Some found → x ≡ of_object name found.ty (member place number) free → Binds (member_in sign name place free struct_number (Some s)) x
member_binds sign name place free struct_number s number found x complete numbered is gives = record {
  bindings = record { entity = member_entity struct_number number; in_expression = true } ∷ [];
  judged = rw complete (rw numbered (rw is (rw gives refl)));
  unused = λ name. refl;
}

pub member_missing : (sign name : PlainToken) (place : PlainPlace) (free : Bool) (struct_number : ℕ) (s : Struct) → s.complete ≡ true → s.numbers name.text ≡ None → member_in sign name place free struct_number (Some s) ≡ refused NoMember name
member_missing sign name place free struct_number s complete numbered = rw complete (rw numbered refl)
