-- Texts in memory, for which a program has its structs alone.
use Rattle.std.proofs.Common.{◌≡◌, ℕ, zero, suc, ◌-◌, List, refl, ap, ◌∙◌, Option, Some, None}
use Rattle.core_meaning.specs.Program.{PlainProgram}
use Rattle.core_meaning.specs.Values.{Pointer, null, at, number, Value, scalar, Stand, element_path}
use Rattle.core_meaning.specs.Memory.{Memory, value_at, stand_in}
use Rattle.core_meaning.specs.Meaning.{byte_of, until_zero, text_from, text_at}
use Rattle.core_memory.specs.OperationForms.{with_structs}

byte_same : (p q : PlainProgram) (v : Option Value) → byte_of p v ≡ byte_of q v
byte_same p q (Some (scalar (number z))) = refl
byte_same p q other = refl

until_same : (p q : PlainProgram) (b : Option ℕ) (rest : Option (List ℕ)) → until_zero p b rest ≡ until_zero q b rest
until_same p q None rest = refl
until_same p q (Some zero) rest = refl
until_same p q (Some (suc b)) rest = refl

text_from_same : (p : PlainProgram) (m : Memory) (object : ℕ) (stand : Stand) (left index : ℕ) → text_from (with_structs p.structs) m object stand left index ≡ text_from p m object stand left index
text_from_same p m object stand zero index = refl
text_from_same p m object stand (suc left) index =
    let q = with_structs p.structs in
    let v = value_at p.structs m (at object (element_path stand index)) in
    let rest = text_from q m object stand left (suc index) in
    until_same q p (byte_of q v) rest
    ∙ (ap (λ b. until_zero p b rest) (byte_same q p v)
    ∙ ap (until_zero p (byte_of p v)) (text_from_same p m object stand left (suc index)))

pub text_same : (p : PlainProgram) (m : Memory) (q : Pointer) → text_at (with_structs p.structs) m q ≡ text_at p m q
text_same p m null = refl
text_same p m (at object path) =
    let stand = stand_in p.structs m object path in
    text_from_same p m object stand (stand.count - stand.index) stand.index
