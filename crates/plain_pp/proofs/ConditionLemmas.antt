-- The condition of an expression by what its tokens become.
use Rattle.std.proofs.Common.{◌≡◌, ◌↔◌, List, map, Option, Some, None, refl, ap, sym}
use Rattle.std.specs.Prelude.{ℤ}
use Rattle.c_text.specs.Token.{PlainToken}
use Rattle.c_text.specs.Macros.{Replaced, fine, bad_call}
use Rattle.c_text.specs.Expressions.{HasValue}
use Rattle.c_text.specs.Preprocessing.{Refusal, fails, by_value, by_replaced, earlier, refusal_at, bad_call_kind}
use Rattle.plain_macros.specs.PlainReplacements.{tokens, refused, outcome}
use Rattle.pp_lines.specs.declared.expressions.Value.{Value}
use Rattle.pp_lines.specs.declared.expressions.Value.TheVariants.{Number, Refused}
use Rattle.unit_files.specs.Settings.{AreValues}
use Rattle.plain_pp.specs.Values.{number_in}

same-option : (a b : Option ℤ) → ((z : ℤ) → a ≡ Some z → b ≡ Some z) → ((z : ℤ) → b ≡ Some z → a ≡ Some z) → a ≡ b
same-option None None h k = refl
same-option None (Some z) h k = k z refl
same-option (Some z) b h k = sym (h z refl)

-- an expression has one value at most, and this is it
pub value-is : (value_of : List PlainToken → Option ℤ) → AreValues value_of → (ts : List PlainToken) (v : Option ℤ) → ((z : ℤ) → (v ≡ Some z) ↔ HasValue ts z) → v ≡ value_of ts
value-is value_of are ts v h =
    same-option v (value_of ts) (λ z e. (are.values ts z).1 ((h z).0 e)) (λ z e. (h z).1 ((are.values ts z).0 e))

pub replaced-fine : (value_of : List PlainToken → Option ℤ) (hash : PlainToken) (found : Option Refusal) (ts : List PlainToken) (r : Replaced) → tokens ts ≡ outcome r → by_value hash found (value_of ts) ≡ by_replaced value_of hash found r
replaced-fine value_of hash found ts (fine items) h =
    let e : ts ≡ map (λ item. item.token) items = cc in
    ap (λ us. by_value hash found (value_of us)) e
replaced-fine value_of hash found ts (bad_call name) h = cc

pub replaced-bad : (value_of : List PlainToken → Option ℤ) (hash : PlainToken) (found : Option Refusal) (name : PlainToken) (r : Replaced) → refused name ≡ outcome r → fails (earlier found (refusal_at bad_call_kind name)) ≡ by_replaced value_of hash found r
replaced-bad value_of hash found name (fine items) h = cc
replaced-bad value_of hash found name (bad_call call) h =
    let e : name ≡ call = cc in
    ap (λ n. fails (earlier found (refusal_at bad_call_kind n))) e

is-number : (v : Value) (z : ℤ) → number_in v ≡ Some z → v ≡ Number z
is-number (Number n) z h = cc
is-number Refused z h = cc

pub number-is : (ts : List PlainToken) (v : Value) → ((z : ℤ) → (v ≡ Number z) ↔ HasValue ts z) → (z : ℤ) → (number_in v ≡ Some z) ↔ HasValue ts z
number-is ts v h z = (λ e. (h z).0 (is-number v z e), λ has. ap number_in ((h z).1 has))
