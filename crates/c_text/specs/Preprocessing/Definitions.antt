-- What `#define` does to the table of macros (ISO/IEC 9899:2011, 6.10.3).
use Rattle.std.specs.Prelude.{if◌then◌else◌, ℕ, Bool, true, false, ◌&&◌, List, [], ◌∷◌, map, Option, Some, None}
use Rattle.std.specs.Str.{bytes_eq}
use Rattle.c_text.specs.Token.{PlainToken}
use Rattle.c_text.specs.Directives.{PlainMacro}
use Rattle.c_text.specs.Macros.{Table, Meaning, object, function}
use Rattle.c_text.specs.Preprocessing.Refusals.{Refusal, bad_macro, refusal_at}
use Rattle.c_text.specs.Preprocessing.Flows.{Flow, Reading, on, refused, unless}

abbrev pub meaning : PlainMacro → Option (List (List ℕ)) → Meaning
meaning m None = object m.body
meaning m (Some params) = function params m.body

abbrev pub put : Table → List ℕ → Option Meaning → Table
put table name entry other = if bytes_eq other name then entry else table other

abbrev pub same_texts : List (List ℕ) → List (List ℕ) → Bool
same_texts [] [] = true
same_texts [] (b ∷ bs) = false
same_texts (a ∷ as_) [] = false
same_texts (a ∷ as_) (b ∷ bs) = bytes_eq a b && same_texts as_ bs

abbrev pub texts : List PlainToken → List (List ℕ)
texts tokens = map (λ token. token.text) tokens

-- the same parameters, and bodies of the same spellings
abbrev pub same_meaning : Meaning → Meaning → Bool
same_meaning (object a) (object b) = same_texts (texts a) (texts b)
same_meaning (function ps a) (function qs b) = same_texts ps qs && same_texts (texts a) (texts b)
same_meaning other another = false

-- the first definition stays where the second is the same
abbrev pub redefined : Reading → PlainToken → Option Refusal → List ℕ → Option Meaning → Meaning → Flow
redefined r hash found name None new = unless found (on (record r { table = put r.table name (Some new) }))
redefined r hash found name (Some old) new =
    if same_meaning old new then unless found (on r) else refused (refusal_at bad_macro hash)
