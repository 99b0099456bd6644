-- What a list of tokens gives in one configuration.
use Rattle.std.specs.Prelude.{Bool, true, false, List, [], map}
use Rattle.c_text.specs.Token.{PlainToken}
use Rattle.c_text.specs.Macros.{Replaced, fine, bad_call}

abbrev pub is_bad_call : Replaced → Bool
is_bad_call (fine items) = false
is_bad_call (bad_call name) = true

-- the tokens that replace a list; none where a call is refused
abbrev pub tokens_of : Replaced → List PlainToken
tokens_of (fine items) = map (λ item. item.token) items
tokens_of (bad_call name) = []
