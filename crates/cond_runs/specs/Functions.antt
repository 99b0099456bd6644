-- The function of a call: where the call is open, exactly one of its functions holds.
use Rattle.std.specs.Prelude.{Bool, true, false, List, [], ◌∷◌}
use Rattle.c_text.specs.Token.{PlainToken}
use Rattle.c_text.specs.Macros as spec
use Rattle.cond_bodies.specs.CondMeanings.{PlainFunction}

abbrev pub is_single : List PlainFunction → Bool
is_single (function ∷ []) = true
is_single other = false

abbrev pub or_function : List PlainFunction → PlainFunction
or_function [] = record { params = []; body = [] }
or_function (function ∷ functions) = function

abbrev pub some_seen : List PlainFunction → Bool
some_seen [] = false
some_seen (function ∷ functions) = true

abbrev pub without_params : List PlainToken → PlainFunction
without_params body = record { params = []; body = body }

-- a name that is kept for good if it is a macro's
abbrev pub kept_item : Bool → spec.Item → spec.Item
kept_item true item = record item { kept = true }
kept_item false item = item
