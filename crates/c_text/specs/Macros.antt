-- Macro replacement (ISO/IEC 9899:2011, 6.10.3): a recursion over lists of tokens, with the names that are active, which are not
-- replaced again.
use Rattle.std.specs.Prelude.{ℕ, zero, suc, ◌-◌, ◌==◌, Bool, true, false, not, ◌&&◌, List, [], ◌∷◌, ◌++◌, map, length, codes, if◌then◌else◌, Option, Some, None}
use Rattle.std.specs.List.{list_any, flat_map}
use Rattle.std.specs.Str.{bytes_eq}
use Rattle.c_text.specs.declared.origin.Place.{Place}
use Rattle.c_text.specs.declared.origin.Place.TheVariants as place
use Rattle.c_text.specs.declared.token.TokenKind.{TokenKind}
use Rattle.c_text.specs.declared.token.TokenKind.TheVariants.{Name}
use Rattle.c_text.specs.Token.{PlainToken}
use Rattle.c_text.specs.Directives.{is_spelled, is_word}

-- what a name stands for
pub data Meaning : Type 0 where
  -- a feature that is on: the one token that replaces it
  feature : PlainToken → Meaning
  object : List PlainToken → Meaning
  function : List (List ℕ) → List PlainToken → Meaning

-- the macros that are defined, by their names
abbrev pub Table : Type 0
Table = List ℕ → Option Meaning

-- a token while it is replaced; a name that was kept because it was active is kept for good
pub record Item : Type 0 where
  pub token : PlainToken
  pub kept : Bool

abbrev pub fresh : PlainToken → Item
fresh token = record { token = token; kept = false }

abbrev pub is_name_kind : TokenKind → Bool
is_name_kind Name = true
is_name_kind other = false

abbrev pub is_named_in : List (List ℕ) → PlainToken → Bool
is_named_in names token = list_any (bytes_eq token.text) names

-- what an item is to be replaced by: a name that is active, or was, has no meaning here
abbrev pub meaning_of : Table → Item → Option Meaning
meaning_of table item = if is_name_kind item.token.kind && not item.kept then table item.token.text else None

-- the items that replaced a list, or the name of the outermost call that is refused
pub data Replaced : Type 0 where
  fine : List Item → Replaced
  bad_call : PlainToken → Replaced

abbrev pub before : List Item → Replaced → Replaced
before items (fine others) = fine (items ++ others)
before items (bad_call name) = bad_call name

-- a call that gives nothing is refused
abbrev pub call_then : PlainToken → Option (List Item) → Replaced → Replaced
call_then name None others = bad_call name
call_then name (Some items) others = before items others

abbrev pub unless_bad : Replaced → Option (List Item)
unless_bad (fine items) = Some items
unless_bad (bad_call name) = None

abbrev pub in_call : Place → Place
in_call place.Text = place.MacroArgument
in_call place.MacroArgument = place.MacroArgument
in_call place.MacroBody = place.MacroBody

-- an item that a call brings, which begins with one token and ends with another
abbrev pub brought : PlainToken → PlainToken → Item → Item
brought first last item = record item {
  token = record item.token {
    origin = record item.token.origin {
      place = in_call item.token.origin.place;
      site = record { start = first.origin.span.start; end = last.origin.span.end };
      site_file = first.origin.file;
    };
  };
}

-- a function-like macro's name that may still be replaced
abbrev pub is_function : Option Meaning → Bool
is_function (Some (function params body)) = true
is_function other = false

abbrev pub ends_in_function : Table → List Item → Bool
ends_in_function table [] = false
ends_in_function table (item ∷ []) = is_function (meaning_of table item)
ends_in_function table (first ∷ second ∷ rest) = ends_in_function table (second ∷ rest)

-- A replacement must not end in a function-like macro's name that may still be replaced: only the tokens after it could complete its call.
abbrev pub unless_left_open : Table → PlainToken → PlainToken → Option (List Item) → Option (List Item)
unless_left_open table first last None = None
unless_left_open table first last (Some items) =
    if ends_in_function table items then None else Some (map (brought first last) items)

-- the list of a body or an argument, one deeper, with names that are active
abbrev pub Deeper : Type 0
Deeper = List (List ℕ) → List Item → Option (List Item)

-- what replaces a name whose replacement is this body, when it is replaced in its turn
abbrev pub replacement : Table → Deeper → List (List ℕ) → PlainToken → PlainToken → List Item → Option (List Item)
replacement table deeper active first last body = unless_left_open table first last (deeper (first.text ∷ active) body)

-- the arguments of a call, of which the last is being read, and how many of its parentheses are open: none yet before its first
pub record Call : Type 0 where
  pub name : PlainToken
  pub params : List (List ℕ)
  pub body : List PlainToken
  pub arguments : List (List Item)
  pub last : List Item
  pub nested : ℕ

abbrev pub begun : PlainToken → List (List ℕ) → List PlainToken → Call
begun name params body =
    record { name = name; params = params; body = body; arguments = []; last = []; nested = 0 }

-- how a call goes on behind its next item, or ends with it
pub data Progress : Type 0 where
  goes_on : Call → Progress
  ends : Progress

abbrev pub with_item : Call → Item → Call
with_item call item = record call { last = call.last ++ item ∷ [] }

abbrev pub next_argument : Call → Call
next_argument call = record call { arguments = call.arguments ++ call.last ∷ []; last = [] }

abbrev pub opening : Call → Item → ℕ → Call
opening call item zero = record call { nested = 1 }
opening call item (suc nested) = record (with_item call item) { nested = suc (suc nested) }

abbrev pub closing : Call → Item → ℕ → Progress
closing call item (suc (suc nested)) = goes_on (record (with_item call item) { nested = suc nested })
closing call item outermost = ends

abbrev pub progress : Call → Item → Progress
progress call item =
    if is_spelled (codes ")") item.token then closing call item call.nested
    else if is_spelled (codes "(") item.token then goes_on (opening call item call.nested)
    else if is_spelled (codes ",") item.token && call.nested == 1 then goes_on (next_argument call)
    else goes_on (with_item call item)

abbrev pub all_arguments : Call → List (List Item)
all_arguments call = call.arguments ++ call.last ∷ []

-- as many arguments as parameters; where there is no parameter, one empty argument is none
abbrev pub fits : List (List ℕ) → List (List Item) → Bool
fits [] ([] ∷ []) = true
fits params arguments = length params == length arguments

-- each argument replaced by itself, or nothing where a call in one is refused
abbrev pub and_then : Option (List Item) → Option (List (List Item)) → Option (List (List Item))
and_then (Some items) (Some others) = Some (items ∷ others)
and_then None others = None
and_then (Some items) None = None

abbrev pub all_replaced : Deeper → List (List ℕ) → List (List Item) → Option (List (List Item))
all_replaced deeper active [] = Some []
all_replaced deeper active (argument ∷ arguments) =
    and_then (deeper active argument) (all_replaced deeper active arguments)

-- a body's token: a parameter's argument, or itself
abbrev pub substituted_for : List (List ℕ) → List (List Item) → PlainToken → List Item
substituted_for [] arguments token = fresh token ∷ []
substituted_for (param ∷ params) [] token = fresh token ∷ []
substituted_for (param ∷ params) (argument ∷ arguments) token =
    if is_word token && is_spelled param token then argument else substituted_for params arguments token

abbrev pub substituted : List (List ℕ) → List (List Item) → List PlainToken → List Item
substituted params arguments body = flat_map (substituted_for params arguments) body

abbrev pub body_replacement : Table → Deeper → List (List ℕ) → Call → PlainToken → Option (List (List Item)) → Option (List Item)
body_replacement table deeper active call last None = None
body_replacement table deeper active call last (Some arguments) =
    replacement table deeper active call.name last (substituted call.params arguments call.body)

-- what replaces a call that ends with this token
abbrev pub call_replacement : Table → Deeper → List (List ℕ) → Call → PlainToken → Option (List Item)
call_replacement table deeper active call last =
    if fits call.params (all_arguments call)
    then body_replacement table deeper active call last (all_replaced deeper active (all_arguments call)) else None

-- what is done with an item outside calls: its treatment
pub data Treatment : Type 0 where
  stays : Item → Treatment
  is_feature : PlainToken → Treatment
  is_object : List PlainToken → Treatment
  is_call : List (List ℕ) → List PlainToken → Treatment

abbrev pub opens : List Item → Bool
opens [] = false
opens (next ∷ rest) = is_spelled (codes "(") next.token

abbrev pub treatment : Item → Bool → Bool → Option Meaning → Treatment
treatment item is_active next_opens None = stays item
treatment item true next_opens (Some meaning) = stays (record item { kept = true })
treatment item false next_opens (Some (feature one)) = is_feature one
treatment item false next_opens (Some (object body)) = is_object body
treatment item false true (Some (function params body)) = is_call params body
treatment item false false (Some (function params body)) = stays item

abbrev pub treatment_of : Table → List (List ℕ) → Item → List Item → Treatment
treatment_of table active item rest =
    treatment item (is_named_in active item.token) (opens rest) (meaning_of table item)

module _ (table : Table) (deeper : Deeper) (active : List (List ℕ)) where
  abbrev pub treated : Item → Treatment → Replaced → (Call → Replaced) → Replaced
  treated item (stays kept) others calls = before (kept ∷ []) others
  treated item (is_feature one) others calls = before (brought item.token item.token (fresh one) ∷ []) others
  treated item (is_object body) others calls =
      call_then item.token (replacement table deeper active item.token item.token (map fresh body)) others
  treated item (is_call params body) others calls = calls (begun item.token params body)

  abbrev pub progressed : Call → Item → Progress → Replaced → (Call → Replaced) → Replaced
  progressed call item ends others goes = call_then call.name (call_replacement table deeper active call item.token) others
  progressed call item (goes_on next) others goes = goes next

  abbrev mutual
    -- a list from left to right
    pub outside : List Item → Replaced
    outside [] = fine []
    outside (item ∷ rest) = treated item (treatment_of table active item rest) (outside rest) (λ call. inside call rest)

    -- what stands behind the name of a call
    pub inside : Call → List Item → Replaced
    inside call [] = bad_call call.name
    inside call (item ∷ rest) = progressed call item (progress call item) (outside rest) (λ next. inside next rest)

-- A list so many levels above the deepest, in which no macro but a feature may be replaced: a list of depth d is read at level
-- `deepest - d`.
abbrev pub level : Table → ℕ → List (List ℕ) → List Item → Option (List Item)
level table zero active items = unless_bad (outside table (λ names list. None) active items)
level table (suc deeper) active items = unless_bad (outside table (level table deeper) active items)

-- the depth at which a macro's name is refused
abbrev pub deepest : ℕ
deepest = 256

-- An outermost list, or that of an expression.
abbrev pub replaced : Table → List PlainToken → Replaced
replaced table tokens = outside table (level table (deepest - 1)) [] (map fresh tokens)
