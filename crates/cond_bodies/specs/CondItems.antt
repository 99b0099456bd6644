-- What is seen of items under conditions: items of the recursion of macro replacement.
use Rattle.std.specs.Prelude.{ℕ, Bool, true, false, List, Option, Some, None}
use Rattle.c_text.specs.Token.{PlainToken, plain_token}
use Rattle.c_text.specs.Macros as spec
use Rattle.conditional.specs.declared.entries.Guarded.{Guarded}
use Rattle.conditional.specs.Entries.{entries_of, first, seen}
use Rattle.cond_bodies.specs.declared.item.Item.{Item}
use Rattle.cond_bodies.specs.declared.item.Site.{Site}

abbrev pub or_token : PlainToken → Option PlainToken → PlainToken
or_token token None = token
or_token token (Some other) = other

-- the token that an item copies
abbrev pub source_at : (ℕ → Bool) → Item → PlainToken
source_at on item = or_token (plain_token item.token.now) (first (seen on (entries_of (λ t. plain_token t.now) item.others.items)))

abbrev pub place_of : Bool → PlainToken → PlainToken
place_of true token = record token { origin = record token.origin { place = spec.in_call token.origin.place } }
place_of false token = token

abbrev pub with_site : Site → PlainToken → PlainToken
with_site site token = record token { origin = record token.origin { site = record { start = site.start; end = site.end }; site_file = site.file } }

-- a token as an item that copies it has it
abbrev pub token_like : Item → PlainToken → PlainToken
token_like item token = with_site item.site (place_of item.called token)

-- the item of a configuration
unfoldable pub item_at : (ℕ → Bool) → Item → spec.Item
item_at on item = record { token = token_like item (source_at on item); kept = item.kept }

-- the items that are present
abbrev pub items_at : (ℕ → Bool) → List (Guarded Item) → List spec.Item
items_at on items = seen on (entries_of (item_at on) items)
