-- Kind and bytes of an item.
use Rattle.std.proofs.Common.{◌≡◌, ℕ, Bool, true, false, not, ◌&&◌, refl, sym, ap, ◌∙◌}
use Rattle.c_text.specs.Token.{PlainToken, plain_token}
use Rattle.conditional.specs.Entries.{entries_of}
use Rattle.cond_bodies.specs.declared.item.Item.{Item}
use Rattle.cond_bodies.specs.Spellings.{Spelling}
use Rattle.cond_bodies.specs.CondItems.{item_at, place_of, source_at}
use Rattle.cond_bodies.proofs.ItemLemmas.{source_spelled}

place_kind : (called : Bool) (token : PlainToken) → (place_of called token).kind ≡ token.kind
place_kind true token = refl
place_kind false token = refl

place_text : (called : Bool) (token : PlainToken) → (place_of called token).text ≡ token.text
place_text true token = refl
place_text false token = refl

pub item_kind : (on : ℕ → Bool) (item : Item) → (item_at on item).token.kind ≡ item.token.now.kind
unfolding item_at
item_kind on item =
    place_kind item.called (source_at on item)
    ∙ ap (λ (s : Spelling). s.kind) (source_spelled (plain_token item.token.now) on (entries_of (λ t. plain_token t.now) item.others.items) item.alike)

pub item_text : (on : ℕ → Bool) (item : Item) → (item_at on item).token.text ≡ item.token.now.text.items
unfolding item_at
item_text on item =
    place_text item.called (source_at on item)
    ∙ ap (λ (s : Spelling). s.text) (source_spelled (plain_token item.token.now) on (entries_of (λ t. plain_token t.now) item.others.items) item.alike)

pub kept_is_none : (a k : Bool) → k ≡ true → false ≡ (a && not k)
kept_is_none true k is = ap not (sym is)
kept_is_none false k is = refl

pub not_kept : (a b k : Bool) → k ≡ false → b ≡ a → b ≡ (a && not k)
not_kept true b k is e = e ∙ ap not (sym is)
not_kept false b k is e = e
