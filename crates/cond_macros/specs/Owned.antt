-- Items that copy one token, whatever the configuration, and that no call has brought.
use Rattle.std.specs.Prelude.{◌≡◌, ℕ, Bool, ⊤, List, [], ◌∷◌}
use Rattle.c_text.specs.Token.{plain_token}
use Rattle.conditional.specs.declared.entries.Guarded.{Guarded}
use Rattle.cond_bodies.specs.declared.item.Item.{Item}
use Rattle.cond_bodies.specs.CondItems.{item_at}

pub record IsOwn (item : Item) : Type 0 where
  pub token : (on : ℕ → Bool) → (item_at on item).token ≡ plain_token item.token.now

abbrev pub AreOwn : List (Guarded Item) → Type 0
AreOwn [] = ⊤
AreOwn (entry ∷ entries) = IsOwn entry.what × AreOwn entries
