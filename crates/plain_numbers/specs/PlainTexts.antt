-- Texts with their numbers, without pointers, room in memory and the order of maps.
use Rattle.std.specs.Prelude.{◌≡◌, ℕ, List, map, Vec}
use Rattle.std.specs.Str.{bytes_eq}
use Rattle.std.specs.declared.alloc.Global.{Global}
use Rattle.core_meaning.specs.Linking.{place_where}
use Rattle.plain_scope.specs.PlainScope.{entry_of}
use Rattle.plain_numbers.specs.declared.texts.Texts.{Texts}

abbrev pub plain_texts : Texts → List (List ℕ)
plain_texts texts = map (λ (bytes : Vec ℕ Global). bytes.items) texts.list.items

-- the map has the place of each text in the list
abbrev pub AreNumbered : Texts → Type 0
AreNumbered texts = (bytes : List ℕ) → entry_of texts.numbers bytes ≡ place_where (bytes_eq bytes) (plain_texts texts)
