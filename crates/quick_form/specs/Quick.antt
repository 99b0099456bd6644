-- What `quick` takes, and what it promises.
use Rattle.std.specs.Prelude.{◌≡◌, ◌↔◌, ℕ, Bool, true, false, List, map}
use Rattle.std.specs.List.{list_any}
use Rattle.std.specs.Str.{bytes_eq}
use Rattle.quick_form.specs.Words.{is_name}
use Rattle.quick_form.specs.Symbols.{symbols_of, tested_names, uses, mentions}
use Rattle.quick_form.specs.Form.{Items, Reads, IsForm, declared_names}
use Rattle.quick_form.specs.Renaming.{renamed_bytes, renamed_symbol, renamed_items}
use Rattle.quick_form.specs.Program.{program, IsAccepted}
use Rattle.quick_form.specs.Run.{run}

-- `quick` takes a file that is of the form, has no name new and no tested name outside directive lines, and declares old.
pub record Takes (old new bytes : List ℕ) : Type 0 where
  pub form : IsForm bytes
  pub unused : list_any (mentions new) (symbols_of bytes) ≡ false
  pub apart : list_any (λ n. list_any (uses n) (symbols_of bytes)) (tested_names (symbols_of bytes)) ≡ false
  pub declared : list_any (bytes_eq old) (declared_names form.written.items) ≡ true

-- a configuration accepts a file that reads as items whose program is accepted
pub record Accepts (on : List ℕ → Bool) (bytes : List ℕ) : Type 0 where
  pub items : Items
  pub reads : Reads bytes items
  pub accepted : IsAccepted (program on items)

-- In every configuration both files are accepted or none is, and where they are, both runs give the same answer.
pub record KeepsBehaviour (before after : List ℕ) : Type 0 where
  pub acceptance : (on : List ℕ → Bool) → Accepts on before ↔ Accepts on after
  pub runs : (on : List ℕ → Bool) (items items' : Items) → Reads before items → Reads after items'
      → IsAccepted (program on items) → (input : List ℕ) (bound : ℕ)
      → run (program on items') input bound ≡ run (program on items) input bound

-- LAWS, each the contract of a function of this crate

-- a file reads as one list of items at most
abbrev pub OneReading : Type 0
OneReading = (bytes : List ℕ) (a b : Items) → Reads bytes a → Reads bytes b → a ≡ b

-- the renamed file spells the renamed symbols
abbrev pub RenamedSymbols : Type 0
RenamedSymbols =
    (old new bytes : List ℕ) → is_name old ≡ true → is_name new ≡ true
    → symbols_of (renamed_bytes old new bytes) ≡ map (renamed_symbol old new) (symbols_of bytes)

-- the renamed file reads as the renamed items
abbrev pub RenamedReads : Type 0
RenamedReads =
    (old new bytes : List ℕ) (items : Items) → is_name old ≡ true → is_name new ≡ true
    → Reads bytes items → Reads (renamed_bytes old new bytes) (renamed_items old new items)

-- what `quick` takes, renamed, behaves as before
abbrev pub RenamingKeepsBehaviour : Type 0
RenamingKeepsBehaviour =
    (old new bytes : List ℕ) → is_name new ≡ true → Takes old new bytes → KeepsBehaviour bytes (renamed_bytes old new bytes)
