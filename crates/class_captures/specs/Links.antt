-- Where the renaming of a class links declarations otherwise than before, by the names that a configuration sees tokens of files declare (ISO/IEC
-- 9899:2011, 6.2.2).
use Rattle.std.specs.Prelude.{◌≡◌, ℕ, ◌==◌, Bool, true, false, not, ◌&&◌, ◌⊎◌, List, IsTrue}
use Rattle.std.specs.List.{list_any}
use Rattle.std.specs.Str.{bytes_eq}
use Rattle.text_edits.specs.Span.{plain_span}
use Rattle.c_text.specs.declared.origin.FileToken.{FileToken}
use Rattle.core_meaning.specs.Linking.{built_in_named}
use Rattle.renamings.specs.Renamings.{same_span}
use Rattle.program_occurrences.specs.Occurrences.{CommonName, external_name}
use Rattle.program_occurrences.specs.Classes.{PlainFileToken}
use Rattle.told_ties.specs.Ties.{NamedToken}

-- it has external linkage
abbrev pub is_external : CommonName → Bool
is_external (external_name name) = true
is_external other = false

-- it is this name, with external linkage
abbrev pub is_external_name : List ℕ → CommonName → Bool
is_external_name new (external_name name) = bytes_eq name new
is_external_name new other = false

-- they are one token
abbrev pub is_same : PlainFileToken → FileToken → Bool
is_same token other = token.file == other.file && same_span token.span (plain_span other.span)

module _ (class : List FileToken) where
  -- the token is one of the class
  abbrev pub is_listed : PlainFileToken → Bool
  is_listed token = list_any (is_same token) class

  -- a token of the class declares a name with external linkage
  abbrev pub is_renamed : NamedToken → Bool
  is_renamed n = is_external n.name && is_listed n.token

  -- a token that isn't of the class declares the new name, with external linkage
  abbrev pub is_taken : List ℕ → NamedToken → Bool
  is_taken new n = is_external_name new n.name && not (is_listed n.token)

  -- A name with external linkage is renamed, and the new name is declared elsewhere, or isn't that of the same built-in function as the old one,
  -- or of none as the old one.
  pub record LinksOtherwise (old new : List ℕ) (seen : List NamedToken) : Type 0 where
    pub renamed : IsTrue (list_any is_renamed seen)
    pub otherwise : IsTrue (list_any (is_taken new) seen) ⊎ (built_in_named old ≡ built_in_named new → ⊥)
