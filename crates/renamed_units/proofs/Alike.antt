-- When two readings are alike: one of a project, and one of the project with names renamed in its files. Tokens stand where the
-- renaming moves them, and a renamed one has the new name, which is no macro where it is read, and neither is the old one.
use Rattle.std.specs.Prelude.{◌≡◌, ⊤, ℕ, Bool, true, false, List, map, Option, Some, None, IsTrue, codes}
use Rattle.std.specs.List.{AllByRecursion, list_any}
use Rattle.std.specs.Str.{bytes_eq}
use Rattle.text_edits.specs.Span.{PlainSpan}
use Rattle.c_text.specs.declared.token.TokenKind.{TokenKind}
use Rattle.c_text.specs.declared.token.TokenKind.TheVariants.{Name}
use Rattle.c_text.specs.Token.{PlainToken}
use Rattle.c_text.specs.Directives.{predefined_names}
use Rattle.c_text.specs.Macros.{Meaning, feature, object, function, Table, Item}
use Rattle.c_text.specs.Preprocessing.{Reading, Flow, on, refused}
use Rattle.renamings.specs.Renamings.{Renaming, is_renamed, moved_span, renamed_token}
use Rattle.renamed_units.specs.Renamed.{moved_refusal}
use Rattle.renamed_units.specs.Pairs.{Pairs}

-- a word that is no punctuator of macro calls
pub record IsOrdinary (word : List ℕ) : Type 0 where
  pub opens : bytes_eq word (codes "(") ≡ false
  pub closes : bytes_eq word (codes ")") ≡ false
  pub divides : bytes_eq word (codes ",") ≡ false

module _ (r : Renaming) where
  -- the texts of a token before and after, by its kind, its file and its span, where these macros are defined before; it is renamed
  -- only where it may be
  pub data SameText (May : Type 0) (table : Table) (kind : TokenKind) (file : ℕ) (span : PlainSpan) (old new : List ℕ) : Type 0 where
    stays : is_renamed r file span ≡ false → new ≡ old → SameText May table kind file span old new
    changes :
        May → is_renamed r file span ≡ true → kind ≡ Name → old ≡ r.old → new ≡ r.new → table r.old ≡ None → table r.new ≡ None
        → IsOrdinary r.old → IsOrdinary r.new → list_any (bytes_eq r.old) predefined_names ≡ false → list_any (bytes_eq r.new) predefined_names ≡ false
        → SameText May table kind file span old new

  pub record AreAlike (May : Type 0) (table : Table) (a b : PlainToken) : Type 0 where
    pub kind : b.kind ≡ a.kind
    pub text : SameText May table a.kind a.origin.file a.origin.span a.text b.text
    pub joined : b.joined ≡ a.joined
    pub file : b.origin.file ≡ a.origin.file
    pub span : b.origin.span ≡ moved_span r a.origin.file a.origin.span
    pub place : b.origin.place ≡ a.origin.place

  pub record SameSite (a b : PlainToken) : Type 0 where
    pub file : b.origin.site_file ≡ a.origin.site_file
    pub span : b.origin.site ≡ moved_span r a.origin.site_file a.origin.site

  -- items, with their sites where these are told
  pub record AlikeItems (May : Type 0) (table : Table) (told : Bool) (a b : Item) : Type 0 where
    pub token : AreAlike May table a.token b.token
    pub kept : b.kept ≡ a.kept
    pub site : IsTrue told → SameSite a.token b.token

  -- a token that isn't renamed
  pub record OnlyMoved (a b : PlainToken) : Type 0 where
    pub kind : b.kind ≡ a.kind
    pub untouched : is_renamed r a.origin.file a.origin.span ≡ false
    pub text : b.text ≡ a.text
    pub joined : b.joined ≡ a.joined
    pub file : b.origin.file ≡ a.origin.file
    pub span : b.origin.span ≡ moved_span r a.origin.file a.origin.span
    pub place : b.origin.place ≡ a.origin.place

  abbrev pub AlikeMeanings : Meaning → Meaning → Type 0
  AlikeMeanings (feature a) (feature b) = OnlyMoved a b
  AlikeMeanings (object a) (object b) = Pairs OnlyMoved a b
  AlikeMeanings (function ps a) (function qs b) = (qs ≡ ps) × Pairs OnlyMoved a b
  AlikeMeanings other another = ⊥

  abbrev pub AlikeFound : Option Meaning → Option Meaning → Type 0
  AlikeFound None None = ⊤
  AlikeFound None (Some b) = ⊥
  AlikeFound (Some a) None = ⊥
  AlikeFound (Some a) (Some b) = AlikeMeanings a b

  -- no token of a macro is renamed
  abbrev pub AlikeTables : Table → Table → Type 0
  AlikeTables a b = (name : List ℕ) → AlikeFound (a name) (b name)

  -- the token is a name, if it is a copy of a renamed one
  abbrev pub IsNamed : PlainToken → Type 0
  IsNamed a = is_renamed r a.origin.file a.origin.span ≡ true → a.kind ≡ Name

  -- readings that are alike have given the same tokens, but for their names and places; only names among them are renamed
  pub record AlikeReadings (a b : Reading) : Type 0 where
    pub tables : AlikeTables a.table b.table
    pub tokens : b.tokens ≡ map (renamed_token r) a.tokens
    pub names : AllByRecursion IsNamed a.tokens

  abbrev pub AlikeFlows : Flow → Flow → Type 0
  AlikeFlows (on a) (on b) = AlikeReadings a b
  AlikeFlows (on a) (refused w) = ⊥
  AlikeFlows (refused v) (on b) = ⊥
  AlikeFlows (refused v) (refused w) = w ≡ moved_refusal r v
