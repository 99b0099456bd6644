-- What names of file scope stand for as a configuration sees it, and whether declarations of a name agree for linking (ISO/IEC 9899:2011, 6.2.7).
use Rattle.std.specs.Prelude.{ℕ, Bool}
use Rattle.core_meaning.specs.Linking.{SortsAgree}
use Rattle.type_tables.specs.Tables.{Sort, sort_in}
use Rattle.type_tables.specs.Seen.{seen_tables}
use Rattle.type_tables.specs.declared.tables.Tables.{Tables}
use Rattle.cond_compatible.specs.SeenTags.{tags_seen}

abbrev pub SeenSortsAgree : (ℕ → Bool) → Tables → Sort → Sort → Type 0
SeenSortsAgree on tables a b = SortsAgree (tags_seen on tables) (sort_in (seen_tables on tables).signatures a) (sort_in (seen_tables on tables).signatures b)
