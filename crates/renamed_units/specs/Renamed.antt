-- What a renaming makes of the sources of a project, and of what becomes of a unit.
use Rattle.std.specs.Prelude.{map}
use Rattle.c_text.specs.Preprocessing.{Refusal, Sources, Outcome, gives, is_refused}
use Rattle.renamings.specs.Renamings.{Renaming, moved_span, renamed_files, renamed_token}

-- a project with its files renamed
abbrev pub renamed_sources : Renaming → Sources → Sources
renamed_sources r s = record s { files = renamed_files r 0 s.files }

-- a refusal in its new place
abbrev pub moved_refusal : Renaming → Refusal → Refusal
moved_refusal r why = record why { span = moved_span r why.file why.span }

abbrev pub renamed_outcome : Renaming → Outcome → Outcome
renamed_outcome r (gives tokens) = gives (map (renamed_token r) tokens)
renamed_outcome r (is_refused why) = is_refused (moved_refusal r why)
