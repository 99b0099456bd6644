-- What an `#include` finds in all configurations.
use Rattle.std.specs.Prelude.{◌≡◌, not, ◌&&◌, map, Option, Some, None, is_some, if◌then◌else◌}
use Rattle.std.specs.String.{string_bytes}
use Rattle.c_text.specs.Directives.{PlainDirective, include_line}
use Rattle.c_text.specs.Preprocessing as spec
use Rattle.c_text.specs.Preprocessing.{Reading, Flow}
use Rattle.unit_files.specs.declared.surroundings.Surroundings.{Surroundings}
use Rattle.unit_files.specs.Settings.{entered}
use Rattle.cond_readings.specs.Readings.{came_to}

-- the file that an `#include` line names, where files may be read and no token of the line refuses; the same in all configurations
abbrev pub named_by : Surroundings → PlainDirective → Option spec.Source
named_by place (include_line names) =
    if place.may_include && not (is_some (spec.refused_token names))
    then spec.source_of (map string_bytes place.headers.now) place.name.now names else None
named_by place other = None

-- an `#include` finds what is read next, or is refused
abbrev pub IsFound : Option (spec.Source → Reading → Flow) → Option spec.Source → Flow → Reading → Type 0
IsFound deeper None flow r = came_to flow ≡ None
IsFound deeper (Some source) flow r = flow ≡ entered deeper (Some source) r
