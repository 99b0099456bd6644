-- Where a reading stands, and what a call makes of it.
use Rattle.std.specs.Prelude.{◌≡◌, map, Option, Result, Ok, Err, option_map}
use Rattle.c_text.specs.Token.{plain_token}
use Rattle.c_text.specs.Preprocessing as spec
use Rattle.c_text.specs.Preprocessing.{Flow, on, refused}
use Rattle.plain_macros.specs.PlainTables.{table_of}
use Rattle.unit_files.specs.declared.inclusions.Source.{Source}
use Rattle.plain_pp.specs.declared.readings.Reading.{Reading}
use Rattle.plain_pp.specs.declared.errors.PpError.{PpError}
use Rattle.unit_files.specs.Inclusions.{plain_source}
use Rattle.plain_pp.specs.Results.{Says}
use Rattle.unit_files.specs.Settings.{entered}

abbrev pub plain_reading : Reading → spec.Reading
plain_reading r = record { table = table_of r.table; tokens = map plain_token r.tokens.items }

-- the call reads this and comes to this reading, or finds out why it is refused
abbrev pub Follows : {X : Type 0} → Result X PpError → Flow → spec.Reading → Type 0
Follows (Ok x) flow r = flow ≡ on r
Follows (Err e) flow r = Says e (λ why. flow ≡ refused why)

-- the same, where the call may leave it to its caller to read a file
abbrev pub Directs : Result (Option Source) PpError → Flow → Option (spec.Source → spec.Reading → Flow) → spec.Reading → Type 0
Directs (Ok source) flow deeper r = flow ≡ entered deeper (option_map plain_source source) r
Directs (Err e) flow deeper r = Says e (λ why. flow ≡ refused why)
