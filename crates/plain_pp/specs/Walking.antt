-- What the calls of a walk make of it.
use Rattle.std.specs.Prelude.{◌≡◌, Bool, true, false, map, Option, option_map, Result, Ok, Err}
use Rattle.c_text.specs.Token.{plain_token}
use Rattle.c_text.specs.Preprocessing as spec
use Rattle.c_text.specs.Preprocessing.{Flow, refused, then_read}
use Rattle.plain_pp.specs.declared.groups.Level.{Level}
use Rattle.plain_pp.specs.declared.groups.Level.TheVariants.{Reads, Waits}
use Rattle.unit_files.specs.declared.inclusions.Source.{Source}
use Rattle.plain_pp.specs.declared.errors.PpError.{PpError}
use Rattle.plain_pp.specs.declared.walk.Walker.{Walker}
use Rattle.unit_files.specs.Inclusions.{plain_source}
use Rattle.plain_pp.specs.Results.{Says}
use Rattle.unit_files.specs.Settings.{entered}
use Rattle.file_walks.specs.Walk.{Walk}

-- what is done with a branch by its condition, where none was read before
abbrev pub level_if : Bool → Level
level_if true = Reads
level_if false = Waits

abbrev pub plain_walk : spec.Reading → Walker → Walk
plain_walk r w = record { reading = r; run = map (λ t. plain_token t.now) w.run.items; groups = w.groups }

-- the call goes on with this flow, or finds out why it is refused
abbrev pub Steps : {X : Type 0} → Result X PpError → Flow → Flow → Type 0
Steps (Ok x) flow after = flow ≡ after
Steps (Err e) flow after = Says e (λ why. flow ≡ refused why)

-- the same, where a file may have to be read before the walk goes on
abbrev pub Enters : Result (Option Source) PpError → Flow → Option (spec.Source → spec.Reading → Flow) → Walk → (Walk → Flow) → Type 0
Enters (Ok source) flow deeper w next =
    flow ≡ then_read (entered deeper (option_map plain_source source) w.reading) (λ after. next (record w { reading = after }))
Enters (Err e) flow deeper w next = Says e (λ why. flow ≡ refused why)
