-- Lists of open groups, the innermost first, and the code's as these.
use Rattle.std.specs.Prelude.{Bool, List, [], ◌∷◌, Option, Some, None}
use Rattle.file_walks.specs.Walk.{Open, reads, waits, passed, skipped}
use Rattle.plain_pp.specs.declared.groups.Level.{Level}
use Rattle.plain_pp.specs.declared.groups.Level.TheVariants.{Reads, Waits, Passed, Skipped}
use Rattle.plain_pp.specs.declared.groups.Group.{Group}

abbrev pub open_at : Level → Bool → Open
open_at Reads last = reads last
open_at Waits last = waits last
open_at Passed last = passed last
open_at Skipped last = skipped last

abbrev pub plain_group : Group → Open
plain_group g = open_at g.level g.last

abbrev pub innermost : List Open → Option Open
innermost [] = None
innermost (group ∷ outer) = Some group

abbrev pub left : List Open → List Open
left [] = []
left (group ∷ outer) = outer
