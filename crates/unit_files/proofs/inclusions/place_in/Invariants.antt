use Rattle.std.proofs.Common.{◌≡◌, map, drop}
use Rattle.std.specs.String.{string_bytes}
use Rattle.c_text.specs.Preprocessing as spec
use Rattle.unit_files.proofs.inclusions.place_in.Given as goal

abbrev pub invariant-loop-i : goal.invariant-loop-i
invariant-loop-i l =
    spec.place_in (map string_bytes (drop l.i l.headers)) l.i l.name ≡ spec.place_in (map string_bytes l.headers) 0 l.name
