use Rattle.std.proofs.Common.{◌≡◌, ℕ, List, ◌||◌, drop}
use Rattle.std.specs.List.{list_any}
use Rattle.std.specs.Str.{bytes_eq}
use Rattle.link_faults.specs.Mentioned.{is_used}
use Rattle.link_faults.proofs.all_names.Names.note_used.Given as goal

abbrev pub invariant-loop-found : goal.invariant-loop-found
invariant-loop-found l = (name : List ℕ) → (list_any (bytes_eq name) l.self || is_used name (drop l.found-index l.uses)) ≡ (list_any (bytes_eq name) l.fn.self || is_used name l.uses)
