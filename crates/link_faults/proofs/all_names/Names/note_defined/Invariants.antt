use Rattle.std.proofs.Common.{◌≡◌, ℕ, List, ◌||◌, drop}
use Rattle.std.specs.List.{list_any}
use Rattle.std.specs.Str.{bytes_eq}
use Rattle.link_faults.specs.Mentioned.{is_defined}
use Rattle.link_faults.proofs.all_names.Names.note_defined.Given as goal

abbrev pub invariant-loop-entry : goal.invariant-loop-entry
invariant-loop-entry l = (name : List ℕ) → (list_any (bytes_eq name) l.self || is_defined name (drop l.entry-index l.entries)) ≡ (list_any (bytes_eq name) l.fn.self || is_defined name l.entries)
