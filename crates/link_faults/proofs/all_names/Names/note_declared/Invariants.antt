use Rattle.std.proofs.Common.{◌≡◌, ℕ, List, ◌||◌, drop}
use Rattle.std.specs.List.{list_any}
use Rattle.std.specs.Str.{bytes_eq}
use Rattle.link_faults.specs.Mentioned.{is_declared}
use Rattle.link_faults.proofs.all_names.Names.note_declared.Given as goal

abbrev pub invariant-loop-n : goal.invariant-loop-n
invariant-loop-n l = (name : List ℕ) → (list_any (bytes_eq name) l.self || is_declared name (drop l.n-index l.names)) ≡ (list_any (bytes_eq name) l.fn.self || is_declared name l.names)
