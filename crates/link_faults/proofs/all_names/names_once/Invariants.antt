use Rattle.std.proofs.Common.{◌≡◌, ℕ, List, ◌||◌, drop}
use Rattle.std.specs.List.{list_any}
use Rattle.std.specs.Str.{bytes_eq}
use Rattle.link_faults.specs.Mentioned.{is_mentioned}
use Rattle.link_faults.proofs.all_names.names_once.Given as goal

abbrev pub invariant-loop-left : goal.invariant-loop-left
invariant-loop-left l = (name : List ℕ) → (list_any (bytes_eq name) l.names || list_any (is_mentioned name) (drop l.left-index l.units)) ≡ list_any (is_mentioned name) l.units
