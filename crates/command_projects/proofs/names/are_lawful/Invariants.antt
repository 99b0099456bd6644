use Rattle.std.proofs.Common.{◌≡◌, map, drop}
use Rattle.std.specs.List.{list_all}
use Rattle.c_names.specs.Names.{is_new_name}
use Rattle.command_projects.proofs.names.are_lawful.Given as goal

abbrev pub invariant-loop-name : goal.invariant-loop-name
invariant-loop-name l =
    list_all is_new_name (map (λ n. n.items) (drop l.name-index l.names)) ≡ list_all is_new_name (map (λ n. n.items) l.names)
