use Rattle.std.proofs.Common.{◌≡◌, ◌++◌, map, drop}
use Rattle.c_text.specs.Token.{plain_token}
use Rattle.c_types.specs.Types.{plain_type}
use Rattle.core_meaning.specs.Plain.{path_from}
use Rattle.core_meaning.specs.Constancy.{text_parts}
use Rattle.plain_declarations.specs.PlainDeclared.{plain_initial}
use Rattle.plain_declarations.proofs.initialisers.text_parts.Given as goal

abbrev pub invariant-loop-number : goal.invariant-loop-number
invariant-loop-number l =
    map plain_initial l.parts.items ++ text_parts (plain_type l.element) (path_from l.path) l.number (drop l.number l.bytes) (plain_token l.first)
    ≡ text_parts (plain_type l.element) (path_from l.path) 0 l.bytes (plain_token l.first)
