-- What an initialiser gives, without pointers and room in memory.
use Rattle.c_text.specs.Token.{plain_token}
use Rattle.core_meaning.specs.Plain.{path_from, plain_expression}
use Rattle.core_meaning.specs.Constancy as constancy
use Rattle.plain_declarations.specs.declared.initialisers.Initial.{Initial}

abbrev pub plain_initial : Initial → constancy.Initial
plain_initial x = record { path = path_from x.path.items; value = plain_expression x.value; first = plain_token x.first.now }
