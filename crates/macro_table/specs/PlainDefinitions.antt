use Rattle.c_text.specs.Directives.{PlainMacro}
use Rattle.c_text.specs.PlainMacros.{plain_macro}
use Rattle.macro_table.specs.declared.definitions.Definition.{Definition}

-- a definition's macro, with its bytes and its tokens as lists
abbrev pub plain_definition : Definition → PlainMacro
plain_definition definition = plain_macro definition.given
