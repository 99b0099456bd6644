use Rattle.std.specs.Prelude.{map}
use Rattle.std.specs.Option.{option_map}
use Rattle.c_text.specs.declared.macros.Macro.{Macro}
use Rattle.c_text.specs.Token.{plain_token}
use Rattle.c_text.specs.Directives.{PlainMacro}

-- a macro with its bytes and its tokens as lists
abbrev pub plain_macro : Macro → PlainMacro
plain_macro m = record {
  name = m.name.items;
  params = option_map (λ names. map (λ name. name.items) names.items) m.params;
  body = map plain_token m.body.items;
}
