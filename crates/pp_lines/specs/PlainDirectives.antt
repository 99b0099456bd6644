use Rattle.std.specs.Prelude.{map}
use Rattle.c_text.specs.Token.{plain_token}
use Rattle.c_text.specs.PlainMacros.{plain_macro}
use Rattle.c_text.specs.Directives as spec
use Rattle.c_text.specs.Directives.{PlainDirective}
use Rattle.pp_lines.specs.declared.forms.Directive.{Directive}
use Rattle.pp_lines.specs.declared.forms.Directive.TheVariants.{If, Ifdef, Ifndef, Elif, Else, Endif, Define, BadDefine, Undef, Include, Error, Null, Malformed}

-- a directive with its tokens as lists
abbrev pub plain_directive : Directive → PlainDirective
plain_directive (If tokens) = spec.if_line (map plain_token tokens.items)
plain_directive (Ifdef name) = spec.ifdef_line (plain_token name)
plain_directive (Ifndef name) = spec.ifndef_line (plain_token name)
plain_directive (Elif tokens) = spec.elif_line (map plain_token tokens.items)
plain_directive Else = spec.else_line
plain_directive Endif = spec.endif_line
plain_directive (Define m) = spec.define_line (plain_macro m)
plain_directive BadDefine = spec.bad_define
plain_directive (Undef name) = spec.undef_line (plain_token name)
plain_directive (Include tokens) = spec.include_line (map plain_token tokens.items)
plain_directive Error = spec.error_line
plain_directive Null = spec.null_line
plain_directive Malformed = spec.malformed
