use Rattle.std.specs.Prelude.{map}
use Rattle.c_text.specs.Token.{plain_token}
use Rattle.c_text.specs.Macros as spec
use Rattle.plain_macros.specs.declared.meaning.Meaning.{Meaning}
use Rattle.plain_macros.specs.declared.meaning.Meaning.TheVariants.{Feature, Object, Function}

-- a meaning with its tokens as lists
abbrev pub plain_meaning : Meaning → spec.Meaning
plain_meaning (Feature one) = spec.feature (plain_token one)
plain_meaning (Object body) = spec.object (map plain_token body.items)
plain_meaning (Function params body) = spec.function (map (λ name. name.items) params.items) (map plain_token body.items)
