-- The places between the parentheses of a `#define` line, and what the tokens from there on say.
use Rattle.std.specs.Prelude.{ℕ, Bool, true, false, ◌&&◌, List, ◌++◌, map, codes, Option, Some, None}
use Rattle.c_text.specs.Token.{PlainToken, plain_token}
use Rattle.c_text.specs.Directives.{is_spelled, parameters, parameters_of, at_parameter, behind_parameter, behind_dots}
use Rattle.c_text.specs.Directives as spec
use Rattle.pp_lines.specs.declared.parameters.Place.{Place}
use Rattle.pp_lines.specs.declared.parameters.Place.TheVariants.{Beginning, BeforeName, BehindName, BehindDots, Nowhere}
use Rattle.pp_lines.specs.declared.parameters.Reader.{Reader}
use Rattle.pp_lines.specs.declared.parameters.Parameters.{Parameters}

-- parameters with their bytes and the tokens behind them as lists
abbrev pub plain_parameters : Parameters → spec.Parameters
plain_parameters p = parameters (map (λ name. name.items) p.names.items) p.variadic (map plain_token p.body.now)

-- what tokens say that stand from a place on
abbrev pub parameters_from : Place → List PlainToken → Option spec.Parameters
parameters_from Beginning tokens = parameters_of tokens
parameters_from BeforeName tokens = at_parameter tokens
parameters_from BehindName tokens = behind_parameter tokens
parameters_from BehindDots tokens = behind_dots tokens
parameters_from Nowhere tokens = None

abbrev pub may_close : Place → Bool
may_close Beginning = true
may_close BeforeName = false
may_close BehindName = true
may_close BehindDots = true
may_close Nowhere = false

abbrev pub is_behind_dots : Place → Bool
is_behind_dots BehindDots = true
is_behind_dots other = false

-- the parenthesis that ends the parameters
abbrev pub closes : Place → PlainToken → Bool
closes place token = may_close place && is_spelled (codes ")") token

-- parameters with further ones before them
abbrev pub with_names : List (List ℕ) → Option spec.Parameters → Option spec.Parameters
with_names names None = None
with_names names (Some p) = Some (parameters (names ++ p.names) p.variadic p.body)

-- the parameters that are read already, and those that tokens hold from there on
abbrev pub reading : Reader → List PlainToken → Option spec.Parameters
reading r tokens = with_names (map (λ name. name.items) r.names.items) (parameters_from r.place tokens)
