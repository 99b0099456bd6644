use Rattle.std.proofs.Common.{◌≡◌, map, drop}
use Rattle.c_text.specs.Token.{plain_token}
use Rattle.c_text.specs.Macros as spec
use Rattle.plain_macros.specs.PlainItems.{plain_item}
use Rattle.plain_macros.proofs.lists.argument_for.Given as goal

abbrev pub invariant-loop-i : goal.invariant-loop-i
invariant-loop-i l =
    spec.substituted_for (map (λ n. n.items) (drop l.i l.params)) (map (λ v. map plain_item v.items) (drop l.i l.arguments)) (plain_token l.token)
    ≡ spec.substituted_for (map (λ n. n.items) l.params) (map (λ v. map plain_item v.items) l.arguments) (plain_token l.token)
