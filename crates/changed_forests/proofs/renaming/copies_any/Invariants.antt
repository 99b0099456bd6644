use Rattle.std.proofs.Common.{◌≡◌, drop}
use Rattle.std.specs.List.{list_any}
use Rattle.c_text.specs.Token.{plain_token}
use Rattle.changed_forests.specs.Renamed as spec
use Rattle.changed_forests.proofs.renaming.copies_any.Given as goal

abbrev pub invariant-loop-of : goal.invariant-loop-of
invariant-loop-of l =
    list_any (λ of. spec.copies of (plain_token l.token)) (drop l.of-index l.class) ≡ list_any (λ of. spec.copies of (plain_token l.token)) l.class
