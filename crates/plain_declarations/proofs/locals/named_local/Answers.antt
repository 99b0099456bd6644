use Rattle.std.proofs.Common.{◌≡◌, [], ◌∷◌, map, rules}
use Rattle.std.specs.Prelude.{Some}
use Rattle.c_text.specs.Token.{plain_token}
use Rattle.c_types.specs.Types.{plain_type}
use Rattle.c_tree.specs.Trees.{plain_trees}
use Rattle.core_meaning.specs.Declarations.{name_in}
use Rattle.plain_scope.specs.PlainScope.{plain_scope, uses_of}
use Rattle.plain_declarations.specs.PlainLocals.{plain_locals}
use Rattle.plain_declarations.specs.Locals.{named_gives}
use Rattle.plain_declarations.proofs.locals.named_local.Goals as goal

pub returns-in_ok-item-in-Some-clause-judged : goal.returns-in_ok-item-in-Some-clause-judged
returns-in_ok-item-in-Some-clause-judged c =
    let name_is : name_in (plain_trees c.args.parts.now) ≡ Some (plain_token c.in-Some.name.now) = search rules in
    named_gives (plain_scope c.args.scope.now) (map plain_type c.args.slots.now.items) (plain_type c.args.base.now) c.args.kind (plain_trees c.args.parts.now) (plain_token c.in-Some.name.now) _ (plain_locals c.declared_local.new.scope c.declared_local.new.slots.items (c.in_ok-item-in-Some.item ∷ [])) (uses_of c.args.used.now) (uses_of c.declared_local.new.used) name_is c.in_ok-item-in-Some.ensures.judged
