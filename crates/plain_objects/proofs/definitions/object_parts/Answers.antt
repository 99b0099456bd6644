use Rattle.std.proofs.lemmas.Result.{MatchResult-weaker}
use Rattle.std.proofs.Common.{sym, subst}
use Rattle.std.proofs.Common.{map, rules}
use Rattle.c_text.specs.Token.{plain_token}
use Rattle.c_types.specs.Types.{plain_type}
use Rattle.c_tree.specs.Trees.{plain_tree}
use Rattle.core_meaning.specs.Plain.{plain_constant_part}
use Rattle.plain_scope.specs.PlainScope.{plain_scope, uses_of}
use Rattle.plain_scope.specs.Judgements.{RefusedAs}
use Rattle.plain_declarations.specs.PlainDeclared.{plain_initial}
use Rattle.plain_objects.specs.Objects.{parts_given, parts_give, parts_refused}
use Rattle.plain_objects.proofs.definitions.object_parts.Goals as goal

pub returns-in_err-found : goal.returns-in_err-found
returns-in_err-found c = λ globals.
    let outer : RefusedAs (parts_given globals (plain_scope c.args.scope.now) (plain_type c.args.ty.now) (plain_token c.args.name.now) (plain_tree c.args.initialiser.now)) c.in_err-found.field-0.0 = parts_refused globals (plain_scope c.args.scope.now) (plain_type c.args.ty.now) (plain_token c.args.name.now) (plain_tree c.args.initialiser.now) c.in_err-found.field-0.0 c.in_err-found.ensures in
    search (rules, outer)

pub returns : goal.returns
returns c = λ globals.
    let scope = plain_scope c.args.scope.now in
    let ty = plain_type c.args.ty.now in
    let name = plain_token c.args.name.now in
    let tree = plain_tree c.args.initialiser.now in
    MatchResult-weaker c.constant_parts.result c.constant_parts.ensures
    (λ parts is. parts_give globals scope ty name tree (map plain_initial c.in_ok-found.found.items) (map (plain_constant_part globals) parts.items) (uses_of c.args.used.now) (uses_of c.initialised.new.used) c.in_ok-found.ensures (is globals))
    (λ error is. subst (RefusedAs (parts_given globals scope ty name tree)) (sym is) tt)
