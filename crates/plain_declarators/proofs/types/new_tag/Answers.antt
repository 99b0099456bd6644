use Rattle.std.proofs.Common.{◌≡◌, length, rules}
use Rattle.std.proofs.lemmas.List.{length-map}
use Rattle.c_types.specs.TypeLaws.{plain_type-Struct}
use Rattle.plain_scope.specs.PlainScope.{plain_scope, plain_struct}
use Rattle.plain_declarators.specs.Bound.{tag_declared}
use Rattle.c_text.specs.Token.{plain_token}
use Rattle.plain_declarators.proofs.types.new_tag.Goals as goal

pub returns : goal.returns
returns c =
    let counted = length-map c.args.scope.now.structs.items plain_struct in
    let number : c.in-Ok.number ≡ length c.args.scope.now.structs.items = search rules in
    let named = plain_type-Struct c.in-Ok.number in
    tag_declared (plain_scope c.args.scope.now) (plain_token c.args.tag.now) _ _ c.requires (cc (counted, named, c.in_ok-declare_struct.ensures))
