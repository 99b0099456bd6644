use Rattle.std.proofs.Common.{◌≡◌, refl, sym, ◌∙◌}
use Rattle.std.proofs.lemmas.Result.{MatchResult-weaker}
use Rattle.std.specs.Prelude.{Some}
use Rattle.c_text.specs.Token.{PlainToken, plain_token}
use Rattle.c_tree.specs.Trees.{PlainTrees, plain_trees}
use Rattle.core_meaning.specs.Declarations.{name_in}
use Rattle.core_meaning.specs.Entities.{Scope}
use Rattle.plain_scope.specs.PlainScope.{plain_scope, uses_of}
use Rattle.plain_structs.specs.Structs.{tagged_gives, tagged_refused}
use Rattle.plain_structs.proofs.structs.define_struct.Goals as goal

pub returns-in-Some : goal.returns-in-Some
returns-in-Some c =
    let scope : Scope = plain_scope c.args.scope.now in
    let words : PlainTrees = plain_trees c.args.words.now in
    let list : PlainTrees = plain_trees c.args.list.now in
    let tag : PlainToken = plain_token c.in-Some.tag.now in
    let named : name_in words ≡ Some tag = sym c.name_in.ensures ∙ rw c.in-Some.is refl in
    MatchResult-weaker c.struct_of_tag.result c.struct_of_tag.ensures
    (λ u g. tagged_gives scope tag words list (plain_scope c.struct_of_tag.new.scope) (uses_of c.args.used.now) (uses_of c.struct_of_tag.new.used) named g)
    (λ error r. tagged_refused scope tag words list error named r)
