use Rattle.std.proofs.Common.{◌≡◌, ◌++◌, [], ◌∷◌, map, rules, sym, ap, ◌∙◌}
use Rattle.std.specs.Prelude.{Vec}
use Rattle.std.specs.declared.alloc.Global.{Global}
use Rattle.std.proofs.lemmas.List.{map-append}
use Rattle.c_text.specs.Token.{plain_token}
use Rattle.c_text.specs.declared.token.Token.{Token}
use Rattle.c_tree.specs.Trees.{plain_tree}
use Rattle.c_tree.specs.Units.{IsTreeOf}
use Rattle.project_program.specs.Steps.{plain_tokens, WhyNoTree, WhyNoTrees}
use Rattle.project_program.proofs.ListLaws.{zipped_views, contains_view}
use Rattle.project_program.proofs.StageLaws.{tree_lacked}
use Rattle.project_program.proofs.programs.all_trees.Goals as goal

pub returns-in_err-tree : goal.returns-in_err-tree
returns-in_err-tree c =
    let why : WhyNoTree (map plain_token c.tokens-item.result.items) c.in_err-tree.field-0.0 = rw (sym c.as_slice.ensures.value) c.in_err-tree.ensures in
    let outer : WhyNoTrees (plain_tokens c.args.units.now) c.in_err-tree.field-0.0
    = tree_lacked (plain_tokens c.args.units.now) (map plain_token c.tokens-item.result.items) c.in_err-tree.field-0.0 (contains_view (λ (tokens : Vec Token Global). map plain_token tokens.items) c.args.units.now c.loop-tokens.tokens-index c.tokens-item.result c.loop-tokens-test.true c.tokens-item.is) why in
    search (rules, outer)

pub loop-tokens-preserved : goal.loop-tokens-preserved
loop-tokens-preserved c =
    let one : IsTreeOf (map plain_token c.tokens-item.result.items) (plain_tree c.in_ok-tree.tree) = rw (sym c.as_slice.ensures.value) c.in_ok-tree.ensures in
    let all : map plain_tree c.push.new.self.items ≡ map plain_tree c.loop-tokens.trees.items ++ plain_tree c.in_ok-tree.tree ∷ [] = ap (map plain_tree) c.in_ok-push.ensures.items ∙ map-append plain_tree c.loop-tokens.trees.items (c.in_ok-tree.tree ∷ []) in
    zipped_views IsTreeOf (λ (tokens : Vec Token Global). map plain_token tokens.items) c.args.units.now (map plain_tree c.loop-tokens.trees.items) (map plain_tree c.push.new.self.items) c.loop-tokens.tokens-index c.tokens-item.result (plain_tree c.in_ok-tree.tree) c.loop-tokens-test.true c.tokens-item.is c.loop-tokens.invariant one all
