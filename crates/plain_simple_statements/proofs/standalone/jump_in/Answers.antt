use Rattle.std.proofs.Common.{◌≡◌, ap, sym, subst, ◌∙◌}
use Rattle.c_text.specs.Token.{plain_token}
use Rattle.c_tree.specs.Trees.{PlainTree, none, more, plain_tree, plain_trees}
use Rattle.core_meaning.specs.Program.{PlainStatement}
use Rattle.core_meaning.specs.Checking.{Checked}
use Rattle.plain_scope.specs.Judgements.{Answers}
use Rattle.plain_simple_statements.specs.PlainStatements.{boxed_statement}
use Rattle.plain_simple_statements.specs.Simple.{jump_if, jump_in}
use Rattle.plain_simple_statements.proofs.standalone.jump_in.Goals as goal

pub returns : goal.returns
returns c =
    let end : PlainTree = plain_tree c.in_ok-word.field-0-1.now in
    let is : jump_in c.args.in_loop (plain_trees c.args.parts.now) ≡ jump_if c.args.in_loop (plain_token c.in_ok-word-2.word.now) = ap (jump_in c.args.in_loop) (c.in_ok-word.ensures ∙ ap (λ (first : PlainTree). more first (more end none)) c.in_ok-word-2.ensures) in
    subst (λ (d : Checked PlainStatement). Answers d boxed_statement c.jump.result) (sym is) c.jump.ensures
