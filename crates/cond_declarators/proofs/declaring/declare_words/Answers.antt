use Rattle.std.proofs.Common.{true, sym, ◌∙◌, subst}
use Rattle.cond_formula.specs.Conditions.{condition_of, value}
use Rattle.conditional.specs.Judgements.{fine}
use Rattle.c_text.specs.Token.{plain_token}
use Rattle.c_tree.specs.Trees.{plain_trees}
use Rattle.core_meaning.specs.Declarations.{based, based_on_tag}
use Rattle.type_tables.specs.Forms.{declared_type_form}
use Rattle.type_tables.specs.Seen.{seen_tables}
use Rattle.cond_declarators.specs.DeclaredBases.{DeclaresHere}
use Rattle.cond_declarators.proofs.StructsDeclared.{declares_as, arithmetic_declares, named_based}
use Rattle.cond_declarators.proofs.declaring.declare_words.Goals as goal

pub returns-then-not-has_terminal : goal.returns-then-not-has_terminal
returns-then-not-has_terminal c = λ on.
    subst
    (λ ty. DeclaresHere (value on (condition_of c.args.here.now)) (λ scope. based true scope (plain_trees c.args.words.now)) (seen_tables on c.args.tables.now) (seen_tables on c.args.tables.now) (fine ty))
    (sym c.arithmetic_words-ty.ensures)
    (arithmetic_declares (value on (condition_of c.args.here.now)) (plain_trees c.args.words.now) (seen_tables on c.args.tables.now) (sym c.has_terminal.ensures ∙ c.if-not-has_terminal.true))

pub returns-in_ok-declare_tag-in-Some : goal.returns-in_ok-declare_tag-in-Some
returns-in_ok-declare_tag-in-Some c = λ on.
    declares_as (value on (condition_of c.args.here.now))
    (λ scope. based_on_tag true scope (plain_token c.in-Some.tag.now) (scope.tags c.in-Some.tag.now.text.items)) (λ scope. based true scope (plain_trees c.args.words.now))
    (seen_tables on c.args.tables.now) (seen_tables on c.declare_tag.new.tables) (fine (declared_type_form c.in_ok-declare_tag-in-Some.field-0))
    (λ scope. named_based (plain_trees c.args.words.now) (plain_token c.in-Some.tag.now) scope (sym c.has_terminal.ensures ∙ c.if-not-has_terminal.false) (sym c.in-Some.ensures))
    (c.in_ok-declare_tag-in-Some.ensures on)
