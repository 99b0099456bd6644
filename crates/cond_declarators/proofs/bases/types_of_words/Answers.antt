use Rattle.std.proofs.Common.{false, sym, ap, ◌∙◌, subst}
use Rattle.cond_formula.specs.Features.{has}
use Rattle.conditional.specs.Judgements.{fine}
use Rattle.c_text.specs.Token.{plain_token}
use Rattle.c_tree.specs.Trees.{plain_trees}
use Rattle.type_tables.specs.Seen.{seen_tables}
use Rattle.cond_declarators.specs.Types.{ShowsType}
use Rattle.cond_declarators.specs.Elements.{struct_if_any}
use Rattle.cond_declarators.proofs.WordTypes.{based_arithmetic, based_nameless, based_tagged}
use Rattle.cond_declarators.proofs.bases.types_of_words.Goals as goal

pub returns-then-not-has_terminal-clause-shows : goal.returns-then-not-has_terminal-clause-shows
returns-then-not-has_terminal-clause-shows g c = λ n scope f admitted.
    subst (λ o. ShowsType (has n) o c.in_ok-types.types)
    (ap fine c.arithmetic_words-ty.ensures ∙ sym (based_arithmetic f.by false scope (plain_trees c.args.words.now) (sym c.has_terminal.ensures ∙ c.if-not-has_terminal.true)))
    (c.in_ok-types.ensures (has n))

pub returns-in_ok-types-in-Some-clause-shows : goal.returns-in_ok-types-in-Some-clause-shows
returns-in_ok-types-in-Some-clause-shows g c = λ n scope f admitted.
    subst (λ o. ShowsType (has n) o c.in_ok-types-in-Some.types)
    (ap (λ text. struct_if_any ((seen_tables (has n) c.args.tables.now).tags text)) c.as_slice.ensures.value
    ∙ sym (based_tagged (seen_tables (has n) c.args.tables.now) scope f (plain_trees c.args.words.now) (plain_token c.in-Some.tag.now) (sym c.has_terminal.ensures ∙ c.if-not-has_terminal.false) (sym c.in-Some.ensures)))
    (c.in_ok-types-in-Some.ensures.shows n admitted)

pub returns-in_ok-none-in-None-clause-shows : goal.returns-in_ok-none-in-None-clause-shows
returns-in_ok-none-in-None-clause-shows g c = λ n scope f admitted.
    subst (λ o. ShowsType (has n) o c.in_ok-none-in-None.none)
    (sym (based_nameless f.by false scope (plain_trees c.args.words.now) (sym c.has_terminal.ensures ∙ c.if-not-has_terminal.false) (sym c.in-None.ensures)))
    (c.in_ok-none-in-None.ensures (has n))
