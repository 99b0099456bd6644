use Rattle.std.proofs.Common.{◌≡◌, true, sym, ap₂, ◌∙◌, subst}
use Rattle.std.specs.Prelude.{Some}
use Rattle.cond_formula.specs.Conditions.{condition_of, value}
use Rattle.conditional.specs.Judgements.{fine}
use Rattle.c_text.specs.Token.{plain_token}
use Rattle.core_meaning.specs.Declarations.{based_on_tag}
use Rattle.type_tables.specs.Seen.{seen_tables}
use Rattle.type_tables.specs.Steps.{with_declared, where_true}
use Rattle.type_tables.specs.Questions.{where_declared}
use Rattle.cond_declarators.specs.DeclaredBases.{DeclaresHere}
use Rattle.cond_declarators.proofs.StructsDeclared.{tag_declares}
use Rattle.cond_declarators.proofs.declaring.declare_tag.Goals as goal

pub returns : goal.returns
returns c = λ on.
    subst
    (λ ty. DeclaresHere (value on (condition_of c.args.here.now)) (λ scope. based_on_tag true scope (plain_token c.args.tag.now) (scope.tags c.args.tag.now.text.items))
    (seen_tables on c.args.tables.now) (seen_tables on c.declare_struct.new.self) (fine ty))
    (sym c.struct_type.ensures)
    (tag_declares (seen_tables on c.args.tables.now) (seen_tables on c.declare_struct.new.self) (value on (condition_of c.args.here.now)) (plain_token c.args.tag.now) c.in_ok-number.number
    (subst (λ text. (seen_tables on c.args.tables.now).tags text ≡ where_declared (seen_tables on c.args.tables.now) (Some c.in_ok-number.number)) c.as_slice.ensures.value (c.in_ok-number.ensures.tag on))
    (c.in_ok-number.ensures.seen on
    ∙ ap₂ (λ text when. where_true (value on when) (with_declared text c.in_ok-number.number) (seen_tables on c.args.tables.now)) c.as_slice.ensures.value c.in_ok-try_clone.ensures))
