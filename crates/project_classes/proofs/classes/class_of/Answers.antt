use Rattle.std.proofs.Common.{◌≡◌, length, true, false, IsTrue, sym, subst, ◌∙◌}
use Rattle.std.specs.Prelude.{◌↔◌, Contains}
use Rattle.project_file.specs.View.{project_view}
use Rattle.program_occurrences.specs.Classes.{PlainFileToken}
use Rattle.tied_tokens.specs.Tokens.{plain_file_token, plain_file_tokens}
use Rattle.tied_tokens.specs.Ties.{PlainTiedTokens, NamesFeaturesBelow}
use Rattle.tied_tokens.specs.Reached.{IsReached, OccursSomewhere}
use Rattle.project_ties.specs.Projects.{tied_tokens_of}
use Rattle.project_classes.proofs.Features.{raised}
use Rattle.project_classes.proofs.classes.class_of.Goals as goal

pub occurs_somewhere-requires : goal.occurs_somewhere-requires
occurs_somewhere-requires c =
    subst (NamesFeaturesBelow 128) (sym c.tied_tokens-all.ensures)
    (raised (length c.args.project.now.features.items) 128 c.requires.few (tied_tokens_of c.args.project.now c.args.ties.now) c.requires.below)

pub class_of_ties-requires : goal.class_of_ties-requires
class_of_ties-requires c =
    subst (NamesFeaturesBelow 128) (sym c.tied_tokens-all.ensures)
    (raised (length c.args.project.now.features.items) 128 c.requires.few (tied_tokens_of c.args.project.now c.args.ties.now) c.requires.below)

pub returns-then-not-branch : goal.returns-then-not-branch
returns-then-not-branch c = λ files tells somewhere.
    let place = plain_file_token c.args.at.now in
    let tied = tied_tokens_of c.args.project.now c.args.ties.now in
    let occurs : OccursSomewhere tied place = (c.occurrences_are_told.ensures (project_view c.args.project.now) files tied tells place).1 somewhere in
    let yes : IsTrue c.in_ok-occurs_somewhere.field-0 = (c.in_ok-occurs_somewhere.ensures).1 (subst (λ (all : PlainTiedTokens). OccursSomewhere all place) (sym c.tied_tokens-all.ensures) occurs) in
    absurd (let no : true ≡ false = sym yes ∙ c.if-not-branch.true in cc)

pub returns : goal.returns
returns c = λ files tells.
    let place = plain_file_token c.args.at.now in
    let tied = tied_tokens_of c.args.project.now c.args.ties.now in
    let view = project_view c.args.project.now in
    let occurs : OccursSomewhere tied place
    = subst (λ (all : PlainTiedTokens). OccursSomewhere all place) c.tied_tokens-all.ensures ((c.in_ok-occurs_somewhere.ensures).0 c.if-not-branch.false) in
    let class = c.in_ok-class.class.items in
    let reached = subst (λ (all : PlainTiedTokens). (token : PlainFileToken) → Contains (plain_file_tokens class) token ↔ IsReached all place token) c.tied_tokens-all.ensures c.in_ok-class.ensures.reached in
    let is_class = c.reached_are_class.ensures view files tied tells place in
    record {
      found = (c.occurrences_are_told.ensures view files tied tells place).0 occurs;
      members = λ token. (λ h. (is_class token).0 ((reached token).0 h), λ h. (reached token).1 ((is_class token).1 h));
      in_order = c.in_ok-class.ensures.in_order;
    }
