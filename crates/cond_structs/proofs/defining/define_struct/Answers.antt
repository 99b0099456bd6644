use Rattle.std.proofs.Common.{◌≡◌, not, ◌&&◌, ◌||◌, List, refl, sym, ap, ◌∙◌, subst}
use Rattle.cond_formula.specs.Features.{has}
use Rattle.cond_formula.specs.Conditions.{Condition, condition_of, value}
use Rattle.c_types.specs.Types.{structure}
use Rattle.c_tree.specs.declared.kinds.Kind.TheVariants as kinds
use Rattle.choice_trees.specs.ChoiceTrees.{plain_item, plain_choices, item_at, parts_at}
use Rattle.choice_expansions.specs.Steps.{after_each}
use Rattle.conditional.specs.Entries.{seen, some_holds, Carry, entries_of}
use Rattle.conditional.specs.declared.entries.Guarded.{Guarded}
use Rattle.declarator_lists.specs.Lists.{trees_of}
use Rattle.operand_rules.specs.PlainOperandTypes.{reason}
use Rattle.type_tables.specs.Tables.{is_complete_type}
use Rattle.type_tables.specs.Forms.{declared_type_form}
use Rattle.type_tables.specs.Seen.{seen_tables}
use Rattle.type_tables.specs.Steps.{with_completed, where_true}
use Rattle.type_tables.specs.declared.entries.DeclaredType.{DeclaredType}
use Rattle.cond_structs.specs.Gathered.{gathered}
use Rattle.cond_structs.specs.Standing.{StandsSoFar}
use Rattle.cond_structs.specs.Walks.{declarations_in, declared_next, AreDerived}
use Rattle.cond_structs.specs.Listing.{declarations_at}
use Rattle.cond_structs.specs.declared.listing.MemberDeclaration.{MemberDeclaration}
use Rattle.cond_structs.proofs.InTurn.{are_derived}
use Rattle.cond_structs.proofs.Defined.{tag_words, defined_so}
use Rattle.cond_structs.proofs.defining.define_struct.Goals as goal

pub returns-clause-defined : goal.returns-clause-defined
returns-clause-defined g c = λ n admitted here unit follows tag each.
    let all = c.in_ok-all.all in
    let behind_list = ap (value (has n)) c.in_ok-list.ensures.kept ∙ admitted in
    let behind_base = ap (value (has n)) c.in_ok-base.ensures.kept ∙ behind_list in
    let trees = declarations_in (trees_of (parts_at (has n) kinds.Members 0 (plain_choices c.args.members.now))) in
    let listed : seen (has n) (declarations_at (has n) c.deref.result.now) ≡ trees =
    ap (λ (l : List MemberDeclaration). seen (has n) (declarations_at (has n) l)) c.deref.ensures.value ∙ c.in_ok-list.ensures.seen n kinds.Members admitted (λ place. refl) in
    defined_so (has n) c.in_ok-base.base unit (seen_tables (has n) c.args.tables.now) (seen_tables (has n) c.declared_base.new.tables) (seen_tables (has n) c.read_all.new.tables) (seen_tables (has n) c.complete_each.new.tables) follows
    (gathered (has n) all) (parts_at (has n) kinds.Members 0 (plain_choices c.args.members.now)) (item_at (has n) (plain_item c.args.words.now)) (value (has n) (condition_of c.in_ok-unusable.unusable)) (value (has n) (condition_of c.in_ok-refused.refused))
    c.declarations_are_read.ensures each (tag_words tag) (c.in_ok-base.ensures.declares n unit.scope follows behind_list here)
    (λ ty carry.
    c.in_ok-unusable.ensures (has n) ty carry
    ∙ ap (λ b. (b && some_holds (has n) (entries_of reason c.in_ok-base.base.refused.entries.items)) || (some_holds (has n) (entries_of declared_type_form c.in_ok-base.base.fine.alternatives.items) && is_complete_type (seen_tables (has n) c.declared_base.new.tables) ty)) here)
    (λ by before number k s.
    subst (λ ds. StandsSoFar by before (seen_tables (has n) c.read_all.new.tables) (gathered (has n) all) (after_each (declared_next number) k ds)) listed
    (c.in_ok-all.ensures.stands n by before number k behind_base here (subst AreDerived (sym listed) (are_derived each))
    (subst (λ x. StandsSoFar by before (seen_tables (has n) c.declared_base.new.tables) x k) (sym (c.new-all.ensures (has n))) s)))
    (λ m carry.
    subst (λ (l : List (Guarded DeclaredType)). seen_tables (has n) c.complete_each.new.tables ≡ where_true (value (has n) (condition_of c.in_ok-accepted.accepted) && some_holds (has n) (entries_of declared_type_form l)) (with_completed m (gathered (has n) all).members (gathered (has n) all).scalars) (seen_tables (has n) c.read_all.new.tables)) c.deref-2.ensures.value
    (c.in_ok-complete_each.ensures.completes (has n) m (subst (λ (l : List (Guarded DeclaredType)). Carry (has n) (structure m) (entries_of declared_type_form l)) (sym c.deref-2.ensures.value) carry))
    ∙ ap (λ b. where_true (b && some_holds (has n) (entries_of declared_type_form c.in_ok-base.base.fine.alternatives.items)) (with_completed m (gathered (has n) all).members (gathered (has n) all).scalars) (seen_tables (has n) c.read_all.new.tables))
    (c.in_ok-accepted.ensures (has n) ∙ ap (λ (k : Condition). value (has n) k && not (gathered (has n) all).refused) c.in_ok-try_clone.ensures ∙ ap (λ b. b && not (gathered (has n) all).refused) here))
    (c.in_ok-refused.ensures (has n) ∙ ap (λ b. b && (gathered (has n) all).refused) here)
