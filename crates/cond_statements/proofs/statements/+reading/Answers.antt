use Rattle.std.proofs.Common.{◌≡◌, ◌+◌, ◌≤◌, Bool, false, drop, refl, sym, ap, subst, ◌∙◌, arith}
use Rattle.std.specs.Prelude.{if◌then◌else◌}
use Rattle.std.proofs.lemmas.List.{drop_all}
use Rattle.std.proofs.lemmas.Result.{IfOk-weaker}
use Rattle.cond_formula.specs.declared.formulas.Formula.{Formula}
use Rattle.cond_formula.specs.Features.{has}
use Rattle.cond_formula.specs.Conditions.{condition_of, value}
use Rattle.c_tree.specs.declared.kinds.Kind.{Kind}
use Rattle.c_tree.specs.declared.kinds.Kind.TheVariants as k
use Rattle.c_tree.specs.Trees.{node, none, more}
use Rattle.conditional.specs.Entries.{alternatives}
use Rattle.conditional.proofs.ListLaws.{item_of}
use Rattle.choice_trees.specs.declared.trees.Item.{Item}
use Rattle.choice_trees.specs.ChoiceTrees.{plain_item, plain_branches, plain_choices, with_part, item_at, branch_at, parts_at}
use Rattle.choice_trees.specs.Depths.{depth, branches_depth, choices_depth}
use Rattle.choice_trees.proofs.Depths.{choice_within, branch_within}
use Rattle.statement_readings.specs.Walks.{use_in, expression_refused}
use Rattle.type_tables.specs.Forms.{declared_type_form}
use Rattle.type_tables.specs.Tables as plain
use Rattle.type_tables.specs.Seen.{seen_tables}
use Rattle.cond_statements.specs.declared.statements.Around.{Around}
use Rattle.cond_statements.specs.declared.roles.Role.TheVariants.{LeftOut, Declaration, Scoped, Parts, Jump, Expression}
use Rattle.cond_statements.specs.Ready.{IsExpression}
use Rattle.cond_statements.specs.Readings.{turned_behind, Reads, ReadsBlock, Walks}
use Rattle.cond_statements.proofs.Answering.{ok_two, ok_on, on_two}
use Rattle.cond_statements.proofs.Locals.{seen_entered, block_closed, closed_only}
use Rattle.type_tables.proofs.LocalsAlone.{nothing_changed, locals_again, seen_same}
use Rattle.cond_statements.proofs.Judged.{same_absence}
use Rattle.cond_statements.proofs.KindsOfNodes.{Plays, plays_role}
use Rattle.cond_statements.proofs.Nodes.{declaration_read, absence_read, jump_read, is_expression_read, partwise_read, scoped_read}
use Rattle.cond_statements.proofs.Choices.{ChoiceSoFar, choice_begins, choice_goes_on, choice_ends, parts_begin, parts_go_on, parts_end}
use Rattle.cond_statements.proofs.statements.+reading.Goals as goal

-- ---- nodes

pub read_node-returns-in-LeftOut-clause-reads : goal.read_node-returns-in-LeftOut-clause-reads
read_node-returns-in-LeftOut-clause-reads g t c =
    let plays : Plays c.args.kind LeftOut = subst (Plays c.args.kind) (sym c.role_of.ensures ∙ c.in-LeftOut.is) (plays_role c.args.kind) in
    ok_two c.read_absence.result _ _ _ (λ f elsewhere refusing n ty admitted at.
    let results = alternatives declared_type_form c.args.returns.now in
    let turned = value (has n) (condition_of c.args.turned.now) in
    let parts = parts_at (has n) c.args.kind 0 (plain_choices c.args.parts.now) in
    let when = value (has n) (condition_of c.args.when.now) in
    let seen = seen_tables (has n) c.args.tables.now in
    subst (λ (m : Kind). Reads (has n) ty results c.args.around.in_loop c.args.around.kind turned (more (node m parts) none) when seen seen (value (has n) (condition_of f))) (sym plays)
    (absence_read (has n) ty results c.args.around.in_loop c.args.around.kind turned parts when seen (value (has n) (condition_of f)) (elsewhere (has n))
    (λ h by stands. refusing (has n) (Rattle.operand_types.specs.OperandTypes.renumbered by ty) h stands ∙ same_absence by c.args.around.kind ty))) c.read_absence.ensures.elsewhere c.read_absence.ensures.refused

pub read_node-returns-in-Declaration-clause-reads : goal.read_node-returns-in-Declaration-clause-reads
read_node-returns-in-Declaration-clause-reads g t c =
    let plays : Plays c.args.kind Declaration = subst (Plays c.args.kind) (sym c.role_of.ensures ∙ c.in-Declaration.is) (plays_role c.args.kind) in
    ok_two c.declare.result _ _ _ (λ f elsewhere declared n ty admitted at.
    let results = alternatives declared_type_form c.args.returns.now in
    let turned = value (has n) (condition_of c.args.turned.now) in
    let when = value (has n) (condition_of c.args.when.now) in
    let old = seen_tables (has n) c.args.tables.now in
    let new = seen_tables (has n) c.declare.new.tables in
    subst (λ (m : Kind). Reads (has n) ty results c.args.around.in_loop c.args.around.kind turned (more (node m (parts_at (has n) m 0 (plain_choices c.args.parts.now))) none) when old new (value (has n) (condition_of f))) (sym plays)
    (declaration_read (has n) ty results c.args.around.in_loop c.args.around.kind turned (parts_at (has n) k.LocalDeclaration 0 (plain_choices c.args.parts.now)) when old new (value (has n) (condition_of f))
    (λ h. elsewhere n admitted h) (λ h scope slots follows derived. declared n admitted h scope slots follows derived))) c.declare.ensures.elsewhere c.declare.ensures.declared

pub read_node-returns-in-Scoped-clause-reads : goal.read_node-returns-in-Scoped-clause-reads
read_node-returns-in-Scoped-clause-reads g t c =
    let plays : Plays c.args.kind Scoped = subst (Plays c.args.kind) (sym c.role_of.ensures ∙ c.in-Scoped.is) (plays_role c.args.kind) in
    ok_on c.read_scoped.result _ _ _ (λ f reads same n ty admitted at.
    let results = alternatives declared_type_form c.args.returns.now in
    let turned = value (has n) (condition_of c.args.turned.now) in
    let parts = parts_at (has n) c.args.kind 0 (plain_choices c.args.parts.now) in
    let when = value (has n) (condition_of c.args.when.now) in
    let seen = seen_tables (has n) c.args.tables.now in
    subst (λ (u : plain.Tables). Reads (has n) ty results c.args.around.in_loop c.args.around.kind turned (more (node c.args.kind parts) none) when seen u (value (has n) (condition_of f))) (sym (same (has n)))
    (scoped_read (has n) ty results c.args.around.in_loop c.args.around.kind turned c.args.kind plays parts when seen (value (has n) (condition_of f))
    (subst (λ (a : Around). ReadsBlock (has n) ty results a.in_loop a.kind (parts_at (has n) a.kind 0 (plain_choices c.args.parts.now)) when seen (value (has n) (condition_of f))) c.inside.ensures (reads n ty admitted))))
    c.read_scoped.ensures.reads c.read_scoped.ensures.same

pub read_node-returns-in-Parts-clause-reads : goal.read_node-returns-in-Parts-clause-reads
read_node-returns-in-Parts-clause-reads g t c =
    let plays : Plays c.args.kind Parts = subst (Plays c.args.kind) (sym c.role_of.ensures ∙ c.in-Parts.is) (plays_role c.args.kind) in
    IfOk-weaker c.read_parts.result _ _ (λ f reads n ty admitted at.
    let results = alternatives declared_type_form c.args.returns.now in
    let turned = value (has n) (condition_of c.args.turned.now) in
    let parts = parts_at (has n) c.args.kind 0 (plain_choices c.args.parts.now) in
    let when = value (has n) (condition_of c.args.when.now) in
    let old = seen_tables (has n) c.args.tables.now in
    let new = seen_tables (has n) c.read_parts.new.tables in
    partwise_read (has n) ty results c.args.around.in_loop c.args.around.kind turned c.args.kind plays parts when old new (value (has n) (condition_of f))
    (subst (λ (a : Around). Reads (has n) ty results a.in_loop a.kind false (parts_at (has n) a.kind 0 (plain_choices c.args.parts.now)) when old new (value (has n) (condition_of f))) c.inside-in-Parts.ensures (reads n ty admitted)))
    c.read_parts.ensures.reads

pub read_node-returns-in-Jump-clause-reads : goal.read_node-returns-in-Jump-clause-reads
read_node-returns-in-Jump-clause-reads g t c =
    let plays : Plays c.args.kind Jump = subst (Plays c.args.kind) (sym c.role_of.ensures ∙ c.in-Jump.is) (plays_role c.args.kind) in
    IfOk-weaker c.read_jump.result _ _ (λ f is n ty admitted at.
    let results = alternatives declared_type_form c.args.returns.now in
    let turned = value (has n) (condition_of c.args.turned.now) in
    let parts = parts_at (has n) c.args.kind 0 (plain_choices c.args.parts.now) in
    let when = value (has n) (condition_of c.args.when.now) in
    let seen = seen_tables (has n) c.args.tables.now in
    subst (λ (m : Kind). Reads (has n) ty results c.args.around.in_loop c.args.around.kind turned (more (node m parts) none) when seen seen (value (has n) (condition_of f))) (sym plays)
    (jump_read (has n) ty results c.args.around.in_loop c.args.around.kind turned parts when seen (value (has n) (condition_of f)) (is (has n)))) c.read_jump.ensures

pub read_node-returns-in-Expression-clause-reads : goal.read_node-returns-in-Expression-clause-reads
read_node-returns-in-Expression-clause-reads g t c =
    let plays : Plays c.args.kind Expression = subst (Plays c.args.kind) (sym c.role_of.ensures ∙ c.in-Expression.is) (plays_role c.args.kind) in
    ok_two c.read_expression_part.result _ _ _ (λ f elsewhere refusing n ty admitted at.
    let results = alternatives declared_type_form c.args.returns.now in
    let turned = value (has n) (condition_of c.args.turned.now) in
    let parts = parts_at (has n) c.args.kind 0 (plain_choices c.args.parts.now) in
    let when = value (has n) (condition_of c.args.when.now) in
    let seen = seen_tables (has n) c.args.tables.now in
    is_expression_read (has n) ty results c.args.around.in_loop c.args.around.kind turned c.args.kind plays parts when seen (value (has n) (condition_of f)) (elsewhere n)
    (λ h by scope stands follows derived.
    refusing n admitted h by ty scope stands follows (subst IsExpression (sym at) derived) ∙ ap (expression_refused ty scope (use_in c.args.around.kind turned)) at))
    c.read_expression_part.ensures.elsewhere c.read_expression_part.ensures.refused

-- ---- blocks

pub read_scoped-returns-clause-outside : goal.read_scoped-returns-clause-outside
read_scoped-returns-clause-outside g t c =
    closed_only c.args.tables.now c.close_block.new.tables
    (block_closed c.args.tables.now c.open_block.new.tables c.read_parts.new.tables c.close_block.new.tables c.len-locals.result c.in_ok-open_block.ensures c.in_ok-refused.ensures.outside (omega (arith, c.len-locals.ensures, c.args.tables.now.locals.ok.0))
    c.close_block.ensures.same c.close_block.ensures.locals)

pub read_scoped-returns-clause-same : goal.read_scoped-returns-clause-same
read_scoped-returns-clause-same g t c = λ on.
    let closed =
    block_closed c.args.tables.now c.open_block.new.tables c.read_parts.new.tables c.close_block.new.tables c.len-locals.result c.in_ok-open_block.ensures c.in_ok-refused.ensures.outside (omega (arith, c.len-locals.ensures, c.args.tables.now.locals.ok.0))
    c.close_block.ensures.same c.close_block.ensures.locals in
    seen_same on c.args.tables.now c.close_block.new.tables closed.same closed.locals

pub read_scoped-returns-clause-reads : goal.read_scoped-returns-clause-reads
read_scoped-returns-clause-reads g t c = λ n ty admitted. record {
  inside = seen_tables (has n) c.read_parts.new.tables;
  reads =
      subst (λ (u : plain.Tables). Reads (has n) ty (alternatives declared_type_form c.args.returns.now) c.args.around.in_loop c.args.around.kind false
      (parts_at (has n) c.args.around.kind 0 (plain_choices c.args.parts.now)) (value (has n) (condition_of c.args.when.now)) u (seen_tables (has n) c.read_parts.new.tables)
      (value (has n) (condition_of c.in_ok-refused.refused))) (seen_entered (has n) c.args.tables.now c.open_block.new.tables c.in_ok-open_block.ensures) (c.in_ok-refused.ensures.reads n ty admitted);
}

-- ---- one part

pub read_alternative-returns-clause-walks : goal.read_alternative-returns-clause-walks
read_alternative-returns-clause-walks g t c =
    on_two c.turn_at.result _ _ _ (λ turning refusing n ty admitted.
    let when = value (has n) (condition_of c.args.when.now) in
    let tree = item_at (has n) (plain_item c.args.item.now) in
    record {
      found = value (has n) (condition_of c.in_ok-found.found);
      refused_is = ap (λ (f : Formula). value (has n) (condition_of f)) refusing ∙ c.in_ok-refuse.ensures.refused (has n);
      turned_is =
          turning (has n)
          ∙ ap (λ (f : Formula). if when then turned_behind c.args.around.kind (value (has n) (condition_of f)) (more tree none) else value (has n) (condition_of f)) c.refuse.ensures.turned;
      reads = c.in_ok-found.ensures.reads n ty admitted;
    }) c.turn_at.ensures.turned c.turn_at.ensures.refused

-- ---- alternatives

pub read_choice-read_alternative-requires : goal.read_choice-read_alternative-requires
read_choice-read_alternative-requires g t c =
    let low : depth (plain_item c.loop-condition-item.result.1) ≤ branches_depth (plain_branches c.deref-condition-items.result.now) =
    subst (λ b. depth (plain_item b.1) ≤ branches_depth (plain_branches c.deref-condition-items.result.now)) (sym c.loop-condition-item.is)
    (branch_within c.deref-condition-items.result.now c.loop-condition.condition-index c.loop-condition-item.result c.loop-condition-test.true) in
    let same : branches_depth (plain_branches c.deref-condition-items.result.now) ≡ branches_depth (plain_branches c.args.choice.now.branches.items) =
    ap (λ list. branches_depth (plain_branches list)) c.deref-condition-items.ensures.value in
    λ κs lives. (omega (arith, low, same, c.decreases), lives)

pub read_choice-loop-condition-init : goal.read_choice-loop-condition-init
read_choice-loop-condition-init g t c = record {
  kept = refl;
  outside = nothing_changed c.args.tables.now;
  so_far = λ n ty admitted.
      let when = value (has n) (condition_of c.args.when.now) in
      let all = branch_at (has n) (plain_branches c.deref-condition-items.result.now) in
      let seen = seen_tables (has n) c.args.tables.now in
      let refused = value (has n) (condition_of c.args.walk.now.refused) in
      let turned = value (has n) (condition_of c.args.walk.now.turned) in
      subst (λ (b : Bool). ChoiceSoFar (has n) ty (alternatives declared_type_form c.args.returns.now) c.args.around.in_loop c.args.around.kind b when all all seen seen refused refused turned turned)
      (sym (ap (value (has n)) c.in_ok-rest.ensures))
      (choice_begins (has n) ty (alternatives declared_type_form c.args.returns.now) c.args.around.in_loop c.args.around.kind when all seen refused turned);
}

pub read_choice-loop-condition-preserved : goal.read_choice-loop-condition-preserved
read_choice-loop-condition-preserved g t c = record {
  kept = c.in_ok-read_alternative.ensures.kept ∙ c.loop-condition.invariant.kept;
  outside = locals_again c.args.tables.now c.loop-condition.tables c.read_alternative.new.tables c.loop-condition.invariant.outside c.in_ok-read_alternative.ensures.outside;
  so_far = λ n ty admitted.
      let items = c.deref-condition-items.result.now in
      let i = c.loop-condition.condition-index in
      let x = c.loop-condition-item.result in
      let all = branch_at (has n) (plain_branches items) in
      let later = branch_at (has n) (plain_branches (drop (i + 1) items)) in
      let tree = item_at (has n) (plain_item x.1) in
      let holds = value (has n) (condition_of x.0) in
      let before =
      subst (λ (list : Rattle.std.proofs.Common.List (Formula × Item)). ChoiceSoFar (has n) ty (alternatives declared_type_form c.args.returns.now) c.args.around.in_loop c.args.around.kind (value (has n) (condition_of c.loop-condition.rest))
      (value (has n) (condition_of c.args.when.now)) all (branch_at (has n) (plain_branches list)) (seen_tables (has n) c.args.tables.now) (seen_tables (has n) c.loop-condition.tables)
      (value (has n) (condition_of c.args.walk.now.refused)) (value (has n) (condition_of c.loop-condition.walk.refused)) (value (has n) (condition_of c.args.walk.now.turned)) (value (has n) (condition_of c.loop-condition.walk.turned)))
      (item_of items x i c.loop-condition-test.true c.loop-condition-item.is) (c.loop-condition.invariant.so_far n ty admitted) in
      choice_goes_on (has n) ty (alternatives declared_type_form c.args.returns.now) c.args.around.in_loop c.args.around.kind (value (has n) (condition_of c.loop-condition.rest)) holds (value (has n) (condition_of c.in_ok-here.here))
      (value (has n) (condition_of c.in_ok-rest-2.rest)) (value (has n) (condition_of c.args.when.now)) all later tree (seen_tables (has n) c.args.tables.now) (seen_tables (has n) c.loop-condition.tables)
      (seen_tables (has n) c.read_alternative.new.tables) (value (has n) (condition_of c.args.walk.now.refused)) (value (has n) (condition_of c.loop-condition.walk.refused))
      (value (has n) (condition_of c.read_alternative.new.walk.refused)) (value (has n) (condition_of c.args.walk.now.turned)) (value (has n) (condition_of c.loop-condition.walk.turned))
      (value (has n) (condition_of c.read_alternative.new.walk.turned)) (c.in_ok-here.ensures (has n)) (c.in_ok-rest-2.ensures (has n)) before
      (c.in_ok-read_alternative.ensures.walks n ty (ap (value (has n)) c.loop-condition.invariant.kept ∙ admitted));
}

pub read_choice-returns-clause-walks : goal.read_choice-returns-clause-walks
read_choice-returns-clause-walks g t c = λ n ty needed admitted.
    let items = c.deref-condition-items.result.now in
    let all = branch_at (has n) (plain_branches items) in
    let old = seen_tables (has n) c.args.tables.now in
    let new = seen_tables (has n) c.loop-condition.tables in
    let when = value (has n) (condition_of c.args.when.now) in
    let results = alternatives declared_type_form c.args.returns.now in
    let refused = value (has n) (condition_of c.args.walk.now.refused) in
    let refused_now = value (has n) (condition_of c.loop-condition.walk.refused) in
    let turned = value (has n) (condition_of c.args.walk.now.turned) in
    let turned_now = value (has n) (condition_of c.loop-condition.walk.turned) in
    let rest = value (has n) (condition_of c.loop-condition.rest) in
    subst (λ (list : Rattle.std.proofs.Common.List (Formula × Item)). Walks (has n) ty results c.args.around.in_loop c.args.around.kind (with_part needed (branch_at (has n) (plain_branches list)) none) when old new refused refused_now turned turned_now)
    c.deref-condition-items.ensures.value
    (choice_ends (has n) ty results c.args.around.in_loop c.args.around.kind rest when all old new refused refused_now turned turned_now
    (subst (λ (list : Rattle.std.proofs.Common.List (Formula × Item)). ChoiceSoFar (has n) ty results c.args.around.in_loop c.args.around.kind rest when all (branch_at (has n) (plain_branches list)) old new refused refused_now turned turned_now)
    (drop_all c.loop-condition.condition-index items c.loop-condition-test.false) (c.loop-condition.invariant.so_far n ty admitted)) needed)

-- ---- parts

pub read_parts-read_choice-requires : goal.read_parts-read_choice-requires
read_parts-read_choice-requires g t c =
    let low : branches_depth (plain_branches c.part-item.result.branches.items) ≤ choices_depth (plain_choices c.args.parts.now) =
    subst (λ part. branches_depth (plain_branches part.branches.items) ≤ choices_depth (plain_choices c.args.parts.now)) (sym c.part-item.is)
    (choice_within c.args.parts.now c.loop-part.part-index c.part-item.result c.loop-part-test.true) in
    λ κs lives. (omega (arith, low, c.decreases), lives)

pub read_parts-loop-part-init : goal.read_parts-loop-part-init
read_parts-loop-part-init g t c = record {
  kept = refl;
  outside = nothing_changed c.args.tables.now;
  so_far = λ n ty admitted.
      parts_begin (has n) ty (alternatives declared_type_form c.args.returns.now) c.args.around.in_loop c.args.around.kind c.args.parts.now (value (has n) (condition_of c.args.when.now)) (seen_tables (has n) c.args.tables.now)
      (value (has n) (condition_of c.new-walk.result.refused)) (value (has n) (condition_of c.new-walk.result.turned)) (c.new-walk.ensures.refused (has n)) (c.new-walk.ensures.turned (has n));
}

pub read_parts-loop-part-preserved : goal.read_parts-loop-part-preserved
read_parts-loop-part-preserved g t c = record {
  kept = c.in_ok-read_choice.ensures.kept ∙ c.loop-part.invariant.kept;
  outside = locals_again c.args.tables.now c.loop-part.tables c.read_choice.new.tables c.loop-part.invariant.outside c.in_ok-read_choice.ensures.outside;
  so_far = λ n ty admitted.
      parts_go_on (has n) ty (alternatives declared_type_form c.args.returns.now) c.args.around.in_loop c.args.around.kind c.args.parts.now (value (has n) (condition_of c.args.when.now)) (seen_tables (has n) c.args.tables.now)
      (seen_tables (has n) c.loop-part.tables) (seen_tables (has n) c.read_choice.new.tables) c.loop-part.part-index c.part-item.result (value (has n) (condition_of c.loop-part.walk.refused))
      (value (has n) (condition_of c.read_choice.new.walk.refused)) (value (has n) (condition_of c.loop-part.walk.turned)) (value (has n) (condition_of c.read_choice.new.walk.turned)) c.loop-part-test.true c.part-item.is
      (c.loop-part.invariant.so_far n ty admitted) (λ needed. c.in_ok-read_choice.ensures.walks n ty needed (ap (value (has n)) c.loop-part.invariant.kept ∙ admitted));
}

pub read_parts-returns-clause-reads : goal.read_parts-returns-clause-reads
read_parts-returns-clause-reads g t c = λ n ty admitted.
    parts_end (has n) ty (alternatives declared_type_form c.args.returns.now) c.args.around.in_loop c.args.around.kind c.args.parts.now (value (has n) (condition_of c.args.when.now)) (seen_tables (has n) c.args.tables.now)
    (seen_tables (has n) c.loop-part.tables) c.loop-part.part-index (value (has n) (condition_of c.loop-part.walk.refused)) (value (has n) (condition_of c.loop-part.walk.turned)) c.loop-part-test.false
    (c.loop-part.invariant.so_far n ty admitted)
