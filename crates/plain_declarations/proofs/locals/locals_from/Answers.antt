use Rattle.std.proofs.Common.{◌≡◌, ◌+◌, ◌<◌, ◌≤◌, ◌++◌, [], ◌∷◌, map, drop, length, rules, ap, sym, ◌∙◌}
use Rattle.std.proofs.lemmas.List.{map-append, drop-drop}
use Rattle.c_types.specs.Types.{plain_type}
use Rattle.c_tree.specs.Trees.{plain_trees}
use Rattle.core_meaning.specs.Declarations.{locals_from, with_items}
use Rattle.plain_scope.specs.PlainScope.{plain_scope, uses_of}
use Rattle.plain_scope.specs.Judgements.{RefusedAs}
use Rattle.plain_declarations.specs.PlainLocals.{plain_local_item, plain_locals}
use Rattle.plain_declarators.specs.Progress.{Continues, continues_from}
use Rattle.plain_declarations.specs.Locals.{first_size, locals_continue, locals_end, locals_refused}
use Rattle.plain_declarations.proofs.locals.locals_from.Goals as goal

pub loop-place-init : goal.loop-place-init
loop-place-init c = record {
  so_far = rw c.new-items.ensures.items (continues_from (locals_from (plain_scope c.args.scope.now) (map plain_type c.args.slots.now.items) (plain_type c.args.base.now) (plain_trees c.args.list.now)) (uses_of c.args.used.now));
  outside = search rules;
}

pub returns-in_err-item-clause-judged : goal.returns-in_err-item-clause-judged
returns-in_err-item-clause-judged c =
    let left = c.split_at.result.1.now in
    let so_far : Continues (locals_from (plain_scope c.args.scope.now) (map plain_type c.args.slots.now.items) (plain_type c.args.base.now) (plain_trees c.args.list.now)) (locals_from (plain_scope c.loop-place.scope) (map plain_type c.loop-place.slots.items) (plain_type c.args.base.now) (plain_trees left)) (with_items (map plain_local_item c.loop-place.items.items)) (uses_of c.args.used.now) (uses_of c.loop-place.used) = rw c.split_at.ensures.back c.loop-place.invariant.so_far in
    let outer : RefusedAs (locals_from (plain_scope c.args.scope.now) (map plain_type c.args.slots.now.items) (plain_type c.args.base.now) (plain_trees c.args.list.now)) c.in_err-item.field-0.0
    = locals_refused (plain_scope c.loop-place.scope) (map plain_type c.loop-place.slots.items) (plain_type c.args.base.now) left (map plain_local_item c.loop-place.items.items) c.in_err-item.field-0.0 (locals_from (plain_scope c.args.scope.now) (map plain_type c.args.slots.now.items) (plain_type c.args.base.now) (plain_trees c.args.list.now)) (uses_of c.args.used.now) (uses_of c.loop-place.used) so_far c.in_err-item.ensures.judged in
    search (rules, outer)

pub returns-then-left-size-clause-judged : goal.returns-then-left-size-clause-judged
returns-then-left-size-clause-judged c =
    let left = c.split_at.result.1.now in
    let so_far : Continues (locals_from (plain_scope c.args.scope.now) (map plain_type c.args.slots.now.items) (plain_type c.args.base.now) (plain_trees c.args.list.now)) (locals_from (plain_scope c.loop-place.scope) (map plain_type c.loop-place.slots.items) (plain_type c.args.base.now) (plain_trees left)) (with_items (map plain_local_item c.loop-place.items.items)) (uses_of c.args.used.now) (uses_of c.loop-place.used) = rw c.split_at.ensures.back c.loop-place.invariant.so_far in
    let over : length left ≤ first_size (plain_trees left) = rw (sym c.first_size-size.ensures) c.if-left-size.true in
    let all : map plain_local_item c.push.new.self.items ≡ map plain_local_item c.loop-place.items.items ++ plain_local_item c.in_ok-item.item ∷ [] = ap (map plain_local_item) c.in_ok-push.ensures.items ∙ map-append plain_local_item c.loop-place.items.items (c.in_ok-item.item ∷ []) in
    rw all (locals_end (plain_scope c.loop-place.scope) (map plain_type c.loop-place.slots.items) (plain_type c.args.base.now) left (map plain_local_item c.loop-place.items.items) (plain_locals c.first_local.new.scope c.first_local.new.slots.items (c.in_ok-item.item ∷ [])) (locals_from (plain_scope c.args.scope.now) (map plain_type c.args.slots.now.items) (plain_type c.args.base.now) (plain_trees c.args.list.now)) (uses_of c.args.used.now) (uses_of c.loop-place.used) (uses_of c.first_local.new.used) over so_far c.in_ok-item.ensures.judged)

pub loop-place-preserved : goal.loop-place-preserved
loop-place-preserved c =
    let left = c.split_at.result.1.now in
    let so_far : Continues (locals_from (plain_scope c.args.scope.now) (map plain_type c.args.slots.now.items) (plain_type c.args.base.now) (plain_trees c.args.list.now)) (locals_from (plain_scope c.loop-place.scope) (map plain_type c.loop-place.slots.items) (plain_type c.args.base.now) (plain_trees left)) (with_items (map plain_local_item c.loop-place.items.items)) (uses_of c.args.used.now) (uses_of c.loop-place.used) = rw c.split_at.ensures.back c.loop-place.invariant.so_far in
    let inside : first_size (plain_trees left) < length left = rw (sym c.first_size-size.ensures) c.if-left-size.false in
    let all : map plain_local_item c.push.new.self.items ≡ map plain_local_item c.loop-place.items.items ++ plain_local_item c.in_ok-item.item ∷ [] = ap (map plain_local_item) c.in_ok-push.ensures.items ∙ map-append plain_local_item c.loop-place.items.items (c.in_ok-item.item ∷ []) in
    let behind : drop (c.loop-place.place + (c.first_size-size.result + 1)) c.args.list.now ≡ drop (first_size (plain_trees left) + 1) left = sym (drop-drop (c.first_size-size.result + 1) c.loop-place.place c.args.list.now) ∙ ap (drop (c.first_size-size.result + 1)) (sym c.split_at.ensures.back) ∙ ap (λ n. drop (n + 1) left) c.first_size-size.ensures in
    record {
      so_far = rw behind (locals_continue (plain_scope c.loop-place.scope) (map plain_type c.loop-place.slots.items) (plain_type c.args.base.now) left (map plain_local_item c.loop-place.items.items) (map plain_local_item c.push.new.self.items) (plain_locals c.first_local.new.scope c.first_local.new.slots.items (c.in_ok-item.item ∷ [])) (locals_from (plain_scope c.args.scope.now) (map plain_type c.args.slots.now.items) (plain_type c.args.base.now) (plain_trees c.args.list.now)) (uses_of c.args.used.now) (uses_of c.loop-place.used) (uses_of c.first_local.new.used) inside so_far c.in_ok-item.ensures.judged all);
      outside = search rules;
    }
