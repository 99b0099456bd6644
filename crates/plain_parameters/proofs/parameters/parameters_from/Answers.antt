use Rattle.std.proofs.Common.{◌≡◌, ◌+◌, ◌++◌, [], ◌∷◌, List, length, map, rules, arith, ap, refl, sym, ◌∙◌}
use Rattle.std.proofs.lemmas.List.{map-append, length-map, length-append}
use Rattle.c_text.specs.Token.{plain_token}
use Rattle.c_tree.specs.Trees.{plain_tree, plain_trees}
use Rattle.core_meaning.specs.Declarations as spec
use Rattle.plain_scope.specs.PlainScope.{plain_scope, uses_of}
use Rattle.plain_scope.specs.Judgements.{Gives, RefusedAs}
use Rattle.plain_parameters.specs.PlainParameters.{plain_parameter}
use Rattle.core_meaning.specs.Declarations.{with_parameter}
use Rattle.plain_declarators.specs.Progress.{continues_from}
use Rattle.plain_parameters.specs.Parameters.{parameters_continue, parameters_refused}
use Rattle.plain_parameters.proofs.parameters.parameters_from.Goals as goal

length_more : {A : Type 0} (xs : List A) (x : A) → length (xs ++ x ∷ []) ≡ length xs + 1
length_more xs x = length-append xs (x ∷ [])

pub loop-number-init : goal.loop-number-init
loop-number-init c = record {
  all = c.entry_count-number-end.ensures.half;
  so_many = ap length c.new-all.ensures.items;
  outside = refl;
  so_far = rw c.new-all.ensures.items (continues_from (spec.parameters_from c.args.defining (plain_scope c.args.scope.now) [] (plain_trees c.args.list.now) (plain_token c.args.behind.now)) (uses_of c.args.used.now));
}

pub returns-in_err-p : goal.returns-in_err-p
returns-in_err-p c =
    let one : RefusedAs (spec.one_parameter c.args.defining (plain_scope c.loop-number.scope) (map plain_parameter c.loop-number.all.items) (plain_tree c.index-list-number.result) (plain_token c.args.behind.now)) c.in_err-p.field-0.0 = rw (sym c.as_slice-before.ensures.value) c.in_err-p.ensures in
    let outer : RefusedAs (spec.parameters_from c.args.defining (plain_scope c.args.scope.now) [] (plain_trees c.args.list.now) (plain_token c.args.behind.now)) c.in_err-p.field-0.0
    = parameters_refused c.args.defining (plain_scope c.loop-number.scope) (map plain_parameter c.loop-number.all.items) c.loop-number.number c.args.list.now c.index-list-number.result (plain_token c.args.behind.now) c.in_err-p.field-0.0 (spec.parameters_from c.args.defining (plain_scope c.args.scope.now) [] (plain_trees c.args.list.now) (plain_token c.args.behind.now)) (uses_of c.args.used.now) (uses_of c.loop-number.used) (omega (arith, c.loop-number.invariant.all)) c.index-list-number.is c.loop-number.invariant.so_far one in
    search (rules, outer)

pub loop-number-preserved : goal.loop-number-preserved
loop-number-preserved c =
    let one : Gives (spec.one_parameter c.args.defining (plain_scope c.loop-number.scope) (map plain_parameter c.loop-number.all.items) (plain_tree c.index-list-number.result) (plain_token c.args.behind.now)) (plain_parameter c.in_ok-p.p) (uses_of c.loop-number.used) (uses_of c.one_parameter.new.used) = rw (sym c.as_slice-before.ensures.value) c.in_ok-p.ensures in
    let all : map plain_parameter c.push.new.self.items ≡ map plain_parameter c.loop-number.all.items ++ plain_parameter c.in_ok-p.p ∷ [] = ap (map plain_parameter) c.in_ok-push.ensures.items ∙ map-append plain_parameter c.loop-number.all.items (c.in_ok-p.p ∷ []) in
    let slot : c.loop-number.number ≡ length (map plain_parameter c.loop-number.all.items) = sym c.loop-number.invariant.so_many ∙ sym (length-map c.loop-number.all.items plain_parameter) in
    record {
      all = c.loop-number.invariant.all;
      so_many = ap length c.in_ok-push.ensures.items ∙ length_more c.loop-number.all.items c.in_ok-p.p ∙ ap (λ n. n + 1) c.loop-number.invariant.so_many;
      outside = c.in_ok-enter_parameter.ensures.outside ∙ c.loop-number.invariant.outside;
      so_far = parameters_continue c.args.defining (plain_scope c.loop-number.scope) (plain_scope c.enter_parameter.new.scope) (map plain_parameter c.loop-number.all.items) (map plain_parameter c.push.new.self.items) c.loop-number.number c.args.list.now c.index-list-number.result (plain_token c.args.behind.now) (plain_parameter c.in_ok-p.p) (spec.parameters_from c.args.defining (plain_scope c.args.scope.now) [] (plain_trees c.args.list.now) (plain_token c.args.behind.now)) (uses_of c.args.used.now) (uses_of c.loop-number.used) (uses_of c.one_parameter.new.used) (omega (arith, c.loop-number.invariant.all)) c.index-list-number.is c.loop-number.invariant.so_far one all (c.in_ok-enter_parameter.ensures.placed ∙ ap (λ n. with_parameter (plain_scope c.loop-number.scope) n (plain_parameter c.in_ok-p.p).name (plain_parameter c.in_ok-p.p).ty) slot);
    }
