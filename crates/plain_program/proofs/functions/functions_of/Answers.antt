use Rattle.std.proofs.Common.{◌≡◌, ◌+◌, ◌∷◌, ◌++◌, [], ℕ, List, map, take, drop, refl, sym, ap, subst, ◌∙◌, arith}
use Rattle.std.proofs.lemmas.List.{map-append}
use Rattle.core_meaning.specs.Plain.{plain_function}
use Rattle.core_meaning.specs.Program.{PlainFunction}
use Rattle.plain_numbers.specs.declared.places.Linked.{Linked}
use Rattle.plain_program.specs.Bodies.{held}
use Rattle.plain_program.specs.Functions.{function_for, AreApart, SameFor}
use Rattle.plain_program.proofs.FunctionLaws.{same_for_itself, same_for_step, drop_at, map_taken, take_all}
use Rattle.plain_program.proofs.functions.functions_of.Goals as goal

pub loop-key-init : goal.loop-key-init
loop-key-init c = record {
  made = λ globals. ap (map plain_function) c.in_ok-functions.ensures.items;
  same = λ globals. same_for_itself (held globals c.args.bodies.now) c.args.keys.now;
  apart = c.requires;
  objects = λ globals other. refl;
}

pub loop-key-preserved : goal.loop-key-preserved
loop-key-preserved c =
    let keys = c.args.keys.now in
    let i = c.loop-key.key-index in
    let key = c.key-item.result in
    let behind = drop (i + 1) keys in
    let step : drop i keys ≡ key ∷ behind = drop_at keys i key (omega arith) c.key-item.is in
    let apart : AreApart (key ∷ behind) = subst AreApart step c.loop-key.invariant.apart in
    let same : (globals : ℕ) → SameFor (held globals c.loop-key.bodies) (held globals c.args.bodies.now) (key ∷ behind) =
    λ globals. subst (SameFor (held globals c.loop-key.bodies) (held globals c.args.bodies.now)) step (c.loop-key.invariant.same globals) in
    record {
      made = λ globals.
          let made : Linked → PlainFunction = λ k. function_for k (held globals c.args.bodies.now k) in
          let f = plain_function c.function_under.result in
          ap (map plain_function) c.in_ok-push.ensures.items
          ∙ map-append plain_function c.loop-key.functions.items (c.function_under.result ∷ [])
          ∙ ap (λ (fs : List PlainFunction). fs ++ f ∷ []) (c.loop-key.invariant.made globals)
          ∙ ap (λ (g : PlainFunction). map made (take i keys) ++ g ∷ []) (c.function_under.ensures.function globals ∙ ap (function_for key) (same globals).0)
          ∙ sym (map_taken made keys i key (omega arith) c.key-item.is);
      same = λ globals. same_for_step (held globals c.loop-key.bodies) (held globals c.function_under.new.bodies) (held globals c.args.bodies.now) key behind (same globals).1 apart.0 (λ other a. c.function_under.ensures.others globals other a);
      apart = apart.1;
      objects = λ globals other. c.function_under.ensures.objects globals other ∙ c.loop-key.invariant.objects globals other;
    }

pub returns-clause-functions : goal.returns-clause-functions
returns-clause-functions c = λ globals.
    let made : Linked → PlainFunction = λ k. function_for k (held globals c.args.bodies.now k) in
    let all : take c.loop-key.key-index c.args.keys.now ≡ c.args.keys.now = take_all c.args.keys.now c.loop-key.key-index (omega arith) in
    c.loop-key.invariant.made globals ∙ ap (map made) all
