use Rattle.std.proofs.Common.{◌≡◌, ◌+◌, ◌∷◌, ◌++◌, [], ℕ, List, map, take, drop, sym, ap, subst, ◌∙◌, arith}
use Rattle.std.proofs.lemmas.List.{map-append}
use Rattle.c_types.specs.Types.{PlainType, plain_type}
use Rattle.core_meaning.specs.Plain.{plain_global}
use Rattle.core_meaning.specs.Program.{PlainGlobal}
use Rattle.core_meaning.specs.UnitNames.{Body}
use Rattle.std.specs.Prelude.{Option}
use Rattle.plain_numbers.specs.declared.places.Linked.{Linked}
use Rattle.plain_program.specs.Bodies.{held}
use Rattle.plain_program.specs.Functions.{AreApart, SameFor}
use Rattle.plain_program.specs.Globals.{global_for}
use Rattle.plain_program.proofs.FunctionLaws.{same_for_itself, same_for_step, drop_at, map_taken, map_at, take_all}
use Rattle.plain_program.proofs.globals.globals_of.Goals as goal

pub loop-i-init : goal.loop-i-init
loop-i-init c = record {
  made = λ globals T typed. ap (map (plain_global globals)) c.in_ok-all.ensures.items;
  same = λ globals. same_for_itself (held globals c.args.bodies.now) c.args.keys.now;
  apart = c.requires.apart;
}

pub loop-i-preserved : goal.loop-i-preserved
loop-i-preserved c =
    let keys = c.args.keys.now in
    let i = c.loop-i.i in
    let key = c.index-keys-i.result in
    let behind = drop (i + 1) keys in
    let step : drop i keys ≡ key ∷ behind = drop_at keys i key (omega arith) c.index-keys-i.is in
    let apart : AreApart (key ∷ behind) = subst AreApart step c.loop-i.invariant.apart in
    let same : (globals : ℕ) → SameFor (held globals c.loop-i.bodies) (held globals c.args.bodies.now) (key ∷ behind) =
    λ globals. subst (SameFor (held globals c.loop-i.bodies) (held globals c.args.bodies.now)) step (c.loop-i.invariant.same globals) in
    record {
      made = λ globals T typed.
          let made : Linked → PlainGlobal = λ k. global_for (T k) k (held globals c.args.bodies.now k) in
          let one = c.in_ok-global_under.field-0 in
          let g = plain_global globals one in
          let ty : plain_type c.index-types-i.result ≡ T key = map_at plain_type T c.args.types.now keys i c.index-types-i.result key typed (omega arith) c.index-types-i.is (omega arith) c.index-keys-i.is in
          ap (map (plain_global globals)) c.in_ok-push.ensures.items
          ∙ map-append (plain_global globals) c.loop-i.all.items (one ∷ [])
          ∙ ap (λ (gs : List PlainGlobal). gs ++ g ∷ []) (c.loop-i.invariant.made globals T typed)
          ∙ ap (λ (x : PlainGlobal). map made (take i keys) ++ x ∷ [])
          (c.in_ok-global_under.ensures.global globals
          ∙ ap (λ (b : Option Body). global_for (plain_type c.index-types-i.result) key b) (same globals).0
          ∙ ap (λ (t : PlainType). global_for t key (held globals c.args.bodies.now key)) ty)
          ∙ sym (map_taken made keys i key (omega arith) c.index-keys-i.is);
      same = λ globals. same_for_step (held globals c.loop-i.bodies) (held globals c.global_under.new.bodies) (held globals c.args.bodies.now) key behind (same globals).1 apart.0 (λ other a. c.in_ok-global_under.ensures.others globals other a);
      apart = apart.1;
    }

pub returns : goal.returns
returns c = λ globals T typed.
    let made : Linked → PlainGlobal = λ k. global_for (T k) k (held globals c.args.bodies.now k) in
    let all : take c.loop-i.i c.args.keys.now ≡ c.args.keys.now = take_all c.args.keys.now c.loop-i.i (omega arith) in
    c.loop-i.invariant.made globals T typed ∙ ap (map made) all
