use Rattle.std.proofs.Common.{◌∷◌, [], sym, ◌∙◌, subst}
use Rattle.std.proofs.lemmas.Iterator.Adapters.{YieldsList-from_vec}
use Rattle.std.proofs.lemmas.Iterator.Consumers.{YieldsList-end}
use Rattle.std.proofs.lemmas.List.{map-id, map-append}
use Rattle.cond_formula.specs.Conditions.{Inverse, condition_of}
use Rattle.conditional.specs.Entries.{entry_of, entries_of, alternatives, PlacesUnder}
use Rattle.known_tables.proofs.Placing.{none_placed, one_more_placed}
use Rattle.known_tables.proofs.shadowing.place_elsewhere.Goals as goal

pub loop-alternative-init : goal.loop-alternative-init
loop-alternative-init g c = λ on. none_placed on (Inverse (condition_of c.args.when.now)) (alternatives g.T.Plain.form c.args.all.now)

pub loop-alternative-preserved : goal.loop-alternative-preserved
loop-alternative-preserved g c = λ on.
    subst (λ more. PlacesUnder on (Inverse (condition_of c.args.when.now)) more (alternatives g.T.Plain.form c.args.all.now) (alternatives g.T.Plain.form c.place_where.new.all))
    (sym (map-append (entry_of g.T.Plain.form) c.loop-alternative.yielded (c.in-Some.alternative ∷ [])))
    (one_more_placed on (Inverse (condition_of c.args.when.now)) (condition_of c.in_ok-elsewhere.elsewhere) (entries_of g.T.Plain.form c.loop-alternative.yielded) (entry_of g.T.Plain.form c.in-Some.alternative)
    (alternatives g.T.Plain.form c.args.all.now) (alternatives g.T.Plain.form c.loop-alternative.all) (alternatives g.T.Plain.form c.place_where.new.all)
    (c.in_ok-elsewhere.ensures on) (c.loop-alternative.invariant on) (c.in_ok-place_where.ensures on))

pub returns : goal.returns
returns g c = λ on.
    let gives = c.into_iter-alternative-iterator.ensures.into_iter_gives in
    let all = YieldsList-end (YieldsList-from_vec c.args.other.alternatives.items gives.0 (gives.1 ∙ c.args.other.alternatives.ok.0)) c.loop-alternative.yielded c.loop-alternative.alternative-iterator
    c.loop-alternative.yielded_by c.next.result c.next.new.self c.in-None.is c.next.ensures.steps in
    subst (λ items. PlacesUnder on (Inverse (condition_of c.args.when.now)) (entries_of g.T.Plain.form items) (alternatives g.T.Plain.form c.args.all.now) (alternatives g.T.Plain.form c.loop-alternative.all))
    (sym (map-id c.loop-alternative.yielded) ∙ all.0) (c.loop-alternative.invariant on)
