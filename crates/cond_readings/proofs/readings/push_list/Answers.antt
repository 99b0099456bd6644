use Rattle.std.proofs.Common.{[], ◌∷◌, ◌++◌, ap, sym, ◌∙◌, append-nil}
use Rattle.std.proofs.lemmas.List.{map-append}
use Rattle.cond_formula.specs.Conditions.{condition_of, value}
use Rattle.c_text.specs.Token.{plain_token}
use Rattle.conditional.specs.Entries.{entry_of, entries_of, seen, under}
use Rattle.cond_tokens.specs.Streams.{tokens_at}
use Rattle.cond_readings.proofs.SeenLemmas.{pushed-one, under-nothing}
use Rattle.cond_readings.proofs.readings.push_list.Goals as goal

pub loop-entry-init : goal.loop-entry-init
loop-entry-init c =
    λ on.
    sym (ap (λ ts. tokens_at on c.args.tokens.now.items ++ ts) (under-nothing (value on (condition_of c.args.here.now))) ∙ append-nil (tokens_at on c.args.tokens.now.items))

pub loop-entry-preserved : goal.loop-entry-preserved
loop-entry-preserved c =
    λ on.
    let old = tokens_at on c.args.tokens.now.items in
    let h = value on (condition_of c.args.here.now) in
    pushed-one on h old (tokens_at on c.loop-entry.tokens.items) (tokens_at on c.push_token.new.tokens.items) (entries_of plain_token c.loop-entry.yielded) (entry_of plain_token c.in-Some.entry) (c.loop-entry.invariant on) (c.in_ok-push_token.ensures on)
    ∙ ap (λ es. old ++ under h (seen on es)) (sym (map-append (entry_of plain_token) c.loop-entry.yielded (c.in-Some.entry ∷ [])))
