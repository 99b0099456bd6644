use Rattle.std.proofs.Common.{map, sym}
use Rattle.std.proofs.lemmas.List.{length-map}
use Rattle.macro_table.proofs.MeaningLemmas.{lengths_differ}
use Rattle.macro_table.proofs.meanings.same_names.Goals as goal

pub returns-then-names-others : goal.returns-then-names-others
returns-then-names-others c =
    sym (lengths_differ (map (λ n. n.items) c.args.names.now) (map (λ n. n.items) c.args.others.now)
    (λ same. c.if-names-others.true (simp length-map at same)))
