use Rattle.std.proofs.Common.{◌∙◌, ◌++◌, ◌+◌, sym, ap, map, drop, String, Global, Vec}
use Rattle.std.specs.String.{string_bytes}
use Rattle.cond_formula.specs.Features.{has}
use Rattle.project_file.specs.Projects.{names_from}
use Rattle.command_projects.proofs.NameLists.{one_more, none_more, at_end}
use Rattle.command_projects.proofs.naming.names_on.Goals.{then-has+in_ok-clone+in_ok-push, else-has}
use Rattle.command_projects.proofs.naming.names_on.Goals as goal

pub loop-number-preserved : goal.loop-number-preserved
loop-number-preserved c =
    let features = c.args.features.now in
    let i = c.loop-number.number in
    let on = has c.args.c in
    elim c.if-has.branch [
      | then-has+in_ok-clone+in_ok-push w ↦
          ap (λ (names : Vec (String Global) Global). map string_bytes names.items ++ names_from (i + 1) on (map string_bytes (drop (i + 1) features))) w.names-is
          ∙ (ap (λ names. map string_bytes names ++ names_from (i + 1) on (map string_bytes (drop (i + 1) features))) w.in_ok-push.ensures.items
          ∙ (one_more on c.loop-number.names.items features i c.index-features-number.result w.in_ok-clone.field-0 c.loop-number-test.true c.index-features-number.is
          (sym c.has.ensures ∙ w.if-has.true) w.in_ok-clone.ensures.cases ∙ c.loop-number.invariant))
      | else-has w ↦
          ap (λ (names : Vec (String Global) Global). map string_bytes names.items ++ names_from (i + 1) on (map string_bytes (drop (i + 1) features))) w.names-is
          ∙ (none_more on c.loop-number.names.items features i c.index-features-number.result c.loop-number-test.true c.index-features-number.is
          (sym c.has.ensures ∙ w.if-has.false) ∙ c.loop-number.invariant)
    ]

pub returns : goal.returns
returns c = at_end (has c.args.c) c.loop-number.names.items c.args.features.now c.loop-number.number _ c.loop-number-test.false c.loop-number.invariant
