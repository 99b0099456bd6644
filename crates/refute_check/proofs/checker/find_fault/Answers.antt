use Rattle.std.proofs.Common.{ℕ, Bor, List, Option, sym, ap, ◌∙◌}
use Rattle.std.specs.Option.{option_copied}
use Rattle.refute_check.specs.Entries.{clauses_of}
use Rattle.refute_check.specs.Storage.{entries_in}
use Rattle.refute_check.specs.Steps.{hints_fault}
use Rattle.refute_check.specs.Progress.{fault_in}
use Rattle.refute_check.proofs.FormLaws.{clause_formed}
use Rattle.refute_check.proofs.CheckerLaws.{fault-unformed, fault-given, fault-derived}
use Rattle.refute_check.proofs.checker.find_fault.Goals as goal

pub returns-then-not-take_clause_false-clause-fault :
    goal.returns-then-not-take_clause_false-clause-fault
returns-then-not-take_clause_false-clause-fault c =
    let formed = clause_formed c.args.vars c.args.number c.args.marks.now c.take_clause_false.new.marks c.args.clause.now c.take_clause_false.result c.requires.sized c.requires.positive c.requires.fresh c.take_clause_false.ensures.values in
    fault-unformed c.args.vars (clauses_of (entries_in c.args.literals.now c.args.clauses.now)) c.args.clause.now (option_copied c.args.hints) (formed.0 ∙ c.if-not-take_clause_false.true)

pub returns-in-None-clause-fault : goal.returns-in-None-clause-fault
returns-in-None-clause-fault c =
    let formed = clause_formed c.args.vars c.args.number c.args.marks.now c.take_clause_false.new.marks c.args.clause.now c.take_clause_false.result c.requires.sized c.requires.positive c.requires.fresh c.take_clause_false.ensures.values in
    let clauses = clauses_of (entries_in c.args.literals.now c.args.clauses.now) in
    fault-given c.args.vars clauses c.args.clause.now (formed.0 ∙ c.if-not-take_clause_false.false) ∙ ap (λ (hints : Option (Bor (List ℕ))). fault_in c.args.vars clauses c.args.clause.now (option_copied hints)) (sym c.in-None.is)

pub returns-in-Some-clause-fault : goal.returns-in-Some-clause-fault
returns-in-Some-clause-fault c =
    let formed = clause_formed c.args.vars c.args.number c.args.marks.now c.take_clause_false.new.marks c.args.clause.now c.take_clause_false.result c.requires.sized c.requires.positive c.requires.fresh c.take_clause_false.ensures.values in
    let clauses = clauses_of (entries_in c.args.literals.now c.args.clauses.now) in
    let fault = c.err.ensures.value ∙ c.check_hints.ensures.fault in
    fault
    ∙ ap (λ values. hints_fault clauses values c.in-Some.hints.now) (formed.1 c.if-not-take_clause_false.false)
    ∙ fault-derived c.args.vars clauses c.args.clause.now c.in-Some.hints.now (formed.0 ∙ c.if-not-take_clause_false.false)
    ∙ ap (λ (hints : Option (Bor (List ℕ))). fault_in c.args.vars clauses c.args.clause.now (option_copied hints)) (sym c.in-Some.is)
