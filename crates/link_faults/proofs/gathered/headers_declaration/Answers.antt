use Rattle.std.proofs.Common.{ap, ◌∙◌, List}
use Rattle.std.specs.Prelude.{Some, None}
use Rattle.conditional.specs.declared.entries.Guarded.{Guarded}
use Rattle.core_meaning.specs.Linking.{built_in_sort}
use Rattle.link_faults.specs.declared.gathered.Declared.{Declared}
use Rattle.link_faults.specs.Gathered.{some_declared}
use Rattle.link_faults.proofs.Gathering.{header_is}
use Rattle.link_faults.proofs.gathered.headers_declaration.Goals as goal

pub returns-in-None : goal.returns-in-None
returns-in-None c = λ on tables test.
    ap (λ (all : List (Guarded Declared)). some_declared on tables test all) c.new.ensures.items
    ∙ header_is on test c.in_ok-declared_by_header.field-0 None (built_in_sort c.args.name.now) (c.in_ok-declared_by_header.ensures on) c.in-None.is

pub returns-in_ok-all-in-Some : goal.returns-in_ok-all-in-Some
returns-in_ok-all-in-Some c = λ on tables test.
    c.in_ok-all-in-Some.ensures on tables test
    ∙ header_is on test c.in_ok-declared_by_header.field-0 (Some c.in-Some.f) (built_in_sort c.args.name.now) (c.in_ok-declared_by_header.ensures on) c.in-Some.is
