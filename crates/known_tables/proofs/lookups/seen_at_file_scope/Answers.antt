use Rattle.type_tables.specs.Seen.{seen_tables}
use Rattle.known_tables.specs.Lookups.{found_at_file_scope}
use Rattle.known_tables.proofs.lookups.seen_at_file_scope.Goals as goal

pub returns : goal.returns
returns g c = λ on object function answers.
    let whole = found_at_file_scope object function ((seen_tables on c.args.tables.now).names c.args.name.now) in
    c.end.ensures on whole (c.in_ok-find_at_file_scope.ensures on object function whole answers (c.new-search.ensures on whole))
