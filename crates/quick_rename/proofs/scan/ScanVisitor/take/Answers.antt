use Rattle.std.proofs.Common.{refl}
use Rattle.quick_lexer.specs.View.{symbol_view}
use Rattle.quick_rename.specs.Visits.{placed}
use Rattle.quick_rename.proofs.ScanLemmas.{scanned_places_more}
use Rattle.quick_rename.proofs.scan.ScanVisitor.take.Goals as goal

pub returns-clause-taken : goal.returns-clause-taken
returns-clause-taken c = λ _ ks h.
    scanned_places_more c.args.self.now _ ks (placed (symbol_view c.args.symbol.now) c.args.end) c.is_use-is_old.result c.is_mention-is_new.result c.is_tested-is_tested.result c.name_start-start.result h refl refl refl
    c.is_use-is_old.ensures c.is_mention-is_new.ensures c.is_tested-is_tested.ensures c.name_start-start.ensures
    c.declared-self.ensures c.counted-self.ensures c.first_of-self.ensures c.first_of-self-2.ensures c.is_int-self.ensures
