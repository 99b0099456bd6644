use Rattle.std.proofs.Common.{false, sym, ap, ◌∙◌}
use Rattle.std.specs.Prelude.{Some}
use Rattle.cond_formula.specs.Features.{has}
use Rattle.cond_formula.specs.Conditions.{condition_of, value}
use Rattle.c_text.specs.Token.{plain_token}
use Rattle.core_meaning.specs.Entities.{function}
use Rattle.plain_objects.specs.PlainStates.{plain_storage}
use Rattle.type_tables.specs.Tables.{Tables}
use Rattle.type_tables.specs.Seen.{seen_tables, signature_of}
use Rattle.cond_units.proofs.OneFunction.{signed}
use Rattle.cond_units.proofs.functions.declare_signed.Goals as goal

pub returns-clause-elsewhere : goal.returns-clause-elsewhere
returns-clause-elsewhere g c = λ n admitted off. let same = c.in_ok-differs.ensures.elsewhere n admitted off in (same.0 ∙ c.in_ok-number.ensures.seen (has n), same.1)

pub returns-clause-named : goal.returns-clause-named
returns-clause-named g c = λ n admitted on.
    signed (plain_storage c.args.storage) (plain_token c.args.name.now) (signature_of (has n) (Some c.args.signature)) c.in_ok-number.number (value (has n) (condition_of c.in_ok-differs.differs))
    (seen_tables (has n) c.args.tables.now) (seen_tables (has n) c.declare_function.new.self) (seen_tables (has n) c.declare_as.new.tables) (c.in_ok-number.ensures.seen (has n)) (c.in_ok-number.ensures.number (has n))
    (λ scope follows s is there numbered. c.in_ok-differs.ensures.declared n admitted on scope follows (plain_token c.args.name.now) (function s) (sym c.deref.ensures.value) is there numbered)

pub returns-clause-depth : goal.returns-clause-depth
returns-clause-depth g c = c.in_ok-differs.ensures.depth ∙ ap (λ (t : Tables). t.depth) (c.in_ok-number.ensures.seen (λ n. false))
