use Rattle.std.proofs.Common.{◌≡◌, ℕ, sym, ap, ◌∙◌, subst}
use Rattle.std.proofs.lemmas.Result.{on_ok_weaker}
use Rattle.cond_formula.specs.Conditions.{condition_of, value}
use Rattle.c_types.specs.Types.{PlainType, structure, plain_type}
use Rattle.c_types.specs.TypeLaws.{plain_type-Struct}
use Rattle.type_tables.specs.Seen.{seen_tables}
use Rattle.type_tables.specs.Steps.{with_completed, where_true}
use Rattle.cond_structs.specs.Gathered.{gathered}
use Rattle.cond_structs.proofs.defining.complete_one.Goals as goal

same_number : (m n : ℕ) → ◌≡◌ {A = PlainType} (structure m) (structure n) → m ≡ n
same_number m n e = cc

pub returns-clause-completes : goal.returns-clause-completes
returns-clause-completes c =
    on_ok_weaker c.complete_struct.result (λ holds on n e.
    subst (λ m. seen_tables on c.complete_struct.new.self ≡ where_true (value on (condition_of c.args.when)) (with_completed m (gathered on c.args.all.now).members (gathered on c.args.all.now).scalars) (seen_tables on c.args.tables.now))
    (same_number c.in-Struct.number n (sym (ap plain_type c.in-Struct.is ∙ plain_type-Struct c.in-Struct.number) ∙ e)) (holds on)) c.complete_struct.ensures
