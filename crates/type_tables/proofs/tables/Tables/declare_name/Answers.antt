use Rattle.std.proofs.Common.{rules, ◌≡◌, ℕ, Bool, true, refl, ap, ◌∙◌}
use Rattle.std.specs.Prelude.{Some}
use Rattle.cond_formula.specs.Conditions.{condition_of, value}
use Rattle.name_places.specs.Places.{place_of}
use Rattle.type_tables.specs.Forms.{file_name_form}
use Rattle.type_tables.specs.Seen.{seen_tables}
use Rattle.type_tables.specs.Steps.{with_name, where_true}
use Rattle.type_tables.specs.Changes.{has_name_in}
use Rattle.type_tables.proofs.NameSteps.{seen_meant, name_has}
use Rattle.type_tables.proofs.tables.Tables.declare_name.Goals as goal

pub returns-clause-seen : goal.returns-clause-seen
returns-clause-seen c = λ on.
    let becomes = c.in_ok-mean_at.ensures on in
    let has : has_name_in c.placed.new.self.declared.items c.in_ok-place.place c.args.name.now ≡ true = search rules in
    let placed : place_of c.placed.new.self.names c.args.name.now ≡ Some c.in_ok-place.place = search rules in
    let same : (on : ℕ → Bool) → seen_tables on c.placed.new.self ≡ seen_tables on c.args.self.now = search rules in
    let there = name_has c.placed.new.self.declared.items c.in_ok-place.place c.args.name.now has in
    seen_meant on c.args.name.now c.in_ok-place.place (file_name_form c.args.what) c.placed.new.self (record c.placed.new.self { declared = c.mean_at.new.declared }) there.0 becomes.now
    (value on (condition_of c.args.when)) there.1 there.2 placed becomes.set_is (becomes.changed there.0 there.1) refl refl refl refl refl refl
    ∙ ap (where_true (value on (condition_of c.args.when)) (with_name c.args.name.now (file_name_form c.args.what))) (same on)
