use Rattle.std.proofs.Common.{rules, ◌≡◌, ℕ, ◌<◌, Bool, true, length, refl, sym, ap, subst, ◌∙◌}
use Rattle.std.proofs.Math.Seq.{lt-length-set}
use Rattle.std.proofs.lemmas.Option.{slice_get_within}
use Rattle.std.specs.Prelude.{Some}
use Rattle.cond_formula.specs.Conditions.{condition_of, value}
use Rattle.name_places.specs.Places.{place_of}
use Rattle.type_tables.specs.Tables.{Tables}
use Rattle.type_tables.specs.Questions.{where_declared}
use Rattle.type_tables.specs.Seen.{seen_tables}
use Rattle.type_tables.specs.Steps.{with_declared, where_true}
use Rattle.type_tables.specs.Changes.{has_tag_in}
use Rattle.type_tables.proofs.StructSteps.{seen_declared, tag_has, tag_visible}
use Rattle.type_tables.proofs.tables.Tables.declare_struct.Goals as goal

pub returns-clause-tag : goal.returns-clause-tag
returns-clause-tag c = λ on.
    let has : has_tag_in c.numbered.new.self.structs.items c.in_ok-number.number c.args.tag.now ≡ true = search rules in
    let placed : place_of c.numbered.new.self.tags c.args.tag.now ≡ Some c.in_ok-number.number = search rules in
    let same : (on : ℕ → Bool) → seen_tables on c.numbered.new.self ≡ seen_tables on c.args.self.now = search rules in
    let there = tag_has c.numbered.new.self.structs.items c.in_ok-number.number c.args.tag.now has in
    subst (λ (t : Tables). t.tags c.args.tag.now ≡ where_declared t (Some c.in_ok-number.number)) (same on) (tag_visible on c.numbered.new.self c.args.tag.now c.in_ok-number.number there.0 placed there.1 there.2)

pub returns-clause-there : goal.returns-clause-there
returns-clause-there c =
    let has : has_tag_in c.numbered.new.self.structs.items c.in_ok-number.number c.args.tag.now ≡ true = search rules in
    let there = tag_has c.numbered.new.self.structs.items c.in_ok-number.number c.args.tag.now has in
    let becomes = c.in_ok-declare_at.ensures (λ _. true) in
    subst (λ structs. c.in_ok-number.number < length structs) (sym becomes.set_is)
    (lt-length-set c.numbered.new.self.structs.items c.in_ok-number.number becomes.now (slice_get_within c.numbered.new.self.structs.items c.in_ok-number.number there.0 there.1))

pub returns-clause-seen : goal.returns-clause-seen
returns-clause-seen c = λ on.
    let becomes = c.in_ok-declare_at.ensures on in
    let has : has_tag_in c.numbered.new.self.structs.items c.in_ok-number.number c.args.tag.now ≡ true = search rules in
    let placed : place_of c.numbered.new.self.tags c.args.tag.now ≡ Some c.in_ok-number.number = search rules in
    let same : (on : ℕ → Bool) → seen_tables on c.numbered.new.self ≡ seen_tables on c.args.self.now = search rules in
    let there = tag_has c.numbered.new.self.structs.items c.in_ok-number.number c.args.tag.now has in
    seen_declared on c.args.tag.now c.in_ok-number.number c.numbered.new.self (record c.numbered.new.self { structs = c.declare_at.new.structs }) there.0 becomes.now (value on (condition_of c.args.when)) there.1 there.2 placed becomes.set_is
    (becomes.changed there.0 there.1) refl refl refl refl refl refl
    ∙ ap (where_true (value on (condition_of c.args.when)) (with_declared c.args.tag.now c.in_ok-number.number)) (same on)
