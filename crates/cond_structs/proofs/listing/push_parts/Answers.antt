use Rattle.std.proofs.Common.{rules, ◌≡◌, [], ◌∷◌, ◌++◌, sym, ap₂, ◌∙◌}
use Rattle.cond_formula.specs.Conditions.{condition_of, value}
use Rattle.conditional.specs.Entries.{seen, under}
use Rattle.choice_variants.specs.declared.parts.Part.{Part}
use Rattle.choice_variants.specs.Variants.{part_at}
use Rattle.cond_structs.specs.declared.listing.MemberDeclaration.{MemberDeclaration}
use Rattle.cond_structs.specs.Listing.{declarations_at}
use Rattle.cond_structs.proofs.Listed.{pushed}
use Rattle.cond_structs.proofs.listing.push_parts.Goals as goal

pub returns-in_ok-push-in-Item-Item : goal.returns-in_ok-push-in-Item-Item
returns-in_ok-push-in-Item-Item c = λ on.
    let d : MemberDeclaration = record { when = c.args.when; words = c.in-Item-Item.words; list = c.in-Item-Item.list } in
    let longer : c.push.new.self.items ≡ c.args.all.now.items ++ d ∷ [] = search rules in
    pushed on c.args.all.now.items c.push.new.self.items d longer
    ∙ sym
    (ap₂ (λ (a b : Part). seen on (declarations_at on c.args.all.now.items) ++ under (value on (condition_of c.args.when)) (record { words = part_at on a; list = part_at on b } ∷ [])) c.in-Item-Item.is-0 c.in-Item-Item.is-1)
