use Rattle.std.proofs.Common.{refl, ◌∙◌, ap, ◌∷◌, [], ◌++◌}
use Rattle.declared_tokens.specs.declared.tokens.DeclaredBy.{DeclaredBy}
use Rattle.declared_tokens.proofs.Entries.{added_at, entries_at}
use Rattle.declared_tokens.proofs.tokens.DeclaredTokens.add.Goals as goal

pub returns-clause-added : goal.returns-clause-added
returns-clause-added c on token =
    let one : DeclaredBy = record { number = c.args.pair.now.declared_by; when = c.in_ok-when.when } in
    added_at on c.args.self.now.by_token.items c.args.pair.now c.push.new.self one c.requires refl c.in_ok-when.ensures
    (c.in_ok-push.ensures.items
    ∙ ap (λ l. l ++ one ∷ []) (entries_at c.args.self.now.by_token.items c.args.pair.now.identifier c.index_mut.result.now c.requires c.index_mut.ensures.value)) token
